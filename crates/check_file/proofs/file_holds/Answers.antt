use Rattle.lists.specs.Tests.{is-false, is-true}
use Rattle.check_file.proofs.Directory.{file-refused, file-system, file-other}
use Rattle.check_file.proofs.OneFile.{file-bit, file-name, file-count, file-walk, two}
use Rattle.check_file.proofs.file_holds.Goals.{then-is_set-via-then-is_set, then-is_set-via-else-is_set+then-not-name_holds}
use Rattle.check_file.proofs.file_holds.Goals.{then-is_set-via-else-is_set+else-not-name_holds+then-not-count_holds}
use Rattle.check_file.proofs.file_holds.Goals.{then-is_set-via-else-is_set+else-not-name_holds+else-not-count_holds+then-not-file_walk}
use Rattle.check_file.proofs.file_holds.Goals as goal

pub returns-then-is_set : goal.returns-then-is_set
returns-then-is_set c = let p = c.requires in let n = two _ _ _ c.field_at.ensures.is c.field_at-2.ensures.is in elim c.then-is_set.branch [
  | then-is_set-via-then-is_set w ↦ file-bit _ _ _ p.1 (is-true c.is_set.ensures w.if-is_set.true)
  | then-is_set-via-else-is_set+then-not-name_holds w ↦ file-name _ _ _ p.2 (is-false w.name_holds.ensures w.if-not-name_holds.true)
  | then-is_set-via-else-is_set+else-not-name_holds+then-not-count_holds w ↦ file-count _ _ _ n (is-false w.count_holds.ensures w.if-not-count_holds.true)
  | then-is_set-via-else-is_set+else-not-name_holds+else-not-count_holds+then-not-file_walk w ↦
      file-refused _ _ _ (file-walk _ _ _ c.args.disk.now.room p.1 (is-false c.is_set.ensures w.if-is_set.false) p.2
      (is-true w.name_holds.ensures w.if-not-name_holds.false) n (is-true w.count_holds.ensures w.if-not-count_holds.false) w.slots.ensures.is
      w.file_walk.ensures) w.if-not-file_walk.true
]

pub returns-then-is_set-2 : goal.returns-then-is_set-2
returns-then-is_set-2 c = let p = c.requires in
    file-system _ _ _ p.1 c.is_set-2.ensures c.if-is_set-2.true (file-walk _ _ _ c.args.disk.now.room p.1 (is-false c.is_set.ensures c.if-is_set.false) p.2
    (is-true c.name_holds.ensures c.if-not-name_holds.false) (two _ _ _ c.field_at.ensures.is c.field_at-2.ensures.is)
    (is-true c.count_holds.ensures c.if-not-count_holds.false) c.slots.ensures.is c.file_walk.ensures) c.if-not-file_walk.false

pub returns-else-is_set-2 : goal.returns-else-is_set-2
returns-else-is_set-2 c = let p = c.requires in let room = c.args.disk.now.room in
    file-other _ _ _ room p.3 p.1 (is-false c.is_set-2.ensures c.if-is_set-2.false) (file-walk _ _ _ room p.1
    (is-false c.is_set.ensures c.if-is_set.false) p.2 (is-true c.name_holds.ensures c.if-not-name_holds.false)
    (two _ _ _ c.field_at.ensures.is c.field_at-2.ensures.is) (is-true c.count_holds.ensures c.if-not-count_holds.false) c.slots.ensures.is
    c.file_walk.ensures) c.if-not-file_walk.false c.among-before.ensures c.among.ensures
