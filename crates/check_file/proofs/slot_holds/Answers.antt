use Rattle.lists.specs.Tests.{is-false, is-true}
use Rattle.check_file.proofs.OneFile.{seen-free, seen-unused, seen-extension, seen-file}
use Rattle.check_file.proofs.slot_holds.Goals as goal

pub returns-then-h-eq0 : goal.returns-then-h-eq0
returns-then-h-eq0 c = seen-free _ _ _ c.hit-h.ensures.is c.field_at-flags.ensures.is _ c.if-h-eq0.true c.is_set.ensures

pub returns-then-is_set-2 : goal.returns-then-is_set-2
returns-then-is_set-2 c = seen-extension _ _ _ c.hit-h.ensures.is c.field_at-flags.ensures.is c.if-h-eq0.false
    (is-true c.is_set-2.ensures c.if-is_set.true) (is-true c.is_set-then-is_set.ensures c.if-is_set-2.true) c.if-is_set-2.true

pub returns-else-is_set-2 : goal.returns-else-is_set-2
returns-else-is_set-2 c = seen-file _ _ _ c.hit-h.ensures.is c.field_at-flags.ensures.is c.if-h-eq0.false
    (is-true c.is_set-2.ensures c.if-is_set.true) (is-false c.is_set-then-is_set.ensures c.if-is_set-2.false) c.file_holds.ensures

pub returns-else-is_set : goal.returns-else-is_set
returns-else-is_set c = seen-unused _ _ _ c.hit-h.ensures.is c.field_at-flags.ensures.is c.if-h-eq0.false
    (is-false c.is_set-2.ensures c.if-is_set.false) c.if-is_set.false
