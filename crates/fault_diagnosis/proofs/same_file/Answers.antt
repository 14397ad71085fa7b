use Rattle.std.proofs.Common.{arith, ◌≡◌, true, ap}
use Rattle.std.proofs.lemmas.Grind.{common_steps}
use Rattle.meaning.specs.Lists.{all, any}
use Rattle.layout.proofs.HasRoom.{slot-of}
use Rattle.lists.specs.Tests.{is-true}
use Rattle.meaning.specs.Layout.{is_slot}
use Rattle.layout.proofs.OneStep.{name-at}
use Rattle.layout.proofs.HasRoom.{entry-fits}
use Rattle.fault_diagnosis.specs.Told.{same_file}
use Rattle.meaning.specs.Lists.{same}
use Rattle.std.proofs.Common.{take, drop, ℕ}
use Rattle.fault_diagnosis.proofs.same_file.Goals as goal

pub primary-requires : goal.primary-requires
primary-requires c = slot-of _ _ _ (is-true c.is_slot.ensures c.if-is_slot.true)

pub name_at-requires : goal.name_at-requires
name_at-requires c = let a = c.args in let t : is_slot a.disk.now.g a.disk.now.image.now a.q ≡ true = grind (arith, common_steps) in
    let w = entry-fits a.disk.now.g a.disk.now.image.now a.q c.args.disk.now.room (slot-of _ _ _ t) in omega arith

pub same_name-requires : goal.same_name-requires
same_name-requires c = let a = c.args in let t : is_slot a.disk.now.g a.disk.now.image.now a.q ≡ true = grind (arith, common_steps) in
    let w = entry-fits a.disk.now.g a.disk.now.image.now a.q c.args.disk.now.room (slot-of _ _ _ t) in let e = c.name_at.ensures in (omega arith, c.requires)

pub returns-then-primary : goal.returns-then-primary
unfolding same_file all any
returns-then-primary c = let a = c.args in let t : is_slot a.disk.now.g a.disk.now.image.now a.q ≡ true = grind (arith, common_steps) in
    let w = entry-fits a.disk.now.g a.disk.now.image.now a.q c.args.disk.now.room (slot-of _ _ _ t) in grind (
      arith,
      common_steps,
      name-at a.disk.now.g a.disk.now.image.now a.name.now a.q (omega arith),
      ap
          (λ (x : ℕ). same (take 11 (drop x a.disk.now.image.now)) a.name.now) c.name_at.ensures,
    )

pub returns-else-primary : goal.returns-else-primary
unfolding same_file all any
returns-else-primary c = grind (arith, common_steps)
