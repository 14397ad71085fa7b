use Rattle.meaning.specs.Entries.{in_use_primary}
use Rattle.meaning.specs.Lists.{every}
use Rattle.std.proofs.Common.{not}
use Rattle.meaning.specs.Fault.{chain_fault}
use Rattle.fault_kinds.specs.Reach.{reach}
use Rattle.std.proofs.Common.{arith, ◌≡◌, true}
use Rattle.std.proofs.lemmas.Grind.{common_steps}
use Rattle.meaning.specs.Lists.{all, any}
use Rattle.meaning.specs.Fault.{size_fault}
use Rattle.fault_kinds.proofs.Bridge.{whole_by, whole_same}
use Rattle.fault_kinds.proofs.size_fault.Goals as goal

pub size_holds-requires : goal.size_holds-requires
size_holds-requires c = let d = c.args.disk.now in let p = c.requires in let u : in_use_primary d.g d.image.now c.args.p ≡ true = grind (arith, common_steps) in
    let w : every (λ s. not (chain_fault d.g d.image.now s)) (reach d.g d.image.now c.slots-n.result c.args.p) ≡ true = grind (arith, common_steps) in
    (p.0, c.slots-n.ensures.small, whole_same _ _ _ p.0 u c.slots-n.ensures.is w)

pub returns-then-whole_from : goal.returns-then-whole_from
unfolding size_fault all any
returns-then-whole_from c = let a = c.args in grind (
  arith,
  common_steps,
  whole_by a.disk.now.g a.disk.now.image.now a.p {n = c.slots-n.result} c.requires.0,
  c.slots-n.ensures.is,
)

pub returns-else-whole_from : goal.returns-else-whole_from
unfolding size_fault all any
returns-else-whole_from c = let a = c.args in grind (
  arith,
  common_steps,
  whole_by a.disk.now.g a.disk.now.image.now a.p {n = c.slots-n.result} c.requires.0,
  c.slots-n.ensures.is,
)
