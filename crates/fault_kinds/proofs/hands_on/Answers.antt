use Rattle.std.proofs.Common.{arith, ◌≡◌}
use Rattle.std.proofs.lemmas.Grind.{common_steps}
use Rattle.meaning.specs.Lists.{all, any}
use Rattle.meaning.specs.Entries.{runs}
use Rattle.meaning.specs.Fault.{hands_on}
use Rattle.fault_kinds.proofs.Passes.{four-hold}
use Rattle.fault_kinds.proofs.hands_on.Goals as goal
use Rattle.fault_kinds.proofs.hands_on.Goals.{then-field-eq-HANDS_ON, else-field-eq-HANDS_ON}

pub returns-then-runs-eq4 : goal.returns-then-runs-eq4
unfolding hands_on all any
returns-then-runs-eq4 c = let d = c.args.disk.now in elim c.if-field-eq-HANDS_ON.branch [
  | then-field-eq-HANDS_ON w ↦
      let e : runs d.g d.image.now c.args.s ≡ 4 = grind (arith, common_steps, w.runs.ensures.is, w.value-is) in
      grind (arith, common_steps, four-hold d.g d.image.now c.args.s e)
  | else-field-eq-HANDS_ON w ↦ grind (arith, common_steps, w.value-is)
]

pub returns-else-runs-eq4 : goal.returns-else-runs-eq4
unfolding hands_on all any
returns-else-runs-eq4 c = grind (arith, common_steps)
