use Rattle.laws.specs.Carried.{carried-own, carried_other}
use mathlib.Core.Path.{sym, ◌∙◌}
use Rattle.refusal.proofs.carried.Goals as goal

pub returns-then-number-checked : goal.returns-then-number-checked
returns-then-number-checked c = sym (carried-own _ c.if-number-checked.true)

pub returns : goal.returns
returns c = c.unplaced.ensures ∙ sym (carried_other _ c.if-number-checked.false)
