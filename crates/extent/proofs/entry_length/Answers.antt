use Rattle.extent.proofs.Measuring.{counting-start, counting-step, counting-stop, counting-end}
use native.Mathlib.Omega.{arith}
use mathlib.Core.Path.{sym, ◌∙◌}
use Rattle.extent.proofs.entry_length.Goals as goal

pub loop-k-init : goal.loop-k-init
loop-k-init c = counting-start _ _ _

pub returns-then-field-eq-ENDS : goal.returns-then-field-eq-ENDS
returns-then-field-eq-ENDS c = counting-stop _ _ c.loop-k.invariant c.loop-k-test.true (sym c.field.ensures.is ∙ c.if-field-eq-ENDS.true)

pub loop-k-preserved : goal.loop-k-preserved
loop-k-preserved c =
    counting-step _ _ c.loop-k.invariant c.loop-k-test.true (λ q. c.if-field-eq-ENDS.false (c.field.ensures.is ∙ q)) c.run_length-n.ensures

pub returns : goal.returns
returns c = counting-end _ _ c.loop-k.invariant (omega arith)
