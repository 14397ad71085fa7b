use Rattle.refusal.proofs.Lent.{of-first, of-second, of-neither}
use mathlib.Core.Path.{◌∙◌}
use Rattle.refusal.proofs.short_of_two.Goals as goal

pub returns-then-checked-ne0 : goal.returns-then-checked-ne0
returns-then-checked-ne0 c = c.naming.ensures ∙ of-first _ _ c.if-checked-ne0.true

pub returns-then-checked2-ne0 : goal.returns-then-checked2-ne0
returns-then-checked2-ne0 c = c.naming-then-checked2-ne0.ensures ∙ of-second _ _ c.if-checked-ne0.false c.if-checked2-ne0.true

pub returns : goal.returns
returns c = c.refusal.ensures ∙ of-neither _ _ c.if-checked-ne0.false c.if-checked2-ne0.false
