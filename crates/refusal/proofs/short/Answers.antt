use Rattle.refusal.proofs.Lent.{stops, is-short}
use mathlib.Core.Path.{◌∙◌}
use Rattle.refusal.proofs.short.Goals as goal

pub returns-then-checked-ne0 : goal.returns-then-checked-ne0
returns-then-checked-ne0 c = stops _ c.if-checked-ne0.true

pub returns : goal.returns
returns c = c.refusal.ensures ∙ is-short _ c.if-checked-ne0.false
