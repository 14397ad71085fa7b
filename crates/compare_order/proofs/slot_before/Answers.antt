use mathlib.Core.Path.{◌∙◌}
use Rattle.differences.specs.Compare.{before}
use Rattle.compare_order.proofs.Names.{lt-before}
use Rattle.compare_order.proofs.slot_before.Goals as goal

pub returns : goal.returns
returns c = let x = c.name.ensures in let y = c.name-2.ensures in lt-before _ _ _ c.lt.ensures ∙ (λ i. before (x i) (y i))
