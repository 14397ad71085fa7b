use mathlib.Core.Path.{ap, sym, ◌∙◌}
use lib.Dec.{ltb}
use Rattle.lists.specs.Tests.{all_yes, all-no, all_one}
use Rattle.handle.proofs.sector_ranged.Goals as goal

pub returns-then-in_range : goal.returns-then-in_range
returns-then-in_range c = ap (ltb c.args.k) c.sector_numbers.ensures.is ∙ sym (all_yes (sym c.in_range.ensures ∙ c.if-in_range.true) _ ∙ all_one _)

pub returns-else-in_range : goal.returns-else-in_range
returns-else-in_range c = c.if-in_range.false ∙ sym (all-no (sym c.in_range.ensures ∙ c.if-in_range.false) _)
