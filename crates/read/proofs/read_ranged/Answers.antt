use Rattle.lists.specs.Tests.{all_yes, all-no, all_one, not-both}
use mathlib.Core.Path.{sym, ◌∙◌}
use Rattle.read.proofs.read_ranged.Goals as goal
use Rattle.read.proofs.read_ranged.Goals.{then-in_range, else-in_range}

pub returns-then-n-highest : goal.returns-then-n-highest
returns-then-n-highest c = let t = c.if-n-highest in elim c.if-in_range.branch [
  | then-in_range w ↦
      rw (← w.highest.ensures.is) (sym (all_yes (sym c.in_range.ensures ∙ w.if-in_range.true) _ ∙ all_yes (sym w.value-is ∙ t.true) _ ∙ all_one _))
  | else-in_range w ↦ not-both t.true (w.value-is ∙ w.if-in_range.false)
]

pub returns-else-n-highest : goal.returns-else-n-highest
returns-else-n-highest c = let t = c.if-n-highest in elim c.if-in_range.branch [
  | then-in_range w ↦
      rw (← w.highest.ensures.is) (t.false ∙ sym (all_yes (sym c.in_range.ensures ∙ w.if-in_range.true) _ ∙ all-no (sym w.value-is ∙ t.false) _))
  | else-in_range w ↦ t.false ∙ sym (all-no (sym c.in_range.ensures ∙ w.if-in_range.false) _)
]
