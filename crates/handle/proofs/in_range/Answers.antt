use mathlib.Core.Path.{sym, ◌∙◌}
use borrow.Author.Tests.{lt-leb, le-leb}
use Rattle.lists.specs.Tests.{all_yes, all-no, all_one, not-both}
use Rattle.meaning.specs.Handles.{in_range}
use Rattle.handle.proofs.in_range.Goals as goal
use Rattle.handle.proofs.in_range.Goals.{then-h-highest, else-h-highest}

pub returns-then-good_length : goal.returns-then-good_length
unfolding in_range
returns-then-good_length c = elim c.if-h-highest.branch [
  | then-h-highest w ↦
      rw (← c.highest.ensures.is) (sym (all_yes (le-leb _ _ w.if-h-highest.true) _ ∙ all_yes
      (sym w.good_length.ensures ∙ sym w.value-is ∙ c.if-good_length.true) _ ∙ all_one _))
  | else-h-highest w ↦ not-both c.if-good_length.true (w.value-is ∙ lt-leb _ _ w.if-h-highest.false)
]

pub returns-else-good_length : goal.returns-else-good_length
unfolding in_range
returns-else-good_length c = elim c.if-h-highest.branch [
  | then-h-highest w ↦
      rw (← c.highest.ensures.is) (c.if-good_length.false ∙ sym (all_yes (le-leb _ _ w.if-h-highest.true) _ ∙ all-no
      (sym w.good_length.ensures ∙ sym w.value-is ∙ c.if-good_length.false) _))
  | else-h-highest w ↦ rw (← c.highest.ensures.is) (c.if-good_length.false ∙ sym (all-no (lt-leb _ _ w.if-h-highest.false) _))
]
