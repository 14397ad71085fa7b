use Rattle.lists.specs.Tests.{all-no, all_yes, all_one}
use Rattle.meaning.specs.Handles.{good_length}
use borrow.Author.Tests.{le-leb, lt-leb}
use mathlib.Core.Path.{sym, ◌∙◌}
use Rattle.handle.proofs.good_length.Goals as goal

pub returns-then-len-ge1 : goal.returns-then-len-ge1
unfolding good_length
returns-then-len-ge1 c = sym (all_yes (le-leb _ _ c.if-len-ge1.true) _ ∙ all_one _)

pub returns-else-len-ge1 : goal.returns-else-len-ge1
unfolding good_length
returns-else-len-ge1 c = let e = lt-leb _ _ c.if-len-ge1.false in e ∙ sym (all-no e _)
