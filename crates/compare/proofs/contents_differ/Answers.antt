use borrow.Author.Tests.{eq-eqb, ne_eqb}
use mathlib.Core.Bool.{not}
use mathlib.Core.Path.{sym, ap, ◌∙◌}
use Rattle.lists.specs.Tests.{all-no, all_yes, all_one}
use Rattle.compare.specs.Kind.{contents_differ}
use Rattle.compare.proofs.contents_differ.Goals as goal

pub returns-then-n-m : goal.returns-then-n-m
unfolding contents_differ
returns-then-n-m c = let e = ne_eqb _ _ c.if-n-m.true in ap not e ∙ sym (ap not (all-no e _))

pub returns-else-n-m : goal.returns-else-n-m
unfolding contents_differ
returns-else-n-m c = sym (ap not (all_yes (eq-eqb _ _ c.if-n-m.false) _ ∙ all_one _))
