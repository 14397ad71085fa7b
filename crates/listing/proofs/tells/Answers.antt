use mathlib.Core.Bool.{not}
use mathlib.Core.Path.{sym, ap, ◌∙◌}
use Rattle.lists.specs.Tests.{all-no, all_yes, all_one}
use Rattle.meaning.specs.Bits.{bit}
use Rattle.meaning.specs.Listing.{shown}
use Rattle.layout.proofs.OneStep.{flags-at}
use Rattle.listing.proofs.tells.Goals as goal

pub returns-then-primary_at : goal.returns-then-primary_at
unfolding shown
returns-then-primary_at c =
    let a = c.args in
    ap not (c.is_set.ensures ∙ ap (bit 6) (flags-at a.disk.now.g a.disk.now.image.now a.s c.requires.1 c.from.ensures))
    ∙ sym (all_yes (sym c.primary_at.ensures ∙ c.if-primary_at.true) _ ∙ all_one _)

pub returns-else-primary_at : goal.returns-else-primary_at
returns-else-primary_at c = c.if-primary_at.false ∙ sym (all-no (sym c.primary_at.ensures ∙ c.if-primary_at.false) _)
