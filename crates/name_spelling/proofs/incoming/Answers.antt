use Rattle.name_spelling.proofs.Comes.{hands-well, hands-short, hands-place, hands-folded}
use mathlib.Core.Path.{refl, sym, ap, ◌∙◌}
use Rattle.meaning.specs.Names.{fold}
use Rattle.name_spelling.proofs.incoming.Goals as goal

pub returns-then-name-ne11 : goal.returns-then-name-ne11
returns-then-name-ne11 c = hands-short _ c.if-name-ne11.true refl

pub returns-then-well_formed : goal.returns-then-well_formed
returns-then-well_formed c = let e = c.copy_from_slice.ensures.after in
    hands-well _ (sym (c.well_formed-2.ensures) ∙ c.if-well_formed.true) e

pub returns-then-place-eq-NO_PLACE : goal.returns-then-place-eq-NO_PLACE
returns-then-place-eq-NO_PLACE c = hands-folded _ (c.fold-folded.ensures ∙ ap fold c.copy_from_slice.ensures.after) c.bad_place-place.ensures
    c.if-place-eq-NO_PLACE.true

pub returns-else-place-eq-NO_PLACE : goal.returns-else-place-eq-NO_PLACE
returns-else-place-eq-NO_PLACE c = hands-place _ (c.fold-folded.ensures ∙ ap fold c.copy_from_slice.ensures.after) c.bad_place-place.ensures
    c.if-place-eq-NO_PLACE.false refl
