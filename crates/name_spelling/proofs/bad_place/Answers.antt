use mathlib.Core.List.{List}
use mathlib.Core.Path.{ap, ◌∙◌}
use Prim.Native.Nat.{ℕ, ◌+◌}
use Rattle.meaning.specs.Names.{good}
use Rattle.name_spelling.proofs.Name.{to-end}
use Rattle.name_spelling.proofs.Comes.{place_short, place-first, place-name, place-type}
use Rattle.lists.specs.Tests.{is-false, is-true}
use borrow.Author.Tests.{ne_eqb}
use Rattle.name_spelling.proofs.bad_place.Goals.{then-name-ne11-via-then-name-ne11, then-name-ne11-via-else-name-ne11+then-not-letter}
use Rattle.name_spelling.proofs.bad_place.Goals as goal

pub returns-then-name-ne11 : goal.returns-then-name-ne11
returns-then-name-ne11 c = elim c.then-name-ne11.branch [
  | then-name-ne11-via-then-name-ne11 w ↦ place_short _ (ne_eqb _ _ w.if-name-ne11.true)
  | then-name-ne11-via-else-name-ne11+then-not-letter w ↦ place-first _ (is-false w.letter.ensures w.if-not-letter.true)
]

pub returns-then-k-lt8 : goal.returns-then-k-lt8
returns-then-k-lt8 c = place-name _ c.if-name-ne11.false (is-true c.letter.ensures c.if-not-letter.false) c.good-k.ensures.0 c.if-k-lt8.true

pub returns-else-k-lt8 : goal.returns-else-k-lt8
returns-else-k-lt8 c = let n = c.args.name.now in
    place-type n c.if-name-ne11.false (is-true c.letter.ensures c.if-not-letter.false) c.good-k.ensures.0 c.if-k-lt8.false
    (ap (λ (k : ℕ). 8 + k) c.good.ensures.0 ∙ ap (λ (xs : List ℕ). 8 + good xs) (to-end n 8))
