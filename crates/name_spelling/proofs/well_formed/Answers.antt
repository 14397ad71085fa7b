use lib.ListN.{get_or, take}
use mathlib.Core.Path.{ap, sym, ◌∙◌}
use mathlib.Core.Bool.{Bool, not, true≢false, ◌&&◌}
use borrow.Author.Tests.{eq-eqb, ne_eqb}
use Rattle.lists.specs.Tests.{all-no, all_yes, all_one, all-at, and_l, and_r}
use Rattle.name_spelling.proofs.Name.{type-part}
use Rattle.name_spelling.proofs.Padded.{eight-not, not-well}
use Rattle.meaning.specs.Names.{well_formed, padded, letter}
use Rattle.name_spelling.proofs.well_formed.Goals.{then-name-eq11, else-name-eq11, then-eight_plain, else-eight_plain}
use Rattle.name_spelling.proofs.well_formed.Goals as goal

pub returns-then-blanks_last : goal.returns-then-blanks_last
unfolding well_formed
returns-then-blanks_last c = let n = c.args.name.now in elim c.if-eight_plain.branch [
  | then-eight_plain w ↦ elim c.if-name-eq11.branch [
    | then-name-eq11 v ↦
        let z = sym w.blanks_last.ensures ∙ sym w.value-is ∙ c.if-blanks_last.true in
        sym (all_yes (eq-eqb _ _ v.if-name-eq11.true) _ ∙ all_yes (and_l (letter (get_or n 0 0)) (padded (take 8 n)) z) _ ∙ all_yes
        (and_r (letter (get_or n 0 0)) (padded (take 8 n)) z) _ ∙ all_one _ ∙ ap padded (sym (type-part n v.if-name-eq11.true)) ∙ sym c.type_padded.ensures)
    | else-name-eq11 v ↦ absurd (true≢false (sym w.if-eight_plain.true ∙ v.value-is ∙ ne_eqb _ _ v.if-name-eq11.false))
  ]
  | else-eight_plain w ↦ absurd (true≢false (sym c.if-blanks_last.true ∙ w.value-is ∙ w.if-eight_plain.false))
]

pub returns-else-blanks_last : goal.returns-else-blanks_last
unfolding well_formed
returns-else-blanks_last c = let n = c.args.name.now in c.if-blanks_last.false ∙ elim c.if-eight_plain.branch [
  | then-eight_plain w ↦
      let z = sym w.blanks_last.ensures ∙ sym w.value-is ∙ c.if-blanks_last.false in
      not-well n (λ y. true≢false (sym (ap (λ (b : Bool). b && padded (take 8 n)) (all-at _ y 1) ∙ all-at _ y 2) ∙ z))
  | else-eight_plain w ↦ elim c.if-name-eq11.branch [
    | then-name-eq11 v ↦
        let z = sym v.value-is ∙ w.if-eight_plain.false in
        not-well n (λ y. eight-not n v.eight_plain.ensures (ap not z) (all-at _ y 2))
    | else-name-eq11 v ↦ sym (all-no (ne_eqb _ _ v.if-name-eq11.false) _)
  ]
]
