-- What is lent too short, case by case.
use mathlib.Core.Path.{◌≡◌}
use borrow.Author.Tests.{ne_eqb}
use Rattle.meaning.specs.Refusal.{unplaced, naming}
use Rattle.meaning.specs.declared.Refusal.{Refusal}
use Rattle.refusal.specs.Short.{short, short_of_two}

module _ (c : Refusal) where
  pub stops : (c.number ≡ 0 → ⊥) → c ≡ short c
  unfolding short
  stops z = rw (ne_eqb c.number 0 z)

  pub is-short : c.number ≡ 0 → unplaced 12 ≡ short c
  unfolding short
  is-short z = rw z

  pub of-first : (c' : Refusal) → (c.number ≡ 0 → ⊥) → naming 1 c ≡ short_of_two c c'
  unfolding short_of_two
  of-first c' z = rw (ne_eqb c.number 0 z)

  module _ (c' : Refusal) (z : c.number ≡ 0) where
    pub of-second : (c'.number ≡ 0 → ⊥) → naming 2 c' ≡ short_of_two c c'
    unfolding short_of_two
    of-second y = rw (z, ne_eqb c'.number 0 y)

    pub of-neither : c'.number ≡ 0 → unplaced 12 ≡ short_of_two c c'
    unfolding short_of_two
    of-neither y = rw (z, y)
