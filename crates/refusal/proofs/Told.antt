-- The slot that a refusal tells of: none under 3.
use mathlib.Core.Path.{◌≡◌}
use borrow.Author.Tests.{ne_eqb}
use Rattle.meaning.specs.Refusal.{nowhere, slot_told}
use Rattle.meaning.specs.declared.Refusal.{Refusal}

module _ (c : Refusal) where
  pub tells-none : c.number ≡ 3 → nowhere ≡ slot_told c
  unfolding slot_told
  tells-none e = rw e

  pub tells-it : (c.number ≡ 3 → ⊥) → c.at ≡ slot_told c
  unfolding slot_told
  tells-it z = rw (ne_eqb c.number 3 z)
