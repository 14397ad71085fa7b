-- What goes with a number: the check's own is handed on as it is.
use Rattle.std.specs.Prelude.{◌≡◌, ℕ}
use Rattle.std.proofs.Math.Path.{refl, ap}
use Rattle.std.proofs.Common.{◌∙◌, eq-eqb, ne_eqb}
use Rattle.meaning.specs.Refusal.{unplaced, beside, carried, beside_two, carried_two}
use Rattle.meaning.specs.declared.Refusal.{Refusal}

pub carried-own : (c : Refusal) {n : ℕ} → n ≡ c.number → carried c n ≡ c
unfolding beside
carried-own c e = ap (carried c) e ∙ rw (eq-eqb c.number c.number refl) refl

-- beside any other number stands nothing
pub carried_other : (c : Refusal) {n : ℕ} → (n ≡ c.number → ⊥) → carried c n ≡ unplaced n
unfolding beside
carried_other c {n} z = rw (ne_eqb n c.number z) refl

-- Where e was found after c -------------------------------------------------------------------------------------------------

module _ (c e : Refusal) {n : ℕ} where
  pub carried_first : n ≡ c.number → carried_two c e n ≡ c
  unfolding beside_two
  carried_first q = ap (carried_two c e) q ∙ rw (eq-eqb c.number c.number refl) refl

  pub carried-second : (n ≡ c.number → ⊥) → carried_two c e n ≡ carried e n
  unfolding beside_two
  carried-second z = rw (ne_eqb n c.number z) refl

  -- what goes with a number that is not e's hangs on c alone
  pub carried-apart : (n ≡ e.number → ⊥) → carried_two c e n ≡ carried c n
  unfolding beside_two beside
  carried-apart z = rw (ne_eqb n e.number z) refl
