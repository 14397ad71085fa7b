-- What `Passes` says of a refusal: the check's own, and any other after a check that found nothing.
use mathlib.Core.Path.{◌≡◌, sym, ap, ◌∙◌}
use Prim.Native.Nat.{ℕ}
use Rattle.meaning.specs.Refusal.{unplaced, carried}
use Rattle.meaning.specs.declared.Refusal.{Refusal}
use Rattle.laws.specs.Carried.{carried-own, carried_other}

module _ (c : Refusal) {n : ℕ} where
  pub tells-own : c.number ≡ n → (c.number ≡ 0 → ⊥) → (c ≡ carried c n) × (n ≡ 0 → ⊥)
  tells-own e z = (sym (carried-own c (sym e)), λ q. z (e ∙ q))

  pub tells : {k : ℕ} → c.number ≡ 0 → n ≡ k → (k ≡ 0 → ⊥) → (unplaced k ≡ carried c n) × (n ≡ 0 → ⊥)
  tells {k} z e h = (sym (ap (carried c) e ∙ carried_other c (λ q. h (q ∙ z))), λ q. h (sym e ∙ q))

  -- the same of a call that tests more
  pub tells-on : {m : ℕ} {e : Refusal} → n ≡ m → (e ≡ carried c n) × (n ≡ 0 → ⊥) → (e ≡ carried c m) × (m ≡ 0 → ⊥)
  tells-on q p = (p.0 ∙ ap (carried c) q, λ z. p.1 (q ∙ z))
