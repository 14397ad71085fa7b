-- What genie_compare hands back, case by case.
use mathlib.Core.Path.{◌≡◌, sym, ap, ◌∙◌}
use mathlib.Core.List.{List}
use mathlib.Core.Bool.{cond}
use Prim.Native.Nat.{ℕ}
use lib.Seq.{sets}
use borrow.Author.Tests.{eq-eqb, ne_eqb}
use Rattle.meaning.specs.declared.Refusal.{Refusal}
use Rattle.differences.specs.declared.Difference.{Difference}
use Rattle.genie_codec.specs.Words.{flags_of}
use Rattle.genie.specs.Compared.{tells_difference, short_of}

abbrev pub Out : Type 0
Out = ℕ × ℕ × ℕ × ℕ × ℕ × ℕ × List ℕ

-- nothing is told where the name buffer is too short
pub short-told : (b : List ℕ) (c : Refusal) {c' : Refusal} {image : ℕ} → image ≡ c.image → c ≡ c' → ◌≡◌ {A = Out} (c.number, c.at, image, 0, 0, 0, b)
    (short_of b c')
short-told b c i q = (λ u. (c.number, c.at, i u, 0, 0, 0, b)) ∙ ap (short_of b) q

module _ (b : List ℕ) (x : Difference) {x' : Difference} {image kind flags : ℕ} (i : image ≡ x.refusal.image) (k : kind ≡ x.kind) (f : flags ≡ flags_of x)
    (q : x ≡ x') where
  pub none_told : x.kind ≡ 0 → ◌≡◌ {A = Out} (x.refusal.number, x.refusal.at, image, kind, x.at, flags, b) (tells_difference b x')
  unfolding tells_difference
  none_told z =
      (λ u. (x.refusal.number, x.refusal.at, i u, k u, x.at, f u, cond (sym (eq-eqb x.kind 0 z) u) b (sets b 0 x.name))) ∙ ap (tells_difference b) q

  pub one_told : {b' : List ℕ} → (x.kind ≡ 0 → ⊥) → b' ≡ sets b 0 x.name → ◌≡◌ {A = Out}
      (x.refusal.number, x.refusal.at, image, kind, x.at, flags, b') (tells_difference b x')
  unfolding tells_difference
  one_told {b'} z e =
      (λ u. (x.refusal.number, x.refusal.at, i u, k u, x.at, f u, e u))
      ∙ (λ u. (x.refusal.number, x.refusal.at, x.refusal.image, x.kind, x.at, flags_of x, cond (sym (ne_eqb x.kind 0 z) u) b (sets b 0 x.name)))
      ∙ ap (tells_difference b) q
