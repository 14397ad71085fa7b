-- One step of the hash; and its last, the final 0 that becomes 1.
use mathlib.Core.Path.{◌≡◌, refl, sym}
use mathlib.Core.Bool.{false, not, cond}
use mathlib.Core.List.{List}
use Prim.Native.Nat.{ℕ, ◌+◌, ◌<◌}
use native.Mathlib.Numerals.{add-one}
use native.Mathlib.Decide.{ℕ_discrete}
use lib.ListN.{length, get_or, drop}
use lib.Seq.{drop-cons}
use Rattle.meaning.specs.Lists.{through}
use Rattle.meaning.specs.Names.{mix, hash}
use borrow.Author.Tests.{eq-eqb, ne_eqb}
use lib.Dec.{eqb}

pub through-more : (n : List ℕ) (h i : ℕ) → i < length n → through mix h (drop i n) ≡ through mix (mix h (get_or n i 0)) (drop (i + 1) n)
through-more n h i l = simp (drop-cons n i 0 l, add-one)

-- what the bytes give, where it is h: the hash, unless it is 0
pub ends_same : (n : List ℕ) (h : ℕ) → through mix 0 n ≡ h → not (eqb h 0) ≡ eqb h (hash n)
unfolding hash
ends_same n h e = go (ℕ_discrete h 0)
  where
    go : Dec (h ≡ 0) → not (eqb h 0) ≡ eqb h (cond (eqb (through mix 0 n) 0) 1 (through mix 0 n))
    go (yes z) = simp (e, z)
    go (no z) = simp (e, ne_eqb h 0 z, eq-eqb h h refl)

-- where it is neither h nor 0
pub ends-other : (n : List ℕ) (h : ℕ) → (through mix 0 n ≡ h → ⊥) → (through mix 0 n ≡ 0 → ⊥) → false ≡ eqb h (hash n)
unfolding hash
ends-other n h e z = simp (ne_eqb _ _ z) (sym (ne_eqb _ _ (λ q. e (sym q))))

-- where it is 0
pub ends-zero : (n : List ℕ) (h : ℕ) → through mix 0 n ≡ 0 → eqb h 1 ≡ eqb h (hash n)
unfolding hash
ends-zero n h z = simp (eq-eqb _ _ z)
