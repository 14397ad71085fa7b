-- Free stretches: what the longest is, in numbers of granules
use Rattle.std.specs.Prelude.{◌≡◌, Bool, true, false}
use Rattle.std.proofs.Math.Path.{refl}
use Rattle.std.proofs.Common.{ap, ◌∙◌}
use mathlib.Core.List.{List, [], ◌∷◌}
use Prim.Native.Nat.{ℕ, zero, suc, ◌+◌, ◌≤◌, ◌<◌, max}
use native.Mathlib.Omega.{arith}
use Rattle.std.proofs.Math.Decide.{dec_lt, ℕ_discrete}
use Rattle.meaning.specs.Lists.{count}
use Rattle.meaning.specs.Layout.{taken}
use Rattle.meaning.specs.Stretch
use Rattle.meaning.specs.FreeSpace.{stretch, longest_in}
use Rattle.meaning.specs.declared.Geometry.{Geometry}

module _ (g : Geometry) (d : List ℕ) where
  -- k is free, for every k from a up to a + n
  abbrev pub Free : ℕ → ℕ → Type 0
  Free a n = (k : ℕ) → a ≤ k → k < a + n → taken g d k ≡ false

  pub stretch-taken : (i : ℕ) (ns : List ℕ) → taken g d i ≡ true → stretch g d (i ∷ ns) ≡ 0
  unfolding Stretch.stretch
  stretch-taken i ns e = rw e refl

  pub stretch-free : (i : ℕ) (ns : List ℕ) → taken g d i ≡ false → stretch g d (i ∷ ns) ≡ suc (stretch g d ns)
  unfolding Stretch.stretch
  stretch-free i ns e = rw e refl

  pub stretch-le : (ns : List ℕ) → stretch g d ns ≤ longest_in g d ns
  unfolding Stretch.stretch Stretch.longest_in
  stretch-le [] = omega arith
  stretch-le (n ∷ ns) = omega arith

  longest-cons : (n : ℕ) (ns : List ℕ) → longest_in g d (n ∷ ns) ≡ max (stretch g d (n ∷ ns)) (longest_in g d ns)
  unfolding Stretch.longest_in
  longest-cons n ns = refl

  longest-none : longest_in g d [] ≡ 0
  unfolding Stretch.longest_in
  longest-none = refl

  stretch-none : stretch g d [] ≡ 0
  unfolding Stretch.stretch
  stretch-none = refl

  -- the stretch at the front is of free granules, and no longer than the list
  stretch-clear : (n i : ℕ) → (stretch g d (count i n) ≤ n) × Free i (stretch g d (count i n))
  stretch-clear zero i = (omega (arith, stretch-none), λ k a b. absurd (omega (arith, stretch-none)))
  stretch-clear (suc n) i = go (taken g d i) refl (stretch-clear n (i + 1))
    where
      rest : List ℕ
      rest = count (i + 1) n

      go : (t : Bool) → taken g d i ≡ t → (stretch g d rest ≤ n) × Free (i + 1) (stretch g d rest) → (stretch g d (i ∷ rest) ≤ suc n) × Free i
          (stretch g d (i ∷ rest))
      go true e h = (omega (arith, stretch-taken i rest e), λ k a b. absurd (omega (arith, stretch-taken i rest e)))
      go false e h = (omega (arith, stretch-free i rest e, h.0), λ k a b. one k a b (ℕ_discrete k i))
        where
          one : (k : ℕ) → i ≤ k → k < i + stretch g d (i ∷ rest) → Dec (k ≡ i) → taken g d k ≡ false
          one k a b (yes q) = ap (taken g d) q ∙ e
          one k a b (no q) = h.1 k (omega arith) (omega (arith, stretch-free i rest e))

  -- so many free granules at the front are no more than the stretch there
  stretch-all : (n i k : ℕ) → k ≤ n → Free i k → k ≤ stretch g d (count i n)
  stretch-all n i zero h f = omega arith
  stretch-all zero i (suc k) h f = absurd (let z : ⊥ = omega arith in z)
  stretch-all (suc n) i (suc k) h f =
      omega (
        arith,
        stretch-free i (count (i + 1) n) (f i (omega arith) (omega arith)),
        stretch-all n (i + 1) k (omega arith)
            (λ j a b. f j (omega arith) (omega arith)),
      )

  -- the longest is a stretch that there is
  pub longest-there : (n i : ℕ) → (a : ℕ) × (a + longest_in g d (count i n) ≤ i + n) × Free a (longest_in g d (count i n))
  longest-there zero i = (i, omega (arith, longest-none), λ k a b. absurd (omega (arith, longest-none)))
  longest-there (suc n) i = go (dec_lt (stretch g d (i ∷ rest)) (longest_in g d rest)) (longest-there n (i + 1))
    where
      rest : List ℕ
      rest = count (i + 1) n

      go : Dec (stretch g d (i ∷ rest) < longest_in g d rest) → (a : ℕ) × (a + longest_in g d rest ≤ i + 1 + n) × Free a (longest_in g d rest)
          → (a : ℕ) × (a + longest_in g d (i ∷ rest) ≤ i + suc n) × Free a (longest_in g d (i ∷ rest))
      go (yes l) h =
          let e : longest_in g d (i ∷ rest) ≡ longest_in g d rest = longest-cons i rest ∙ omega arith in
          (h.0, omega (arith, h.1, e), λ k a b. h.2 k a (omega (arith, e)))
      go (no l) h =
          let e : longest_in g d (i ∷ rest) ≡ stretch g d (i ∷ rest) = longest-cons i rest ∙ omega arith in
          let s = stretch-clear (suc n) i in
          (i, omega (arith, s.0, e), λ k a b. s.1 k a (omega (arith, e)))

  -- and none is longer
  pub none-longer : (n i a k : ℕ) → i ≤ a → a + k ≤ i + n → Free a k → k ≤ longest_in g d (count i n)
  none-longer zero i a k l h f = omega arith
  none-longer (suc n) i a k l h f = go (ℕ_discrete a i) (λ l' h'. none-longer n (i + 1) a k l' h' f)
    where
      go : Dec (a ≡ i) → (i + 1 ≤ a → a + k ≤ i + 1 + n → k ≤ longest_in g d (count (i + 1) n)) → k ≤ longest_in g d (count i (suc n))
      go (yes q) h' = omega (arith, stretch-all (suc n) i k (omega arith) (λ j x y. f j (omega arith) (omega arith)), stretch-le (count i (suc n)))
      go (no q) h' = omega (arith, h' (omega arith) (omega arith), longest-cons i (count (i + 1) n))

-- two disks whose granules are taken alike have the same stretches
module _ (g : Geometry) (d d' : List ℕ) where
  stretch-same : (n i m : ℕ) → i + n ≤ m → ((k : ℕ) → k < m → taken g d' k ≡ taken g d k) → stretch g d' (count i n) ≡ stretch g d (count i n)
  unfolding Stretch.stretch
  stretch-same zero i m h s = refl
  stretch-same (suc n) i m h s = rw (s i (omega arith), stretch-same n (i + 1) m (omega arith) s) refl

  pub longest-same : (n i m : ℕ) → i + n ≤ m → ((k : ℕ) → k < m → taken g d' k ≡ taken g d k) → longest_in g d' (count i n) ≡ longest_in g d (count i n)
  unfolding Stretch.longest_in
  longest-same zero i m h s = refl
  longest-same (suc n) i m h s = rw (stretch-same (suc n) i m h s, longest-same n (i + 1) m (omega arith) s) refl
