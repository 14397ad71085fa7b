-- The longest free stretch, and the lowest granule of it
use Rattle.std.specs.Prelude.{◌≡◌, Bool, true, false, List, [], ◌∷◌, ℕ, zero, suc, ◌+◌, ◌-◌, ◌≤◌, ◌<◌, max, leb}
use Rattle.std.proofs.Math.Path.{refl, ap}
use Rattle.std.proofs.Common.{◌∙◌, arith, le-leb}
use Rattle.std.proofs.Math.Bool.{cond}
use Rattle.std.proofs.Math.Decide.{dec_lt, ℕ_discrete}
use Rattle.std.proofs.lemmas.Bool.{lt-leb}
use Rattle.meaning.specs.Lists.{count}
use Rattle.meaning.specs.Stretch.{stretch, longest_in, low_end}
use Rattle.meaning.specs.Choice.{State, Free}
use Rattle.laws_choice.specs.Words.{Stretch, LowEnd}

module _ (taken : ℕ → Bool) where
  -- k is free, for every k from a up to a + n
  abbrev pub Clear : ℕ → ℕ → Type 0
  Clear a n = (k : ℕ) → a ≤ k → k < a + n → taken k ≡ false

  pub stretch-taken : (i : ℕ) (ns : List ℕ) → taken i ≡ true → stretch taken (i ∷ ns) ≡ 0
  unfolding stretch
  stretch-taken i ns e = rw e refl

  pub stretch-free : (i : ℕ) (ns : List ℕ) → taken i ≡ false → stretch taken (i ∷ ns) ≡ suc (stretch taken ns)
  unfolding stretch
  stretch-free i ns e = rw e refl

  longest-cons : (n : ℕ) (ns : List ℕ) → longest_in taken (n ∷ ns) ≡ max (stretch taken (n ∷ ns)) (longest_in taken ns)
  unfolding longest_in
  longest-cons n ns = refl

  longest-none : longest_in taken [] ≡ 0
  unfolding longest_in
  longest-none = refl

  pub stretch-none : stretch taken [] ≡ 0
  unfolding stretch
  stretch-none = refl

  low-none : low_end taken [] ≡ 0
  unfolding low_end
  low-none = refl

  low-here : (n : ℕ) (ns : List ℕ) → longest_in taken ns ≤ stretch taken (n ∷ ns) → low_end taken (n ∷ ns) ≡ n
  unfolding low_end
  low-here n ns h = ap (λ (b : Bool). cond b n (low_end taken ns)) (le-leb (longest_in taken ns) (stretch taken (n ∷ ns)) h)

  low-later : (n : ℕ) (ns : List ℕ) → stretch taken (n ∷ ns) < longest_in taken ns → low_end taken (n ∷ ns) ≡ low_end taken ns
  unfolding low_end
  low-later n ns h = ap (λ (b : Bool). cond b n (low_end taken ns)) (lt-leb (longest_in taken ns) (stretch taken (n ∷ ns)) h)

  -- the stretch at the front is of free granules, and no longer than the list
  pub stretch-clear : (n i : ℕ) → (stretch taken (count i n) ≤ n) × Clear i (stretch taken (count i n))
  stretch-clear zero i = (omega (arith, stretch-none), λ k a b. absurd (omega (arith, stretch-none)))
  stretch-clear (suc n) i = go (taken i) refl (stretch-clear n (i + 1))
    where
      rest : List ℕ
      rest = count (i + 1) n

      go : (t : Bool) → taken i ≡ t → (stretch taken rest ≤ n) × Clear (i + 1) (stretch taken rest) → (stretch taken (i ∷ rest) ≤ suc n) × Clear i
          (stretch taken (i ∷ rest))
      go true e h = (omega (arith, stretch-taken i rest e), λ k a b. absurd (omega (arith, stretch-taken i rest e)))
      go false e h = (omega (arith, stretch-free i rest e, h.0), λ k a b. one k a b (ℕ_discrete k i))
        where
          one : (k : ℕ) → i ≤ k → k < i + stretch taken (i ∷ rest) → Dec (k ≡ i) → taken k ≡ false
          one k a b (yes q) = ap taken q ∙ e
          one k a b (no q) = h.1 k (omega arith) (omega (arith, stretch-free i rest e))

  -- so many free granules at the front are no more than the stretch there
  pub stretch-all : (n i k : ℕ) → k ≤ n → Clear i k → k ≤ stretch taken (count i n)
  stretch-all n i zero h f = omega arith
  stretch-all zero i (suc k) h f = absurd (let z : ⊥ = omega arith in z)
  stretch-all (suc n) i (suc k) h f =
      omega (
        arith,
        stretch-free i (count (i + 1) n) (f i (omega arith) (omega arith)),
        stretch-all n (i + 1) k (omega arith)
            (λ j a b. f j (omega arith) (omega arith)),
      )

  -- the longest is a stretch that there is, from its low end on
  longest-there : (n i : ℕ) → (low_end taken (count i n) + longest_in taken (count i n) ≤ i + n) × Clear (low_end taken (count i n))
      (longest_in taken (count i n))
  longest-there zero i = (omega (arith, longest-none, low-none), λ k a b. absurd (omega (arith, longest-none, low-none)))
  longest-there (suc n) i = go (dec_lt (stretch taken (i ∷ rest)) (longest_in taken rest)) (longest-there n (i + 1))
    where
      rest : List ℕ
      rest = count (i + 1) n

      go : Dec (stretch taken (i ∷ rest) < longest_in taken rest) → (low_end taken rest + longest_in taken rest ≤ i + 1 + n) × Clear (low_end taken rest)
          (longest_in taken rest)
          → (low_end taken (i ∷ rest) + longest_in taken (i ∷ rest) ≤ i + suc n) × Clear (low_end taken (i ∷ rest)) (longest_in taken (i ∷ rest))
      go (yes l) h =
          let e : longest_in taken (i ∷ rest) ≡ longest_in taken rest = longest-cons i rest ∙ omega arith in
          let o = low-later i rest l in
          (omega (arith, h.0), λ k a b. h.1 k (omega arith) (omega arith))
      go (no l) h =
          let e : longest_in taken (i ∷ rest) ≡ stretch taken (i ∷ rest) = longest-cons i rest ∙ omega arith in
          let o = low-here i rest (omega arith) in
          let s = stretch-clear (suc n) i in
          (omega (arith, s.0), λ k a b. s.1 k (omega arith) (omega arith))

  -- none is longer
  none-longer : (n i a k : ℕ) → i ≤ a → a + k ≤ i + n → Clear a k → k ≤ longest_in taken (count i n)
  none-longer zero i a k l h f = omega arith
  none-longer (suc n) i a k l h f = go (ℕ_discrete a i) (λ l' h'. none-longer n (i + 1) a k l' h' f)
    where
      go : Dec (a ≡ i) → (i + 1 ≤ a → a + k ≤ i + 1 + n → k ≤ longest_in taken (count (i + 1) n)) → k ≤ longest_in taken (count i (suc n))
      go (yes q) h' = omega (arith, stretch-all (suc n) i k (omega arith) (λ j x y. f j (omega arith) (omega arith)), longest-cons i (count (i + 1) n))
      go (no q) h' = omega (arith, h' (omega arith) (omega arith), longest-cons i (count (i + 1) n))

  -- and none as long starts lower
  none-lower : (n i a : ℕ) → i ≤ a → a + longest_in taken (count i n) ≤ i + n → Clear a (longest_in taken (count i n)) → low_end taken (count i n) ≤ a
  none-lower zero i a l h f = omega (arith, low-none)
  none-lower (suc n) i a l h f = go (dec_lt (stretch taken (i ∷ rest)) (longest_in taken rest)) (ℕ_discrete a i) (none-lower n (i + 1) a)
    where
      rest : List ℕ
      rest = count (i + 1) n

      go : Dec (stretch taken (i ∷ rest) < longest_in taken rest) → Dec (a ≡ i)
          → (i + 1 ≤ a → a + longest_in taken rest ≤ i + 1 + n → Clear a (longest_in taken rest) → low_end taken rest ≤ a) → low_end taken (i ∷ rest) ≤ a
      go (no s) q ih = omega (arith, low-here i rest (omega arith))
      go (yes s) (yes q) ih =
          let e : longest_in taken (i ∷ rest) ≡ longest_in taken rest = longest-cons i rest ∙ omega arith in
          absurd (omega (arith, stretch-all (suc n) i (longest_in taken (i ∷ rest)) (omega arith) (λ j x y. f j (omega arith) (omega arith))))
      go (yes s) (no q) ih =
          let e : longest_in taken (i ∷ rest) ≡ longest_in taken rest = longest-cons i rest ∙ omega arith in
          omega (arith, low-later i rest s, ih (omega arith) (omega arith) (λ k x y. f k x (omega arith)))

  -- without a free granule it is the first of all
  low-zero : (n i : ℕ) → longest_in taken (count i n) ≡ 0 → low_end taken (count i n) ≤ i
  low-zero zero i e = omega (arith, low-none)
  low-zero (suc n) i e = omega (arith, low-here i (count (i + 1) n) (omega (arith, longest-cons i (count (i + 1) n))))

-- the lowest granule of the longest free stretch of a disk
abbrev pub longest_low : ℕ → State → ℕ
longest_low granules v = low_end v.taken (count 0 granules)

pub low-end : (granules : ℕ) (v : State) → LowEnd granules v (longest_low granules v)
low-end granules v = record {
  long = long;
  free = λ i a b. record { inside = omega (arith, there.0); clear = there.1 i a b };
  longest = most;
  lower = λ i s. least i s (ℕ_discrete long 0);
}
  where
    long : ℕ
    long = longest_in v.taken (count 0 granules)

    there : (longest_low granules v + long ≤ 0 + granules) × Clear v.taken (longest_low granules v) long
    there = longest-there v.taken granules 0

    most : (i n : ℕ) → Stretch granules v i n → n ≤ long
    most i zero s = omega arith
    most i (suc n) s =
        let z = s (i + n) (omega arith) (omega arith) in
        none-longer v.taken granules 0 i (suc n) (omega arith) (omega (arith, z.inside)) (λ k a b. (s k a b).clear)

    least : (i : ℕ) → Stretch granules v i long → Dec (long ≡ 0) → longest_low granules v ≤ i
    least i s (yes e) = omega (arith, low-zero v.taken granules 0 e)
    least i s (no e) =
        let z = s (i + long - 1) (omega arith) (omega arith) in
        none-lower v.taken granules 0 i (omega arith) (omega (arith, z.inside)) (λ k a b. (s k a b).clear)

pub low-long : (granules : ℕ) (v : State) → (low-end granules v).long ≡ longest_in v.taken (count 0 granules)
unfolding low-end
low-long granules v = refl

-- where some granule is free, it is
pub low_free : (granules : ℕ) (v : State) (n : ℕ) → Free granules v n → Free granules v (longest_low granules v)
low_free granules v n f =
    let l = low-end granules v in
    let z = l.longest n 1 (λ i a b. let e : i ≡ n = omega arith in rw e f) in
    l.free (longest_low granules v) (omega arith) (omega arith)
