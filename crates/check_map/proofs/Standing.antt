-- The owner map as one number a granule.
use mathlib.Core.Path.{◌≡◌, refl, sym, ap, ◌∙◌}
use mathlib.Core.Logic.{◌⊎◌, inl, inr}
use mathlib.Core.List.{List, [], ◌∷◌}
use mathlib.Core.Bool.{Bool, true, false, cond}
use Prim.Native.Nat.{ℕ, zero, suc, ◌+◌, ◌-◌, ◌*◌, ◌/◌, ◌%◌, ◌≤◌, ◌<◌}
use native.Mathlib.Omega.{arith}
use native.Mathlib.Nat.{one-mul, zero-mul}
use lib.ListN.{length, get_or, set, replicate, length-set, length-map}
use lib.Seq.{ext_get_or}
use Rattle.meaning.specs.Bits.{digit}
use Rattle.laws.specs.Bits.{digit_lt}
use Rattle.meaning.specs.Lists.{count, has}
use Rattle.meaning.specs.Layout.{granules, directory_granules, most_blocks}
use Rattle.meaning.specs.declared.Geometry.{Geometry}
use Rattle.lists.specs.Tests.{le-or-lt}
use Rattle.lists.specs.Members
use Rattle.lists.specs.Members.{In, length-count}
use Rattle.check_map.specs.Marks.{marked, MarksPlaces}
use Rattle.check_map.specs.Owners.{shut, TakesStretch, weight, standing}
use Rattle.check_map.proofs.Maps
use Rattle.check_map.proofs.Digits.{digit-zero}

pub marked-long : (v : ℕ) (xs m : List ℕ) → length (marked m v xs) ≡ length m
unfolding marked
marked-long v [] m = refl
marked-long v (x ∷ xs) m = marked-long v xs (set m x v) ∙ length-set m x v

zeros : (k i : ℕ) → ◌≡◌ {A = ℕ} (get_or (replicate k 0) i 0) 0
zeros zero i = refl
zeros (suc k) zero = refl
zeros (suc k) (suc i) = zeros k i

pub shut-lt : (units : ℕ) (m : List ℕ) (n : ℕ) → shut units m n < 2
unfolding shut
shut-lt units m n = digit_lt _ _

module _ (g : Geometry) (d : List ℕ) where
  pub weight-low : (n : ℕ) → 1 ≤ weight g d n
  unfolding weight
  weight-low n = go (has (directory_granules g d) n)
    where
      go : (b : Bool) → 1 ≤ cond b 1 2
      go true = omega arith
      go false = omega arith

  pub weight-in : (n : ℕ) → In n (directory_granules g d) → ◌≡◌ {A = ℕ} (weight g d n) 1
  unfolding weight
  weight-in n i = ap {B = ℕ} (λ (b : Bool). cond b 1 2) (Members.T_true {b = has (directory_granules g d) n} (Members.in-has i))

  pub weight-out : (n : ℕ) → (In n (directory_granules g d) → ⊥) → ◌≡◌ {A = ℕ} (weight g d n) 2
  unfolding weight
  weight-out n f = ap {B = ℕ} (λ (b : Bool). cond b 1 2)
      (Members.no_false {b = has (directory_granules g d) n} (λ t. f (Members.has_in n (directory_granules g d) t)))

  pub standing-long : (m : List ℕ) → length (standing g d m) ≡ granules g
  unfolding standing
  standing-long m = length-map (count 0 (granules g)) (λ n. (1 - shut g.units m n) * weight g d n) ∙ length-count 0 (granules g)

  standing-at : (m : List ℕ) (n : ℕ) → n < granules g → get_or (standing g d m) n 0 ≡ (1 - shut g.units m n) * weight g d n
  unfolding standing
  standing-at m n h = Members.map-count (λ n. (1 - shut g.units m n) * weight g d n) 0 (granules g) n h ∙ ap
      (λ (k : ℕ). (1 - shut g.units m k) * weight g d k) (let z : 0 + n ≡ n = omega arith in z)

  pub standing-open : (m : List ℕ) (n : ℕ) → n < granules g → shut g.units m n ≡ 0 → get_or (standing g d m) n 0 ≡ weight g d n
  standing-open m n h e = standing-at m n h ∙ ap (λ (x : ℕ). (1 - x) * weight g d n) e ∙ one-mul (weight g d n)

  pub standing-shut : (m : List ℕ) (n : ℕ) → n < granules g → shut g.units m n ≡ 1 → ◌≡◌ {A = ℕ} (get_or (standing g d m) n 0) 0
  standing-shut m n h e = standing-at m n h ∙ ap (λ (x : ℕ). (1 - x) * weight g d n) e ∙ zero-mul (weight g d n)

  -- two maps that have the granule alike
  pub standing-alike : (m m' : List ℕ) (n : ℕ) → n < granules g → shut g.units m n ≡ shut g.units m' n → get_or (standing g d m) n 0 ≡ get_or
      (standing g d m') n 0
  standing-alike m m' n h e = standing-at m n h ∙ ap (λ (x : ℕ). (1 - x) * weight g d n) e ∙ sym (standing-at m' n h)

  pub open-if : (m : List ℕ) (n : ℕ) → n < granules g → 1 ≤ get_or (standing g d m) n 0 → shut g.units m n ≡ 0
  open-if m n h l = go (le-or-lt 1 (shut g.units m n))
    where
      go : (1 ≤ shut g.units m n) ⊎ (shut g.units m n < 1) → shut g.units m n ≡ 0
      go (inr w) = omega arith
      go (inl w) = absurd (let k = shut-lt g.units m n in let e = standing-shut m n h (omega arith) in let z : ⊥ = omega arith in z)

  pub shut-if : (m : List ℕ) (n : ℕ) → n < granules g → ◌≡◌ {A = ℕ} (get_or (standing g d m) n 0) 0 → shut g.units m n ≡ 1
  shut-if m n h l = go (le-or-lt 1 (shut g.units m n))
    where
      go : (1 ≤ shut g.units m n) ⊎ (shut g.units m n < 1) → shut g.units m n ≡ 1
      go (inl w) = let k = shut-lt g.units m n in omega arith
      go (inr w) = absurd (let e = standing-open m n h (omega arith) in let k = weight-low n in let z : ⊥ = omega arith in z)

  -- on a map without a bit every granule is open
  pub blank-open : (n : ℕ) → n < granules g → 1 ≤ get_or (standing g d (replicate most_blocks 0)) n 0
  unfolding shut
  blank-open n h =
      let s : shut g.units (replicate most_blocks 0) n ≡ 0 = ap (λ (x : ℕ). digit x (n % g.units)) (zeros most_blocks (n / g.units)) ∙ digit-zero
      (n % g.units) in
      let e = standing-open (replicate most_blocks 0) n h s in let v = weight-low n in omega arith

  -- what is taken by bits is marked in the numbers
  pub takes-marks : {m m' : List ℕ} {a n : ℕ} {r : Bool} → a + n ≤ granules g → TakesStretch g.units m a n m' r → MarksPlaces (standing g d m) 1 0
      (count a n)
      (standing g d m') r
  takes-marks {m} {m'} {a} {n} {r} h t =
      record {
        answer =
            Members.both-T
            (λ y. Members.true-T (Maps.says-allows 1 0 (count a n) (standing g d m)
            (record { high = λ k i. high (Members.T_true y) k (Members.count-in k a n i); once = Members.count-distinct a n })))
            (λ y. Members.true-T (t.back (λ i l. open-if m (a + i) (omega arith)
            ((Maps.allows-says 1 0 (count a n) (standing g d m) (omega arith) (Members.T_true y)).high (a + i)
            (Members.in_count (a + i) a n (omega arith) (omega arith))))));
        map =
            λ y.
            ext_get_or 0 (standing g d m') (marked (standing g d m) 0 (count a n))
            (standing-long m' ∙ sym (marked-long 0 (count a n) (standing g d m) ∙ standing-long m))
            (λ i l. point y i (rw (standing-long m') at l) (Members.in? i (count a n)));
      }
    where
      high : r ≡ true → (k : ℕ) → (a ≤ k) × (k < a + n) → 1 ≤ get_or (standing g d m) k 0
      high y k w =
          let s : shut g.units m k ≡ 0 = ap (shut g.units m) (let z : k ≡ a + (k - a) = omega arith in z) ∙ t.yes' y (k - a) (omega arith) in
          let e = standing-open m k (omega arith) s in let z = weight-low k in omega arith

      point : r ≡ true → (i : ℕ) → i < granules g → In i (count a n) ⊎ (In i (count a n) → ⊥) → get_or (standing g d m') i 0 ≡ get_or
          (marked (standing g d m) 0 (count a n)) i 0
      point y i l (inl j) =
          let w = Members.count-in i a n j in
          standing-shut m' i l (ap (shut g.units m') (let z : i ≡ a + (i - a) = omega arith in z) ∙ t.inside y (i - a) (omega arith))
          ∙ sym (Maps.marked-in 0 i (count a n) (standing g d m) j (rw (standing-long m) l))
      point y i l (inr f) =
          standing-alike m' m i l (t.outside y i (side (le-or-lt a i) (le-or-lt (a + n) i)))
          ∙ sym (Maps.marked-out 0 i (count a n) (standing g d m) f)
        where
          side : (a ≤ i) ⊎ (i < a) → (a + n ≤ i) ⊎ (i < a + n) → (i < a) ⊎ (a + n ≤ i)
          side (inr w) k = inl w
          side (inl w) (inl k) = inr k
          side (inl w) (inr k) = absurd (f (Members.in_count i a n w k))
