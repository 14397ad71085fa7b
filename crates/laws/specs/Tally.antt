-- Free, reserved and owned granules are all the granules of a disk
use Rattle.std.specs.Prelude.{◌≡◌, refl, Bool, true, false, not, cond, ◌&&◌, List, [], ◌∷◌, ℕ, suc, ◌+◌, ◌*◌, ◌≤◌, ◌<◌, length, T}
use Rattle.std.proofs.Common.{◌∙◌, mul-le-mul, mul-le-mul_left}
use native.Mathlib.Omega.{arith}
use Rattle.meaning.specs.Lists.{count, keep, each, has}
use Rattle.meaning.specs.Layout.{taken, granules, granule_bytes, most_granules, highest}
use Rattle.meaning.specs.Entries.{size_of}
use Rattle.meaning.specs.Chain.{owned, files}
use Rattle.meaning.specs.Free.{free_granules, reserved}
use Rattle.meaning.specs.declared.Geometry.{Geometry}
use Rattle.lists.specs.Members
use Rattle.lists.specs.Members.{In, Distinct, length-count}
use Rattle.lists.specs.Counting
use Rattle.laws.specs.Facts
use Rattle.laws.specs.Facts.{Sound, IsFile}
use Rattle.laws.specs.Places
use Rattle.laws.specs.Change

-- whatever is owned is taken: each of a list is not taken, or taken and not owned, or owned
three : (t o : ℕ → Bool) (xs : List ℕ) → ((x : ℕ) → In x xs → T (o x) → T (t x))
    → length (keep (λ x. not (t x)) xs) + length (keep (λ x. t x && not (o x)) xs) + length (keep o xs) ≡ length xs
three t o [] h = omega arith
three t o (x ∷ xs) h = go (t x) (o x) (h x Members.In.here) (three t o xs (λ y i. h y (Members.In.there i)))
  where
    go : (a b : Bool) → (T b → T a) → length (keep (λ x. not (t x)) xs) + length (keep (λ x. t x && not (o x)) xs) + length (keep o xs) ≡ length xs
        → length (cond (not a) (x ∷ keep (λ x. not (t x)) xs) (keep (λ x. not (t x)) xs))
        + length (cond (a && not b) (x ∷ keep (λ x. t x && not (o x)) xs) (keep (λ x. t x && not (o x)) xs)) + length (cond b (x ∷ keep o xs) (keep o xs)) ≡
        suc (length xs)
    go true true f e = omega arith
    go true false f e = omega arith
    go false true f e = absurd (f tt)
    go false false f e = omega arith

-- a list of numbers that differ, all of another, is as long as what that other has of it
pub has-length : {xs : List ℕ} (ys : List ℕ) → Distinct xs → Distinct ys → ((y : ℕ) → In y ys → In y xs) → length (keep (has ys) xs) ≡ length ys
has-length {xs} ys d e s =
    Counting.more (λ x. false) (has ys) {xs = xs} ys d e s (λ y i. refl) (λ y i. Members.T_true {b = has ys y} (Members.in-has i))
    (λ x i n. Members.no_false {b = has ys x} (λ t. n (Members.has_in x ys t))) ∙ omega (arith, none xs)
  where
    none : (l : List ℕ) → length (keep (λ x. false) l) ≡ 0
    none [] = refl
    none (x ∷ l) = none l

module _ (g : Geometry) (d : List ℕ) (c : Sound g d) where
  -- the granules in some file's runs
  abbrev pub in_runs : List ℕ
  in_runs = each (owned g d) (files g d)

  runs-distinct : Distinct in_runs
  runs-distinct = Members.each-distinct (owned g d) (Facts.files-distinct g d) (λ p i. c.single p (Facts.files-in g d p i))
      (λ p q s i j. c.granules p q s (Facts.files-in g d p i) (Facts.files-in g d q j))

  runs-in : (n : ℕ) → In n in_runs → T (taken g d n) × (n < granules g)
  runs-in n i =
      let k = Members.each_in (owned g d) n (files g d) i in let f = Facts.files-in g d k.0 k.1 in
      (Change.owned-taken g d c k.0 n f k.2, Change.owned-lt g d c k.0 n f k.2)

  pub tally : length (free_granules g d) + length (reserved g d) + length in_runs ≡ granules g
  unfolding free_granules reserved
  tally =
      let all' = count 0 (granules g) in
      let a = has-length {xs = all'} in_runs (Members.count-distinct 0 (granules g)) runs-distinct
      (λ n i. Members.in_count n 0 (granules g) (omega arith) (omega (arith, (runs-in n i).1))) in
      let b = three (taken g d) (has in_runs) all' (λ n i t. (runs-in n (Members.has_in n in_runs t)).0) in
      let e = length-count 0 (granules g) in
      omega arith

-- a file owns no more granules than the disk has, so its size is within the largest disk's
pub owned-le : (g : Geometry) (d : List ℕ) → Sound g d → (p : ℕ) → IsFile g d p → length (owned g d p) ≤ granules g
owned-le g d c p f =
    omega (
      arith,
      Counting.pigeonhole {xs = count 0 (granules g)} (owned g d p) (Members.count-distinct 0 (granules g)) (c.single p f)
          (λ n i. Members.in_count n 0 (granules g) (omega arith) (omega (arith, Change.owned-lt g d c p n f i))),
      length-count 0 (granules g),
    )

pub size-le : (g : Geometry) (d : List ℕ) → Sound g d → Places.Fits g d → (p : ℕ) → IsFile g d p → size_of g d p ≤ highest g
unfolding granules
size-le g d c k p f =
    let a = mul-le-mul k.blocks-hi k.units-hi in
    let o = owned-le g d c p f in
    let b = mul-le-mul_left {m = length (owned g d p)} {n = most_granules} (granule_bytes g) (omega arith) in
    omega (arith, b, (Change.filed-at g d c p f).fits)
