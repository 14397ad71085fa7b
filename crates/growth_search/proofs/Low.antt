-- The longest free stretch, from a granule upwards; and whether so many granules are free.
use mathlib.Core.Path.{◌≡◌, refl, ap, sym, ◌∙◌}
use mathlib.Core.Logic.{◌⊎◌, inl, inr, ⊎_elim}
use mathlib.Core.Bool.{Bool, true, false, not, cond}
use mathlib.Core.List.{List}
use Prim.Native.Nat.{ℕ, zero, suc, ◌+◌, ◌-◌, ◌≤◌, ◌<◌}
use native.Mathlib.Omega.{arith}
use native.Mathlib.Decide.{ℕ_discrete}
use Rattle.meaning.specs.Layout.{granules, taken}
use Rattle.meaning.specs.declared.Geometry.{Geometry}
use Rattle.lists.specs.Tests.{le-or-lt}
use Rattle.growth_search.specs.Search.{IsClear, Stretch, AllClear, LongestFrom}

differ : {b : Bool} → b ≡ true → b ≡ false → ⊥
differ e q = let z : ◌≡◌ {A = ℕ} 0 1 = ap (λ (b : Bool). cond b 0 1) (sym e ∙ q) in omega arith

module _ (g : Geometry) (d : List ℕ) where
  -- a granule of a free stretch that is taken, or off the disk
  within : (i n : ℕ) → Stretch g d i n → (m : ℕ) → i ≤ m → m < i + n → taken g d m ≡ true → ⊥
  within i n s m a b t = differ t (s m a b).1

  ends : (i n : ℕ) → Stretch g d i n → 0 < n → i + n ≤ granules g
  ends i n s h = let q = (s (i + n - 1) (omega arith) (omega arith)).0 in omega arith

  part : (i n j m : ℕ) → Stretch g d i n → i ≤ j → j + m ≤ i + n → Stretch g d j m
  part i n j m s a b k x y = s k (omega arith) (omega arith)

  -- The granules from `from` up to n are looked at. The last `here` of them are free, and no more; `long` from `low` on are the longest stretch.
  pub record Low (from n here low long : ℕ) : Type 0 where
    pub start : from + here ≤ n
    pub high : n ≤ granules g
    pub last : Stretch g d (n - here) here
    pub edge : (i : ℕ) → from ≤ i → i ≤ n → Stretch g d i (n - i) → n - here ≤ i
    pub best : Stretch g d low long
    pub inside : low + long ≤ n
    pub longest : (i k : ℕ) → from ≤ i → i + k ≤ n → Stretch g d i k → k ≤ long
    pub lower : (i : ℕ) → from ≤ i → i + long ≤ n → Stretch g d i long → low ≤ i
    pub short : here ≤ long

  pub low-start : {from : ℕ} → from ≤ granules g → Low from from 0 from 0
  low-start h = record {
    start = omega arith;
    high = h;
    last = λ k a b. absurd (let z : ⊥ = omega arith in z);
    edge = λ i a b s. omega arith;
    best = λ k a b. absurd (let z : ⊥ = omega arith in z);
    inside = omega arith;
    longest = λ i k a b s. omega arith;
    lower = λ i a b s. a;
    short = omega arith;
  }

  module _ {from n here low long : ℕ} (c : Low from n here low long) (h : n < granules g) where
    pub low-taken : taken g d n ≡ true → Low from (n + 1) 0 low long
    low-taken t = record {
      start = omega (arith, c.start);
      high = omega arith;
      last = λ k a b. absurd (let z : ⊥ = omega arith in z);
      edge = λ i a b s. ⊎_elim (λ (q : i ≤ n). absurd (within i (n + 1 - i) s n q (omega arith) t)) (λ (q : n < i). omega arith) (le-or-lt i n);
      best = c.best;
      inside = omega (arith, c.inside);
      longest = λ i k a b s. ⊎_elim (λ (q : i + k ≤ n). c.longest i k a q s) (λ (q : n < i + k). one i k b q s) (le-or-lt (i + k) n);
      lower = λ i a b s. ⊎_elim (λ (q : i + long ≤ n). c.lower i a q s) (λ (q : n < i + long). omega (arith, c.inside)) (le-or-lt (i + long) n);
      short = omega arith;
    }
      where
        one : (i k : ℕ) → i + k ≤ n + 1 → n < i + k → Stretch g d i k → k ≤ long
        one i zero b q s = omega arith
        one i (suc k) b q s = absurd (within i (suc k) s n (omega arith) q t)

    module _ (t : taken g d n ≡ false) where
      last' : Stretch g d (n + 1 - (here + 1)) (here + 1)
      last' k a b = go (ℕ_discrete k n)
        where
          go : Dec (k ≡ n) → (k < granules g) × (taken g d k ≡ false)
          go (yes q) = rw q (h, t)
          go (no q) = let z = c.start in c.last k (omega arith) (omega arith)

      -- a stretch that ends with granule n
      back : (i : ℕ) → from ≤ i → i ≤ n → Stretch g d i (n + 1 - i) → n - here ≤ i
      back i a b s = c.edge i a b (part i (n + 1 - i) i (n - i) s (omega arith) (omega arith))

      edge' : (i : ℕ) → from ≤ i → i ≤ n + 1 → Stretch g d i (n + 1 - i) → n + 1 - (here + 1) ≤ i
      edge' i a b s = ⊎_elim (λ (q : i ≤ n). omega (arith, back i a q s)) (λ (q : n < i). omega arith) (le-or-lt i n)

      -- none from `from` on that ends by then is longer than both
      most' : (i k : ℕ) → from ≤ i → i + k ≤ n + 1 → Stretch g d i k → (k ≤ long) ⊎ ((k ≤ here + 1) × (n < i + k))
      most' i k a b s = ⊎_elim (λ (q : i + k ≤ n). inl (c.longest i k a q s)) (λ (q : n < i + k). go k b q s) (le-or-lt (i + k) n)
        where
          go : (k : ℕ) → i + k ≤ n + 1 → n < i + k → Stretch g d i k → (k ≤ long) ⊎ ((k ≤ here + 1) × (n < i + k))
          go zero b q s = inl (omega arith)
          go (suc k) b q s =
              let z = back i a (omega arith) (part i (suc k) i (n + 1 - i) s (omega arith) (omega arith)) in let w = c.start in
              inr (omega arith, q)

      pub low-shorter : here + 1 ≤ long → Low from (n + 1) (here + 1) low long
      low-shorter l = record {
        start = omega (arith, c.start);
        high = omega arith;
        last = last';
        edge = edge';
        best = c.best;
        inside = omega (arith, c.inside);
        longest = λ i k a b s. ⊎_elim (λ (q : k ≤ long). q) (λ q. let z = q.0 in omega arith) (most' i k a b s);
        lower = λ i a b s. ⊎_elim (λ (q : i + long ≤ n). c.lower i a q s) (λ (q : n < i + long). omega (arith, c.inside)) (le-or-lt (i + long) n);
        short = l;
      }

      pub low-longer : long < here + 1 → Low from (n + 1) (here + 1) (n + 1 - (here + 1)) (here + 1)
      low-longer l =
          let w = c.start in let v = c.short in
          record {
            start = omega arith;
            high = omega arith;
            last = last';
            edge = edge';
            best = last';
            inside = omega arith;
            longest = λ i k a b s. ⊎_elim (λ (q : k ≤ long). omega arith) (λ q. q.0) (most' i k a b s);
            lower = λ i a b s. ⊎_elim
                (λ (q : here + 1 ≤ long). absurd (let z : ⊥ = omega arith in z))
                (λ q. let z = q.1 in omega arith) (most' i (here + 1) a b s);
            short = omega arith;
          }

  -- all that starts behind is higher, and ends behind
  higher : {from n here low long : ℕ} → Low from n here low long → (i : ℕ) → from ≤ i → Stretch g d i long → low ≤ i
  higher {from} {n} {here} {low} {long} c i a s = ⊎_elim
      (λ (q : i + long ≤ n). c.lower i a q s)
      (λ (q : n < i + long). omega (arith, c.inside)) (le-or-lt (i + long) n)

  pub low-found : {from n here low long most : ℕ} → Low from n here low long → most ≤ long → LongestFrom g d from most (record { low = low; long = long })
  low-found c h = record { free = c.best; longest = λ i n a s. inr h; lower = higher c }

  pub low-done : {from n here low long most : ℕ} → Low from n here low long → granules g ≤ n → LongestFrom g d from most (record { low = low; long = long })
  low-done {from} {n} {here} {low} {long} c h = record { free = c.best; longest = λ i k a s. inl (go i k a s); lower = higher c }
    where
      go : (i k : ℕ) → from ≤ i → Stretch g d i k → k ≤ long
      go i zero a s = omega arith
      go i (suc k) a s = let z = ends i (suc k) s (omega arith) in c.longest i (suc k) a (omega arith) s

  -- So many granules free: those from n up to i are ---------------------------------------------------------------------------------

  pub record ClearSoFar (n many i left : ℕ) : Type 0 where
    pub sum : i + left ≡ n + many
    pub low : n ≤ i
    pub passed : Stretch g d n (i - n)

  pub clear-inside : {i : ℕ} {r : Bool} → IsClear g d i r → not r ≡ false → i < granules g
  clear-inside {r = true} w e = (w.yes refl).0
  clear-inside {r = false} w e = absurd (differ refl e)

  pub clearing-start : {n many i left : ℕ} → i ≡ n → left ≡ many → ClearSoFar n many i left
  clearing-start e f = record { sum = omega (arith, e, f); low = omega (arith, e); passed = λ k a b. absurd (let z : ⊥ = omega (arith, e) in z) }

  pub clearing-fits : {n many i left most : ℕ} → ClearSoFar n many i left → n ≤ most → granules g ≤ most → i ≤ most
  clearing-fits {n} {many} {i} {left} {most} c h k = ⊎_elim (λ (q : i ≤ n). let z : i ≤ most = omega arith in z)
      (λ (q : n < i). let y = (c.passed (i - 1) (omega arith) (omega arith)).0 in let z : i ≤ most = omega arith in z) (le-or-lt i n)

  pub clearing-step : {n many i left i' left' : ℕ} {r : Bool} → ClearSoFar n many i left → i' ≡ i + 1 → left' + 1 ≡ left → IsClear g d i r
      → not r ≡ false → ClearSoFar n many i' left'
  clearing-step {n = n} {many = many} {i = i} {left = left} {r = true} c u h w e = record {
    sum = omega (arith, c.sum, u, h);
    low = omega (arith, c.low, u);
    passed = λ k a b. go k a (let z : k < n + (i + 1 - n) = omega (arith, u) in z) (ℕ_discrete k i);
  }
    where
      go : (k : ℕ) → n ≤ k → k < n + (i + 1 - n) → Dec (k ≡ i) → (k < granules g) × (taken g d k ≡ false)
      go k a b (yes q) = rw q (w.yes refl)
      go k a b (no q) = let z = c.low in c.passed k a (omega arith)
  clearing-step {r = false} c u h w e = absurd (differ refl e)

  pub clearing-stop : {n many i left : ℕ} {r : Bool} → ClearSoFar n many i left → 0 < left → IsClear g d i r → not r ≡ true → AllClear g d n many false
  clearing-stop {r = true} c h w e = absurd (differ e refl)
  clearing-stop {n = n} {many = many} {i = i} {left = left} {r = false} c h w e = record {
    yes = λ q. absurd (differ q refl);
    no = λ q s. let z = s i c.low (omega (arith, c.sum)) in
        ⊎_elim (λ (y : granules g ≤ i). let x = z.0 in omega arith) (λ y. differ y z.1) (w.no refl);
  }

  pub clearing-end : {n many i left : ℕ} → ClearSoFar n many i left → left ≤ 0 → AllClear g d n many true
  clearing-end {n} {many} {i} {left} c h = record {
    yes = λ q k a b. c.passed k a (omega (arith, c.sum, c.low));
    no = λ q. absurd (differ refl q);
  }
