-- The searches of a growth, one element a turn.
use mathlib.Core.Path.{◌≡◌, ap, sym, ◌∙◌}
use mathlib.Core.Logic.{inl, inr, ⊎_elim}
use mathlib.Core.Bool.{Bool, true, false, not}
use mathlib.Core.List.{List, [], ◌∷◌}
use Prim.Native.Nat.{ℕ, ◌+◌, ◌*◌, ◌/◌, ◌%◌, ◌≤◌, ◌<◌}
use native.Mathlib.Omega.{arith}
use native.Mathlib.Nat.{add-zero, add-mul, one-mul, div-add-mod', div-lt_iff_lt-mul, mul-le-mul_right}
use native.Mathlib.Decide.{ℕ_discrete}
use lib.Dec.{eqb}
use borrow.Author.Tests.{eqb-true}
use Rattle.meaning.specs.Lists.{count, every, all}
use Rattle.meaning.specs.Layout.{granules, taken}
use Rattle.meaning.specs.Free.{free_slot}
use Rattle.meaning.specs.declared.Geometry.{Geometry}
use Rattle.lists.specs.Tests.{le-or-lt, all-at, every-count}
use Rattle.growth_search.specs.Search.{IsClear, NextFree, NextSlot}

module _ (g : Geometry) (d : List ℕ) where
  -- The next free granule: all from `from` up to n passed -------------------------------------------------------------------------

  pub record Passing (from n total : ℕ) : Type 0 where
    pub low : from ≤ n
    pub high : n ≤ total
    pub passed : (m : ℕ) → from ≤ m → m < n → taken g d m ≡ true

  pub passing-start : {from total : ℕ} → from ≤ total → Passing from from total
  passing-start h = record { low = omega arith; high = h; passed = λ m a b. absurd (let z : ⊥ = omega arith in z) }

  pub passing_step : {from n total : ℕ} → Passing from n total → n < total → taken g d n ≡ true → Passing from (n + 1) total
  passing_step {from} {n} {total} w h t = record {
    low = omega (arith, w.low);
    high = omega arith;
    passed = λ m a b. go m a b (ℕ_discrete m n);
  }
    where
      go : (m : ℕ) → from ≤ m → m < n + 1 → Dec (m ≡ n) → taken g d m ≡ true
      go m a b (yes q) = rw q t
      go m a b (no q) = w.passed m a (omega arith)

  -- a block that begins with n and is taken
  pub passing-block : {from n total : ℕ} → 0 < g.units → Passing from n total → n < total → total ≡ granules g
      → all (eqb (n % g.units) 0 ∷ every (taken g d) (count n g.units) ∷ []) ≡ true → Passing from (n + g.units) total
  unfolding granules
  passing-block {from} {n} {total} some w h e t =
      let z = eqb-true (n % g.units) 0 (all-at _ t 0) in
      let q : n / g.units * g.units ≡ n = sym (add-zero _) ∙ ap (λ (k : ℕ). n / g.units * g.units + k) (sym z) ∙ div-add-mod' n g.units in
      let b : n / g.units < g.blocks = (div-lt_iff_lt-mul some).1 (omega arith) in
      let m = mul-le-mul_right g.units b in
      let s : (n / g.units + 1) * g.units ≡ n / g.units * g.units + g.units = add-mul (n / g.units) 1 g.units ∙ ap
      (λ (k : ℕ). n / g.units * g.units + k) (one-mul g.units) in
      record {
        low = omega (arith, w.low);
        high = omega arith;
        passed = λ m a b. ⊎_elim (λ l. every-count (taken g d) n g.units m (all-at _ t 1) l b) (λ l. w.passed m a l) (le-or-lt n m);
      }

  pub passing-found : {from n total : ℕ} → Passing from n total → total ≡ granules g → taken g d n ≡ false → NextFree g d from n
  passing-found w e t = record { low = w.low; high = rw e at w.high; passed = w.passed; found = λ h. t }

  pub passing-end : {from n total : ℕ} → Passing from n total → total ≡ granules g → total ≤ n → NextFree g d from n
  passing-end w e h = record { low = w.low; high = rw e at w.high; passed = w.passed; found = λ q. absurd (let z : ⊥ = omega arith in z) }

  -- The next free slot ----------------------------------------------------------------------------------------------------------

  pub record Looking (from s : ℕ) : Type 0 where
    pub low : from ≤ s
    pub high : s ≤ 256
    pub passed : (m : ℕ) → from ≤ m → m < s → free_slot g d m ≡ false

  pub looking-start : {from : ℕ} → from ≤ 256 → Looking from from
  looking-start h = record { low = omega arith; high = h; passed = λ m a b. absurd (let z : ⊥ = omega arith in z) }

  pub looking-step : {from s : ℕ} → Looking from s → s < 256 → free_slot g d s ≡ false → Looking from (s + 1)
  looking-step {from} {s} w h t = record {
    low = omega (arith, w.low);
    high = omega arith;
    passed = λ m a b. go m a b (ℕ_discrete m s);
  }
    where
      go : (m : ℕ) → from ≤ m → m < s + 1 → Dec (m ≡ s) → free_slot g d m ≡ false
      go m a b (yes q) = rw q t
      go m a b (no q) = w.passed m a (omega arith)

  pub looking-found : {from s : ℕ} → Looking from s → free_slot g d s ≡ true → NextSlot g d from s
  looking-found w t = record { low = w.low; high = w.high; passed = w.passed; found = λ h. t }

  pub looking-end : {from s : ℕ} → Looking from s → 256 ≤ s → NextSlot g d from 256
  looking-end w h = record {
    low = omega (arith, w.low, w.high);
    high = omega arith;
    passed = λ n a b. w.passed n a (omega arith);
    found = λ q. absurd (let z : ⊥ = omega arith in z);
  }

  -- The tests of one granule -------------------------------------------------------------------------------------------------------

  differ : true ≡ false → ⊥
  differ q = let z : ◌≡◌ {A = ℕ} 0 1 = cc in omega arith

  pub clear-off : {n total : ℕ} → total ≡ granules g → total ≤ n → IsClear g d n false
  clear-off e h = record { yes = λ q. absurd (differ (sym q)); no = λ q. inl (omega arith) }

  pub clear_at : {n total : ℕ} {t : Bool} → total ≡ granules g → n < total → t ≡ taken g d n → IsClear g d n (not t)
  clear_at {t = true} e h q = record { yes = λ z. absurd (differ (sym z)); no = λ z. inr (sym q) }
  clear_at {t = false} e h q = record { yes = λ z. (omega arith, sym q); no = λ z. absurd (differ z) }
