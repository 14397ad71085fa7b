-- A run cut into its blocks: how far a loop over them is.
use mathlib.Core.Path.{◌≡◌, ap, ◌∙◌}
use mathlib.Core.List.{List, ◌++◌}
use Prim.Native.Nat.{ℕ, ◌+◌, ◌-◌, ◌*◌, ◌/◌, ◌%◌, ◌≤◌, ◌<◌}
use native.Mathlib.Omega.{arith}
use native.Mathlib.Nat.{add-zero, div-add-mod', mul-add-div_right, mul-add-mod_self_right, div-eq_of_lt, mod-eq_of_lt, mod-lt, add-mul, one-mul}
use native.Mathlib.Nat.{le_of_mul-le-mul_right}
use lib.ListN.{length}
use Rattle.meaning.specs.Lists.{count}
use Rattle.meaning.specs.Layout.{granules, most_blocks}
use Rattle.meaning.specs.declared.Geometry.{Geometry}
use Rattle.layout.specs.Room.{Room}
use Rattle.lists.specs.Tests.{count-append}

-- unit u of block b
pub block_of : {units : ℕ} (b u : ℕ) → u < units → (b * units + u) / units ≡ b
block_of {units} b u h = mul-add-div_right {m = units} (omega arith) b u ∙ ap (λ (k : ℕ). b + k) (div-eq_of_lt h) ∙ add-zero b

pub unit-of : {units : ℕ} (b u : ℕ) → u < units → (b * units + u) % units ≡ u
unit-of {units} b u h = mul-add-mod_self_right b units u ∙ mod-eq_of_lt h

module _ (g : Geometry) where
  -- of n granules from a on the last `left` are to come, from unit u of block b on
  pub record Cut (a n b u left : ℕ) : Type 0 where
    pub few : left ≤ n
    pub unit : u < g.units
    pub last : b * g.units + u + left ≡ a + n

  pub cut-start : (a n : ℕ) → 1 ≤ g.units → Cut a n (a / g.units) (a % g.units) n
  cut-start a n h =
      record { few = omega arith; unit = mod-lt a {m = g.units} h; last = ap (λ (i : ℕ). i + n) (div-add-mod' a g.units) }

  pub cut_low : {d : List ℕ} {a n b u left : ℕ} → Room g d → a + n ≤ granules g → Cut a n b u left → b ≤ most_blocks
  unfolding granules
  cut_low {d} {a} {n} {b} {u} {left} r h m =
      let c = le_of_mul-le-mul_right {m = b} {n = g.blocks} {k = g.units} (omega (arith, m.last)) r.units-low in
      omega (arith, r.blocks-high)

  pub cut_inside : {d : List ℕ} {a n b u left : ℕ} → Room g d → a + n ≤ granules g → Cut a n b u left → 256 * g.start + b < length d
  cut_inside {d} {a} {n} {b} {u} {left} r h m =
      let c = cut_low r h m in
      let l = r.long in let t = r.directory in let w = r.ten in
      omega arith

  next : (b : ℕ) → (b + 1) * g.units ≡ b * g.units + g.units
  next b = add-mul b 1 g.units ∙ ap (λ (i : ℕ). b * g.units + i) (one-mul g.units)

  pub cut_step : {a n b u left : ℕ} → Cut a n b u left → g.units < u + left → Cut a n (b + 1) 0 (left - (g.units - u))
  cut_step {a} {n} {b} {u} {left} m h =
      let f = m.few in let o = m.unit in let q = next b in
      record { few = omega arith; unit = omega arith; last = omega (arith, m.last) }

  -- this block's granules, and those after it
  pub cut-count : {a n b u left : ℕ} → Cut a n b u left → g.units < u + left
      → count (b * g.units + u) left ≡ count (b * g.units + u) (g.units - u) ++ count ((b + 1) * g.units + 0) (left - (g.units - u))
  cut-count {a} {n} {b} {u} {left} m h =
      let k : ℕ = g.units - u in
      let o = m.unit in let q = next b in
      let p : left ≡ k + (left - k) = omega arith in
      let r : b * g.units + u + k ≡ (b + 1) * g.units + 0 = omega arith in
      ap (count (b * g.units + u)) p ∙ count-append (b * g.units + u) k (left - k)
      ∙ ap (λ (i : ℕ). count (b * g.units + u) k ++ count i (left - k)) r
