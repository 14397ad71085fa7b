-- FREE by the GAT's bytes: the clear bits of one block after the other.
use mathlib.Core.Path.{◌≡◌, refl, sym, ap, ap₂, ◌∙◌}
use mathlib.Core.List.{List}
use mathlib.Core.Bool.{Bool, true, false, not, cond, ◌&&◌}
use Prim.Native.Nat.{ℕ, zero, suc, ◌+◌, ◌-◌, ◌*◌, ◌/◌, ◌%◌, ◌^◌, ◌≤◌, ◌<◌}
use native.Mathlib.Omega.{arith}
use native.Mathlib.Decide.{ℕ_discrete}
use native.Mathlib.Nat.{zero-add, add-zero, add-mul, one-mul, zero-mul, mul-add-div_right, mul-add-mod_self_right, div-eq_of_lt, mod-eq_of_lt, div-one}
use native.Mathlib.Nat.{div-div-eq-div-mul, pow-succ', pow-suc, mul_comm, mod-one, div-add-mod'}
use lib.ListN.{length}
use lib.Dec.{eqb}
use lib.Arith.{mod-mul}
use lib.Pow.{pow_pos}
use lib.Count.{ones, ones_step}
use borrow.Author.Tests.{eq-eqb, ne_eqb, eqb-true}
use Rattle.meaning.specs.Lists.{count, keep, every}
use Rattle.meaning.specs.Layout.{byte, granules, taken}
use Rattle.meaning.specs.Bits.{digit}
use Rattle.meaning.specs.Free.{free_granules}
use Rattle.meaning.specs.declared.Geometry.{Geometry}
use Rattle.layout.proofs.OneStep.{digit_at}
use Rattle.lists.specs.Tests.{keep-yes, keep-no}
use Rattle.lists.specs.Below.{all_below, all-below, alike, alike-eq}
use Rattle.space.specs.Clear.{clear_bits, free_in}

pub shl_wide : (n : ℕ) → n ≤ 8 → 1 * 2 ^ n % 18446744073709551616 ≡ 2 ^ n
shl_wide n h = eqb-true _ _ (all-below 9 (λ n. eqb (1 * 2 ^ n % 18446744073709551616) (2 ^ n)) refl n (omega arith))

-- clear and set bits together are all of them
pub clear-ones : (n x : ℕ) → clear_bits n x + ones (x % 2 ^ n) ≡ n
unfolding clear_bits ones
clear-ones zero x = zero-add (ones (x % 1)) ∙ ap ones (mod-one x)
clear-ones (suc n) x =
    let m = x / 2 % 2 ^ n in
    let e : x % 2 ^ suc n ≡ m * 2 + x % 2 = ap (λ (k : ℕ). x % k) (pow-suc 2 n) ∙ mod-mul x (pow_pos n) (omega arith) in
    let p : (m * 2 + x % 2) % 2 ≡ x % 2 = omega arith in
    let q : (m * 2 + x % 2) / 2 ≡ m = omega arith in
    let f : ones (x % 2 ^ suc n) ≡ x % 2 + ones m = ap ones e ∙ ones_step (m * 2 + x % 2) ∙ ap₂ (λ (a b : ℕ). a + ones b) p q in
    let ih = clear-ones n (x / 2) in
    omega arith

-- all of them are set, by computing every case
unfoldable filled : ℕ → ℕ → Bool
unfolding clear_bits alike
filled n x = alike (eqb (x % 2 ^ n) (2 ^ n - 1)) (eqb (clear_bits n x) 0)

filled-all : all_below 9 (λ n. all_below 256 (filled n)) ≡ true
unfolding filled clear_bits alike
filled-all = refl

pub set_all : (n x : ℕ) → n ≤ 8 → x < 256 → eqb (x % 2 ^ n) (2 ^ n - 1) ≡ eqb (clear_bits n x) 0
unfolding filled
set_all n x h l = alike-eq _ _ (all-below 256 (filled n) (all-below 9 (λ n. all_below 256 (filled n)) filled-all n (omega arith)) x l)

-- the granules of the blocks from b on are those of block b and the rest, and where the rest begins
pub blocks_more : (blocks b units : ℕ) → b < blocks → (blocks - b) * units ≡ units + (blocks - (b + 1)) * units
blocks_more blocks b units h =
    let m = blocks - (b + 1) in
    let c : blocks - b ≡ 1 + m = omega arith in
    ap (λ (j : ℕ). j * units) c ∙ add-mul 1 m units ∙ ap (λ (j : ℕ). j + m * units) (one-mul units)

pub block-next : (b units : ℕ) → b * units + units ≡ (b + 1) * units
block-next b units = sym (add-mul b 1 units ∙ ap (λ (j : ℕ). b * units + j) (one-mul units))

clear_of : (y : ℕ) → cond (eqb (y % 2) 1) 0 1 ≡ 1 - y % 2
clear_of y = by (ℕ_discrete (y % 2) 1)
  where
    by : Dec (y % 2 ≡ 1) → cond (eqb (y % 2) 1) 0 1 ≡ 1 - y % 2
    by (yes e) = let z : 0 ≡ 1 - y % 2 = omega arith in ap (λ (b : Bool). cond b 0 1) (eq-eqb (y % 2) 1 e) ∙ z
    by (no e) = let z : 1 ≡ 1 - y % 2 = omega arith in ap (λ (b : Bool). cond b 0 1) (ne_eqb (y % 2) 1 e) ∙ z

module _ (g : Geometry) (d : List ℕ) where
  free_one : (i n : ℕ) → free_in g d i (suc n) ≡ cond (taken g d i) 0 1 + free_in g d (i + 1) n
  unfolding free_in
  free_one i n = by (taken g d i) refl
    where
      by : (t : Bool) → taken g d i ≡ t → length (keep (λ k. not (taken g d k)) (count i (suc n))) ≡ cond (taken g d i) 0 1 + length
          (keep (λ k. not (taken g d k)) (count (i + 1) n))
      by true e =
          ap length (keep-no (λ k. not (taken g d k)) {x = i} (ap not e) (count (i + 1) n)) ∙ sym (zero-add _)
          ∙ ap (λ (b : Bool). cond b 0 1 + length (keep (λ k. not (taken g d k)) (count (i + 1) n))) (sym e)
      by false e =
          let m = length (keep (λ k. not (taken g d k)) (count (i + 1) n)) in
          let z : suc m ≡ 1 + m = omega arith in
          ap length (keep-yes (λ k. not (taken g d k)) {x = i} (ap not e) (count (i + 1) n)) ∙ z
          ∙ ap (λ (b : Bool). cond b 0 1 + length (keep (λ k. not (taken g d k)) (count (i + 1) n))) (sym e)

  pub free-none : (i : ℕ) → free_in g d i 0 ≡ 0
  unfolding free_in
  free-none i = refl

  pub free-append : (i m n : ℕ) → free_in g d i (m + n) ≡ free_in g d i m + free_in g d (i + m) n
  free-append i zero n =
      ap (free_in g d i) (zero-add n) ∙ sym (zero-add (free_in g d i n)) ∙ ap (λ (k : ℕ). k + free_in g d i n) (sym (free-none i))
      ∙ ap (λ (k : ℕ). free_in g d i 0 + free_in g d k n) (sym (add-zero i))
  free-append i (suc m) n =
      let e : suc m + n ≡ suc (m + n) = omega arith in
      let f : i + 1 + m ≡ i + suc m = omega arith in
      let a : ℕ = cond (taken g d i) 0 1 in
      let z : a + (free_in g d (i + 1) m + free_in g d (i + 1 + m) n) ≡ a + free_in g d (i + 1) m + free_in g d (i + 1 + m) n = omega arith in
      ap (free_in g d i) e ∙ free_one i (m + n) ∙ ap (λ (k : ℕ). a + k) (free-append (i + 1) m n) ∙ z
      ∙ ap (λ (k : ℕ). k + free_in g d (i + 1 + m) n) (sym (free_one i m)) ∙ ap (λ (k : ℕ). free_in g d i (suc m) + free_in g d k n) f

  -- the GAT byte of a block, and its bits
  unfoldable pub gat_byte : ℕ → ℕ
  gat_byte b = byte d (256 * g.start + b)

  module _ (some : 0 < g.units) where
    pub taken_at : (b u : ℕ) → u < g.units → taken g d (b * g.units + u) ≡ eqb (gat_byte b / 2 ^ u % 2) 1
    unfolding taken gat_byte
    taken_at b u h =
        let q : (b * g.units + u) / g.units ≡ b = mul-add-div_right {m = g.units} some b u ∙ ap (λ (k : ℕ). b + k) (div-eq_of_lt h) ∙ add-zero b in
        let r : (b * g.units + u) % g.units ≡ u = mul-add-mod_self_right b g.units u ∙ mod-eq_of_lt h in
        ap (λ (k : ℕ). eqb (digit (byte d (256 * g.start + (b * g.units + u) / g.units)) k) 1) r
        ∙ ap (λ (k : ℕ). eqb (digit (byte d (256 * g.start + k)) u) 1) q ∙ ap (λ (k : ℕ). eqb k 1) (digit_at u (byte d (256 * g.start + b)))

    free-bits : (b u m : ℕ) → u + m ≤ g.units → free_in g d (b * g.units + u) m ≡ clear_bits m (gat_byte b / 2 ^ u)
    unfolding clear_bits
    free-bits b u zero h = free-none (b * g.units + u)
    free-bits b u (suc m) h =
        let x = gat_byte b in
        let f : b * g.units + u + 1 ≡ b * g.units + (u + 1) = omega arith in
        let s : u + 1 ≡ suc u = omega arith in
        let half : x / 2 ^ (u + 1) ≡ x / 2 ^ u / 2 = ap (λ (k : ℕ). x / 2 ^ k) s ∙ ap (λ (k : ℕ). x / k) (pow-succ' 2 u ∙ mul_comm 2 (2 ^ u)) ∙ sym
        (div-div-eq-div-mul x (2 ^ u) 2) in
        free_one (b * g.units + u) m
        ∙ ap (λ (t : Bool). cond t 0 1 + free_in g d (b * g.units + u + 1) m) (taken_at b u (omega arith))
        ∙ ap (λ (k : ℕ). k + free_in g d (b * g.units + u + 1) m) (clear_of (x / 2 ^ u))
        ∙ ap (λ (k : ℕ). 1 - x / 2 ^ u % 2 + free_in g d k m) f
        ∙ ap (λ (k : ℕ). 1 - x / 2 ^ u % 2 + k) (free-bits b (u + 1) m (omega arith))
        ∙ ap (λ (k : ℕ). 1 - x / 2 ^ u % 2 + clear_bits m k) half

    pub free-block : (b : ℕ) → free_in g d (b * g.units) g.units ≡ clear_bits g.units (gat_byte b)
    free-block b =
        ap (λ (k : ℕ). free_in g d k g.units) (sym (add-zero (b * g.units))) ∙ free-bits b 0 g.units (omega arith)
        ∙ ap (clear_bits g.units) (div-one (gat_byte b))

  -- none of n granules from i on is free: all are taken
  free-every : (i n : ℕ) → eqb (free_in g d i n) 0 ≡ every (taken g d) (count i n)
  free-every i zero = ap (λ (k : ℕ). eqb k 0) (free-none i)
  free-every i (suc n) = ap (λ (k : ℕ). eqb k 0) (free_one i n) ∙ by (taken g d i) (free-every (i + 1) n)
    where
      by : (t : Bool) → eqb (free_in g d (i + 1) n) 0 ≡ every (taken g d) (count (i + 1) n) → eqb (cond t 0 1 + free_in g d (i + 1) n) 0 ≡
          (t && every (taken g d) (count (i + 1) n))
      by true e = ap (λ (k : ℕ). eqb k 0) (zero-add (free_in g d (i + 1) n)) ∙ e
      by false e = ne_eqb (1 + free_in g d (i + 1) n) 0 (λ q. let z : ⊥ = omega arith in z)

  -- the block that begins with granule n
  pub block-every : (n : ℕ) {x : ℕ} → 0 < g.units → n % g.units ≡ 0 → x ≡ byte d (256 * g.start + n / g.units) → eqb (clear_bits g.units x) 0 ≡ every
      (taken g d) (count n g.units)
  unfolding gat_byte
  block-every n {x} some h e =
      let q : n / g.units * g.units ≡ n = sym (add-zero _) ∙ ap (λ (k : ℕ). n / g.units * g.units + k) (sym h) ∙ div-add-mod' n g.units in
      ap (λ (k : ℕ). eqb (clear_bits g.units k) 0) e ∙ ap (λ (k : ℕ). eqb k 0)
      (sym (free-block some (n / g.units)) ∙ ap (λ (k : ℕ). free_in g d k g.units) q)
      ∙ free-every n g.units

  -- the blocks from b on are done, n granules of them are free
  pub record Freed (b n : ℕ) : Type 0 where
    pub rest : length (free_granules g d) ≡ free_in g d 0 (b * g.units) + n

  pub freed-start : Freed g.blocks 0
  unfolding free_granules free_in granules
  freed-start = record { rest = sym (add-zero _) }

  -- m blocks more
  pub freed-more : (m : ℕ) {b n k : ℕ} → Freed b n → m ≤ b → k ≡ free_in g d ((b - m) * g.units) (m * g.units) → Freed (b - m) (n + k)
  freed-more m {b} {n} {k} f h q =
      let units = g.units in
      let c = b - m in
      let low = free_in g d 0 (c * units) in
      let e : b ≡ c + m = omega arith in
      let z : low + k + n ≡ low + (n + k) = omega arith in
      record {
        rest =
            f.rest ∙ ap (λ (j : ℕ). free_in g d 0 (j * units) + n) e ∙ ap (λ (j : ℕ). free_in g d 0 j + n) (add-mul c m units)
            ∙ ap (λ (j : ℕ). j + n) (free-append 0 (c * units) (m * units)) ∙ ap (λ (j : ℕ). low + free_in g d j (m * units) + n) (zero-add (c * units))
            ∙ ap (λ (j : ℕ). low + j + n) (sym q) ∙ z;
      }

  pub freed-step : {b n k x : ℕ} → 0 < g.units → Freed b n → 0 < b → x ≡ byte d (256 * g.start + (b - 1)) → k ≡ clear_bits g.units x → Freed (b - 1)
      (n + k)
  unfolding gat_byte
  freed-step {b} {n} {k} {x} some f h p q =
      freed-more 1 f h
      (q ∙ ap (clear_bits g.units) p ∙ sym (free-block some (b - 1)) ∙ ap (free_in g d ((b - 1) * g.units)) (sym (one-mul g.units)))

  pub freed-end : {n : ℕ} → Freed 0 n → n ≡ length (free_granules g d)
  freed-end {n} f =
      sym (f.rest ∙ ap (λ (j : ℕ). free_in g d 0 j + n) (zero-mul g.units) ∙ ap (λ (j : ℕ). j + n) (free-none 0) ∙ zero-add n)
