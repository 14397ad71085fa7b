-- Eight GAT bytes as one number: each of them is its block's, and the bits that are set in the number are those of the blocks.
use mathlib.Core.Path.{◌≡◌, sym, ap, ap₂, subst, ◌∙◌}
use mathlib.Core.List.{List, [], ◌∷◌}
use Prim.Native.Nat.{ℕ, zero, suc, ◌+◌, ◌-◌, ◌*◌, ◌%◌, ◌^◌, ◌≤◌, ◌<◌}
use native.Mathlib.Omega.{arith}
use native.Mathlib.Nat.{add-zero, zero-mul, mul-one, mul-add, mul_assoc, mul_comm, suc-mul}
use lib.Bits.{bit_and, and_block, and_mask, and_lt, and_zero_l}
use lib.Count.{ones, ones_cat}
use lib.ListN.{length, get_or, take, drop, replicate, length-take, length-drop}
use lib.Seq.{get_or-take, get_or-drop}
use Rattle.meaning.specs.Layout.{byte}
use Rattle.meaning.specs.declared.Geometry.{Geometry}
use Rattle.layout.specs.Number.{number}
use Rattle.space.specs.Clear.{clear_bits, free_in}
use Rattle.space.specs.Marks.{mask}
use Rattle.space.proofs.Masks.{mask-small}
use Rattle.space.proofs.Clear.{gat_byte, clear-ones, block-next, free-none, free-append, free-block}

module _ (g : Geometry) (d : List ℕ) (b at : ℕ) (e : at ≡ 256 * g.start + b) where
  -- byte k of them is that of block b + k
  pub byte_of : (k : ℕ) → k < 8 → get_or (take 8 (drop at d)) k 0 ≡ byte d (256 * g.start + (b + k))
  byte_of k h =
      let f : at + k ≡ 256 * g.start + (b + k) = omega arith in
      get_or-take 8 (drop at d) k 0 h ∙ get_or-drop at d k 0 ∙ ap (byte d) f

  pub eight-long : at + 8 ≤ length d → length (take 8 (drop at d)) ≡ 8
  eight-long h = length-take 8 (drop at d) ∙ (let l = length-drop at d in omega arith)

-- the same number in each of n bytes
abbrev each : ℕ → ℕ
each n = number (replicate n 1)

module _ (g : Geometry) (d : List ℕ) (some : 0 < g.units) (few : g.units ≤ 8) where
  abbrev low : ℕ
  low = 2 ^ g.units - 1

  low_small : low < 2 ^ 8
  low_small = subst (λ (x : ℕ). x < 256) (mul-one low) (mask-small 0 g.units (omega arith))

  -- what is set of n blocks' bits, and what is free, are all of them
  free-eights : (n b : ℕ) (xs : List ℕ) → length xs ≡ n → ((k : ℕ) → k < n → get_or xs k 0 ≡ gat_byte g d (b + k)) → ((k : ℕ) → k < n → get_or xs k 0 < 256)
      → free_in g d (b * g.units) (n * g.units) + ones (bit_and (number xs) (low * each n)) ≡ n * g.units
  unfolding number
  free-eights zero b [] l e s =
      ap₂ (λ (x y : ℕ). free_in g d (b * g.units) x + ones y) (zero-mul g.units) (and_zero_l (low * 0))
      ∙ ap (λ (x : ℕ). x + ones 0) (free-none g d (b * g.units)) ∙ (unfold ones in sym (zero-mul g.units))
  free-eights zero b (x ∷ xs) l e s = absurd (let z : ⊥ = omega arith in z)
  free-eights (suc n) b [] l e s = absurd (let z : ⊥ = omega arith in z)
  free-eights (suc n) b (x ∷ xs) l e s =
      let u = g.units in
      let a = number xs in let m = low * each n in
      let x-small : x < 2 ^ 8 = s 0 (omega arith) in
      let p : x + 256 * a ≡ a * 2 ^ 8 + x = omega arith in
      let q : low * (1 + 256 * each n) ≡ m * 2 ^ 8 + low =
      mul-add low 1 (256 * each n) ∙ ap₂ (λ (y z : ℕ). y + z) (mul-one low)
      (ap (λ (y : ℕ). low * y) (mul_comm 256 (each n)) ∙ sym (mul_assoc low (each n) 256)) ∙ (let z : low + m * 256 ≡ m * 2 ^ 8 + low = omega arith in z) in
      let o : ones (bit_and (x + 256 * a) (low * (1 + 256 * each n))) ≡ ones (bit_and a m) + ones (x % 2 ^ u) =
      ap ones (ap₂ bit_and p q ∙ and_block 8 a m x low x-small low_small)
      ∙ ones_cat 8 (bit_and a m) (bit_and x low) (and_lt 8 x low x-small low_small)
      ∙ ap (λ (y : ℕ). ones (bit_and a m) + ones y) (and_mask x u) in
      let r : free_in g d (b * u) (suc n * u) ≡ clear_bits u x + free_in g d ((b + 1) * u) (n * u) =
      ap (free_in g d (b * u)) (suc-mul n u ∙ (let z : n * u + u ≡ u + n * u = omega arith in z)) ∙ free-append g d (b * u) u (n * u)
      ∙ ap₂ (λ (y z : ℕ). y + free_in g d z (n * u)) (free-block g d some b ∙ ap (clear_bits u) (ap (gat_byte g d) (sym (add-zero b)) ∙ sym (e 0
      (omega arith))))
      (block-next b u) in
      let c = clear-ones u x in
      let h = free-eights n (b + 1) xs (omega arith)
      (λ k j. e (suc k) (omega arith) ∙ ap (gat_byte g d) (let z : b + suc k ≡ b + 1 + k = omega arith in z)) (λ k j. s (suc k) (omega arith)) in
      let t = suc-mul n u in
      omega arith

  -- of eight blocks, as the code counts them
  pub eight-free : (b at : ℕ) {x m : ℕ} → at ≡ 256 * g.start + b → at + 8 ≤ length d → ((i : ℕ) → get_or d i 0 < 256) → x ≡ number (take 8 (drop at d))
      → m ≡ mask 0 g.units → free_in g d (b * g.units) (8 * g.units) + ones (bit_and x (m * 72340172838076673)) ≡ 8 * g.units
  unfolding gat_byte number
  eight-free b at {x} {m} e h s p q =
      let xs : List ℕ = take 8 (drop at d) in
      ap₂ (λ (y z : ℕ). free_in g d (b * g.units) (8 * g.units) + ones (bit_and y (z * 72340172838076673))) p (q ∙ mul-one low)
      ∙ free-eights 8 b xs (eight-long g d b at e h) (byte_of g d b at e)
      (λ k j. subst (λ (y : ℕ). y < 256) (sym (byte_of g d b at e k j)) (s (256 * g.start + (b + k))))
