-- Bits of a byte.
use mathlib.Core.Path.{◌≡◌, refl, ap, ◌∙◌}
use Prim.Native.Nat.{ℕ, zero, suc, ◌+◌, ◌-◌, ◌*◌, ◌/◌, ◌%◌, ◌^◌, ◌<◌}
use native.Mathlib.Omega.{arith}
use native.Mathlib.Nat.{pow-suc}
use lib.Bits.{bit_and, bit_or, and_block, or_block, and_zero_r, or_zero_r}
use lib.Dec.{eqb}
use borrow.Author.Tests.{eqb-true}
use Rattle.lists.specs.Below.{all-below}
use Rattle.meaning.specs.Bits.{put_digit}

pub shl_one : (u : ℕ) → u < 8 → 1 * 2 ^ u % 18446744073709551616 ≡ 2 ^ u
shl_one u h = eqb-true _ _ (all-below 8 (λ u. eqb (1 * 2 ^ u % 18446744073709551616) (2 ^ u)) refl u h)

-- a byte by its lowest digit and the rest
halves : (b : ℕ) → b ≡ b / 2 * 2 ^ 1 + b % 2
halves b = omega arith

digit_or : (b : ℕ) → bit_or (b % 2) 1 ≡ 1
digit_or b = by (b % 2) (omega arith)
  where
    by : (d : ℕ) → d < 2 → bit_or d 1 ≡ 1
    by zero h = refl
    by (suc zero) h = refl
    by (suc (suc d)) h = absurd (let z : ⊥ = omega arith in z)

digit_and : (b : ℕ) → bit_and (b % 2) 1 ≡ b % 2
digit_and b = by (b % 2) (omega arith)
  where
    by : (d : ℕ) → d < 2 → bit_and d 1 ≡ d
    by zero h = refl
    by (suc zero) h = refl
    by (suc (suc d)) h = absurd (let z : ⊥ = omega arith in z)

-- a power of two by its lowest digit, 0, and the rest
twice : (u : ℕ) → 2 ^ suc u ≡ 2 ^ u * 2 ^ 1 + 0
twice u = pow-suc 2 u ∙ (let z : 2 ^ u * 2 ≡ 2 ^ u * 2 ^ 1 + 0 = omega arith in z)

-- the byte with a bit put, as the bit with the others or without
pub set-bit : (u b : ℕ) → bit_or b (2 ^ u) ≡ put_digit b u 1
unfolding put_digit
set-bit zero b =
    ap (λ (x : ℕ). bit_or x (0 * 2 ^ 1 + 1)) (halves b) ∙ or_block 1 (b / 2) 0 (b % 2) 1 (omega arith) (omega arith)
    ∙ ap (λ (x : ℕ). x * 2 ^ 1 + bit_or (b % 2) 1) (or_zero_r (b / 2)) ∙ ap (λ (x : ℕ). b / 2 * 2 ^ 1 + x) (digit_or b)
set-bit (suc u) b =
    ap (λ (x : ℕ). bit_or x (2 ^ suc u)) (halves b) ∙ ap (λ (x : ℕ). bit_or (b / 2 * 2 ^ 1 + b % 2) x) (twice u)
    ∙ or_block 1 (b / 2) (2 ^ u) (b % 2) 0 (omega arith) (omega arith)
    ∙ ap (λ (x : ℕ). x * 2 ^ 1 + bit_or (b % 2) 0) (set-bit u (b / 2)) ∙ ap (λ (x : ℕ). put_digit (b / 2) u 1 * 2 ^ 1 + x) (or_zero_r (b % 2))

one_bit : (u b : ℕ) → put_digit b u 0 + bit_and b (2 ^ u) ≡ b
unfolding put_digit
one_bit zero b =
    let e : bit_and b 1 ≡ 0 * 2 ^ 1 + bit_and (b % 2) 1 =
    ap (λ (x : ℕ). bit_and x (0 * 2 ^ 1 + 1)) (halves b) ∙ and_block 1 (b / 2) 0 (b % 2) 1 (omega arith) (omega arith)
    ∙ ap (λ (x : ℕ). x * 2 ^ 1 + bit_and (b % 2) 1) (and_zero_r (b / 2)) in
    let d = digit_and b in
    omega arith
one_bit (suc u) b =
    let e : bit_and b (2 ^ suc u) ≡ bit_and (b / 2) (2 ^ u) * 2 =
    ap (λ (x : ℕ). bit_and x (2 ^ suc u)) (halves b) ∙ ap (λ (x : ℕ). bit_and (b / 2 * 2 ^ 1 + b % 2) x) (twice u)
    ∙ and_block 1 (b / 2) (2 ^ u) (b % 2) 0 (omega arith) (omega arith)
    ∙ ap (λ (x : ℕ). bit_and (b / 2) (2 ^ u) * 2 ^ 1 + x) (and_zero_r (b % 2)) ∙
    (let z : bit_and (b / 2) (2 ^ u) * 2 ^ 1 + 0 ≡ bit_and (b / 2) (2 ^ u) * 2 = omega arith in z) in
    let ih = one_bit u (b / 2) in
    omega arith

pub clear-bit : (u b : ℕ) → b - bit_and b (2 ^ u) ≡ put_digit b u 0
clear-bit u b = let e = one_bit u b in omega arith
