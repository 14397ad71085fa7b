-- Binary digits of `and`, `or` and masks.
use mathlib.Core.Path.{◌≡◌, refl, sym, ap, ap₂, ◌∙◌}
use mathlib.Core.Logic.{◌⊎◌, inl, inr}
use Prim.Native.Nat.{ℕ, zero, suc, ◌+◌, ◌-◌, ◌*◌, ◌/◌, ◌%◌, ◌^◌, ◌≤◌, ◌<◌, min, max}
use native.Mathlib.Omega.{arith}
use native.Mathlib.Nat.{pow-suc, min-le_left, max-le, min-zero, max-zero, zero-min, mul_assoc}
use lib.Bits.{bit_and, bit_or, and_step, or_step, and_le_r}
use lib.Pow.{pow_pos, shl_lt, ones_lt}
use Rattle.meaning.specs.Bits.{digit}
use Rattle.laws.specs.Bits.{digit_lt}
use Rattle.lists.specs.Tests.{le-or-lt}

low : (x y : ℕ) → y < 2 → (x * 2 + y) % 2 ≡ y
low x y h = omega arith

high : (x y : ℕ) → y < 2 → (x * 2 + y) / 2 ≡ x
high x y h = omega arith

min-lt : (x y : ℕ) → x < 2 → min x y < 2
min-lt x y h = let q = min-le_left x y in omega arith

max-lt : (x y : ℕ) → x < 2 → y < 2 → max x y < 2
max-lt x y h k = let a : x ≤ 1 = omega arith in let b : y ≤ 1 = omega arith in let q = max-le a b in omega arith

pub digit_and : (u a b : ℕ) → digit (bit_and a b) u ≡ min (digit a u) (digit b u)
unfolding digit
digit_and zero a b = ap (λ (x : ℕ). x % 2) (and_step a b) ∙ low (bit_and (a / 2) (b / 2)) (min (a % 2) (b % 2)) (min-lt (a % 2) (b % 2) (omega arith))
digit_and (suc u) a b =
    ap (λ (x : ℕ). digit (x / 2) u) (and_step a b)
    ∙ ap (λ (x : ℕ). digit x u) (high (bit_and (a / 2) (b / 2)) (min (a % 2) (b % 2)) (min-lt (a % 2) (b % 2) (omega arith))) ∙ digit_and u (a / 2) (b / 2)

pub digit_or : (u a b : ℕ) → digit (bit_or a b) u ≡ max (digit a u) (digit b u)
unfolding digit
digit_or zero a b = ap (λ (x : ℕ). x % 2) (or_step a b) ∙ low (bit_or (a / 2) (b / 2)) (max (a % 2) (b % 2))
    (max-lt (a % 2) (b % 2) (omega arith) (omega arith))
digit_or (suc u) a b =
    ap (λ (x : ℕ). digit (x / 2) u) (or_step a b)
    ∙ ap (λ (x : ℕ). digit x u) (high (bit_or (a / 2) (b / 2)) (max (a % 2) (b % 2)) (max-lt (a % 2) (b % 2) (omega arith) (omega arith))) ∙ digit_or u (a / 2)
    (b / 2)

pub digit-zero : (u : ℕ) → digit 0 u ≡ 0
unfolding digit
digit-zero zero = refl
digit-zero (suc u) = digit-zero u

-- a number whose digits are all 0 is 0
pub all-zero : (k x : ℕ) → x < 2 ^ k → ((u : ℕ) → u < k → digit x u ≡ 0) → x ≡ 0
unfolding digit
all-zero zero x h f = omega arith
all-zero (suc k) x h f =
    let p = pow-suc 2 k in
    let a : x % 2 ≡ 0 = f 0 (omega arith) in
    let b : x / 2 ≡ 0 = all-zero k (x / 2) (omega arith) (λ u l. f (suc u) (omega arith)) in omega arith

-- 2^n - 1 has n ones
pub ones_in : (n u : ℕ) → u < n → digit (2 ^ n - 1) u ≡ 1
unfolding digit
ones_in zero u h = absurd (let z : ⊥ = omega arith in z)
ones_in (suc n) zero h = let p = pow-suc 2 n in let q = pow_pos n in omega arith
ones_in (suc n) (suc u) h =
    ap (λ (x : ℕ). digit x u) (let p = pow-suc 2 n in let q = pow_pos n in let z : (2 ^ suc n - 1) / 2 ≡ 2 ^ n - 1 = omega arith in z) ∙ ones_in n u
    (omega arith)

pub ones-out : (n u : ℕ) → n ≤ u → digit (2 ^ n - 1) u ≡ 0
unfolding digit
ones-out zero u h = digit-zero u
ones-out (suc n) zero h = absurd (let z : ⊥ = omega arith in z)
ones-out (suc n) (suc u) h =
    ap (λ (x : ℕ). digit x u) (let p = pow-suc 2 n in let q = pow_pos n in let z : (2 ^ suc n - 1) / 2 ≡ 2 ^ n - 1 = omega arith in z) ∙ ones-out n u
    (omega arith)

shift_suc : (x o : ℕ) → x * 2 ^ suc o ≡ x * 2 ^ o * 2
shift_suc x o = ap (λ (y : ℕ). x * y) (pow-suc 2 o) ∙ sym (mul_assoc x (2 ^ o) 2)

pub shift-low : (o x u : ℕ) → u < o → digit (x * 2 ^ o) u ≡ 0
unfolding digit
shift-low zero x u h = absurd (let z : ⊥ = omega arith in z)
shift-low (suc o) x zero h = ap (λ (y : ℕ). y % 2) (shift_suc x o) ∙ (let z : x * 2 ^ o * 2 % 2 ≡ 0 = omega arith in z)
shift-low (suc o) x (suc u) h =
    ap (λ (y : ℕ). digit (y / 2) u) (shift_suc x o) ∙ ap (λ (y : ℕ). digit y u) (let z : x * 2 ^ o * 2 / 2 ≡ x * 2 ^ o = omega arith in z) ∙ shift-low o x u
    (omega arith)

pub shift-high : (o x v : ℕ) → digit (x * 2 ^ o) (o + v) ≡ digit x v
unfolding digit
shift-high zero x v = ap₂ (λ (y u : ℕ). digit y u) (let z : x * 2 ^ 0 ≡ x = omega arith in z) (let z : 0 + v ≡ v = omega arith in z)
shift-high (suc o) x v =
    ap (λ (u : ℕ). digit (x * 2 ^ suc o) u) (let z : suc o + v ≡ suc (o + v) = omega arith in z)
    ∙ ap (λ (y : ℕ). digit (y / 2) (o + v)) (shift_suc x o) ∙ ap (λ (y : ℕ). digit y (o + v)) (let z : x * 2 ^ o * 2 / 2 ≡ x * 2 ^ o = omega arith in z) ∙
    shift-high o x v

-- n ones from place o on
abbrev pub mask : ℕ → ℕ → ℕ
mask n o = (2 ^ n - 1) * 2 ^ o

pub mask-in : (n o i : ℕ) → i < n → digit (mask n o) (o + i) ≡ 1
mask-in n o i h = shift-high o (2 ^ n - 1) i ∙ ones_in n i h

pub mask-out : (n o u : ℕ) → (u < o) ⊎ (o + n ≤ u) → digit (mask n o) u ≡ 0
mask-out n o u (inl h) = shift-low o (2 ^ n - 1) u h
mask-out n o u (inr h) =
    ap (λ (y : ℕ). digit (mask n o) y) (let z : u ≡ o + (u - o) = omega arith in z) ∙ shift-high o (2 ^ n - 1) (u - o) ∙ ones-out n (u - o) (omega arith)

pub min-one : (x : ℕ) → x < 2 → min x 1 ≡ x
min-one zero h = refl
min-one (suc zero) h = refl
min-one (suc (suc x)) h = absurd (let z : ⊥ = omega arith in z)

max-one : (x : ℕ) → x < 2 → max x 1 ≡ 1
max-one zero h = refl
max-one (suc zero) h = refl
max-one (suc (suc x)) h = absurd (let z : ⊥ = omega arith in z)

-- `and` with a mask is 0 exactly where the digits under it are 0
pub clear-says : (x n o i : ℕ) → bit_and x (mask n o) ≡ 0 → i < n → digit x (o + i) ≡ 0
clear-says x n o i e h =
    sym (min-one (digit x (o + i)) (digit_lt x (o + i))) ∙ ap (λ (y : ℕ). min (digit x (o + i)) y) (sym (mask-in n o i h))
    ∙ sym (digit_and (o + i) x (mask n o)) ∙ ap (λ (y : ℕ). digit y (o + i)) e ∙ digit-zero (o + i)

pub says-clear : (x n o : ℕ) → ((i : ℕ) → i < n → digit x (o + i) ≡ 0) → bit_and x (mask n o) ≡ 0
says-clear x n o f = all-zero (n + o) (bit_and x (mask n o)) (let q = and_le_r x (mask n o) in let w = shl_lt n o (ones_lt n) in omega arith)
    (λ u h. digit_and u x (mask n o) ∙ at u (le-or-lt o u) (le-or-lt (o + n) u))
  where
    out : (u : ℕ) → (u < o) ⊎ (o + n ≤ u) → min (digit x u) (digit (mask n o) u) ≡ 0
    out u h = ap (λ (y : ℕ). min (digit x u) y) (mask-out n o u h) ∙ min-zero (digit x u)

    at : (u : ℕ) → (o ≤ u) ⊎ (u < o) → (o + n ≤ u) ⊎ (u < o + n) → min (digit x u) (digit (mask n o) u) ≡ 0
    at u (inr h) k = out u (inl h)
    at u (inl h) (inl k) = out u (inr k)
    at u (inl h) (inr k) =
        let e : u ≡ o + (u - o) = omega arith in
        let z : digit x u ≡ 0 = ap (λ (y : ℕ). digit x y) e ∙ f (u - o) (omega arith) in
        ap (λ (y : ℕ). min y (digit (mask n o) u)) z ∙ zero-min (digit (mask n o) u)

-- `or` with a mask sets the digits under it and no other
pub or-in : (x n o i : ℕ) → i < n → digit (bit_or x (mask n o)) (o + i) ≡ 1
or-in x n o i h = digit_or (o + i) x (mask n o) ∙ ap (λ (y : ℕ). max (digit x (o + i)) y) (mask-in n o i h) ∙ max-one (digit x (o + i)) (digit_lt x (o + i))

pub or-out : (x n o u : ℕ) → (u < o) ⊎ (o + n ≤ u) → digit (bit_or x (mask n o)) u ≡ digit x u
or-out x n o u h = digit_or u x (mask n o) ∙ ap (λ (y : ℕ). max (digit x u) y) (mask-out n o u h) ∙ max-zero (digit x u)
