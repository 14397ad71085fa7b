-- One bit of a byte: 0 or 1, and what is read after one is put
use Rattle.std.specs.Prelude.{◌≡◌, refl, ◌≢◌, ℕ, zero, suc, ◌+◌, ◌*◌, ◌/◌, ◌%◌, ◌^◌, ◌≤◌, ◌<◌}
use Rattle.std.proofs.Common.{ap, sym, ◌∙◌, arith}
use Rattle.meaning.specs.Bits.{digit, put_digit}

pub digit_lt : (x u : ℕ) → digit x u < 2
unfolding digit
digit_lt x zero = omega arith
digit_lt x (suc u) = digit_lt (x / 2) u

half : (y x : ℕ) → (y * 2 + x % 2) / 2 ≡ y
half y x = omega arith

pub digit-same : (x u v : ℕ) → v < 2 → digit (put_digit x u v) u ≡ v
unfolding digit put_digit
digit-same x zero v h = omega arith
digit-same x (suc u) v h = rw half (digit-same (x / 2) u v h)

pub digit-other : (x u w v : ℕ) → v < 2 → w ≢ u → digit (put_digit x u v) w ≡ digit x w
unfolding digit put_digit
digit-other x zero zero v h n = absurd (n refl)
digit-other x zero (suc w) v h n = ap (λ (y : ℕ). digit y w) (omega arith)
digit-other x (suc u) zero v h n = omega arith
digit-other x (suc u) (suc w) v h n = rw half (digit-other (x / 2) u w v h (λ e. n (ap suc e)))

pub put_digit-lt : (x u n v : ℕ) → v < 2 → u < n → x < 2 ^ n → put_digit x u v < 2 ^ n
unfolding put_digit
put_digit-lt x zero zero v h l b = omega arith
put_digit-lt x zero (suc n) v h l b = omega arith
put_digit-lt x (suc u) zero v h l b = omega arith
put_digit-lt x (suc u) (suc n) v h l b = omega (arith, put_digit-lt (x / 2) u n v h (omega arith) (omega arith))

-- a digit put twice: the last one counts
pub put-twice : (x u v w : ℕ) → v < 2 → put_digit (put_digit x u v) u w ≡ put_digit x u w
unfolding put_digit
put-twice x zero v w h = omega arith
put-twice x (suc u) v w h = rw (half, put-twice (x / 2) u v w h) (omega arith)

-- a digit put to what it is
pub put_same : (x u : ℕ) → put_digit x u (digit x u) ≡ x
unfolding digit put_digit
put_same x zero = omega arith
put_same x (suc u) = rw (put_same (x / 2) u) (omega arith)

-- a set bit cleared and set again
pub put_back : (x u : ℕ) → digit x u ≡ 1 → put_digit (put_digit x u 0) u 1 ≡ x
put_back x u e = put-twice x u 0 1 (omega arith) ∙ ap (put_digit x u) (sym e) ∙ put_same x u

-- numbers of the same digits are equal
digits-below : (n x y : ℕ) → x ≤ n → y ≤ n → ((u : ℕ) → digit x u ≡ digit y u) → x ≡ y
unfolding digit
digits-below zero x y a b f = omega arith
digits-below (suc n) x y a b f =
    let e = digits-below n (x / 2) (y / 2) (omega arith) (omega arith) (λ u. f (suc u)) in
    omega (arith, f 0)

pub digits_same : (x y : ℕ) → ((u : ℕ) → digit x u ≡ digit y u) → x ≡ y
digits_same x y f = digits-below (x + y) x y (omega arith) (omega arith) f
