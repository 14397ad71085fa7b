-- The bits of a byte, by recursion on their place: bit 0 is the lowest.
use Rattle.std.specs.Prelude.{ℕ, zero, suc, ◌+◌, ◌*◌, ◌/◌, ◌%◌, Bool, eqb}

-- binary digit u of a byte, 0 or 1
unfoldable pub digit : ℕ → ℕ → ℕ
digit x zero = x % 2
digit x (suc u) = digit (x / 2) u

-- the byte with digit u put to v
unfoldable pub put_digit : ℕ → ℕ → ℕ → ℕ
put_digit x zero v = x / 2 * 2 + v
put_digit x (suc u) v = put_digit (x / 2) u v * 2 + x % 2

-- bit u of a byte is set
abbrev pub bit : ℕ → ℕ → Bool
bit u x = eqb (digit x u) 1

-- the byte with bit u set
abbrev pub with_bit : ℕ → ℕ → ℕ
with_bit u x = put_digit x u 1

-- the byte with bit u clear
abbrev pub without_bit : ℕ → ℕ → ℕ
without_bit u x = put_digit x u 0
