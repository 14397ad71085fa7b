-- Bytes as one number.
use Rattle.std.specs.Prelude.{◌≡◌, List, [], ◌∷◌, ℕ, ◌+◌, ◌*◌, ◌<◌, get_or, take, drop}

-- low byte first
unfoldable pub number : List ℕ → ℕ
number [] = 0
number (x ∷ xs) = x + 256 * number xs

-- r is the number of the eight bytes from `at` on; and all of them are bytes, which of a part of a disk no caller knows by itself
pub record Eight (m : List ℕ) (at r : ℕ) : Type 0 where
  pub is : r ≡ number (take 8 (drop at m))
  pub bytes : (j : ℕ) → get_or m j 0 < 256
