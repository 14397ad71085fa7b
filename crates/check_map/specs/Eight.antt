-- Eight bytes of the owner map as one number.
use Rattle.std.specs.Prelude.{◌≡◌, ◌⊎◌, List, ℕ, ◌+◌, ◌/◌, ◌%◌, ◌^◌, ◌≤◌, ◌<◌, length, get_or, take, drop}
use Rattle.std.specs.Int.Bits.{bit_and}
use Rattle.meaning.specs.Layout.{most_blocks}
use Rattle.layout.specs.Number.{number}

-- m' is m with the eight bytes of x from `at` on, lowest first
pub record PutsEight (m : List ℕ) (at x : ℕ) (m' : List ℕ) : Type 0 where
  pub inside : (i : ℕ) → i < 8 → get_or m' (at + i) 0 ≡ x / 256 ^ i % 256
  pub outside : (j : ℕ) → (j < at) ⊎ (at + 8 ≤ j) → get_or m' j 0 ≡ get_or m j 0
  pub long : length m' ≡ length m

-- n granules from a on stand in the eight bytes from `at` on
pub record Spans (units a n at : ℕ) : Type 0 where
  pub room : at + 8 ≤ most_blocks
  pub low : at ≤ a / units
  pub high : (k : ℕ) → k < a + n → k / units < at + 8

-- r is those of the bits that are set in the eight bytes from `at` on, and all of the map are bytes
pub record Among (m : List ℕ) (at bits r : ℕ) : Type 0 where
  pub is : r ≡ bit_and (number (take 8 (drop at m))) bits
  pub bytes : (j : ℕ) → get_or m j 0 < 256
