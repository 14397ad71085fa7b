-- Free granules: bit by bit of a byte, and granule by granule.
use Rattle.std.specs.Prelude.{not, List, ℕ, zero, suc, ◌+◌, ◌-◌, ◌/◌, ◌%◌, length}
use Rattle.meaning.specs.Lists.{count, keep}
use Rattle.meaning.specs.Layout.{taken}
use Rattle.meaning.specs.declared.Geometry.{Geometry}

-- how many of the n lowest bits of a byte are clear
unfoldable pub clear_bits : ℕ → ℕ → ℕ
clear_bits zero x = 0
clear_bits (suc n) x = (1 - x % 2) + clear_bits n (x / 2)

-- how many of n granules from i on are free
unfoldable pub free_in : Geometry → List ℕ → ℕ → ℕ → ℕ
free_in g d i n = length (keep (λ k. not (taken g d k)) (count i n))
