-- A granule taken or given back, as one definition over which of the two it is: so that what is done to many is said once.
use Rattle.std.specs.Prelude.{ℕ, ◌-◌, ◌*◌, ◌^◌, Bool, cond, List}
use Rattle.meaning.specs.Bits.{put_digit}
use Rattle.meaning.specs.Layout.{take_granule, free_granule}
use Rattle.meaning.specs.declared.Geometry.{Geometry}

-- byte x with bit u set, or clear
abbrev pub put_bit : Bool → ℕ → ℕ → ℕ
put_bit set x u = put_digit x u (cond set 1 0)

-- granule n taken, or given back
abbrev pub mark : Geometry → Bool → List ℕ → ℕ → List ℕ
mark g set d n = cond set (take_granule g d n) (free_granule g d n)

-- n bits from bit u on, as one number
abbrev pub mask : ℕ → ℕ → ℕ
mask u n = (2 ^ n - 1) * 2 ^ u
