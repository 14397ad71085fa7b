-- Words of a call as the numbers that a host gives and gets.
use Rattle.std.specs.Prelude.{ℕ, ◌+◌, Bool, cond}
use Rattle.meaning.specs.declared.Geometry.{Geometry}
use Rattle.meaning.specs.declared.Mode.{Mode}
use Rattle.meaning.specs.declared.Mode.TheVariants.{Sequential, Random}
use Rattle.differences.specs.declared.Difference.{Difference}

-- the five numbers and the flag that state a disk
abbrev pub geometry : ℕ → ℕ → ℕ → ℕ → Bool → ℕ → Geometry
geometry blocks units start code system granule = record
    { blocks = blocks; units = units; start = start; noPassword = code; system = system; granule = granule }

-- the flag that a host gives for a write
unfoldable pub mode_of : Bool → Mode
mode_of sequential = cond sequential Sequential Random

-- a truth as a number that goes out
abbrev pub told : Bool → ℕ
told b = cond b 1 0

-- what differs, as a sum: 1 the size, 2 the date, 4 other attributes, 8 the contents
unfoldable pub flags_of : Difference → ℕ
flags_of x = cond x.size 1 0 + cond x.date 2 0 + cond x.other 4 0 + cond x.contents 8 0
