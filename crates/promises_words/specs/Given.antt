-- What the promises take for granted of what a caller gives: a byte is a byte, and a code has 16 bits.
use Rattle.std.specs.Prelude.{ℕ, ◌<◌, ◌≡◌, true, List, ltb}
use Rattle.meaning.specs.Lists.{every}
use Rattle.meaning.specs.declared.NewFile.{NewFile}

-- every member of the list is a byte
abbrev pub AreBytes : List ℕ → Type 0
AreBytes d = every (λ x. ltb x 256) d ≡ true

-- a new file's codes are 16-bit codes
abbrev pub CodesFit : NewFile → Type 0
CodesFit f = (f.main < 65536) × (f.worker < 65536)
