-- The bytes that a name on disk is made of.
use Rattle.std.specs.Prelude.{Bool, ◌||◌, ℕ, eqb}
use Rattle.meaning.specs.Names.{letter}

-- an allowed byte or 20H
abbrev pub plain : ℕ → Bool
plain x = eqb x 0x20 || letter x
