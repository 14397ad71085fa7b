-- The first byte that keeps a name that comes in from being well formed, counted from 0 (02 §7). _ is a blank.
use Rattle.std.specs.Prelude.{◌≡◌, refl, List, [], ◌∷◌, replicate, ℕ}
use Rattle.meaning.specs.Names.{comes_in}
use Rattle.meaning_table.specs.Samples.{puls, small, opened}
use Rattle.meaning_facts.specs.Disks.{mixed}

-- puls01__dat and Puls01__Dat are PULS01/DAT, as PULS01__DAT is
none-bad : (comes_in puls ≡ record { place = 11; name = puls }) × (comes_in small ≡ record { place = 11; name = puls }) ×
    (comes_in mixed ≡ record { place = 11; name = puls })
unfolding opened
none-bad = (refl, refl, refl)

-- {|}________ has the three codes behind the letters
none-bad-behind : comes_in (0x7b ∷ 0x7c ∷ 0x7d ∷ 0x20 ∷ 0x20 ∷ 0x20 ∷ 0x20 ∷ 0x20 ∷ 0x20 ∷ 0x20 ∷ 0x20 ∷ []) ≡ record
    { place = 11; name = 0x5b ∷ 0x5c ∷ 0x5d ∷ 0x20 ∷ 0x20 ∷ 0x20 ∷ 0x20 ∷ 0x20 ∷ 0x20 ∷ 0x20 ∷ 0x20 ∷ [] }
unfolding opened
none-bad-behind = refl

abbrev At : List ℕ → ℕ → Type 0
At n p = (comes_in n).place ≡ p

-- eleven blanks
-- ___________
no_byte : At (0x20 ∷ 0x20 ∷ 0x20 ∷ 0x20 ∷ 0x20 ∷ 0x20 ∷ 0x20 ∷ 0x20 ∷ 0x20 ∷ 0x20 ∷ 0x20 ∷ []) 0
unfolding opened
no_byte = refl

-- a type without a name
-- ________DAT
no_name : At (0x20 ∷ 0x20 ∷ 0x20 ∷ 0x20 ∷ 0x20 ∷ 0x20 ∷ 0x20 ∷ 0x20 ∷ 0x44 ∷ 0x41 ∷ 0x54 ∷ []) 0
unfolding opened
no_name = refl

-- an allowed byte after a blank: in the name, at its end, in the type
-- A_B________
in-the-name : At (0x41 ∷ 0x20 ∷ 0x42 ∷ 0x20 ∷ 0x20 ∷ 0x20 ∷ 0x20 ∷ 0x20 ∷ 0x20 ∷ 0x20 ∷ 0x20 ∷ []) 2
unfolding opened
in-the-name = refl

-- A______B___
at-the-end : At (0x41 ∷ 0x20 ∷ 0x20 ∷ 0x20 ∷ 0x20 ∷ 0x20 ∷ 0x20 ∷ 0x42 ∷ 0x20 ∷ 0x20 ∷ 0x20 ∷ []) 7
unfolding opened
at-the-end = refl

-- PULS01__D_T
in-the-type : At (0x50 ∷ 0x55 ∷ 0x4c ∷ 0x53 ∷ 0x30 ∷ 0x31 ∷ 0x20 ∷ 0x20 ∷ 0x44 ∷ 0x20 ∷ 0x54 ∷ []) 10
unfolding opened
in-the-type = refl

-- A________A_
type-goes-on : At (0x41 ∷ 0x20 ∷ 0x20 ∷ 0x20 ∷ 0x20 ∷ 0x20 ∷ 0x20 ∷ 0x20 ∷ 0x20 ∷ 0x41 ∷ 0x20 ∷ []) 9
unfolding opened
type-goes-on = refl

-- the byte behind a blank comes before one that is not allowed
-- PULS_01~___
behind-a-blank : At (0x50 ∷ 0x55 ∷ 0x4c ∷ 0x53 ∷ 0x20 ∷ 0x30 ∷ 0x31 ∷ 0x7e ∷ 0x20 ∷ 0x20 ∷ 0x20 ∷ []) 5
unfolding opened
behind-a-blank = refl

-- a byte that is not allowed; the type begins anew
-- A_______.__
type-not-allowed : At (0x41 ∷ 0x20 ∷ 0x20 ∷ 0x20 ∷ 0x20 ∷ 0x20 ∷ 0x20 ∷ 0x20 ∷ 0x2e ∷ 0x20 ∷ 0x20 ∷ []) 8
unfolding opened
type-not-allowed = refl

-- in small letters too
-- a/dat______
in-small-letters : At (0x61 ∷ 0x2f ∷ 0x64 ∷ 0x61 ∷ 0x74 ∷ 0x20 ∷ 0x20 ∷ 0x20 ∷ 0x20 ∷ 0x20 ∷ 0x20 ∷ []) 1
unfolding opened
in-small-letters = refl

-- not eleven bytes: three, twelve
short : At (0x41 ∷ 0x42 ∷ 0x43 ∷ []) 0 × At (replicate 12 0x41) 0
unfolding opened
short = (refl, refl)
