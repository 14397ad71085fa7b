-- A growth on disks without a free slot (02 §13): 01's choice where it fits, else the longest stretches; 8 and 9. The answer and the whole image.
use Rattle.std.specs.Prelude.{ℕ, zero, suc, ◌+◌, ◌-◌, ◌*◌, ◌/◌, ◌%◌, ◌≡◌, refl, true, cond, List, [], ◌∷◌, ◌++◌, map, eqb, length, replicate}
use Rattle.meaning.specs.Lists.{count, each, has}
use Rattle.meaning.specs.Names.{hash}
use Rattle.meaning.specs.Allot.{allot}
use Rattle.meaning_table.specs.Samples.{laid, held, leer, opened}
use Rattle.meaning.specs.declared.Geometry.{Geometry}
use Rattle.meaning.specs.declared.Handle.{Handle}
use Rattle.meaning_facts.specs.Disks.{answered, disk}

-- The disks ---------------------------------------------------------------------------------------------------------------

-- the files of the 32 permitted slots, column by column: LEER in slot 80H, and A0, B0 and so on, whose names are all they have
abbrev name_in : ℕ → ℕ → List ℕ
name_in column row = cond (eqb (column + row) 0) leer ((0x41 + column) ∷ (0x30 + row) ∷ replicate 9 0x20)

-- the GAT bits of k granules from n on: clear for these, set for all others
abbrev bits_from : List ℕ → ℕ → ℕ → ℕ
bits_from free n zero = 0
bits_from free n (suc k) = cond (has free n) 0 1 + 2 * bits_from free (n + 1) k

-- these runs, first granule and how many, as the pairs of an entry
abbrev pairs_of : ℕ → List (ℕ × ℕ) → List ℕ
pairs_of units [] = []
pairs_of units (r ∷ rs) = r.0 / units ∷ (r.0 % units * 32 + (r.1 - 1)) ∷ pairs_of units rs

-- an entry without bytes, with these pairs
abbrev entry_of : List ℕ → List ℕ → List ℕ
entry_of name pairs = 0x10 ∷ replicate 4 0 ++ (name ++ (replicate 6 0 ++ (pairs ++ replicate (10 - length pairs) 0xff)))

-- The directory has 10 sectors. LEER has these runs, no permitted slot is free, these granules are free and all others taken.
abbrev slotless : Geometry → List (ℕ × ℕ) → List ℕ → List ℕ
slotless g runs free =
    let at = 256 * g.start in
    laid 0 (
    (at, map (λ b. bits_from free (b * g.units) g.units) (count 0 g.blocks))
    ∷ (map (λ r. (at + 256 + 128 + 32 * r, map (λ c. hash (name_in c r)) (count 0 8))) (count 0 4)
    ++ map (λ c. (
      at + 512 + 256 * c + 128,
      each (λ r. entry_of (name_in c r) (cond (eqb (c + r) 0) (pairs_of g.units runs) [])) (count 0 4),
    )) (count 0 8))) (g.blocks * g.units * 1280)

-- whatever the call leaves, LEER's handle stays
abbrev leer_at : Handle
leer_at = held 0x80 leer 0 1 4

-- allotting up to a sector, LEER's runs and what is free become these
abbrev Gives : Geometry → List (ℕ × ℕ) → List ℕ → ℕ → List (ℕ × ℕ) → List ℕ → Type 0
Gives g runs free k runs' free' = allot g (slotless g runs free) leer_at k ≡ (answered 0 leer_at, slotless g runs' free')

-- allotting up to a sector is refused with this number, and changes nothing
abbrev Refused : Geometry → List (ℕ × ℕ) → List ℕ → ℕ → ℕ → Type 0
Refused g runs free k number = allot g (slotless g runs free) leer_at k ≡ (answered number leer_at, slotless g runs free)

-- The cases. The directory is at the front, in granules 0 and 1. -------------------------------------------------------------

-- (a) An empty file: four pairs. A long free stretch stands open behind scattered granules.
abbrev scattered : List ℕ
scattered = 2 ∷ 4 ∷ 6 ∷ 8 ∷ 10 ∷ count 22 10

-- "Keep 01's choice where it fits": four granules
a-four : Gives (disk 16 2 0) [] scattered 19 ((2, 1) ∷ (4, 1) ∷ (6, 1) ∷ (8, 1) ∷ []) (10 ∷ count 22 10)
unfolding opened
a-four = refl

-- "Where it doesn't": eight, from the disk as it stood
a-eight : Gives (disk 16 2 0) [] scattered 39 ((22, 8) ∷ []) (2 ∷ 4 ∷ 6 ∷ 8 ∷ 10 ∷ count 30 2)
unfolding opened
a-eight = refl

-- (b) Two pairs. The longest stretch is asked anew at each run, by its whole length: of 33 and of 32 granules 32 each. To use up the 33 first
-- would want three runs.
abbrev apart : List ℕ
apart = 2 ∷ 4 ∷ (count 10 33 ++ count 44 32)

b_all : Gives (disk 10 8 0) ((6, 1) ∷ (8, 1) ∷ []) apart 329 ((6, 1) ∷ (8, 1) ∷ (10, 32) ∷ (44, 32) ∷ []) (2 ∷ 4 ∷ 42 ∷ [])
unfolding opened
b_all = refl

-- 65 of the 67 free granules: 8
b-more : Refused (disk 10 8 0) ((6, 1) ∷ (8, 1) ∷ []) apart 334 8
unfolding opened
b-more = refl

-- (c) The last run is 7 to 9, one pair is left.
abbrev behind : List ℕ
behind = 2 ∷ 4 ∷ (count 10 5 ++ (count 22 5 ++ count 32 5))

-- "lengthen the last run as far as free granules and the 32 allow", then the lower of two stretches as long
c-eight : Gives (disk 20 2 0) ((16, 1) ∷ (18, 1) ∷ (7, 3) ∷ []) behind 64 ((16, 1) ∷ (18, 1) ∷ (7, 8) ∷ (22, 3) ∷ []) (2 ∷ 4 ∷ (count 25 2 ++ count 32 5))
unfolding opened
c-eight = refl

c-ten : Gives (disk 20 2 0) ((16, 1) ∷ (18, 1) ∷ (7, 3) ∷ []) behind 74 ((16, 1) ∷ (18, 1) ∷ (7, 8) ∷ (22, 5) ∷ []) (2 ∷ 4 ∷ count 32 5)
unfolding opened
c-ten = refl

c-eleven : Refused (disk 20 2 0) ((16, 1) ∷ (18, 1) ∷ (7, 3) ∷ []) behind 79 8
unfolding opened
c-eleven = refl

-- (d) The last run has 31 granules, 11 to 41, and one pair is left: 42 lengthens it, and what lies behind is a stretch like any other.
d-nine : Gives (disk 32 2 0) ((4, 1) ∷ (6, 1) ∷ (11, 31) ∷ []) (2 ∷ (count 42 10 ++ (62 ∷ 63 ∷ []))) 209
    ((4, 1) ∷ (6, 1) ∷ (11, 32) ∷ (43, 8) ∷ []) (2 ∷ (count 51 1 ++ (62 ∷ 63 ∷ [])))
unfolding opened
d-nine = refl

-- (e) A new file: eight granules are the pair 0AH 07H.
abbrev wide : List ℕ
wide = 2 ∷ 4 ∷ 6 ∷ 8 ∷ 10 ∷ count 20 10

e-eight : Gives (disk 16 2 0) [] wide 39 ((20, 8) ∷ []) (2 ∷ 4 ∷ 6 ∷ 8 ∷ 10 ∷ count 28 2)
unfolding opened
e-eight = refl

e-pair : pairs_of 2 ((20, 8) ∷ []) ≡ 0x0a ∷ 0x07 ∷ []
e-pair = refl

-- five more, by 01's choice again
e-thirteen : Gives (disk 16 2 0) ((20, 8) ∷ []) (2 ∷ 4 ∷ 6 ∷ 8 ∷ 10 ∷ count 28 2) 64 ((20, 10) ∷ (2, 1) ∷ (4, 1) ∷ (6, 1) ∷ []) (8 ∷ 10 ∷ [])
unfolding opened
e-thirteen = refl

-- one more would want a fifth run: 8
e-fourteen : Refused (disk 16 2 0) ((20, 8) ∷ []) (2 ∷ 4 ∷ 6 ∷ 8 ∷ 10 ∷ count 28 2) 65 8
unfolding opened
e-fourteen = refl

-- 9 before 8: more wanted than are free, whatever the slots
e-sixteen : Refused (disk 16 2 0) ((20, 8) ∷ []) (2 ∷ 4 ∷ 6 ∷ 8 ∷ 10 ∷ count 28 2) 75 9
unfolding opened
e-sixteen = refl
