-- Demand 3 where a growth is by 02 §13's second choice: no slot is free, and PULS01/DAT gets its granules from the longest stretch in either order
use Rattle.std.specs.Prelude.{ℕ, ◌+◌, ◌*◌, ◌≡◌, refl, true, cond, List, [], ◌∷◌, ◌++◌, map, eqb, replicate}
use Rattle.meaning.specs.Lists.{count, each}
use Rattle.meaning.specs.Layout.{fits_geometry}
use Rattle.meaning.specs.Names.{hash}
use Rattle.meaning.specs.Chain.{owned}
use Rattle.meaning.specs.Consistent.{consistent}
use Rattle.meaning.specs.Growth
use Rattle.meaning.specs.Growth.{grow}
use Rattle.meaning.specs.Calls.{number, leaves}
use Rattle.meaning_table.specs.Samples.{opened, puls, leer, laid}
use Rattle.meaning.specs.declared.Geometry.{Geometry}
use Rattle.together.specs.Statement.{Step, opens, allots, known, answer, Turn, one, two, none, left, right, World, start, after, Accepted, Agree}
use Rattle.together.proofs.Demand3.{demand3}
use Rattle.together_samples.specs.Slots.{differ}

-- 16 blocks of 2 units, the directory at the front in granules 0 and 1
abbrev sixteen : Geometry
sixteen = record { blocks = 16; units = 2; start = 0; noPassword = 0; system = true; granule = 5 }

-- the files of the 32 permitted slots, by column and row: PULS01/DAT in slot 80H, LEER in slot 81H, and C0, D0 and so on
abbrev name_in : ℕ → ℕ → List ℕ
name_in column row =
    cond (eqb (column + 8 * row) 0) puls (cond (eqb (column + 8 * row) 1) leer ((0x41 + column) ∷ (0x30 + row) ∷ replicate 9 0x20))

-- None of them has a byte or a granule. Granules 2, 4, 6, 8, 10 and 20 to 29 are free, the others taken.
abbrev scattered : List ℕ
scattered =
    laid 0 (
    (0, 3 ∷ 2 ∷ 2 ∷ 2 ∷ 2 ∷ 2 ∷ 3 ∷ 3 ∷ 3 ∷ 3 ∷ 0 ∷ 0 ∷ 0 ∷ 0 ∷ 0 ∷ 3 ∷ [])
    ∷ (map (λ r. (0x180 + 32 * r, map (λ c. hash (name_in c r)) (count 0 8))) (count 0 4)
    ++ map (λ c. (
      640 + 256 * c,
      each (λ r. 0x10 ∷ replicate 4 0 ++ (name_in c r ++ (replicate 6 0 ++ replicate 10 0xff))) (count 0 4),
    )) (count 0 8))) 40960

-- PULS01/DAT takes eight granules, LEER one
abbrev mine : List Step
mine = opens 1 true 0 ∷ allots 0 39 ∷ []

abbrev theirs : List Step
theirs = opens 1 true 0 ∷ allots 0 0 ∷ []

abbrev mine_first : List Turn
mine_first = one (opens 1 true 0) ∷ one (allots 0 39) ∷ two (opens 1 true 0) ∷ two (allots 0 0) ∷ []

abbrev theirs_first : List Turn
theirs_first = two (opens 1 true 0) ∷ two (allots 0 0) ∷ one (opens 1 true 0) ∷ one (allots 0 39) ∷ []

fits : fits_geometry sixteen scattered ≡ true
unfolding opened
fits = refl

sound : consistent sixteen scattered ≡ true
unfolding opened
sound = refl

-- 01's choice alone does not serve PULS01/DAT: its fifth run would want a slot
pub not-by-first : grow sixteen 0x80 8 scattered ≡ Growth.no_slot
unfolding opened
not-by-first = refl

pub accepted : Accepted sixteen puls leer (start scattered) mine_first
unfolding opened known answer number leaves
accepted = ((tt, refl), ((tt, refl), ((tt, refl), ((tt, refl), tt))))

pub accepted' : Accepted sixteen puls leer (start scattered) theirs_first
unfolding opened known answer number leaves
accepted' = ((tt, refl), ((tt, refl), ((tt, refl), ((tt, refl), tt))))

abbrev w : World
w = after sixteen puls leer (start scattered) mine_first

abbrev w' : World
w' = after sixteen puls leer (start scattered) theirs_first

pub agree : Agree sixteen puls leer scattered mine theirs mine_first w w'
agree =
    demand3 sixteen puls leer differ scattered fits sound mine theirs mine_first theirs_first
    (left (left (right (right none)))) (right (right (left (left none)))) accepted accepted'

-- its granules are those of the longest stretch, in either order
pub granules : owned sixteen w.disk 0x80 ≡ count 20 8
unfolding opened answer number leaves
granules = refl

pub granules' : owned sixteen w'.disk 0x80 ≡ count 20 8
unfolding opened answer number leaves
granules' = refl
