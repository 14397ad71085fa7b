-- Demand 3 is about something: two lists that are accepted in two orders, and end with other slots and the same files
use Rattle.std.specs.Prelude.{ℕ, ◌≡◌, refl, ◌≢◌, true, List, [], ◌∷◌, get_or, replicate}
use Rattle.std.proofs.Common.{ap, arith}
use Rattle.meaning.specs.Amount.{one_record}
use Rattle.meaning.specs.Layout.{fits_geometry}
use Rattle.meaning.specs.Consistent.{consistent}
use Rattle.meaning.specs.Calls.{number, leaves}
use Rattle.meaning.specs.Names.{fold}
use Rattle.meaning_table.specs.Samples.{opened, puls, small, leer}
use Rattle.meaning.specs.declared.Geometry.{Geometry}
use Rattle.meaning.specs.declared.NewFile.{NewFile}
use Rattle.meaning.specs.declared.Mode.TheVariants.{Sequential}
use Rattle.together.specs.Statement.{Step, creates, moves, writes, known, answer, handle_at, Turn, one, two, none, left, right, World, start, after, Accepted}
use Rattle.together.specs.Statement.{Agree}
use Rattle.together.proofs.Demand3.{demand3}

-- 2 blocks of 2 units, the directory at the front in granules 0 and 1, no file
abbrev pub tiny : Geometry
tiny = record { blocks = 2; units = 2; start = 0; noPassword = 0; system = true; granule = 5 }

abbrev pub blank : List ℕ
blank = 3 ∷ replicate 5119 0

abbrev pub new : NewFile
new = record { day = 9; month = 10; year = 3; len = 2; main = 0; worker = 0 }

-- a new PULS01/DAT, its name given in small letters (02 §7), and two bytes behind a gap; a new LEER
abbrev mine : List Step
mine = creates new true ∷ moves 0 3 ∷ writes one_record Sequential 0 (7 ∷ 8 ∷ []) ∷ []

abbrev theirs : List Step
theirs = creates new true ∷ []

abbrev mine_first : List Turn
mine_first = one (creates new true) ∷ one (moves 0 3) ∷ one (writes one_record Sequential 0 (7 ∷ 8 ∷ [])) ∷ two (creates new true) ∷ []

abbrev theirs_first : List Turn
theirs_first = two (creates new true) ∷ one (creates new true) ∷ one (moves 0 3) ∷ one (writes one_record Sequential 0 (7 ∷ 8 ∷ [])) ∷ []

pub accepted : Accepted tiny small leer (start blank) mine_first
unfolding opened known answer number leaves
accepted = ((tt, refl), ((tt, refl), ((tt, refl), ((tt, refl), tt))))

pub accepted' : Accepted tiny small leer (start blank) theirs_first
unfolding opened known answer number leaves
accepted' = ((tt, refl), ((tt, refl), ((tt, refl), ((tt, refl), tt))))

fits : fits_geometry tiny blank ≡ true
unfolding opened
fits = refl

sound : consistent tiny blank ≡ true
unfolding opened
sound = refl

-- the names differ after folding
pub differ : fold puls ≢ fold leer
unfolding fold
differ e = let z : ◌≡◌ {A = ℕ} 0x50 0x4c = ap (λ (l : List ℕ). get_or l 0 0) e in omega arith

differ-small : fold small ≢ fold leer
unfolding fold
differ-small e = differ e

abbrev w : World
w = after tiny small leer (start blank) mine_first

abbrev w' : World
w' = after tiny small leer (start blank) theirs_first

pub agree : Agree tiny small leer blank mine theirs mine_first w w'
agree = demand3 tiny small leer differ-small blank fits sound mine theirs mine_first theirs_first (left (left (left (right none))))
    (right (left (left (left none)))) accepted accepted'

-- the slots in the handles are others
pub slot : (handle_at w.first.handles 0).slot ≡ 0x80
unfolding opened answer number leaves
slot = refl

pub slot' : (handle_at w'.first.handles 0).slot ≡ 0x81
unfolding opened answer number leaves
slot' = refl
