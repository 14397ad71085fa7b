-- The premises of demand 3 over two drives can be met: lists on one name and two drives, and lists on two names and one drive, each accepted in two orders.
use Rattle.std.specs.Prelude.{ℕ, ◌≡◌, refl, ◌≢◌, true, false, List, [], ◌∷◌, get_or, replicate}
use Rattle.std.proofs.Common.{ap, arith}
use Rattle.meaning.specs.Amount.{one_record}
use Rattle.meaning.specs.Layout.{fits_geometry}
use Rattle.meaning.specs.Names.{fold}
use Rattle.meaning.specs.Consistent.{consistent}
use Rattle.meaning.specs.declared.NewFile.{NewFile}
use Rattle.meaning.specs.declared.Mode.TheVariants.{Sequential}
use Rattle.together.specs.Statement.{Step, opens, creates, writes, known, Turn, one, two, none, left, right}
use Rattle.drives.specs.Pair.{geometry, image}
use Rattle.drives.specs.ByName.{open_file, create}
use Rattle.drives.specs.Cases.{opened, aa, bench}
use Rattle.promises_drives.specs.Statement.{IsDrive, zeroth, first}
use Rattle.promises_drives.specs.Interleaved.{write_of, answer, start, after, Accepted, DrivesAgree}
use Rattle.promises_drives.specs.Demand3.{demand3, apart}

-- a name that neither disk has
abbrev dk : List ℕ
dk = 0x44 ∷ 0x4b ∷ replicate 9 0x20

-- 9 October 1983, records of two bytes
abbrev new : NewFile
new = record { day = 9; month = 10; year = 3; len = 2; main = 0; worker = 0 }

sound : (j : ℕ) → IsDrive j → (fits_geometry (geometry bench j) (image bench j) ≡ true) × (consistent (geometry bench j) (image bench j) ≡ true)
unfolding opened
sound j zeroth = (refl, refl)
sound j first = (refl, refl)

-- One name, two drives ---------------------------------------------------------------------------------------------------------------------------

abbrev mine : List Step
mine = creates new false ∷ []

abbrev theirs : List Step
theirs = creates new false ∷ writes one_record Sequential 0 (7 ∷ 8 ∷ []) ∷ []

abbrev mine_first : List Turn
mine_first = one (creates new false) ∷ two (creates new false) ∷ two (writes one_record Sequential 0 (7 ∷ 8 ∷ [])) ∷ []

abbrev mine_last : List Turn
mine_last = two (creates new false) ∷ two (writes one_record Sequential 0 (7 ∷ 8 ∷ [])) ∷ one (creates new false) ∷ []

accepted : Accepted 0 1 dk dk (start bench) mine_first
unfolding opened known answer create write_of
accepted = ((tt, refl), ((tt, refl), ((tt, refl), tt)))

accepted' : Accepted 0 1 dk dk (start bench) mine_last
unfolding opened known answer create write_of
accepted' = ((tt, refl), ((tt, refl), ((tt, refl), tt)))

pub alike : after 0 1 dk dk (start bench) mine_first ≡ after 0 1 dk dk (start bench) mine_last
alike =
    apart bench 0 1 zeroth first (λ e. omega (arith, e)) dk dk mine theirs mine_first mine_last (left (right (right none))) (right (right (left none)))
    accepted accepted'

-- Two names, one drive ---------------------------------------------------------------------------------------------------------------------------

abbrev ours : List Step
ours = opens 2 false 0 ∷ []

abbrev opened_first : List Turn
opened_first = one (opens 2 false 0) ∷ two (creates new false) ∷ []

abbrev opened_last : List Turn
opened_last = two (creates new false) ∷ one (opens 2 false 0) ∷ []

differ : fold aa ≢ fold dk
unfolding opened
differ e = let z : ◌≡◌ {A = ℕ} 0x41 0x44 = ap (λ (l : List ℕ). get_or l 0 0) e in omega (arith, z)

taken : Accepted 0 0 aa dk (start bench) opened_first
unfolding opened known answer open_file create
taken = ((tt, refl), ((tt, refl), tt))

taken' : Accepted 0 0 aa dk (start bench) opened_last
unfolding opened known answer open_file create
taken' = ((tt, refl), ((tt, refl), tt))

pub agree : DrivesAgree bench 0 0 aa dk ours mine opened_first (after 0 0 aa dk (start bench) opened_first) (after 0 0 aa dk (start bench) opened_last)
agree =
    demand3 bench 0 0 zeroth zeroth aa dk (λ e. differ) sound ours mine opened_first opened_last (left (right none)) (right (left none)) taken taken'
