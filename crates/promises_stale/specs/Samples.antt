-- That the premises can be met, and that there is something stale to be read: on a disk whose free granules are full of 55H a list creates
-- its file, writes two bytes behind a gap and reads all five; and one that writes a program file has its one byte from a load read.
use Rattle.std.specs.Prelude.{ℕ, ◌≡◌, refl, ◌≢◌, true, List, [], ◌∷◌, ◌++◌, get_or, take, replicate}
use Rattle.std.proofs.Common.{ap, arith}
use Rattle.meaning.specs.Amount.{one_record, whole_buffer}
use Rattle.meaning.specs.Names.{fold}
use Rattle.meaning.specs.Layout.{byte}
use Rattle.meaning.specs.Calls.{number, leaves}
use Rattle.meaning.specs.Plain.{nothing, found_in, plain}
use Rattle.meaning_table.specs.Samples.{opened, puls, leer}
use Rattle.meaning.specs.declared.Geometry.{Geometry}
use Rattle.meaning.specs.declared.NewFile.{NewFile}
use Rattle.meaning.specs.declared.Mode.TheVariants.{Sequential}
use Rattle.load.specs.Cases
use Rattle.load.specs.Load.{load_record}
use Rattle.promises.specs.Promises.{Good}
use Rattle.together.specs.Statement.{Step, creates, moves, reads, writes, known, answer, handle_at, AllBring}
use Rattle.together.specs.Statement.{Turn, one, none, left, World, start, after, Accepted}
use Rattle.promises_stale.specs.Statement.{handed_back, NoneStale}
use Rattle.promises_stale.specs.Kept.{nothing-stale}

-- 2 blocks of 2 units, the directory at the front in granules 0 and 1, no file; granules 2 and 3 are free, and not empty
abbrev pub tiny : Geometry
tiny = record { blocks = 2; units = 2; start = 0; noPassword = 0; system = true; granule = 5 }

abbrev pub used : List ℕ
used = 3 ∷ (replicate 2559 0 ++ replicate 2560 0x55)

abbrev pub new : NewFile
new = record { day = 9; month = 10; year = 3; len = 2; main = 0; worker = 0 }

-- what the list does before it reads
abbrev before : List Turn
before = one (creates new true) ∷ one (moves 0 3) ∷ one (writes one_record Sequential 0 (7 ∷ 8 ∷ [])) ∷ one (moves 0 0) ∷ []

abbrev pub read : Step
read = reads whole_buffer 0 (1 ∷ 1 ∷ 1 ∷ 1 ∷ 1 ∷ [])

abbrev pub mine : List Step
mine = creates new true ∷ moves 0 3 ∷ writes one_record Sequential 0 (7 ∷ 8 ∷ []) ∷ moves 0 0 ∷ read ∷ []

accepted : Accepted tiny puls leer (start used) (before ++ (one read ∷ []))
unfolding opened known answer number leaves
accepted = ((tt, refl), ((tt, refl), ((tt, refl), ((tt, refl), ((tt, refl), tt)))))

pub good : Good tiny used
unfolding opened
good = record { fits = refl; sound = refl; bytes = refl }

pub no-file : plain tiny used (fold puls) ≡ nothing
unfolding opened plain found_in
no-file = refl

differ : fold puls ≢ fold leer
unfolding fold
differ e = let z : ◌≡◌ {A = ℕ} 0x50 0x4c = ap (λ (l : List ℕ). get_or l 0 0) e in omega arith

pub brought : AllBring mine
brought = (λ n hs. ((omega arith, omega arith), tt), (λ n hs. tt, (λ n hs. (refl, tt), (λ n hs. tt, (λ n hs. (tt, tt), tt)))))

pub none-stale : NoneStale tiny puls leer [] (start used) (before ++ (one read ∷ []))
none-stale = nothing-stale tiny puls leer differ used good no-file mine [] (before ++ (one read ∷ [])) (left (left (left (left (left none)))))
    brought tt accepted

-- the world in which it reads
abbrev w : World
w = after tiny puls leer (start used) before

-- its granule still has 55H behind the five bytes, and it reads none of them
pub behind : byte w.disk 2565 ≡ 0x55
unfolding opened answer number leaves
behind = refl

pub read_is : handed_back tiny w.disk w.first.handles read ≡ 0 ∷ 0 ∷ 0 ∷ 7 ∷ 8 ∷ []
unfolding opened answer number leaves
read_is = refl

-- a data byte for 6000H, then the start address 6000H
abbrev program : List ℕ
program = 0x01 ∷ 0x03 ∷ 0x00 ∷ 0x60 ∷ 0xc9 ∷ 0x02 ∷ 0x02 ∷ 0x00 ∷ 0x60 ∷ []

-- the world in which it is loaded
abbrev v : World
v = after tiny puls leer (start used) (one (creates new true) ∷ one (writes whole_buffer Sequential 0 program) ∷ one (moves 0 0) ∷ [])

pub loaded-is : let r = load_record tiny v.disk (handle_at v.first.handles 0) (replicate 255 1) in take r.0.count r.1 ≡ 0xc9 ∷ []
unfolding opened Cases.opened answer number leaves load_record
loaded-is = refl
