-- No promise is empty: for each call a disk and a call that is accepted on it, and for what is promised of good disks a good disk.
-- (The crate `facts` has the answers themselves, byte for byte.)
use Rattle.std.specs.Prelude.{◌≡◌, refl, true, List, [], ◌∷◌, ℕ, ◌<◌, replicate}
use Rattle.std.proofs.Common.{arith}
use Rattle.meaning.specs.Amount.{one_record, whole_buffer}
use Rattle.meaning.specs.Layout.{fits_geometry}
use Rattle.meaning.specs.Consistent.{consistent}
use Rattle.meaning.specs.Calls.{Call, number}
use Rattle.promises_words.specs.Given.{AreBytes}
use Rattle.meaning_table.specs.Samples.{opened, three, sample, puls, leer, held}
use Rattle.meaning.specs.declared.NewFile.{NewFile}
use Rattle.meaning.specs.declared.Mode.TheVariants.{Sequential, Random}
use Rattle.promises.specs.Promises.{Good, Along}
use Rattle.meaning.specs.Calls.Call.{checks, looks_up, opens, creates, reads, reads_sector, writes, allots, trims, kills, lists, counts, measures}
use Rattle.promises.proofs.Kept

-- `stays`, `EveryState`: a good disk
fits : fits_geometry three sample ≡ true
unfolding opened
fits = refl

sound : consistent three sample ≡ true
unfolding opened
sound = refl

bytes : AreBytes sample
bytes = refl

pub good : Good three sample
good = record { fits = fits; sound = sound; bytes = bytes }

abbrev new : NewFile
new = record { day = 9; month = 10; year = 3; len = 256; main = 0x1111; worker = 0x2222 }

-- NEU/DAT, and the record that is written
abbrev neu : List ℕ
neu = 0x4e ∷ 0x45 ∷ 0x55 ∷ 0x20 ∷ 0x20 ∷ 0x20 ∷ 0x20 ∷ 0x20 ∷ 0x44 ∷ 0x41 ∷ 0x54 ∷ []

abbrev two : List ℕ
two = 7 ∷ 8 ∷ []

-- `serves`, of each call
check-accepted : number three sample checks ≡ 0
unfolding opened number
check-accepted = refl

look-accepted : number three sample (looks_up puls) ≡ 0
unfolding opened number
look-accepted = refl

open-accepted : number three sample (opens puls 256 true 0x5678) ≡ 0
unfolding opened number
open-accepted = refl

new-accepted : number three sample (creates neu new true) ≡ 0
unfolding opened number
new-accepted = refl

old-accepted : number three sample (creates leer new true) ≡ 0
unfolding opened number
old-accepted = refl

read-accepted : number three sample (reads one_record (held 0xa3 puls 1 256 5) (replicate 256 0)) ≡ 0
unfolding opened number
read-accepted = refl

bytes-accepted : number three sample (reads whole_buffer (held 0xa3 puls 1 1 5) (replicate 256 0)) ≡ 0
unfolding opened number
bytes-accepted = refl

sector-accepted : number three sample (reads_sector (held 0xa3 puls 0 256 5) 1) ≡ 0
unfolding opened number
sector-accepted = refl

allot-accepted : number three sample (allots (held 0x80 leer 0 256 4) 5) ≡ 0
unfolding opened number
allot-accepted = refl

trim-accepted : number three sample (trims (held 0xa3 puls 0 256 4)) ≡ 0
unfolding opened number
trim-accepted = refl

kill-accepted : number three sample (kills (held 0xa3 puls 0 256 1)) ≡ 0
unfolding opened number
kill-accepted = refl

list-accepted : number three sample (lists 1) ≡ 0
unfolding opened number
list-accepted = refl

counts-accepted : number three sample counts ≡ 0
unfolding opened number
counts-accepted = refl

measures-accepted : number three sample measures ≡ 0
unfolding opened number
measures-accepted = refl

-- and `EveryWrite`: a byte of gap, a byte in the granule owned, and one in a granule that the write takes
pub write-accepted : number three sample (writes one_record Random (held 0x80 leer 1279 2 4) two) ≡ 0
unfolding opened number
write-accepted = refl

pub sequential-accepted : number three sample (writes one_record Sequential (held 0xa3 puls 0 2 4) two) ≡ 0
unfolding opened number
sequential-accepted = refl

pub bytes-written : number three sample (writes whole_buffer Sequential (held 0xa3 puls 0 1 4) two) ≡ 0
unfolding opened number
bytes-written = refl

-- `EveryState`, at a list of calls: what it says of the disk after a create, a write and a kill
abbrev calls : List Call
calls = creates neu new true ∷ writes one_record Random (held 0x80 leer 1279 2 4) two ∷ kills (held 0xa3 puls 0 256 1) ∷ []

pub along : Along three sample sample calls
along = Kept.every-state three sample good calls ((sixteen, sixteen'), (refl, (tt, tt)))
  where
    sixteen : 0x1111 < 65536
    sixteen = omega arith

    sixteen' : 0x2222 < 65536
    sixteen' = omega arith
