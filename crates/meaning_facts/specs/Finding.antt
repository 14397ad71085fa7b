-- Look up, open and create on whole disks, accepted and refused.
use Rattle.std.specs.Prelude.{ℕ, ◌+◌, ◌≡◌, refl, true, false, [], ◌∷◌, ◌++◌, replicate}
use Rattle.meaning.specs.Refusal.{unplaced, placed}
use Rattle.meaning.specs.Handles.{no_handle}
use Rattle.meaning.specs.Names.{hash}
use Rattle.meaning.specs.LookUp.{look_up}
use Rattle.meaning.specs.Open.{open'}
use Rattle.meaning.specs.Create.{create}
use Rattle.meaning.specs.Trim.{trim}
use Rattle.meaning_table.specs.Samples.{changed, written, held, puls, small, leer, three, sample, hits, e82, opened}
use Rattle.meaning.specs.declared.NewFile.{NewFile}
use Rattle.meaning_facts.specs.Disks.{broken, answered, mixed, puls13, neu, neu', crowd, crowd_of_data, crowded}

-- Look up -----------------------------------------------------------------------------------------------------------------

-- "a final 0 becomes 1": the name PO
final-zero : hash (0x50 ∷ 0x4f ∷ replicate 9 0x20) ≡ 1
unfolding opened
final-zero = refl

-- the extension in slot 81H counts; it bears the name, and does not match
look-up-finds : look_up three sample puls ≡ record { refusal = unplaced 0; slot = 0xa3; compared = 2 }
unfolding opened
look-up-finds = refl

-- "look up returns its count as well under 4, and 0 under 1, 2 and 3"
look-up-misses : look_up three sample puls13 ≡ record { refusal = unplaced 4; slot = 0; compared = 2 }
unfolding opened
look-up-misses = refl

look-up-of-no-name : look_up three sample (0x40 ∷ replicate 10 0x20) ≡ record { refusal = placed 3 0; slot = 0; compared = 0 }
unfolding opened
look-up-of-no-name = refl

look-up-of-a-short-name : look_up three sample (0x50 ∷ replicate 9 0x20) ≡ record { refusal = placed 3 0; slot = 0; compared = 0 }
unfolding opened
look-up-of-a-short-name = refl

-- 02 §7: puls01/dat is PULS01/DAT, and so is Puls01/Dat
look-up-in-small-letters : (look_up three sample small ≡ look_up three sample puls) × (look_up three sample mixed ≡ look_up three sample puls)
unfolding opened
look-up-in-small-letters = (refl, refl)

look-up-refused : look_up three broken puls ≡ record { refusal = placed 22 0x80; slot = 0; compared = 0 }
unfolding opened
look-up-refused = refl

-- Open --------------------------------------------------------------------------------------------------------------------

open-by-main-code : open' three sample puls 256 true 0x1234 ≡ answered 0 (held 0xa3 puls 0 256 0)
unfolding opened
open-by-main-code = refl

open-by-worker-code : open' three sample puls 256 true 0x5678 ≡ answered 0 (held 0xa3 puls 0 256 5)
unfolding opened
open-by-worker-code = refl

open-unchecked : open' three sample puls 1 false 0 ≡ answered 0 (held 0xa3 puls 0 1 0)
unfolding opened
open-unchecked = refl

-- the main code is the "no password" code
open-for-anyone : open' three sample leer 256 true 0x4711 ≡ answered 0 (held 0x80 leer 0 256 0)
unfolding opened
open-for-anyone = refl

open-by-wrong-code : open' three sample puls 256 true 0x3412 ≡ answered 5 no_handle
unfolding opened
open-by-wrong-code = refl

-- 12 comes before 3
open-with-long-records : open' three sample [] 257 true 0x1234 ≡ answered 12 no_handle
unfolding opened
open-with-long-records = refl

-- Create ------------------------------------------------------------------------------------------------------------------

abbrev new : ℕ → ℕ → NewFile
new day main = record { day = day; month = 12; year = 15; len = 256; main = main; worker = 0x0102 }

-- the killed entry in slot 82H goes
create-makes : create three sample neu (new 31 0xabcd) true ≡ (
  record { refusal = unplaced 0; old = false; handle = held 0x82 neu 0 256 0 },
  changed (written sample e82 (0x10 ∷ 0x1f ∷ 0xfc ∷ 0x00 ∷ 0x00 ∷ (neu ++ (0xcd ∷ 0xab ∷ 0x02 ∷ 0x01 ∷ 0x00 ∷ 0x00 ∷ replicate 10 0xff))))
      ((hits + 0x82, 0x32) ∷ []),
)
unfolding opened
create-makes = refl

create-opens : create three sample puls (new 31 0x5678) true ≡ (record { refusal = unplaced 0; old = true; handle = held 0xa3 puls 0 256 5 }, sample)
unfolding opened
create-opens = refl

-- created in small letters, then with capitals among them: the file is there
create-then-again : create three (create three sample neu' (new 31 0xabcd) true).1 neu (new 31 0xabcd) true
    ≡ (record { refusal = unplaced 0; old = true; handle = held 0x82 neu 0 256 0 }, (create three sample neu (new 31 0xabcd) true).1)
unfolding opened
create-then-again = refl

-- a handle in small letters, made up by the caller, is stale
trim-by-small-letters : trim three sample (held 0xa3 small 0 256 0) ≡ (answered 7 (held 0xa3 small 0 256 0), sample)
unfolding opened
trim-by-small-letters = refl

create-by-wrong-code : create three sample puls (new 31 0x0102) true ≡ (record { refusal = unplaced 5; old = false; handle = no_handle }, sample)
unfolding opened
create-by-wrong-code = refl

create-on-day-32 : create three sample puls (new 32 0x5678) true ≡ (record { refusal = unplaced 12; old = false; handle = no_handle }, sample)
unfolding opened
create-on-day-32 = refl

-- no permitted slot is free, though 32 kept ones are
create-without-slot : create crowd crowded neu (new 31 0) true ≡ (record { refusal = unplaced 8; old = false; handle = no_handle }, crowded)
unfolding opened
create-without-slot = refl

-- 02 §4: "On a data disk only slots 00H and 01H are kept."
create-on-a-data-disk : (create crowd_of_data crowded neu (new 31 0) true).0 ≡ record { refusal = unplaced 0; old = false; handle = held 0x02 neu 0 256 0 }
unfolding opened
create-on-a-data-disk = refl
