-- No row of the table is empty: for each number a call that it is given to, on a disk whose one file, LEER in slot 80H, has no byte and
-- no granule, and on which five granules are free. (For 8, which wants a crowded disk, the crate `facts` has them:
-- Granules.allot-without-slot, Finding.create-without-slot.)
use Rattle.std.specs.Prelude.{◌≡◌, refl, true, [], ◌∷◌, set}
use Rattle.meaning.specs.Amount.{one_record, whole_buffer}
use Rattle.meaning.specs.Calls.{number}
use Rattle.meaning_table.specs.Samples.{opened, three, sample, gaps, puls, leer, held}
use Rattle.meaning.specs.Calls.Call.{checks, looks_up, opens, reads, allots, kills}

-- no image at all
row-1 : number three [] checks ≡ 1
unfolding opened number
row-1 = refl

-- the directory's granules clear in the GAT
row-30 : number three (set gaps 0 0) checks ≡ 30
unfolding opened number
row-30 = refl

-- position 1,966,081
row-12 : number three gaps (kills (held 0x80 leer 1966081 256 1)) ≡ 12
unfolding opened number
row-12 = refl

-- a name of no byte
row-3 : number three gaps (looks_up []) ≡ 3
unfolding opened number
row-3 = refl

-- PULS01/DAT by the slot of LEER
row-7 : number three gaps (kills (held 0x80 puls 0 256 1)) ≡ 7
unfolding opened number
row-7 = refl

row-4 : number three gaps (looks_up puls) ≡ 4
unfolding opened number
row-4 = refl

-- both codes are 0
row-5 : number three gaps (opens leer 256 true 1) ≡ 5
unfolding opened number
row-5 = refl

-- level 2
row-6 : number three gaps (kills (held 0x80 leer 0 256 2)) ≡ 6
unfolding opened number
row-6 = refl

-- a byte of none
row-10 : number three gaps (reads one_record (held 0x80 leer 0 1 5) (0 ∷ [])) ≡ 10
unfolding opened number
row-10 = refl

-- two bytes at the last one, by a record length of one
row-10-bytes : number three sample (reads whole_buffer (held 0xa3 puls 256 1 5) (0 ∷ 0 ∷ [])) ≡ 10
unfolding opened number
row-10-bytes = refl

-- E set
row-11 : number three (set gaps 641 0x49) (allots (held 0x80 leer 0 256 4) 5) ≡ 11
unfolding opened number
row-11 = refl

-- six granules wanted, five free
row-9 : number three gaps (allots (held 0x80 leer 0 256 4) 25) ≡ 9
unfolding opened number
row-9 = refl
