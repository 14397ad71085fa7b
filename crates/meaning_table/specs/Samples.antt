-- Small whole disks, written out byte by byte, on which the table and the facts compute.
use Rattle.std.specs.Prelude.{ℕ, ◌+◌, ◌-◌, List, [], ◌∷◌, ◌++◌, Bool, true, length, replicate, set}
use Rattle.meaning.specs.Lists.{all, any, first_or, last_or}
use Rattle.meaning.specs.Bits.{digit, put_digit}
use Rattle.meaning.specs.Layout.{granule_sectors, granule_bytes, granules, fits_geometry, taken, take_granule, free_granule, hit, directory_sectors}
use Rattle.meaning.specs.Layout.{is_slot, slots}
use Rattle.meaning.specs.Layout.{field, set_field}
use Rattle.meaning.specs.Names.{well_formed, fold, blanks, good, bad_place, hash}
use Rattle.meaning.specs.Entries.{name_of, size_of, runs_from, runs, entry_granules}
use Rattle.meaning.specs.Chain.{chain_from, chain, owned, files, place}
use Rattle.meaning.specs.Consistent.{length_holds, hit_holds, hash_holds, name_holds, pairs_hold, follows_by, link_holds_by, runs_hold, gat_holds, size_holds}
use Rattle.meaning.specs.Consistent.{off_directory, slot_holds, file_holds, names_differ, met, consistent}
use Rattle.meaning.specs.Free.{free_granules, kept, permitted, free_slot, free_slots, reserved}
use Rattle.meaning.specs.Growth.{and_then, or_else, fails, disk_or, lengthens, extended, take_one, grow_by, growth}
use Rattle.meaning.specs.Drop.{unhooked, drop_one}
use Rattle.meaning.specs.Refusals.{first, new_in_range, check}
use Rattle.meaning.specs.Handles.{good_length, in_range, fresh}
use Rattle.meaning.specs.Refusal.{beside, beside_two}
use Rattle.meaning.specs.Fault.{used_extension, hands_on, ends, bad_entry, walk_from, walk, walked, met_from, file_of, good_extension, hit_fault, name_fault}
use Rattle.meaning.specs.Fault.{duplicate_fault, chain_fault, run_fault, gat_fault, shared_fault, chain_whole, size_fault, directory_fault, fault_at}
use Rattle.meaning.specs.Fault.{lowest, fault}
use Rattle.meaning.specs.LookUp.{candidates, carries, compared_in, named, look_up}
use Rattle.meaning.specs.Open.{full, admits, open'}
use Rattle.meaning.specs.Create.{create}
use Rattle.meaning.specs.Read.{fetch, read_of, read_sector}
use Rattle.meaning.specs.Write.{store, size_after, write_of}
use Rattle.meaning.specs.Allot.{allot}
use Rattle.meaning.specs.Trim.{trim}
use Rattle.meaning.specs.Kill.{kill_entry, kill}
use Rattle.meaning.specs.BringBack.{whole, back_entry, bring_back}
use Rattle.meaning.specs.Listing.{shown, listed, tell_first, list, counts, digits, slashed, line, listing}
use Rattle.meaning.specs.Stretch.{stretch, longest_in, low_end}
use Rattle.meaning.specs.FreeSpace.{free_space}
use Rattle.meaning.specs.Plain.{file_at, found_in, plain, born_as, overwritten, written_to, allotted_to, trimmed, back_as, with'}
use Rattle.meaning.specs.declared.Geometry.{Geometry}
use Rattle.meaning.specs.declared.Handle.{Handle}

-- what stands where, by rising places, from one place up to the end; zeros between
abbrev pub laid : ℕ → List (ℕ × List ℕ) → ℕ → List ℕ
laid from [] end = replicate (end - from) 0
laid from (p ∷ ps) end = replicate (p.0 - from) 0 ++ (p.1 ++ laid (p.0 + length p.1) ps end)

-- the image with these bytes in these places, and every other as it was
abbrev pub changed : List ℕ → List (ℕ × ℕ) → List ℕ
changed d [] = d
changed d (c ∷ cs) = changed (set d c.0 c.1) cs

-- the image with these bytes from that place on, and every other as it was
abbrev pub written : List ℕ → ℕ → List ℕ → List ℕ
written d at [] = d
written d at (b ∷ bs) = written (set d at b) (at + 1) bs

-- Names ---------------------------------------------------------------------------------------------------------------------

-- PULS01/DAT: its hash is C1H
abbrev pub puls : List ℕ
puls = 0x50 ∷ 0x55 ∷ 0x4c ∷ 0x53 ∷ 0x30 ∷ 0x31 ∷ 0x20 ∷ 0x20 ∷ 0x44 ∷ 0x41 ∷ 0x54 ∷ []

-- LEER: its hash is 70H
abbrev pub leer : List ℕ
leer = 0x4c ∷ 0x45 ∷ 0x45 ∷ 0x52 ∷ 0x20 ∷ 0x20 ∷ 0x20 ∷ 0x20 ∷ 0x20 ∷ 0x20 ∷ 0x20 ∷ []

-- puls01/dat, as a caller may give it (02 §7): the same name
abbrev pub small : List ℕ
small = 0x70 ∷ 0x75 ∷ 0x6c ∷ 0x73 ∷ 0x30 ∷ 0x31 ∷ 0x20 ∷ 0x20 ∷ 0x64 ∷ 0x61 ∷ 0x74 ∷ []

-- A disk of two files ---------------------------------------------------------------------------------------------------------

-- 4 blocks of 3 units, the directory at the front
abbrev pub three : Geometry
three = record { blocks = 4; units = 3; start = 0; noPassword = 0x9999; system = true; granule = 5 }

-- where its HIT is, and the entries of slots 80H, 81H, 82H and A3H
abbrev pub hits : ℕ
hits = 256

abbrev pub e80 : ℕ
e80 = 640

abbrev pub e81 : ℕ
e81 = 896

abbrev pub e82 : ℕ
e82 = 1152

abbrev pub ea3 : ℕ
ea3 = 1440

-- LEER in slot 80H owns granule 8 and has 1,278 bytes. PULS01/DAT in slot A3H, with an extension in slot 81H, owns granules 3, 4, 2, 5, 6,
-- 11 and 10, in five runs, and has 257 bytes; it is invisible, its level 5, its main code 1234H, its worker code 5678H. Slot 82H holds a
-- killed entry. Granules 0 and 1 are reserved, 7 and 9 free.
-- What no call may read or change holds odd bytes: GAT bits of no unit, GAT bytes of no block, HIT places of no slot, the killed
-- entry, an extension's bytes 02 to 15 (its file's name among them), links behind FFH, second bytes of pairs behind FFH.
abbrev pub sample : List ℕ
sample =
    laid 0 (
    (0, 0x07 ∷ 0x07 ∷ 0xa5 ∷ 0x06 ∷ 0xff ∷ [])
    ∷ (hits + 0x28, 0x55 ∷ [])
    ∷ (hits + 0x80, 0x70 ∷ 0xc1 ∷ 0x00 ∷ [])
    ∷ (hits + 0xa3, 0xc1 ∷ [])
    ∷ (e80, 0x10 ∷ 0x09 ∷ 0x3a ∷ 0xfe ∷ 0x00 ∷ leer)
    ∷ (
      e80 + 0x10,
      0x99 ∷ 0x99 ∷ 0x00 ∷ 0x00 ∷ 0x05 ∷ 0x00
          ∷ 0x02 ∷ 0x40 ∷ 0xff ∷ 0x00 ∷ 0xff ∷ 0xff ∷ 0xff ∷ 0x12 ∷ 0xff ∷ 0x81 ∷ [],
    )
    ∷ (e81, 0x90 ∷ 0xa3 ∷ 0x01 ∷ 0x02 ∷ 0x03 ∷ puls)
    ∷ (
      e81 + 0x10,
      0x04 ∷ 0x05 ∷ 0x06 ∷ 0x07 ∷ 0x08 ∷ 0x09
          ∷ 0x03 ∷ 0x20 ∷ 0xff ∷ 0x21 ∷ 0xff ∷ 0xff ∷ 0xff ∷ 0xff ∷ 0xff ∷ 0x80 ∷ [],
    )
    ∷ (e82, 0x2f ∷ 0xff ∷ 0xff ∷ 0xff ∷ 0xff ∷ puls)
    ∷ (
      e82 + 0x10,
      0x01 ∷ 0x02 ∷ 0x03 ∷ 0x04 ∷ 0xff ∷ 0xff
          ∷ 0x01 ∷ 0x00 ∷ 0xff ∷ 0xff ∷ 0x01 ∷ 0x00 ∷ 0xff ∷ 0xff ∷ 0xfe ∷ 0x81 ∷ [],
    )
    ∷ (ea3, 0x1d ∷ 0x09 ∷ 0x3a ∷ 0x01 ∷ 0x00 ∷ puls)
    ∷ (
      ea3 + 0x10,
      0x34 ∷ 0x12 ∷ 0x78 ∷ 0x56 ∷ 0x02 ∷ 0x00
          ∷ 0x01 ∷ 0x01 ∷ 0x00 ∷ 0x40 ∷ 0x01 ∷ 0x41 ∷ 0x03 ∷ 0x40 ∷ 0xfe ∷ 0x81 ∷ [],
    )
    -- granule 3: the first bytes of PULS01/DAT, its last two, and what lies behind them
    ∷ (3840, 0x41 ∷ 0x42 ∷ [])
    ∷ (4095, 0x43 ∷ 0x44 ∷ 0x45 ∷ 0x46 ∷ [])
    -- granule 8: the first bytes of LEER; its last one, and what lies behind it up to granule 9 and in it
    ∷ (10240, 0x61 ∷ 0x62 ∷ [])
    ∷ (11517, 0x63 ∷ 0x64 ∷ 0x65 ∷ 0x66 ∷ 0x67 ∷ 0x68 ∷ [])
    ∷ []) 15360

-- a handle: slot, name, position, record length, level
abbrev pub held : ℕ → List ℕ → ℕ → ℕ → ℕ → Handle
held slot name at len level = record { slot = slot; name = name; at = at; len = len; level = level }

-- A disk with gaps ------------------------------------------------------------------------------------------------------------

-- LEER in slot 80H owns nothing and has no byte; granules 2, 4, 6, 8 and 10 are free, the others reserved
abbrev pub gaps : List ℕ
gaps =
    laid 0 (
    (0, 0x03 ∷ 0x05 ∷ 0x02 ∷ 0x05 ∷ [])
    ∷ (hits + 0x80, 0x70 ∷ [])
    ∷ (e80, 0x10 ∷ 0x09 ∷ 0x3a ∷ 0x00 ∷ 0x00 ∷ leer)
    ∷ (e80 + 0x10, replicate 6 0 ++ replicate 10 0xff)
    ∷ []) 15360

-- the same after LEER has taken all five, the last one in an extension in slot 81H
abbrev pub filled : List ℕ
filled =
    laid 0 (
    (0, 0x07 ∷ 0x07 ∷ 0x07 ∷ 0x07 ∷ [])
    ∷ (hits + 0x80, 0x70 ∷ 0x70 ∷ [])
    ∷ (e80, 0x10 ∷ 0x09 ∷ 0x3a ∷ 0x00 ∷ 0x00 ∷ leer)
    ∷ (e80 + 0x10, replicate 6 0 ++ (0x00 ∷ 0x40 ∷ 0x01 ∷ 0x20 ∷ 0x02 ∷ 0x00 ∷ 0x02 ∷ 0x40 ∷ 0xfe ∷ 0x81 ∷ []))
    ∷ (e81, 0x90 ∷ 0x80 ∷ [])
    ∷ (e81 + 0x16, 0x03 ∷ 0x20 ∷ replicate 8 0xff)
    ∷ []) 15360

-- A disk of one pair ----------------------------------------------------------------------------------------------------------

-- 20 blocks of so many units
abbrev pub wide : ℕ → Geometry
wide units = record { blocks = 20; units = units; start = 0; noPassword = 0; system = true; granule = 5 }

-- so long an image whose only file, LEER in slot 80H, has the pair 11H 42H and no bytes; every granule is set in the GAT
abbrev pub one_pair : ℕ → List ℕ
one_pair =
    laid 0 (
    (0, replicate 20 0xff)
    ∷ (hits + 0x80, 0x70 ∷ [])
    ∷ (e80, 0x10 ∷ 0x09 ∷ 0x3a ∷ 0x00 ∷ 0x00 ∷ leer)
    ∷ (e80 + 0x10, replicate 6 0 ++ (0x11 ∷ 0x42 ∷ replicate 8 0xff))
    ∷ [])

-- Every definition that is shut, opened by one name: `unfolding opened` computes through all of them.
unfoldable pub opened : Bool
unfolding all any first_or last_or digit put_digit granule_sectors granule_bytes granules fits_geometry taken take_granule free_granule hit
    directory_sectors is_slot slots field set_field well_formed fold blanks good bad_place hash name_of size_of runs_from runs entry_granules chain_from
    chain owned files place length_holds hit_holds hash_holds name_holds pairs_hold follows_by link_holds_by runs_hold gat_holds size_holds off_directory
    slot_holds file_holds names_differ met consistent used_extension hands_on ends bad_entry walk_from walk walked met_from file_of good_extension hit_fault
    name_fault duplicate_fault chain_fault run_fault gat_fault shared_fault chain_whole size_fault directory_fault fault_at lowest fault beside beside_two
    free_granules kept permitted free_slot free_slots and_then or_else fails disk_or lengthens extended take_one grow_by growth unhooked drop_one first
    good_length in_range new_in_range check fresh candidates carries compared_in named look_up full admits open' create fetch read_of read_sector store
    size_after write_of allot trim kill_entry kill whole back_entry bring_back shown listed tell_first list counts stretch longest_in low_end free_space
    digits slashed line listing file_at found_in plain born_as overwritten written_to allotted_to trimmed back_as with' reserved
opened = true
