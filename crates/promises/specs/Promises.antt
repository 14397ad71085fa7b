-- What is promised of a disk (demand 2), each promise as a type with a name. Nothing is proved here: `Kept` has a theorem for each of them.
--
-- `Promised` is the whole of it for one call, of whatever is said of it and left (`Said`): what an accepted call answers and does, what a
-- refused one leaves, which number is given exactly when, and what no call changes. What the definitions of `meaning` say meets it
-- (`EveryCall`), and a function is proved to answer what those say; what another program would have to say is in `strength`. `EveryState` says
-- it of each state that a list of calls reaches.
use Rattle.std.specs.Prelude.{◌≡◌, ◌≢◌, ◌↔◌, ◌⊎◌, Bool, true, false, not, ◌&&◌, List, [], ◌∷◌, ◌++◌, ℕ, ◌+◌, ◌-◌, ◌*◌, ◌%◌, ◌≤◌, ◌<◌, T, leb, eqb}
use Rattle.std.specs.Prelude.{length, get_or, take, drop}
use Rattle.std.proofs.Math.Seq.{slice}
use Rattle.meaning.specs.Lists.{keep, each, first_or}
use Rattle.meaning.specs.Bits.{bit, digit}
use Rattle.meaning.specs.Layout.{fits_geometry, granules, granule_bytes, granule_sectors, sectors, highest, sector_numbers, most_blocks, most_units}
use Rattle.meaning.specs.Layout.{slots, is_slot}
use Rattle.meaning.specs.Layout.{hit, byte, taken, granules_for}
use Rattle.meaning.specs.Names.{hash, letter, well_formed, fold, no_place, comes_in}
use Rattle.meaning.specs.Entries.{in_use, extension, name_of, sector_count}
use Rattle.meaning.specs.Chain.{chain, owned, files}
use Rattle.meaning.specs.Consistent.{consistent}
use Rattle.meaning.specs.Free.{free_granules, free_slots, reserved}
use Rattle.meaning.specs.Choice.{NothingFits}
use Rattle.meaning.specs.Refusal.{unplaced}
use Rattle.meaning.specs.Fault.{fault}
use Rattle.meaning.specs.Refusals.{fault_numbers}
use Rattle.meaning.specs.Handles.{moved_to, no_handle}
use Rattle.meaning.specs.LookUp.{look_up, named}
use Rattle.meaning.specs.Open.{open'}
use Rattle.meaning.specs.Create.{create}
use Rattle.meaning.specs.Amount.{how_many}
use Rattle.meaning.specs.Read.{read_of}
use Rattle.meaning.specs.Write.{write_of, size_after}
use Rattle.meaning.specs.Allot.{granules_to}
use Rattle.meaning.specs.Listing
use Rattle.meaning.specs.Listing.{listed, no_file}
use Rattle.meaning.specs.FreeSpace.{free_space}
use Rattle.meaning.specs.Calls.{Call, refusal_in, number, leaves}
use Rattle.meaning.specs.Calls.Call.{checks, looks_up, opens, creates, reads, reads_sector, writes, allots, trims, kills, lists, counts, measures}
use Rattle.meaning.specs.Plain.{File, Found, found, nothing, file_at, plain, with', is_system, born_as, written_to, allotted_to, trimmed}
use Rattle.promises_words.specs.Untouched.{hush, beyond, Aside}
use Rattle.promises_words.specs.Given.{AreBytes, CodesFit}
use Rattle.meaning.specs.declared.Geometry.{Geometry}
use Rattle.meaning.specs.declared.Handle.{Handle}
use Rattle.meaning.specs.declared.NewFile.{NewFile}
use Rattle.meaning.specs.declared.Mode.{Mode}
use Rattle.meaning.specs.declared.Refusal.{Refusal}
use Rattle.meaning.specs.declared.LookedUp.{LookedUp}
use Rattle.meaning.specs.declared.Created.{Created}
use Rattle.meaning.specs.declared.Part.{Part}
use Rattle.meaning.specs.declared.Listed.{Listed}
use Rattle.meaning.specs.declared.Counts.{Counts}
use Rattle.meaning.specs.declared.Space.{Space}
use Rattle.promises.specs.Said.{Said, says}

-- Calls -----------------------------------------------------------------------------------------------------------------------------

-- what a caller's types see to: a record to be written is of bytes, the codes of a new file have 16 bits
abbrev pub Brings : Call → Type 0
Brings checks = Unit {0}
Brings (looks_up n) = Unit {0}
Brings (opens n len checking code) = Unit {0}
Brings (creates n f checking) = CodesFit f
Brings (reads a h b) = Unit {0}
Brings (reads_sector h k) = Unit {0}
Brings (writes a m h b) = AreBytes b
Brings (allots h k) = Unit {0}
Brings (trims h) = Unit {0}
Brings (kills h) = Unit {0}
Brings (lists i) = Unit {0}
Brings counts = Unit {0}
Brings measures = Unit {0}

-- 1. What no call changes -------------------------------------------------------------------------------------------------------------

-- a disk that calls are served on: neither 1 nor 21 to 30 applies, and its members are bytes
pub record Good (g : Geometry) (d : List ℕ) : Type 0 where
  pub fits : fits_geometry g d ≡ true
  pub sound : consistent g d ≡ true
  pub bytes : AreBytes d

-- Accepted or refused, a call leaves a good disk of the same length. No call changes which granules are reserved. Every granule is free,
-- reserved or owned.
pub record Stays (g : Geometry) (d d' : List ℕ) : Type 0 where
  pub long : length d' ≡ length d
  pub good : Good g d'
  pub reserved' : reserved g d' ≡ reserved g d
  pub tally : length (free_granules g d') + length (reserved g d') + length (each (owned g d') (files g d')) ≡ granules g

-- 2. What an accepted call does to the plain list of named files ------------------------------------------------------------------------

abbrev pub granules_in : Found → ℕ
granules_in nothing = 0
granules_in (found f) = f.granules

-- the entries of the file called n, and its granules
abbrev pub own_entries : Geometry → List ℕ → List ℕ → List ℕ
own_entries g d n = each (chain g d) (named g d n)

abbrev pub own_granules : Geometry → List ℕ → List ℕ → List ℕ
own_granules g d n = each (owned g d) (named g d n)

-- The file called n was `was` and is `is`. Every other file is as it was: attributes, size, granule count and, system files apart, bytes
-- (`list`); and of a system file too, every byte that lies in no granule of the directory (`others`). It keeps its slot, so its handles
-- stay as they are, live or stale (`slots'`). Only the file's own sectors, entries
-- and the GAT and HIT change: every other byte of the image is as it was, be it free, reserved or of no slot (`untouched`), and so are the
-- bits of the GAT past the last unit (`spare`). FREE falls by what was taken.
pub record Becomes (g : Geometry) (d d' n : List ℕ) (was is : Found) : Type 0 where
  pub before : plain g d n ≡ was
  pub after : plain g d' n ≡ is
  pub list : (m : List ℕ) → hush (plain g d' m) ≡ hush (with' (plain g d) n is m)
  pub others : (m : List ℕ) → m ≢ n → beyond g d' m ≡ beyond g d m
  pub slots' : (m : List ℕ) → m ≢ n → named g d' m ≡ named g d m
  pub untouched : (i : ℕ) → Aside g (own_entries g d n ++ own_entries g d' n) (own_granules g d' n) i → byte d' i ≡ byte d i
  pub spare : (b u : ℕ) → b < g.blocks → g.units ≤ u → digit (byte d' (256 * g.start + b)) u ≡ digit (byte d (256 * g.start + b)) u
  pub free : length (free_granules g d) + granules_in was ≡ length (free_granules g d') + granules_in is

-- a handle that is not stale: its slot is one the directory has, in use, primary, and carries its name
pub record Live (g : Geometry) (d : List ℕ) (h : Handle) : Type 0 where
  pub slot : T (is_slot g d h.slot)
  pub used : T (in_use g d h.slot)
  pub first : T (not (extension g d h.slot))
  pub name' : name_of g d h.slot ≡ h.name

-- record length 1 to 256
abbrev pub LengthInRange : ℕ → Type 0
LengthInRange len = (1 ≤ len) × (len ≤ 256)

-- position 0 to the highest one (01: 1,966,080), level 0 to 7
pub record InRange (g : Geometry) (h : Handle) : Type 0 where
  pub at : h.at ≤ highest g
  pub length' : LengthInRange h.len
  pub level : h.level ≤ 7

-- An accepted call by a handle has a file of the handle's name, the one at its slot; `u` is what the call makes of it. The handle
-- stays in range, and live unless the file is gone.
pub record Changes (g : Geometry) (d d' : List ℕ) (h h' : Handle) (u : File → Found) (moved : Handle) : Type 0 where
  pub file : File
  pub mine : file_at g d h.slot ≡ file
  pub becomes : Becomes g d d' h.name (found file) (u file)
  pub handle' : h' ≡ moved
  pub live : (f : File) → u file ≡ found f → Live g d' h'
  pub ranged : InRange g h'

-- 3. What an accepted call answers ------------------------------------------------------------------------------------------------------

-- what the attributes of a plain file say (bytes 00, 01, 02, 04 and 10 to 13 of its entry)
abbrev pub stored_level : File → ℕ
stored_level f = get_or f.attributes 0 0 % 8

abbrev pub may_not_grow : File → Bool
may_not_grow f = bit 6 (get_or f.attributes 1 0)

abbrev pub main_code : File → ℕ
main_code f = get_or f.attributes 4 0 + 256 * get_or f.attributes 5 0

abbrev pub worker_code : File → ℕ
worker_code f = get_or f.attributes 6 0 + 256 * get_or f.attributes 7 0

-- the slots up to s whose HIT byte is the name's hash
abbrev pub matching : Geometry → List ℕ → List ℕ → ℕ → ℕ
matching g d n s = length (keep (λ x. eqb (hit g d x) (hash n) && leb x s) (slots g d))

-- A call by name is on the file called `fold n`, where n is the name as the caller gives it (02 §7).

-- Look up: the slot of the file of that name, and how many HIT bytes up to it are the hash
pub record LooksUp (g : Geometry) (d n : List ℕ) (r : LookedUp) : Type 0 where
  pub file : plain g d (fold n) ≡ found (file_at g d r.slot)
  pub name' : name_of g d r.slot ≡ fold n
  pub here : named g d (fold n) ≡ r.slot ∷ []
  pub compared : r.compared ≡ matching g d (fold n) r.slot

-- level 0 if checking is off, the main code is the "no password" code, or the given code equals the main code
abbrev pub Full : Geometry → File → Bool → ℕ → Type 0
Full g f checking code = (checking ≡ false) ⊎ ((main_code f ≡ g.noPassword) ⊎ (code ≡ main_code f))

-- Open: a live handle of the file called n, in range, at position 0, the record length as given; the level as the plain file's codes say
pub record Opened (g : Geometry) (d n : List ℕ) (len : ℕ) (checking : Bool) (code : ℕ) (h : Handle) : Type 0 where
  pub file : File
  pub called : plain g d n ≡ found file
  pub live : Live g d h
  pub ranged : InRange g h
  pub name'' : h.name ≡ n
  pub start : h.at ≡ 0
  pub length' : h.len ≡ len
  pub full : Full g file checking code → h.level ≡ 0
  pub worker : (Full g file checking code → ⊥) → (code ≡ worker_code file) × (h.level ≡ stored_level file)

-- Create: an existing file is opened and reported as old; otherwise the file is born, in the first permitted slot, and its handle has level 0
pub record Creates (g : Geometry) (d n : List ℕ) (f : NewFile) (checking : Bool) (r : Created) (d' : List ℕ) : Type 0 where
  pub old : r.old ≡ true → Opened g d (fold n) f.len checking f.main r.handle × (d' ≡ d)
  pub new : r.old ≡ false → Becomes g d d' (fold n) nothing (found (born_as f)) × Live g d' r.handle × InRange g r.handle
  pub handle' : r.old ≡ false → r.handle ≡ record { slot = first_or 0 (free_slots g d); name = fold n; at = 0; len = f.len; level = 0 }

-- A read of n bytes, a record's or the buffer's: the plain file's bytes at the position, to the start of the buffer; the rest of it is
-- untouched, the position advances
pub record Reads (g : Geometry) (d : List ℕ) (h : Handle) (n : ℕ) (b : List ℕ) (h' : Handle) (b' : List ℕ) : Type 0 where
  pub file : File
  pub called : plain g d h.name ≡ found file
  pub inside : h.at + n ≤ length file.bytes
  pub buffer : b' ≡ take n (drop h.at file.bytes) ++ drop n b
  pub handle' : h' ≡ moved_to h (h.at + n)
  pub ranged : InRange g h'

-- Read sector k: the image's bytes from one place up to another, 1 to 256 of them, are the plain file's bytes 256k and on
pub record ReadsSector (g : Geometry) (d : List ℕ) (h : Handle) (k : ℕ) (r : Part) : Type 0 where
  pub file : File
  pub called : plain g d h.name ≡ found file
  pub some : r.from < r.to
  pub most : r.to ≤ r.from + 256
  pub inside : r.to ≤ length d
  pub part : slice r.from r.to d ≡ take 256 (drop (256 * k) file.bytes)

-- the i-th of the files that are listed, by rising slot
abbrev pub ith : Geometry → List ℕ → ℕ → ℕ
ith g d i = get_or (listed g d) i 0

-- Listing: number i tells the i-th file by rising slot, name, size and granules owned, and "no more" from FILES on
pub record Lists (g : Geometry) (d : List ℕ) (i : ℕ) (r : Listed) : Type 0 where
  pub tells : i < length (listed g d) → let s = ith g d i in let f = file_at g d s in
      r ≡ record { refusal = unplaced 0; more = true; name = name_of g d s; size = length f.bytes; granules = f.granules }
  pub file : i < length (listed g d) → plain g d (name_of g d (ith g d i)) ≡ found (file_at g d (ith g d i))
  pub shown : i < length (listed g d) → T (not (is_system (file_at g d (ith g d i))))
  pub rising : (j : ℕ) → j < i → i < length (listed g d) → ith g d j < ith g d i
  pub ends : length (listed g d) ≤ i → r ≡ no_file (unplaced 0)

-- Counts: FILES is how many numbers the listing tells, FREE the number of clear GAT bits in range. Each file that is no system file is
-- told, under one number only.
pub record Counted (g : Geometry) (d : List ℕ) (r : Counts) : Type 0 where
  pub files' : r.files ≡ length (listed g d)
  pub free : r.free ≡ length (free_granules g d)
  pub told : (n : List ℕ) (f : File) → plain g d n ≡ found f → T (not (is_system f))
      → (i : ℕ) × (i < length (listed g d)) × (name_of g d (ith g d i) ≡ n) × ((j : ℕ) → j < length (listed g d) → name_of g d (ith g d j) ≡ n → j ≡ i)

-- n granules from a on are on the disk and free, one after the other
pub record Stretch (g : Geometry) (d : List ℕ) (a n : ℕ) : Type 0 where
  pub inside : a + n ≤ granules g
  pub clear : (k : ℕ) → a ≤ k → k < a + n → taken g d k ≡ false

-- Free space (02 §5): the number of clear GAT bits in range, and the length of the longest free stretch, on any image of the right length. On
-- a consistent disk the number is that of the disk's granules less those reserved and those owned (`tally`), and the listing's FREE (`listing`).
pub record Measured (g : Geometry) (d : List ℕ) (r : Space) : Type 0 where
  pub clear : r.free ≡ length (free_granules g d)
  pub tally : consistent g d ≡ true → r.free + length (reserved g d) + length (each (owned g d) (files g d)) ≡ granules g
  pub listing : consistent g d ≡ true → (Listing.counts g d).free ≡ r.free
  pub first : ℕ
  pub stretch : Stretch g d first r.longest
  pub none-longer : (a n : ℕ) → Stretch g d a n → n ≤ r.longest

-- A write of n bytes, a record's or the buffer's: the first n of the buffer go into the file at the position, which advances
abbrev pub Writes : Geometry → List ℕ → Mode → Handle → ℕ → List ℕ → Handle → List ℕ → Type 0
Writes g d m h n b h' d' = Changes g d d' h h' (λ f. found (written_to g m h.at (take n b) f)) (moved_to h (h.at + n))

-- What each accepted call answers and does. Those that only look leave the image as it is.
abbrev pub Serves : Geometry → List ℕ → (c : Call) → Said c → Type 0
Serves g d checks s = (s.image ≡ d) × (fits_geometry g d ≡ true) × (consistent g d ≡ true)
Serves g d (looks_up n) s = (s.image ≡ d) × LooksUp g d n s.answer
Serves g d (opens n len checking code) s = (s.image ≡ d) × Opened g d (fold n) len checking code s.answer.handle
Serves g d (creates n f checking) s = Creates g d n f checking s.answer s.image
Serves g d (reads a h b) s = (s.image ≡ d) × Reads g d h (how_many a h.len b) b s.answer.0.handle s.answer.1
Serves g d (reads_sector h k) s = (s.image ≡ d) × (AreBytes d → ReadsSector g d h k s.answer)
Serves g d (writes a m h b) s = Writes g d m h (how_many a h.len b) b s.answer.handle s.image
Serves g d (allots h k) s = Changes g d s.image h s.answer.handle (λ f. found (allotted_to g k f)) h
Serves g d (trims h) s = Changes g d s.image h s.answer.handle (λ f. found (trimmed g f)) h
Serves g d (kills h) s = Changes g d s.image h s.answer.handle (λ f. nothing) h
Serves g d (lists i) s = (s.image ≡ d) × Lists g d i s.answer
Serves g d counts s = (s.image ≡ d) × Counted g d s.answer
Serves g d measures s = (s.image ≡ d) × Measured g d s.answer

-- 4. What a refused call leaves: nothing is written ---------------------------------------------------------------------------------------

-- look up returns its count as well under 4, and 0 under 1, 2 and 3
pub record NotFound (g : Geometry) (d n : List ℕ) (r : LookedUp) : Type 0 where
  pub slot : r.slot ≡ 0
  pub all' : r.refusal.number ≡ 4 → r.compared ≡ length (keep (λ x. eqb (hit g d x) (hash (fold n))) (slots g d))
  pub none : r.refusal.number ≢ 4 → r.compared ≡ 0

-- beside the image, which is as it stood: handle and buffer as they stood, a refused open or create a handle of zeros, a refused sector
-- read an empty part
abbrev pub Refuses : Geometry → List ℕ → (c : Call) → Said c → Type 0
Refuses g d checks s = Unit {0}
Refuses g d (looks_up n) s = NotFound g d n s.answer
Refuses g d (opens n len checking code) s = s.answer.handle ≡ no_handle
Refuses g d (creates n f checking) s = (s.answer.handle ≡ no_handle) × (s.answer.old ≡ false)
Refuses g d (reads a h b) s = (s.answer.0.handle ≡ h) × (s.answer.1 ≡ b)
Refuses g d (reads_sector h k) s = (s.answer.from ≡ 0) × (s.answer.to ≡ 0)
Refuses g d (writes a m h b) s = s.answer.handle ≡ h
Refuses g d (allots h k) s = s.answer.handle ≡ h
Refuses g d (trims h) s = s.answer.handle ≡ h
Refuses g d (kills h) s = s.answer.handle ≡ h
Refuses g d (lists i) s = s.answer ≡ no_file s.answer.refusal
Refuses g d counts s = (s.answer.files ≡ 0) × (s.answer.free ≡ 0)
Refuses g d measures s = (s.answer.free ≡ 0) × (s.answer.longest ≡ 0)

-- 5. Refusal numbers, in order of test ------------------------------------------------------------------------------------------------------

-- a number of the table, and the case in which it is given
abbrev pub Table : Type 1
Table = List (ℕ × Type 0)

-- row by row: the answer is the row's number exactly if its case holds and no earlier one does; it is 0 exactly if no case holds
abbrev pub Rows : ℕ → Type 0 → Table → Type 0
Rows answer earlier [] = (answer ≡ 0) ↔ earlier
Rows answer earlier (r ∷ rs) = ((answer ≡ r.0) ↔ (earlier × r.1)) × Rows answer (earlier × (r.1 → ⊥)) rs

abbrev pub Exactly : ℕ → Table → Type 0
Exactly answer rs = Rows answer (Unit {0}) rs

-- blocks 1 to 192, units per block 1 to 8, 5, 10 or 20 sectors per granule, directory start a multiple of these; the image length is blocks ×
-- units × the bytes of a granule exactly, and at least 10 sectors lie from the directory start to the end
pub record FitsGeometry (g : Geometry) (d : List ℕ) : Type 0 where
  pub blocks-lo : 1 ≤ g.blocks
  pub blocks-hi : g.blocks ≤ most_blocks
  pub units-lo : 1 ≤ g.units
  pub units-hi : g.units ≤ most_units
  pub start-at : g.start % granule_sectors g ≡ 0
  pub long : length d ≡ granules g * granule_bytes g
  pub ten : g.start + 10 ≤ sectors g
  pub sized : (g.granule ≡ 5) ⊎ ((g.granule ≡ 10) ⊎ (g.granule ≡ 20))

-- day 0 to 31, month and year offset 0 to 15
pub record NewInRange (f : NewFile) : Type 0 where
  pub day : f.day ≤ 31
  pub month : f.month ≤ 15
  pub year : f.year ≤ 15
  pub length' : LengthInRange f.len

-- 3 the folded name is not well formed (02 §7); its place is in `SaysPlace`
abbrev pub bad_name : List ℕ → ℕ × Type 0
bad_name n = (3, well_formed (fold n) ≡ false)

module _ (g : Geometry) (d : List ℕ) where
  -- 21 to 30, in 2's place (02 §2): the disk's fault has that number. It has one exactly if it is not consistent.
  abbrev pub fault_cases : List ℕ → Table → Table
  fault_cases [] rest = rest
  fault_cases (k ∷ ks) rest = (k, (fault g d).number ≡ k) ∷ fault_cases ks rest

  -- 1 geometry or image length not as above, then the faults: every call but free space, which gives 1 only
  abbrev pub disk_cases : Table → Table
  disk_cases rest = (1, (FitsGeometry g d → ⊥)) ∷ fault_cases fault_numbers rest

  -- 12 out of range, 7 handle stale: every call with a handle; `ranged` is what it tests of range
  abbrev pub handle_cases : Handle → Type 0 → Table → Table
  handle_cases h ranged rest = disk_cases ((12, (ranged → ⊥)) ∷ (7, (Live g d h → ⊥)) ∷ rest)

  -- the file that the handle means
  abbrev pub file_of : Handle → File
  file_of h = file_at g d h.slot

  -- how many granules it lacks of those wanted
  abbrev pub lacks : Handle → ℕ → ℕ
  lacks h wanted = wanted - (file_of h).granules

  -- 6 level over the most allowed, or a system file: write, allot, trim, kill
  abbrev pub barred : ℕ → Handle → ℕ × Type 0
  barred most h = (6, (most < h.level) ⊎ T (is_system (file_of h)))

  -- 11 E set and more granules needed than owned; 9 more further granules needed than are free; 8 (02 §13) "no choice of free granules
  -- whatever" fits
  abbrev pub growth_cases : Handle → ℕ → Table
  growth_cases h more = (11, T (may_not_grow (file_of h)) × (0 < more)) ∷ (9, length (free_granules g d) < more) ∷ (8, NothingFits g d h.slot more) ∷ []

  -- 4 name not found
  abbrev pub NoFile : List ℕ → Type 0
  NoFile n = plain g d n ≡ nothing

  -- 5 wrong password code: a file of that name, and the code gives neither the full level nor the stored one
  abbrev pub WrongCode : List ℕ → Bool → ℕ → Type 0
  WrongCode n checking code = (f : File) × (plain g d n ≡ found f) × (Full g f checking code → ⊥) × (code ≢ worker_code f)

  -- of a read of n bytes; no record length is over the highest position
  abbrev pub read_table : Handle → ℕ → List ℕ → Table
  read_table h n b = handle_cases h (InRange g h × (n ≤ highest g) × (n ≤ length b)) ((6, 5 < h.level) ∷ (10, length (file_of h).bytes < h.at + n) ∷ [])

  -- of a write of n bytes
  abbrev pub write_table : Mode → Handle → ℕ → List ℕ → Table
  write_table m h n b =
      handle_cases h (InRange g h × (h.at + n ≤ highest g) × (n ≤ length b))
      (barred 4 h ∷ growth_cases h (lacks h (granules_for g (size_after m (length (file_of h).bytes) (h.at + n)))))

  abbrev pub table : Call → Table
  table checks = disk_cases []
  table (looks_up n) = disk_cases (bad_name n ∷ (4, NoFile (fold n)) ∷ [])
  table (opens n len checking code) =
      disk_cases ((12, (LengthInRange len → ⊥)) ∷ bad_name n ∷ (4, NoFile (fold n)) ∷ (5, WrongCode (fold n) checking code) ∷ [])
  table (creates n f checking) =
      disk_cases ((12, (NewInRange f → ⊥)) ∷ bad_name n ∷ (5, WrongCode (fold n) checking f.main) ∷ (8, NoFile (fold n) × (free_slots g d ≡ [])) ∷ [])
  table (reads a h b) = read_table h (how_many a h.len b) b
  table (reads_sector h k) = handle_cases h (InRange g h × (k < sector_numbers g)) ((6, 5 < h.level) ∷ (10, sector_count g d h.slot ≤ k) ∷ [])
  table (writes a m h b) = write_table m h (how_many a h.len b) b
  table (allots h k) = handle_cases h (InRange g h × (k < sector_numbers g)) (barred 4 h ∷ growth_cases h (lacks h (granules_to g k)))
  table (trims h) = handle_cases h (InRange g h) (barred 4 h ∷ [])
  table (kills h) = handle_cases h (InRange g h) (barred 1 h ∷ [])
  table (lists i) = disk_cases []
  table counts = disk_cases []
  table measures = (1, (FitsGeometry g d → ⊥)) ∷ []

-- "The split answers together are exactly the old 2" (02 §2): a disk has no fault exactly if it is consistent.
abbrev pub OldTwo : Type 0
OldTwo = (g : Geometry) (d : List ℕ) → (fault g d ≡ unplaced 0) ↔ (consistent g d ≡ true)

-- 6. One call, and every state reached ----------------------------------------------------------------------------------------------------

-- what must hold of all that is said of a call, and left
pub record Promised (g : Geometry) (d : List ℕ) (c : Call) (s : Said c) : Type 0 where
  pub told : (refusal_in c s.answer).number ≡ s.number'
  pub stays : Good g d → Brings c → Stays g d s.image
  pub serves : s.number' ≡ 0 → Serves g d c s
  pub refuses : s.number' ≢ 0 → (s.image ≡ d) × Refuses g d c s
  pub numbers : Exactly s.number' (table g d c)

-- and does of what the definitions say
abbrev pub Promise : Geometry → List ℕ → Call → Type 0
Promise g d c = Promised g d c (says g d c)

-- whatever the disk, whatever the call
abbrev pub EveryCall : Type 0
EveryCall = (g : Geometry) (d : List ℕ) (c : Call) → Promise g d c

-- what each call of a list brings
abbrev pub AllBring : List Call → Type 0
AllBring [] = Unit {0}
AllBring (c ∷ cs) = Brings c × AllBring cs

-- each call of a list is promised on the disk that the calls before it left, and leaves what is promised of the first disk
abbrev pub Along : Geometry → List ℕ → List ℕ → List Call → Type 0
Along g d₀ d [] = Stays g d₀ d
Along g d₀ d (c ∷ cs) = Stays g d₀ d × Promise g d c × Along g d₀ (leaves g d c) cs

abbrev pub EveryState : Type 0
EveryState = (g : Geometry) (d : List ℕ) → Good g d → (cs : List Call) → AllBring cs → Along g d d cs

-- 7. Free space from the GAT alone -----------------------------------------------------------------------------------------------------------

-- Two images of one length whose granules are taken alike get the same answer, whatever else they hold, directory and spare GAT bits included.
abbrev pub GatAlone : Type 0
GatAlone = (g : Geometry) (d d' : List ℕ) → length d' ≡ length d → ((n : ℕ) → n < granules g → taken g d' n ≡ taken g d n) → free_space g d' ≡ free_space g d

-- 8. Read back ------------------------------------------------------------------------------------------------------------------------------

-- After an accepted write of n bytes a read of n bytes at that position, by the same handle, is accepted and answers them, whatever the
-- buffer; and every byte of the file outside them and the gap is as it was, the gap zero.
pub record ReadsBack (g : Geometry) (d : List ℕ) (m : Mode) (h : Handle) (n : ℕ) (b : List ℕ) : Type 0 where
  pub accepted' : (b' : List ℕ) → n ≤ length b' → (read_of g (write_of g d m h n b).1 h n b').0.refusal.number ≡ 0
  pub bytes' : (b' : List ℕ) → n ≤ length b' → (read_of g (write_of g d m h n b).1 h n b').1 ≡ take n b ++ drop n b'
  pub kept : (j : ℕ) → j < length (file_at g d h.slot).bytes → j < length (file_at g (write_of g d m h n b).1 h.slot).bytes → (j < h.at) ⊎
      (h.at + n ≤ j)
      → get_or (file_at g (write_of g d m h n b).1 h.slot).bytes j 0 ≡ get_or (file_at g d h.slot).bytes j 0
  pub gap : (j : ℕ) → length (file_at g d h.slot).bytes ≤ j → j < h.at → get_or (file_at g (write_of g d m h n b).1 h.slot).bytes j 0 ≡ 0
  pub size : length (file_at g (write_of g d m h n b).1 h.slot).bytes ≡ size_after m (length (file_at g d h.slot).bytes) (h.at + n)

abbrev pub EveryWrite : Type 0
EveryWrite = (g : Geometry) (d : List ℕ) (m : Mode) (h : Handle) (n : ℕ) (b : List ℕ) → (write_of g d m h n b).0.refusal.number ≡ 0 → ReadsBack g d m h n b

-- 9. A name that comes in (02 §7) -----------------------------------------------------------------------------------------------------------

-- a byte of the name, or of the type, is good where it is allowed and no blank stands before it there, or where it is a blank
abbrev pub GoodIn : List ℕ → ℕ → Type 0
GoodIn xs i = (T (letter (get_or xs i 0)) × ((j : ℕ) → j < i → get_or xs j 0 ≢ 0x20)) ⊎ (get_or xs i 0 ≡ 0x20)

-- "a blank at place 0 is bad, and a non-blank after a blank in name or type"; the type begins at 8
pub record GoodAt (m : List ℕ) (i : ℕ) : Type 0 where
  pub start : i ≡ 0 → T (letter (get_or m 0 0))
  pub name' : i < 8 → GoodIn (take 8 m) i
  pub type' : 8 ≤ i → GoodIn (drop 8 m) (i - 8)

-- i is "the place of the first bad byte", 0 to 10; all before it are good. Of what has not 11 bytes it is 0.
pub record BadAt (m : List ℕ) (i : ℕ) : Type 0 where
  pub inside : i < no_place
  pub bad : length m ≡ 11 → GoodAt m i → ⊥
  pub before : length m ≡ 11 → (j : ℕ) → j < i → GoodAt m j
  pub short : length m ≢ 11 → i ≡ 0

-- "3 now carries a place, 0 to 10"
abbrev pub SaysPlace : List ℕ → Refusal → Type 0
SaysPlace n r = r.number ≡ 3 → BadAt (fold n) r.at

-- "The name check now hands back the folded name, or the place of the first bad byte": no place exactly if the folded name is well formed, and
-- the first bad one else. Folding twice is folding once. A well-formed name folds to itself, so it is answered as before.
pub record ComesIn (n : List ℕ) : Type 0 where
  pub name' : (comes_in n).name ≡ fold n
  pub good : ((comes_in n).place ≡ no_place) ↔ (well_formed (fold n) ≡ true)
  pub bad : well_formed (fold n) ≡ false → BadAt (fold n) (comes_in n).place
  pub once : fold (fold n) ≡ fold n
  pub old : well_formed n ≡ true → fold n ≡ n

-- A call by a name is the call by its fold, and says the place under 3.
pub record ByName (g : Geometry) (d n : List ℕ) : Type 0 where
  pub look : look_up g d n ≡ look_up g d (fold n)
  pub open'' : (len : ℕ) (checking : Bool) (code : ℕ) → open' g d n len checking code ≡ open' g d (fold n) len checking code
  pub create' : (f : NewFile) (checking : Bool) → create g d n f checking ≡ create g d (fold n) f checking
  pub look-place : SaysPlace n (look_up g d n).refusal
  pub open-place : (len : ℕ) (checking : Bool) (code : ℕ) → SaysPlace n (open' g d n len checking code).refusal
  pub create-place : (f : NewFile) (checking : Bool) → SaysPlace n (create g d n f checking).0.refusal

abbrev pub EveryName : Type 0
EveryName = (n : List ℕ) → ComesIn n × ((g : Geometry) (d : List ℕ) → ByName g d n)
