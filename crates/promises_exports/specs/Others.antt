-- The exports whose calls are none of demand 2's thirteen: the check of a name, bring back, play back, the listing in one call, compare, load record, and
-- those over two drives. Of each: all that goes out is what its contract fixes, its number is 0 or one of its table, under any other than 0 every
-- slice that it was lent is as it stood (an opened handle's: zeros, and behind them as it stood), and what it does is what is promised of its call.
use Rattle.std.specs.Prelude.{ℕ, zero, suc, ◌+◌, ◌*◌, ◌≤◌, ◌<◌, ◌≡◌, ◌≢◌, Bool, true, false, cond, List, [], ◌∷◌, ◌++◌, eqb, length, get_or, take}
use Rattle.std.specs.Prelude.{drop, replicate}
use Rattle.std.proofs.lemmas.List.Edits.{sets}
use Rattle.meaning.specs.Names.{fold}
use Rattle.meaning.specs.Amount.{one_record}
use Rattle.meaning.specs.Refusal.{placed}
use Rattle.meaning.specs.Refusals.{fault_numbers}
use Rattle.meaning.specs.Listing.{listed, list}
use Rattle.meaning.specs.Calls.{Call}
use Rattle.meaning.specs.Plain.{File, found, plain}
use Rattle.meaning.specs.declared.Geometry.{Geometry}
use Rattle.meaning.specs.declared.NewFile.{NewFile}
use Rattle.lists.specs.Members.{In}
use Rattle.promises_words.specs.Given.{AreBytes}
use Rattle.promises.specs.Said.{Said}
use Rattle.promises.specs.Promises.{Good, Stays, Table, Exactly, disk_cases, bad_name, BadAt, Promised}
use Rattle.promises_back.specs.Statement.{back_table, BackPromised}
use Rattle.promises_fault.specs.Statement.{FaultIs}
use Rattle.play_trace.specs.Bits.{bits}
use Rattle.play_trace.specs.Reading.{Trace}
use Rattle.play_session.specs.Playing.{played}
use Rattle.promises_trace.specs.First.{FirstFault}
use Rattle.promises_trace.specs.Promises.{TraceReads}
use Rattle.promises_session.specs.Statement.{play_table}
use Rattle.list_rows.specs.Rows.{row_bytes, row_of}
use Rattle.promises_rows.specs.Numbers.{rows_cases}
use Rattle.differences.specs.declared.Difference.{Difference}
use Rattle.promises_compare.specs.Statement.{Both, many, Compares, Refuses}
use Rattle.load.specs.Records.{data_code, start_code, file_ends}
use Rattle.load.specs.Cut.{Pieces, starts, breaks, ending, onto, cut}
use Rattle.promises_load.specs.Statement.{Admitted}
use Rattle.promises_load.specs.Numbers.{load_cases}
use Rattle.drives.specs.Pair.{Pair, geometry, image, leaving, tested, answered}
use Rattle.drives.specs.ByName.{looked_up_on, opened_on, created_on, searched, passed_over, takes}
use Rattle.drives.specs.ByHandle.{part_on}
use Rattle.drives.specs.declared.DriveHandle.{DriveHandle}
use Rattle.promises_drives.specs.Statement.{IsDrive}
use Rattle.drives_codec.specs.Codec as drives-codec
use Rattle.genie_codec.specs.Codec.{handle_bytes, name_bytes, handle_of}
use Rattle.genie_codec.specs.Words.{mode_of}
use Rattle.genie.specs.Exports.{new_file, exported_name, exported_bring_back, exported_play}
use Rattle.genie.specs.Table.{exported_list_from}
use Rattle.genie.specs.Compared.{exported_compare, tells_difference}
use Rattle.genie.specs.Program.{exported_load_record}
use Rattle.genie.specs.Drives as exports
use Rattle.genie.specs.Drives.{drives_look_up, drives_open, drives_create, drives_read_record, drives_read_sector, drives_write_record}
use Rattle.genie.specs.Drives.{drives_allot, drives_trim}
use Rattle.genie.specs.Drives.{drives_kill}
use Rattle.promises_numbers.specs.Statement.{numbers, rows_of}

-- x is what goes out, y what the contract says; `after` the slices as they are then, `before` as they must be under a refusal; `Does` what it does
pub record ExportFixed {A : Type 0} (x y : A) (number : ℕ) (numbers : List ℕ) (after before : List (List ℕ)) (Does : Type 0) : Type 0 where
  pub is : x ≡ y
  pub numbered : In number (0 ∷ numbers)
  pub refuses : number ≢ 0 → after ≡ before
  pub does : Does

-- the check of a name: 12 where its buffer is too short, else 3 or 0
abbrev pub name_table : List ℕ → List ℕ → Table
name_table n b = (12, length b < name_bytes) ∷ bad_name n ∷ []

-- "hands back the folded name, or the place of the first bad byte" (02 §7)
pub record NameTold (n b : List ℕ) (x : ℕ × ℕ × List ℕ) : Type 0 where
  pub numbers : Exactly x.0 (name_table n b)
  pub folded : x.0 ≡ 0 → x.2 ≡ sets b 0 (fold n)
  pub place : x.0 ≡ 3 → BadAt (fold n) x.1

abbrev pub NameChecked : List ℕ → List ℕ → ℕ × ℕ × List ℕ → Type 0
NameChecked n b x = ExportFixed x (exported_name n b) x.0 (rows_of (name_table n b)) (x.2 ∷ []) (b ∷ []) (NameTold n b x)

module _ (g : Geometry) (d : List ℕ) where
  -- with a fault's number goes its slot (02 §2)
  abbrev pub WithFault : ℕ → ℕ → Type 0
  WithFault number slot = In number fault_numbers → FaultIs g d (placed number slot)

  abbrev pub BroughtBackBy : ℕ → ℕ × ℕ × ℕ × ℕ × List ℕ → Type 0
  BroughtBackBy s x =
      ExportFixed x (exported_bring_back g d s) x.0 (rows_of (back_table g d s)) (x.4 ∷ []) (d ∷ [])
      (BackPromised g d s (record { refusal = placed x.0 x.1; slots = x.2; granules = x.3 }) x.4
      × WithFault x.0 x.1)

  -- play back (promises_session: PlayPromise), the trace of bytes
  pub record PlaysBack (t rs : List ℕ) (x : ℕ × ℕ × ℕ × ℕ × ℕ × List ℕ × List ℕ) : Type 0 where
    pub numbers : Exactly x.0 (play_table g d t (length rs))
    pub stays : Good g d → Stays g d x.6
    pub serves : x.0 ≡ 0 → (r : Trace) × TraceReads t r × (x.2 ≡ length r.steps) × (x.6 ≡ (played g r.names r.steps d).1)
        × (x.5 ≡ (played g r.names r.steps d).0 ++ drop (length r.steps) rs)
    pub place : x.0 ≡ 14 → FirstFault (bits t) (8 * x.3 + x.4)
    pub fault : WithFault x.0 x.1

  -- the trace is t, the buffer of results rs
  abbrev pub PlayedBack : List ℕ → List ℕ → ℕ × ℕ × ℕ × ℕ × ℕ × List ℕ × List ℕ → Type 0
  PlayedBack t rs x =
      ExportFixed x (exported_play g d t rs) x.0 (rows_of (play_table g d t (length rs))) (x.5 ∷ x.6 ∷ []) (rs ∷ d ∷ []) (AreBytes t → PlaysBack t rs x)

  -- the listing in one call from number k on, into the table t (promises_rows)
  pub record RowsTold (k : ℕ) (t : List ℕ) (x : ℕ × ℕ × ℕ × List ℕ) : Type 0 where
    pub numbers : Exactly x.0 (rows_cases g d (length t))
    pub row : x.0 ≡ 0 → (i : ℕ) → i < x.2
        → (take row_bytes (drop (row_bytes * i) x.3) ≡ row_of (get_or (listed g d) (k + i) 0) (list g d (k + i))) × ((list g d (k + i)).more ≡ true)
    pub all' : x.0 ≡ 0 → row_bytes * x.2 + row_bytes ≤ length t → (list g d (k + x.2)).more ≡ false
    pub rest : x.0 ≡ 0 → drop (row_bytes * x.2) x.3 ≡ drop (row_bytes * x.2) t
    pub fault : WithFault x.0 x.1

  abbrev pub ListedFrom : ℕ → List ℕ → ℕ × ℕ × ℕ × List ℕ → Type 0
  ListedFrom k t x = ExportFixed x (exported_list_from g d k t) x.0 (rows_of (rows_cases g d (length t))) (x.3 ∷ []) (t ∷ []) (RowsTold k t x)

  -- answer i of those of two disks, as it goes out
  abbrev pub Difference' : Geometry → List ℕ → ℕ → List ℕ → ℕ × ℕ × ℕ × ℕ × ℕ × ℕ × List ℕ → Type 0
  Difference' g' d' i b x =
      name_bytes ≤ length b → (told : ℕ → Difference) × Refuses g d g' d' told × (Both g d g' d' → Compares g d g' d' (many g d g' d') told)
      × (x ≡ tells_difference b (told i))

  -- a table of either image has the same numbers
  abbrev pub ComparedWith : Geometry → List ℕ → ℕ → List ℕ → ℕ × ℕ × ℕ × ℕ × ℕ × ℕ × List ℕ → Type 0
  ComparedWith g' d' i b x =
      ExportFixed x (exported_compare g d g' d' i b) x.0 (rows_of (disk_cases g d ((12, Unit {0}) ∷ []))) (x.6 ∷ []) (b ∷ []) (Difference' g' d' i b x)

  abbrev pub RecordLoaded : List ℕ → List ℕ → ℕ × ℕ × ℕ × ℕ × ℕ × ℕ × List ℕ × List ℕ → Type 0
  RecordLoaded b buffer x =
      ExportFixed x (exported_load_record g d b buffer) x.0 (rows_of (load_cases g d (handle_of b) (length buffer))) (x.6 ∷ x.7 ∷ []) (b ∷ buffer ∷ [])
      ((handle_bytes ≤ length b → Exactly x.0 (load_cases g d (handle_of b) (length buffer))) × WithFault x.0 x.1)

  -- load record asked n times at the most, with the bytes that the last call left, until no data record is told
  unfoldable pub loaded_from : ℕ → List ℕ → List ℕ → Pieces
  loaded_from zero b buffer = ending (breaks file_ends (handle_of b).at)
  loaded_from (suc n) b buffer =
      let x = exported_load_record g d b buffer in
      cond (eqb x.2 data_code)
      (onto (record { address = x.3; bytes = take x.4 x.7 }) (loaded_from n x.6 x.7))
      (ending (cond (eqb x.2 start_code) (starts x.3) (breaks x.0 x.5)))

-- Asked so from place 0 on it hands out the records of the plain file, cut, and then tells its end (promises_load: EveryProgram).
abbrev pub EveryHostProgram : Type 0
EveryHostProgram =
    (g : Geometry) (d b buffer : List ℕ) (f : File) → AreBytes b → handle_bytes ≤ length b → Admitted g d (handle_of b) buffer → (handle_of b).at ≡ 0
    → plain g d (handle_of b).name ≡ found f → loaded_from g d (suc (length f.bytes)) b buffer ≡ cut f.bytes

-- Over two drives (02 §9): 16 beside the numbers of the call on one image
abbrev pub numbers_on : Call → List ℕ
numbers_on c = numbers c ++ (16 ∷ [])

-- an opened handle's slice under a refusal
abbrev pub zeroed_on : List ℕ → List ℕ
zeroed_on b = drives-codec.long b b (replicate drives-codec.handle_bytes 0 ++ drop drives-codec.handle_bytes b)

-- a new file as it is stated, its record length out of range where the outgoing handle has no room
abbrev pub room_for : List ℕ → NewFile → NewFile
room_for b f = new_file f.day f.month f.year (drives-codec.length_for b f.len) f.main f.worker

module _ (p : Pair) where
  -- something is said of the call on drive j's image that keeps the promises of demand 2, and so it goes out
  abbrev pub SaidOn : ℕ → (c : Call) → (Said c → Type 0) → Type 0
  SaidOn j c Goes = (s : Said c) × Promised (geometry p j) (image p j) c s × Goes s

  -- with a number, as every handle has: the call on that drive, or 16 where there is no such drive
  abbrev pub ByNumber : ℕ → ℕ → (c : Call) → (ℕ → Said c → Type 0) → Type 0
  ByNumber number j c Goes = (IsDrive j → SaidOn j c (Goes j)) × ((IsDrive j → ⊥) → number ≡ 16)

  -- by a name, with a number or without, where j is the drive that the search names: then it is the call on that drive, or what is found of a disk first
  abbrev pub ByName : ℕ → Bool → ℕ → ℕ → (c : Call) → (ℕ → Said c → Type 0) → Type 0
  ByName number numbered k j c Goes =
      (numbered ≡ true → ByNumber number k c Goes)
      × (numbered ≡ false → ((tested p).number ≡ 0 → SaidOn j c (Goes j)) × ((tested p).number ≢ 0 → number ≡ (tested p).number))

  -- both images where the call leaves d in drive j's
  abbrev pub both_after : {A : Type 0} → A → ℕ → List ℕ → A × List ℕ × List ℕ
  both_after r j d = (r, leaving p j d 0, leaving p j d 1)

  abbrev pub LookedUpOn : Bool → ℕ → List ℕ → ℕ × ℕ × ℕ × ℕ × ℕ × ℕ × ℕ → Type 0
  LookedUpOn numbered k n x = ExportFixed x (drives_look_up p numbered k n) x.0 (numbers_on (Call.looks_up n)) [] []
      (ByName x.0 numbered k (searched p n) (Call.looks_up n) (λ j s. x ≡ exports.looks (looked_up_on j (cond numbered 0 (passed_over p n)) s.answer)))

  abbrev pub OpenedOn : Bool → ℕ → List ℕ → ℕ → Bool → ℕ → List ℕ → ℕ × ℕ × ℕ × ℕ × List ℕ → Type 0
  OpenedOn numbered k n len checking code b x =
      ExportFixed x (drives_open p numbered k n len checking code b) x.0 (numbers_on (Call.opens n len checking code)) (x.4 ∷ []) (zeroed_on b ∷ [])
      (ByName x.0 numbered k (searched p n) (Call.opens n (drives-codec.length_for b len) checking code)
      (λ j s. x ≡ exports.opens b (opened_on j s.answer)))

  abbrev pub CreatedOn : Bool → ℕ → List ℕ → NewFile → Bool → List ℕ → ℕ × ℕ × ℕ × ℕ × ℕ × List ℕ × List ℕ × List ℕ → Type 0
  CreatedOn numbered k n f checking b x =
      ExportFixed x (drives_create p numbered k n f checking b) x.0 (numbers_on (Call.creates n f checking)) (x.5 ∷ x.6 ∷ x.7 ∷ [])
      (zeroed_on b ∷ p.image0 ∷ p.image1 ∷ [])
      (ByName x.0 numbered k (takes p n) (Call.creates n (room_for b f) checking)
      (λ j s. x ≡ exports.creates b (both_after (created_on j s.answer) j s.image)))

  -- by the handle that the bytes hold
  module _ (b : List ℕ) where
    abbrev pub held : DriveHandle
    held = drives-codec.handle_of b

    abbrev pub ReadOn : List ℕ → ℕ × ℕ × ℕ × List ℕ × List ℕ → Type 0
    ReadOn buffer x =
        let c = Call.reads one_record held.handle buffer in
        ExportFixed x (drives_read_record p b buffer) x.0 (numbers_on c) (x.3 ∷ x.4 ∷ []) (b ∷ buffer ∷ [])
        (ByNumber x.0 held.drive c (λ j s. x ≡ exports.reads b (answered j s.answer.0, s.answer.1)))

    abbrev pub SectorReadOn : ℕ → ℕ × ℕ × ℕ × ℕ × ℕ × ℕ → Type 0
    SectorReadOn k x =
        let c = Call.reads_sector held.handle k in
        ExportFixed x (drives_read_sector p b k) x.0 (numbers_on c) [] []
        (ByNumber x.0 held.drive c (λ j s. x ≡ exports.lies (part_on j s.answer)))

    abbrev pub WrittenOn : Bool → List ℕ → ℕ × ℕ × ℕ × List ℕ × List ℕ × List ℕ → Type 0
    WrittenOn sequential buffer x =
        let c = Call.writes one_record (mode_of sequential) held.handle buffer in
        ExportFixed x (drives_write_record p b sequential buffer) x.0 (numbers_on c) (x.3 ∷ x.4 ∷ x.5 ∷ []) (b ∷ p.image0 ∷ p.image1 ∷ [])
        (ByNumber x.0 held.drive c (λ j s. x ≡ exports.writes b (both_after (answered j s.answer) j s.image)))

    abbrev pub AllottedOn : ℕ → ℕ × ℕ × ℕ × List ℕ × List ℕ → Type 0
    AllottedOn k x =
        let c = Call.allots held.handle k in
        ExportFixed x (drives_allot p b k) x.0 (numbers_on c) (x.3 ∷ x.4 ∷ []) (p.image0 ∷ p.image1 ∷ [])
        (ByNumber x.0 held.drive c (λ j s. x ≡ exports.changes (both_after (answered j s.answer) j s.image)))

    abbrev pub TrimmedOn : ℕ × ℕ × ℕ × List ℕ × List ℕ → Type 0
    TrimmedOn x =
        let c = Call.trims held.handle in
        ExportFixed x (drives_trim p b) x.0 (numbers_on c) (x.3 ∷ x.4 ∷ []) (p.image0 ∷ p.image1 ∷ [])
        (ByNumber x.0 held.drive c (λ j s. x ≡ exports.changes (both_after (answered j s.answer) j s.image)))

    abbrev pub KilledOn : ℕ × ℕ × ℕ × List ℕ × List ℕ → Type 0
    KilledOn x =
        let c = Call.kills held.handle in
        ExportFixed x (drives_kill p b) x.0 (numbers_on c) (x.3 ∷ x.4 ∷ []) (p.image0 ∷ p.image1 ∷ [])
        (ByNumber x.0 held.drive c (λ j s. x ≡ exports.changes (both_after (answered j s.answer) j s.image)))
