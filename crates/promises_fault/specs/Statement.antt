-- Say what is inconsistent, and where (02 §2), in words: what each kind of fault is, of which slot, and which of several is told. Nothing is
-- proved here: `Kept` has the theorems. The words are those of entries and chains that `laws: Clauses` uses for a consistent disk; none of
-- the tests by which `meaning: Fault` finds a fault stands here.
use Rattle.std.specs.Prelude.{◌≡◌, ◌≢◌, ◌⊎◌, true, not, List, [], ◌∷◌, ℕ, ◌+◌, ◌*◌, ◌≤◌, ◌<◌, T, length}
use Rattle.meaning.specs.Lists.{In, Distinct}
use Rattle.meaning.specs.Bits.{bit}
use Rattle.meaning.specs.Layout.{fits_geometry, granules, is_slot, above_ten, directory_sectors, sectors, hit, field, taken, granule_bytes, directory_granules}
use Rattle.meaning.specs.Names.{hash, well_formed}
use Rattle.meaning.specs.Entries.{in_use, extension, system, name_of, block, marker, link, sector_count, end_byte, size_of}
use Rattle.meaning.specs.Entries.{runs, first_unit, run_start, run_length, entry_granules}
use Rattle.meaning.specs.Chain.{owned}
use Rattle.meaning.specs.Refusal.{unplaced, placed}
use Rattle.meaning.specs.Refusals.{fault_numbers, check}
use Rattle.meaning.specs.Fault.{fault}
use Rattle.meaning.specs.BringBack.{bring_back}
use Rattle.meaning.specs.Calls.{Call, number, refusal_in}
use Rattle.meaning.specs.declared.Geometry.{Geometry}
use Rattle.meaning.specs.declared.Refusal.{Refusal}
use Rattle.laws.specs.Facts.{IsFile}
use Rattle.laws.specs.Clauses.{IsUsed}
use Rattle.laws.specs.Entry.{Follows}
use Rattle.promises.specs.Said.{says}
use Rattle.promises.specs.Promises.{Table}

module _ (g : Geometry) (d : List ℕ) where
  -- Walks ---------------------------------------------------------------------------------------------------------------------------

  -- "After an FFH block every later pair of that entry starts with FFH" (01).
  abbrev pub PairsInOrder : ℕ → Type 0
  PairsInOrder s = (k : ℕ) → k < 4 → runs g d s ≤ k → block g d s k ≡ 0xff

  -- the entry links on, and neither its marker nor its pairs nor its link is bad: "Each entry before the last of a chain has four runs", and
  -- the link leads "to an in-use extension"
  pub record LinksOn (s : ℕ) : Type 0 where
    pub pairs : PairsInOrder s
    pub marked : marker g d s ≡ 0xfe
    pub next : IsUsed g d (link g d s)
    pub extends : T (extension g d (link g d s))
    pub full : runs g d s ≡ 4

  -- the entry is the last of its chain, and neither its marker nor its pairs are bad
  pub record LastEntry (s : ℕ) : Type 0 where
    pub pairs : PairsInOrder s
    pub marked : marker g d s ≡ 0xff

  -- whom the walk from the file at slot p meets: "A walk passes badly formed extensions and stops at an entry with a bad marker, pairs or link,
  -- and at a second meeting." (It meets no one for the first time after a second meeting.)
  pub data WalkMeets (p : ℕ) : ℕ → Type 0 where
    itself : WalkMeets p p
    onward : {b x : ℕ} → WalkMeets p b → LinksOn b → link g d b ≡ x → WalkMeets p x

  -- some file's walk comes to slot x from the entry at slot b
  pub record ComesFrom (x b : ℕ) : Type 0 where
    pub file : ℕ
    pub starts : IsFile g d file
    pub meets : WalkMeets file b
    pub goes : LinksOn b
    pub to : link g d b ≡ x

  -- the file of an entry is the one at slot p: the first, by rising slot number, whose walk meets it
  pub record OfFile (s p : ℕ) : Type 0 where
    pub file : IsFile g d p
    pub meets : WalkMeets p s
    pub lowest : (q : ℕ) → IsFile g d q → WalkMeets q s → p ≤ q

  -- "the extension met in no file's chain, met twice, or badly formed": byte 00 is 90H, it points back, and has at least one run (`Follows`)
  pub data BadExtension (x : ℕ) : Type 0 where
    unmet : ((b : ℕ) → ComesFrom x b → ⊥) → BadExtension x
    twice : (a b : ℕ) → a ≢ b → ComesFrom x a → ComesFrom x b → BadExtension x
    formed : (b : ℕ) → ComesFrom x b → (Follows g d b x → ⊥) → BadExtension x

  -- Kinds, of a slot of the directory -------------------------------------------------------------------------------------------------

  -- 22, "HIT against entry"
  pub data HitKind (s : ℕ) : Type 0 where
    -- "A slot's HIT byte is nonzero exactly if its entry is in use" (01).
    idle : (T (in_use g d s) → ⊥) → hit g d s ≢ 0 → HitKind s
    blank : T (in_use g d s) → hit g d s ≡ 0 → HitKind s
    -- "HIT bytes equal the hashes"; "an extension's HIT byte is its file's hash" (01). Of a bad extension: "that one's hash isn't tested".
    unlike : T (in_use g d s) → (T (extension g d s) → BadExtension s → ⊥) → (p : ℕ) → OfFile s p → hit g d s ≢ hash (name_of g d p) → HitKind s

  -- 23, "name": "Names of in-use primary entries are well formed; bit 5 is zero" (01); "Bit 5 counts under name".
  pub data NameKind (p : ℕ) : Type 0 where
    formed : IsFile g d p → (T (well_formed (name_of g d p)) → ⊥) → NameKind p
    five : IsFile g d p → T (bit 5 (field g d p 0)) → NameKind p

  -- 24, "duplicate name": names "differ" (01); "for a pair of slots the higher one"
  pub record DuplicateKind (p : ℕ) : Type 0 where
    pub file : IsFile g d p
    pub other : ℕ
    pub below : other < p
    pub file' : IsFile g d other
    pub alike : name_of g d other ≡ name_of g d p

  -- 25, "chain": "belongs to the entry with the bad marker, pairs or link (not to an in-use extension), or to the extension met in no file's
  -- chain, met twice, or badly formed"
  pub data ChainKind (s : ℕ) : Type 0 where
    entry : T (in_use g d s) → (LinksOn s → ⊥) → (LastEntry s → ⊥) → ChainKind s
    extends : T (in_use g d s) → T (extension g d s) → BadExtension s → ChainKind s

  -- 26, "run off the disk": "Runs lie on the disk, their first unit is below units per block" (01); "a first unit too high under run off the
  -- disk"; "a run's fault" belongs "to the entry that holds it".
  pub record RunKind (s : ℕ) : Type 0 where
    pub used : T (in_use g d s)
    pub which : ℕ
    pub held : which < runs g d s
    pub off : (g.units ≤ first_unit g d s which) ⊎ (granules g < run_start g d s which + run_length g d s which)

  -- 27, "GAT bit missing": of a granule of the entry's runs
  pub record GatKind (s : ℕ) : Type 0 where
    pub used : T (in_use g d s)
    pub granule' : ℕ
    pub held : In granule' (entry_granules g d s)
    pub clear : T (taken g d granule') → ⊥

  -- 28, "granule shared": in two runs of this entry, or of this one and one in a lower slot ("for a pair of slots the higher one")
  pub data SharedKind (s : ℕ) : Type 0 where
    within : T (in_use g d s) → (Distinct (entry_granules g d s) → ⊥) → SharedKind s
    across : T (in_use g d s) → (t n : ℕ) → t < s → IsUsed g d t → In n (entry_granules g d s) → In n (entry_granules g d t) → SharedKind s

  -- 29, "size": "n = 0 only with e = 0; the size fits the granules owned" (01); "to the primary entry, granules counted as the pairs name them,
  -- and only where its chain is whole"
  pub record SizeKind (p : ℕ) : Type 0 where
    pub file : IsFile g d p
    pub whole : (s : ℕ) → WalkMeets p s → ChainKind s → ⊥
    pub wrong : ((sector_count g d p ≡ 0) × (end_byte g d p ≢ 0)) ⊎ (granule_bytes g * length (owned g d p) < size_of g d p)

  -- 30 with a slot, "directory granule": "in no run of a file without the system flag" (01)
  pub record DirectoryKind (s : ℕ) : Type 0 where
    pub used : T (in_use g d s)
    pub file : ℕ
    pub of : OfFile s file
    pub plain : T (not (system g d file))
    pub granule' : ℕ
    pub held : In granule' (entry_granules g d s)
    pub directory : In granule' (directory_granules g d)

  -- "at that slot the first kind in this order"
  abbrev pub kinds : ℕ → Table
  kinds s =
      (22, HitKind s) ∷ (23, NameKind s) ∷ (24, DuplicateKind s) ∷ (25, ChainKind s) ∷ (26, RunKind s)
      ∷ (27, GatKind s) ∷ (28, SharedKind s) ∷ (29, SizeKind s) ∷ (30, DirectoryKind s) ∷ []

  -- The fault -------------------------------------------------------------------------------------------------------------------------

  -- 21, "directory length": "The 1FH byte is allowed and the directory fits the image" (01).
  pub record LengthHolds : Type 0 where
    pub allowed : In (above_ten g d) (0 ∷ 5 ∷ 10 ∷ 15 ∷ 20 ∷ [])
    pub fits : g.start + directory_sectors g d ≤ sectors g

  -- of a table the case of number k holds, and none before it
  abbrev pub FirstOf : ℕ → Table → Type 0
  FirstOf k [] = ⊥
  FirstOf k (r ∷ rs) = ((k ≡ r.0) × r.1) ⊎ ((r.1 → ⊥) × FirstOf k rs)

  -- no case of a table holds
  abbrev pub NoneOf : Table → Type 0
  NoneOf [] = Unit {0}
  NoneOf (r ∷ rs) = (r.1 → ⊥) × NoneOf rs

  -- no slot has a fault
  abbrev pub NoSlot : Type 0
  NoSlot = (s : ℕ) → T (is_slot g d s) → NoneOf (kinds s)

  -- What is told: a number, and a slot with it or none (`unplaced`: 256, which is no slot)
  pub data FaultIs : Refusal → Type 0 where
    -- "Directory length comes before all slots", "without a slot"
    length' : (LengthHolds → ⊥) → FaultIs (unplaced 21)
    -- "Report the lowest slot at fault", "and at that slot the first kind in this order"
    slot : (s k : ℕ) → LengthHolds → T (is_slot g d s) → FirstOf k (kinds s) → ((t : ℕ) → T (is_slot g d t) → t < s → NoneOf (kinds t)) → FaultIs (placed k s)
    -- "a clear directory granule after them", "without a slot"
    granule : (n : ℕ) → LengthHolds → NoSlot → In n (directory_granules g d) → (T (taken g d n) → ⊥) → FaultIs (unplaced 30)
    -- none: "Directory granules are set in the GAT" (01)
    sound : LengthHolds → NoSlot → ((n : ℕ) → In n (directory_granules g d) → T (taken g d n)) → FaultIs (unplaced 0)

-- The promise -----------------------------------------------------------------------------------------------------------------------

-- Whatever the image: the fault is what is told, and nothing else can be told.
pub record FaultTold (g : Geometry) (d : List ℕ) : Type 0 where
  pub told : FaultIs g d (fault g d)
  pub one : (r : Refusal) → FaultIs g d r → r ≡ fault g d
  -- the check, of an image that fits its geometry, answers it
  pub checked : fits_geometry g d ≡ true → check g d ≡ fault g d
  -- "21 to 30 .. in 2's place": whatever call answers one of these numbers tells that slot
  pub handed : (c : Call) → In (number g d c) fault_numbers → refusal_in c (says g d c).answer ≡ fault g d
  -- bring back (02 §11), of any slot, too
  pub back : (s : ℕ) → In (bring_back g d s).0.refusal.number fault_numbers → (bring_back g d s).0.refusal ≡ fault g d

abbrev pub EveryFault : Type 0
EveryFault = (g : Geometry) (d : List ℕ) → FaultTold g d
