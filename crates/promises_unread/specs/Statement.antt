-- What is not read (01, Directory layout): "Bytes past the last block, and bits past the last unit, are neither read nor changed", and of the HIT's
-- places of no slot "other places are neither read (1FH excepted) nor changed". "Nor changed" is in `promises` (`Becomes.untouched`, `Becomes.spare`);
-- here is "neither read": two images that differ only in such places get the same answers from every call, and the images left differ only in such places
-- again. The same of three kinds more, in any choice: an extension's bytes 02 to 15; what stands behind FFH; dead entries, bring back apart. This is said of
-- any two images,
-- consistent or not. Nothing is proved here: `Kept` has the theorems.
use Rattle.std.specs.Prelude.{◌≡◌, ◌≢◌, ◌⊎◌, Bool, true, false, not, ◌&&◌, List, ℕ, ◌+◌, ◌*◌, ◌≤◌, ◌<◌, T, eqb, length, set}
use Rattle.meaning.specs.Lists.{In, some, count}
use Rattle.meaning.specs.Bits.{bit, digit}
use Rattle.meaning.specs.Layout.{fits_geometry, hit_at, entry_at, field, byte, granules, taken, above_ten, is_slot, hit, directory_granules}
use Rattle.meaning.specs.Entries.{in_use, system, extension, marker}
use Rattle.meaning.specs.Chain.{owned}
use Rattle.meaning.specs.Consistent.{consistent}
use Rattle.meaning.specs.Refusals.{check}
use Rattle.meaning.specs.LookUp.{look_up}
use Rattle.meaning.specs.Open.{open'}
use Rattle.meaning.specs.Create.{create}
use Rattle.meaning.specs.Amount.{how_many}
use Rattle.meaning.specs.Read.{read_of, read_sector}
use Rattle.meaning.specs.Write.{write_of}
use Rattle.meaning.specs.Allot.{allot}
use Rattle.meaning.specs.Trim.{trim}
use Rattle.meaning.specs.Kill.{kill}
use Rattle.meaning.specs.BringBack.{bring_back}
use Rattle.meaning.specs.Listing
use Rattle.meaning.specs.FreeSpace.{free_space}
use Rattle.meaning.specs.Calls.{Call, checks, looks_up, opens, creates, reads, reads_sector, writes, allots, trims, kills, lists, counts, measures}
use Rattle.meaning.specs.declared.Geometry.{Geometry}
use Rattle.meaning.specs.declared.Handle.{Handle}
use Rattle.differences.specs.Compare.{compare}
use Rattle.load.specs.Load.{load_record}

-- Which further bytes may differ, beside GAT bytes past the last block, GAT bits past the last unit and HIT places of no slot
pub record Kinds : Type 0 where
  -- an extension's bytes 02 to 15
  pub extensions : Bool
  -- what stands behind FFH: the second byte of a pair that begins with it or comes after one, and the link behind a marker that is not FEH
  pub behind : Bool
  -- dead entries: all but bit 4 of their flags
  pub dead : Bool

-- pair k of an entry begins with FFH, or one before it does: "Block FFH ends the list"
unfoldable pub stopped : (ℕ → ℕ) → ℕ → Bool
stopped f k = some (λ j. eqb (f (0x16 + 2 * j)) 0xff) (count 0 (k + 1))

-- An entry on the one image and on the other, by its bytes
pub record BytesAlike (u : Kinds) (f f' : ℕ → ℕ) : Type 0 where
  -- flags; and byte 01, an extension's slot before it
  pub flags : f 0 ≡ f' 0
  pub one : f 1 ≡ f' 1
  -- "Extension: … 02 to 15 zero": 01 says so of a new one, and no test asks for it
  pub low : (k : ℕ) → 2 ≤ k → k < 0x16 → (u.extensions && bit 7 (f 0)) ≡ false → f k ≡ f' k
  -- the four pairs
  pub block : (k : ℕ) → k < 4 → f (0x16 + 2 * k) ≡ f' (0x16 + 2 * k)
  pub second : (k : ℕ) → k < 4 → (u.behind && stopped f k) ≡ false → f (0x17 + 2 * k) ≡ f' (0x17 + 2 * k)
  -- "Marker FFH: no extension. FEH: the link is its slot."
  pub marker : f 0x1e ≡ f' 0x1e
  pub link : (u.behind && not (eqb (f 0x1e) 0xfe)) ≡ false → f 0x1f ≡ f' 0x1f

-- An entry is in use on both or on neither; and if it is, or dead ones count too, it is the same by its bytes.
pub record EntryAlike (u : Kinds) (f f' : ℕ → ℕ) : Type 0 where
  pub used : bit 4 (f 0) ≡ bit 4 (f' 0)
  pub bytes : (u.dead && not (bit 4 (f 0))) ≡ false → BytesAlike u f f'

-- a place in neither GAT nor HIT and in no slot's entry
abbrev pub Outside : Geometry → List ℕ → ℕ → Type 0
Outside g d i = (i < 256 * g.start) ⊎ ((256 * (g.start + 2) ≤ i) × ((s : ℕ) → T (is_slot g d s) → (i < entry_at g s) ⊎ (entry_at g s + 32 ≤ i)))

-- Images of one length, alike but for GAT bytes past the last block, GAT bits past the last unit, HIT places of no slot and those further kinds.
pub record ReadAlike (u : Kinds) (g : Geometry) (d d' : List ℕ) : Type 0 where
  pub long : length d ≡ length d'
  -- outside the GAT, the HIT and the entries every byte
  pub rest : (i : ℕ) → Outside g d i → byte d i ≡ byte d' i
  -- the bits below units per block of the bytes of the blocks: one for each granule
  pub gat : (n : ℕ) → n < granules g → taken g d n ≡ taken g d' n
  -- the HIT places of slots, and 1FH, which says what slots there are
  pub above : above_ten g d ≡ above_ten g d'
  pub hits : (s : ℕ) → T (is_slot g d s) → hit g d s ≡ hit g d' s
  pub entries : (s : ℕ) → T (is_slot g d s) → EntryAlike u (field g d s) (field g d' s)

-- Such places, one by one: a store that is not read, of a byte v at place i.
pub data Unread (u : Kinds) (g : Geometry) (d : List ℕ) : ℕ → ℕ → Type 0 where
  -- a GAT byte past the last block
  past_blocks : (b v : ℕ) → g.blocks ≤ b → b < 256 → Unread u g d (256 * g.start + b) v
  -- a GAT byte of a block, its bits below units per block as they were
  past_units : (b v : ℕ) → b < g.blocks → ((i : ℕ) → i < g.units → digit v i ≡ digit (byte d (256 * g.start + b)) i) → Unread u g d (256 * g.start + b) v
  -- a HIT place of no slot
  no_slot : (s v : ℕ) → s < 256 → s ≢ 0x1f → is_slot g d s ≡ false → Unread u g d (hit_at g s) v
  -- one of an extension's bytes 02 to 15
  of_extension : (s k v : ℕ) → T (is_slot g d s) → u.extensions ≡ true → extension g d s ≡ true → 2 ≤ k → k < 0x16 → Unread u g d (entry_at g s + k) v
  -- the second byte of a pair that begins with FFH, or comes after one that does
  behind_block : (s k v : ℕ) → T (is_slot g d s) → u.behind ≡ true → k < 4 → stopped (field g d s) k ≡ true → Unread u g d (entry_at g s + (0x17 + 2 * k)) v
  -- the link behind a marker that is not FEH
  behind_marker : (s v : ℕ) → T (is_slot g d s) → u.behind ≡ true → marker g d s ≢ 0xfe → Unread u g d (entry_at g s + 0x1f) v
  -- any byte of a dead entry, bit 4 of its flags as it was
  of_dead : (s k v : ℕ) → T (is_slot g d s) → u.dead ≡ true → in_use g d s ≡ false → k < 32 → (k ≡ 0 → bit 4 v ≡ false) → Unread u g d (entry_at g s + k) v

-- It leaves an image that is alike; so do several of them.
abbrev pub EveryPlace : Type 0
EveryPlace = (u : Kinds) (g : Geometry) (d : List ℕ) → fits_geometry g d ≡ true → (i v : ℕ) → Unread u g d i v → ReadAlike u g d (set d i v)

abbrev pub EverySeries : Type 0
EverySeries = (u : Kinds) (g : Geometry) (d d' d'' : List ℕ) → ReadAlike u g d d' → ReadAlike u g d' d'' → ReadAlike u g d d''

-- The answer and the image of a call that writes: the one is the same, the other alike.
abbrev pub LeftAlike : {A : Type 0} → Kinds → Geometry → A × List ℕ → A × List ℕ → Type 0
LeftAlike u g x y = (x.0 ≡ y.0) × ReadAlike u g x.1 y.1

-- A file of the system may own granules of the directory (01: "Directory granules are in no run of a file without the system flag"), and who reads
-- it reads whatever stands there. Of all other files this is no premise where the call is accepted.
abbrev pub Apart : Geometry → List ℕ → ℕ → Type 0
Apart g d s = (system g d s ≡ false) ⊎ ((n : ℕ) → In n (owned g d s) → In n (directory_granules g d) → ⊥)

-- The whole answer is the same: number, slot, handle, buffer; and the images left are alike.
abbrev pub Same : Kinds → Geometry → List ℕ → List ℕ → Call → Type 0
Same u g d d' checks = check g d ≡ check g d'
Same u g d d' (looks_up n) = look_up g d n ≡ look_up g d' n
Same u g d d' (opens n len checking code) = open' g d n len checking code ≡ open' g d' n len checking code
Same u g d d' (creates n f checking) = LeftAlike u g (create g d n f checking) (create g d' n f checking)
Same u g d d' (reads a x b) =
    let n = how_many a x.len b in
    ((read_of g d x n b).0 ≡ (read_of g d' x n b).0) × (Apart g d x.slot → (read_of g d x n b).1 ≡ (read_of g d' x n b).1)
Same u g d d' (reads_sector x k) = read_sector g d x k ≡ read_sector g d' x k
Same u g d d' (writes a m x b) = let n = how_many a x.len b in LeftAlike u g (write_of g d m x n b) (write_of g d' m x n b)
Same u g d d' (allots x k) = LeftAlike u g (allot g d x k) (allot g d' x k)
Same u g d d' (trims x) = LeftAlike u g (trim g d x) (trim g d' x)
Same u g d d' (kills x) = LeftAlike u g (kill g d x) (kill g d' x)
Same u g d d' (lists i) = Listing.list g d i ≡ Listing.list g d' i
Same u g d d' counts = Listing.counts g d ≡ Listing.counts g d'
Same u g d d' measures = free_space g d ≡ free_space g d'

abbrev pub EveryCall : Type 0
EveryCall = (u : Kinds) (g : Geometry) (d d' : List ℕ) → ReadAlike u g d d' → (c : Call) → Same u g d d' c

-- 01's own word
abbrev pub EveryDisk : Type 0
EveryDisk = (u : Kinds) (g : Geometry) (d d' : List ℕ) → ReadAlike u g d d' → consistent g d ≡ consistent g d'

-- bring back (02 §11), which reads dead entries
abbrev pub EveryBack : Type 0
EveryBack = (u : Kinds) (g : Geometry) (d d' : List ℕ) → u.dead ≡ false → ReadAlike u g d d' → (s : ℕ) → LeftAlike u g (bring_back g d s) (bring_back g d' s)

-- compare (02 §1), either image
abbrev pub EveryPair : Type 0
EveryPair = (u : Kinds) (g h : Geometry) (d d' e e' : List ℕ) → ReadAlike u g d d' → ReadAlike u h e e' → (i : ℕ) → compare g d h e i ≡ compare g d' h e' i

-- read program files (02 §12): the numbers 31 to 33 hang on the file's bytes
abbrev pub EveryLoad : Type 0
EveryLoad =
    (u : Kinds) (g : Geometry) (d d' : List ℕ) → ReadAlike u g d d' → (x : Handle) (b : List ℕ) → Apart g d x.slot → load_record g d x b ≡ load_record g d' x b
