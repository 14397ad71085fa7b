-- What trim and write do to the bytes of the image (01, Calls). Demand 2 says what they do to the file, and that what is no part of it stays
-- (`promises: Becomes`); this says of the file's own entries which bytes trim changes, and to what, and of its own granules which bytes a write
-- leaves. Nothing is proved here: `Kept` has the theorems.
use Rattle.std.specs.Prelude.{◌≡◌, ◌≢◌, List, [], ◌∷◌, ◌++◌, ℕ, suc, ◌+◌, ◌-◌, ◌*◌, ◌/◌, ◌≤◌, ◌<◌, T, length}
use Rattle.meaning.specs.Lists.{In}
use Rattle.meaning.specs.Layout.{byte, field, taken, granules, granule_bytes, directory_granules, gat_at, hit_at, entry_at}
use Rattle.meaning.specs.Entries.{extension, runs, run_start, run_length, pair_byte, size_of, keeps_space}
use Rattle.meaning.specs.Chain.{chain, owned, place, tail}
use Rattle.meaning.specs.Trim.{trim, surplus}
use Rattle.meaning.specs.Write.{write_of}
use Rattle.meaning.specs.declared.Geometry.{Geometry}
use Rattle.meaning.specs.declared.Handle.{Handle}
use Rattle.meaning.specs.declared.Mode.{Mode}

-- Bytes put -------------------------------------------------------------------------------------------------------------------------

-- places of the image, each with the byte that stands there afterwards
abbrev pub Stores : Type 0
Stores = List (ℕ × ℕ)

-- each of them holds what is named
abbrev pub AllAt : List ℕ → Stores → Type 0
AllAt d [] = Unit {0}
AllAt d (s ∷ ss) = (byte d s.0 ≡ s.1) × AllAt d ss

-- place i is none of them
abbrev pub Away : ℕ → Stores → Type 0
Away i [] = Unit {0}
Away i (s ∷ ss) = (i ≢ s.0) × Away i ss

-- These bytes are put, and the GAT bit of granule n is cleared: every other byte of the image, and every other granule's bit, is as it was.
pub record PutAndFreed (g : Geometry) (d d' : List ℕ) (n : ℕ) (ss : Stores) : Type 0 where
  pub long : length d' ≡ length d
  pub named : AllAt d' ss
  pub rest : (i : ℕ) → Away i ss → i ≢ gat_at g n → byte d' i ≡ byte d i
  pub freed : T (taken g d' n) → ⊥
  pub others : (m : ℕ) → m < granules g → m ≢ n → taken g d' m ≡ taken g d m

-- One granule less, the file's last -----------------------------------------------------------------------------------------------------

-- the two bytes of pair k of an entry
abbrev pub pair_at : Geometry → ℕ → ℕ → ℕ
pair_at g s k = entry_at g s + (0x16 + 2 * k)

abbrev pub second_at : Geometry → ℕ → ℕ → ℕ
second_at g s k = entry_at g s + (0x17 + 2 * k)

-- "An emptied extension loses bit 4, its HIT byte becomes 0, its marker and link and those of the entry before it FFH."
abbrev pub unhooked_stores : Geometry → ℕ → ℕ → ℕ → Stores
unhooked_stores g e k b =
    (pair_at g e k, 0xff) ∷ (second_at g e k, 0xff) ∷ (entry_at g e + 0, 0x80) ∷ (hit_at g e, 0)
    ∷ (entry_at g e + 0x1e, 0xff) ∷ (entry_at g e + 0x1f, 0xff) ∷ (entry_at g b + 0x1e, 0xff) ∷ (entry_at g b + 0x1f, 0xff) ∷ []

module _ (g : Geometry) (p : ℕ) where
  -- the last pair of the file, of its last entry, and the granule that it ends with
  abbrev pub last_pair : List ℕ → ℕ
  last_pair d = runs g d (tail g p d) - 1

  abbrev pub last_granule : List ℕ → ℕ
  last_granule d = run_start g d (tail g p d) (last_pair d) + run_length g d (tail g p d) (last_pair d) - 1

  pub data DropsBy (d d' : List ℕ) : Type 0 where
    -- a run of several has one granule fewer: block and first unit stay, the low five bits are one less
    shortens : 1 < run_length g d (tail g p d) (last_pair d)
        → PutAndFreed g d d' (last_granule d) ((second_at g (tail g p d) (last_pair d), pair_byte g d (tail g p d) (last_pair d) - 1) ∷ [])
        → chain g d' p ≡ chain g d p → DropsBy d d'
    -- "Emptied pairs become FFH FFH."
    empties : run_length g d (tail g p d) (last_pair d) ≡ 1 → (T (extension g d (tail g p d)) → last_pair d ≢ 0)
        → PutAndFreed g d d' (last_granule d) ((pair_at g (tail g p d) (last_pair d), 0xff) ∷ (second_at g (tail g p d) (last_pair d), 0xff) ∷ [])
        → chain g d' p ≡ chain g d p → DropsBy d d'
    -- the only pair of an extension: it is given up, and byte 00 was 90H
    unhooks : run_length g d (tail g p d) (last_pair d) ≡ 1 → T (extension g d (tail g p d)) → last_pair d ≡ 0
        → PutAndFreed g d d' (last_granule d) (unhooked_stores g (tail g p d) (last_pair d) (field g d (tail g p d) 1))
        → chain g d p ≡ chain g d' p ++ (tail g p d ∷ []) → DropsBy d d'

  pub record OneLess (d d' : List ℕ) : Type 0 where
    pub last : owned g d p ≡ owned g d' p ++ (last_granule d ∷ [])
    pub way : DropsBy d d'

  -- so many, one after the other
  pub data DropSteps : ℕ → List ℕ → List ℕ → Type 0 where
    none : {d : List ℕ} → DropSteps 0 d d
    more : {k : ℕ} {d d₁ d₂ : List ℕ} → OneLess d d₁ → DropSteps k d₁ d₂ → DropSteps (suc k) d d₂

-- Trim ------------------------------------------------------------------------------------------------------------------------------

pub record TrimsBytes (g : Geometry) (d : List ℕ) (h : Handle) : Type 0 where
  -- "With F set nothing changes."
  pub kept : T (keeps_space g d h.slot) → (trim g d h).1 ≡ d
  -- "if F is clear, keeps ⌈size/1280⌉ granules, dropping the last ones": as many as are over
  pub drops : (T (keeps_space g d h.slot) → ⊥) → DropSteps g h.slot (surplus g d h.slot) d (trim g d h).1
  -- no byte outside the directory changes: what stood in a granule given up, or past the size in one kept, stands there still
  pub outside : (i : ℕ) → (In (i / granule_bytes g) (directory_granules g d) → ⊥) → byte (trim g d h).1 i ≡ byte d i

abbrev pub EveryTrim : Type 0
EveryTrim = (g : Geometry) (d : List ℕ) (h : Handle) → (trim g d h).0.refusal.number ≡ 0 → TrimsBytes g d h

-- A write ---------------------------------------------------------------------------------------------------------------------------

-- Of the file's own granules an accepted write of n bytes changes the n bytes at the position, and the gap between the old size and it. Every
-- byte behind them stays, be it of the file or past its new size ("Sequential: size becomes position + length, even if smaller"), and every
-- byte before them and the old size; and each stands where it stood.
pub record StaysBehind (g : Geometry) (d : List ℕ) (m : Mode) (h : Handle) (n : ℕ) (b : List ℕ) (j : ℕ) : Type 0 where
  pub where' : place g (write_of g d m h n b).1 h.slot j ≡ place g d h.slot j
  pub behind : h.at + n ≤ j → byte (write_of g d m h n b).1 (place g d h.slot j) ≡ byte d (place g d h.slot j)
  pub before : j < h.at → j < size_of g d h.slot → byte (write_of g d m h n b).1 (place g d h.slot j) ≡ byte d (place g d h.slot j)

abbrev pub EveryWrite : Type 0
EveryWrite =
    (g : Geometry) (d : List ℕ) (m : Mode) (h : Handle) (n : ℕ) (b : List ℕ) → (write_of g d m h n b).0.refusal.number ≡ 0
    → (j : ℕ) → j < granule_bytes g * length (owned g d h.slot) → StaysBehind g d m h n b j
