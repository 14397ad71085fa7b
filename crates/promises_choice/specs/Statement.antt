-- Which granules a growth takes, and which slot an extension gets (01, Calls; 02 §13), and what the bytes of a new extension are. Demand 2
-- holds of any choice (`promises: Becomes`); this is the choice. Nothing is proved here: `Kept` has the theorems.
use Rattle.std.specs.Prelude.{◌≡◌, ◌≢◌, List, [], ◌∷◌, ◌++◌, ℕ, suc, ◌+◌, ◌-◌, ◌*◌, ◌/◌, ◌%◌, ◌≤◌, ◌<◌, T}
use Rattle.meaning.specs.Layout.{granules, taken, hit, field}
use Rattle.meaning.specs.Entries.{runs, run_start, run_length, marker, link}
use Rattle.meaning.specs.Chain.{chain, owned, tail}
use Rattle.meaning.specs.Free.{permitted}
use Rattle.meaning.specs.Allot.{allot, to_allot}
use Rattle.meaning.specs.Write.{write_of, to_write}
use Rattle.meaning.specs.declared.Geometry.{Geometry}
use Rattle.meaning.specs.declared.Handle.{Handle}
use Rattle.meaning.specs.declared.Mode.{Mode}
use Rattle.promises.specs.Promises.{Stretch}

-- the file at slot p grows
module _ (g : Geometry) (p : ℕ) where
  -- Which granule -------------------------------------------------------------------------------------------------------------------

  -- the last run of the file: the last pair of its last entry
  abbrev pub last_start : List ℕ → ℕ
  last_start d = run_start g d (tail g p d) (runs g d (tail g p d) - 1)

  abbrev pub last_length : List ℕ → ℕ
  last_length d = run_length g d (tail g p d) (runs g d (tail g p d) - 1)

  -- granule n is "the one just after the last run", "it exists, is free and the run has fewer than 32"
  pub record NextGranule (d : List ℕ) (n : ℕ) : Type 0 where
    pub run : 1 ≤ runs g d (tail g p d)
    pub after : n ≡ last_start d + last_length d
    pub inside : n < granules g
    pub free : T (taken g d n) → ⊥
    pub fewer : last_length d < 32

  -- "the lowest free one"
  pub record LowestGranule (d : List ℕ) (n : ℕ) : Type 0 where
    pub inside : n < granules g
    pub free : T (taken g d n) → ⊥
    pub lower : (m : ℕ) → m < n → T (taken g d m)

  -- "the longest remaining stretch", "from its low end, the lower on a tie" (02 §13)
  pub record StretchEnd (d : List ℕ) (n : ℕ) : Type 0 where
    pub long : ℕ
    pub some : 1 ≤ long
    pub free : Stretch g d n long
    pub longest : (a k : ℕ) → Stretch g d a k → k ≤ long
    pub lower : (a : ℕ) → Stretch g d a long → n ≤ a

  -- Which slot ----------------------------------------------------------------------------------------------------------------------

  -- "the first permitted slot", "by rising slot number, of those with HIT byte 0"
  pub record FirstSlot (d : List ℕ) (x : ℕ) : Type 0 where
    pub may : T (permitted g d x)
    pub unused : hit g d x ≡ 0
    pub lower : (y : ℕ) → y < x → T (permitted g d y) → hit g d y ≢ 0

  -- "Extension: byte 00 is 90H, byte 01 the slot before it in the chain, 02 to 15 zero, 16 to 1F as above; a new one's unused pairs, marker and
  -- link are FFH." Its first pair is the run: block, then first unit and no further granule. "An extension's HIT byte is its file's hash."
  -- The entry before it has marker FEH and its slot as link.
  pub record NewExtension (d d' : List ℕ) (x n : ℕ) : Type 0 where
    pub flags : field g d' x 0 ≡ 0x90
    pub before : field g d' x 1 ≡ tail g p d
    pub zeros : (k : ℕ) → 2 ≤ k → k < 0x16 → field g d' x k ≡ 0
    pub block' : field g d' x 0x16 ≡ n / g.units
    pub unit : field g d' x 0x17 ≡ n % g.units * 32
    pub ffs : (k : ℕ) → 0x18 ≤ k → k < 32 → field g d' x k ≡ 0xff
    pub hash : hit g d' x ≡ hit g d p
    pub marked : marker g d' (tail g p d) ≡ 0xfe
    pub linked : link g d' (tail g p d) ≡ x

  -- One granule at a time -------------------------------------------------------------------------------------------------------------

  -- "Granules are taken one at a time: the one just after the last run, ..; else" one that is `New`, "as a new run. A run beyond the fourth
  -- starts an extension in the first permitted slot."
  pub data TakesBy (New : List ℕ → ℕ → Type 0) (d d' : List ℕ) (n : ℕ) : Type 0 where
    lengthens : NextGranule d n → chain g d' p ≡ chain g d p → TakesBy New d d' n
    begins : ((m : ℕ) → NextGranule d m → ⊥) → New d n → runs g d (tail g p d) < 4 → chain g d' p ≡ chain g d p → TakesBy New d d' n
    extends : ((m : ℕ) → NextGranule d m → ⊥) → New d n → runs g d (tail g p d) ≡ 4 → (x : ℕ) → FirstSlot d x → NewExtension d d' x n
        → chain g d' p ≡ chain g d p ++ (x ∷ []) → TakesBy New d d' n

  -- granule n is the file's last now, and was taken so
  pub record OneMore (New : List ℕ → ℕ → Type 0) (d d' : List ℕ) (n : ℕ) : Type 0 where
    pub last : owned g d' p ≡ owned g d p ++ (n ∷ [])
    pub way : TakesBy New d d' n

  -- so many, one after the other
  pub data StepsBy (New : List ℕ → ℕ → Type 0) : ℕ → List ℕ → List ℕ → Type 0 where
    none : {d : List ℕ} → StepsBy New 0 d d
    more : {k : ℕ} {d d₁ d₂ : List ℕ} (n : ℕ) → OneMore New d d₁ n → StepsBy New k d₁ d₂ → StepsBy New (suc k) d d₂

  -- The rule, and the second rule -------------------------------------------------------------------------------------------------------

  -- a run more has no place: the last cannot be lengthened, the last entry has four, and no permitted slot is free
  pub record NoPlace (d : List ℕ) : Type 0 where
    pub next : (m : ℕ) → NextGranule d m → ⊥
    pub full : runs g d (tail g p d) ≡ 4
    pub slots : (x : ℕ) → T (permitted g d x) → hit g d x ≢ 0

  -- 01's choice of k granules does not fit: after some of them there is no place
  pub record Sticks (k : ℕ) (d : List ℕ) : Type 0 where
    pub done : ℕ
    pub fewer : done < k
    pub at : List ℕ
    pub steps : StepsBy LowestGranule done d at
    pub stuck : NoPlace at

  -- "Keep 01's choice where it fits. Where it doesn't, lengthen the last run as far as free granules and the 32 allow, then take the longest
  -- remaining stretch, at most 32 at a time from its low end, the lower on a tie" (02 §13): one granule at a time, from the disk as it stood
  pub data GrowsBy (k : ℕ) (d d' : List ℕ) : Type 0 where
    first : StepsBy LowestGranule k d d' → GrowsBy k d d'
    second : Sticks k d → StepsBy StretchEnd k d d' → GrowsBy k d d'

-- The promise -----------------------------------------------------------------------------------------------------------------------

-- An accepted allot takes so many granules so, and that is all of it.
abbrev pub EveryAllot : Type 0
EveryAllot =
    (g : Geometry) (d : List ℕ) (h : Handle) (k : ℕ) → (allot g d h k).0.refusal.number ≡ 0
    → GrowsBy g h.slot (to_allot g d h k) d (allot g d h k).1

-- An accepted write takes "exactly what the file lacks" so, and stores its bytes then: entries and granules are those of the disk grown.
pub record GrownFirst (g : Geometry) (d d' : List ℕ) (p k : ℕ) : Type 0 where
  pub larger : List ℕ
  pub grows : GrowsBy g p k d larger
  pub granules' : owned g d' p ≡ owned g larger p
  pub entries : chain g d' p ≡ chain g larger p

abbrev pub EveryWrite : Type 0
EveryWrite =
    (g : Geometry) (d : List ℕ) (m : Mode) (h : Handle) (n : ℕ) (b : List ℕ) → (write_of g d m h n b).0.refusal.number ≡ 0
    → GrownFirst g d (write_of g d m h n b).1 h.slot (to_write g d m h n)
