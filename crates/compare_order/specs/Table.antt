-- The table of a disk's files: their slots, by rising names.
use Rattle.std.specs.Prelude.{◌≡◌, true, false, List, ℕ, ◌-◌, ◌<◌, ◌≤◌, length, get_or}
use Rattle.meaning.specs.Entries.{name_of}
use Rattle.meaning.specs.declared.Geometry.{Geometry}
use Rattle.differences.specs.Compare.{before}
use Rattle.compare_order.specs.Whole.{StartsFile}

-- x was put at place i of a table of n, and what stood from there on moved up by one
pub record PutIn (o : List ℕ) (n i x : ℕ) (o' : List ℕ) : Type 0 where
  pub long : length o' ≡ length o
  pub below : (k : ℕ) → k < i → get_or o' k 0 ≡ get_or o k 0
  pub here : get_or o' i 0 ≡ x
  pub above : (k : ℕ) → i < k → k ≤ n → get_or o' k 0 ≡ get_or o (k - 1) 0

module _ (g : Geometry) (d : List ℕ) where
  -- the name of the file at place k
  abbrev pub name_in : List ℕ → ℕ → List ℕ
  name_in o k = name_of g d (get_or o k 0)

  -- the first n places of the table have the files below slot s, by rising names
  pub record InOrder (o : List ℕ) (n s : ℕ) : Type 0 where
    pub few : n ≤ s
    pub file : (k : ℕ) → k < n → StartsFile g d (get_or o k 0)
    pub low : (k : ℕ) → k < n → get_or o k 0 < s
    pub rises : (i k : ℕ) → i < k → k < n → before (name_in o i) (name_in o k) ≡ true
    pub each' : (p : ℕ) → p < s → StartsFile g d p → (k : ℕ) × (k < n) × (get_or o k 0 ≡ p)

  -- slot s goes to place r among them
  pub record GoesTo (o : List ℕ) (n s r : ℕ) : Type 0 where
    pub low : r ≤ n
    pub earlier : (k : ℕ) → k < r → before (name_in o k) (name_of g d s) ≡ true
    pub later' : (k : ℕ) → r ≤ k → k < n → before (name_of g d s) (name_in o k) ≡ true

  -- the names after `last` are those from place i on
  pub record Reached (o : List ℕ) (n i : ℕ) (last : List ℕ) : Type 0 where
    pub low : i ≤ n
    pub past : (k : ℕ) → k < i → before last (name_in o k) ≡ false
    pub ahead : (k : ℕ) → i ≤ k → k < n → before last (name_in o k) ≡ true
