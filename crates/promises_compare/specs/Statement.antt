-- What is promised of compare (02 §1), each promise as a type with a name. Nothing is proved here: `Kept` has a theorem for each of them. They speak
-- of the definitions alone; the function is proved to answer what those say.
use Rattle.std.specs.Prelude.{◌≡◌, ◌≢◌, ◌↔◌, ◌⊎◌, true, false, cond, List, ℕ, ◌<◌, ◌≤◌, eqb, length, get_or}
use Rattle.meaning.specs.Refusal.{unplaced, naming}
use Rattle.meaning.specs.Refusals.{check}
use Rattle.meaning.specs.Plain.{is_system, File, Found, found, nothing, plain}
use Rattle.meaning.specs.declared.Geometry.{Geometry}
use Rattle.together.specs.Statement.{SameFiles}
use Rattle.differences.specs.Compare.{before, date_of, others_of, tells_none, differences, compare}
use Rattle.differences.specs.declared.Difference.{Difference}

-- 1. What is a difference, and what is none -------------------------------------------------------------------------------------

-- the same attributes and the same bytes; granules are not asked for: placement on disk is no difference
pub record Equal (f f' : File) : Type 0 where
  pub attributes : f.attributes ≡ f'.attributes
  pub bytes : f.bytes ≡ f'.bytes

-- the two plain lists agree under a name: no file on either disk, or one on both, equal or compared by name only
pub data Agree : Found → Found → Type 0 where
  neither : Agree nothing nothing
  by_name : {f f' : File} → (is_system f ≡ true) ⊎ (is_system f' ≡ true) → Agree (found f) (found f')
  equal : {f f' : File} → Equal f f' → Agree (found f) (found f')

-- the first byte position where contents part, or the smaller size if one is a beginning of the other
pub record Parts (xs ys : List ℕ) (k : ℕ) : Type 0 where
  pub within : (k ≤ length xs) × (k ≤ length ys)
  pub alike : (j : ℕ) → j < k → get_or xs j 0 ≡ get_or ys j 0
  pub part : k < length xs → k < length ys → get_or xs k 0 ≢ get_or ys k 0

-- in both but unlike: what is told of the two files
pub record Unlike (x : Difference) (f f' : File) : Type 0 where
  pub user : (is_system f ≡ false) × (is_system f' ≡ false)
  pub position : Parts f.bytes f'.bytes x.at
  pub contents : (x.contents ≡ true) ↔ (f.bytes ≢ f'.bytes)
  pub size : (x.size ≡ true) ↔ (length f.bytes ≢ length f'.bytes)
  pub date : (x.date ≡ true) ↔ (date_of f ≢ date_of f')
  pub other : (x.other ≡ true) ↔ (others_of f ≢ others_of f')

-- files only in the first, only in the second, and in both but unlike
pub data Says (x : Difference) : Found → Found → Type 0 where
  only_first : {f : File} → x.kind ≡ 1 → Says x (found f) nothing
  only_second : {f' : File} → x.kind ≡ 2 → Says x nothing (found f')
  in_both : {f f' : File} → x.kind ≡ 3 → Unlike x f f' → Says x (found f) (found f')

-- 2. Two disks ---------------------------------------------------------------------------------------------------------------

-- 1 and 2 (21 to 30) are given to neither image
pub record Both (g : Geometry) (d : List ℕ) (g' : Geometry) (d' : List ℕ) : Type 0 where
  pub first : (check g d).number ≡ 0
  pub second : (check g' d').number ≡ 0

module _ (g : Geometry) (d : List ℕ) (g' : Geometry) (d' : List ℕ) where
  -- so many are told
  abbrev pub many : ℕ
  many = length (differences g d g' d')

  -- what must hold of answers: `told` is what is told by running number, `most` how many differences that is
  pub record Compares (most : ℕ) (told : ℕ → Difference) : Type 0 where
    -- "no more" at number 0 exactly if the two plain lists agree, system files by name only
    pub none : (told 0 ≡ tells_none (unplaced 0)) ↔ ((n : List ℕ) → Agree (plain g d n) (plain g' d' n))
    -- past the last the answer is "no more"
    pub ends : (i : ℕ) → most ≤ i → told i ≡ tells_none (unplaced 0)
    -- every difference told is one, and says what stands under its name
    pub tells : (i : ℕ) → i < most → let x = told i in Says x (plain g d x.name) (plain g' d' x.name)
    pub is_one' : (i : ℕ) → i < most → let x = told i in (x.refusal.number ≡ 0) × (Agree (plain g d x.name) (plain g' d' x.name) → ⊥)
    -- by name and type bytes, rising
    pub rises : (i j : ℕ) → i < j → j < most → before (told i).name (told j).name ≡ true
    -- every one is told, and once
    pub every' : (n : List ℕ) → (Agree (plain g d n) (plain g' d' n) → ⊥) → (i : ℕ) × (i < most) × ((told i).name ≡ n)
    pub once : (i j : ℕ) → i < most → j < most → (told i).name ≡ (told j).name → i ≡ j

  -- Refusals: 1 and 2 (21 to 30), each naming the image, the first's before the second's
  pub record Refuses (told : ℕ → Difference) : Type 0 where
    pub first : (i : ℕ) → (check g d).number ≢ 0 → told i ≡ tells_none (naming 1 (check g d))
    pub second : (i : ℕ) → (check g d).number ≡ 0 → (check g' d').number ≢ 0 → told i ≡ tells_none (naming 2 (check g' d'))
    pub neither : (i : ℕ) → (check g d).number ≡ 0 → (check g' d').number ≡ 0 → (told i).refusal.number ≡ 0

-- 3. Sides, and disks alike ----------------------------------------------------------------------------------------------------

-- first for second and second for first: kinds and images 1 and 2
unfoldable pub turned : ℕ → ℕ
turned k = cond (eqb k 1) 2 (cond (eqb k 2) 1 k)

unfoldable pub swapped : Difference → Difference
swapped x =
    let r = naming (turned x.refusal.image) x.refusal in let k = turned x.kind in
    record { refusal = r; kind = k; name = x.name; at = x.at; contents = x.contents; size = x.size; date = x.date; other = x.other }

-- every pair of images of which neither is refused
abbrev pub EveryPair : Type 0
EveryPair = (g : Geometry) (d : List ℕ) (g' : Geometry) (d' : List ℕ) → Both g d g' d' → Compares g d g' d' (many g d g' d') (compare g d g' d')

abbrev pub EveryRefusal : Type 0
EveryRefusal = (g : Geometry) (d : List ℕ) (g' : Geometry) (d' : List ℕ) → Refuses g d g' d' (compare g d g' d')

-- Swapping the images swaps the sides. Where both images are refused, each order names the one that comes first.
abbrev pub Swaps : Type 0
Swaps =
    (g : Geometry) (d : List ℕ) (g' : Geometry) (d' : List ℕ) → ((check g d).number ≡ 0) ⊎ ((check g' d').number ≡ 0) → (i : ℕ)
    → compare g' d' g d i ≡ swapped (compare g d g' d' i)

-- A disk compared with itself has no difference.
abbrev pub Itself : Type 0
Itself = (g : Geometry) (d : List ℕ) → (check g d).number ≡ 0 → (i : ℕ) → compare g d g d i ≡ tells_none (unplaced 0)

-- Two disks that hold the same named files, as demand 3 says it of two interleavings, have none.
abbrev pub Interleaved : Type 0
Interleaved =
    (g : Geometry) (d d' : List ℕ) → (check g d).number ≡ 0 → (check g d').number ≡ 0 → SameFiles g d d' → (i : ℕ)
    → compare g d g d' i ≡ tells_none (unplaced 0)
