-- Compare two images (02 §1): the differences of two disks, one told a call.
use Rattle.std.specs.Prelude.{ℕ, suc, ◌/◌, ◌%◌, Bool, true, false, not, cond, List, [], ◌∷◌, ◌++◌, map, eqb, ltb, length, get_or, replicate, drop}
use Rattle.meaning.specs.Lists.{keep, same, any}
use Rattle.meaning.specs.Entries.{name_of}
use Rattle.meaning.specs.Chain.{files}
use Rattle.meaning.specs.Refusal.{unplaced, naming}
use Rattle.meaning.specs.Refusals.{check, accepted}
use Rattle.meaning.specs.Plain.{File, Found, found, nothing, is_system, plain}
use Rattle.meaning.specs.declared.Geometry.{Geometry}
use Rattle.meaning.specs.declared.Refusal.{Refusal}
use Rattle.differences.specs.declared.Difference.{Difference}

-- Order: by name and type bytes, rising ------------------------------------------------------------------------------------

-- the first byte that differs decides
unfoldable pub before : List ℕ → List ℕ → Bool
before m [] = false
before [] (y ∷ ys) = true
before (x ∷ xs) (y ∷ ys) = cond (eqb x y) (before xs ys) (ltb x y)

-- a name at its place among rising ones; a name that stands there already is not put a second time
unfoldable pub put : List ℕ → List (List ℕ) → List (List ℕ)
put n [] = n ∷ []
put n (m ∷ ms) = cond (same n m) (m ∷ ms) (cond (before n m) (n ∷ m ∷ ms) (m ∷ put n ms))

unfoldable pub rising : List (List ℕ) → List (List ℕ)
rising [] = []
rising (n ∷ ns) = put n (rising ns)

-- Two files of one name ----------------------------------------------------------------------------------------------------

-- the first byte position where contents part, or the smaller size if one is a beginning of the other
unfoldable pub parting : List ℕ → List ℕ → ℕ
parting [] ys = 0
parting (x ∷ xs) [] = 0
parting (x ∷ xs) (y ∷ ys) = cond (eqb x y) (suc (parting xs ys)) 0

-- A file's attributes are its entry bytes 00, 01, 02, 04 and 10 to 13: those are places 0, 1, 2, 3 and 4 to 7 of the list.
abbrev attribute : File → ℕ → ℕ
attribute f k = get_or f.attributes k 0

-- date (byte 02, low five bits of 01)
abbrev pub date_of : File → List ℕ
date_of f = attribute f 2 ∷ attribute f 1 % 32 ∷ []

-- other attributes: byte 00, the high three bits of 01, bytes 04 and 10 to 13
abbrev pub others_of : File → List ℕ
others_of f = attribute f 0 ∷ attribute f 1 / 32 ∷ drop 3 f.attributes

-- Differences --------------------------------------------------------------------------------------------------------------

-- only the name counts: files only in the first (kind 1), only in the second (2), or no difference (0)
abbrev pub name_only : List ℕ → ℕ → Difference
name_only n kind = record { refusal = unplaced 0; kind = kind; name = n; at = 0; contents = false; size = false; date = false; other = false }

-- in both: unlike (kind 3), with which of size, date and other attributes differ, or no difference (0). Where the files stand on their
-- disks, and how many granules they own, is not asked: placement on disk is no difference.
unfoldable pub unlike : List ℕ → File → File → Difference
unlike n f f' =
    let contents = not (same f.bytes f'.bytes) in
    let size = not (eqb (length f.bytes) (length f'.bytes)) in
    let date = not (same (date_of f) (date_of f')) in
    let other = not (same (others_of f) (others_of f')) in
    record {
      refusal = unplaced 0;
      kind = cond (any (contents ∷ size ∷ date ∷ other ∷ [])) 3 0;
      name = n;
      at = parting f.bytes f'.bytes;
      contents = contents;
      size = size;
      date = date;
      other = other;
    }

-- what stands under a name on the first disk, held against what stands under it on the second; kind 0 where that is no difference. A file that is
-- a system file on either is compared by name only.
unfoldable pub difference : List ℕ → Found → Found → Difference
difference n nothing nothing = name_only n 0
difference n (found f) nothing = name_only n 1
difference n nothing (found f') = name_only n 2
difference n (found f) (found f') = cond (any (is_system f ∷ is_system f' ∷ [])) (name_only n 0) (unlike n f f')

unfoldable pub is_one : Difference → Bool
is_one x = not (eqb x.kind 0)

-- nothing is told: a refusal, naming the image, or "no more", which is accepted and names none
abbrev pub tells_none : Refusal → Difference
tells_none c = record { refusal = c; kind = 0; name = replicate 11 0; at = 0; contents = false; size = false; date = false; other = false }

unfoldable pub tell_first : List Difference → Difference
tell_first [] = tells_none (unplaced 0)
tell_first (x ∷ xs) = x

-- the names of a disk's files
unfoldable pub names : Geometry → List ℕ → List (List ℕ)
names g d = map (name_of g d) (files g d)

-- The two geometries may differ.
module _ (g : Geometry) (d : List ℕ) (g' : Geometry) (d' : List ℕ) where
  -- every name of either disk, once, rising
  unfoldable pub merged : List (List ℕ)
  merged = rising (names g d ++ names g' d')

  abbrev pub at' : List ℕ → Difference
  at' n = difference n (plain g d n) (plain g' d' n)

  -- the exact differences, ordered by name and type bytes, rising
  unfoldable pub differences : List Difference
  differences = keep is_one (map at' merged)

  -- One difference is told a call, by its running number from 0, and past the last the answer is "no more". Refusals: 1 and 2 (told as 21 to
  -- 30, §2), each naming the image, the first's before the second's.
  unfoldable pub compare : ℕ → Difference
  compare i =
      let c = check g d in let c' = check g' d' in
      cond (accepted c.number) (cond (accepted c'.number) (tell_first (drop i differences)) (tells_none (naming 2 c')))
      (tells_none (naming 1 c))
