-- The files in lists by a number of their name, so that a name is compared only with those of the same number.
use Rattle.std.specs.Prelude.{◌≡◌, Bool, true, false, not, cond, List, [], ◌∷◌, ℕ, zero, suc, ◌+◌, ◌%◌, ◌<◌, ◌≤◌, eqb, length, get_or, take, drop}
use Rattle.std.specs.Int.Bits.{bit_xor}
use Rattle.meaning.specs.Lists.{all, every, same}
use Rattle.meaning.specs.Layout.{is_slot}
use Rattle.meaning.specs.Entries.{in_use_primary, name_of}
use Rattle.meaning.specs.declared.Geometry.{Geometry}
use Rattle.meaning.specs.Chain.{files}
use Rattle.meaning.specs.Consistent.{names_differ}
use Rattle.laws.specs.Facts.{IsFile}
use Rattle.layout.specs.Room.{Slot}
use Rattle.layout.specs.Number.{number}

-- The number of a name: its first eight bytes and its last eight, by a prime. Not its hash: 01's takes few values on names that differ in a
-- digit or two, as those of a series do, and a disk may well have one hash for all its names.
unfoldable pub key : List ℕ → ℕ
key n = bit_xor (number (take 8 n)) (number (take 8 (drop 3 n))) % 229

module _ (g : Geometry) (d : List ℕ) where
  -- the number of the name at a slot
  abbrev pub key_of : ℕ → ℕ
  key_of s = key (name_of g d s)

  -- the entry at q has another name than the one at s
  unfoldable pub unlike : ℕ → ℕ → Bool
  unlike s q = not (same (name_of g d q) (name_of g d s))

  -- slot s starts a file, with the number b
  unfoldable pub in_bucket : ℕ → ℕ → Bool
  in_bucket b s = all (is_slot g d s ∷ in_use_primary g d s ∷ eqb (key_of s) b ∷ [])

  -- the files below slot n with the number b, falling
  unfoldable pub bucket : ℕ → ℕ → List ℕ
  bucket b zero = []
  bucket b (suc n) = cond (in_bucket b n) (n ∷ bucket b n) (bucket b n)

  -- the list of slots that starts at x and goes on by `next`: a slot's number plus 1, or 0 at the end
  unfoldable pub Linked : List ℕ → ℕ → List ℕ → Type 0
  Linked next x [] = x ≡ 0
  Linked next x (s ∷ ss) = Slot g d s × (x ≡ s + 1) × Linked next (get_or next s 0) ss

  -- every file below slot n stands in the list of its number
  pub record Buckets (n : ℕ) (head next : List ℕ) : Type 0 where
    pub heads : length head ≡ 256
    pub nexts : length next ≡ 256
    pub linked : (b : ℕ) → b < 256 → Linked next (get_or head b 0) (bucket b n)
    pub falls : (k : ℕ) → get_or next k 0 ≤ k
    pub low : (b : ℕ) → get_or head b 0 ≤ n

  -- what joining gives: whether the name of slot s was new in its list, and if so all lists up to s
  pub record Joined (s : ℕ) (head next : List ℕ) (r : Bool) : Type 0 where
    pub answer : r ≡ every (unlike s) (bucket (key_of s) s)
    pub joined : r ≡ true → Buckets (s + 1) head next

  -- all files below slot s have names of their own
  pub record Differing (s : ℕ) (head next : List ℕ) : Type 0 where
    pub low : s ≤ 256
    pub lists : Buckets s head next
    pub apart : (p q : ℕ) → p < s → q < s → IsFile g d p → IsFile g d q → name_of g d p ≡ name_of g d q → p ≡ q

  -- what a visit to slots up to n gives: two files with one name, or all names below n different
  pub record BucketsVisited (n : ℕ) (head next : List ℕ) (r : Bool) : Type 0 where
    pub bad : r ≡ false → false ≡ names_differ g d (files g d)
    pub good : r ≡ true → Differing n head next
