-- Granules are taken one at a time (01, Calls). `take_at` is the deed, for any free granule that a new run may start at; which one that is
-- is a choice that stands beside it, 01's being the lowest free one. A growth is the deed done so many times, each by the choice.
use Rattle.std.specs.Prelude.{ℕ, zero, suc, ◌+◌, ◌-◌, ◌*◌, ◌/◌, ◌%◌, Bool, true, false, not, cond, List, [], ◌∷◌, ◌++◌, leb, ltb, length, replicate}
use Rattle.std.proofs.lemmas.List.Edits.{sets}
use Rattle.meaning.specs.Lists.{all}
use Rattle.meaning.specs.Layout
use Rattle.meaning.specs.Entries
use Rattle.meaning.specs.Chain
pub use Rattle.meaning.specs.Chain.{tail}
use Rattle.meaning.specs.Free
use Rattle.meaning.specs.declared.Geometry.{Geometry}

-- what a growth leaves: the disk, or the word that an extension found no slot
pub data Grown : Type 0 where
  grown : List ℕ → Grown
  no_slot : Grown

-- one growth, then another
unfoldable pub and_then : Grown → (List ℕ → Grown) → Grown
and_then (grown d) f = f d
and_then no_slot f = no_slot

-- the one growth, or the other where it found no slot
unfoldable pub or_else : Grown → Grown → Grown
or_else (grown d) e = grown d
or_else no_slot e = e

-- the growth found no slot
unfoldable pub fails : Grown → Bool
fails (grown d) = false
fails no_slot = true

-- the disk that a growth leaves, z where it found no slot
unfoldable pub disk_or : List ℕ → Grown → List ℕ
disk_or z (grown d) = d
disk_or z no_slot = z

-- granule n as a new run of its own, pair k of entry e
abbrev pub with_pair : Geometry → List ℕ → ℕ → ℕ → ℕ → List ℕ
with_pair g d e k n = Layout.take_granule g (Entries.set_pair g d e k (n / g.units) (n % g.units * 32)) n

-- Extension: byte 00 is 90H, byte 01 the slot before it in the chain, 02 to 15 zero; a new one's unused pairs, marker and link are FFH.
abbrev pub new_extension : ℕ → List ℕ
new_extension e = 0x90 ∷ e ∷ (replicate 20 0 ++ replicate 10 0xff)

-- the file at slot p grows
module _ (g : Geometry) (p : ℕ) where
  -- the granule just after the last run, where there is a run
  abbrev pub after : List ℕ → ℕ
  after d = let w = Chain.last_pair g p d in Entries.run_start g d w.0 w.1 + Entries.run_length g d w.0 w.1

  -- the one just after the last run, if it exists, is free and the run has fewer than 32 (and there is a run at all)
  unfoldable pub lengthens : List ℕ → Bool
  lengthens d =
      let w = Chain.last_pair g p d in
      all (leb 1 (Entries.runs g d w.0) ∷ ltb (after d) (Layout.granules g) ∷ not (Layout.taken g d (after d))
      ∷ ltb (Entries.run_length g d w.0 w.1) 32 ∷ [])

  -- the last run longer by one: one further granule in the low five bits of its pair
  abbrev pub lengthened : List ℕ → List ℕ
  lengthened d =
      let w = Chain.last_pair g p d in
      Layout.take_granule g (Entries.set_pair_byte g d w.0 w.1 (Entries.pair_byte g d w.0 w.1 + 1)) (after d)

  -- slot x as an extension after entry e, hooked by marker FEH and link. An extension's HIT byte is its file's hash.
  abbrev pub with_extension : List ℕ → ℕ → ℕ → List ℕ
  with_extension d e x = sets (sets (Entries.set_link g d e 0xfe x) (Layout.entry_at g x) (new_extension e)) (Layout.hit_at g x) (Layout.hit g d p ∷ [])

  -- A run beyond the fourth starts an extension in the first permitted slot.
  unfoldable pub extended : List ℕ → List ℕ → ℕ → ℕ → Grown
  extended [] d e n = no_slot
  extended (x ∷ xs) d e n = grown (with_pair g (with_extension d e x) x 0 n)

  -- one granule more: the one just after the last run; else granule n, as a new run
  abbrev pub take_at : ℕ → List ℕ → Grown
  take_at n d =
      let e = tail g p d in
      cond (lengthens d) (grown (lengthened d))
      (cond (ltb (Entries.runs g d e) 4) (grown (with_pair g d e (Entries.runs g d e) n))
      (extended (Free.free_slots g d) d e n))

  -- k granules more, each new run at the granule chosen
  unfoldable pub grow_by : (List ℕ → ℕ) → ℕ → List ℕ → Grown
  grow_by choice zero d = grown d
  grow_by choice (suc k) d = and_then (take_at (choice d) d) (grow_by choice k)

  -- 01's: the one just after the last run; else the lowest free one, as a new run. (Some granule is free: 9 is tested before.)
  unfoldable pub take_one : List ℕ → Grown
  take_one d = take_at (Free.lowest_free g d) d

  -- k granules more by 01's choice
  abbrev pub grow : ℕ → List ℕ → Grown
  grow = grow_by (Free.lowest_free g)

  -- 02 §13: "Keep 01's choice where it fits. Where it doesn't, lengthen the last run as far as free granules and the 32 allow, then take the
  -- longest remaining stretch, at most 32 at a time from its low end, the lower on a tie": one granule at a time, from the disk as it stood
  unfoldable pub growth : ℕ → List ℕ → Grown
  growth k d = or_else (grow k d) (grow_by (Free.longest_free g) k d)

module _ (g : Geometry) (d : List ℕ) where
  -- how many granules the file at slot s lacks of those wanted: none if it owns as many
  abbrev pub lacking : ℕ → ℕ → ℕ
  lacking s wanted = wanted - length (Chain.owned g d s)

  -- Growth is whole or refused: the disk with k granules more for the file at slot s.
  abbrev pub with_granules : ℕ → ℕ → List ℕ
  with_granules s k = disk_or d (growth g s k d)
