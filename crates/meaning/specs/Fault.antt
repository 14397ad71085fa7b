-- Say what is inconsistent, and where (02 §2). A disk's fault is a number, 21 to 30, and a slot. Each kind of fault is a test of one slot; the
-- lowest slot at fault is told, and at that slot the first kind in 02's order. Where two slots are at fault together, the higher one is.
-- The sentences are those of 01's paragraph on consistency, and its tests (`Consistent`) are used wherever they speak of one slot.
use Rattle.std.specs.Prelude.{ℕ, zero, suc, Bool, not, cond, ◌&&◌, List, [], ◌∷◌, ltb, eqb, length}
use Rattle.meaning.specs.Lists.{every, some, each, has, keep, distinct, same, all, any, first, first_or}
use Rattle.meaning.specs.Layout
use Rattle.meaning.specs.Names
use Rattle.meaning.specs.Entries
use Rattle.meaning.specs.Chain
use Rattle.meaning.specs.Consistent
use Rattle.meaning.specs.Refusal.{unplaced, placed}
use Rattle.meaning.specs.declared.Geometry.{Geometry}
use Rattle.meaning.specs.declared.Refusal.{Refusal}

module _ (g : Geometry) (d : List ℕ) where
  -- Walks -----------------------------------------------------------------------------------------------------------------
  -- From each file's primary entry a walk goes along the links. What is wrong with a chain shows in what the walks meet, so a walk goes on as
  -- long as there is a sound link to follow, whatever else is wrong with the entries, and stops where there is none.
  --
  -- Two files, one extension: A starts in slot 80H, B in 83H, and both link to 82H, which links to 81H; four runs in all but 81H.
  --
  --     80H ──► 82H ──► 81H     the walk from A meets 80H, 82H, 81H
  --     83H ──► 82H ──► 81H     the walk from B meets 83H, 82H, 81H
  --
  -- 82H is met from two entries, 80H and 83H: 25 at 82H. 81H is met from one, 82H: there is nothing wrong with it, though two walks come by.
  -- Its file is A, the first whose walk meets it, so that its HIT byte must be A's hash.
  --
  -- A link that is not followed: A in slot 80H has three runs, marker FEH and link 40H; the extension in 40H is well formed and points back.
  --
  --     80H ─╳  40H             the walk from A meets 80H
  --
  -- 80H may not link with three runs, so its link is bad and the walk stops: 40H is met in no file's chain. Both are at fault with 25, and the
  -- lowest slot is told: 40H.

  -- an extension in use, in a slot of the directory
  unfoldable pub used_extension : ℕ → Bool
  used_extension x = all (Layout.is_slot g d x ∷ Entries.in_use g d x ∷ Entries.extension g d x ∷ [])

  -- The marker is FEH, the link leads to an in-use extension, and the entry, which is not the last of its chain, has four runs.
  unfoldable pub hands_on : ℕ → Bool
  hands_on s = all (Consistent.pairs_hold g d s ∷ eqb (Entries.marker g d s) 0xfe ∷ used_extension (Entries.link g d s) ∷ eqb (Entries.runs g d s) 4 ∷ [])

  -- The entry is the last of its chain: the marker is FFH.
  unfoldable pub ends : ℕ → Bool
  ends s = all (Consistent.pairs_hold g d s ∷ eqb (Entries.marker g d s) 0xff ∷ [])

  -- An entry has a bad marker, pairs or link (not to an in-use extension).
  unfoldable pub bad_entry : ℕ → Bool
  bad_entry s = not (any (hands_on s ∷ ends s ∷ []))

  -- A walk passes badly formed extensions and stops at an entry with a bad marker, pairs or link, and at a second meeting. `before` is what
  -- this walk has met, not the others: two walks through one entry both go on from it.
  unfoldable pub walk_from : ℕ → List ℕ → ℕ → List ℕ
  walk_from zero before s = []
  walk_from (suc left) before s = cond (has before s) [] (s ∷ cond (hands_on s) (walk_from left (s ∷ before) (Entries.link g d s)) [])

  -- the entries that the walk from the file at slot p meets
  unfoldable pub walk : ℕ → List ℕ
  walk p = walk_from (length (Layout.slots g d)) [] p

  -- the entries that the walks meet
  unfoldable pub walked : List ℕ
  walked = each walk (Chain.files g d)

  -- The entries from which the walks come to slot x; how often x is met is how many they are. Entries are counted and not visits: where two
  -- walks go on from b to x, it is b that is met twice, and x is met once from it.
  unfoldable pub met_from : ℕ → List ℕ
  met_from x = let w = walked in keep (λ b. all (eqb (Entries.link g d b) x ∷ hands_on b ∷ has w b ∷ [])) (Layout.slots g d)

  -- the file that an entry in use belongs to: the first, by rising slot number, whose walk meets it; the entry itself where no walk does (it is
  -- an extension then, with fault 25 before any kind that asks for its file)
  unfoldable pub file_of : ℕ → ℕ
  file_of s = first_or s (keep (λ p. has (walk p) s) (Chain.files g d))

  -- An extension that is met in some file's chain, not twice, and well formed
  unfoldable pub good_extension : ℕ → Bool
  good_extension x = let m = met_from x in all (eqb (length m) 1 ∷ every (λ b. Consistent.follows_by g d 0x90 b x) m ∷ [])

  -- Kinds -----------------------------------------------------------------------------------------------------------------

  -- 22, HIT against entry: a slot's HIT byte is nonzero exactly if its entry is in use. HIT bytes equal the hashes; an extension's is its file's
  -- hash. Of an extension met in no file's chain, met twice, or badly formed the hash isn't tested.
  unfoldable pub hit_fault : ℕ → Bool
  hit_fault s =
      any (not (Consistent.hit_holds g d s)
      ∷ all (Entries.in_use g d s ∷ any (not (Entries.extension g d s) ∷ good_extension s ∷ [])
      ∷ not (eqb (Layout.hit g d s) (Names.hash (Entries.name_of g d (file_of s)))) ∷ []) ∷ [])

  -- 23, name: well formed, and bit 5 is zero.
  unfoldable pub name_fault : ℕ → Bool
  name_fault p = all (Entries.in_use_primary g d p ∷ not (Consistent.name_holds g d p) ∷ [])

  -- 24, duplicate name: names differ. Of two slots the higher is at fault.
  unfoldable pub duplicate_fault : ℕ → Bool
  duplicate_fault p = all (Entries.in_use_primary g d p ∷ some (λ q. ltb q p && same (Entries.name_of g d q) (Entries.name_of g d p)) (Chain.files g d) ∷ [])

  -- 25, chain: belongs to the entry with the bad marker, pairs or link, or to the extension met in no file's chain, met twice, or badly formed.
  unfoldable pub chain_fault : ℕ → Bool
  chain_fault s = all (Entries.in_use g d s ∷ any (bad_entry s ∷ all (Entries.extension g d s ∷ not (good_extension s) ∷ []) ∷ []) ∷ [])

  -- 26, run off the disk: runs lie on the disk, their first unit is below units per block. A run's fault belongs to the entry that holds it.
  unfoldable pub run_fault : ℕ → Bool
  run_fault s = all (Entries.in_use g d s ∷ not (Consistent.runs_hold g d s) ∷ [])

  -- 27, GAT bit missing: their GAT bits are set.
  unfoldable pub gat_fault : ℕ → Bool
  gat_fault s = all (Entries.in_use g d s ∷ not (Consistent.gat_holds g d s) ∷ [])

  -- 28, granule shared: no granule is in two runs, of this entry or of this and one in a lower slot.
  unfoldable pub shared_fault : ℕ → Bool
  shared_fault s =
      all (Entries.in_use g d s
      ∷ any (not (distinct (Entries.entry_granules g d s))
      ∷ some (λ t. all (ltb t s ∷ Entries.in_use g d t ∷ some (has (Entries.entry_granules g d t)) (Entries.entry_granules g d s) ∷ [])) (Layout.slots g d)
      ∷ []) ∷ [])

  -- the chain of the file at slot p is whole: no entry that its walk meets has a chain fault
  unfoldable pub chain_whole : ℕ → Bool
  chain_whole p = every (λ s. not (chain_fault s)) (walk p)

  -- 29, size: n = 0 only with e = 0; the size fits the granules owned. Belongs to the primary entry, granules counted as the pairs name them, and
  -- only where its chain is whole.
  unfoldable pub size_fault : ℕ → Bool
  size_fault p = all (Entries.in_use_primary g d p ∷ chain_whole p ∷ not (Consistent.size_holds g d p) ∷ [])

  -- 30, directory granule, with a slot: in a run of a file without the system flag
  unfoldable pub directory_fault : ℕ → Bool
  directory_fault s =
      all (Entries.in_use g d s ∷ not (Entries.system g d (file_of s))
      ∷ some (has (Layout.directory_granules g d)) (Entries.entry_granules g d s) ∷ [])

  -- The fault --------------------------------------------------------------------------------------------------------------

  -- the kinds at a slot, in this order
  abbrev pub kinds_at : ℕ → List (ℕ × Bool)
  kinds_at s =
      (22, hit_fault s) ∷ (23, name_fault s) ∷ (24, duplicate_fault s) ∷ (25, chain_fault s) ∷ (26, run_fault s)
      ∷ (27, gat_fault s) ∷ (28, shared_fault s) ∷ (29, size_fault s) ∷ (30, directory_fault s) ∷ []

  -- the first of them; 0 where there is none
  unfoldable pub fault_at : ℕ → ℕ
  fault_at s = first (kinds_at s)

  -- the lowest slot at fault; where there is none, `after`
  unfoldable pub lowest : Refusal → List ℕ → Refusal
  lowest after [] = after
  lowest after (s ∷ ss) = let rest = lowest after ss in let n = fault_at s in cond (eqb n 0) rest (placed n s)

  -- Directory length comes before all slots, a clear directory granule after them, both without a slot. 0: there is no fault.
  unfoldable pub fault : Refusal
  fault =
      let clear = cond (Consistent.directory_taken g d) (unplaced 0) (unplaced 30) in
      cond (Consistent.length_holds g d) (lowest clear (Layout.slots g d)) (unplaced 21)
