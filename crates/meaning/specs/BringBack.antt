-- Bring back a killed series (02, §11). Each of its sentences, and what stands for it here:
--   "Given a slot, rebuild the file if bit 5 is zero, its name is well formed": `Consistent.name_holds`, in `whole`.
--   "… and not in use": `name_in_use`, refusal 19.
--   "its chain (extensions' byte 00 now 80H, back links right) is whole by 01's rules": `killed_entry_holds` of every entry of 01's own
--     `Chain.chain`; markers, links, back links and runs before the last by `Consistent.link_holds_by`, the clause of a consistent disk with 80H
--     in 90H's place; `Consistent.pairs_hold`; no entry met twice.
--   "its runs lie on the disk": `Consistent.runs_hold`. "with every granule free": refusal 20. "and none twice": in `whole`.
--   "and the size fits": `Consistent.size_holds`.
--   "Only bit 4 and the HIT bytes of its slots and its granules' GAT bits change": `back_entry`, `brought_back`.
--   "the answer is how many slots and granules": `bring_back`.
--   "Refusals, after 2 and 12 (a slot the directory lacks): 17 slot in use, 6 bit 6 set, 18 nothing whole to bring back (an extension's slot
--     too), 19 name in use, 20 a granule is taken": `bring_back_refusals`. 2 is told as 21 to 30 (§2).
use Rattle.std.specs.Prelude.{ℕ, Bool, not, cond, List, [], ◌∷◌, length, set}
use Rattle.meaning.specs.Lists.{all, every, some, distinct, through}
use Rattle.meaning.specs.Bits.{with_bit}
use Rattle.meaning.specs.Layout
use Rattle.meaning.specs.Names
use Rattle.meaning.specs.Entries
use Rattle.meaning.specs.Chain
use Rattle.meaning.specs.Consistent
use Rattle.meaning.specs.Refusals
use Rattle.meaning.specs.LookUp
use Rattle.meaning.specs.declared.Geometry.{Geometry}
use Rattle.meaning.specs.declared.BroughtBack.{BroughtBack}

-- an entry brought back: bit 4 set, and its HIT byte the hash of its file's name
unfoldable pub back_entry : Geometry → ℕ → List ℕ → ℕ → List ℕ
back_entry g hash d x = set (Layout.set_field g d x 0 (with_bit 4 (Layout.field g d x 0))) (Layout.hit_at g x) hash

-- the disk with the killed file at slot s: its granules taken, its entry and its extensions brought back
abbrev pub brought_back : Geometry → List ℕ → ℕ → List ℕ
brought_back g d s = through (back_entry g (Names.hash (Entries.name_of g d s))) (through (Layout.take_granule g) d (Chain.owned g d s)) (Chain.chain g d s)

module _ (g : Geometry) (d : List ℕ) where
  -- an entry of a killed file: what 01 wants of an entry in use, but that an extension's byte 00 is now 80H and no GAT bit is asked for
  abbrev pub killed_entry_holds : ℕ → Bool
  killed_entry_holds x = all (Consistent.pairs_hold g d x ∷ Consistent.link_holds_by g d 0x80 x ∷ Consistent.runs_hold g d x ∷ [])

  -- there is something whole to bring back: no extension's slot; bit 5 and name; chain and runs; no entry and no granule twice; size
  unfoldable pub whole : ℕ → Bool
  whole s =
      all (not (Entries.extension g d s) ∷ Consistent.name_holds g d s ∷ every killed_entry_holds (Chain.chain g d s)
      ∷ distinct (Chain.chain g d s) ∷ distinct (Chain.owned g d s) ∷ Consistent.size_holds g d s ∷ [])

  -- a file in use has its name
  abbrev pub name_in_use : ℕ → Bool
  name_in_use s = not (LookUp.missing g d (Entries.name_of g d s))

  abbrev pub bring_back_refusals : ℕ → List (ℕ × Bool)
  bring_back_refusals s =
      Refusals.disk_refusals g d ((12, not (Layout.is_slot g d s))
      ∷ (17, Entries.in_use g d s) ∷ (6, Entries.system g d s) ∷ (18, not (whole s)) ∷ (19, name_in_use s)
      ∷ (20, some (Layout.taken g d) (Chain.owned g d s)) ∷ [])

  unfoldable pub bring_back : ℕ → BroughtBack × List ℕ
  bring_back s =
      let no = Refusals.first (bring_back_refusals s) in (
        record {
          refusal = Refusals.refusal g d no;
          slots = cond (Refusals.accepted no) (length (Chain.chain g d s)) 0;
          granules = cond (Refusals.accepted no) (length (Chain.owned g d s)) 0;
        },
        cond (Refusals.accepted no) (brought_back g d s) d,
      )
