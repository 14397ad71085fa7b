-- Kill (01, Calls).
use Rattle.std.specs.Prelude.{ℕ, Bool, cond, List, [], ◌∷◌, set}
use Rattle.meaning.specs.Lists.{through}
use Rattle.meaning.specs.Bits.{without_bit}
use Rattle.meaning.specs.Layout
use Rattle.meaning.specs.Chain
use Rattle.meaning.specs.Refusals
use Rattle.meaning.specs.Handles
use Rattle.meaning.specs.declared.Geometry.{Geometry}
use Rattle.meaning.specs.declared.Handle.{Handle}
use Rattle.meaning.specs.declared.Answer.{Answer}

-- an entry killed: bit 4 and the HIT byte cleared
unfoldable pub kill_entry : Geometry → List ℕ → ℕ → List ℕ
kill_entry g d s = set (Layout.set_field g d s 0 (without_bit 4 (Layout.field g d s 0))) (Layout.hit_at g s) 0

-- the disk without the file at slot s: its granules free, its entry and its extensions killed
abbrev pub killed : Geometry → List ℕ → ℕ → List ℕ
killed g d s = through (kill_entry g) (through (Layout.free_granule g) d (Chain.owned g d s)) (Chain.chain g d s)

module _ (g : Geometry) (d : List ℕ) where
  abbrev pub kill_refusals : Handle → List (ℕ × Bool)
  kill_refusals h = Refusals.handle_refusals g d h (Handles.in_range g h) (Refusals.protected g d 1 h ∷ [])

  -- Kill: clears bit 4 of the entry and its extensions, their HIT bytes and their GAT bits, nothing else.
  unfoldable pub kill : Handle → Answer × List ℕ
  kill h =
      let no = Refusals.first (kill_refusals h) in (
        record { refusal = Refusals.refusal g d no; handle = h },
        cond (Refusals.accepted no) (killed g d h.slot) d,
      )
