-- Trim (01, Calls).
use Rattle.std.specs.Prelude.{ℕ, ◌-◌, Bool, not, cond, ◌&&◌, List, [], ◌∷◌, length}
use Rattle.meaning.specs.Lists.{times}
use Rattle.meaning.specs.Layout
use Rattle.meaning.specs.Entries
use Rattle.meaning.specs.Chain
use Rattle.meaning.specs.Drop
use Rattle.meaning.specs.Refusals
use Rattle.meaning.specs.Handles
use Rattle.meaning.specs.declared.Geometry.{Geometry}
use Rattle.meaning.specs.declared.Handle.{Handle}
use Rattle.meaning.specs.declared.Answer.{Answer}

module _ (g : Geometry) (d : List ℕ) where
  -- keeps ⌈size / bytes of a granule⌉ granules (01: ⌈size/1280⌉), dropping the last ones: so many
  abbrev pub surplus : ℕ → ℕ
  surplus s = length (Chain.owned g d s) - Layout.granules_for g (Entries.size_of g d s)

  abbrev pub trim_refusals : Handle → List (ℕ × Bool)
  trim_refusals h = Refusals.handle_refusals g d h (Handles.in_range g h) (Refusals.protected g d 4 h ∷ [])

  -- Trim: if F is clear, keeps the granules that its size needs. With F set nothing changes.
  unfoldable pub trim : Handle → Answer × List ℕ
  trim h =
      let s = h.slot in
      let no = Refusals.first (trim_refusals h) in (
        record { refusal = Refusals.refusal g d no; handle = h },
        cond (Refusals.accepted no && not (Entries.keeps_space g d s)) (times (surplus s) (Drop.drop_one g s) d) d,
      )
