-- Allot to sector k (01, Calls).
use Rattle.std.specs.Prelude.{ℕ, ◌+◌, ◌/◌, Bool, cond, List, [], ◌∷◌, ltb}
use Rattle.meaning.specs.Lists.{all}
use Rattle.meaning.specs.Layout
use Rattle.meaning.specs.Refusals
use Rattle.meaning.specs.Handles
use Rattle.meaning.specs.Growth
use Rattle.meaning.specs.declared.Geometry.{Geometry}
use Rattle.meaning.specs.declared.Handle.{Handle}
use Rattle.meaning.specs.declared.Answer.{Answer}

-- ⌊k / sectors of a granule⌋ + 1 (01: ⌊k/5⌋ + 1): so many granules hold sector k
abbrev pub granules_to : Geometry → ℕ → ℕ
granules_to g k = k / Layout.granule_sectors g + 1

module _ (g : Geometry) (d : List ℕ) where
  -- until so many are owned, none if they are already
  abbrev pub to_allot : Handle → ℕ → ℕ
  to_allot h k = Growth.lacking g d h.slot (granules_to g k)

  abbrev pub allot_refusals : Handle → ℕ → List (ℕ × Bool)
  allot_refusals h k =
      Refusals.handle_refusals g d h (all (Handles.in_range g h ∷ ltb k (Layout.sector_numbers g) ∷ []))
      (Refusals.protected g d 4 h ∷ Refusals.cannot_grow g d h.slot (to_allot h k))

  -- Allot to sector k: takes granules; size unchanged.
  unfoldable pub allot : Handle → ℕ → Answer × List ℕ
  allot h k =
      let no = Refusals.first (allot_refusals h k) in (
        record { refusal = Refusals.refusal g d no; handle = h },
        cond (Refusals.accepted no) (Growth.with_granules g d h.slot (to_allot h k)) d,
      )
