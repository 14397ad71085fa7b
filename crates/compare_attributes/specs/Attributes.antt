-- Attributes of two files that differ.
use Rattle.std.specs.Prelude.{Bool, not, List, ℕ, eqb}
use Rattle.meaning.specs.Lists.{same}
use Rattle.meaning.specs.Layout.{field}
use Rattle.meaning.specs.Plain.{file_at}
use Rattle.meaning.specs.declared.Geometry.{Geometry}
use Rattle.differences.specs.Compare.{date_of, others_of}

module _ (g : Geometry) (d : List ℕ) (h : Geometry) (e : List ℕ) where
  -- byte k of two entries differs
  unfoldable pub differs_at : ℕ → ℕ → ℕ → Bool
  differs_at s t k = not (eqb (field g d s k) (field h e t k))

  -- date and other attributes of two files differ
  unfoldable pub dates_differ : ℕ → ℕ → Bool
  dates_differ s t = not (same (date_of (file_at g d s)) (date_of (file_at h e t)))

  unfoldable pub others_differ : ℕ → ℕ → Bool
  others_differ s t = not (same (others_of (file_at g d s)) (others_of (file_at h e t)))
