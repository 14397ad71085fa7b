-- How far a file reaches.
use Rattle.std.specs.Prelude.{◌≡◌, List, ℕ, ◌≤◌, length}
use Rattle.meaning.specs.Chain.{owned}
use Rattle.meaning.specs.Growth.{tail}
use Rattle.meaning.specs.declared.Geometry.{Geometry}
use Rattle.extent.specs.declared.Extent.{Extent}

-- the last entry of the file at slot s, and the number of its granules
pub record Reaches (g : Geometry) (d : List ℕ) (s : ℕ) (r : Extent) : Type 0 where
  pub last : r.last ≡ tail g s d
  pub many : r.owned ≡ length (owned g d s)
  pub small : r.owned ≤ 28672
