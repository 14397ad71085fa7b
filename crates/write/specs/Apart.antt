-- A file none of whose granules is of the directory.
use Rattle.std.specs.Prelude.{◌⊎◌, List, ℕ, ◌+◌, ◌*◌, ◌<◌, ◌≤◌, length, get_or}
use Rattle.meaning.specs.Layout.{directory_sectors, granule_bytes}
use Rattle.meaning.specs.Chain.{owned}
use Rattle.meaning.specs.declared.Geometry.{Geometry}

pub record Apart (g : Geometry) (d : List ℕ) (s : ℕ) : Type 0 where
  pub apart : (k : ℕ) → k < length (owned g d s) → (granule_bytes g * get_or (owned g d s) k 0 + granule_bytes g ≤ 256 * g.start) ⊎
      (256 * (g.start + directory_sectors g d) ≤ granule_bytes g * get_or (owned g d s) k 0)
