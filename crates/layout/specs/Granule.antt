-- What the code knows of the size of a granule: that it is the geometry's, and within which bounds. How many sectors that are it does not know.
use Rattle.std.specs.Prelude.{◌≡◌, ℕ, ◌*◌, ◌≤◌}
use Rattle.meaning.specs.Layout.{granule_sectors, granule_bytes}
use Rattle.meaning.specs.declared.Geometry.{Geometry}

abbrev pub fewest_sectors : ℕ
fewest_sectors = 5

abbrev pub most_sectors : ℕ
most_sectors = 20

pub record Sectors (g : Geometry) (r : ℕ) : Type 0 where
  pub is : r ≡ granule_sectors g
  pub some : fewest_sectors ≤ r
  pub few : r ≤ most_sectors

pub record Bytes (g : Geometry) (r : ℕ) : Type 0 where
  pub is : r ≡ granule_bytes g
  pub some : 256 * fewest_sectors ≤ r
  pub few : r ≤ 256 * most_sectors
