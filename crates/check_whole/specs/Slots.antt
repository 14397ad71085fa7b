-- What the whole check is given, and the order in which it visits the slots.
use Rattle.std.specs.Prelude.{◌≡◌, List, [], ◌∷◌, ℕ, zero, suc, ◌+◌, ◌-◌, ◌*◌, ◌%◌, ◌≤◌, length}
use Rattle.meaning.specs.Lists.{count, each}
use Rattle.meaning.specs.Layout.{granules, directory_sectors, granule_bytes, granule_sectors, sectors, most_granules, most_blocks, most_units}
use Rattle.meaning.specs.declared.Geometry.{Geometry}

-- the geometry and the image's length fit
pub record FitsImage (g : Geometry) (d : List ℕ) : Type 0 where
  pub blocks-low : 1 ≤ g.blocks
  pub blocks-high : g.blocks ≤ most_blocks
  pub units-low : 1 ≤ g.units
  pub units-high : g.units ≤ most_units
  pub five : g.start % granule_sectors g ≡ 0
  pub most : granules g ≤ most_granules
  pub whole : length d ≡ granules g * granule_bytes g
  -- the same by sectors, of which the largest disk has so many
  pub long : length d ≡ 256 * sectors g
  pub far : sectors g ≤ 30720
  pub ten : g.start + 10 ≤ sectors g

-- s and every 32nd slot after it, n in all
unfoldable pub by32 : ℕ → ℕ → List ℕ
by32 zero s = []
by32 (suc n) s = s ∷ by32 n (s + 32)

-- the slots whose entries stand in one sector of the directory, row by row
unfoldable pub sector_slots : ℕ → List ℕ
sector_slots column = by32 8 column

-- "visit entries in disk order, by directory sector and then row" (02, §8)
unfoldable pub disk_slots : Geometry → List ℕ → List ℕ
disk_slots g d = each sector_slots (count 0 (directory_sectors g d - 2))
