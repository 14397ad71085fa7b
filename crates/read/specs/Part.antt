-- Parts of a file and of an image.
use Rattle.std.specs.Prelude.{◌≡◌, List, ℕ, ◌+◌, ◌-◌, ◌*◌, ◌%◌, ◌≤◌, length, take, drop}
use Rattle.meaning.specs.Layout.{granule_bytes}
use Rattle.meaning.specs.Chain.{owned}
use Rattle.meaning.specs.declared.Geometry.{Geometry}
use Rattle.meaning.specs.declared.Part.{Part}
use Rattle.layout.specs.Granule.{most_sectors}
use Rattle.seek.specs.Seek.{Walkable, Used}

pub record Readable (g : Geometry) (d : List ℕ) (s : ℕ) : Type 0 where
  pub sound : Walkable g d
  pub used : Used g d s

-- n bytes from byte i on are owned, or none
pub record Within (g : Geometry) (d : List ℕ) (s i n : ℕ) : Type 0 where
  pub owned : i + n ≤ granule_bytes g * length (owned g d s)
  pub high : i + n ≤ 16777215

-- one byte or more
pub record Owned (g : Geometry) (d : List ℕ) (s i n : ℕ) : Type 0 where
  pub some : 1 ≤ n
  pub owned : i + n ≤ granule_bytes g * length (owned g d s)
  pub high : i + n ≤ 16777215

-- from byte i on r bytes are left of its granule
pub record Rest (g : Geometry) (i r : ℕ) : Type 0 where
  pub is : i % granule_bytes g + r ≡ granule_bytes g
  pub some : 1 ≤ r
  pub few : r ≤ 256 * most_sectors

-- bytes i to i + n lie in one granule, so they stand beside one another
pub record InGranule (g : Geometry) (i n : ℕ) : Type 0 where
  pub inside : i % granule_bytes g + n ≤ granule_bytes g

-- what a part of an image is: the refusal's number and what goes with it, and its bytes
unfoldable pub part_of : List ℕ → Part → ℕ × ℕ × List ℕ
part_of d p = (p.refusal.number, p.refusal.at, take (p.to - p.from) (drop p.from d))

-- the part lies inside an image of that length
pub record Lies (p : Part) (n : ℕ) : Type 0 where
  pub forward : p.from ≤ p.to
  pub inside : p.to ≤ n
