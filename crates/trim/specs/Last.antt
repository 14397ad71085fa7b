-- What dropping granules asks of a disk.
use Rattle.std.specs.Prelude.{◌≡◌, List, ℕ, ◌+◌, ◌*◌, ◌≤◌, length}
use Rattle.meaning.specs.Lists.{times}
use Rattle.meaning.specs.Layout.{granule_bytes}
use Rattle.meaning.specs.Entries.{size_of}
use Rattle.meaning.specs.Chain.{owned}
use Rattle.meaning.specs.Growth.{tail}
use Rattle.meaning.specs.Drop.{drop_one}
use Rattle.meaning.specs.declared.Geometry.{Geometry}
use Rattle.laws.specs.Steps.{Ready}

-- e is the last entry of the file at slot p, which owns n granules more than its size needs
pub record Last (g : Geometry) (d : List ℕ) (p e n : ℕ) : Type 0 where
  pub ready : Ready g d p
  pub last : e ≡ tail g p d
  pub room : size_of g d p + granule_bytes g * n ≤ granule_bytes g * length (owned g d p)

-- of n granules that the file at slot p is to lose `left` are left, and e is its last entry by now; d is the image at the start
pub record Dropping (g : Geometry) (p : ℕ) (d : List ℕ) (n : ℕ) (d' : List ℕ) (e left : ℕ) : Type 0 where
  pub rest : times n (drop_one g p) d ≡ times left (drop_one g p) d'
  pub last : Last g d' p e left
  pub long : length d' ≡ length d
