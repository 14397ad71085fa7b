-- A row has 20 bytes, and so many rows 20 times as many.
use Rattle.std.specs.Prelude.{◌≡◌, List, [], ◌∷◌, ℕ, ◌*◌, length}
use Rattle.std.proofs.Math.Path.{refl}
use Rattle.std.proofs.Common.{◌∙◌, arith, length-append}
use Rattle.meaning.specs.Lists.{each}
use Rattle.meaning.specs.Entries.{name_of}
use Rattle.meaning.specs.Listing.{tell_first}
use Rattle.meaning.specs.declared.Geometry.{Geometry}
use Rattle.list_rows.specs.Rows.{row_bytes, row}

module _ (g : Geometry) (d : List ℕ) where
  pub row-length : (p : ℕ) → length (row g d p) ≡ row_bytes
  unfolding row tell_first name_of
  row-length p = refl

  pub rows-length : (ps : List ℕ) → length (each (row g d) ps) ≡ row_bytes * length ps
  rows-length [] = refl
  rows-length (p ∷ ps) = length-append (row g d p) (each (row g d) ps) ∙ omega (arith, row-length p, rows-length ps)
