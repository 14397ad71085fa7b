-- "A disk as a plain list of named files" (demand 2): every file stands in the list, under its name, and nothing else stands in it. System
-- files are files too. Nothing is proved here: `Kept` has the theorem.
use Rattle.std.specs.Prelude.{◌≡◌, ◌↔◌, true, List, ℕ}
use Rattle.meaning.specs.Entries.{name_of}
use Rattle.meaning.specs.Consistent.{consistent}
use Rattle.meaning.specs.Plain.{File, found, nothing, file_at, plain}
use Rattle.meaning.specs.declared.Geometry.{Geometry}
use Rattle.laws.specs.Facts.{IsFile}

pub record AllListed (g : Geometry) (d : List ℕ) : Type 0 where
  -- every in-use primary entry of a slot of the directory is a file of the list, with what its slot tells: attributes, granules and bytes
  pub every : (p : ℕ) → IsFile g d p → plain g d (name_of g d p) ≡ found (file_at g d p)
  -- what stands in the list is such a file
  pub only : (n : List ℕ) (f : File) → plain g d n ≡ found f → (p : ℕ) × IsFile g d p × (name_of g d p ≡ n) × (file_at g d p ≡ f)
  -- "Names of in-use primary entries .. differ" (01): one name, one file
  pub once : (p q : ℕ) → IsFile g d p → IsFile g d q → name_of g d p ≡ name_of g d q → p ≡ q
  -- and nothing stands under a name exactly if no file bears it
  pub none : (n : List ℕ) → (plain g d n ≡ nothing) ↔ ((p : ℕ) → IsFile g d p → name_of g d p ≡ n → ⊥)

abbrev pub EveryFile : Type 0
EveryFile = (g : Geometry) (d : List ℕ) → consistent g d ≡ true → AllListed g d
