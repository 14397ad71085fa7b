-- A disk as a plain list of named files (demand 2), and what each call does to such a list.
use Rattle.std.specs.Prelude.{ℕ, ◌+◌, ◌-◌, ◌/◌, ◌%◌, max, Bool, cond, List, [], ◌∷◌, ◌++◌, map, length, get_or, replicate, take, drop, set}
use Rattle.meaning.specs.Lists.{count, same}
use Rattle.meaning.specs.Bits
use Rattle.meaning.specs.Layout
use Rattle.meaning.specs.Entries
use Rattle.meaning.specs.Chain
use Rattle.meaning.specs.LookUp
use Rattle.meaning.specs.Read
use Rattle.meaning.specs.Write.{size_after}
use Rattle.meaning.specs.Allot
use Rattle.meaning.specs.declared.Geometry.{Geometry}
use Rattle.meaning.specs.declared.NewFile.{NewFile}
use Rattle.meaning.specs.declared.Mode.{Mode}

-- A file's attributes are its entry bytes 00, 01, 02, 04 and 10 to 13. Its size is the number of its bytes.
pub record File : Type 0 where
  pub attributes : List ℕ
  pub granules : ℕ
  pub bytes : List ℕ

pub data Found : Type 0 where
  found : File → Found
  nothing : Found

-- what a disk tells of the file at slot p
unfoldable pub file_at : Geometry → List ℕ → ℕ → File
file_at g d p =
    record {
      attributes = map (Layout.field g d p) (0 ∷ 1 ∷ 2 ∷ 4 ∷ count 0x10 4);
      granules = length (Chain.owned g d p);
      bytes = Read.fetch g d p 0 (Entries.size_of g d p);
    }

-- A plain list of named files is the function that tells what stands under each name: names differ, and their order is of no account.
abbrev pub Plain : Type 0
Plain = List ℕ → Found

unfoldable pub found_in : Geometry → List ℕ → List ℕ → Found
found_in g d [] = nothing
found_in g d (p ∷ ps) = found (file_at g d p)

unfoldable pub plain : Geometry → List ℕ → Plain
plain g d n = found_in g d (LookUp.named g d n)

-- What each accepted call does to its own file ------------------------------------------------------------------------------

-- create: a file without bytes or granules
unfoldable pub born_as : NewFile → File
born_as f =
    record {
      attributes = 0x10 ∷ f.day ∷ Entries.date_byte f.year f.month ∷ f.len % 256
          ∷ f.main % 256 ∷ f.main / 256 ∷ f.worker % 256 ∷ f.worker / 256 ∷ [];
      granules = 0;
      bytes = [];
    }

-- the bytes after a write of r at position i: what lies between the old end and the position is zero
unfoldable pub overwritten : Mode → List ℕ → ℕ → List ℕ → List ℕ
overwritten m old i r =
    let kept = take i old ++ replicate (i - length old) 0 in
    take (size_after m (length old) (i + length r)) (kept ++ (r ++ drop (i + length r) old))

-- write: the bytes, B set, and as many granules as the bytes need, if there were fewer
unfoldable pub written_to : Geometry → Mode → ℕ → List ℕ → File → File
written_to g m i r f =
    let bs = overwritten m f.bytes i r in
    record {
      attributes = set f.attributes 1 (Bits.with_bit 5 (get_or f.attributes 1 0));
      granules = max f.granules (Layout.granules_for g (length bs));
      bytes = bs;
    }

-- allot: the granules that hold sector k, if there were fewer
unfoldable pub allotted_to : Geometry → ℕ → File → File
allotted_to g k f = record { attributes = f.attributes; granules = max f.granules (Allot.granules_to g k); bytes = f.bytes }

-- trim: the granules that the bytes need, unless F is set
unfoldable pub trimmed : Geometry → File → File
trimmed g f =
    record {
      attributes = f.attributes;
      granules = cond (Bits.bit 7 (get_or f.attributes 1 0)) f.granules (Layout.granules_for g (length f.bytes));
      bytes = f.bytes;
    }

-- a killed file brought back: what the entry at slot p and its granules hold, with bit 4 set
unfoldable pub back_as : Geometry → List ℕ → ℕ → File
back_as g d p =
    record {
      attributes = Bits.with_bit 4 (Layout.field g d p 0) ∷ map (Layout.field g d p) (1 ∷ 2 ∷ 4 ∷ count 0x10 4);
      granules = length (Chain.owned g d p);
      bytes = Read.fetch g d p 0 (Entries.size_of g d p);
    }

-- a list of files with another file, or none, under one name
unfoldable pub with' : Plain → List ℕ → Found → Plain
with' fs n x m = cond (same m n) x (fs m)

-- the system flag, as the attributes have it
abbrev pub is_system : File → Bool
is_system f = Bits.bit 6 (get_or f.attributes 0 0)
