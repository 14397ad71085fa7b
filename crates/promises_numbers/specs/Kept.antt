-- The theorem to the type of `Statement`: the first of a list of refusals is one of its numbers, or 0.
use Rattle.std.specs.Prelude.{◌≡◌, refl, List, [], ◌∷◌, length, ℕ}
use Rattle.std.proofs.Common.{sym}
use Rattle.std.proofs.Math.Path.{subst}
use Rattle.meaning.specs.Refusals.{check, disk_refusals}
use Rattle.meaning.specs.LookUp.{look_up, look_up_refusals}
use Rattle.meaning.specs.Open.{open', open_refusals}
use Rattle.meaning.specs.Create.{create, create_refusals}
use Rattle.meaning.specs.Amount.{how_many}
use Rattle.meaning.specs.Read.{read_of, read_sector, read_refusals, sector_refusals}
use Rattle.meaning.specs.Write.{write_of, write_refusals}
use Rattle.meaning.specs.Allot.{allot, allot_refusals}
use Rattle.meaning.specs.Trim.{trim, trim_refusals}
use Rattle.meaning.specs.Kill.{kill, kill_refusals}
use Rattle.meaning.specs.Listing
use Rattle.meaning.specs.FreeSpace.{free_space, space_refusals}
use Rattle.meaning.specs.Calls.{Call, number}
use Rattle.meaning.specs.declared.Geometry.{Geometry}
use Rattle.lists.specs.Members.{In}
use Rattle.lists.specs.First.{first-in}
use Rattle.promises.specs.Promises.{table}
use Rattle.promises.specs.Refusing
use Rattle.promises_numbers.specs.Statement.{numbers, of_disk, rows_of, Numbered, EveryNumber}

module _ (g : Geometry) (d : List ℕ) where
  of-check : In (check g d).number (0 ∷ of_disk [])
  unfolding check
  of-check = first-in (disk_refusals g d [])

  one_of : (c : Call) → In (number g d c) (0 ∷ numbers c)
  unfolding number look_up open' create read_of read_sector write_of allot trim kill Listing.counts free_space
  one_of Call.checks = of-check
  one_of (Call.looks_up n) = first-in (look_up_refusals g d n)
  one_of (Call.opens n len checking code) = first-in (open_refusals g d n len checking code)
  one_of (Call.creates n f checking) = first-in (create_refusals g d n f checking)
  one_of (Call.reads a h b) = first-in (read_refusals g d h (how_many a h.len b) (length b))
  one_of (Call.reads_sector h k) = first-in (sector_refusals g d h k)
  one_of (Call.writes a m h b) = first-in (write_refusals g d m h (how_many a h.len b) (length b))
  one_of (Call.allots h k) = first-in (allot_refusals g d h k)
  one_of (Call.trims h) = first-in (trim_refusals g d h)
  one_of (Call.kills h) = first-in (kill_refusals g d h)
  one_of (Call.lists i) = subst (λ (n : ℕ). In n (0 ∷ of_disk [])) (sym (Refusing.list-number g d i)) of-check
  one_of Call.counts = of-check
  one_of Call.measures = first-in (space_refusals g d)

  rows : (c : Call) → rows_of (table g d c) ≡ numbers c
  rows Call.checks = refl
  rows (Call.looks_up n) = refl
  rows (Call.opens n len checking code) = refl
  rows (Call.creates n f checking) = refl
  rows (Call.reads a h b) = refl
  rows (Call.reads_sector h k) = refl
  rows (Call.writes a m h b) = refl
  rows (Call.allots h k) = refl
  rows (Call.trims h) = refl
  rows (Call.kills h) = refl
  rows (Call.lists i) = refl
  rows Call.counts = refl
  rows Call.measures = refl

pub every-number : EveryNumber
every-number g d c = record { one_of = one_of g d c; table' = rows g d c }
