-- Each number of the listing in one call is given exactly in its case, in the order of test: 1; 21 to 30; 12.
use Rattle.std.specs.Prelude.{refl, List, [], ◌∷◌, ℕ, ◌<◌, length}
use Rattle.std.proofs.Common.{ltb→lt}
use Rattle.std.proofs.Math.Dec.{lt→ltb}
use Rattle.meaning.specs.declared.Geometry.{Geometry}
use Rattle.list_rows.specs.Rows.{row_bytes, rows_refusals, list_from}
use Rattle.promises.specs.Promises.{Table, Exactly, disk_cases}
use Rattle.promises.specs.Refusing.{own_rows, own_cases, exactly, disk-reading}

module _ (g : Geometry) (d : List ℕ) where
  -- 12 a table that holds no row
  abbrev pub rows_cases : ℕ → Table
  rows_cases room = disk_cases g d ((12, room < row_bytes) ∷ [])

  pub rows-numbers : (number : ℕ) (table : List ℕ) → Exactly (list_from g d number table).0.refusal.number (rows_cases (length table))
  unfolding list_from
  rows-numbers number table =
      exactly (rows_refusals g d (length table)) (rows_cases (length table))
      (disk-reading g d (own_rows (rows_refusals g d (length table))) (own_cases (rows_cases (length table)))
      (refl, λ x. (ltb→lt (length table) row_bytes, lt→ltb (length table) row_bytes), tt)) tt
