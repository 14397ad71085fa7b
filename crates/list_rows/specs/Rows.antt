-- The listing in one call: as many files from a number on as whole rows fit a table.
use Rattle.std.specs.Prelude.{ℕ, ◌/◌, Bool, cond, List, [], ◌∷◌, ◌++◌, ltb, length, take, drop}
use Rattle.std.proofs.lemmas.List.Edits.{sets}
use Rattle.meaning.specs.Lists.{each}
use Rattle.meaning.specs.Listing.{listed, tell_first}
use Rattle.meaning.specs.Refusals
use Rattle.meaning.specs.declared.Geometry.{Geometry}
use Rattle.meaning.specs.declared.Listed.{Listed}
pub use Rattle.genie_codec.specs.Codec.{low_first}
use Rattle.list_rows.specs.declared.Rows.{Rows}

-- so many bytes are a row
abbrev pub row_bytes : ℕ
row_bytes = 20

-- a row, of the file at slot p and of what the listing tells of it: name (11 bytes), slot (1), size (4), granules owned (2), two of zero; low byte
-- first
abbrev pub row_of : ℕ → Listed → List ℕ
row_of p l = l.name ++ (low_first 1 p ++ (low_first 4 l.size ++ (low_first 2 l.granules ++ (0 ∷ 0 ∷ []))))

module _ (g : Geometry) (d : List ℕ) where
  unfoldable pub row : ℕ → List ℕ
  row p = row_of p (tell_first g d (p ∷ []))

  -- "as many files from `number` on as whole rows … fit", of a table of so many bytes
  unfoldable pub told_from : ℕ → ℕ → List ℕ
  told_from number room = take (room / row_bytes) (drop number (listed g d))

  -- how many files are told, and the table after: their rows at its start, one after the other, and the rest of it as it stood
  unfoldable pub rows_from : ℕ → List ℕ → ℕ × List ℕ
  rows_from number table = let ps = told_from number (length table) in (length ps, sets table 0 (each row ps))

  -- 1; 21 to 30; 12: a table that holds no row
  abbrev pub rows_refusals : ℕ → List (ℕ × Bool)
  rows_refusals room = Refusals.disk_refusals g d ((12, ltb room row_bytes) ∷ [])

  -- Under a refusal none is told, and the table is as it stood. Past the last file none is told, which is accepted.
  unfoldable pub list_from : ℕ → List ℕ → Rows × List ℕ
  list_from number table =
      let r = rows_from number table in let no = Refusals.first (rows_refusals (length table)) in let yes' = Refusals.accepted no in (
        record { refusal = Refusals.refusal g d no; told = cond yes' r.0 0 },
        cond yes' r.1 table,
      )
