-- What genie_list_from hands back: its number first and the slot of a fault, then how many files are told, then the table.
use Rattle.std.specs.Prelude.{ℕ, List}
use Rattle.meaning.specs.declared.Geometry.{Geometry}
use Rattle.list_rows.specs.Rows.{list_from}
use Rattle.list_rows.specs.declared.Rows.{Rows}

abbrev pub tells_rows : Rows × List ℕ → ℕ × ℕ × ℕ × List ℕ
tells_rows p = (p.0.refusal.number, p.0.refusal.at, p.0.told, p.1)

abbrev pub exported_list_from : Geometry → List ℕ → ℕ → List ℕ → ℕ × ℕ × ℕ × List ℕ
exported_list_from g d number table = tells_rows (list_from g d number table)
