-- What genie_compare hands back: its number first and the slot of a fault, then the other numbers that go out, then the name buffer.
use Rattle.std.specs.Prelude.{ℕ, cond, List, eqb}
use Rattle.std.proofs.lemmas.List.Edits.{sets}
use Rattle.meaning.specs.Refusals.{check}
use Rattle.meaning.specs.declared.Geometry.{Geometry}
use Rattle.meaning.specs.declared.Refusal.{Refusal}
use Rattle.differences.specs.Compare.{compare}
use Rattle.differences.specs.declared.Difference.{Difference}
use Rattle.genie_codec.specs.Codec.{name_bytes}
use Rattle.genie_codec.specs.Words.{flags_of}
use Rattle.refusal.specs.Short.{short_of_two}
use Rattle.genie.specs.Exports.{long}

-- image, kind, position, flags, and the name buffer: the name at its start where a difference is told, else as it stood
unfoldable pub tells_difference : List ℕ → Difference → ℕ × ℕ × ℕ × ℕ × ℕ × ℕ × List ℕ
tells_difference b x = (x.refusal.number, x.refusal.at, x.refusal.image, x.kind, x.at, flags_of x, cond (eqb x.kind 0) b (sets b 0 x.name))

-- A name buffer under 11 bytes is 12, and names neither image.
abbrev pub short_of : List ℕ → Refusal → ℕ × ℕ × ℕ × ℕ × ℕ × ℕ × List ℕ
short_of b c = (c.number, c.at, c.image, 0, 0, 0, b)

abbrev pub exported_compare : Geometry → List ℕ → Geometry → List ℕ → ℕ → List ℕ → ℕ × ℕ × ℕ × ℕ × ℕ × ℕ × List ℕ
exported_compare g d g' d' i b = long name_bytes b (short_of b (short_of_two (check g d) (check g' d'))) (tells_difference b (compare g d g' d' i))
