-- What is not read (01, Directory layout; `promises_unread`), of the listing in one call: two images that are alike but for such places fill every table
-- alike, from every number on. This is said of any two images, consistent or not. Nothing is proved here: `Kept` has the theorem.
use Rattle.std.specs.Prelude.{◌≡◌, List, ℕ}
use Rattle.meaning.specs.declared.Geometry.{Geometry}
use Rattle.list_rows.specs.Rows.{list_from}
use Rattle.promises_unread.specs.Statement.{Kinds, ReadAlike}

-- the number, how many files are told, and the whole table
abbrev pub EveryTable : Type 0
EveryTable =
    (u : Kinds) (g : Geometry) (d d' : List ℕ) → ReadAlike u g d d' → (number : ℕ) (table : List ℕ) → list_from g d number table ≡ list_from g d' number table
