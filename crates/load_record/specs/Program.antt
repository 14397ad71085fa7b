-- What reading a load file asks of its disk, and what is found in it.
use Rattle.std.specs.Prelude.{◌≡◌, List, ℕ, ◌+◌, ◌*◌, ◌<◌, ◌≤◌, length}
use Rattle.meaning.specs.Layout.{granule_bytes}
use Rattle.meaning.specs.Entries.{size_of}
use Rattle.meaning.specs.Chain.{owned}
use Rattle.meaning.specs.declared.Geometry.{Geometry}
use Rattle.read.specs.Part.{Readable}
use Rattle.load.specs.Records.{item_at}
use Rattle.load.specs.declared.Item.{Item}
use Rattle.load.specs.declared.NextRecord.{NextRecord}

-- the file at slot s can be read: its size, which its granules hold
pub record Program (g : Geometry) (d : List ℕ) (s size : ℕ) : Type 0 where
  pub file : Readable g d s
  pub is : size ≡ size_of g d s
  pub owned : size ≤ granule_bytes g * length (owned g d s)
  pub high : size < 16777216

-- no whole record or comment
abbrev pub broken : ℕ → ℕ → Item
broken number position = record { number = number; position = position; code = 0; rest = 0 }

-- what stands at place i; the rest is that of a count, which is a byte
pub record Looked (bs : List ℕ) (i : ℕ) (r : Item) : Type 0 where
  pub is : r ≡ item_at bs i
  pub few : r.rest ≤ 257

-- the next record; its bytes are the file's, and fit a buffer
pub record Found (bs : List ℕ) (whole r : NextRecord) : Type 0 where
  pub is : r ≡ whole
  pub few : r.count ≤ 255
  pub inside : r.number ≡ 0 → r.from + r.count ≤ length bs
