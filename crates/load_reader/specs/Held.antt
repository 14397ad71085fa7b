-- "A reader that keeps hold of the lent image and its place in the file" (02 §12): what one holds, what it answers, and what it holds after.
use Rattle.std.specs.Prelude.{ℕ, List}
use Rattle.std.specs.Borrow.{Bor}
use Rattle.meaning.specs.declared.Geometry.{Geometry}
use Rattle.meaning.specs.declared.Handle.{Handle}
use Rattle.load.specs.Load.{load_record}
use Rattle.load.specs.declared.Loaded.{Loaded}
use Rattle.load_reader.specs.declared.Reader.{Reader}

-- the lent image, which is handed on as it is (its pointer too), the geometry, and the handle, whose position is the place
abbrev pub held : Bor (List ℕ) → Geometry → Handle → Reader
held image g h = record { image = image; geometry = g; handle = h }

-- the next record, at the image as it is lent and at the reader's place; b is the buffer
abbrev pub asked : Reader → List ℕ → Loaded × List ℕ
asked r b = load_record r.geometry r.image.now r.handle b

-- the reader after it answered x: the same image, at the place that the answer's handle has
abbrev pub moved_by : Reader → Loaded → Reader
moved_by r x = held r.image r.geometry x.handle
