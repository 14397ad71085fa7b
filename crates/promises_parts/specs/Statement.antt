-- What is promised of a read and of a write of many bytes: each is those of fewer that make it up, and the record length plays no part in
-- it. Nothing is proved here: `Kept` has a theorem for each of them.
use Rattle.std.specs.Prelude.{◌≡◌, List, [], ◌∷◌, ◌++◌, ℕ, ◌+◌, drop, replicate}
use Rattle.meaning.specs.Read.{read_of}
use Rattle.meaning.specs.Write.{write_of, to_write}
use Rattle.meaning.specs.declared.Geometry.{Geometry}
use Rattle.meaning.specs.declared.Handle.{Handle}
use Rattle.meaning.specs.declared.Answer.{Answer}
use Rattle.meaning.specs.declared.Mode.{Mode}
use Rattle.promises.specs.Promises.{LengthInRange}

abbrev pub sum : List ℕ → ℕ
sum [] = 0
sum (n ∷ ns) = n + sum ns

-- reads of these lengths, one after the other: each into a buffer of its own, by the handle as the one before left it
abbrev pub read_for : Geometry → List ℕ → Handle → ℕ → Answer × List ℕ
read_for g d h n = read_of g d h n (replicate n 0)

-- each is accepted; what they hand out, joined; the handle at the end
abbrev pub AllRead : Geometry → List ℕ → Handle → List ℕ → Type 0
AllRead g d h [] = Unit {0}
AllRead g d h (n ∷ ns) = ((read_for g d h n).0.refusal.number ≡ 0) × AllRead g d (read_for g d h n).0.handle ns

abbrev pub handed_out : Geometry → List ℕ → Handle → List ℕ → List ℕ
handed_out g d h [] = []
handed_out g d h (n ∷ ns) = (read_for g d h n).1 ++ handed_out g d (read_for g d h n).0.handle ns

abbrev pub read_to : Geometry → List ℕ → Handle → List ℕ → Handle
read_to g d h [] = h
read_to g d h (n ∷ ns) = read_to g d (read_for g d h n).0.handle ns

-- An accepted read of n bytes is the reads of any lengths that add up to n, one after the other.
pub record ReadInParts (g : Geometry) (d : List ℕ) (h : Handle) (ns b : List ℕ) : Type 0 where
  pub accepted' : AllRead g d h ns
  pub bytes' : (read_of g d h (sum ns) b).1 ≡ handed_out g d h ns ++ drop (sum ns) b
  pub handle' : (read_of g d h (sum ns) b).0.handle ≡ read_to g d h ns

abbrev pub EveryRead : Type 0
EveryRead = (g : Geometry) (d : List ℕ) (h : Handle) (ns b : List ℕ) → (read_of g d h (sum ns) b).0.refusal.number ≡ 0 → ReadInParts g d h ns b

-- writes of these lengths, one after the other: of the bytes of a list from its start on, each by the handle and on the disk as the one
-- before left them. Each is accepted; the disk at the end; the handle at the end.
abbrev pub AllWritten : Geometry → List ℕ → Mode → Handle → List ℕ → List ℕ → Type 0
AllWritten g d m h [] b = Unit {0}
AllWritten g d m h (n ∷ ns) b = let r = write_of g d m h n b in (r.0.refusal.number ≡ 0) × AllWritten g r.1 m r.0.handle ns (drop n b)

abbrev pub written_by : Geometry → List ℕ → Mode → Handle → List ℕ → List ℕ → List ℕ
written_by g d m h [] b = d
written_by g d m h (n ∷ ns) b = let r = write_of g d m h n b in written_by g r.1 m r.0.handle ns (drop n b)

abbrev pub written_to : Geometry → List ℕ → Mode → Handle → List ℕ → List ℕ → Handle
written_to g d m h [] b = h
written_to g d m h (n ∷ ns) b = let r = write_of g d m h n b in written_to g r.1 m r.0.handle ns (drop n b)

-- An accepted write of n bytes that takes no granule is the writes of any lengths that add up to n, one or more, one after the other: the
-- images are equal byte for byte.
pub record WrittenInParts (g : Geometry) (d : List ℕ) (m : Mode) (h : Handle) (ns b : List ℕ) : Type 0 where
  pub accepted' : AllWritten g d m h ns b
  pub image' : (write_of g d m h (sum ns) b).1 ≡ written_by g d m h ns b
  pub handle' : (write_of g d m h (sum ns) b).0.handle ≡ written_to g d m h ns b

abbrev pub EveryQuietWrite : Type 0
EveryQuietWrite =
    (g : Geometry) (d : List ℕ) (m : Mode) (h : Handle) (n : ℕ) (ns b : List ℕ) → (write_of g d m h (sum (n ∷ ns)) b).0.refusal.number ≡ 0
    → to_write g d m h (sum (n ∷ ns)) ≡ 0 → WrittenInParts g d m h (n ∷ ns) b

-- the handle with another record length
abbrev pub with_length : Handle → ℕ → Handle
with_length h len = record { slot = h.slot; name = h.name; at = h.at; len = len; level = h.level }

-- an answer whose handle has that record length
abbrev pub of_length : ℕ → Answer × List ℕ → Answer × List ℕ
of_length len r = (record { refusal = r.0.refusal; handle = with_length r.0.handle len }, r.1)

-- A call is what it says of n alone: by a handle of another record length in range it answers the same, but for that length. So a read or
-- write of n bytes, n from 1 to 256, is read record or write record by the handle with the record length n.
pub record LengthApart (g : Geometry) (d : List ℕ) (h : Handle) (len n : ℕ) (b : List ℕ) : Type 0 where
  pub reads' : read_of g d (with_length h len) n b ≡ of_length len (read_of g d h n b)
  pub writes' : (m : Mode) → write_of g d m (with_length h len) n b ≡ of_length len (write_of g d m h n b)

abbrev pub EveryLength : Type 0
EveryLength = (g : Geometry) (d : List ℕ) (h : Handle) (len n : ℕ) (b : List ℕ) → LengthInRange h.len → LengthInRange len → LengthApart g d h len n b
