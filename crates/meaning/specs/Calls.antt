-- A call as one value, whatever it is: what it hands back, the number in that, and the image that it leaves. What holds of every call, and
-- what holds of calls one after the other, is said of these.
use Rattle.std.specs.Prelude.{ℕ, Bool, List}
use Rattle.meaning.specs.Refusals.{check}
use Rattle.meaning.specs.LookUp.{look_up}
use Rattle.meaning.specs.Open.{open'}
use Rattle.meaning.specs.Create.{create}
use Rattle.meaning.specs.Amount.{Amount, how_many}
use Rattle.meaning.specs.Read.{read_of, read_sector}
use Rattle.meaning.specs.Write.{write_of}
use Rattle.meaning.specs.Allot.{allot}
use Rattle.meaning.specs.Trim.{trim}
use Rattle.meaning.specs.Kill.{kill}
use Rattle.meaning.specs.Listing
use Rattle.meaning.specs.FreeSpace.{free_space}
use Rattle.meaning.specs.declared.Geometry.{Geometry}
use Rattle.meaning.specs.declared.Handle.{Handle}
use Rattle.meaning.specs.declared.NewFile.{NewFile}
use Rattle.meaning.specs.declared.Mode.{Mode}
use Rattle.meaning.specs.declared.Refusal.{Refusal}
use Rattle.meaning.specs.declared.LookedUp.{LookedUp}
use Rattle.meaning.specs.declared.Answer.{Answer}
use Rattle.meaning.specs.declared.Created.{Created}
use Rattle.meaning.specs.declared.Part.{Part}
use Rattle.meaning.specs.declared.Listed.{Listed}
use Rattle.meaning.specs.declared.Counts.{Counts}
use Rattle.meaning.specs.declared.Space.{Space}

-- a call with all that the caller brings: any handle, any buffer, any numbers
pub data Call : Type 0 where
  checks : Call
  looks_up : (name : List ℕ) → Call
  opens : (name : List ℕ) (len : ℕ) (checking : Bool) (code : ℕ) → Call
  creates : (name : List ℕ) (f : NewFile) (checking : Bool) → Call
  -- read record, or read bytes
  reads : (a : Amount) (h : Handle) (buffer : List ℕ) → Call
  reads_sector : (h : Handle) (k : ℕ) → Call
  -- write record, or write bytes
  writes : (a : Amount) (m : Mode) (h : Handle) (buffer : List ℕ) → Call
  allots : (h : Handle) (k : ℕ) → Call
  trims : (h : Handle) → Call
  kills : (h : Handle) → Call
  lists : (i : ℕ) → Call
  counts : Call
  measures : Call

-- what a call hands back, each its own; a read also the buffer
abbrev pub AnswerTo : Call → Type 0
AnswerTo checks = Refusal
AnswerTo (looks_up n) = LookedUp
AnswerTo (opens n len checking code) = Answer
AnswerTo (creates n f checking) = Created
AnswerTo (reads a h b) = Answer × List ℕ
AnswerTo (reads_sector h k) = Part
AnswerTo (writes a m h b) = Answer
AnswerTo (allots h k) = Answer
AnswerTo (trims h) = Answer
AnswerTo (kills h) = Answer
AnswerTo (lists i) = Listed
AnswerTo counts = Counts
AnswerTo measures = Space

-- the refusal in it
abbrev pub refusal_in : (c : Call) → AnswerTo c → Refusal
refusal_in checks r = r
refusal_in (looks_up n) r = r.refusal
refusal_in (opens n len checking code) r = r.refusal
refusal_in (creates n f checking) r = r.refusal
refusal_in (reads a h b) r = r.0.refusal
refusal_in (reads_sector h k) r = r.refusal
refusal_in (writes a m h b) r = r.refusal
refusal_in (allots h k) r = r.refusal
refusal_in (trims h) r = r.refusal
refusal_in (kills h) r = r.refusal
refusal_in (lists i) r = r.refusal
refusal_in counts r = r.refusal
refusal_in measures r = r.refusal

-- what it hands back, and the image that it leaves: those that only look leave it as it is
abbrev pub does : Geometry → List ℕ → (c : Call) → AnswerTo c × List ℕ
does g d checks = (check g d, d)
does g d (looks_up n) = (look_up g d n, d)
does g d (opens n len checking code) = (open' g d n len checking code, d)
does g d (creates n f checking) = create g d n f checking
does g d (reads a h b) = (read_of g d h (how_many a h.len b) b, d)
does g d (reads_sector h k) = (read_sector g d h k, d)
does g d (writes a m h b) = write_of g d m h (how_many a h.len b) b
does g d (allots h k) = allot g d h k
does g d (trims h) = trim g d h
does g d (kills h) = kill g d h
does g d (lists i) = (Listing.list g d i, d)
does g d counts = (Listing.counts g d, d)
does g d measures = (free_space g d, d)

-- the number that it answers, 0 where it is accepted
unfoldable pub number : Geometry → List ℕ → Call → ℕ
number g d c = (refusal_in c (does g d c).0).number

-- the image that it leaves
unfoldable pub leaves : Geometry → List ℕ → Call → List ℕ
leaves g d c = (does g d c).1
