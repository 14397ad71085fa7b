-- A trace made from names and steps; and what it is for a trace to have a reading.
use Rattle.std.specs.Prelude.{◌≡◌, List, [], ◌∷◌, ◌++◌, ℕ, ◌/◌, ◌^◌, ◌≤◌, ◌<◌, length}
use Rattle.promises_words.specs.Given.{AreBytes}
use Rattle.play_trace.specs.Bits.{bits_of, bits, bytes_of}
use Rattle.play_trace.specs.Steps.{Field, fields, width_of, value_of, numbers_of, end_mark}
use Rattle.play_trace.specs.Reading.{Trace}
use Rattle.play_trace.specs.declared.Step.{Step}
use Rattle.play_trace.specs.declared.Numbers.{Numbers}

-- the bits of some fields of a call, one after the other
unfoldable pub field_bits : Numbers → List Field → List ℕ
field_bits m [] = []
field_bits m (f ∷ fs) = bits_of (width_of f) (value_of m f) ++ field_bits m fs

-- of all: the 56 bits of a call
abbrev pub call_bits : Numbers → List ℕ
call_bits m = field_bits m fields

-- the calls, and the end mark behind them
unfoldable pub steps_bits : List Step → List ℕ
steps_bits [] = call_bits end_mark
steps_bits (s ∷ ss) = call_bits (numbers_of s) ++ steps_bits ss

unfoldable pub names_bits : List (List ℕ) → List ℕ
names_bits [] = []
names_bits (x ∷ ns) = bits x ++ names_bits ns

unfoldable pub pack_bits : Trace → List ℕ
pack_bits t = bits_of 8 (length t.names) ++ (names_bits t.names ++ steps_bits t.steps)

-- the bytes of a trace
unfoldable pub pack : Trace → List ℕ
pack t = bytes_of (length (pack_bits t) / 8) (pack_bits t)

-- names of 11 bytes each
abbrev pub AreNames : List (List ℕ) → Type 0
AreNames [] = Unit
AreNames (x ∷ ns) = (length x ≡ 11) × AreBytes x × AreNames ns

-- a step has a file number below n, and its numbers fit their fields
pub record StepFits (n : ℕ) (s : Step) : Type 0 where
  pub file : s.file < n
  pub fits : (f : Field) → value_of (numbers_of s) f < 2 ^ width_of f

abbrev pub StepsFit : ℕ → List Step → Type 0
StepsFit n [] = Unit
StepsFit n (s ∷ ss) = StepFits n s × StepsFit n ss

-- names and steps that a trace can hold
pub record TraceFits (t : Trace) : Type 0 where
  pub some : 1 ≤ length t.names
  pub few : length t.names ≤ 32
  pub names : AreNames t.names
  pub steps : StepsFit (length t.names) t.steps

-- A reading of bits: names and steps in range, of which the bits are the beginning. What comes behind is not read.
pub record IsReading (bs : List ℕ) (t : Trace) : Type 0 where
  pub in_range : TraceFits t
  pub later : List ℕ
  pub begins : bs ≡ pack_bits t ++ later
