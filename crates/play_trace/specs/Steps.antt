-- A call of the trace as six numbers, and as a step.
-- 02 §6: "Then calls of 56 bits: operation 3, file number 5, position 24, length 9, fill byte 8, zero 7. Each call in the trace is one of seven,
-- with its own numbers: 1 create, 2 sequential write of the fill byte, 3 random write, 4 allot (position is the sector), 5 trim, 6 kill, 7 read.
-- Operation 0, also 56 bits, ends it .. Create uses file number and length; writes and read use position and length, the writes the fill byte
-- too. Fields a call doesn't use must be zero, and a file number must be below the number of names."
use Rattle.std.specs.Prelude.{Bool, true, false, not, cond, List, [], ◌∷◌, ℕ, eqb, ltb}
use Rattle.meaning.specs.Lists.{has}
use Rattle.play_trace.specs.declared.Call.{Call}
use Rattle.play_trace.specs.declared.Call.TheVariants.{Create, SequentialWrite, RandomWrite, Allot, Trim, Kill, Read}
use Rattle.play_trace.specs.declared.Step.{Step}
use Rattle.play_trace.specs.declared.Numbers.{Numbers}

pub data Field : Type 0 where
  the_operation the_file the_position the_length the_fill the_zero : Field

-- in reading order
abbrev pub fields : List Field
fields = the_operation ∷ the_file ∷ the_position ∷ the_length ∷ the_fill ∷ the_zero ∷ []

-- how many bits a field has, and where in its call it starts
abbrev pub width_of : Field → ℕ
width_of the_operation = 3
width_of the_file = 5
width_of the_position = 24
width_of the_length = 9
width_of the_fill = 8
width_of the_zero = 7

abbrev pub start_of : Field → ℕ
start_of the_operation = 0
start_of the_file = 3
start_of the_position = 8
start_of the_length = 32
start_of the_fill = 41
start_of the_zero = 49

-- the number in a field
abbrev pub value_of : Numbers → Field → ℕ
value_of m the_operation = m.operation
value_of m the_file = m.file
value_of m the_position = m.position
value_of m the_length = m.length
value_of m the_fill = m.fill
value_of m the_zero = m.zero

-- which operations use which field. Every call has an operation and a file number; the end mark uses nothing but its operation.
unfoldable pub uses : ℕ → Field → Bool
uses op the_operation = true
uses op the_file = not (eqb op 0)
uses op the_position = has (2 ∷ 3 ∷ 4 ∷ 7 ∷ []) op
uses op the_length = has (1 ∷ 2 ∷ 3 ∷ 7 ∷ []) op
uses op the_fill = has (2 ∷ 3 ∷ []) op
uses op the_zero = false

-- a field that is used may hold any number, but a file number must be below the number of names, n
unfoldable pub allowed : ℕ → Field → ℕ → Bool
allowed n the_operation v = true
allowed n the_file v = ltb v n
allowed n the_position v = true
allowed n the_length v = true
allowed n the_fill v = true
allowed n the_zero v = true

-- a field is good: used and allowed, or not used and zero
unfoldable pub good : ℕ → Numbers → Field → Bool
good n m f = cond (uses m.operation f) (allowed n f (value_of m f)) (eqb (value_of m f) 0)

-- where the first bad one of these fields starts, 56 where all are good
unfoldable pub first_bad : ℕ → Numbers → List Field → ℕ
first_bad n m [] = 56
first_bad n m (f ∷ fs) = cond (good n m f) (first_bad n m fs) (start_of f)

-- the numbers of a step: each case's operation, and its values in the fields that it uses
abbrev pub numbers_for : ℕ → Call → Numbers
numbers_for k (Create a) = record { operation = 1; file = k; position = 0; length = a.length; fill = 0; zero = 0 }
numbers_for k (SequentialWrite a) = record { operation = 2; file = k; position = a.position; length = a.length; fill = a.fill; zero = 0 }
numbers_for k (RandomWrite a) = record { operation = 3; file = k; position = a.position; length = a.length; fill = a.fill; zero = 0 }
numbers_for k (Allot a) = record { operation = 4; file = k; position = a.sector; length = 0; fill = 0; zero = 0 }
numbers_for k Trim = record { operation = 5; file = k; position = 0; length = 0; fill = 0; zero = 0 }
numbers_for k Kill = record { operation = 6; file = k; position = 0; length = 0; fill = 0; zero = 0 }
numbers_for k (Read a) = record { operation = 7; file = k; position = a.position; length = a.length; fill = 0; zero = 0 }

abbrev pub numbers_of : Step → Numbers
numbers_of s = numbers_for s.file s.call

-- those of the end mark
abbrev pub end_mark : Numbers
end_mark = record { operation = 0; file = 0; position = 0; length = 0; fill = 0; zero = 0 }

-- the call of an operation from 1 to 7 (no other is asked for)
unfoldable pub call_of : Numbers → Call
call_of m =
    cond (eqb m.operation 1) (Create (record { length = m.length }))
    (cond (eqb m.operation 2) (SequentialWrite (record { position = m.position; length = m.length; fill = m.fill }))
    (cond (eqb m.operation 3) (RandomWrite (record { position = m.position; length = m.length; fill = m.fill }))
    (cond (eqb m.operation 4) (Allot (record { sector = m.position }))
    (cond (eqb m.operation 5) Trim
    (cond (eqb m.operation 6) Kill
    (Read (record { position = m.position; length = m.length })))))))

abbrev pub step_of : Numbers → Step
step_of m = record { file = m.file; call = call_of m }

-- what stands past the last step of a list
abbrev pub no_step : Step
no_step = record { file = 0; call = Trim }
