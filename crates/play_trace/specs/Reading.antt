-- What a trace reads as: its names and steps, or the first bad place, as a bit.
-- 02 §6: "The trace is packed in bits, most significant first. First 8 bits: the number of names, 1 to 32, then 11 bytes for each. Then calls of
-- 56 bits .. Operation 0, also 56 bits, ends it; later bytes aren't read. .. A trace that is bad, or ends without operation 0, is refused before
-- anything runs; a cut-off call's fields aren't judged. Refusals: 14, trace malformed, with the position of the first bit of the first bad field,
-- or the trace's length in bits if it breaks off".
use Rattle.std.specs.Prelude.{true, false, cond, List, [], ◌∷◌, ℕ, zero, suc, ◌+◌, ◌*◌, ◌-◌, ◌/◌, ◌%◌, eqb, ltb, length}
use Rattle.play_trace.specs.Bits.{bits, field}
use Rattle.play_trace.specs.Steps.{Field, the_operation, the_file, the_position, the_length, the_fill, the_zero, fields, width_of, start_of, first_bad, step_of}
use Rattle.play_trace.specs.declared.Step.{Step}
use Rattle.play_trace.specs.declared.Numbers.{Numbers}
use Rattle.play_trace.specs.declared.Checked.{Checked}

pub record Trace : Type 0 where
  pub names : List (List ℕ)
  pub steps : List Step

-- what reading gives: a value, or the bit where the first fault stands
pub data Reading (A : Type 0) : Type 0 where
  reads : A → Reading A
  bad_at : ℕ → Reading A

abbrev pub on_read : {A B : Type 0} → (A → B) → Reading A → Reading B
on_read g (reads a) = reads (g a)
on_read g (bad_at p) = bad_at p

-- m fields of w bits each, from bit p on
unfoldable pub fields_from : List ℕ → ℕ → ℕ → ℕ → List ℕ
fields_from bs p w zero = []
fields_from bs p w (suc m) = field bs p w ∷ fields_from bs (p + w) w m

-- n names of 11 bytes each, from bit p on
unfoldable pub names_from : List ℕ → ℕ → ℕ → List (List ℕ)
names_from bs p zero = []
names_from bs p (suc n) = fields_from bs p 8 11 ∷ names_from bs (p + 88) n

-- the first bit of call i, behind n names
abbrev pub call_start : ℕ → ℕ → ℕ
call_start n i = 8 + 88 * n + 56 * i

-- the number in a field of the call that starts at bit p
abbrev pub value_at : List ℕ → ℕ → Field → ℕ
value_at bs p f = field bs (p + start_of f) (width_of f)

-- its six numbers
unfoldable pub numbers_at : List ℕ → ℕ → Numbers
numbers_at bs p =
    record {
      operation = value_at bs p the_operation;
      file = value_at bs p the_file;
      position = value_at bs p the_position;
      length = value_at bs p the_length;
      fill = value_at bs p the_fill;
      zero = value_at bs p the_zero;
    }

-- The steps from call i on, where k calls are whole: the first bad field of a call, the end mark, or a step and those behind it.
-- Where no whole call is left the trace breaks off.
unfoldable pub read_calls : List ℕ → ℕ → ℕ → ℕ → Reading (List Step)
read_calls bs n zero i = bad_at (length bs)
read_calls bs n (suc k) i =
    let m = numbers_at bs (call_start n i) in
    let o = first_bad n m fields in
    let rest = read_calls bs n k (i + 1) in
    cond (ltb o 56) (bad_at (call_start n i + o))
    (cond (eqb m.operation 0) (reads []) (on_read (λ ss. step_of m ∷ ss) rest))

-- how many calls behind n names are whole
abbrev pub whole_calls : List ℕ → ℕ → ℕ
whole_calls bs n = (length bs - call_start n 0) / 56

unfoldable pub read_bits : List ℕ → Reading Trace
read_bits bs =
    let n = field bs 0 8 in
    let calls = read_calls bs n (whole_calls bs n) 0 in
    cond (ltb (length bs) 8) (bad_at (length bs))
    (cond (ltb n 1) (bad_at 0)
    (cond (ltb 32 n) (bad_at 0)
    (cond (ltb (length bs) (call_start n 0)) (bad_at (length bs))
    (on_read (λ ss. record { names = names_from bs 8 n; steps = ss }) calls))))

unfoldable pub read_trace : List ℕ → Reading Trace
read_trace d = read_bits (bits d)

-- what the check tells of a reading
abbrev pub well_with : ℕ → Checked
well_with n = record { well = true; calls = n; byte = 0; bit = 0 }

abbrev pub fault_at : ℕ → Checked
fault_at p = record { well = false; calls = 0; byte = p / 8; bit = p % 8 }

unfoldable pub tell : Reading Trace → Checked
tell (reads t) = well_with (length t.steps)
tell (bad_at p) = fault_at p

-- the same of the calls alone, c calls having gone before
unfoldable pub tell_from : ℕ → Reading (List Step) → Checked
tell_from c (reads ss) = well_with (c + length ss)
tell_from c (bad_at p) = fault_at p

unfoldable pub calls_told : List ℕ → ℕ → Checked
calls_told bs n = tell_from 0 (read_calls bs n (whole_calls bs n) 0)

-- the steps and the names of a reading, none where the trace is bad
abbrev pub steps_of : Reading Trace → List Step
steps_of (reads t) = t.steps
steps_of (bad_at p) = []

abbrev pub names_of : Reading Trace → List (List ℕ)
names_of (reads t) = t.names
names_of (bad_at p) = []
