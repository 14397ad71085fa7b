-- What is promised of a trace, for every list of bytes.
--
-- A reading of a trace is names and steps in range whose packed bytes are the trace's beginning (TraceReads). Then:
--   read-packed, later-not-read   what was packed is read, whatever follows it
--   reads-if, reads-only-if       reading gives names and steps exactly if they are a reading
--   at_most_one                   there is at most one
--   refused-if, refused-only-if   a trace is bad exactly if it has no reading
--   place-if, place-only-if       the place told is that of the first fault (First.antt), and no other place is
use Rattle.std.specs.Prelude.{◌≡◌, refl, Bool, true, false, List, [], ◌∷◌, ◌++◌, ℕ, zero, suc, ◌+◌, ◌*◌, ◌-◌, ◌/◌, ◌%◌, ◌≤◌, ◌<◌, length, take, drop, get_or}
use Rattle.std.proofs.Common.{sym, ap, subst, ◌∙◌, append-nil, arith, length-append, length-drop, take-append-drop, take_at, drop_at}
use Rattle.std.proofs.lemmas.List.{take-append-le, drop-append-le}
use Rattle.promises_words.specs.Given.{AreBytes}
use Rattle.laws.specs.Bytes.{Small, bytes_small, small-rest}
use Rattle.play_trace.specs.Bits.{bits_of, number, bits, bytes_of, AreBits, length-bits_of, length-bits, bits-append, bits-bits, bits-join, bits-bits_of}
use Rattle.play_trace.specs.Bits.{bits-bytes_of, there_and_back}
use Rattle.play_trace.specs.Steps.{Field, fields, width_of, value_of, numbers_of, end_mark, no_step}
use Rattle.play_trace.specs.Reading.{Trace, Reading, reads, bad_at, read_bits, read_trace, well_with, fault_at, tell, steps_of, names_of}
use Rattle.play_trace.specs.Packing.{field_bits, call_bits, steps_bits, names_bits, pack_bits, pack, AreNames, StepFits, StepsFit, TraceFits, IsReading}
use Rattle.play_trace.specs.declared.Step.{Step}
use Rattle.play_trace.specs.declared.Numbers.{Numbers}
use Rattle.play_trace.proofs.Found.{bad-reads}
use Rattle.promises_trace.specs.Call.{length-call_bits}
use Rattle.promises_trace.specs.There.{length-steps, length-names_bits, complete}
use Rattle.promises_trace.specs.Back.{sound}
use Rattle.promises_trace.specs.First.{FirstFault, told-first, first-told}

-- names and steps in range, of which the trace's bytes are the packed ones and any others behind them
pub record TraceReads (d : List ℕ) (t : Trace) : Type 0 where
  pub in_range : TraceFits t
  pub later : List ℕ
  pub begins : d ≡ pack t ++ later

-- Bits and bytes of what was packed.

bits-fields : (m : Numbers) (fs : List Field) → AreBits (field_bits m fs)
unfolding field_bits
bits-fields m [] = tt
bits-fields m (f ∷ fs) = bits-join (bits_of (width_of f) (value_of m f)) (field_bits m fs) (bits-bits_of (width_of f) (value_of m f)) (bits-fields m fs)

bits-steps : (ss : List Step) → AreBits (steps_bits ss)
unfolding steps_bits
bits-steps [] = bits-fields end_mark fields
bits-steps (s ∷ ss) = bits-join (call_bits (numbers_of s)) (steps_bits ss) (bits-fields (numbers_of s) fields) (bits-steps ss)

bits-names : (ns : List (List ℕ)) → AreBits (names_bits ns)
unfolding names_bits
bits-names [] = tt
bits-names (x ∷ ns) = bits-join (bits x) (names_bits ns) (bits-bits x) (bits-names ns)

bits-pack : (t : Trace) → AreBits (pack_bits t)
unfolding pack_bits
bits-pack t =
    bits-join (bits_of 8 (length t.names)) (names_bits t.names ++ steps_bits t.steps) (bits-bits_of 8 (length t.names))
    (bits-join (names_bits t.names) (steps_bits t.steps) (bits-names t.names) (bits-steps t.steps))

-- so many bytes: one, eleven a name, seven a call and seven for the end mark
pub length-pack_bits : (t : Trace) → TraceFits t → length (pack_bits t) ≡ 8 * (1 + 11 * length t.names + 7 * (length t.steps + 1))
unfolding pack_bits
length-pack_bits t h =
    length-append (bits_of 8 (length t.names)) (names_bits t.names ++ steps_bits t.steps)
    ∙ omega (
      arith,
      length-bits_of 8 (length t.names),
      length-append (names_bits t.names) (steps_bits t.steps),
      length-names_bits t.names h.names,
      length-steps t.steps,
    )

whole-bytes : (t : Trace) → TraceFits t → length (pack_bits t) ≡ 8 * (length (pack_bits t) / 8)
whole-bytes t h = let e = length-pack_bits t h in omega arith

pub bits-of-pack : (t : Trace) → TraceFits t → bits (pack t) ≡ pack_bits t
unfolding pack
bits-of-pack t h = bits-bytes_of (length (pack_bits t) / 8) (pack_bits t) (whole-bytes t h) (bits-pack t)

-- What was packed is read, whatever follows it.

pub later-not-read : (t : Trace) (later : List ℕ) → TraceFits t → read_trace (pack t ++ later) ≡ reads t
unfolding read_trace
later-not-read t later h = ap read_bits (bits-append (pack t) later ∙ ap (λ (x : List ℕ). x ++ bits later) (bits-of-pack t h)) ∙ complete t (bits later) h

pub read-packed : (t : Trace) → TraceFits t → read_trace (pack t) ≡ reads t
unfolding read_trace
read-packed t h = ap read_bits (bits-of-pack t h ∙ sym (append-nil (pack_bits t))) ∙ complete t [] h

-- What is read is a reading.

bytes-front : (n : ℕ) (a r : List ℕ) → length a ≡ 8 * n → bytes_of n (a ++ r) ≡ bytes_of n a
unfolding bytes_of
bytes-front zero a r l = refl
bytes-front (suc n) a r l =
    let t : take 8 (a ++ r) ≡ take 8 a = take-append-le 8 a r (omega arith) in
    let e : drop 8 (a ++ r) ≡ drop 8 a ++ r = drop-append-le 8 a r (omega arith) in
    let k : length (drop 8 a) ≡ 8 * n = length-drop 8 a ∙ omega arith in
    (λ i. number (t i) ∷ bytes_of n (e i)) ∙ ap (λ (x : List ℕ). number (take 8 a) ∷ x) (bytes-front n (drop 8 a) r k)

bytes_take : (n : ℕ) (d : List ℕ) → n ≤ length d → Small d → bytes_of n (bits d) ≡ take n d
unfolding bytes_of bits
bytes_take zero d l h = refl
bytes_take (suc n) [] l h = absurd (let q : ⊥ = omega arith in q)
bytes_take (suc n) (b ∷ d) l h =
    let t : take 8 (bits_of 8 b ++ bits d) ≡ bits_of 8 b = take_at (bits_of 8 b) (bits d) 8 (length-bits_of 8 b) in
    let r : drop 8 (bits_of 8 b ++ bits d) ≡ bits d = drop_at (bits_of 8 b) (bits d) 8 (length-bits_of 8 b) in
    (λ i. number (t i) ∷ bytes_of n (r i)) ∙ (λ i. there_and_back 8 b (h.below 0) i ∷ bytes_take n d (omega arith) (small-rest h) i)

pub reads-only-if : (d : List ℕ) (t : Trace) → AreBytes d → read_trace d ≡ reads t → TraceReads d t
unfolding read_trace pack
reads-only-if d t h e =
    let r = sound (bits d) (bits-bits d) t e in
    let n = length (pack_bits t) / 8 in
    let w = whole-bytes t r.in_range in
    let l : n ≤ length d = omega (arith, length-bits d, ap length r.begins, length-append (pack_bits t) r.later) in
    let p : take n d ≡ bytes_of n (pack_bits t)
    = sym (bytes_take n d l (bytes_small d h)) ∙ ap (bytes_of n) r.begins ∙ bytes-front n (pack_bits t) r.later w in
    record { in_range = r.in_range; later = drop n d; begins = sym (take-append-drop n d) ∙ ap (λ (x : List ℕ). x ++ drop n d) p }

pub reads-if : (d : List ℕ) (t : Trace) → TraceReads d t → read_trace d ≡ reads t
reads-if d t r = ap read_trace r.begins ∙ later-not-read t r.later r.in_range

-- There is at most one.

same_reads : {t u : Trace} → reads t ≡ reads u → t ≡ u
same_reads e = cc

pub at_most_one : (d : List ℕ) (t u : Trace) → TraceReads d t → TraceReads d u → t ≡ u
at_most_one d t u a b = same_reads (sym (reads-if d t a) ∙ reads-if d u b)

-- A trace is bad exactly if it has none.

pub refused-only-if : (d : List ℕ) (p : ℕ) → read_trace d ≡ bad_at p → (t : Trace) → TraceReads d t → ⊥
refused-only-if d p e t r = bad-reads (sym e ∙ reads-if d t r)

pub refused-if : (d : List ℕ) → AreBytes d → ((t : Trace) → TraceReads d t → ⊥) → (p : ℕ) × (read_trace d ≡ bad_at p)
refused-if d h none = by (read_trace d) refl
  where
    by : (r : Reading Trace) → read_trace d ≡ r → (p : ℕ) × (read_trace d ≡ bad_at p)
    by (reads t) e = absurd (none t (reads-only-if d t h e))
    by (bad_at p) e = (p, e)

-- The place told is that of the first fault.

pub place-only-if : (d : List ℕ) (p : ℕ) → read_trace d ≡ bad_at p → FirstFault (bits d) p
unfolding read_trace
place-only-if d p e = told-first (bits d) p e

pub place-if : (d : List ℕ) (p : ℕ) → FirstFault (bits d) p → read_trace d ≡ bad_at p
unfolding read_trace
place-if d p f = first-told (bits d) p f

-- a trace has one first fault at most
same_place : {p q : ℕ} → ◌≡◌ {A = Reading Trace} (bad_at p) (bad_at q) → p ≡ q
same_place e = cc

pub one_place : (d : List ℕ) (p q : ℕ) → FirstFault (bits d) p → FirstFault (bits d) q → p ≡ q
one_place d p q a b = same_place (sym (place-if d p a) ∙ place-if d q b)

-- What the check tells.

-- byte and bit make the place
pub place-told : (p : ℕ) → 8 * (fault_at p).byte + (fault_at p).bit ≡ p
place-told p = omega arith

pub bit-small : (p : ℕ) → (fault_at p).bit < 8
bit-small p = omega arith

-- the number of calls is that of the steps, 0 for a bad trace: an i below it is what `step_at` asks
pub calls-told : (r : Reading Trace) → (tell r).calls ≡ length (steps_of r)
unfolding tell
calls-told (reads t) = refl
calls-told (bad_at p) = refl

pub well-told : (r : Reading Trace) → (tell r).well ≡ true → (t : Trace) × (r ≡ reads t)
unfolding tell
well-told (reads t) e = (t, refl)
well-told (bad_at p) e = absurd (no-well e)
  where
    num : Bool → ℕ
    num true = 1
    num false = 0

    no-well : false ≡ true → ⊥
    no-well e = let z : ◌≡◌ {A = ℕ} 0 1 = ap num e in omega arith

-- room for so many results is always enough: seven bytes of the trace a call
pub room : (d : List ℕ) (t : Trace) → read_trace d ≡ reads t → 7 * length t.steps ≤ length d
unfolding read_trace
room d t e =
    let r = sound (bits d) (bits-bits d) t e in
    omega (arith, length-bits d, ap length r.begins, length-append (pack_bits t) r.later, length-pack_bits t r.in_range)

-- each step of a reading fits: its numbers their fields, and its file number is that of a name
step_in : (n i : ℕ) (ss : List Step) → StepsFit n ss → i < length ss → StepFits n (get_or ss i no_step)
step_in n i [] h l = absurd (let q : ⊥ = omega arith in q)
step_in n zero (s ∷ ss) h l = h.0
step_in n (suc i) (s ∷ ss) h l = step_in n i ss h.1 (omega arith)

pub in-range : (d : List ℕ) (t : Trace) → read_trace d ≡ reads t → TraceFits t
unfolding read_trace
in-range d t e = (sound (bits d) (bits-bits d) t e).in_range

pub step_fits : (d : List ℕ) (i : ℕ) → i < length (steps_of (read_trace d))
    → StepFits (length (names_of (read_trace d))) (get_or (steps_of (read_trace d)) i no_step)
step_fits d i h = by (read_trace d) refl h
  where
    by : (r : Reading Trace) → read_trace d ≡ r → i < length (steps_of r) → StepFits (length (names_of r)) (get_or (steps_of r) i no_step)
    by (bad_at p) e h = absurd (let q : ⊥ = omega arith in q)
    by (reads t) e h = step_in (length t.names) i t.steps (in-range d t e).steps h
