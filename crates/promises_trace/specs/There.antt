-- What was packed is read: names and steps in range come back, whatever follows them.
use Rattle.std.specs.Prelude.{◌≡◌, refl, List, [], ◌∷◌, ◌++◌, ℕ, zero, suc, ◌+◌, ◌*◌, ◌-◌, ◌/◌, ◌^◌, ◌≤◌, ◌<◌, length}
use Rattle.std.proofs.Common.{sym, ap, ◌∙◌, append_assoc, arith, length-append}
use Rattle.laws.specs.Bytes.{Small, bytes_small, small-rest}
use Rattle.play_trace.specs.Bits.{bits_of, bits, field, length-bits_of, length-bits, there_and_back, field-front, field_past}
use Rattle.play_trace.specs.Steps.{Field, the_operation, the_file, the_position, the_length, the_fill, the_zero, fields, width_of, value_of, first_bad}
use Rattle.play_trace.specs.Steps.{numbers_for}
use Rattle.play_trace.specs.Steps.{numbers_of, end_mark, step_of}
use Rattle.play_trace.specs.Reading.{Trace, Reading, reads, bad_at, on_read, fields_from, names_from, call_start, numbers_at, read_calls, read_bits}
use Rattle.play_trace.specs.Reading.{whole_calls}
use Rattle.play_trace.specs.Packing.{call_bits, steps_bits, names_bits, pack_bits, AreNames, StepFits, StepsFit, TraceFits, IsReading}
use Rattle.play_trace.specs.declared.Step.{Step}
use Rattle.play_trace.specs.declared.Numbers.{Numbers}
use Rattle.play_trace.proofs.Calls.{calls-end, calls-on}
use Rattle.play_trace.proofs.Front.{NamesThere, with_names, bits-calls}
use Rattle.promises_trace.specs.Call.{length-call_bits, found-again, step_back, step-good, step-no-end, end-good, end_fits}

-- the calls
pub length-steps : (ss : List Step) → length (steps_bits ss) ≡ 56 * (length ss + 1)
unfolding steps_bits
length-steps [] = length-call_bits end_mark
length-steps (s ∷ ss) = simp (length-append, length-call_bits, length-steps ss) (omega arith)

pub calls-there : (ss : List Step) (pre later : List ℕ) (n i k : ℕ) → length pre ≡ call_start n i → StepsFit n ss
    → read_calls (pre ++ (steps_bits ss ++ later)) n (suc (length ss) + k) i ≡ reads ss
unfolding steps_bits
calls-there [] pre later n i k l h =
    let e : numbers_at (pre ++ (call_bits end_mark ++ later)) (call_start n i) ≡ end_mark = found-again end_mark end_fits pre later (call_start n i) l in
    let z : 1 + k ≡ suc k = omega arith in
    ap (λ (x : ℕ). read_calls (pre ++ (call_bits end_mark ++ later)) n x i) z
    ∙ calls-end (pre ++ (call_bits end_mark ++ later)) n k i
    (omega (arith, ap (λ (m : Numbers). first_bad n m fields) e, end-good n)) (ap (λ (m : Numbers). m.operation) e)
calls-there (s ∷ ss) pre later n i k l h =
    let m = numbers_of s in
    let b = pre ++ ((call_bits m ++ steps_bits ss) ++ later) in
    let c : b ≡ pre ++ (call_bits m ++ (steps_bits ss ++ later)) = ap (λ (x : List ℕ). pre ++ x) (append_assoc (call_bits m) (steps_bits ss) later) in
    let e : numbers_at b (call_start n i) ≡ m = ap (λ (x : List ℕ). numbers_at x (call_start n i)) c ∙ found-again m h.0.fits pre (steps_bits ss ++ later)
    (call_start n i) l in
    let d : b ≡ (pre ++ call_bits m) ++ (steps_bits ss ++ later) = c ∙ sym (append_assoc pre (call_bits m) (steps_bits ss ++ later)) in
    let g : length (pre ++ call_bits m) ≡ call_start n (i + 1) = length-append pre (call_bits m) ∙ omega (arith, l, length-call_bits m) in
    let ih = calls-there ss (pre ++ call_bits m) later n (i + 1) k g h.1 in
    let z : suc (suc (length ss)) + k ≡ suc (suc (length ss) + k) = omega arith in
    let f : 56 ≤ first_bad n (numbers_at b (call_start n i)) fields = omega
    (arith, ap (λ (m : Numbers). first_bad n m fields) e, step-good n s.file s.call h.0.file) in
    ap (λ (x : ℕ). read_calls b n x i) z
    ∙ calls-on b n (suc (length ss) + k) i f (λ q. step-no-end s.file s.call (sym (ap (λ (m : Numbers). m.operation) e) ∙ q))
    ∙ (λ j. on_read (λ ss. step_of (e j) ∷ ss) (read_calls (d j) n (suc (length ss) + k) (i + 1)))
    ∙ ap (on_read (λ ss. step_of m ∷ ss)) ih
    ∙ ap (λ (x : Step). reads (x ∷ ss)) (step_back s)

-- the names
field_at : (a r : List ℕ) (n w : ℕ) → length a ≡ n → field (a ++ r) n w ≡ field r 0 w
field_at a r n w l = let z : n ≡ n + 0 = omega arith in ap (λ (x : ℕ). field (a ++ r) x w) z ∙ field_past a r n 0 w l

bytes-there : (x pre later : List ℕ) (p : ℕ) → length pre ≡ p → Small x → fields_from (pre ++ (bits x ++ later)) p 8 (length x) ≡ x
unfolding fields_from bits
bytes-there [] pre later p l h = refl
bytes-there (b ∷ x) pre later p l h =
    let c : pre ++ ((bits_of 8 b ++ bits x) ++ later) ≡ pre ++ (bits_of 8 b ++ (bits x ++ later)) = ap (λ (y : List ℕ). pre ++ y)
    (append_assoc (bits_of 8 b) (bits x) later) in
    let d : pre ++ ((bits_of 8 b ++ bits x) ++ later) ≡ (pre ++ bits_of 8 b) ++ (bits x ++ later) = c
    ∙ sym (append_assoc pre (bits_of 8 b) (bits x ++ later)) in
    let f : field (pre ++ ((bits_of 8 b ++ bits x) ++ later)) p 8 ≡ b
    = ap (λ (y : List ℕ). field y p 8) c ∙ field_at pre _ p 8 l ∙ field-front (bits_of 8 b) _ 8 (length-bits_of 8 b) ∙ there_and_back 8 b (h.below 0) in
    let g : length (pre ++ bits_of 8 b) ≡ p + 8 = length-append pre (bits_of 8 b) ∙ omega (arith, length-bits_of 8 b) in
    let r = ap (λ (y : List ℕ). fields_from y (p + 8) 8 (length x)) d ∙ bytes-there x (pre ++ bits_of 8 b) later (p + 8) g (small-rest h) in
    λ i. f i ∷ r i

pub length-names_bits : (ns : List (List ℕ)) → AreNames ns → length (names_bits ns) ≡ 88 * length ns
unfolding names_bits
length-names_bits [] h = refl
length-names_bits (x ∷ ns) h = length-append (bits x) (names_bits ns) ∙ omega (arith, length-bits x, h.0, length-names_bits ns h.2)

pub names-there : (ns : List (List ℕ)) (pre later : List ℕ) (p : ℕ) → length pre ≡ p → AreNames ns → names_from (pre ++ (names_bits ns ++ later)) p (length ns)
    ≡ ns
unfolding names_from names_bits
names-there [] pre later p l h = refl
names-there (x ∷ ns) pre later p l h =
    let c : pre ++ ((bits x ++ names_bits ns) ++ later) ≡ pre ++ (bits x ++ (names_bits ns ++ later)) = ap (λ (y : List ℕ). pre ++ y)
    (append_assoc (bits x) (names_bits ns) later) in
    let d : pre ++ ((bits x ++ names_bits ns) ++ later) ≡ (pre ++ bits x) ++ (names_bits ns ++ later) = c ∙ sym
    (append_assoc pre (bits x) (names_bits ns ++ later)) in
    let f : fields_from (pre ++ ((bits x ++ names_bits ns) ++ later)) p 8 11 ≡ x
    = (λ i. fields_from (c i) p 8 (sym h.0 i)) ∙ bytes-there x pre (names_bits ns ++ later) p l (bytes_small x h.1) in
    let g : length (pre ++ bits x) ≡ p + 88 = length-append pre (bits x) ∙ omega (arith, length-bits x, h.0) in
    let r = ap (λ (y : List ℕ). names_from y (p + 88) (length ns)) d ∙ names-there ns (pre ++ bits x) later (p + 88) g h.2 in
    λ i. f i ∷ r i

-- the whole
pub complete : (t : Trace) (later : List ℕ) → TraceFits t → read_bits (pack_bits t ++ later) ≡ reads t
unfolding pack_bits
complete t later h =
    let ns = t.names in
    let ss = t.steps in
    let n = length ns in
    let bs = (bits_of 8 n ++ (names_bits ns ++ steps_bits ss)) ++ later in
    let c : bs ≡ bits_of 8 n ++ (names_bits ns ++ (steps_bits ss ++ later))
    = append_assoc (bits_of 8 n) (names_bits ns ++ steps_bits ss) later
    ∙ ap (λ (x : List ℕ). bits_of 8 n ++ x) (append_assoc (names_bits ns) (steps_bits ss) later)
    in
    let d : bs ≡ (bits_of 8 n ++ names_bits ns) ++ (steps_bits ss ++ later) = c ∙ sym (append_assoc (bits_of 8 n) (names_bits ns) (steps_bits ss ++ later)) in
    let l : length (bits_of 8 n ++ names_bits ns) ≡ call_start n 0
    = length-append (bits_of 8 n) (names_bits ns) ∙ omega (arith, length-bits_of 8 n, length-names_bits ns h.names) in
    let w : length bs ≡ call_start n 0 + (56 * (length ss + 1) + length later)
    = ap length d ∙ length-append (bits_of 8 n ++ names_bits ns) (steps_bits ss ++ later)
    ∙ omega (arith, l, length-append (steps_bits ss) later, length-steps ss)
    in
    let f : field bs 0 8 ≡ n
    = ap (λ (x : List ℕ). field x 0 8) c ∙ field-front (bits_of 8 n) _ 8 (length-bits_of 8 n) ∙ there_and_back 8 n (omega (arith, h.few)) in
    let o : NamesThere bs n = record { counted = omega (arith, w); count = f; some = h.some; few = h.few; there = omega (arith, w) } in
    let k : whole_calls bs n ≡ suc (length ss) + (whole_calls bs n - suc (length ss)) = enough n (length ss) (length later) (length bs) w in
    let a : names_from bs 8 n ≡ ns = ap (λ (x : List ℕ). names_from x 8 n) c ∙ names-there ns (bits_of 8 n) (steps_bits ss ++ later) 8 (length-bits_of 8 n)
    h.names in
    let b : read_calls bs n (whole_calls bs n) 0 ≡ reads ss
    = (λ i. read_calls (d i) n (k i) 0) ∙ calls-there ss (bits_of 8 n ++ names_bits ns) later n 0 (whole_calls bs n - suc (length ss)) l h.steps in
    bits-calls bs o ∙ (λ i. on_read (with_names (a i)) (b i))
  where
    enough : (n s r w : ℕ) → w ≡ call_start n 0 + (56 * (s + 1) + r) → (w - call_start n 0) / 56 ≡ suc s + ((w - call_start n 0) / 56 - suc s)
    enough n s r w e = let q : suc s ≤ (w - call_start n 0) / 56 = omega arith in omega arith
