-- One call: its 56 bits and its six numbers; its numbers and its step.
use Rattle.std.specs.Prelude.{◌≡◌, refl, Bool, true, false, not, cond, List, [], ◌∷◌, ◌++◌, eqb, ltb, take, drop}
use Rattle.std.proofs.Math.Path.{sym, ap}
use Rattle.std.proofs.Common.{◌∙◌, append_assoc, append-nil, length-append, take-add, drop-drop, eqb-true, ltb-true, lt-ltb, ne_eqb}
use Prim.Native.Nat.{ℕ, zero, suc, ◌+◌, ◌*◌, ◌^◌, ◌≤◌, ◌<◌}
use native.Mathlib.Omega.{arith}
use Rattle.std.proofs.Math.ListN.{length}
use Rattle.std.proofs.lemmas.Bool.{eqb-false}
use Rattle.play_trace.specs.Bits.{bits_of, number, field, AreBits, length-bits_of, there_and_back, field-front, field_past, field-small, field-bits}
use Rattle.play_trace.specs.Steps.{Field, the_operation, the_file, the_position, the_length, the_fill, the_zero, fields, width_of, start_of, value_of, uses}
use Rattle.play_trace.specs.Steps.{allowed}
use Rattle.play_trace.specs.Steps.{good, first_bad, numbers_for, numbers_of, end_mark, call_of, step_of}
use Rattle.play_trace.specs.Reading.{numbers_at}
use Rattle.play_trace.specs.Packing.{field_bits, call_bits}
use Rattle.play_trace.specs.declared.Call.{Call}
use Rattle.play_trace.specs.declared.Call.TheVariants.{Create, SequentialWrite, RandomWrite, Allot, Trim, Kill, Read}
use Rattle.play_trace.specs.declared.Step.{Step}
use Rattle.play_trace.specs.declared.Numbers.{Numbers}
use Rattle.play_trace.proofs.NumbersTell.{operation-is, pass, stop, step-1, step-2, step-3, step-4, step-5, step-6, step-7}
use Rattle.play_trace.proofs.Front.{Alike, alike, unlike, look}

-- each number fits its field
abbrev pub NumbersFit : Numbers → Type 0
NumbersFit m = (f : Field) → value_of m f < 2 ^ width_of f

-- Bits.

pub length-call_bits : (m : Numbers) → length (call_bits m) ≡ 56
unfolding field_bits
length-call_bits m = simp (length-append, length-bits_of)

front-field : (w v : ℕ) (r : List ℕ) → v < 2 ^ w → field (bits_of w v ++ r) 0 w ≡ v
front-field w v r h = field-front (bits_of w v) r w (length-bits_of w v) ∙ there_and_back w v h

past-field : (w v : ℕ) (r : List ℕ) (p u : ℕ) → field (bits_of w v ++ r) (w + p) u ≡ field r p u
past-field w v r p u = field_past (bits_of w v) r w p u (length-bits_of w v)

laid : (m : Numbers) (r : List ℕ)
    → call_bits m ++ r
    ≡ bits_of 3 m.operation ++ (bits_of 5 m.file ++
    (bits_of 24 m.position ++ (bits_of 9 m.length ++ (bits_of 8 m.fill ++ (bits_of 7 m.zero ++ r)))))
unfolding field_bits
laid m r = simp (append_assoc)

-- what was laid down is found again
pub found-again : (m : Numbers) → NumbersFit m → (pre r : List ℕ) (p : ℕ) → length pre ≡ p → numbers_at (pre ++ (call_bits m ++ r)) p ≡ m
unfolding numbers_at
found-again m h pre r p l =
    let g : (o w : ℕ) → field (pre ++ (call_bits m ++ r)) (p + o) w ≡ field
    (bits_of 3 m.operation ++ (bits_of 5 m.file ++
    (bits_of 24 m.position ++ (bits_of 9 m.length ++ (bits_of 8 m.fill ++ (bits_of 7 m.zero ++ r)))))) o w
    = λ o w. field_past pre (call_bits m ++ r) p o w l ∙ ap (λ (x : List ℕ). field x o w) (laid m r) in
    let p0 = g 0 3 ∙ front-field 3 m.operation _ (h the_operation) in
    let p1 = g 3 5 ∙ past-field 3 _ _ 0 5 ∙ front-field 5 m.file _ (h the_file) in
    let p2 = g 8 24 ∙ past-field 3 _ _ 5 24 ∙ past-field 5 _ _ 0 24 ∙ front-field 24 m.position _ (h the_position) in
    let p3 = g 32 9 ∙ past-field 3 _ _ 29 9 ∙ past-field 5 _ _ 24 9 ∙ past-field 24 _ _ 0 9 ∙ front-field 9 m.length _ (h the_length) in
    let p4 = g 41 8 ∙ past-field 3 _ _ 38 8 ∙ past-field 5 _ _ 33 8 ∙ past-field 24 _ _ 9 8 ∙ past-field 9 _ _ 0 8 ∙ front-field 8 m.fill _ (h the_fill) in
    let p5 = g 49 7 ∙ past-field 3 _ _ 46 7 ∙ past-field 5 _ _ 41 7 ∙ past-field 24 _ _ 17 7 ∙ past-field 9 _ _ 8 7 ∙ past-field 8 _ _ 0 7 ∙ front-field 7
    m.zero _ (h the_zero) in
    λ i. record { operation = p0 i; file = p1 i; position = p2 i; length = p3 i; fill = p4 i; zero = p5 i }

cutting : (l : List ℕ) (o w v : ℕ) → take (w + v) (drop o l) ≡ take w (drop o l) ++ take v (drop (o + w) l)
cutting l o w v = take-add w v (drop o l) ∙ ap (λ (x : List ℕ). take w (drop o l) ++ take v x) (drop-drop w o l)

-- 56 bits are those of the numbers that are read from them
pub are-those : (bs : List ℕ) (p : ℕ) → AreBits bs → p + 56 ≤ length bs → take 56 (drop p bs) ≡ call_bits (numbers_at bs p)
unfolding numbers_at field_bits
are-those bs p h l =
    let g : (o w : ℕ) → o + w ≤ 56 → take w (drop o (drop p bs)) ≡ bits_of w (field bs (p + o) w)
    = λ o w q. ap (λ (x : List ℕ). take w x) (drop-drop o p bs) ∙ sym (field-bits bs (p + o) w h (omega arith)) in
    let x = drop p bs in
    cutting x 0 3 53 ∙ (λ i. g 0 3 (omega arith) i ++ cutting x 3 5 48 i)
    ∙ (λ i. bits_of 3 (field bs (p + 0) 3) ++ (g 3 5 (omega arith) i ++ cutting x 8 24 24 i))
    ∙ (λ i. bits_of 3 (field bs (p + 0) 3) ++ (bits_of 5 (field bs (p + 3) 5) ++ (g 8 24 (omega arith) i ++ cutting x 32 9 15 i)))
    ∙ (λ i. bits_of 3 (field bs (p + 0) 3) ++ (bits_of 5 (field bs (p + 3) 5) ++
    (bits_of 24 (field bs (p + 8) 24) ++ (g 32 9 (omega arith) i ++ cutting x 41 8 7 i))))
    ∙ (λ i. bits_of 3 (field bs (p + 0) 3) ++ (bits_of 5 (field bs (p + 3) 5) ++
    (bits_of 24 (field bs (p + 8) 24) ++ (bits_of 9 (field bs (p + 32) 9) ++ (g 41 8 (omega arith) i ++ last i)))))
  where
    last : take 7 (drop 49 (drop p bs)) ≡ bits_of 7 (field bs (p + 49) 7) ++ []
    last = ap (λ (x : List ℕ). take 7 x) (drop-drop 49 p bs) ∙ sym (field-bits bs (p + 49) 7 h (omega arith)) ∙ sym (append-nil _)

-- A step and its numbers.

call_back : (k : ℕ) (c : Call) → call_of (numbers_for k c) ≡ c
unfolding call_of
call_back k (Create a) = refl
call_back k (SequentialWrite a) = refl
call_back k (RandomWrite a) = refl
call_back k (Allot a) = refl
call_back k Trim = refl
call_back k Kill = refl
call_back k (Read a) = refl

pub step_back : (s : Step) → step_of (numbers_of s) ≡ s
step_back s = λ i. record { file = file-back s.file s.call i; call = call_back s.file s.call i }
  where
    file-back : (k : ℕ) (c : Call) → (numbers_for k c).file ≡ k
    file-back k (Create a) = refl
    file-back k (SequentialWrite a) = refl
    file-back k (RandomWrite a) = refl
    file-back k (Allot a) = refl
    file-back k Trim = refl
    file-back k Kill = refl
    file-back k (Read a) = refl

-- the numbers of a step are good
pub step-good : (n k : ℕ) (c : Call) → k < n → first_bad n (numbers_for k c) fields ≡ 56
unfolding first_bad good uses allowed
step-good n k (Create a) h = rw (lt-ltb k n h)
step-good n k (SequentialWrite a) h = rw (lt-ltb k n h)
step-good n k (RandomWrite a) h = rw (lt-ltb k n h)
step-good n k (Allot a) h = rw (lt-ltb k n h)
step-good n k Trim h = rw (lt-ltb k n h)
step-good n k Kill h = rw (lt-ltb k n h)
step-good n k (Read a) h = rw (lt-ltb k n h)

pub step-no-end : (k : ℕ) (c : Call) → (numbers_for k c).operation ≡ 0 → ⊥
step-no-end k (Create a) e = omega arith
step-no-end k (SequentialWrite a) e = omega arith
step-no-end k (RandomWrite a) e = omega arith
step-no-end k (Allot a) e = omega arith
step-no-end k Trim e = omega arith
step-no-end k Kill e = omega arith
step-no-end k (Read a) e = omega arith

-- and so are those of the end mark
pub end-good : (n : ℕ) → first_bad n end_mark fields ≡ 56
unfolding first_bad good uses allowed
end-good n = refl

pub end_fits : NumbersFit end_mark
end_fits the_operation = omega arith
end_fits the_file = omega arith
end_fits the_position = omega arith
end_fits the_length = omega arith
end_fits the_fill = omega arith
end_fits the_zero = omega arith

-- Good numbers.

start-inside : (f : Field) → start_of f < 56
start-inside the_operation = omega arith
start-inside the_file = omega arith
start-inside the_position = omega arith
start-inside the_length = omega arith
start-inside the_fill = omega arith
start-inside the_zero = omega arith

module _ (n : ℕ) (m : Numbers) where
  first_good : (f : Field) (fs : List Field) → 56 ≤ first_bad n m (f ∷ fs) → (good n m f ≡ true) × (56 ≤ first_bad n m fs)
  first_good f fs h = by (good n m f) refl
    where
      by : (t : Bool) → good n m f ≡ t → (good n m f ≡ true) × (56 ≤ first_bad n m fs)
      by true e = (e, omega (arith, pass n m f fs e))
      by false e = absurd (let q : ⊥ = omega (arith, stop n m f fs e, start-inside f) in q)

  pub all-good : 56 ≤ first_bad n m fields → (f : Field) → good n m f ≡ true
  all-good h f =
      let a = first_good the_operation (the_file ∷ the_position ∷ the_length ∷ the_fill ∷ the_zero ∷ []) h in
      let b = first_good the_file (the_position ∷ the_length ∷ the_fill ∷ the_zero ∷ []) a.1 in
      let c = first_good the_position (the_length ∷ the_fill ∷ the_zero ∷ []) b.1 in
      let d = first_good the_length (the_fill ∷ the_zero ∷ []) c.1 in
      let e = first_good the_fill (the_zero ∷ []) d.1 in
      let g = first_good the_zero [] e.1 in
      pick a.0 b.0 c.0 d.0 e.0 g.0 f
    where
      pick : good n m the_operation ≡ true → good n m the_file ≡ true → good n m the_position ≡ true → good n m the_length ≡ true
          → good n m the_fill ≡ true → good
          n m the_zero ≡ true
          → (f : Field) → good n m f ≡ true
      pick a b c d e g the_operation = a
      pick a b c d e g the_file = b
      pick a b c d e g the_position = c
      pick a b c d e g the_length = d
      pick a b c d e g the_fill = e
      pick a b c d e g the_zero = g

-- a field that is not used is zero
unused-zero : (n : ℕ) (m : Numbers) (f : Field) → good n m f ≡ true → uses m.operation f ≡ false → value_of m f ≡ 0
unfolding good
unused-zero n m f h u = eqb-true (value_of m f) 0 (rw u at h)

-- a file number that is used is below the number of names
pub file-below : (n : ℕ) (m : Numbers) → good n m the_file ≡ true → (m.operation ≡ 0 → ⊥) → m.file < n
unfolding good uses allowed
file-below n m h e = ltb-true m.file n (rw (ne_eqb m.operation 0 e) at h)

-- good numbers of operation 0 are the end mark's
pub end-only : (n : ℕ) (m : Numbers) → ((f : Field) → good n m f ≡ true) → m.operation ≡ 0 → m ≡ end_mark
unfolding uses
end-only n m h e =
    let z : (f : Field) → uses m.operation f ≡ false → value_of m f ≡ 0 = λ f u. unused-zero n m f (h f) u in
    let u : (f : Field) → uses 0 f ≡ false → uses m.operation f ≡ false = λ f q. ap (λ (x : ℕ). uses x f) e ∙ q in
    let a = z the_file (u the_file refl) in
    let b = z the_position (u the_position refl) in
    let c = z the_length (u the_length refl) in
    let d = z the_fill (u the_fill refl) in
    let g = z the_zero (u the_zero refl) in
    λ i. record { operation = e i; file = a i; position = b i; length = c i; fill = d i; zero = g i }

nothing-below : (x : ℕ) → 0 ≤ x
nothing-below x = omega arith

above : {x k : ℕ} → (x ≡ k → ⊥) → k ≤ x → suc k ≤ x
above h l = omega arith

only-seven : {x : ℕ} → 7 ≤ x → x < 8 → x ≡ 7
only-seven h l = omega arith

-- good numbers of any other operation are those of the step that they make
module _ (n : ℕ) (m : Numbers) (h : (f : Field) → good n m f ≡ true) where
  create-back : m.operation ≡ 1 → numbers_of (step_of m) ≡ m
  unfolding uses
  create-back e =
      let position_z = unused-zero n m the_position (h the_position) (ap (λ (x : ℕ). uses x the_position) e ∙ refl) in
      let fill_z = unused-zero n m the_fill (h the_fill) (ap (λ (x : ℕ). uses x the_fill) e ∙ refl) in
      let zero_z = unused-zero n m the_zero (h the_zero) (ap (λ (x : ℕ). uses x the_zero) e ∙ refl) in
      ap numbers_of (sym (step-1 m e)) ∙ (λ i. record {
        operation = sym e i;
        file = m.file;
        position = sym position_z i;
        length = m.length;
        fill = sym fill_z
            i;
        zero = sym zero_z i;
      })

  write-next-back : m.operation ≡ 2 → numbers_of (step_of m) ≡ m
  unfolding uses
  write-next-back e =
      let zero_z = unused-zero n m the_zero (h the_zero) (ap (λ (x : ℕ). uses x the_zero) e ∙ refl) in
      ap numbers_of (sym (step-2 m e)) ∙ (λ i. record {
        operation = sym e i;
        file = m.file;
        position = m.position;
        length = m.length;
        fill = m.fill;
        zero =
            sym zero_z i;
      })

  write-there-back : m.operation ≡ 3 → numbers_of (step_of m) ≡ m
  unfolding uses
  write-there-back e =
      let zero_z = unused-zero n m the_zero (h the_zero) (ap (λ (x : ℕ). uses x the_zero) e ∙ refl) in
      ap numbers_of (sym (step-3 m e)) ∙ (λ i. record {
        operation = sym e i;
        file = m.file;
        position = m.position;
        length = m.length;
        fill = m.fill;
        zero =
            sym zero_z i;
      })

  allot-back : m.operation ≡ 4 → numbers_of (step_of m) ≡ m
  unfolding uses
  allot-back e =
      let length_z = unused-zero n m the_length (h the_length) (ap (λ (x : ℕ). uses x the_length) e ∙ refl) in
      let fill_z = unused-zero n m the_fill (h the_fill) (ap (λ (x : ℕ). uses x the_fill) e ∙ refl) in
      let zero_z = unused-zero n m the_zero (h the_zero) (ap (λ (x : ℕ). uses x the_zero) e ∙ refl) in
      ap numbers_of (sym (step-4 m e)) ∙ (λ i. record {
        operation = sym e i;
        file = m.file;
        position = m.position;
        length = sym length_z i;
        fill = sym fill_z
            i;
        zero = sym zero_z i;
      })

  trim-back : m.operation ≡ 5 → numbers_of (step_of m) ≡ m
  unfolding uses
  trim-back e =
      let position_z = unused-zero n m the_position (h the_position) (ap (λ (x : ℕ). uses x the_position) e ∙ refl) in
      let length_z = unused-zero n m the_length (h the_length) (ap (λ (x : ℕ). uses x the_length) e ∙ refl) in
      let fill_z = unused-zero n m the_fill (h the_fill) (ap (λ (x : ℕ). uses x the_fill) e ∙ refl) in
      let zero_z = unused-zero n m the_zero (h the_zero) (ap (λ (x : ℕ). uses x the_zero) e ∙ refl) in
      ap numbers_of (sym (step-5 m e)) ∙ (λ i. record {
        operation = sym e i;
        file = m.file;
        position = sym position_z i;
        length = sym length_z i;
        fill = sym
            fill_z i;
        zero = sym zero_z i;
      })

  kill-back : m.operation ≡ 6 → numbers_of (step_of m) ≡ m
  unfolding uses
  kill-back e =
      let position_z = unused-zero n m the_position (h the_position) (ap (λ (x : ℕ). uses x the_position) e ∙ refl) in
      let length_z = unused-zero n m the_length (h the_length) (ap (λ (x : ℕ). uses x the_length) e ∙ refl) in
      let fill_z = unused-zero n m the_fill (h the_fill) (ap (λ (x : ℕ). uses x the_fill) e ∙ refl) in
      let zero_z = unused-zero n m the_zero (h the_zero) (ap (λ (x : ℕ). uses x the_zero) e ∙ refl) in
      ap numbers_of (sym (step-6 m e)) ∙ (λ i. record {
        operation = sym e i;
        file = m.file;
        position = sym position_z i;
        length = sym length_z i;
        fill = sym
            fill_z i;
        zero = sym zero_z i;
      })

  read_back : m.operation ≡ 7 → numbers_of (step_of m) ≡ m
  unfolding uses
  read_back e =
      let n1 : m.operation ≡ 1 → ⊥ = λ q. omega arith in
      let n2 : m.operation ≡ 2 → ⊥ = λ q. omega arith in
      let n3 : m.operation ≡ 3 → ⊥ = λ q. omega arith in
      let n4 : m.operation ≡ 4 → ⊥ = λ q. omega arith in
      let n5 : m.operation ≡ 5 → ⊥ = λ q. omega arith in
      let n6 : m.operation ≡ 6 → ⊥ = λ q. omega arith in
      let fill_z = unused-zero n m the_fill (h the_fill) (ap (λ (x : ℕ). uses x the_fill) e ∙ refl) in
      let zero_z = unused-zero n m the_zero (h the_zero) (ap (λ (x : ℕ). uses x the_zero) e ∙ refl) in
      ap numbers_of (sym (step-7 m n1 n2 n3 n4 n5 n6)) ∙
      (λ i. record { operation = sym e i; file = m.file; position = m.position; length = m.length; fill = sym fill_z i; zero = sym zero_z i })

  pub numbers-back : m.operation < 8 → (m.operation ≡ 0 → ⊥) → numbers_of (step_of m) ≡ m
  numbers-back s z =
      go (look m.operation 1) (look m.operation 2) (look m.operation 3) (look m.operation 4) (look m.operation 5) (look m.operation 6)
    where
      go : Alike m.operation 1 → Alike m.operation 2 → Alike m.operation 3 → Alike m.operation 4 → Alike m.operation 5 → Alike m.operation 6
          → numbers_of (step_of m) ≡ m
      go (alike e) b c d f g = create-back e
      go (unlike a) (alike e) c d f g = write-next-back e
      go (unlike a) (unlike b) (alike e) d f g = write-there-back e
      go (unlike a) (unlike b) (unlike c) (alike e) f g = allot-back e
      go (unlike a) (unlike b) (unlike c) (unlike d) (alike e) g = trim-back e
      go (unlike a) (unlike b) (unlike c) (unlike d) (unlike f) (alike e) = kill-back e
      go (unlike a) (unlike b) (unlike c) (unlike d) (unlike f) (unlike g) =
          read_back (only-seven (above g (above f (above d (above c (above b (above a (above z (nothing-below m.operation)))))))) s)
