-- The six numbers of a call from its seven bytes.
use Rattle.std.specs.Prelude.{◌≡◌, List, [], ◌∷◌, ◌++◌, ℕ, ◌+◌, ◌*◌, ◌/◌, ◌%◌, ◌^◌, ◌≤◌, ◌<◌, length, drop, get_or}
use Rattle.std.proofs.Common.{sym, ◌∙◌, add-mul, mul_assoc, add_assoc, add-one, pow-add, arith, length-append, drop-cons}
use Rattle.std.proofs.Math.Path.{ap}
use Rattle.play_trace.specs.Bits.{bits_of, number, bits, field, there_and_back, length-bits_of, number-snoc, field-drop, field-front, drop_bits}
use Rattle.play_trace.specs.Reading.{numbers_at}
use Rattle.play_trace.specs.declared.Numbers.{Numbers}

number_append : (a b : List ℕ) → number (a ++ b) ≡ number a * 2 ^ length b + number b
unfolding number
number_append [] b = omega arith
number_append (x ∷ a) b =
    let e : 2 ^ length (a ++ b) ≡ 2 ^ length a * 2 ^ length b = rw length-append (pow-add 2 (length a) (length b)) in
    let h : x * 2 ^ length (a ++ b) ≡ x * (2 ^ length a * 2 ^ length b) = ap (λ (y : ℕ). x * y) e in
    simp (h, number_append a b, add-mul, mul_assoc, add_assoc)

-- the upper three bits of a byte, and the lower five
upper-three : (b : ℕ) → b < 256 → number (bits_of 3 (b / 2 / 2 / 2 / 2 / 2)) ≡ b / 32
upper-three b h = there_and_back 3 (b / 2 / 2 / 2 / 2 / 2) (omega arith) ∙ omega arith

lower-five : (b : ℕ) → number (bits_of 5 b) ≡ b % 32
unfolding bits_of number
lower-five b = omega arith

lower-seven : (b : ℕ) → number (bits_of 7 b) ≡ b % 128
unfolding bits_of number
lower-seven b = omega arith

-- the first bit of a byte
first_bit : (b : ℕ) → b < 256 → b / 2 / 2 / 2 / 2 / 2 / 2 / 2 % 2 ≡ b / 128
first_bit b h = omega arith

three-bytes : (a b c : ℕ) → a < 256 → b < 256 → c < 256 → number (bits_of 8 a ++ (bits_of 8 b ++ bits_of 8 c)) ≡ 65536 * a + 256 * b + c
three-bytes a b c ha hb hc =
    simp (number_append, length-append, length-bits_of, there_and_back 8 a ha, there_and_back 8 b hb, there_and_back 8 c hc) (omega arith)

-- a byte and a bit; seven bits and one
byte-bit : (a x : ℕ) → a < 256 → number (bits_of 8 a ++ (x ∷ [])) ≡ 2 * a + x
byte-bit a x h = simp (number-snoc, there_and_back 8 a h)

seven-bit : (a x : ℕ) → number (bits_of 7 a ++ (x ∷ [])) ≡ a % 128 * 2 + x
seven-bit a x = simp (number-snoc, lower-seven a) (omega arith)

-- the numbers of seven bytes
abbrev pub numbers_of_bytes : ℕ → ℕ → ℕ → ℕ → ℕ → ℕ → ℕ → Numbers
numbers_of_bytes b0 b1 b2 b3 b4 b5 b6 =
    record {
      operation = b0 / 32;
      file = b0 % 32;
      position = 65536 * b1 + 256 * b2 + b3;
      length = 2 * b4 + b5 / 128;
      fill = b5 % 128 * 2 + b6 / 128;
      zero = b6 % 128;
    }

module _ (b0 b1 b2 b3 b4 b5 b6 : ℕ) (r : List ℕ) where
  at-0 : b0 < 256 → field (bits (b0 ∷ b1 ∷ b2 ∷ b3 ∷ b4 ∷ b5 ∷ b6 ∷ r)) 0 3 ≡ b0 / 32
  unfolding field bits bits_of
  at-0 h = upper-three b0 h

  at-3 : field (bits (b0 ∷ b1 ∷ b2 ∷ b3 ∷ b4 ∷ b5 ∷ b6 ∷ r)) 3 5 ≡ b0 % 32
  unfolding field bits bits_of
  at-3 = lower-five b0

  at_8 : b1 < 256 → b2 < 256 → b3 < 256
      → field (bits (b0 ∷ b1 ∷ b2 ∷ b3 ∷ b4 ∷ b5 ∷ b6 ∷ r)) 8 24 ≡ 65536 * b1 + 256 * b2 + b3
  unfolding field bits bits_of
  at_8 h1 h2 h3 = three-bytes b1 b2 b3 h1 h2 h3

  at-32 : b4 < 256 → b5 < 256 → field (bits (b0 ∷ b1 ∷ b2 ∷ b3 ∷ b4 ∷ b5 ∷ b6 ∷ r)) 32 9 ≡ 2 * b4 + b5 / 128
  unfolding field bits bits_of
  at-32 h4 h5 =
      byte-bit b4 (b5 / 2 / 2 / 2 / 2 / 2 / 2 / 2 % 2) h4 ∙ ap (λ (x : ℕ). 2 * b4 + x) (first_bit b5 h5)

  at-41 : b6 < 256 → field (bits (b0 ∷ b1 ∷ b2 ∷ b3 ∷ b4 ∷ b5 ∷ b6 ∷ r)) 41 8 ≡ b5 % 128 * 2 + b6 / 128
  unfolding field bits bits_of
  at-41 h6 =
      seven-bit b5 (b6 / 2 / 2 / 2 / 2 / 2 / 2 / 2 % 2) ∙ ap (λ (x : ℕ). b5 % 128 * 2 + x) (first_bit b6 h6)

  at-49 : field (bits (b0 ∷ b1 ∷ b2 ∷ b3 ∷ b4 ∷ b5 ∷ b6 ∷ r)) 49 7 ≡ b6 % 128
  unfolding field bits bits_of
  at-49 = lower-seven b6

next : (d : List ℕ) (k l : ℕ) → l ≡ k + 1 → k < length d → drop k d ≡ get_or d k 0 ∷ drop l d
next d k l e h = rw (e, add-one) (drop-cons d k 0 h)

seven : (d : List ℕ) (at : ℕ) → at + 7 ≤ length d
    → drop at d ≡ get_or d at 0 ∷ get_or d (at + 1) 0 ∷ get_or d (at + 2) 0 ∷ get_or d (at + 3) 0 ∷ get_or d (at + 4) 0 ∷ get_or d (at + 5) 0
    ∷ get_or d (at + 6) 0 ∷ drop
    (at + 7) d
seven d at h =
    rw (
      next d at (at + 1) (omega arith) (omega arith),
      next d (at + 1) (at + 2) (omega arith) (omega arith),
      next d (at + 2) (at + 3) (omega arith) (omega arith),
      next d (at + 3) (at + 4) (omega arith) (omega arith),
      next d (at + 4) (at + 5) (omega arith) (omega arith),
      next d (at + 5) (at + 6) (omega arith) (omega arith),
      next d (at + 6) (at + 7) (omega arith) (omega arith),
    )

pub field-byte : (d : List ℕ) (at o w : ℕ) → field (bits d) (8 * at + o) w ≡ field (bits (drop at d)) o w
field-byte d at o w = sym (field-drop (bits d) (8 * at) o w) ∙ ap (λ (x : List ℕ). field x o w) (drop_bits at d)

pub numbers-of-bytes : (d : List ℕ) (at : ℕ) → at + 7 ≤ length d → ((i : ℕ) → get_or d i 0 < 256)
    → numbers_at (bits d) (8 * at)
    ≡ numbers_of_bytes (get_or d at 0) (get_or d (at + 1) 0) (get_or d (at + 2) 0) (get_or d (at + 3) 0) (get_or d (at + 4) 0) (get_or d (at + 5) 0)
    (get_or d (at + 6) 0)
unfolding numbers_at
numbers-of-bytes d at h s =
    let g : (o w : ℕ) → field (bits d) (8 * at + o) w ≡ field
    (bits (get_or d at 0 ∷ get_or d (at + 1) 0 ∷ get_or d (at + 2) 0 ∷ get_or d (at + 3) 0 ∷ get_or d (at + 4) 0 ∷ get_or d (at + 5) 0
    ∷ get_or d (at + 6) 0 ∷ drop
    (at + 7) d)) o w
    = λ o w. field-byte d at o w ∙ ap (λ (x : List ℕ). field (bits x) o w) (seven d at h) in
    let p0 = g 0 3 ∙ at-0 _ _ _ _ _ _ _ _ (s at) in
    let p1 = g 3 5 ∙ at-3 _ _ _ _ _ _ _ _ in
    let p2 = g 8 24 ∙ at_8 _ _ _ _ _ _ _ _ (s (at + 1)) (s (at + 2)) (s (at + 3)) in
    let p3 = g 32 9 ∙ at-32 _ _ _ _ _ _ _ _ (s (at + 4)) (s (at + 5)) in
    let p4 = g 41 8 ∙ at-41 _ _ _ _ _ _ _ _ (s (at + 6)) in
    let p5 = g 49 7 ∙ at-49 _ _ _ _ _ _ _ _ in
    λ i. record { operation = p0 i; file = p1 i; position = p2 i; length = p3 i; fill = p4 i; zero = p5 i }

pub numbers-from : (d : List ℕ) (at : ℕ) → at + 7 ≤ length d → ((i : ℕ) → get_or d i 0 < 256) → {b0 b1 b2 b3 b4 b5 b6 : ℕ}
    → b0 ≡ get_or d at 0 → b1 ≡ get_or d (at + 1) 0 → b2 ≡ get_or d (at + 2) 0 → b3 ≡ get_or d (at + 3) 0 → b4 ≡ get_or d (at + 4) 0 → b5 ≡ get_or d (at + 5) 0
    → b6 ≡ get_or d (at + 6) 0 → numbers_of_bytes b0 b1 b2 b3 b4 b5 b6 ≡ numbers_at (bits d) (8 * at)
numbers-from d at h s e0 e1 e2 e3 e4 e5 e6 =
    (λ i. numbers_of_bytes (e0 i) (e1 i) (e2 i) (e3 i) (e4 i) (e5 i) (e6 i)) ∙ sym (numbers-of-bytes d at h s)

-- a byte as a field
front-byte : (b : ℕ) (r : List ℕ) → b < 256 → field (bits (b ∷ r)) 0 8 ≡ b
unfolding bits
front-byte b r h = field-front (bits_of 8 b) (bits r) 8 (length-bits_of 8 b) ∙ there_and_back 8 b h

pub byte-field : (d : List ℕ) (k : ℕ) → k < length d → get_or d k 0 < 256 → field (bits d) (8 * k) 8 ≡ get_or d k 0
byte-field d k h s =
    let z : 8 * k ≡ 8 * k + 0 = omega arith in
    ap (λ (p : ℕ). field (bits d) p 8) z ∙ field-byte d k 0 8 ∙ ap (λ (x : List ℕ). field (bits x) 0 8) (drop-cons d k 0 h) ∙ front-byte _ _ s
