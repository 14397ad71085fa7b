-- Laws of the calls one after the other: what the check's loop keeps, and each way out of it.
use mathlib.Core.Path.{◌≡◌, refl, sym, ap, ◌∙◌}
use mathlib.Core.Bool.{false}
use mathlib.Core.List.{List, [], ◌∷◌}
use Prim.Native.Nat.{ℕ, suc, ◌+◌, ◌*◌, ◌-◌, ◌/◌, ◌%◌, ◌≤◌, ◌<◌}
use native.Mathlib.Omega.{arith}
use lib.ListN.{length}
use borrow.Author.Tests.{eq-eqb, ne_eqb, lt-ltb, le-ltb}
use Rattle.play_trace.specs.Bits.{bits, length-bits}
use Rattle.play_trace.specs.Steps.{fields, first_bad, step_of}
use Rattle.play_trace.specs.Reading.{Reading, reads, bad_at, on_read, call_start, numbers_at, read_calls, whole_calls, well_with, tell_from}
use Rattle.play_trace.specs.Reading.{calls_told}
use Rattle.play_trace.specs.declared.Step.{Step}
use Rattle.play_trace.specs.declared.Numbers.{Numbers}

left-more : {i n : ℕ} → i < n → n - i ≡ suc (n - (i + 1))
left-more h = omega arith

-- one step of the definition
module _ (bs : List ℕ) (n k i : ℕ) where
  pub calls-none : read_calls bs n 0 i ≡ bad_at (length bs)
  unfolding read_calls
  calls-none = refl

  pub calls-bad : first_bad n (numbers_at bs (call_start n i)) fields < 56
      → read_calls bs n (suc k) i ≡ bad_at (call_start n i + first_bad n (numbers_at bs (call_start n i)) fields)
  unfolding read_calls
  calls-bad h = rw (lt-ltb _ _ h)

  pub calls-end : 56 ≤ first_bad n (numbers_at bs (call_start n i)) fields → (numbers_at bs (call_start n i)).operation ≡ 0
      → read_calls bs n (suc k) i ≡ reads []
  unfolding read_calls
  calls-end h e = rw (le-ltb _ _ h, eq-eqb _ _ e)

  pub calls-on : 56 ≤ first_bad n (numbers_at bs (call_start n i)) fields → ((numbers_at bs (call_start n i)).operation ≡ 0 → ⊥)
      → read_calls bs n (suc k) i ≡ on_read (λ ss. step_of (numbers_at bs (call_start n i)) ∷ ss) (read_calls bs n k (i + 1))
  unfolding read_calls
  calls-on h e = rw (le-ltb _ _ h, ne_eqb _ _ e)

tell-more : (c : ℕ) (s : Step) (r : Reading (List Step)) → tell_from c (on_read (λ ss. s ∷ ss) r) ≡ tell_from (c + 1) r
unfolding tell_from
tell-more c s (reads ss) = let e : c + suc (length ss) ≡ c + 1 + length ss = omega arith in rw e
tell-more c s (bad_at p) = refl

pub record ReadingCalls (d : List ℕ) (n whole i : ℕ) : Type 0 where
  pub within : i ≤ whole
  pub same : tell_from 0 (read_calls (bits d) n whole 0) ≡ tell_from i (read_calls (bits d) n (whole - i) i)

-- a call's numbers as the code has them
pub record AtCall (d : List ℕ) (n i at : ℕ) (m : Numbers) (o : ℕ) : Type 0 where
  pub place : at ≡ 1 + 11 * n + 7 * i
  pub numbers : m ≡ numbers_at (bits d) (8 * at)
  pub bad : o ≡ first_bad n m fields

pub going-first : (d : List ℕ) (n whole : ℕ) → ReadingCalls d n whole 0
going-first d n whole = let e : whole - 0 ≡ whole = omega arith in record { within = omega arith; same = rw e }

module _ {d : List ℕ} {n i at : ℕ} {m : Numbers} {o : ℕ} (c : AtCall d n i at m o) where
  start : call_start n i ≡ 8 * at
  start = omega (arith, c.place)

  numbers-are : numbers_at (bits d) (call_start n i) ≡ m
  numbers-are = ap (numbers_at (bits d)) start ∙ sym c.numbers

  bad-is : first_bad n (numbers_at (bits d) (call_start n i)) fields ≡ o
  bad-is = ap (λ (x : Numbers). first_bad n x fields) numbers-are ∙ sym c.bad

  pub going_on : {whole : ℕ} → ReadingCalls d n whole i → i < whole → 56 ≤ o → (m.operation ≡ 0 → ⊥) → ReadingCalls d n whole (i + 1)
  going_on {whole} g h p q =
      let t : read_calls (bits d) n (suc (whole - (i + 1))) i ≡ on_read (λ ss. step_of (numbers_at (bits d) (call_start n i)) ∷ ss)
      (read_calls (bits d) n (whole - (i + 1)) (i + 1))
      = calls-on (bits d) n (whole - (i + 1)) i (omega (arith, bad-is)) (λ e. q (sym (ap (λ (x : Numbers). x.operation) numbers-are) ∙ e)) in
      record {
        within = omega arith;
        same = g.same ∙ ap (λ (k : ℕ). tell_from i (read_calls (bits d) n k i)) (left-more h) ∙ ap (tell_from i) t ∙ tell-more i _ _;
      }

  pub going-bad : {whole : ℕ} → ReadingCalls d n whole i → i < whole → o < 56
      → record { well = false; calls = 0; byte = at + o / 8; bit = o % 8 } ≡ tell_from 0 (read_calls (bits d) n whole 0)
  unfolding tell_from
  going-bad {whole} g h p =
      let t = calls-bad (bits d) n (whole - (i + 1)) i (omega (arith, bad-is)) in
      let byte : (call_start n i + first_bad n (numbers_at (bits d) (call_start n i)) fields) / 8 ≡ at + o / 8 = omega (arith, start, bad-is) in
      let bit : (call_start n i + first_bad n (numbers_at (bits d) (call_start n i)) fields) % 8 ≡ o % 8 = omega (arith, start, bad-is) in
      sym (g.same ∙ ap (λ (k : ℕ). tell_from i (read_calls (bits d) n k i)) (left-more h) ∙ ap (tell_from i) t ∙
      (λ j. record { well = false; calls = 0; byte = byte j; bit = bit j }))

  pub going_end : {whole : ℕ} → ReadingCalls d n whole i → i < whole → 56 ≤ o → m.operation ≡ 0
      → well_with i ≡ tell_from 0 (read_calls (bits d) n whole 0)
  unfolding tell_from
  going_end {whole} g h p q =
      let t = calls-end (bits d) n (whole - (i + 1)) i (omega (arith, bad-is)) (ap (λ (x : Numbers). x.operation) numbers-are ∙ q) in
      let z : i + 0 ≡ i = omega arith in
      sym (g.same ∙ ap (λ (k : ℕ). tell_from i (read_calls (bits d) n k i)) (left-more h) ∙ ap (tell_from i) t ∙ ap well_with z)

pub going-out : {d : List ℕ} {n whole i : ℕ} → ReadingCalls d n whole i → whole ≤ i
    → record { well = false; calls = 0; byte = length d; bit = 0 } ≡ tell_from 0 (read_calls (bits d) n whole 0)
unfolding tell_from
going-out {d} {n} {whole} {i} g h =
    let z : whole - i ≡ 0 = omega arith in
    let byte : length (bits d) / 8 ≡ length d = omega (arith, length-bits d) in
    let bit : length (bits d) % 8 ≡ 0 = omega (arith, length-bits d) in
    sym (g.same ∙ ap (λ (k : ℕ). tell_from i (read_calls (bits d) n k i)) z ∙ ap (tell_from i) (calls-none (bits d) n 0 i) ∙
    (λ j. record { well = false; calls = 0; byte = byte j; bit = bit j }))

pub whole_is : (d : List ℕ) (n : ℕ) → whole_calls (bits d) n ≡ (length d - (1 + 11 * n)) / 7
whole_is d n = rw (length-bits d) (omega arith)

pub told : (d : List ℕ) (n whole : ℕ) → whole ≡ (length d - (1 + 11 * n)) / 7 → tell_from 0 (read_calls (bits d) n whole 0) ≡ calls_told (bits d) n
unfolding calls_told
told d n whole e = ap (λ (k : ℕ). tell_from 0 (read_calls (bits d) n k 0)) (e ∙ sym (whole_is d n))
