-- What is read was packed: where reading gives names and steps, these are in range, and their bits are the beginning of the trace.
use Rattle.std.specs.Prelude.{◌≡◌, true}
use Rattle.std.proofs.Math.Path.{refl, sym, ap, subst}
use Rattle.std.proofs.Common.{◌∙◌, length-append, take-append-drop}
use mathlib.Core.List.{List, [], ◌∷◌, ◌++◌, append_assoc}
use Prim.Native.Nat.{ℕ, zero, suc, ◌+◌, ◌*◌, ◌-◌, ◌/◌, ◌^◌, ◌≤◌, ◌<◌}
use native.Mathlib.Omega.{arith}
use Rattle.std.proofs.Math.ListN.{length, take, drop}
use Rattle.std.proofs.Math.Seq.{take-add, drop-drop}
use Rattle.laws.specs.Bytes.{Small, small-none, small-cons, small_bytes}
use Rattle.play_trace.specs.Bits.{bits_of, bits, field, AreBits, field-small, field-bits}
use Rattle.play_trace.specs.Steps.{Field, the_operation, the_file, the_position, the_length, the_fill, the_zero, fields, width_of, start_of, value_of, good}
use Rattle.play_trace.specs.Steps.{first_bad}
use Rattle.play_trace.specs.Steps.{numbers_of, end_mark, step_of}
use Rattle.play_trace.specs.Reading.{Trace, Reading, reads, bad_at, on_read, fields_from, names_from, call_start, numbers_at, read_calls, read_bits}
use Rattle.play_trace.specs.Reading.{whole_calls}
use Rattle.play_trace.specs.Packing.{call_bits, steps_bits, names_bits, pack_bits, AreNames, StepFits, StepsFit, TraceFits, IsReading}
use Rattle.play_trace.specs.declared.Step.{Step}
use Rattle.play_trace.specs.declared.Numbers.{Numbers}
use Rattle.play_trace.proofs.Calls.{calls-none}
use Rattle.play_trace.proofs.Front.{NamesThere, with_names, Front, none, few, many, cut, calls, front, Turn, bad, end, on, turn}
use Rattle.play_trace.proofs.Found.{bad-reads, length-names}
use Rattle.promises_trace.specs.Call.{NumbersFit, are-those, all-good, file-below, end-only, numbers-back}

-- the numbers that are read fit their fields
pub read_fits : (bs : List ℕ) (p : ℕ) → AreBits bs → NumbersFit (numbers_at bs p)
unfolding numbers_at
read_fits bs p h the_operation = field-small bs (p + 0) 3 h
read_fits bs p h the_file = field-small bs (p + 3) 5 h
read_fits bs p h the_position = field-small bs (p + 8) 24 h
read_fits bs p h the_length = field-small bs (p + 32) 9 h
read_fits bs p h the_fill = field-small bs (p + 41) 8 h
read_fits bs p h the_zero = field-small bs (p + 49) 7 h

-- the calls
pub record Packed (bs : List ℕ) (n p : ℕ) (ss : List Step) : Type 0 where
  pub fit : StepsFit n ss
  pub later : List ℕ
  pub begins : drop p bs ≡ steps_bits ss ++ later

module _ (bs : List ℕ) (h : AreBits bs) (n : ℕ) where
  split : (p : ℕ) → p + 56 ≤ length bs → drop p bs ≡ call_bits (numbers_at bs p) ++ drop (p + 56) bs
  split p l =
      sym (take-append-drop 56 (drop p bs)) ∙ (λ i. are-those bs p h l i ++ drop-drop 56 p bs i)

  packed-end : (i : ℕ) → call_start n i + 56 ≤ length bs → 56 ≤ first_bad n (numbers_at bs (call_start n i)) fields
      → (numbers_at bs (call_start n i)).operation ≡ 0
      → Packed bs n (call_start n i) []
  unfolding steps_bits
  packed-end i l a b =
      let m = numbers_at bs (call_start n i) in
      let e = end-only n m (all-good n m a) b in
      record {
        fit = tt;
        later = drop (call_start n i + 56) bs;
        begins = split (call_start n i) l ∙ ap (λ (x : Numbers). call_bits x ++ drop (call_start n i + 56) bs) e;
      }

  packed-on : (i : ℕ) (rest : List Step) → call_start n i + 56 ≤ length bs → 56 ≤ first_bad n (numbers_at bs (call_start n i)) fields
      → ((numbers_at bs (call_start n i)).operation ≡ 0 → ⊥) → Packed bs n (call_start n (i + 1)) rest → Packed bs n (call_start n i)
      (step_of (numbers_at bs (call_start n i)) ∷ rest)
  unfolding steps_bits
  packed-on i rest l a b r =
      let m = numbers_at bs (call_start n i) in
      let g = all-good n m a in
      let q : numbers_of (step_of m) ≡ m = numbers-back n m g (read_fits bs (call_start n i) h the_operation) b in
      let z : call_start n i + 56 ≡ call_start n (i + 1) = omega arith in
      let t : drop (call_start n i + 56) bs ≡ steps_bits rest ++ r.later = ap (λ (x : ℕ). drop x bs) z ∙ r.begins in
      record {
        fit = (
          record {
            file = file-below n m (g the_file) b;
            fits = λ f. subst (λ (x : Numbers). value_of x f < 2 ^ width_of f) (sym q)
                (read_fits bs (call_start n i) h f);
          },
          r.fit,
        );
        later = r.later;
        begins = split (call_start n i) l ∙ (λ j. call_bits (sym q j) ++ t j) ∙ sym
            (append_assoc (call_bits (numbers_of (step_of m))) (steps_bits rest) r.later);
      }

  pub calls_back : (k i : ℕ) (ss : List Step) → call_start n i + 56 * k ≤ length bs → read_calls bs n k i ≡ reads ss → Packed bs n (call_start n i) ss
  calls_back zero i ss l e = absurd (bad-reads (sym (calls-none bs n 0 i) ∙ e))
  calls_back (suc k) i ss l e = go (read_calls bs n (suc k) i) (turn bs n k i) e (λ rest q. calls_back k (i + 1) rest (omega arith) q)
    where
      next : (r : Reading (List Step)) → read_calls bs n k (i + 1) ≡ r → on_read (λ ss. step_of (numbers_at bs (call_start n i)) ∷ ss) r ≡ reads ss
          → 56 ≤ first_bad n (numbers_at bs (call_start n i)) fields → ((numbers_at bs (call_start n i)).operation ≡ 0 → ⊥)
          → ((rest : List Step) → read_calls bs n k (i + 1) ≡ reads rest → Packed bs n (call_start n (i + 1)) rest) → Packed bs n (call_start n i) ss
      next (bad_at p) q e a b ih = absurd (bad-reads e)
      next (reads rest) q e a b ih =
          let c : step_of (numbers_at bs (call_start n i)) ∷ rest ≡ ss = cc in
          subst (λ (x : List Step). Packed bs n (call_start n i) x) c (packed-on i rest (omega arith) a b (ih rest q))

      go : (r : Reading (List Step)) → Turn bs n k i r → r ≡ reads ss
          → ((rest : List Step) → read_calls bs n k (i + 1) ≡ reads rest → Packed bs n (call_start n (i + 1)) rest) → Packed bs n (call_start n i) ss
      go r (bad b) e ih = absurd (bad-reads e)
      go r (end a b) e ih = let c : [] ≡ ss = cc in subst (λ (x : List Step). Packed bs n (call_start n i) x) c (packed-end i (omega arith) a b)
      go r (on a b) e ih = next (read_calls bs n k (i + 1)) refl e a b ih

  -- the names
  length_fields : (p w m : ℕ) → length (fields_from bs p w m) ≡ m
  unfolding fields_from
  length_fields p w zero = refl
  length_fields p w (suc m) = ap suc (length_fields (p + w) w m)

  bytes-fields : (p m : ℕ) → Small (fields_from bs p 8 m)
  unfolding fields_from
  bytes-fields p zero = small-none
  bytes-fields p (suc m) = small-cons (field-small bs p 8 h) (bytes-fields (p + 8) m)

  bytes_back : (p m : ℕ) → p + 8 * m ≤ length bs → bits (fields_from bs p 8 m) ≡ take (8 * m) (drop p bs)
  unfolding fields_from bits
  bytes_back p zero l = refl
  bytes_back p (suc m) l =
      let z : 8 * suc m ≡ 8 + 8 * m = omega arith in
      let a : bits_of 8 (field bs p 8) ≡ take 8 (drop p bs) = field-bits bs p 8 h (omega arith) in
      let b : bits (fields_from bs (p + 8) 8 m) ≡ take (8 * m) (drop 8 (drop p bs))
      = bytes_back (p + 8) m (omega arith) ∙ ap (λ (x : List ℕ). take (8 * m) x) (sym (drop-drop 8 p bs)) in
      (λ i. a i ++ b i) ∙ sym (ap (λ (x : ℕ). take x (drop p bs)) z ∙ take-add 8 (8 * m) (drop p bs))

  are-names : (p k : ℕ) → AreNames (names_from bs p k)
  unfolding names_from
  are-names p zero = tt
  are-names p (suc k) = (length_fields p 8 11, small_bytes _ (bytes-fields p 11), are-names (p + 88) k)

  names-back : (p k : ℕ) → p + 88 * k ≤ length bs → names_bits (names_from bs p k) ≡ take (88 * k) (drop p bs)
  unfolding names_from names_bits
  names-back p zero l = refl
  names-back p (suc k) l =
      let z : 88 * suc k ≡ 88 + 88 * k = omega arith in
      let a : bits (fields_from bs p 8 11) ≡ take 88 (drop p bs) = bytes_back p 11 (omega arith) in
      let b : names_bits (names_from bs (p + 88) k) ≡ take (88 * k) (drop 88 (drop p bs))
      = names-back (p + 88) k (omega arith) ∙ ap (λ (x : List ℕ). take (88 * k) x) (sym (drop-drop 88 p bs)) in
      (λ i. a i ++ b i) ∙ sym (ap (λ (x : ℕ). take x (drop p bs)) z ∙ take-add 88 (88 * k) (drop p bs))

-- the whole
module _ (bs : List ℕ) (h : AreBits bs) where
  whole : (n : ℕ) (ss : List Step) → NamesThere bs n → Packed bs n (call_start n 0) ss → IsReading bs (with_names (names_from bs 8 n) ss)
  unfolding pack_bits
  whole n ss o r =
      let l : length (names_from bs 8 n) ≡ n = length-names bs 8 n in
      let a : bits_of 8 n ≡ take 8 bs = ap (bits_of 8) (sym o.count) ∙ field-bits bs 0 8 h o.counted in
      let b : names_bits (names_from bs 8 n) ≡ take (88 * n) (drop 8 bs) = names-back bs h n 8 n (omega (arith, o.there)) in
      let z : 8 + 88 * n ≡ call_start n 0 = omega arith in
      let c : drop (88 * n) (drop 8 bs) ≡ steps_bits ss ++ r.later = drop-drop (88 * n) 8 bs ∙ ap (λ (x : ℕ). drop x bs) z ∙ r.begins in
      let d : bs ≡ take 8 bs ++ (take (88 * n) (drop 8 bs) ++ drop (88 * n) (drop 8 bs))
      = sym (take-append-drop 8 bs) ∙ ap (λ (x : List ℕ). take 8 bs ++ x) (sym (take-append-drop (88 * n) (drop 8 bs))) in
      let g : bs ≡ bits_of 8 n ++ (names_bits (names_from bs 8 n) ++ (steps_bits ss ++ r.later)) = d ∙ (λ i. sym a i ++ (sym b i ++ c i)) in
      let k : bits_of 8 n ++ (names_bits (names_from bs 8 n) ++ (steps_bits ss ++ r.later))
      ≡ (bits_of 8 n ++ (names_bits (names_from bs 8 n) ++ steps_bits ss)) ++ r.later
      = sym (append_assoc (bits_of 8 n) (names_bits (names_from bs 8 n) ++ steps_bits ss) r.later ∙ ap (λ (x : List ℕ). bits_of 8 n ++ x)
      (append_assoc (names_bits (names_from bs 8 n)) (steps_bits ss) r.later)) in
      let m : (bits_of 8 n ++ (names_bits (names_from bs 8 n) ++ steps_bits ss)) ++ r.later ≡
      (bits_of 8 (length (names_from bs 8 n)) ++ (names_bits (names_from bs 8 n) ++ steps_bits ss)) ++ r.later
      = ap (λ (x : ℕ). (bits_of 8 x ++ (names_bits (names_from bs 8 n) ++ steps_bits ss)) ++ r.later) (sym l) in
      record {
        in_range = record {
          some = omega (arith, l, o.some);
          few = omega (arith, l, o.few);
          names = are-names bs h n 8 n;
          steps = subst (λ (x : ℕ). StepsFit x ss) (sym l) r.fit;
        };
        later = r.later;
        begins = g ∙ k ∙ m;
      }

  pub sound : (t : Trace) → read_bits bs ≡ reads t → IsReading bs t
  sound t e = go (read_bits bs) (front bs) e
    where
      inside : (n k : ℕ) → k ≡ whole_calls bs n → call_start n 0 ≤ length bs → call_start n 0 + 56 * k ≤ length bs
      inside n k e l = omega arith

      inner : (n : ℕ) → NamesThere bs n → (c : Reading (List Step)) → read_calls bs n (whole_calls bs n) 0 ≡ c
          → on_read (with_names (names_from bs 8 n)) c ≡ reads
          t →
          IsReading bs t
      inner n o (bad_at p) q e = absurd (bad-reads e)
      inner n o (reads ss) q e =
          let c : with_names (names_from bs 8 n) ss ≡ t = cc in
          subst (λ (x : Trace). IsReading bs x) c (whole n ss o (calls_back bs h n (whole_calls bs n) 0 ss (inside n (whole_calls bs n) refl o.there) q))

      go : (r : Reading Trace) → Front bs r → r ≡ reads t → IsReading bs t
      go r (none a) e = absurd (bad-reads e)
      go r (few a b) e = absurd (bad-reads e)
      go r (many a b) e = absurd (bad-reads e)
      go r (cut a b c d) e = absurd (bad-reads e)
      go r (calls n o) e = inner n o (read_calls bs n (whole_calls bs n) 0) refl e
