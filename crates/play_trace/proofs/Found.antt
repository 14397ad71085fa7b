-- Where a step and a name of a reading stand in the trace.
use mathlib.Core.Path.{◌≡◌, refl, sym, ap, ◌∙◌}
use mathlib.Core.List.{List, [], ◌∷◌}
use Prim.Native.Nat.{ℕ, zero, suc, ◌+◌, ◌*◌, ◌≤◌, ◌<◌}
use native.Mathlib.Omega.{arith}
use lib.ListN.{length, get_or, take, drop}
use Rattle.std.proofs.Common.{drop-cons}
use Rattle.play_trace.specs.Bits.{bits, field, length-bits}
use Rattle.play_trace.specs.Steps.{step_of, no_step}
use Rattle.play_trace.specs.Reading.{Trace, Reading, reads, bad_at, on_read, fields_from, names_from, call_start, numbers_at, read_calls, read_bits, read_trace}
use Rattle.play_trace.specs.Reading.{whole_calls, steps_of, names_of}
use Rattle.play_trace.specs.Bytes.{byte-field}
use Rattle.play_trace.specs.declared.Step.{Step}
use Rattle.play_trace.proofs.Calls.{calls-none}
use Rattle.play_trace.proofs.Front.{NamesThere, with_names, Front, none, few, many, cut, calls, front, Turn, bad, end, on, turn}

pub bad-reads : {A : Type 0} {p : ℕ} {a : A} → bad_at p ≡ reads a → ⊥
bad-reads {A} e = subst-out (ap is_bad e)
  where
    is_bad : Reading A → ℕ
    is_bad (bad_at p) = 1
    is_bad (reads a) = 0

    subst-out : ◌≡◌ {A = ℕ} 1 0 → ⊥
    subst-out z = omega arith

-- steps
module _ (bs : List ℕ) (n : ℕ) where
  pub calls_at : (k i j : ℕ) (ss : List Step) → read_calls bs n k i ≡ reads ss → j < length ss
      → (j < k) × (get_or ss j no_step ≡ step_of (numbers_at bs (call_start n (i + j))))
  calls_at zero i j ss e h = absurd (bad-reads (sym (calls-none bs n 0 i) ∙ e))
  calls_at (suc k) i j ss e h = go (read_calls bs n (suc k) i) (turn bs n k i) e (λ j ss. calls_at k (i + 1) j ss)
    where
      next : (r : Reading (List Step)) → read_calls bs n k (i + 1) ≡ r → on_read (λ ss. step_of (numbers_at bs (call_start n i)) ∷ ss) r ≡ reads ss
          → ((j : ℕ) (ss : List Step) → read_calls bs n k (i + 1) ≡ reads ss → j < length ss → (j < k) ×
          (get_or ss j no_step ≡ step_of (numbers_at bs (call_start n (i + 1 + j)))))
          → (j < suc k) × (get_or ss j no_step ≡ step_of (numbers_at bs (call_start n (i + j))))
      next (bad_at p) q e ih = absurd (bad-reads e)
      next (reads rest) q e ih = in_list j ss (cc) h
        where
          in_list : (j : ℕ) (ss : List Step) → step_of (numbers_at bs (call_start n i)) ∷ rest ≡ ss → j < length ss
              → (j < suc k) × (get_or ss j no_step ≡ step_of (numbers_at bs (call_start n (i + j))))
          in_list zero ss c h = let z : i ≡ i + 0 = omega arith in
              (omega arith, ap (λ (x : List Step). get_or x 0 no_step) (sym c) ∙ ap (λ (x : ℕ). step_of (numbers_at bs (call_start n x))) z)
          in_list (suc j) ss c h =
              let r = ih j rest q (omega (arith, ap length c)) in
              let z : i + 1 + j ≡ i + suc j = omega arith in
              (omega (arith, r.0), ap (λ (x : List Step). get_or x (suc j) no_step) (sym c) ∙ r.1 ∙ ap (λ (x : ℕ). step_of (numbers_at bs (call_start n x))) z)

      go : (r : Reading (List Step)) → Turn bs n k i r → r ≡ reads ss
          → ((j : ℕ) (ss : List Step) → read_calls bs n k (i + 1) ≡ reads ss → j < length ss → (j < k) ×
          (get_or ss j no_step ≡ step_of (numbers_at bs (call_start n (i + 1 + j)))))
          → (j < suc k) × (get_or ss j no_step ≡ step_of (numbers_at bs (call_start n (i + j))))
      go r (bad b) e ih = absurd (bad-reads e)
      go r (end a b) e ih = let c : [] ≡ ss = cc in absurd (let q : ⊥ = omega (arith, ap length c) in q)
      go r (on a b) e ih = next (read_calls bs n k (i + 1)) refl e ih

-- a whole call lies within the trace
pub whole-inside : (bs : List ℕ) (n j : ℕ) → j < whole_calls bs n → call_start n (j + 1) ≤ length bs
whole-inside bs n j h = omega arith

pub record StepThere (bs : List ℕ) (i : ℕ) (r : Reading Trace) : Type 0 where
  pub n : ℕ
  pub opens : NamesThere bs n
  pub inside : call_start n (i + 1) ≤ length bs
  pub step : get_or (steps_of r) i no_step ≡ step_of (numbers_at bs (call_start n i))

pub step-there : (bs : List ℕ) (i : ℕ) → i < length (steps_of (read_bits bs)) → StepThere bs i (read_bits bs)
step-there bs i = go (read_bits bs) (front bs)
  where
    inner : (n : ℕ) → NamesThere bs n → (c : Reading (List Step)) → read_calls bs n (whole_calls bs n) 0 ≡ c
        → i < length (steps_of (on_read (with_names (names_from bs 8 n)) c)) → StepThere bs i (on_read (with_names (names_from bs 8 n)) c)
    inner n o (bad_at p) e h = absurd (let q : ⊥ = omega arith in q)
    inner n o (reads ss) e h =
        let a = calls_at bs n (whole_calls bs n) 0 i ss e h in
        let z : 0 + i ≡ i = omega arith in
        record {
          n = n;
          opens = o;
          inside = whole-inside bs n i a.0;
          step = a.1 ∙ ap (λ (x : ℕ). step_of (numbers_at bs (call_start n x))) z;
        }

    go : (r : Reading Trace) → Front bs r → i < length (steps_of r) → StepThere bs i r
    go r (none a) h = absurd (let q : ⊥ = omega arith in q)
    go r (few a b) h = absurd (let q : ⊥ = omega arith in q)
    go r (many a b) h = absurd (let q : ⊥ = omega arith in q)
    go r (cut a b c e) h = absurd (let q : ⊥ = omega arith in q)
    go r (calls n o) h = inner n o (read_calls bs n (whole_calls bs n) 0) refl h

-- names
pub length-names : (bs : List ℕ) (p n : ℕ) → length (names_from bs p n) ≡ n
unfolding names_from
length-names bs p zero = refl
length-names bs p (suc n) = ap suc (length-names bs (p + 88) n)

names_at : (bs : List ℕ) (p n k : ℕ) → k < n → get_or (names_from bs p n) k [] ≡ fields_from bs (p + 88 * k) 8 11
unfolding names_from
names_at bs p zero k h = absurd (let q : ⊥ = omega arith in q)
names_at bs p (suc n) zero h = let z : p ≡ p + 88 * 0 = omega arith in ap (λ (x : ℕ). fields_from bs x 8 11) z
names_at bs p (suc n) (suc k) h =
    let z : p + 88 + 88 * k ≡ p + 88 * suc k = omega arith in
    names_at bs (p + 88) n k (omega arith) ∙ ap (λ (x : ℕ). fields_from bs x 8 11) z

pub record NameThere (bs : List ℕ) (k : ℕ) (r : Reading Trace) : Type 0 where
  pub inside : 8 + 88 * (k + 1) ≤ length bs
  pub name : get_or (names_of r) k [] ≡ fields_from bs (8 + 88 * k) 8 11

pub name-there : (bs : List ℕ) (k : ℕ) → k < length (names_of (read_bits bs)) → NameThere bs k (read_bits bs)
name-there bs k = go (read_bits bs) (front bs)
  where
    inner : (n : ℕ) → NamesThere bs n → (c : Reading (List Step))
        → k < length (names_of (on_read (with_names (names_from bs 8 n)) c)) → NameThere bs k (on_read (with_names (names_from bs 8 n)) c)
    inner n o (bad_at p) h = absurd (let q : ⊥ = omega arith in q)
    inner n o (reads ss) h =
        let l : k < n = omega (arith, length-names bs 8 n) in
        record { inside = omega (arith, o.there); name = names_at bs 8 n k l }

    go : (r : Reading Trace) → Front bs r → k < length (names_of r) → NameThere bs k r
    go r (none a) h = absurd (let q : ⊥ = omega arith in q)
    go r (few a b) h = absurd (let q : ⊥ = omega arith in q)
    go r (many a b) h = absurd (let q : ⊥ = omega arith in q)
    go r (cut a b c e) h = absurd (let q : ⊥ = omega arith in q)
    go r (calls n o) h = inner n o (read_calls bs n (whole_calls bs n) 0) h

-- bytes as fields
byte-there : (d : List ℕ) (q k : ℕ) → q ≡ 8 * k → k < length d → get_or d k 0 < 256 → get_or d k 0 ≡ field (bits d) q 8
byte-there d q k e h s = sym (ap (λ (x : ℕ). field (bits d) x 8) e ∙ byte-field d k h s)

pub name-bytes : (d : List ℕ) (m at p : ℕ) → at + m ≤ length d → ((i : ℕ) → get_or d i 0 < 256) → p ≡ 8 * at
    → take m (drop at d) ≡ fields_from (bits d) p 8 m
unfolding fields_from
name-bytes d zero at p h s e = refl
name-bytes d (suc m) at p h s e =
    ap (take (suc m)) (drop-cons d at 0 (omega arith))
    ∙ (λ j. byte-there d p at e (omega arith) (s at) j ∷ name-bytes d m (suc at) (p + 8) (omega arith) s (omega arith) j)

-- the same in bytes, as the code asks it
pub record StepBytes (d : List ℕ) (i : ℕ) : Type 0 where
  pub n : ℕ
  pub some : 1 ≤ length d
  pub few : n ≤ 32
  pub count : get_or d 0 0 < 256 → get_or d 0 0 ≡ n
  pub inside : 1 + 11 * n + 7 * i + 7 ≤ length d
  pub step : get_or (steps_of (read_trace d)) i no_step ≡ step_of (numbers_at (bits d) (8 * (1 + 11 * n + 7 * i)))

pub step-bytes : (d : List ℕ) (i : ℕ) → i < length (steps_of (read_trace d)) → StepBytes d i
unfolding read_trace
step-bytes d i h =
    let s = step-there (bits d) i h in
    let l = length-bits d in
    let e : call_start s.n i ≡ 8 * (1 + 11 * s.n + 7 * i) = omega arith in
    let some : 1 ≤ length d = omega (arith, s.opens.counted) in
    record {
      n = s.n;
      some = some;
      few = s.opens.few;
      count = λ b. sym (byte-field d 0 some b) ∙ s.opens.count;
      inside = omega (arith, s.inside);
      step = s.step ∙ ap (λ (x : ℕ). step_of (numbers_at (bits d) x)) e;
    }

pub record NameBytes (d : List ℕ) (k : ℕ) : Type 0 where
  pub inside : 1 + 11 * k + 11 ≤ length d
  pub name : get_or (names_of (read_trace d)) k [] ≡ fields_from (bits d) (8 + 88 * k) 8 11

pub name-all : (d : List ℕ) (k : ℕ) → k < length (names_of (read_trace d)) → NameBytes d k
unfolding read_trace
name-all d k h =
    let s = name-there (bits d) k h in
    record { inside = omega (arith, s.inside, length-bits d); name = s.name }
