-- What reading looks at first: the number of names, and whether they are there. Each outcome as a case, so that a proof about a reading goes by
-- these cases and opens no definition; the same for one call.
use mathlib.Core.Path.{◌≡◌, refl, sym, ap, subst, ◌∙◌}
use mathlib.Core.Bool.{Bool, true, false}
use mathlib.Core.List.{List, [], ◌∷◌}
use Prim.Native.Nat.{ℕ, suc, ◌+◌, ◌*◌, ◌/◌, ◌%◌, ◌≤◌, ◌<◌}
use native.Mathlib.Omega.{arith}
use lib.Dec.{eqb, ltb}
use lib.ListN.{length, get_or}
use borrow.Author.Tests.{eqb-true, eqb-false, ltb-true, ltb-false, lt-ltb, le-ltb}
use Rattle.play_trace.specs.Bits.{bits, field, length-bits}
use Rattle.play_trace.specs.Steps.{fields, first_bad, step_of}
use Rattle.play_trace.specs.Reading.{Trace, Reading, reads, bad_at, on_read, names_from, call_start, numbers_at, read_calls, read_bits, read_trace, whole_calls}
use Rattle.play_trace.specs.Reading.{well_with, fault_at, tell, tell_from, calls_told}
use Rattle.play_trace.specs.Bytes.{byte-field}
use Rattle.play_trace.specs.declared.Step.{Step}
use Rattle.play_trace.specs.declared.Checked.{Checked}
use Rattle.play_trace.proofs.Calls.{calls-bad, calls-end, calls-on}

-- one number is below another, or reaches it; is another, or not
pub data Order (a b : ℕ) : Type 0 where
  below : a < b → Order a b
  reaches : b ≤ a → Order a b

pub order : (a b : ℕ) → Order a b
order a b = by (ltb a b) refl
  where
    by : (t : Bool) → ltb a b ≡ t → Order a b
    by true e = below (ltb-true a b e)
    by false e = reaches (ltb-false a b e)

pub data Alike (a b : ℕ) : Type 0 where
  alike : a ≡ b → Alike a b
  unlike : (a ≡ b → ⊥) → Alike a b

pub look : (a b : ℕ) → Alike a b
look a b = by (eqb a b) refl
  where
    by : (t : Bool) → eqb a b ≡ t → Alike a b
    by true e = alike (eqb-true a b e)
    by false e = unlike (eqb-false a b e)

abbrev pub with_names : List (List ℕ) → List Step → Trace
with_names ns ss = record { names = ns; steps = ss }

-- the names are there, and so many as may be
pub record NamesThere (bs : List ℕ) (n : ℕ) : Type 0 where
  pub counted : 8 ≤ length bs
  pub count : field bs 0 8 ≡ n
  pub some : 1 ≤ n
  pub few : n ≤ 32
  pub there : call_start n 0 ≤ length bs

module _ (bs : List ℕ) where
  pub bits_none : length bs < 8 → read_bits bs ≡ bad_at (length bs)
  unfolding read_bits
  bits_none h = rw (lt-ltb _ _ h)

  pub bits-few : 8 ≤ length bs → field bs 0 8 < 1 → read_bits bs ≡ bad_at 0
  unfolding read_bits
  bits-few h p = rw (le-ltb _ _ h, lt-ltb _ _ p)

  pub bits-many : 8 ≤ length bs → 1 ≤ field bs 0 8 → 32 < field bs 0 8 → read_bits bs ≡ bad_at 0
  unfolding read_bits
  bits-many h p q = rw (le-ltb _ _ h, le-ltb _ _ p, lt-ltb _ _ q)

  pub bits-cut : 8 ≤ length bs → 1 ≤ field bs 0 8 → field bs 0 8 ≤ 32 → length bs < call_start (field bs 0 8) 0 → read_bits bs ≡ bad_at (length bs)
  unfolding read_bits
  bits-cut h p q r = rw (le-ltb _ _ h, le-ltb _ _ p, le-ltb _ _ q, lt-ltb _ _ r)

  opened : 8 ≤ length bs → 1 ≤ field bs 0 8 → field bs 0 8 ≤ 32 → call_start (field bs 0 8) 0 ≤ length bs
      → read_bits bs ≡ on_read (with_names (names_from bs 8 (field bs 0 8))) (read_calls bs (field bs 0 8) (whole_calls bs (field bs 0 8)) 0)
  unfolding read_bits
  opened h p q r = rw (le-ltb _ _ h, le-ltb _ _ p, le-ltb _ _ q, le-ltb _ _ r)

  pub bits-calls : {n : ℕ} → NamesThere bs n → read_bits bs ≡ on_read (with_names (names_from bs 8 n)) (read_calls bs n (whole_calls bs n) 0)
  bits-calls {n} o =
      let e = o.count in
      opened o.counted (rw e o.some) (rw e o.few) (rw e o.there)
      ∙ ap (λ (x : ℕ). on_read (with_names (names_from bs 8 x)) (read_calls bs x (whole_calls bs x) 0)) e

  pub data Front : Reading Trace → Type 0 where
    none : length bs < 8 → Front (bad_at (length bs))
    few : 8 ≤ length bs → field bs 0 8 < 1 → Front (bad_at 0)
    many : 8 ≤ length bs → 32 < field bs 0 8 → Front (bad_at 0)
    cut : 8 ≤ length bs → 1 ≤ field bs 0 8 → field bs 0 8 ≤ 32 → length bs < call_start (field bs 0 8) 0 → Front (bad_at (length bs))
    calls : (n : ℕ) → NamesThere bs n → Front (on_read (with_names (names_from bs 8 n)) (read_calls bs n (whole_calls bs n) 0))

  pub front : Front (read_bits bs)
  front = go (order (length bs) 8) (order (field bs 0 8) 1) (order 32 (field bs 0 8)) (order (length bs) (call_start (field bs 0 8) 0))
    where
      go : Order (length bs) 8 → Order (field bs 0 8) 1 → Order 32 (field bs 0 8) → Order (length bs) (call_start (field bs 0 8) 0) → Front (read_bits bs)
      go (below h) b c d = subst (λ (r : Reading Trace). Front r) (sym (bits_none h)) (none h)
      go (reaches h) (below p) c d = subst (λ (r : Reading Trace). Front r) (sym (bits-few h p)) (few h p)
      go (reaches h) (reaches p) (below q) d = subst (λ (r : Reading Trace). Front r) (sym (bits-many h p q)) (many h q)
      go (reaches h) (reaches p) (reaches q) (below r) = subst (λ (r : Reading Trace). Front r) (sym (bits-cut h p q r)) (cut h p q r)
      go (reaches h) (reaches p) (reaches q) (reaches r) =
          let o : NamesThere bs (field bs 0 8) = record { counted = h; count = refl; some = p; few = q; there = r } in
          subst (λ (r : Reading Trace). Front r) (sym (bits-calls o)) (calls (field bs 0 8) o)

  -- one call
  module _ (n k i : ℕ) where
    pub data Turn : Reading (List Step) → Type 0 where
      bad : first_bad n (numbers_at bs (call_start n i)) fields < 56 → Turn (bad_at (call_start n i + first_bad n (numbers_at bs (call_start n i)) fields))
      end : 56 ≤ first_bad n (numbers_at bs (call_start n i)) fields → (numbers_at bs (call_start n i)).operation ≡ 0 → Turn (reads [])
      on : 56 ≤ first_bad n (numbers_at bs (call_start n i)) fields → ((numbers_at bs (call_start n i)).operation ≡ 0 → ⊥)
          → Turn (on_read (λ ss. step_of (numbers_at bs (call_start n i)) ∷ ss) (read_calls bs n k (i + 1)))

    pub turn : Turn (read_calls bs n (suc k) i)
    turn = go (order (first_bad n (numbers_at bs (call_start n i)) fields) 56) (look (numbers_at bs (call_start n i)).operation 0)
      where
        go : Order (first_bad n (numbers_at bs (call_start n i)) fields) 56 → Alike (numbers_at bs (call_start n i)).operation 0
            → Turn (read_calls bs n (suc k) i)
        go (below h) a = subst (λ (r : Reading (List Step)). Turn r) (sym (calls-bad bs n k i h)) (bad h)
        go (reaches h) (alike e) = subst (λ (r : Reading (List Step)). Turn r) (sym (calls-end bs n k i h e)) (end h e)
        go (reaches h) (unlike e) = subst (λ (r : Reading (List Step)). Turn r) (sym (calls-on bs n k i h e)) (on h e)

-- What the check tells, in bytes.

tell-names : (ns : List (List ℕ)) (r : Reading (List Step)) → tell (on_read (with_names ns) r) ≡ tell_from 0 r
unfolding tell tell_from
tell-names ns (reads ss) = let e : length ss ≡ 0 + length ss = omega arith in ap well_with e
tell-names ns (bad_at p) = refl

fault-at-end : (d : List ℕ) → fault_at (length (bits d)) ≡ record { well = false; calls = 0; byte = length d; bit = 0 }
fault-at-end d =
    let byte : length (bits d) / 8 ≡ length d = omega (arith, length-bits d) in
    let bit : length (bits d) % 8 ≡ 0 = omega (arith, length-bits d) in
    λ j. record { well = false; calls = 0; byte = byte j; bit = bit j }

pub told_none : (d : List ℕ) → length d < 1 → record { well = false; calls = 0; byte = 0; bit = 0 } ≡ tell (read_trace d)
unfolding read_trace tell
told_none d h =
    let z : length d ≡ 0 = omega arith in
    sym (ap tell (bits_none (bits d) (omega (arith, length-bits d))) ∙ fault-at-end d ∙ (λ j. record { well = false; calls = 0; byte = z j; bit = 0 }))

module _ (d : List ℕ) {n : ℕ} (h : 1 ≤ length d) (e : n ≡ get_or d 0 0) (s : n < 256) where
  pub count-is : field (bits d) 0 8 ≡ n
  count-is = byte-field d 0 h (omega arith) ∙ sym e

  pub told-few : n < 1 → record { well = false; calls = 0; byte = 0; bit = 0 } ≡ tell (read_trace d)
  unfolding read_trace tell
  told-few p = sym (ap tell (bits-few (bits d) (omega (arith, length-bits d)) (omega (arith, count-is))))

  pub told-many : 1 ≤ n → 32 < n → record { well = false; calls = 0; byte = 0; bit = 0 } ≡ tell (read_trace d)
  unfolding read_trace tell
  told-many p q = sym (ap tell (bits-many (bits d) (omega (arith, length-bits d)) (omega (arith, count-is)) (omega (arith, count-is))))

  pub told-cut : 1 ≤ n → n ≤ 32 → length d < 1 + 11 * n → record { well = false; calls = 0; byte = length d; bit = 0 } ≡ tell (read_trace d)
  unfolding read_trace tell
  told-cut p q r =
      sym (ap tell (bits-cut (bits d) (omega (arith, length-bits d)) (omega (arith, count-is)) (omega (arith, count-is))
      (omega (arith, count-is, length-bits d)))
      ∙ fault-at-end d)

  pub opens : 1 ≤ n → n ≤ 32 → 1 + 11 * n ≤ length d → NamesThere (bits d) n
  opens p q r = record { counted = omega (arith, length-bits d); count = count-is; some = p; few = q; there = omega (arith, length-bits d) }

  pub told-calls : {c : Checked} → 1 ≤ n → n ≤ 32 → 1 + 11 * n ≤ length d → c ≡ calls_told (bits d) n → c ≡ tell (read_trace d)
  unfolding read_trace calls_told
  told-calls p q r t = t ∙ sym (ap tell (bits-calls (bits d) (opens p q r)) ∙ tell-names _ _)
