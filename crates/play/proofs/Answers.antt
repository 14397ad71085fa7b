-- The four answers: what the check found, 14, 15, and the session played.
use mathlib.Core.Path.{◌≡◌, refl, sym, ap, ◌∙◌}
use mathlib.Core.Logic.{◌⊎◌, inl, inr}
use mathlib.Core.Bool.{Bool, true, false, not}
use mathlib.Core.List.{List, [], ◌∷◌, ◌++◌}
use Prim.Native.Nat.{ℕ, ◌≤◌, ◌<◌}
use native.Mathlib.Omega.{arith}
use lib.Dec.{ltb}
use lib.ListN.{length, drop}
use borrow.Author.Tests.{ne_eqb, lt-ltb, le-ltb}
use Rattle.meaning.specs.Layout.{fits_geometry}
use Rattle.meaning.specs.Refusal.{carried}
use Rattle.meaning.specs.Fault.{fault}
use Rattle.meaning.specs.Refusals.{first, check, refusal, fault_numbers}
use Rattle.meaning.specs.declared.Geometry.{Geometry}
use Rattle.meaning.specs.declared.Refusal.{Refusal}
use Rattle.lists.specs.Members
use Rattle.lists.specs.Members.{In}
use Rattle.laws.specs.Fault
use Rattle.laws.specs.Passed.{check-one, check-number}
use Rattle.lists.specs.Tests.{first-hit, first-skip, first-none, not_yes, not-no}
use Rattle.passed.proofs.Checked.{check-stop, check-then, handed, handed-on}
use Rattle.play_trace.specs.Reading.{read_trace, steps_of, names_of, tell}
use Rattle.play_trace.specs.declared.Checked.{Checked}
use Rattle.promises_trace.specs.Promises.{calls-told}
use Rattle.play_session.specs.Playing.{played, play_refusals, play}
use Rattle.play_session.specs.declared.Played.{Played}
use Rattle.play.specs.Told.{told}

-- no fault of a disk has the trace's number
no-trace-fault : (g : Geometry) (d : List ℕ) → (check g d).number ≡ 14 → ⊥
no-trace-fault g d e = by (fits_geometry g d) refl
  where
    of-fault : (check g d).number ≡ (fault g d).number → ((fault g d).number ≡ 0) ⊎ In (fault g d).number fault_numbers → ⊥
    of-fault q (inl z) = omega (arith, e, q, z)
    of-fault q (inr i) = let k = Members.count-in (fault g d).number 21 10 i in omega (arith, e, q, k)

    by : (b : Bool) → fits_geometry g d ≡ b → ⊥
    by false f = omega (arith, e, ap (λ (c : Refusal). c.number) (check-one g d f))
    by true f = of-fault (check-number g d f) (Members.in-cons (Fault.numbered g d))

abbrev pub answer : Refusal → ℕ → ℕ → ℕ → Played
answer r calls byte bit = record { refusal = r; calls = calls; byte = byte; bit = bit }

module _ (g : Geometry) (d t rs : List ℕ) {k : Refusal} (p : k ≡ check g d) where
  -- what the check found
  pub by-check : (k.number ≡ 0 → ⊥) → (answer k 0 0 0, d, rs) ≡ play g d t rs
  unfolding play
  by-check z =
      let n : k.number ≡ first (play_refusals g d (tell (read_trace t)) (length rs)) = check-stop g d _ p z in
      let m : k.number ≡ 14 → ⊥ = λ e. no-trace-fault g d (sym (ap (λ (c : Refusal). c.number) p) ∙ e) in
      ap (λ (r : Refusal). (answer r 0 0 0, d, rs)) (handed-on g d p) ∙ rw (← n, ne_eqb k.number 0 z, ne_eqb k.number 14 m)

  module _ (z : k.number ≡ 0) {c : Checked} (e : c ≡ tell (read_trace t)) where
    rows : first (play_refusals g d (tell (read_trace t)) (length rs)) ≡ first
        ((14, not (tell (read_trace t)).well) ∷ (15, ltb (length rs) (tell (read_trace t)).calls) ∷ [])
    rows = check-then g d _ p z

    -- 14
    pub by-trace : c.well ≡ false → {r : Refusal} → r ≡ carried k 14 → (answer r 0 c.byte c.bit, d, rs) ≡ play g d t rs
    unfolding play
    by-trace w {r} q =
        let n : first (play_refusals g d (tell (read_trace t)) (length rs)) ≡ 14 = rows ∙ first-hit (not-no (sym (ap (λ (x : Checked). x.well) e) ∙ w)) 14 _ in
        (λ j. (answer (handed g d 14 p q j) 0 (e j).byte (e j).bit, d, rs)) ∙ sym (rw n)

    module _ (w : c.well ≡ true) where
      past : first (play_refusals g d (tell (read_trace t)) (length rs)) ≡ first ((15, ltb (length rs) (tell (read_trace t)).calls) ∷ [])
      past = rows ∙ first-skip (not_yes (sym (ap (λ (x : Checked). x.well) e) ∙ w)) 14 _

      calls_are : c.calls ≡ (tell (read_trace t)).calls
      calls_are = ap (λ (x : Checked). x.calls) e

      -- 15
      pub by-room : length rs < c.calls → {r : Refusal} → r ≡ carried k 15 → (answer r 0 0 0, d, rs) ≡ play g d t rs
      unfolding play
      by-room l {r} q =
          let n : first (play_refusals g d (tell (read_trace t)) (length rs)) ≡ 15 = past ∙ first-hit
          (lt-ltb (length rs) (tell (read_trace t)).calls (omega (arith, calls_are))) 15 [] in
          (λ j. (answer (handed g d 15 p q j) 0 0 0, d, rs)) ∙ sym (rw n)

      -- the session played
      pub by-calls : c.calls ≤ length rs → {d' rs' : List ℕ} → (rs', d') ≡ told g (read_trace t) d rs → (answer k c.calls 0 0, d', rs') ≡ play g d t rs
      unfolding play
      by-calls l {d'} {rs'} q =
          let n : first (play_refusals g d (tell (read_trace t)) (length rs)) ≡ 0 = past ∙ first-skip
          (le-ltb (length rs) (tell (read_trace t)).calls (omega (arith, calls_are))) 15 [] ∙ first-none in
          let v : k ≡ refusal g d 0 = handed-on g d p ∙ ap (refusal g d) z in
          let m : length (steps_of (read_trace t)) ≡ (tell (read_trace t)).calls = sym (calls-told (read_trace t)) in
          let u : told g (read_trace t) d rs ≡ (
            (played g (names_of (read_trace t)) (steps_of (read_trace t)) d).0 ++ drop (tell (read_trace t)).calls rs,
            (played g (names_of (read_trace t))
                (steps_of (read_trace t)) d).1,
          )
          = λ j. (
            (played g (names_of (read_trace t)) (steps_of (read_trace t)) d).0 ++ drop (m j) rs,
            (played g (names_of (read_trace t)) (steps_of (read_trace t)) d
                ).1,
          ) in
          (λ j. (answer (v j) (calls_are j) 0 0, ((q ∙ u) j).1, ((q ∙ u) j).0)) ∙ sym (rw n)

-- what the loop asks of the number of calls
pub steps-are : (t : List ℕ) {c : Checked} → c ≡ tell (read_trace t) → c.calls ≡ length (steps_of (read_trace t))
steps-are t e = ap (λ (x : Checked). x.calls) e ∙ calls-told (read_trace t)
