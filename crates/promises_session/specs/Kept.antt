-- The promises are kept: a theorem for each type of `Statement`
use Rattle.std.specs.Prelude.{◌≡◌, ◌≢◌, ◌↔◌, Bool, true, false, not, cond, List, [], ◌∷◌, ◌++◌, ℕ, zero, suc, ◌+◌, ◌*◌, ◌/◌, ◌%◌, ◌≤◌, ◌<◌, eqb, ltb, take}
use Rattle.std.specs.Prelude.{drop}
use Rattle.std.proofs.Math.Path.{refl, ap, subst}
use Rattle.std.proofs.Common.{sym, ◌∙◌, arith, ltb→lt, lt→ltb, eq-eqb, ne_eqb}
use Rattle.std.proofs.Math.Decide.{ℕ_discrete}
use Rattle.std.proofs.Math.Dec.{T}
use Rattle.std.proofs.Math.ListN.{length}
use Rattle.promises_words.specs.Given.{AreBytes}
use Rattle.meaning.specs.Refusals.{first}
use Rattle.meaning.specs.declared.Geometry.{Geometry}
use Rattle.lists.specs.Members
use Rattle.laws.specs.Passed.{passed, yes-T, disk-passed}
use Rattle.promises.specs.Promises.{Good, Stays, Exactly}
use Rattle.promises.specs.Passing
use Rattle.promises.specs.Refusing
use Rattle.promises.specs.Staying as Every
use Rattle.play_trace.specs.Bits.{bits}
use Rattle.play_trace.specs.Reading.{Trace, Reading, reads, bad_at, read_trace, tell, steps_of, names_of}
use Rattle.play_trace.specs.declared.Checked.{Checked}
use Rattle.promises_trace.specs.First.{FirstFault}
use Rattle.promises_trace.specs.Promises.{TraceReads, reads-if, reads-only-if, refused-if, refused-only-if, place-only-if, calls-told, in-range}
use Rattle.play_session.specs.Playing.{played, play_refusals, play}
use Rattle.promises_session.specs.Statement.{play_table, Plays, FaultPlaced, EveryPlay, EveryState}
use Rattle.promises_session.specs.Staying.{played-stays, fit-take}

-- what the check of a trace tells, and what it has been read as
no_true : {A : Type 0} → false ≡ true → A
no_true e = absurd (Members.true-T e)

bad-told : (r : Reading Trace) → (tell r).well ≡ false → (p : ℕ) × (r ≡ bad_at p)
unfolding tell
bad-told (reads t) e = no_true (sym e)
bad-told (bad_at p) e = (p, refl)

well-reads : (r : Reading Trace) → (tell r).well ≡ true → (t : Trace) × (r ≡ reads t)
unfolding tell
well-reads (reads t) e = (t, refl)
well-reads (bad_at p) e = no_true e

module _ (t : List ℕ) (b : AreBytes t) where
  -- 14
  malformed-iff : T (not (tell (read_trace t)).well) ↔ ((r : Trace) → TraceReads t r → ⊥)
  unfolding tell
  malformed-iff = by (read_trace t) refl
    where
      by : (r : Reading Trace) → read_trace t ≡ r → T (not (tell r).well) ↔ ((r : Trace) → TraceReads t r → ⊥)
      by (reads x) e = (λ z. absurd z, λ none. none x (reads-only-if t x b e))
      by (bad_at p) e = (λ z. refused-only-if t p e, λ none. tt)

  -- 15
  full-iff : (room : ℕ) → T (ltb room (tell (read_trace t)).calls) ↔ ((r : Trace) × TraceReads t r × (room < length r.steps))
  unfolding tell
  full-iff room = by (read_trace t) refl
    where
      same : (x y : Trace) → reads x ≡ reads y → length x.steps ≡ length y.steps
      same x y e = ap (λ (r : Reading Trace). length (steps_of r)) e

      by : (r : Reading Trace) → read_trace t ≡ r → T (ltb room (tell r).calls) ↔ ((r : Trace) × TraceReads t r × (room < length r.steps))
      by (reads x) e = (
        λ z. (x, reads-only-if t x b e, ltb→lt room (length x.steps) z),
        λ y. lt→ltb room (length x.steps) (omega (arith, same x y.0 (sym e ∙ reads-if t y.0 y.1), y.2)),
      )
      by (bad_at p) e = (λ z. absurd (let q : ⊥ = omega (arith, ltb→lt room 0 z) in q), λ y. absurd (refused-only-if t p e y.0 y.1))

module _ (g : Geometry) (d t rs : List ℕ) (b : AreBytes t) where
  -- what an accepted playback has passed
  well-formed : (play g d t rs).0.refusal.number ≡ 0 → (tell (read_trace t)).well ≡ true
  unfolding play
  well-formed e = Members.T_true (yes-T (tell (read_trace t)).well (passed 14 _ _ (omega arith) (disk-passed g d _ e).1).0)

  serves : (play g d t rs).0.refusal.number ≡ 0 → Plays g d t rs
  unfolding play tell
  serves e = by (well-reads (read_trace t) (well-formed e))
    where
      by : (x : Trace) × (read_trace t ≡ reads x) → Plays g d t rs
      by (x, q) = record {
        reading = x;
        reads' = reads-only-if t x b q;
        calls = rw (e, q);
        image = rw (e, q);
        results = rw (e, q);
      }

  refuses : (play g d t rs).0.refusal.number ≢ 0 → ((play g d t rs).1 ≡ d) × ((play g d t rs).2 ≡ rs) × ((play g d t rs).0.calls ≡ 0)
  unfolding play
  refuses k = (
    Passing.other-case (play g d t rs).0.refusal.number _ d k,
    Passing.other-case (play g d t rs).0.refusal.number _ rs k,
    Passing.other-case (play g d t rs).0.refusal.number _ 0 k,
  )

  stays : Good g d → Stays g d (play g d t rs).1
  stays o = go (ℕ_discrete (play g d t rs).0.refusal.number 0)
    where
      go : Dec ((play g d t rs).0.refusal.number ≡ 0) → Stays g d (play g d t rs).1
      go (yes e) =
          let p = serves e in
          subst (Stays g d) (sym p.image) (played-stays g p.reading.names _ p.reading.steps d p.reads'.in_range.steps o)
      go (no n) = subst (Stays g d) (sym (refuses n).0) (Every.stays_same g d o)

  numbers : Exactly (play g d t rs).0.refusal.number (play_table g d t (length rs))
  unfolding play
  numbers =
      let cs = play_refusals g d (tell (read_trace t)) (length rs) in
      Refusing.exactly cs (play_table g d t (length rs))
      (Refusing.disk-reading g d (Refusing.own_rows cs) (Refusing.own_cases (play_table g d t (length rs)))
      (refl, λ x. malformed-iff t b, (refl, λ x. full-iff t b (length rs), tt))) tt

  -- the place
  here : (play g d t rs).0.refusal.number ≡ 14 → (p : ℕ) × (read_trace t ≡ bad_at p)
  here e = refused-if t b (numbers.1.1.1.1.1.1.1.1.1.1.1.0.0 e).1

  placed : FaultPlaced g d t rs
  unfolding play tell
  placed = record { place = λ e. at e (here e); small = below (read_trace t); none = λ k. (rw (ne_eqb _ 14 k), rw (ne_eqb _ 14 k)) }
    where
      at : (play g d t rs).0.refusal.number ≡ 14 → (p : ℕ) × (read_trace t ≡ bad_at p) → FirstFault (bits t)
          (8 * (play g d t rs).0.byte + (play g d t rs).0.bit)
      at e (p, q) =
          let z : 8 * (play g d t rs).0.byte + (play g d t rs).0.bit ≡ p = rw (e, q) (omega arith) in
          subst (FirstFault (bits t)) (sym z) (place-only-if t p q)

      below : (r : Reading Trace) → cond (eqb (play g d t rs).0.refusal.number 14) (tell r).bit 0 < 8
      below r = either (eqb (play g d t rs).0.refusal.number 14) r
        where
          either : (c : Bool) (r : Reading Trace) → cond c (tell r).bit 0 < 8
          either true (reads x) = omega arith
          either true (bad_at p) = omega arith
          either false r = omega arith

pub every-play : EveryPlay
every-play g d t rs b = record {
  stays = stays g d t rs b;
  serves = serves g d t rs b;
  refuses = refuses g d t rs b;
  placed = placed g d t rs b;
  numbers = numbers g d t rs b;
}

pub every-state : EveryState
every-state g d o t r k = played-stays g t.names _ (take k t.steps) d (fit-take _ k t.steps r.steps) o
