-- The theorem to the type of `Statement`: step by step, each step on images that the one before it left alike.
use Rattle.std.specs.Prelude.{◌≡◌, refl, Bool, not, eqb, ltb, length, get_or, replicate}
use Rattle.std.proofs.Common.{ap}
use Rattle.std.proofs.Math.Path.{subst}
use Rattle.std.proofs.Math.Bool.{true, false, cond}
use mathlib.Core.List.{List, [], ◌∷◌, ◌++◌}
use Prim.Native.Nat.{ℕ}
use Rattle.std.proofs.Math.ListN.{drop}
use Rattle.meaning.specs.Lists.{first}
use Rattle.meaning.specs.Refusals.{accepted}
use Rattle.meaning.specs.Handles.{moved_to}
use Rattle.meaning.specs.Open.{open'}
use Rattle.meaning.specs.Amount.{one_record}
use Rattle.meaning.specs.Calls as Single
use Rattle.meaning.specs.Calls.{number, leaves}
use Rattle.meaning.specs.declared.Answer.{Answer}
use Rattle.meaning.specs.declared.Counts.{Counts}
use Rattle.meaning.specs.declared.Created.{Created}
use Rattle.meaning.specs.declared.Geometry.{Geometry}
use Rattle.meaning.specs.declared.Handle.{Handle}
use Rattle.meaning.specs.declared.Listed.{Listed}
use Rattle.meaning.specs.declared.LookedUp.{LookedUp}
use Rattle.meaning.specs.declared.Mode.TheVariants.{Sequential, Random}
use Rattle.meaning.specs.declared.Part.{Part}
use Rattle.meaning.specs.declared.Refusal.{Refusal}
use Rattle.meaning.specs.declared.Space.{Space}
use Rattle.play_trace.specs.Reading.{read_trace, tell, steps_of, names_of}
use Rattle.play_trace.specs.declared.Call.{Call}
use Rattle.play_trace.specs.declared.Call.TheVariants.{Create, SequentialWrite, RandomWrite, Allot, Trim, Kill, Read}
use Rattle.play_trace.specs.declared.Checked.{Checked}
use Rattle.play_trace.specs.declared.Step.{Step}
use Rattle.play_session.specs.Playing.{longest, undated, single, after_open, made, played, play_refusals, play}
use Rattle.promises_unread.specs.Statement.{Kinds, ReadAlike, LeftAlike, Same}
use Rattle.promises_unread.specs.Answers
use Rattle.promises_unread.specs.Kept.{every_call}
use Rattle.promises_unread_play.specs.Statement.{EveryPlayback}

module _ (u : Kinds) (g : Geometry) where
  module _ (d d' : List ℕ) (a : ReadAlike u g d d') where
    -- a single call: its number is the same, and the images that it leaves are alike
    single-same : (c : Single.Call) → LeftAlike u g (single g d c) (single g d' c)
    unfolding number leaves
    single-same c = by c (every_call u g d d' a c)
      where
        by : (c : Single.Call) → Same u g d d' c → LeftAlike u g (single g d c) (single g d' c)
        by Single.Call.checks e = (ap (λ (r : Refusal). r.number) e, a)
        by (Single.Call.looks_up n) e = (ap (λ (r : LookedUp). r.refusal.number) e, a)
        by (Single.Call.opens n len checking code) e = (ap (λ (r : Answer). r.refusal.number) e, a)
        by (Single.Call.creates n f checking) e = (ap (λ (r : Created). r.refusal.number) e.0, e.1)
        by (Single.Call.reads m x b) e = (ap (λ (r : Answer). r.refusal.number) e.0, a)
        by (Single.Call.reads_sector x k) e = (ap (λ (r : Part). r.refusal.number) e, a)
        by (Single.Call.writes m w x b) e = (ap (λ (r : Answer). r.refusal.number) e.0, e.1)
        by (Single.Call.allots x k) e = (ap (λ (r : Answer). r.refusal.number) e.0, e.1)
        by (Single.Call.trims x) e = (ap (λ (r : Answer). r.refusal.number) e.0, e.1)
        by (Single.Call.kills x) e = (ap (λ (r : Answer). r.refusal.number) e.0, e.1)
        by (Single.Call.lists i) e = (ap (λ (r : Listed). r.refusal.number) e, a)
        by Single.Call.counts e = (ap (λ (r : Counts). r.refusal.number) e, a)
        by Single.Call.measures e = (ap (λ (r : Space). r.refusal.number) e, a)

    -- a fresh open, which answers the same, and the call by its handle
    open-same : (n : List ℕ) (len : ℕ) (c : Handle → Single.Call) → LeftAlike u g (after_open g d n len c) (after_open g d' n len c)
    unfolding after_open
    open-same n len c =
        let r = open' g d n len false 0 in
        subst (λ (r' : Answer). LeftAlike u g (after_open g d n len c) (further d' r')) (every_call u g d d' a (Single.Call.opens n len false 0))
        (by r (accepted r.refusal.number))
      where
        further : List ℕ → Answer → ℕ × List ℕ
        further e r = cond (accepted r.refusal.number) (single g e (c r.handle)) (r.refusal.number, e)

        by : (r : Answer) (b : Bool)
            → LeftAlike u g (cond b (single g d (c r.handle)) (r.refusal.number, d)) (cond b (single g d' (c r.handle)) (r.refusal.number, d'))
        by r true = single-same (c r.handle)
        by r false = (refl, a)

    made-same : (n : List ℕ) (c : Call) → LeftAlike u g (made g d n c) (made g d' n c)
    unfolding made
    made-same n (Create x) = single-same (Single.Call.creates n (undated x.length) false)
    made-same n (SequentialWrite x) =
        open-same n x.length (λ h. Single.Call.writes one_record Sequential (moved_to h x.position) (replicate longest x.fill))
    made-same n (RandomWrite x) =
        open-same n x.length (λ h. Single.Call.writes one_record Random (moved_to h x.position) (replicate longest x.fill))
    made-same n (Allot x) = open-same n longest (λ h. Single.Call.allots h x.sector)
    made-same n Trim = open-same n longest Single.Call.trims
    made-same n Kill = open-same n longest Single.Call.kills
    made-same n (Read x) = open-same n x.length (λ h. Single.Call.reads one_record (moved_to h x.position) (replicate longest 0))

  played-same : (ns : List (List ℕ)) (ss : List Step) (d d' : List ℕ) → ReadAlike u g d d' → LeftAlike u g (played g ns ss d) (played g ns ss d')
  unfolding played
  played-same ns [] d d' a = (refl, a)
  played-same ns (s ∷ ss) d d' a =
      let m = made-same d d' a (get_or ns s.file []) s.call in
      let r = played-same ns ss (made g d (get_or ns s.file []) s.call).1 (made g d' (get_or ns s.file []) s.call).1 m.1 in
      (λ i. m.0 i ∷ r.0 i, r.1)

  module _ (d d' : List ℕ) (a : ReadAlike u g d d') (t rs : List ℕ) where
    abbrev c : Checked
    c = tell (read_trace t)

    abbrev ran : List ℕ → List ℕ × List ℕ
    ran e = played g (names_of (read_trace t)) (steps_of (read_trace t)) e

    ran-same : LeftAlike u g (ran d) (ran d')
    ran-same = played-same (names_of (read_trace t)) (steps_of (read_trace t)) d d' a

    number_same : first (play_refusals g d c (length rs)) ≡ first (play_refusals g d' c (length rs))
    number_same = λ i. first (Answers.disk_refusals-same u g d d' a i ((14, not c.well) ∷ (15, ltb (length rs) c.calls) ∷ []))

    -- the image is changed only where the playback is accepted
    left-same : ReadAlike u g (play g d t rs).1 (play g d' t rs).1
    unfolding play
    left-same =
        subst (λ (n : ℕ). ReadAlike u g (play g d t rs).1 (cond (accepted n) (ran d').1 d')) number_same
        (by (accepted (first (play_refusals g d c (length rs)))))
      where
        by : (b : Bool) → ReadAlike u g (cond b (ran d).1 d) (cond b (ran d').1 d')
        by true = ran-same.1
        by false = a

    play-same : ((play g d t rs).0 ≡ (play g d' t rs).0) × ReadAlike u g (play g d t rs).1 (play g d' t rs).1 × ((play g d t rs).2 ≡ (play g d' t rs).2)
    unfolding play
    play-same = (
      λ i. let no = number_same i in
          record {
            refusal = Answers.refusal-same u g d d' a i no;
            calls = cond (accepted no) c.calls 0;
            byte = cond (eqb no 14) c.byte 0;
            bit = cond (eqb no 14) c.bit 0;
          },
      left-same,
      λ i. cond (accepted (number_same i)) (ran-same.0 i ++ drop c.calls rs) rs,
    )

pub every-playback : EveryPlayback
every-playback u g d d' a t rs = play-same u g d d' a t rs
