-- Play back a recorded session (02 §6): the single calls of the trace's steps, one after the other, each on the disk that the one before it left.
-- "Each call in the trace is one of seven .. Dates and codes are zero, checking is off, and handles come from a fresh open before each call but
-- create, with the call's length, or 256 where it uses none; writes and read then set the position; a refused open is that call's result. The answer
-- lists one result number a call, 0 for accepted, none for the end mark; a refused call doesn't stop the playback. The final image equals that of the
-- single calls. .. A trace that is bad, or ends without operation 0, is refused before anything runs .. Refusals: 14, trace malformed, with the
-- position .. after 2; 15, no room for the results, after 14."
use Prim.Native.Nat.{ℕ, suc}
use Rattle.std.specs.Prelude.{◌≡◌, Bool, false, not, cond, eqb, ltb, length, get_or, drop, replicate}
use Rattle.std.proofs.Math.Path.{refl, ap}
use mathlib.Core.List.{List, [], ◌∷◌, ◌++◌}
use Rattle.meaning.specs.Refusals
use Rattle.meaning.specs.Handles
use Rattle.meaning.specs.Open.{open'}
use Rattle.meaning.specs.Amount.{one_record}
use Rattle.meaning.specs.Calls as Single
use Rattle.meaning.specs.Calls.Call.{creates, writes, allots, trims, kills}
use Rattle.meaning.specs.declared.Geometry.{Geometry}
use Rattle.meaning.specs.declared.Handle.{Handle}
use Rattle.meaning.specs.declared.NewFile.{NewFile}
use Rattle.meaning.specs.declared.Mode.TheVariants.{Sequential, Random}
use Rattle.play_trace.specs.Reading.{read_trace, tell, steps_of, names_of}
use Rattle.play_trace.specs.declared.Call.{Call}
use Rattle.play_trace.specs.declared.Call.TheVariants.{Create, SequentialWrite, RandomWrite, Allot, Trim, Kill, Read}
use Rattle.play_trace.specs.declared.Step.{Step}
use Rattle.play_trace.specs.declared.Checked.{Checked}
use Rattle.play_session.specs.declared.Played.{Played}

-- "256 where it uses none": the longest record, and so the room of the buffers that the playback lends
abbrev pub longest : ℕ
longest = 256

-- "dates and codes are zero": a new file of that record length
abbrev pub undated : ℕ → NewFile
undated len = record { day = 0; month = 0; year = 0; len = len; main = 0; worker = 0 }

module _ (g : Geometry) (d : List ℕ) where
  -- a single call: its number, and the image that it leaves
  abbrev pub single : Single.Call → ℕ × List ℕ
  single c = (Single.number g d c, Single.leaves g d c)

  -- a fresh open, checking off, then the call by its handle; a refused open is the result
  unfoldable pub after_open : List ℕ → ℕ → (Handle → Single.Call) → ℕ × List ℕ
  after_open n len c = let a = open' g d n len false 0 in cond (Refusals.accepted a.refusal.number) (single (c a.handle)) (a.refusal.number, d)

  -- Each of the seven on the file called n. A write is lent a buffer full of its fill byte; a read's buffer is looked at by nobody.
  unfoldable pub made : List ℕ → Call → ℕ × List ℕ
  made n (Create a) = single (creates n (undated a.length) false)
  made n (SequentialWrite a) = after_open n a.length (λ h. writes one_record Sequential (Handles.moved_to h a.position) (replicate longest a.fill))
  made n (RandomWrite a) = after_open n a.length (λ h. writes one_record Random (Handles.moved_to h a.position) (replicate longest a.fill))
  made n (Allot a) = after_open n longest (λ h. allots h a.sector)
  made n Trim = after_open n longest trims
  made n Kill = after_open n longest kills
  made n (Read a) = after_open n a.length (λ h. Single.Call.reads one_record (Handles.moved_to h a.position) (replicate longest 0))

module _ (g : Geometry) (ns : List (List ℕ)) where
  -- a step: its call on the file whose name has its number
  abbrev pub stepped : List ℕ → Step → ℕ × List ℕ
  stepped d s = made g d (get_or ns s.file []) s.call

  -- The steps in turn: their results, and the image at the end.
  unfoldable pub played : List Step → List ℕ → List ℕ × List ℕ
  played [] d = ([], d)
  played (s ∷ ss) d = let a = stepped d s in let b = played ss a.1 in (a.0 ∷ b.0, b.1)

  -- "one result number a call"
  pub one_each : (ss : List Step) (d : List ℕ) → length (played ss d).0 ≡ length ss
  unfolding played
  one_each [] d = refl
  one_each (s ∷ ss) d = ap suc (one_each ss (stepped d s).1)

-- 14: trace malformed. 15: no room for the results, one byte a call; `room` is the buffer's length.
abbrev pub play_refusals : Geometry → List ℕ → Checked → ℕ → List (ℕ × Bool)
play_refusals g d c room = Refusals.disk_refusals g d ((14, not c.well) ∷ (15, ltb room c.calls) ∷ [])

-- The answer, the image, and the buffer of results: those that are not told stand in it as they stood.
unfoldable pub play : Geometry → List ℕ → List ℕ → List ℕ → Played × List ℕ × List ℕ
play g d t rs =
    let r = read_trace t in let c = tell r in
    let no = Refusals.first (play_refusals g d c (length rs)) in
    let p = played g (names_of r) (steps_of r) d in (
      record {
        refusal = Refusals.refusal g d no;
        calls = cond (Refusals.accepted no) c.calls 0;
        byte = cond (eqb no 14) c.byte 0;
        bit = cond (eqb no 14) c.bit 0;
      },
      cond (Refusals.accepted no) p.1 d,
      cond (Refusals.accepted no) (p.0 ++ drop c.calls rs) rs,
    )
