-- What is promised of playing back a recorded session (02 §6), each promise as a type with a name. Nothing is proved here: `Kept` has a theorem for
-- each. What is promised of the trace by itself is in promises_trace.
--
-- It is promised what `promises` promises of every other call, in the same words: `stays`, `serves`, `refuses`, `numbers`. Beyond that, that every
-- disk between two of the calls is good (`EveryState`): so one check, before the first, is enough.
use Rattle.std.specs.Prelude.{◌≡◌, ◌≢◌, List, [], ◌∷◌, ◌++◌, ℕ, ◌+◌, ◌*◌, ◌<◌, length, take, drop}
use Rattle.promises_words.specs.Given.{AreBytes}
use Rattle.meaning.specs.declared.Geometry.{Geometry}
use Rattle.promises.specs.Promises
use Rattle.promises.specs.Promises.{Good, Stays, Table, Exactly}
use Rattle.play_trace.specs.Bits.{bits}
use Rattle.play_trace.specs.Reading.{Trace}
use Rattle.play_trace.specs.Packing.{TraceFits}
use Rattle.promises_trace.specs.First.{FirstFault}
use Rattle.promises_trace.specs.Promises.{TraceReads}
use Rattle.play_session.specs.Playing.{played, play}

-- 14 trace malformed: it has no reading. 15 no room for the results: fewer bytes than its reading has steps. After 1 and 21 to 30
abbrev pub play_table : Geometry → List ℕ → List ℕ → ℕ → Table
play_table g d t room =
    Promises.disk_cases g d ((14, ((r : Trace) → TraceReads t r → ⊥)) ∷ (15, (r : Trace) × TraceReads t r × (room < length r.steps)) ∷ [])

-- Accepted: the trace has a reading. The image is that of the single calls, one after the other; their results stand at the front of the buffer, one
-- a call, and the rest of it is as it stood.
pub record Plays (g : Geometry) (d t rs : List ℕ) : Type 0 where
  pub reading : Trace
  pub reads' : TraceReads t reading
  pub calls : (play g d t rs).0.calls ≡ length reading.steps
  pub image : (play g d t rs).1 ≡ (played g reading.names reading.steps d).1
  pub results : (play g d t rs).2 ≡ (played g reading.names reading.steps d).0 ++ drop (length reading.steps) rs

-- The place that goes with 14: 8 × byte + bit is the first bit of the first bad field, or the length in bits of a trace that breaks off (all fields
-- before it are good, and a call that is cut off is not judged). With any other number no place is told.
pub record FaultPlaced (g : Geometry) (d t rs : List ℕ) : Type 0 where
  pub place : (play g d t rs).0.refusal.number ≡ 14 → FirstFault (bits t) (8 * (play g d t rs).0.byte + (play g d t rs).0.bit)
  pub small : (play g d t rs).0.bit < 8
  pub none : (play g d t rs).0.refusal.number ≢ 14 → ((play g d t rs).0.byte ≡ 0) × ((play g d t rs).0.bit ≡ 0)

pub record PlayPromise (g : Geometry) (d t rs : List ℕ) : Type 0 where
  pub stays : Good g d → Stays g d (play g d t rs).1
  pub serves : (play g d t rs).0.refusal.number ≡ 0 → Plays g d t rs
  pub refuses : (play g d t rs).0.refusal.number ≢ 0 → ((play g d t rs).1 ≡ d) × ((play g d t rs).2 ≡ rs) × ((play g d t rs).0.calls ≡ 0)
  pub placed : FaultPlaced g d t rs
  pub numbers : Exactly (play g d t rs).0.refusal.number (play_table g d t (length rs))

-- whatever the disk, the trace and the buffer; the trace is of bytes
abbrev pub EveryPlay : Type 0
EveryPlay = (g : Geometry) (d t rs : List ℕ) → AreBytes t → PlayPromise g d t rs

-- after any number of the steps, the disk is a good one, of the same length, with the same granules reserved
abbrev pub EveryState : Type 0
EveryState = (g : Geometry) (d : List ℕ) → Good g d → (t : Trace) → TraceFits t → (k : ℕ) → Stays g d (played g t.names (take k t.steps) d).1
