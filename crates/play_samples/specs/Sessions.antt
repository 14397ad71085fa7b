-- Sessions played back on whole disks, computed: results, and the image at the end.
use Rattle.std.specs.Prelude.{ℕ, ◌+◌, ◌≡◌, refl, List, [], ◌∷◌, ◌++◌, replicate, take}
use Rattle.meaning.specs.Refusal.{unplaced, placed}
use Rattle.meaning.specs.Calls.{number, leaves}
use Rattle.meaning_table.specs.Samples.{changed, written, three, gaps, hits, e81, opened}
use Rattle.play_trace.specs.declared.Call.{Call}
use Rattle.play_trace.specs.declared.Call.TheVariants.{Create, SequentialWrite, RandomWrite, Allot, Trim, Kill, Read}
use Rattle.play_trace.specs.declared.Step.{Step}
use Rattle.play_session.specs.Playing.{after_open, made, played, play}
use Rattle.play_session.specs.declared.Played.{Played}
use Rattle.play_samples.specs.Traces.{seen, a, step, whole}

-- every definition that is shut, of the disk, of the trace and of the playback, opened by one name
unfoldable all_seen : ℕ
unfolding opened seen number leaves after_open made played play
all_seen = 0

-- Names A, B and eleven question marks: read 0, create 0 with length 0, create 1 with length 511, create 2, read 2 with length 0, kill 2, create 0, read 0
abbrev calls : List Step
calls =
    step 0 (Read (record { position = 0; length = 256 }))
    ∷ step 0 (Create (record { length = 0 }))
    ∷ step 1 (Create (record { length = 511 }))
    ∷ step 2 (Create (record { length = 256 }))
    ∷ step 2 (Read (record { position = 0; length = 0 }))
    ∷ step 2 Kill
    ∷ step 0 (Create (record { length = 256 }))
    ∷ step 0 (Read (record { position = 0; length = 256 }))
    ∷ []

abbrev names : List (List ℕ)
names = a ∷ (0x42 ∷ replicate 10 0x20) ∷ replicate 11 0x3f ∷ []

results : (played three names calls gaps).0 ≡ 4 ∷ 12 ∷ 12 ∷ 3 ∷ 12 ∷ 3 ∷ 0 ∷ 10 ∷ []
unfolding all_seen
results = refl

-- create A, write AAA: two results at the front of the buffer, which has room for four
abbrev accepted : ℕ → Played
accepted n = record { refusal = unplaced 0; calls = n; byte = 0; bit = 0 }

session-answer : (play three gaps whole (replicate 4 0x77)).0 ≡ accepted 2
unfolding all_seen
session-answer = refl

session-results : (play three gaps whole (replicate 4 0x77)).2 ≡ 0x00 ∷ 0x00 ∷ 0x77 ∷ 0x77 ∷ []
unfolding all_seen
session-results = refl

-- room for one: 15, and nothing has run
no_room : play three gaps whole (0x77 ∷ []) ≡ (record { refusal = unplaced 15; calls = 0; byte = 0; bit = 0 }, gaps, 0x77 ∷ [])
unfolding all_seen
no_room = refl

-- cut by seven bytes: 14, at bit 208; and nothing has run
cut_short : play three gaps (take 26 whole) (replicate 4 0x77) ≡ (record { refusal = unplaced 14; calls = 0; byte = 26; bit = 0 }, gaps, replicate 4 0x77)
unfolding all_seen
cut_short = refl

-- the disk's fault comes before the trace's
faulty : (play three (changed gaps ((hits + 0x1f, 0x01) ∷ [])) (take 26 whole) []).0 ≡ record { refusal = unplaced 21; calls = 0; byte = 0; bit = 0 }
unfolding all_seen
faulty = refl

-- no call needs no room
none-to-play : play three gaps (take 12 whole ++ replicate 7 0) [] ≡ (accepted 0, gaps, [])
unfolding all_seen
none-to-play = refl
