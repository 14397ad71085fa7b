-- What is not read (01, Directory layout; `promises_unread`), of playing back a recorded session (02 §6): two images that are alike but for such places
-- get the same answer and the same results from every trace, and the images left are alike again. This is said of any two images, consistent or not.
-- The bytes that a read of the session fetches are looked at by nobody, so that here nothing is said apart of a system file that owns granules of the
-- directory. Nothing is proved here: `Kept` has the theorem.
use Rattle.std.specs.Prelude.{◌≡◌, List, ℕ}
use Rattle.meaning.specs.declared.Geometry.{Geometry}
use Rattle.play_session.specs.Playing.{play}
use Rattle.promises_unread.specs.Statement.{Kinds, ReadAlike}

-- the answer, the image and the buffer of results; t is the trace, rs the buffer as it stood
abbrev pub EveryPlayback : Type 0
EveryPlayback =
    (u : Kinds) (g : Geometry) (d d' : List ℕ) → ReadAlike u g d d' → (t rs : List ℕ) → let x = play g d t rs in let y = play g d' t rs in
    (x.0 ≡ y.0) × ReadAlike u g x.1 y.1 × (x.2 ≡ y.2)
