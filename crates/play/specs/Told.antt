-- What the calls of a trace leave: the buffer of results and the image.
use Rattle.std.specs.Prelude.{List, ◌++◌, ℕ, length, drop}
use Rattle.meaning.specs.declared.Geometry.{Geometry}
use Rattle.play_trace.specs.Reading.{Reading, Trace, steps_of, names_of}
use Rattle.play_session.specs.Playing.{played}

-- the results at the front of the buffer, the rest of it as it stood; the image after the last call
abbrev pub told : Geometry → Reading Trace → List ℕ → List ℕ → List ℕ × List ℕ
told g r d rs = ((played g (names_of r) (steps_of r) d).0 ++ drop (length (steps_of r)) rs, (played g (names_of r) (steps_of r) d).1)
