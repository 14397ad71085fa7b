use Rattle.play.proofs.Loop.{Playing}
use Rattle.play_trace.specs.Reading.{read_trace}
use Rattle.play.proofs.run.Given as goal

abbrev pub invariant-loop-i : goal.invariant-loop-i
invariant-loop-i l = Playing l.g (read_trace l.bytes) l.calls l.initial.image l.initial.results l.image l.results l.i
