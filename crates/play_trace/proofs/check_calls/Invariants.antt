use Rattle.play_trace.proofs.Calls.{ReadingCalls}
use Rattle.play_trace.proofs.check_calls.Given as goal

abbrev pub invariant-loop-i : goal.invariant-loop-i
invariant-loop-i l = ReadingCalls l.trace l.names l.whole l.i
