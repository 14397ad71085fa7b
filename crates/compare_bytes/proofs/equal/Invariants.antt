use Rattle.compare_bytes.proofs.Contents.{SameSoFar}
use Rattle.compare_bytes.proofs.equal.Given as goal

abbrev pub invariant-loop-i : goal.invariant-loop-i
invariant-loop-i l = SameSoFar l.a l.b l.i l.same
