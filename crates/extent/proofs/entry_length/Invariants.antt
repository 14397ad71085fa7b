use Rattle.extent.proofs.Measuring.{CountingRuns}
use Rattle.extent.proofs.entry_length.Given as goal

abbrev pub invariant-loop-k : goal.invariant-loop-k
invariant-loop-k l = CountingRuns l.disk.g l.disk.image.now l.s l.k l.n
