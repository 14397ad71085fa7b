use Rattle.file_runs.specs.Along.{Past}
use Rattle.file_runs.proofs.next.Given as goal

abbrev pub invariant-loop-pair : goal.invariant-loop-pair
invariant-loop-pair l = Past l.disk.g l.disk.image.now l.s l.c.to l.slot l.pair l.left

abbrev pub decreases-loop-pair : goal.decreases-loop-pair
decreases-loop-pair l = l.left
