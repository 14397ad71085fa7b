use Rattle.check_names.specs.Buckets.{key_of, bucket}
use Rattle.check_names.proofs.Buckets.{Searching}
use Rattle.check_names.proofs.alone.Given as goal

abbrev pub invariant-loop-x : goal.invariant-loop-x
invariant-loop-x l = Searching l.disk.g l.disk.image.now l.next (bucket l.disk.g l.disk.image.now (key_of l.disk.g l.disk.image.now l.s) l.s) l.s l.x

abbrev pub decreases-loop-x : goal.decreases-loop-x
decreases-loop-x l = l.x
