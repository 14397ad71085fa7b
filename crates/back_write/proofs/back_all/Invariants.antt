use Rattle.back_write.proofs.Frame.{Backing}
use lib.ListN.{length}
use Rattle.back_write.proofs.back_all.Given as goal

abbrev pub invariant-loop-back : goal.invariant-loop-back
invariant-loop-back l = Backing l.g l.h l.initial.image l.entries l.image l.back-index (length l.entries)
