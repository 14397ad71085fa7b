use Rattle.compare.proofs.Telling.{TellingBoth}
use lib.ListN.{length, take}
use Prim.Native.Nat.{◌+◌, ◌-◌}
use Rattle.compare.proofs.told.Given as goal

abbrev pub invariant-loop-p : goal.invariant-loop-p
invariant-loop-p l = TellingBoth l.first.g l.first.image.now l.second.g l.second.image.now l.number l.left
    (take l.n l.ours) (length (take l.n l.ours)) l.i (take l.m l.theirs) (length (take l.m l.theirs)) l.j

-- each turn meets a file of one table or of both, of which there are 256 at the most
abbrev pub decreases-loop-p : goal.decreases-loop-p
decreases-loop-p l = (256 - l.i) + (256 - l.j)
