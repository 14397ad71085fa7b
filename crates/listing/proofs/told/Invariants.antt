use Prim.Native.Nat.{◌-◌}
use Rattle.listing.proofs.Files.{Telling}
use Rattle.listing.proofs.told.Given as goal

abbrev pub invariant-loop-s : goal.invariant-loop-s
invariant-loop-s l = Telling l.disk.g l.disk.image.now l.number l.left l.from

abbrev pub decreases-loop-s : goal.decreases-loop-s
decreases-loop-s l = 256 - l.from
