use Prim.Native.Nat.{◌-◌, ◌≤◌}
use Rattle.listing.proofs.Files.{Counting}
use Rattle.listing.proofs.files_count.Given as goal

abbrev pub invariant-loop-s : goal.invariant-loop-s
invariant-loop-s l = (l.n ≤ l.from) × Counting l.disk.g l.disk.image.now l.n l.from

abbrev pub decreases-loop-s : goal.decreases-loop-s
decreases-loop-s l = 256 - l.from
