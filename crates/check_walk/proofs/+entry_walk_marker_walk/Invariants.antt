use Prim.Native.Nat.{◌+◌, ◌*◌}
use Rattle.check_walk.proofs.+entry_walk_marker_walk.Given as goal

abbrev pub decreases-entry_walk : goal.decreases-entry_walk
decreases-entry_walk l = 2 * l.left

abbrev pub decreases-marker_walk : goal.decreases-marker_walk
decreases-marker_walk l = 2 * l.left + 1
