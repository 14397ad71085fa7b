use Rattle.check_map.proofs.Owners.{Taking}
use Prim.Native.Nat.{◌+◌, ◌*◌}
use Rattle.check_map.proofs.take_blocks.Given as goal

abbrev pub invariant-loop-u : goal.invariant-loop-u
invariant-loop-u l = Taking l.units l.initial.map (l.block * l.units + l.unit) l.n l.map l.b l.u l.left

abbrev pub decreases-loop-u : goal.decreases-loop-u
decreases-loop-u l = l.left
