use Prim.Native.Nat.{◌≤◌}
use mathlib.Core.Path.{◌≡◌}
use lib.ListN.{length, drop}
use Rattle.copy.proofs.OneByOne.{over}
use Rattle.copy.proofs.copy_into.Given as goal

abbrev pub invariant-loop-i : goal.invariant-loop-i
invariant-loop-i l =
    (l.part ≡ over l.initial.part (drop l.from l.src) l.i) × (l.i ≤ length l.initial.part) × (length l.part ≡ length l.initial.part)
