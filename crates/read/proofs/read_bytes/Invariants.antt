use Rattle.read.proofs.ReadParts.{Reading}
use lib.ListN.{length}
use Prim.Native.Nat.{◌-◌, ◌≤◌}
use mathlib.Core.Path.{◌≡◌}
use Rattle.read.proofs.read_bytes.Given as goal

abbrev pub invariant-loop-done : goal.invariant-loop-done
invariant-loop-done l = (l.done ≤ l.n) × (length l.buffer ≡ length l.initial.buffer)
    × Reading l.disk.g l.disk.image.now l.s l.i l.initial.buffer l.buffer l.done

abbrev pub decreases-loop-done : goal.decreases-loop-done
decreases-loop-done l = l.n - l.done
