use Rattle.load_record.proofs.Passing.{PassingRecords}
use Rattle.load_record.specs.Program.{Looked}
use Rattle.load.specs.Load.{bytes_of}
use Prim.Native.Nat.{◌-◌, ◌<◌}
use Rattle.load_record.proofs.next_record.Given as goal

abbrev pub invariant-loop-x : goal.invariant-loop-x
invariant-loop-x l = (l.p < 16777216) × Looked (bytes_of l.disk.g l.disk.image.now l.s) l.p l.x
    × PassingRecords (bytes_of l.disk.g l.disk.image.now l.s) l.i l.p

abbrev pub decreases-loop-x : goal.decreases-loop-x
decreases-loop-x l = l.size - l.p
