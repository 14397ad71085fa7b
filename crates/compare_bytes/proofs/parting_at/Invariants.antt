use Rattle.compare_bytes.proofs.Contents.{Matches}
use Rattle.file_runs.specs.Along.{Along}
use Prim.Native.Nat.{◌-◌, ◌≤◌}
use Rattle.compare_bytes.proofs.parting_at.Given as goal

abbrev pub invariant-loop-i : goal.invariant-loop-i
invariant-loop-i l = Matches l.first.g l.first.image.now l.second.g l.second.image.now l.s l.t l.n l.m l.end l.i
    × Along l.first.g l.first.image.now l.s l.a × (l.a.from ≤ l.i) × (l.i ≤ l.a.to)
    × Along l.second.g l.second.image.now l.t l.b × (l.b.from ≤ l.i) × (l.i ≤ l.b.to)

abbrev pub decreases-loop-i : goal.decreases-loop-i
decreases-loop-i l = l.end - l.i
