use mathlib.Core.Path.{◌≡◌}
use Prim.Native.Nat.{◌-◌}
use Rattle.meaning.specs.Entries.{runs, runs_from}
use Rattle.layout.proofs.Disk.runs.Given as goal

abbrev pub invariant-loop-k : goal.invariant-loop-k
invariant-loop-k l = runs l.self.g l.self.image.now l.s ≡ runs_from l.self.g l.self.image.now l.s (4 - l.k) l.k
