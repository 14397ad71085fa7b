use Rattle.seek.proofs.SeekSteps.{Pairs, Seeking}
use Rattle.meaning.specs.Entries.{runs}
use Prim.Native.Nat.{◌≤◌}
use Rattle.seek.proofs.seek_entry.Given as goal

abbrev pub invariant-loop-j : goal.invariant-loop-j
invariant-loop-j l = let g = l.disk.g in let d = l.disk.image.now in (l.left ≤ l.k) × Pairs g d l.s l.j × Seeking g d l.s l.k (runs g d l.s) l.j l.left
