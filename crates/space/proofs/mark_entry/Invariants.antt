use Rattle.meaning.specs.Entries.{runs}
use Rattle.seek.proofs.SeekSteps.{Pairs}
use Rattle.space.proofs.Folds.{ByRuns}
use Rattle.space.proofs.mark_entry.Given as goal

abbrev pub invariant-loop-j : goal.invariant-loop-j
invariant-loop-j l = let d = l.initial.image in Pairs l.g d l.s l.j × ByRuns l.g l.set d l.s (runs l.g d l.s) l.image l.j
