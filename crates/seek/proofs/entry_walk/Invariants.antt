use Rattle.seek.proofs.SeekSteps.{Walking}
use Rattle.seek.proofs.entry_walk.Given as goal

abbrev pub invariant-loop : goal.invariant-loop
invariant-loop l = Walking l.disk.g l.disk.image.now l.s l.k l.left l.at l.seek l.counter
