use Rattle.growth.proofs.Turns.{TurningOn}
use Rattle.growth.proofs.take_granules.Given as goal

abbrev pub invariant-loop-left : goal.invariant-loop-left
invariant-loop-left l = TurningOn l.g l.p l.lowest
    l.writes l.k l.initial.image l.image l.last l.runs l.after l.long l.next l.most l.slot l.left

abbrev pub decreases-loop-left : goal.decreases-loop-left
decreases-loop-left l = l.left
