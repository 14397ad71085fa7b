-- Nothing is to be kept from turn to turn.
use Rattle.std.proofs.Common.{◌-◌}
use Rattle.try_changing.proofs.letters.Given as goal

abbrev pub decreases-loop-letter : goal.decreases-loop-letter
decreases-loop-letter l = 0x5e - l.letter
