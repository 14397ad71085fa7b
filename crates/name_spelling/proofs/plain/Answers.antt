use lib.Dec.{eqb}
use mathlib.Core.Bool.{Bool, ◌||◌}
use mathlib.Core.Path.{ap}
use Rattle.name_spelling.proofs.plain.Goals as goal

pub returns : goal.returns
returns c = ap (λ (b : Bool). eqb c.args.x 0x20 || b) c.letter.ensures
