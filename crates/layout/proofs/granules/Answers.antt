use native.Mathlib.Omega.{arith}
use mathlib.Core.Path.{refl}
use Rattle.layout.proofs.OneStep.{below}
use Rattle.meaning.specs.Layout.{granules, most_blocks, most_units}
use Rattle.layout.proofs.granules.Goals as goal

pub overflow_mul-result : goal.overflow_mul-result
overflow_mul-result c = omega (arith, below c.args.g.blocks c.args.g.units most_blocks most_units (omega arith) (omega arith))

pub returns : goal.returns
unfolding granules
returns c = (refl, below c.args.g.blocks c.args.g.units most_blocks most_units (omega arith) (omega arith))
