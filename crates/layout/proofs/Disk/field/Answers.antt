use native.Mathlib.Omega.{arith}
use Rattle.meaning.specs.Layout.{field}
use Rattle.layout.proofs.Disk.field.Goals as goal

pub returns : goal.returns
unfolding field
returns c = record { is = c.from.ensures; small = omega arith }
