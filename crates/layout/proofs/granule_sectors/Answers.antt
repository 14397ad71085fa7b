use Rattle.layout.proofs.OneStep.{fives}
use native.Mathlib.Omega.{arith}
use mathlib.Core.Path.{refl}
use Rattle.meaning.specs.Layout.{granule_sectors}
use Rattle.layout.proofs.granule_sectors.Goals as goal

pub returns-in-10 : goal.returns-in-10
unfolding granule_sectors
returns-in-10 c = record { is = rw c.in-10.is refl; some = omega arith; few = omega arith }

pub returns-in-20 : goal.returns-in-20
unfolding granule_sectors
returns-in-20 c = record { is = rw c.in-20.is refl; some = omega arith; few = omega arith }

pub returns-in_default : goal.returns-in_default
unfolding granule_sectors
returns-in_default c = record { is = fives {n = c.args.g.granule} (λ e. omega (arith, e)) (λ e. omega (arith, e)); some = omega arith; few = omega arith }
