use native.Mathlib.Omega.{arith}
use Rattle.check_names.specs.Buckets.{key}
use Rattle.check_names.proofs.key.Goals as goal

pub returns : goal.returns
unfolding key
returns c = record { is = simp (c.eight.ensures.is, c.eight-2.ensures.is); small = omega arith }
