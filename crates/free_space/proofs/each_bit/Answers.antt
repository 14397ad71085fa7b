use native.Mathlib.Omega.{arith}
use Rattle.free_space.proofs.GatPass.{bits-more, bits_none, met-few}
use Rattle.free_space.proofs.each_bit.Goals as goal

pub met-q-requires : goal.met-q-requires
met-q-requires c = let r = c.requires.few in let i = c.loop.invariant.1 in record { few = omega arith }

pub loop-preserved : goal.loop-preserved
loop-preserved c = (
  bits-more _ _ _ _ _ _ c.loop.invariant.0 c.loop-test.true c.met-q.ensures,
  (let k = met-few _ _ _ c.met-q.ensures in let i = c.loop.invariant.1 in omega arith),
)

pub returns : goal.returns
returns c = record { is = bits_none _ _ _ _ _ c.loop.invariant.0 c.loop-test.false; few = let i = c.loop.invariant.1 in omega arith }
