use mathlib.Core.Path.{ap}
use Prim.Native.Nat.{ℕ, ◌%◌, ◌<◌}
use native.Mathlib.Nat.{mod-lt}
use native.Mathlib.Omega.{arith}
use Rattle.read.proofs.rest_of.Goals as goal

pub overflow_sub-result : goal.overflow_sub-result
overflow_sub-result c = let w = c.granule_bytes-w in let p : 0 < w.result = omega (arith, w.ensures.some) in omega (arith, mod-lt c.args.i p)

pub returns : goal.returns
returns c = let a = c.args in let w = c.granule_bytes-w in let p : 0 < w.result = omega (arith, w.ensures.some) in let q = mod-lt a.i p in
    record { is = omega (arith, q, w.ensures.is, ap (λ (v : ℕ). a.i % v) w.ensures.is); some = omega (arith, q); few = omega (arith, w.ensures.few) }
