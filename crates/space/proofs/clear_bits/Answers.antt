use Rattle.space.proofs.Clear.{shl_wide, clear-ones}
use lib.Count.{ones}
use lib.Pow.{pow_pos}
use Prim.Native.Nat.{ℕ, ◌%◌}
use mathlib.Core.Path.{ap}
use native.Mathlib.Omega.{arith}
use Rattle.space.proofs.clear_bits.Goals as goal

pub nonzero_rem-low : goal.nonzero_rem-low
nonzero_rem-low c = let e = shl_wide c.args.bits c.requires in let p = pow_pos c.args.bits in omega arith

pub overflow_cast-result : goal.overflow_cast-result
overflow_cast-result c = let e = ap (λ (k : ℕ). ones (c.args.byte % k)) (shl_wide c.args.bits c.requires) in
    let q = clear-ones c.args.bits c.args.byte in
    omega arith

pub overflow_sub-result : goal.overflow_sub-result
overflow_sub-result c = let e = ap (λ (k : ℕ). ones (c.args.byte % k)) (shl_wide c.args.bits c.requires) in
    let q = clear-ones c.args.bits c.args.byte in
    omega arith

pub returns : goal.returns
returns c = let e = ap (λ (k : ℕ). ones (c.args.byte % k)) (shl_wide c.args.bits c.requires) in let q = clear-ones c.args.bits c.args.byte in
    (omega arith, omega arith)
