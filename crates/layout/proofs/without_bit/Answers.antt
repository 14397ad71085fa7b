use native.Mathlib.Omega.{arith}
use mathlib.Core.Path.{ap, ◌∙◌}
use Prim.Native.Nat.{ℕ, ◌-◌}
use lib.Bits.{bit_and}
use Rattle.layout.proofs.Bits.{shl_one, clear-bit}
use Rattle.layout.proofs.without_bit.Goals as goal

pub returns : goal.returns
returns c = let a = c.args in record {
  is = ap (λ (p : ℕ). a.b - bit_and a.b p) (shl_one a.u c.requires.1) ∙ clear-bit a.u a.b;
  small = omega arith;
}
