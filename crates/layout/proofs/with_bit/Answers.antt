use native.Mathlib.Omega.{arith}
use mathlib.Core.Path.{ap, ◌∙◌}
use lib.Bits.{bit_or, or_lt}
use Rattle.std.proofs.lemmas.Nat.{pow_below}
use Rattle.layout.proofs.Bits.{shl_one, set-bit}
use Rattle.layout.proofs.with_bit.Goals as goal

pub returns : goal.returns
returns c = let a = c.args in let p = shl_one a.u c.requires.1 in record {
  is = ap (bit_or a.b) p ∙ set-bit a.u a.b;
  small = or_lt 8 _ _ c.requires.0 (omega (arith, p, pow_below a.u 8 c.requires.1));
}
