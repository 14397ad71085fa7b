use lib.Bits.{bit_and}
use Prim.Native.Nat.{ℕ}
use mathlib.Core.Path.{ap}
use Rattle.check_map.proofs.among.Goals as goal

pub returns : goal.returns
returns c = record { is = ap (λ (y : ℕ). bit_and y c.args.bits) c.eight.ensures.is; bytes = c.eight.ensures.bytes }
