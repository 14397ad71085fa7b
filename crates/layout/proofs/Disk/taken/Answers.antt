use mathlib.Core.Path.{ap, ◌∙◌}
use Prim.Native.Nat.{◌%◌}
use Rattle.meaning.specs.Bits.{bit}
use Rattle.meaning.specs.Layout.{taken}
use Rattle.layout.proofs.OneStep.{gat-low}
use native.Mathlib.Nat.{mod-lt}
use native.Mathlib.Omega.{arith}
use Rattle.layout.proofs.Disk.taken.Goals as goal

pub gat_byte-requires : goal.gat_byte-requires
gat_byte-requires c = omega (arith, gat-low c.args.self.now.g c.args.n (omega arith) (omega arith))

pub is_set-requires : goal.is_set-requires
is_set-requires c = omega (
  arith,
  mod-lt c.args.n {m = c.args.self.now.g.units} (omega arith),
)

pub returns : goal.returns
unfolding taken
returns c = let a = c.args in c.is_set.ensures ∙ ap (bit (a.n % a.self.now.g.units))
    c.gat_byte.ensures.is
