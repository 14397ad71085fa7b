use native.Mathlib.Omega.{arith}
use lib.ListN.{get_or}
use Prim.Native.Nat.{ℕ, ◌+◌}
use Rattle.meaning.specs.Layout.{field}
use mathlib.Core.Path.{ap, ◌∙◌}
use Rattle.check_walk.proofs.field_at.Goals as goal

pub returns : goal.returns
unfolding field
returns c = record {
  is = c.from.ensures ∙ ap (λ (x : ℕ). get_or c.args.disk.now.image.now (x + c.args.k) 0)
      c.requires.0.is;
  small = omega arith;
}
