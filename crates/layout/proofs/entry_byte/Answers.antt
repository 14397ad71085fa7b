use native.Mathlib.Omega.{arith}
use lib.ListN.{get_or}
use mathlib.Core.Path.{ap, ◌∙◌}
use Prim.Native.Nat.{ℕ, ◌+◌}
use Rattle.meaning.specs.Layout.{field}
use Rattle.layout.proofs.entry_byte.Goals as goal

pub returns : goal.returns
unfolding field
returns c = let a = c.args in record {
  is = c.from.ensures ∙ ap (λ (at : ℕ). get_or a.image.now (at + a.k) 0) c.entry_at.ensures;
  small = omega arith;
}
