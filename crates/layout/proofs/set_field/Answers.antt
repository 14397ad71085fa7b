use lib.ListN.{set}
use mathlib.Core.Path.{ap}
use Prim.Native.Nat.{ℕ, ◌+◌}
use Rattle.meaning.specs.Layout.{set_field}
use Rattle.layout.proofs.set_field.Goals as goal

pub returns : goal.returns
unfolding set_field
returns c = ap (λ (a : ℕ). set c.args.image.now (a + c.args.k)
    c.args.v) c.entry_at-at.ensures
