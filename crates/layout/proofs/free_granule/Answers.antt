use lib.ListN.{set, get_or}
use mathlib.Core.Path.{ap, ◌∙◌}
use Prim.Native.Nat.{ℕ, ◌%◌}
use Rattle.meaning.specs.Bits.{without_bit}
use Rattle.meaning.specs.Layout.{free_granule}
use Rattle.layout.proofs.free_granule.Goals as goal

pub returns : goal.returns
unfolding free_granule
returns c = let a = c.args in let m = a.n % a.g.units in ap (set a.image.now
    c.gat_at-at.result) (c.without_bit.ensures.is ∙ ap (without_bit m) c.from.ensures)
    ∙ ap (λ (at : ℕ). set a.image.now at (without_bit m (get_or a.image.now at 0))) c.gat_at-at.ensures
