use lib.ListN.{set, get_or}
use mathlib.Core.Path.{ap, ◌∙◌}
use Prim.Native.Nat.{ℕ, ◌%◌}
use Rattle.meaning.specs.Bits.{with_bit}
use Rattle.meaning.specs.Layout.{take_granule}
use Rattle.layout.proofs.take_granule.Goals as goal

pub returns : goal.returns
unfolding take_granule
returns c = let a = c.args in let m = a.n % a.g.units in ap (set a.image.now
    c.gat_at-at.result) (c.with_bit.ensures.is ∙ ap (with_bit m) c.from.ensures)
    ∙ ap (λ (at : ℕ). set a.image.now at (with_bit m (get_or a.image.now at 0))) c.gat_at-at.ensures
