use Rattle.meaning.specs.Kill.{kill_entry}
use Rattle.meaning.specs.Layout.{set_field, hit_at}
use Rattle.meaning.specs.Bits.{without_bit}
use Prim.Native.Nat.{ℕ}
use mathlib.Core.Path.{ap, ◌∙◌}
use mathlib.Core.List.{List}
use lib.ListN.{set}
use Rattle.space.proofs.kill_entry.Goals as goal

pub returns : goal.returns
unfolding kill_entry
returns c = let a = c.args in c.set_hit.ensures
    ∙ ap (λ (d : List ℕ). set d (hit_at a.g a.s) 0)
    (c.set_field.ensures
    ∙ ap (λ (v : ℕ). set_field a.g a.image.now a.s 0 v)
    (c.without_bit.ensures.is ∙ ap (without_bit 4)
    c.field-flags.ensures.is))
