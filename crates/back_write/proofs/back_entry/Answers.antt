use Rattle.meaning.specs.BringBack.{back_entry}
use Rattle.meaning.specs.Layout.{set_field, hit_at}
use Rattle.meaning.specs.Bits.{with_bit}
use Prim.Native.Nat.{ℕ}
use mathlib.Core.Path.{ap, ◌∙◌}
use mathlib.Core.List.{List}
use lib.ListN.{set}
use Rattle.back_write.proofs.back_entry.Goals as goal

pub returns : goal.returns
unfolding back_entry
returns c = let a = c.args in c.set_hit.ensures
    ∙ ap (λ (d : List ℕ). set d (hit_at a.g a.s) a.h)
    (c.set_field.ensures
    ∙ ap (λ (v : ℕ). set_field a.g a.image.now a.s 0 v)
    (c.with_bit-flags.ensures.is ∙ ap (with_bit 4)
    c.field.ensures.is))
