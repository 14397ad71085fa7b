use Rattle.space.proofs.Marks.{block-marks}
use Rattle.space.specs.Marks.{put_bit}
use Rattle.meaning.specs.Lists.{count, through}
use lib.ListN.{set, get_or}
use Prim.Native.Nat.{ℕ}
use mathlib.Core.Path.{sym, ap, ◌∙◌}
use Rattle.space.proofs.mark_units.Goals as goal

pub returns : goal.returns
returns c = let a = c.args in ap (set a.image.now c.gat_at-at.result)
    (c.put_bits.ensures.is ∙ ap (λ (y : ℕ). through (put_bit a.set) y (count a.u a.n)) c.from.ensures)
    ∙ ap (λ (at : ℕ). set a.image.now at (through (put_bit a.set) (get_or a.image.now at 0) (count a.u a.n)))
    c.gat_at-at.ensures
    ∙ sym (block-marks a.g a.set a.image.now a.b a.u a.n c.requires.0
    c.requires.1)
