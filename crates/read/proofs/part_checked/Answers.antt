use Rattle.read.proofs.ReadParts.{part-is, part-ptr}
use Rattle.meaning.specs.declared.Part.{Part}
use Prim.Native.Nat.{◌+◌}
use mathlib.Core.Path.{ap, ◌∙◌}
use Rattle.read.proofs.part_checked.Goals as goal

pub returns : goal.returns
returns c = let a = c.args in let p = c.sector_checked-p.ensures.is in
    record { what = part-is a.g a.image.now a.h a.k p; place_at = λ i. (a.image.ref_ptr.0, (part-ptr _ _ ∙ ap (λ (x : Part). a.image.ref_ptr.1 + x.from) p) i) }
