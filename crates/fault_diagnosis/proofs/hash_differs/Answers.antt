use Rattle.meaning.specs.Entries.{name_of}
use Rattle.meaning.specs.Names.{hash}
use lib.Dec.{eqb}
use Prim.Native.Nat.{ℕ}
use mathlib.Core.Bool.{not}
use mathlib.Core.Path.{ap, ap₂, ◌∙◌}
use Rattle.fault_diagnosis.proofs.hash_differs.Goals as goal

pub returns : goal.returns
returns c = let a = c.args in ap₂ (λ (x y : ℕ). not (eqb x y)) c.hit.ensures.is
    (c.hash.ensures.is ∙ ap hash c.name_of-name.ensures
    ∙ ap (λ (p : ℕ). hash (name_of a.disk.now.g a.disk.now.image.now p)) c.file_of-p.ensures.0)
