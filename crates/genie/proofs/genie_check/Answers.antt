use Prim.Native.Nat.{ℕ}
use mathlib.Core.Path.{ap}
use Rattle.meaning.specs.declared.Refusal.{Refusal}
use Rattle.meaning.specs.declared.Geometry.{Geometry}
use Rattle.genie.specs.Exports.{exported_check}
use Rattle.genie.proofs.HandsBack.{at-disk}
use Rattle.genie.proofs.genie_check.Goals as goal

pub returns : goal.returns
returns c =
    let a = c.args in
    let the-geometry = c.geometry-g in
    let the-check = c.check-f in
    at-disk (λ (g : Geometry). exported_check g a.image.now) the-geometry.ensures (ap {B = ℕ × ℕ} (λ (c : Refusal). (c.number, c.at))
    the-check.ensures)
