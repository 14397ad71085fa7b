use mathlib.Core.Path.{refl}
use Rattle.drives_told.proofs.unheld.Goals as goal

-- src/lib.rt:183:1
pub returns : goal.returns
returns c = rw c.no_such_drive.ensures refl
