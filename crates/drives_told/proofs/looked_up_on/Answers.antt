use mathlib.Core.Path.{refl}
use Rattle.drives_told.proofs.looked_up_on.Goals as goal

-- src/lib.rt:91:1
pub returns : goal.returns
returns c = rw (c.naming.ensures, c.drive_of.ensures) refl
