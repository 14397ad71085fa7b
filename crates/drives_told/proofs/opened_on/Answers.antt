use mathlib.Core.Path.{refl}
use Rattle.drives_told.proofs.opened_on.Goals as goal

-- src/lib.rt:112:1
pub returns : goal.returns
returns c = rw (c.naming.ensures, c.handle_on.ensures, c.drive_of.ensures) refl
