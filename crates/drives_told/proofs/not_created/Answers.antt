use mathlib.Core.Path.{refl}
use Rattle.drives_told.proofs.not_created.Goals as goal

-- src/lib.rt:172:1
pub returns : goal.returns
returns c = rw (c.handle_on.ensures, c.no_handle.ensures) refl
