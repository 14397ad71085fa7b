use mathlib.Core.Path.{refl}
use Rattle.drives_told.proofs.not_opened.Goals as goal

-- src/lib.rt:163:1
pub returns : goal.returns
returns c = rw (c.handle_on.ensures, c.no_handle.ensures) refl
