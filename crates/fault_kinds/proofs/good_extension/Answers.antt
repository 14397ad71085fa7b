use mathlib.Core.Path.{sym}
use Rattle.fault_kinds.proofs.good_extension.Goals as goal

pub returns : goal.returns
returns c = sym (c.requires.0.good c.args.x c.requires.1)
