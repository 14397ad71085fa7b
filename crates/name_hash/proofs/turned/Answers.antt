use native.Mathlib.Omega.{arith}
use mathlib.Core.Path.{◌∙◌}
use Rattle.name_hash.proofs.Turning.{one-turn}
use Rattle.name_hash.proofs.turned.Goals as goal

pub returns : goal.returns
returns c = c.rotate_left.ensures ∙ one-turn c.args.x (omega arith)
