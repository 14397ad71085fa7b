use mathlib.Core.Bool.{false}
use Rattle.create.proofs.refused.Goals as goal

pub returns : goal.returns
returns c = λ i. record { refusal = c.args.refusal; old = false; handle = c.no_handle.ensures i }
