use Rattle.check_met.proofs.SlotMap.{hit-copied}
use mathlib.Core.Path.{◌∙◌}
use native.Mathlib.Nat.{add-zero}
use native.Mathlib.Omega.{arith}
use Rattle.check_met.proofs.copy_hit.Goals as goal

pub returns : goal.returns
returns c = hit-copied c.args.disk.now.g c.args.disk.now.room (c.hit_at-hit.ensures ∙ add-zero _) (omega arith) c.copy_from_slice.ensures.after
