use lib.ListN.{set}
use mathlib.Core.Path.{ap}
use Prim.Native.Nat.{ℕ}
use Rattle.layout.proofs.set_hit.Goals as goal

pub returns : goal.returns
returns c = ap (λ (a : ℕ). set c.args.image.now a c.args.v) c.hit_at-at.ensures
