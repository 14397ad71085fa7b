use native.Mathlib.Omega.{arith}
use lib.ListN.{get_or}
use mathlib.Core.Path.{ap, ◌∙◌}
use Prim.Native.Nat.{ℕ}
use Rattle.meaning.specs.Layout.{hit}
use Rattle.layout.proofs.Disk.hit.Goals as goal

pub returns : goal.returns
unfolding hit
returns c = record { is = c.from.ensures ∙ ap (λ (at : ℕ). get_or c.args.self.now.image.now at 0) c.hit_at.ensures; small = omega arith }
