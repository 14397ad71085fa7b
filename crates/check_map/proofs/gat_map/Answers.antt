use native.Mathlib.Nat.{add-zero}
use native.Mathlib.Omega.{arith}
use Rattle.check_map.proofs.Owners.{turning-start, turning-step, turning-end}
use mathlib.Core.Path.{◌∙◌}
use Prim.Native.Nat.{◌+◌}
use Rattle.check_map.proofs.gat_map.Goals as goal

-- src/lib.rt:20:9
pub gat_at-gat-requires : goal.gat_at-gat-requires
gat_at-gat-requires c = omega (arith, c.args.disk.now.room.directory)

-- src/lib.rt:22:5
pub loop-b-init : goal.loop-b-init
loop-b-init c = turning-start _ _ _ c.requires

-- src/lib.rt:23:18
pub overflow_sub-map : goal.overflow_sub-map
overflow_sub-map c = omega (arith, c.shared_slice_known-1.given (c.gat_at-gat.result + c.loop-b.b))

-- src/lib.rt:22:5
pub loop-b-preserved : goal.loop-b-preserved
loop-b-preserved c = turning-step c.loop-b.invariant c.loop-b-test.true (c.shared_slice_known-1.given _).fits

-- src/lib.rt:16:1
pub returns : goal.returns
returns c = turning-end _ _ _ c.args.disk.now.room _
    (rw (c.gat_at-gat.ensures ∙ add-zero _) at c.loop-b.invariant) c.loop-b-test.false
