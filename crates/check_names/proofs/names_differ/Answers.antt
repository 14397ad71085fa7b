use native.Mathlib.Omega.{arith}
use Prim.Native.Nat.{◌*◌}
use Rattle.check_names.proofs.Buckets.{differing-start, differing-end}
use Rattle.check_names.proofs.names_differ.Goals as goal

pub loop-row-init : goal.loop-row-init
loop-row-init c = (differing-start _ _, omega arith)

pub row_differs-requires : goal.row_differs-requires
row_differs-requires c = let l = c.loop-row in (c.loop-row-test.true, l.invariant.0)

pub returns-then-not-row_differs : goal.returns-then-not-row_differs
returns-then-not-row_differs c = c.row_differs.ensures.bad c.if-not-row_differs.true

pub loop-row-preserved : goal.loop-row-preserved
loop-row-preserved c = (
  c.row_differs.ensures.good c.if-not-row_differs.false,
  omega
      arith,
)

pub returns : goal.returns
returns c = differing-end _ _ (32 * c.loop-row.row) _ _ c.loop-row.invariant.0 (omega arith)
