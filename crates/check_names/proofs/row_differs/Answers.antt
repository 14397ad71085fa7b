use native.Mathlib.Omega.{arith}
use Rattle.check_names.proofs.Buckets.{row-end, row-found}
use Rattle.check_names.proofs.row_differs.Goals as goal

pub returns-then-not-visit : goal.returns-then-not-visit
returns-then-not-visit c = row-found _ _ _ c.visit.ensures c.if-not-visit.true

pub returns : goal.returns
returns c = row-end _ _ _ _ _ _ c.args.disk.now.room c.loop-column.invariant c.requires.0 (omega arith)
