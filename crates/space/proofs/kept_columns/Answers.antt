use Rattle.space.proofs.First.{keeps-eight, keeps-system, keeps-two, keeps-data}
use native.Mathlib.Omega.{arith}
use Rattle.space.proofs.kept_columns.Goals as goal

pub returns-in-true-0-to-3 : goal.returns-in-true-0-to-3
returns-in-true-0-to-3 c = keeps-eight _ _ c.in-true-0-to-3.is-0 (omega arith)

pub returns-in-false-eq0 : goal.returns-in-false-eq0
returns-in-false-eq0 c = keeps-two _ _ c.in-false-eq0.is-0 (omega arith)

pub returns-in_default : goal.returns-in_default
returns-in_default c = keeps-system _ _ c.in_default.is-0 (omega arith)

pub returns-in_default-2 : goal.returns-in_default-2
returns-in_default-2 c = let n = c.in_default.is-1.1 in keeps-data _ _ c.in_default.is-0 (omega arith)
