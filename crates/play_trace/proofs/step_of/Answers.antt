use Rattle.play_trace.proofs.NumbersTell.{step-1, step-2, step-3, step-4, step-5, step-6, step-7}
use native.Mathlib.Omega.{arith}
use Rattle.play_trace.proofs.step_of.Goals as goal

-- src/lib.rt:184:1
pub returns-in-1 : goal.returns-in-1
returns-in-1 c = step-1 c.args.m c.in-1.is

-- src/lib.rt:184:1
pub returns-in-2 : goal.returns-in-2
returns-in-2 c = step-2 c.args.m c.in-2.is

-- src/lib.rt:184:1
pub returns-in-3 : goal.returns-in-3
returns-in-3 c = step-3 c.args.m c.in-3.is

-- src/lib.rt:184:1
pub returns-in-4 : goal.returns-in-4
returns-in-4 c = step-4 c.args.m c.in-4.is

-- src/lib.rt:184:1
pub returns-in-5 : goal.returns-in-5
returns-in-5 c = step-5 c.args.m c.in-5.is

-- src/lib.rt:184:1
pub returns-in-6 : goal.returns-in-6
returns-in-6 c = step-6 c.args.m c.in-6.is

-- src/lib.rt:184:1
pub returns-in_default : goal.returns-in_default
returns-in_default c = step-7 c.args.m (omega arith) (omega arith) (omega arith) (omega arith) (omega arith) (omega arith)
