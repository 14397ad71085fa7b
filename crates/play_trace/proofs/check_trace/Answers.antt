use Rattle.std.proofs.lemmas.Grind.{common_steps}
use lib.ListN.{length}
use Prim.Native.Nat.{◌≤◌}
use native.Mathlib.Omega.{arith}
use Rattle.play_trace.proofs.Front.{told_none, told-few, told-many, told-cut, told-calls}
use Rattle.play_trace.proofs.check_trace.Goals as goal

-- src/lib.rt:275:9
pub returns-then-is_empty : goal.returns-then-is_empty
returns-then-is_empty c = told_none c.args.trace.now (grind (arith, common_steps))

-- src/lib.rt:284:9
pub returns-then-names-lt1 : goal.returns-then-names-lt1
returns-then-names-lt1 c = let if1 : 1 ≤ length c.args.trace.now = grind (arith, common_steps) in let a = c.args in
    told-few a.trace.now if1 c.from-names.ensures (omega arith) c.if-names-lt1.true

-- src/lib.rt:292:9
pub returns-then-names-gt32 : goal.returns-then-names-gt32
returns-then-names-gt32 c = let if1 : 1 ≤ length c.args.trace.now = grind (arith, common_steps) in let a = c.args in
    told-many a.trace.now if1 c.from-names.ensures (omega arith) c.if-names-lt1.false
    c.if-names-gt32.true

-- src/lib.rt:300:9
pub returns-then-trace-names : goal.returns-then-trace-names
returns-then-trace-names c = let from = c.from-names in let if1 : 1 ≤ length c.args.trace.now = grind (arith, common_steps) in let a = c.args in
    told-cut a.trace.now if1 from.ensures (omega arith) c.if-names-lt1.false c.if-names-gt32.false c.if-trace-names.true

-- src/lib.rt:271:1
pub returns : goal.returns
returns c = let if2 = c.if-names-lt1 in let from = c.from-names in let if1 : 1 ≤ length c.args.trace.now = grind (arith, common_steps) in let a = c.args in
    told-calls a.trace.now if1 from.ensures (omega arith) if2.false c.if-names-gt32.false c.if-trace-names.false
    c.check_calls.ensures
