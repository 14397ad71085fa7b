use Rattle.growth_search.proofs.Low.{clearing-start, clearing-fits, clearing-step, clearing-stop, clearing-end}
use native.Mathlib.Omega.{arith}
use mathlib.Core.Path.{ap}
use mathlib.Core.Bool.{not}
use Rattle.growth_search.proofs.all_clear.Goals as goal

pub loop-met-init : goal.loop-met-init
loop-met-init c = clearing-start _ _ (omega arith) (omega arith)

pub overflow_add-n : goal.overflow_add-n
overflow_add-n c = let m = c.args.disk.now.room.most in
    let f = clearing-fits _ _ {most = 18446744073709551615} c.loop-met.invariant (omega arith) (omega arith) in
    omega arith

pub returns-then-not-is_clear : goal.returns-then-not-is_clear
returns-then-not-is_clear c = clearing-stop _ _ c.loop-met.invariant (omega arith) c.is_clear.ensures (ap not c.if-not-is_clear.true)

pub loop-met-preserved : goal.loop-met-preserved
loop-met-preserved c = clearing-step _ _ c.loop-met.invariant (omega arith) (omega arith) c.is_clear.ensures (ap not c.if-not-is_clear.false)

pub returns : goal.returns
returns c = clearing-end _ _ c.loop-met.invariant (omega arith)
