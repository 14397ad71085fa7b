use Rattle.growth_search.proofs.Low.{low-start, low-taken, low-shorter, low-longer, low-found, low-done}
use mathlib.Core.Path.{sym, ◌∙◌}
use native.Mathlib.Omega.{arith}
use Rattle.growth_search.proofs.longest_from.Goals as goal

pub loop-n-init : goal.loop-n-init
loop-n-init c = low-start _ _ c.requires

pub taken-requires : goal.taken-requires
taken-requires c = (let e = c.granules-total.ensures.0 in omega arith)

pub loop-n-preserved-then-taken : goal.loop-n-preserved-then-taken
loop-n-preserved-then-taken c = low-taken _ _ c.loop-n.invariant
    (let e = c.granules-total.ensures.0 in let t = c.loop-n-test.true in omega arith)
    (sym c.taken.ensures ∙ c.if-taken.true)

pub overflow_add-here : goal.overflow_add-here
overflow_add-here c = let s = c.loop-n.invariant.start in let m = c.args.disk.now.room.most in let e = c.granules-total.ensures.0 in
    let t = c.loop-n-test.true in omega arith

pub loop-n-preserved-then-here-long : goal.loop-n-preserved-then-here-long
loop-n-preserved-then-here-long c = low-shorter _ _ c.loop-n.invariant
    (let e = c.granules-total.ensures.0 in let t = c.loop-n-test.true in omega arith)
    (sym c.taken.ensures ∙ c.if-taken.false) c.if-here-long.true

pub overflow_sub-low : goal.overflow_sub-low
overflow_sub-low c = let s = c.loop-n.invariant.start in omega arith

pub returns-then-most-long : goal.returns-then-most-long
returns-then-most-long c = low-found _ _ (low-longer _ _ c.loop-n.invariant
    (let e = c.granules-total.ensures.0 in let t = c.loop-n-test.true in omega
    arith) (sym c.taken.ensures ∙ c.if-taken.false) c.if-here-long.false) c.if-most-long.true

pub loop-n-preserved : goal.loop-n-preserved
loop-n-preserved c = low-longer _ _ c.loop-n.invariant
    (let e = c.granules-total.ensures.0 in let t = c.loop-n-test.true in omega
    arith) (sym c.taken.ensures ∙ c.if-taken.false) c.if-here-long.false

pub returns : goal.returns
returns c = low-done _ _ c.loop-n.invariant (let e = c.granules-total.ensures.0 in let t = c.loop-n-test.false in omega arith)
