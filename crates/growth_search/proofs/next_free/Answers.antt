use Rattle.growth_search.proofs.Search.{passing-start, passing_step, passing-block, passing-found, passing-end}
use Rattle.lists.specs.Tests.{is-false, is-true}
use mathlib.Core.Path.{sym, ◌∙◌}
use native.Mathlib.Omega.{arith}
use Rattle.growth_search.proofs.next_free.Goals as goal

pub loop-n-init : goal.loop-n-init
loop-n-init c = let e = c.granules-total.ensures.0 in passing-start _ _ (let w = c.requires in omega arith)

pub block_taken-requires : goal.block_taken-requires
block_taken-requires c = (let e = c.granules-total.ensures.0 in omega arith)

pub overflow_add-n : goal.overflow_add-n
overflow_add-n c = let r = c.args.disk.now.room.units-high in let m = c.args.disk.now.room.most in let e = c.granules-total.ensures.0 in omega arith

pub loop-n-smaller-then-block_taken : goal.loop-n-smaller-then-block_taken
loop-n-smaller-then-block_taken c = let r = c.args.disk.now.room.units-low in omega arith

pub loop-n-preserved-then-block_taken : goal.loop-n-preserved-then-block_taken
loop-n-preserved-then-block_taken c = let loop-test = c.loop-n-test in let l = c.loop-n in let granules = c.granules-total in
    passing-block _ _ c.args.disk.now.room.units-low l.invariant loop-test.true granules.ensures.0
    (sym c.block_taken.ensures ∙ c.if-block_taken.true)

pub taken-requires : goal.taken-requires
taken-requires c = let e = c.granules-total.ensures.0 in omega arith

pub returns-then-not-taken : goal.returns-then-not-taken
returns-then-not-taken c = let l = c.loop-n in let granules = c.granules-total in
    passing-found _ _ l.invariant granules.ensures.0 (is-false c.taken.ensures c.if-not-taken.true)

pub loop-n-preserved : goal.loop-n-preserved
loop-n-preserved c = let loop-test = c.loop-n-test in let l = c.loop-n in
    passing_step _ _ l.invariant loop-test.true (is-true c.taken.ensures c.if-not-taken.false)

pub returns : goal.returns
returns c = passing-end _ _ c.loop-n.invariant c.granules-total.ensures.0 c.loop-n-test.false
