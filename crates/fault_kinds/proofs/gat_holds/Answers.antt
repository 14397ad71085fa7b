use Rattle.seek.proofs.IsWalkable.{run_fits}
use Rattle.fault_kinds.proofs.Passes.{named-all, run-taken, gat-no, gat-on, gat-end}
use Rattle.lists.specs.Tests.{is-false, is-true}
use Rattle.meaning.specs.Layout.{taken}
use Rattle.meaning.specs.Lists.{every}
use native.Mathlib.Omega.{arith}
use mathlib.Core.Path.{ap}
use Rattle.fault_kinds.proofs.gat_holds.Goals as goal

pub loop-k-init : goal.loop-k-init
loop-k-init c = let a = c.args in ap (every (taken a.disk.now.g a.disk.now.image.now)) (named-all a.disk.now.g a.disk.now.image.now a.s c.runs-n.ensures.is)

pub run_start-a-requires : goal.run_start-a-requires
run_start-a-requires c = let h = c.runs-n.ensures.small in (c.requires.0, omega arith)

pub run_length-m-requires : goal.run_length-m-requires
run_length-m-requires c = let h = c.runs-n.ensures.small in (c.requires.0, omega arith)

pub all_taken-requires : goal.all_taken-requires
all_taken-requires c = let e = c.run_start-a.ensures.is in let f = c.run_length-m.ensures.is in let q = c.runs-n.ensures.is in
    let z = run_fits c.args.disk.now.g c.args.disk.now.image.now
    c.args.s c.loop-k.k
    c.requires.1 (omega arith) in
    (omega arith)

pub returns-then-not-all_taken : goal.returns-then-not-all_taken
returns-then-not-all_taken c = let run-start = c.run_start-a in let loop-test = c.loop-k-test in let l = c.loop-k in gat-no _ _ _ _ _ l.invariant loop-test.true
    (run-taken _ _ _ _ run-start.ensures.is c.run_length-m.ensures.is (is-false c.all_taken.ensures c.if-not-all_taken.true))

pub loop-k-preserved : goal.loop-k-preserved
loop-k-preserved c = let run-start = c.run_start-a in let loop-test = c.loop-k-test in let l = c.loop-k in gat-on _ _ _ _ _ l.invariant loop-test.true
    (run-taken _ _ _ _ run-start.ensures.is c.run_length-m.ensures.is (is-true c.all_taken.ensures c.if-not-all_taken.false))

pub returns : goal.returns
returns c = gat-end _ _ _ _ _ c.loop-k.invariant c.loop-k-test.false
