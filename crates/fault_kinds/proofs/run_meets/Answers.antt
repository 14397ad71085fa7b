use Rattle.std.proofs.Common.{rules, arith}
use borrow.Author.Tests.{tests}
use Rattle.fault_kinds.specs.Overlap.{runs_meet}
use Rattle.fault_kinds.specs.Overlap.{run_meets}
use Rattle.fault_kinds.proofs.Chains.{some-range}
use Rattle.fault_kinds.proofs.run_meets.Goals as goal

pub returns : goal.returns
unfolding run_meets
returns c = let a = c.args in
    some-range (runs_meet a.disk.now.g a.disk.now.image.now a.s a.k a.t) c.any.ensures.ran (omega (arith, c.runs-n.ensures.is)) (λ x q k. search (rules, tests))
    (λ x q k. search (rules, tests))
