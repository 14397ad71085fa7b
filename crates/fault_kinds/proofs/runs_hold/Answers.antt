use Rattle.std.proofs.Common.{rules, arith}
use borrow.Author.Tests.{tests}
use Rattle.meaning.specs.Consistent.{runs_hold}
use Rattle.fault_kinds.specs.Tests.{run_holds}
use Rattle.fault_kinds.proofs.Chains.{every-range}
use Rattle.fault_kinds.proofs.runs_hold.Goals as goal

pub returns : goal.returns
unfolding runs_hold
returns c = let a = c.args in
    every-range (run_holds a.disk.now.g a.disk.now.image.now a.s) c.all.ensures.ran (omega (arith, c.runs-n.ensures.is)) (λ x q k. search (rules, tests))
    (λ x q k. search (rules, tests))
