use Rattle.std.proofs.Common.{rules, arith}
use borrow.Author.Tests.{tests}
use Rattle.fault_kinds.specs.Overlap.{run_meets}
use Rattle.fault_kinds.specs.Overlap.{entries_meet}
use Rattle.fault_kinds.proofs.Chains.{some-range}
use Rattle.fault_kinds.proofs.entries_meet.Goals as goal

pub returns : goal.returns
unfolding entries_meet
returns c = let a = c.args in
    some-range (run_meets a.disk.now.g a.disk.now.image.now a.s a.t) c.any.ensures.ran (omega (arith, c.runs-n.ensures.is)) (λ x q k. search (rules, tests))
    (λ x q k. search (rules, tests))
