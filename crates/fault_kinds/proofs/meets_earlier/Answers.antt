use Rattle.std.proofs.Common.{rules, arith}
use borrow.Author.Tests.{tests}
use Rattle.fault_kinds.specs.Tests.{earlier}
use Rattle.fault_kinds.specs.Overlap.{meets_earlier}
use Rattle.fault_kinds.proofs.Chains.{some-range}
use Rattle.fault_kinds.proofs.meets_earlier.Goals as goal

pub returns : goal.returns
unfolding meets_earlier
returns c = let a = c.args in
    some-range (earlier a.disk.now.g a.disk.now.image.now a.s a.k) c.any.ensures.ran (omega (arith, c.runs-n.ensures.is)) (λ x q k. search (rules, tests))
    (λ x q k. search (rules, tests))
