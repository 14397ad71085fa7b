use Rattle.std.proofs.Common.{rules, arith}
use borrow.Author.Tests.{tests}
use Rattle.fault_kinds.specs.Overlap.{meets_earlier}
use Rattle.fault_kinds.proofs.Chains.{some-range}
use Rattle.fault_kinds.proofs.twice.Goals as goal

pub returns : goal.returns
returns c = let a = c.args in
    some-range (meets_earlier a.disk.now.g a.disk.now.image.now a.s) c.any.ensures.ran (omega (arith, c.runs-n.ensures.is)) (λ x q k. search (rules, tests))
    (λ x q k. search (rules, tests))
