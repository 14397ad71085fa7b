use Rattle.std.proofs.Common.{rules, arith}
use borrow.Author.Tests.{tests}
use Rattle.fault_kinds.specs.Tests.{run_in}
use Rattle.fault_kinds.proofs.Chains.{some-range}
use Rattle.fault_kinds.proofs.entry_in.Goals as goal

pub returns : goal.returns
returns c = let a = c.args in
    some-range (run_in a.disk.now.g a.disk.now.image.now a.b a.m a.s) c.any.ensures.ran (omega (arith, c.runs-n.ensures.is)) (λ x q k. search (rules, tests))
    (λ x q k. search (rules, tests))
