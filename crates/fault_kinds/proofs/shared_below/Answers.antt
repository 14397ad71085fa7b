use Rattle.std.proofs.Common.{rules, arith}
use borrow.Author.Tests.{tests}
use Rattle.fault_kinds.specs.Tests.{shares}
use Rattle.fault_kinds.proofs.Chains.{some-range}
use Rattle.fault_kinds.proofs.shared_below.Goals as goal

pub returns : goal.returns
returns c = let a = c.args in
    some-range (shares a.disk.now.g a.disk.now.image.now a.s) c.any.ensures.ran (omega arith) (λ x q k. search (rules, tests)) (λ x q k. search (rules, tests))
