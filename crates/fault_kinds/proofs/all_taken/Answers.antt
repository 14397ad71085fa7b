use Rattle.std.proofs.Common.{rules, arith}
use borrow.Author.Tests.{tests}
use Rattle.meaning.specs.Layout.{taken}
use Rattle.fault_kinds.proofs.Chains.{every-range}
use Rattle.fault_kinds.proofs.all_taken.Goals as goal

pub returns : goal.returns
returns c = let a = c.args in
    every-range (taken a.disk.now.g a.disk.now.image.now) c.all.ensures.ran (omega arith) (λ x q k. search (rules, tests)) (λ x q k. search (rules, tests))
