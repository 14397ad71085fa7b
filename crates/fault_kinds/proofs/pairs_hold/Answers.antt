use Rattle.std.proofs.Common.{rules, arith}
use borrow.Author.Tests.{tests}
use Rattle.fault_kinds.specs.Tests.{pair_holds}
use Rattle.meaning.specs.Consistent.{pairs_hold}
use Rattle.fault_kinds.proofs.Chains.{every-range}
use Rattle.fault_kinds.proofs.pairs_hold.Goals as goal

pub returns : goal.returns
unfolding pairs_hold
returns c = let a = c.args in
    every-range (pair_holds a.disk.now.g a.disk.now.image.now a.s) {n = 4} c.all.ensures.ran (omega arith) (λ x q k. search (rules, tests))
    (λ x q k. search (rules, tests))
