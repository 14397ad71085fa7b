use Rattle.meaning.specs.Lists.{count, some}
use Rattle.std.proofs.Common.{List, ℕ}
use Rattle.std.proofs.Common.{rules, arith, ◌∙◌, ap}
use Rattle.fault_kinds.proofs.Chains.{some-range}
use Rattle.fault_diagnosis.specs.Told.{same_file}
use borrow.Author.Tests.{tests}
use Rattle.fault_diagnosis.proofs.name_below.Goals as goal

pub returns : goal.returns
returns c = let a = c.args in
    some-range (same_file a.disk.now.g a.disk.now.image.now c.name_of-name.result) c.any.ensures.ran (omega arith) (λ x q k. search (rules, tests))
    (λ x q k. search (rules, tests))
    ∙ ap (λ (n : List ℕ). some (same_file a.disk.now.g a.disk.now.image.now n) (count 0 a.p)) c.name_of-name.ensures
