use Rattle.entry.proofs.EntryTests.{size-bad, size-good}
use Rattle.entry.proofs.size_holds.Goals as goal

pub returns-then-count_holds : goal.returns-then-count_holds
returns-then-count_holds c = size-good _ _ _ c.count_holds.ensures c.if-count_holds.true c.size_of.ensures.is c.granule_bytes.ensures.is c.requires.2

pub returns-else-count_holds : goal.returns-else-count_holds
returns-else-count_holds c = size-bad _ _ _ c.count_holds.ensures c.if-count_holds.false
