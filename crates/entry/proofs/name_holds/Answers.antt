use Rattle.entry.proofs.EntryTests.{name-bad, name-good}
use Rattle.entry.proofs.name_holds.Goals as goal

pub returns-then-well_formed : goal.returns-then-well_formed
returns-then-well_formed c = name-good _ _ _ c.name_of.ensures c.well_formed-2.ensures c.if-well_formed.true c.flag.ensures

pub returns-else-well_formed : goal.returns-else-well_formed
returns-else-well_formed c = name-bad _ _ _ c.name_of.ensures c.well_formed-2.ensures c.if-well_formed.false
