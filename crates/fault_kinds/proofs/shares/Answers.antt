use Rattle.layout.proofs.HasRoom.{slot-of}
use Rattle.lists.specs.Tests.{is-true, all-at}
use Rattle.fault_kinds.proofs.shares.Goals as goal

pub entries_meet-requires : goal.entries_meet-requires
entries_meet-requires c = (c.requires, slot-of _ _ _ (all-at _ (is-true c.used.ensures c.if-used.true) 0))
