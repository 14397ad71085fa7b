use Rattle.std.proofs.Common.{arith}
use Rattle.layout.proofs.HasRoom.{slot-of}
use Rattle.lists.specs.Tests.{is-true}
use Rattle.fault_kinds.proofs.used.Goals as goal

pub flag-requires : goal.flag-requires
flag-requires c = (slot-of _ _ _ (is-true c.is_slot.ensures c.if-is_slot.true), omega arith)
