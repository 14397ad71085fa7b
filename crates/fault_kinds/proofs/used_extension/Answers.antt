use Rattle.std.proofs.Common.{arith}
use Rattle.layout.proofs.HasRoom.{slot-of}
use Rattle.lists.specs.Tests.{is-true, all-at}
use Rattle.fault_kinds.proofs.used_extension.Goals as goal

pub flag-requires : goal.flag-requires
flag-requires c = (slot-of _ _ _ (all-at _ (is-true c.used.ensures c.if-used.true) 0), omega arith)
