use Rattle.fault_kinds.specs.Noted.{Leading}
use Rattle.fault_kinds.proofs.note_goods.Given as goal

abbrev pub invariant-loop-b : goal.invariant-loop-b
invariant-loop-b l = Leading l.disk.g l.disk.image.now l.b l.goods
