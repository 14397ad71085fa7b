use Rattle.refusal.proofs.Told.{tells-none, tells-it}
use Rattle.refusal.proofs.slot_told.Goals as goal

-- src/lib.rt:58:9
pub returns-then-c-eq3 : goal.returns-then-c-eq3
returns-then-c-eq3 c = tells-none _ c.if-c-eq3.true

-- src/lib.rt:54:1
pub returns : goal.returns
returns c = tells-it _ c.if-c-eq3.false
