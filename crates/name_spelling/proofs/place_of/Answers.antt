use Rattle.name_spelling.proofs.Comes.{tells-place, tells-no-place}
use Rattle.name_spelling.proofs.place_of.Goals as goal

pub returns-then-c-eq3 : goal.returns-then-c-eq3
returns-then-c-eq3 c = tells-place _ c.if-c-eq3.true

pub returns-else-c-eq3 : goal.returns-else-c-eq3
returns-else-c-eq3 c = tells-no-place _ c.if-c-eq3.false
