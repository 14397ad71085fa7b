use borrow.Author.Tests.{eq-eqb, ne_eqb}
use Rattle.fault_kinds.specs.Noted.{noted}
use Rattle.fault_kinds.proofs.note.Goals as goal

pub returns-then-files-s-eq0 : goal.returns-then-files-s-eq0
unfolding noted
returns-then-files-s-eq0 c = simp (eq-eqb _ _ c.if-files-s-eq0.true)

pub returns-else-files-s-eq0 : goal.returns-else-files-s-eq0
unfolding noted
returns-else-files-s-eq0 c = simp (ne_eqb _ _ c.if-files-s-eq0.false)
