use Rattle.genie.proofs.HandsBack.{names-bad, names-good}
use Rattle.meaning.specs.Names.{no_place}
use borrow.Author.Tests.{lt-ltb, le-ltb}
use Rattle.genie.proofs.genie_name.Goals as goal

pub returns-then-folded-lt-NAME_BYTES : goal.returns-then-folded-lt-NAME_BYTES
returns-then-folded-lt-NAME_BYTES c = let a = c.args in rw (lt-ltb _ _ c.if-folded-lt-NAME_BYTES.true) (λ i. (12, no_place, a.folded.now))

pub returns-then-n-ne-NO_PLACE : goal.returns-then-n-ne-NO_PLACE
returns-then-n-ne-NO_PLACE c = let a = c.args in rw (le-ltb _ _ c.if-folded-lt-NAME_BYTES.false) (names-bad a.name.now a.folded.now
    c.incoming-n.ensures c.if-n-ne-NO_PLACE.true)

pub returns : goal.returns
returns c = let a = c.args in rw (le-ltb _ _ c.if-folded-lt-NAME_BYTES.false) (names-good a.name.now a.folded.now
    c.incoming-n.ensures c.if-n-ne-NO_PLACE.false
    c.put_name.ensures)
