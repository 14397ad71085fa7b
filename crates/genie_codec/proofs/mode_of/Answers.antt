use Rattle.genie_codec.specs.Words.{mode_of}
use borrow.Author.Rules.{rules}
use Rattle.genie_codec.proofs.mode_of.Goals as goal

pub returns-then-sequential : goal.returns-then-sequential
unfolding mode_of
returns-then-sequential c = search rules

pub returns-else-sequential : goal.returns-else-sequential
unfolding mode_of
returns-else-sequential c = search rules
