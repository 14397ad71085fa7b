use Rattle.listing.proofs.Files.{told_is}
use Rattle.listing.proofs.tell.Goals as goal

pub returns : goal.returns
returns c = told_is _ _ c.args.s c.none.ensures c.name_of.ensures c.size_of.ensures.is
    c.measure.ensures.many
