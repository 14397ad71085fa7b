use Rattle.entry.proofs.EntryTests.{entry-put}
use Rattle.entry.proofs.put.Goals as goal

pub returns : goal.returns
returns c = entry-put c.args.g _ _ _ _ c.requires.2 c.requires.0 c.entry_at-at.ensures c.copy_from_slice.ensures.after c.set_hit.ensures
