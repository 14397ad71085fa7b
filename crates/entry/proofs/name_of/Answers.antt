use Rattle.entry.proofs.EntryTests.{name-is}
use mathlib.Core.Path.{◌∙◌}
use Rattle.entry.proofs.name_of.Goals as goal

pub returns : goal.returns
returns c = c.copy_from_slice.ensures.after ∙ name-is _ _ _ c.args.disk.now.room c.requires c.name_at-at.ensures
