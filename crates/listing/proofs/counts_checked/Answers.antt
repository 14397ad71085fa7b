use Rattle.listing.proofs.Files.{counts-refused, counts-accepted}
use Rattle.passed.proofs.Checked.{checked, checked-room}
use Rattle.listing.proofs.counts_checked.Goals as goal

pub returns-then-checked-ne0 : goal.returns-then-checked-ne0
returns-then-checked-ne0 c = counts-refused _ _ c.requires c.if-checked-ne0.true

pub invariant_of-disk : goal.invariant_of-disk
invariant_of-disk c = record { room = checked-room _ _ (checked _ _ c.requires c.if-checked-ne0.false) }

pub returns : goal.returns
returns c = let p = c.requires in counts-accepted _ _ p c.if-checked-ne0.false c.files_count.ensures c.free_count.ensures
