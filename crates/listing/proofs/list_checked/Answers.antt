use Rattle.listing.proofs.Files.{list-refused, list-accepted}
use Rattle.seek.proofs.IsWalkable.{sound}
use Rattle.passed.proofs.Checked.{checked}
use Rattle.listing.proofs.list_checked.Goals as goal

pub returns-then-checked-ne0 : goal.returns-then-checked-ne0
returns-then-checked-ne0 c = let p = c.requires in list-refused _ _ _ c.no_file.ensures p c.if-checked-ne0.true

pub invariant_of-told : goal.invariant_of-told
invariant_of-told c = let k = checked _ _ c.requires c.if-checked-ne0.false in record { room = (sound _ _ k.fits k.sound).room }

pub told-requires : goal.told-requires
told-requires c = let k = checked _ _ c.requires c.if-checked-ne0.false in sound _ _ k.fits k.sound

pub returns : goal.returns
returns c = let p = c.requires in list-accepted _ _ _ c.told.ensures p c.if-checked-ne0.false
