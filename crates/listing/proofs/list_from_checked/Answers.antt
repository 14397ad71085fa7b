use Rattle.passed.proofs.Checked.{checked}
use Rattle.seek.proofs.IsWalkable.{sound}
use Rattle.listing.proofs.Rows.{rows-refused, rows_short, rows-accepted}
use Rattle.listing.proofs.list_from_checked.Goals as goal

pub returns-then-checked-ne0 : goal.returns-then-checked-ne0
returns-then-checked-ne0 c = let p = c.requires in rows-refused _ _ _ _ p c.if-checked-ne0.true

pub returns-then-table-lt-ROW_BYTES : goal.returns-then-table-lt-ROW_BYTES
returns-then-table-lt-ROW_BYTES c = let p = c.requires in rows_short _ _ _ _ p c.if-checked-ne0.false c.if-table-lt-ROW_BYTES.true
    c.refusal.ensures

pub invariant_of-put_rows : goal.invariant_of-put_rows
invariant_of-put_rows c = let k = checked _ _ c.requires c.if-checked-ne0.false in record { room = (sound _ _ k.fits k.sound).room }

pub put_rows-requires : goal.put_rows-requires
put_rows-requires c = let p = c.requires in let k = checked _ _ p c.if-checked-ne0.false in sound _ _ k.fits k.sound

pub returns : goal.returns
returns c = let if2 = c.if-table-lt-ROW_BYTES in let if1 = c.if-checked-ne0 in let p = c.requires in rows-accepted _ _ _ _ p
    if1.false if2.false c.put_rows.ensures
