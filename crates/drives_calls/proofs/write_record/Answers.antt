use Rattle.std.proofs.Common.{arith}
use Rattle.drives.specs.ByHandle.{write_on, write_record}
use Rattle.drives.specs.Pair.{pair}
use Rattle.drives_calls.proofs.OnDrive.{changed-0, changed-1, unchanged}
use Rattle.drives_calls.proofs.write_record.Goals as goal

pub returns-in-0 : goal.returns-in-0
unfolding write_record
returns-in-0 c =
    let a = c.args in
    let the-write-record = c.write_record in
    let p = pair a.g0 a.image0.now a.g1 a.image1.now in
    changed-0 p a.h (write_on p a.mode a.h a.buffer.now)
    c.in-0.is c.answered.ensures the-write-record.ensures

pub returns-in-1 : goal.returns-in-1
unfolding write_record
returns-in-1 c =
    let a = c.args in
    let the-write-record2 = c.write_record-in-1 in
    let p = pair a.g0 a.image0.now a.g1 a.image1.now in
    changed-1 p a.h (write_on p a.mode a.h a.buffer.now)
    (λ z. let e = c.in-1.is in omega (arith, z, e)) c.in-1.is c.answered-in-1.ensures the-write-record2.ensures

pub returns-in_default : goal.returns-in_default
unfolding write_record
returns-in_default c =
    let a = c.args in
    let p = pair a.g0 a.image0.now a.g1 a.image1.now in
    unchanged p a.h (write_on p a.mode a.h a.buffer.now)
    (λ z. let e = c.in_default in omega (arith, z, e)) (λ z. let e = c.in_default in omega (arith, z, e)) c.unheld.ensures
