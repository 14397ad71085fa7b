use Rattle.std.proofs.Common.{arith}
use Rattle.drives.specs.ByHandle.{read_on, read_record}
use Rattle.drives.specs.Pair.{pair}
use Rattle.drives_calls.proofs.OnDrive.{read-0, read-1, read_none}
use Rattle.drives_calls.proofs.read_record.Goals as goal

pub returns-in-0 : goal.returns-in-0
unfolding read_record
returns-in-0 c =
    let a = c.args in
    let the-read-record = c.read_record in
    read-0 a.h (read_on (pair a.g0 a.image0.now a.g1 a.image1.now) a.h a.buffer.now) a.buffer.now c.in-0.is
    c.answered.ensures the-read-record.ensures

pub returns-in-1 : goal.returns-in-1
unfolding read_record
returns-in-1 c =
    let a = c.args in
    let the-read-record2 = c.read_record-in-1 in
    read-1 a.h (read_on (pair a.g0 a.image0.now a.g1 a.image1.now) a.h a.buffer.now) a.buffer.now (λ z. let e = c.in-1.is in omega (arith, z, e))
    c.in-1.is c.answered-in-1.ensures the-read-record2.ensures

pub returns-in_default : goal.returns-in_default
unfolding read_record
returns-in_default c =
    let a = c.args in
    read_none a.h (read_on (pair a.g0 a.image0.now a.g1 a.image1.now) a.h a.buffer.now) a.buffer.now (λ z. let e = c.in_default in omega (arith, z, e))
    (λ z. let e = c.in_default in omega (arith, z, e)) c.unheld.ensures
