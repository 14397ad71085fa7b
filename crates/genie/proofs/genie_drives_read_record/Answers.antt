use mathlib.Core.Path.{refl, sym, ap, ◌∙◌}
use Rattle.drives.specs.declared.DriveHandle.{DriveHandle}
use Rattle.drives.specs.ByHandle.{read_record}
use Rattle.drives.specs.Pair.{pair}
use Rattle.meaning.specs.declared.Geometry.{Geometry}
use Rattle.genie.specs.Drives.{drives_read_record}
use Rattle.genie.proofs.Drives.{at-drives, stays, moved, reading}
use Rattle.genie.proofs.genie_drives_read_record.Goals as goal

pub returns-then-a-ne0 : goal.returns-then-a-ne0
returns-then-a-ne0 c =
    let a = c.args in
    let the-geometry = c.geometry-g0 in
    let the-geometry2 = c.geometry-g1 in
    let the-handle-of = c.handle_of-h in
    let the-read-record = c.read_record-a in
    let the-fault-drive = c.fault_drive in
    let p = (pair the-geometry.result a.image0.now the-geometry2.result a.image1.now) in
    let r = the-read-record.result in
    at-drives (λ (g h : Geometry). drives_read_record (pair g a.image0.now h a.image1.now) a.handle.now a.buffer.now)
    the-geometry.ensures the-geometry2.ensures (reading a.handle.now r refl the-fault-drive.ensures (stays a.handle.now r
    c.if-a-ne0.true) the-read-record.new.buffer (the-read-record.ensures ∙ ap (λ (x : DriveHandle). read_record p x a.buffer.now)
    the-handle-of.ensures))

pub returns : goal.returns
returns c =
    let a = c.args in
    let the-geometry = c.geometry-g0 in
    let the-geometry2 = c.geometry-g1 in
    let the-handle-of = c.handle_of-h in
    let the-read-record = c.read_record-a in
    let the-fault-drive = c.fault_drive in
    let the-if1 = c.if-a-ne0 in
    let the-put-handle = c.put_handle in
    let p = (pair the-geometry.result a.image0.now the-geometry2.result a.image1.now) in
    let r = the-read-record.result in
    at-drives (λ (g h : Geometry). drives_read_record (pair g a.image0.now h a.image1.now) a.handle.now a.buffer.now)
    the-geometry.ensures the-geometry2.ensures (reading a.handle.now r (sym the-if1.false) the-fault-drive.ensures (moved
    a.handle.now r the-if1.false the-put-handle.ensures) the-read-record.new.buffer
    (the-read-record.ensures ∙ ap (λ (x : DriveHandle).
    read_record p x a.buffer.now) the-handle-of.ensures))
