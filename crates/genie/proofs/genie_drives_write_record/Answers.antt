use mathlib.Core.Path.{refl, sym, ◌∙◌}
use Rattle.drives.specs.ByHandle.{write_record}
use Rattle.drives.specs.Pair.{pair}
use Rattle.meaning.specs.declared.Geometry.{Geometry}
use Rattle.genie.specs.Drives.{drives_write_record}
use Rattle.genie.proofs.Drives.{at-drives, stays, moved, writing}
use Rattle.genie.proofs.genie_drives_write_record.Goals as goal

pub returns-then-a-ne0 : goal.returns-then-a-ne0
returns-then-a-ne0 c =
    let a = c.args in
    let the-geometry = c.geometry-g0 in
    let the-geometry2 = c.geometry-g1 in
    let the-handle-of = c.handle_of-h in
    let the-mode-of = c.mode_of-m in
    let the-write-record = c.write_record-a in
    let the-fault-drive = c.fault_drive in
    let p = (pair the-geometry.result a.image0.now the-geometry2.result a.image1.now) in
    let r = the-write-record.result in
    at-drives (λ (g h : Geometry). drives_write_record (pair g a.image0.now h a.image1.now) a.handle.now a.sequential
    a.buffer.now) the-geometry.ensures the-geometry2.ensures (writing a.handle.now r refl the-fault-drive.ensures (stays
    a.handle.now r c.if-a-ne0.true) the-write-record.new.image0 the-write-record.new.image1 (the-write-record.ensures ∙ (λ i. write_record p
    (the-mode-of.ensures i) (the-handle-of.ensures i) a.buffer.now)))

pub returns : goal.returns
returns c =
    let a = c.args in
    let the-geometry = c.geometry-g0 in
    let the-geometry2 = c.geometry-g1 in
    let the-handle-of = c.handle_of-h in
    let the-mode-of = c.mode_of-m in
    let the-write-record = c.write_record-a in
    let the-fault-drive = c.fault_drive in
    let the-if1 = c.if-a-ne0 in
    let the-put-handle = c.put_handle in
    let p = (pair the-geometry.result a.image0.now the-geometry2.result a.image1.now) in
    let r = the-write-record.result in
    at-drives (λ (g h : Geometry). drives_write_record (pair g a.image0.now h a.image1.now) a.handle.now a.sequential
    a.buffer.now) the-geometry.ensures the-geometry2.ensures (writing a.handle.now r (sym the-if1.false)
    the-fault-drive.ensures (moved a.handle.now r the-if1.false the-put-handle.ensures) the-write-record.new.image0
    the-write-record.new.image1 (the-write-record.ensures ∙ (λ i. write_record p (the-mode-of.ensures i) (the-handle-of.ensures i)
    a.buffer.now)))
