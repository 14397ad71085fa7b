use mathlib.Core.Path.{ap, ◌∙◌}
use Prim.Native.Nat.{ℕ}
use Rattle.drives.specs.ByName.{open_file}
use Rattle.drives.specs.Pair.{pair}
use Rattle.meaning.specs.declared.Geometry.{Geometry}
use Rattle.genie.specs.Drives.{drives_open}
use Rattle.genie.proofs.Drives.{at-drives, opened}
use Rattle.genie.proofs.genie_drives_open.Goals as goal

pub returns : goal.returns
returns c =
    let a = c.args in
    let the-geometry = c.geometry-g0 in
    let the-geometry2 = c.geometry-g1 in
    let the-length-for = c.length_for-len in
    let the-open-file = c.open_file-opened in
    let the-fault-drive = c.fault_drive in
    let the-slot-told = c.slot_told in
    let the-place-of = c.place_of in
    let the-put-handle = c.put_handle in
    let p = (pair the-geometry.result a.image0.now the-geometry2.result a.image1.now) in
    at-drives (λ (g h : Geometry). drives_open
    (pair g a.image0.now h a.image1.now) a.numbered a.drive a.name.now a.length a.checking a.code a.handle.now)
    the-geometry.ensures the-geometry2.ensures (opened a.handle.now the-open-file.result the-fault-drive.ensures
    the-slot-told.ensures the-place-of.ensures the-put-handle.ensures (the-open-file.ensures ∙ ap (λ (k : ℕ). open_file p a.numbered
    a.drive a.name.now k a.checking a.code) the-length-for.ensures))
