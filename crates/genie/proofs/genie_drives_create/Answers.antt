use mathlib.Core.Path.{ap, ◌∙◌}
use Prim.Native.Nat.{ℕ}
use Rattle.genie.specs.Exports.{new_file}
use Rattle.drives.specs.ByName.{create}
use Rattle.drives.specs.Pair.{pair}
use Rattle.meaning.specs.declared.Geometry.{Geometry}
use Rattle.genie.specs.Drives.{drives_create}
use Rattle.genie.proofs.Drives.{at-drives, created}
use Rattle.genie.proofs.genie_drives_create.Goals as goal

pub returns : goal.returns
returns c =
    let a = c.args in
    let the-geometry = c.geometry-g0 in
    let the-geometry2 = c.geometry-g1 in
    let the-length-for = c.length_for in
    let the-create = c.create-created in
    let the-fault-drive = c.fault_drive in
    let the-slot-told = c.slot_told in
    let the-place-of = c.place_of in
    let the_told = c.told in
    let the-put-handle = c.put_handle in
    let p = (pair the-geometry.result a.image0.now the-geometry2.result a.image1.now) in
    at-drives (λ (g h : Geometry). drives_create
    (pair g a.image0.now h a.image1.now) a.numbered a.drive a.name.now (new_file a.day a.month a.year a.length
    a.main_code a.worker_code) a.checking a.handle.now) the-geometry.ensures the-geometry2.ensures (created a.handle.now
    the-create.new.image0 the-create.new.image1 the-create.result the-fault-drive.ensures the-slot-told.ensures the-place-of.ensures
    the_told.ensures the-put-handle.ensures (the-create.ensures ∙ ap (λ (k : ℕ). create p a.numbered a.drive a.name.now (new_file
    a.day a.month a.year k a.main_code a.worker_code) a.checking) the-length-for.ensures))
