use Rattle.genie.proofs.HandsBack.{at-disk, created}
use Rattle.genie.specs.Exports.{new_file, exported_create}
use Rattle.meaning.specs.declared.Geometry.{Geometry}
use Rattle.meaning.specs.Names.{no_place}
use borrow.Author.Tests.{lt-ltb, le-ltb}
use Rattle.genie.proofs.genie_create.Goals as goal

pub returns-then-handle-lt-HANDLE_BYTES : goal.returns-then-handle-lt-HANDLE_BYTES
returns-then-handle-lt-HANDLE_BYTES c =
    let a = c.args in
    at-disk (λ (g : Geometry). exported_create g a.image.now a.name.now (new_file a.day a.month a.year a.length a.main a.worker)
    a.checking a.handle.now) c.geometry-g.ensures
    (rw (lt-ltb _ _ c.if-handle-lt-HANDLE_BYTES.true)
    (λ i. (c.short.ensures.0 i, c.short.ensures.1 i, no_place, 0, a.handle.now, a.image.now)))

pub returns : goal.returns
returns c = let a = c.args in at-disk (λ (g : Geometry). exported_create g a.image.now a.name.now (new_file a.day a.month a.year a.length a.main a.worker)
    a.checking a.handle.now) c.geometry-g.ensures
    (rw (le-ltb _ _ c.if-handle-lt-HANDLE_BYTES.false)
    (created a.handle.now c.create-c.new.image
    c.create-c.result
    c.slot_told.ensures c.place_of.ensures
    c.told.ensures c.put_handle.ensures
    c.create-c.ensures))
