use Rattle.genie.proofs.HandsBack.{at-disk, opened}
use Rattle.genie.specs.Exports.{exported_open}
use Rattle.meaning.specs.declared.Geometry.{Geometry}
use Rattle.meaning.specs.Names.{no_place}
use borrow.Author.Tests.{lt-ltb, le-ltb}
use Rattle.genie.proofs.genie_open.Goals as goal

pub returns-then-handle-lt-HANDLE_BYTES : goal.returns-then-handle-lt-HANDLE_BYTES
returns-then-handle-lt-HANDLE_BYTES c =
    let a = c.args in
    at-disk (λ (g : Geometry). exported_open g a.image.now a.name.now a.length a.checking a.code a.handle.now)
    c.geometry-g.ensures
    (rw (lt-ltb _ _ c.if-handle-lt-HANDLE_BYTES.true) (λ i. (c.short.ensures.0 i, c.short.ensures.1 i, no_place, a.handle.now)))

pub returns : goal.returns
returns c = let a = c.args in at-disk (λ (g : Geometry). exported_open g a.image.now a.name.now a.length a.checking a.code a.handle.now)
    c.geometry-g.ensures
    (rw (le-ltb _ _ c.if-handle-lt-HANDLE_BYTES.false) (opened a.handle.now
    c.open_file-a.result c.slot_told.ensures
    c.place_of.ensures c.put_handle.ensures
    c.open_file-a.ensures))
