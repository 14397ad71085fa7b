use borrow.Author.Tests.{lt-ltb, le-ltb}
use mathlib.Core.Path.{ap, ◌∙◌}
use Rattle.meaning.specs.declared.Handle.{Handle}
use Rattle.meaning.specs.declared.Geometry.{Geometry}
use Rattle.load.specs.Load.{load_record}
use Rattle.genie.specs.Program.{exported_load_record}
use Rattle.genie.proofs.HandsBack.{at-disk}
use Rattle.genie.proofs.Program.{none_told, record-told}
use Rattle.genie.proofs.genie_load_record.Goals as goal

pub returns-then-handle-lt-HANDLE_BYTES : goal.returns-then-handle-lt-HANDLE_BYTES
returns-then-handle-lt-HANDLE_BYTES c =
    let a = c.args in
    let the-geometry = c.geometry-g in
    let the-if1 = c.if-handle-lt-HANDLE_BYTES in
    let the-short = c.short in
    at-disk (λ (g : Geometry). exported_load_record g a.image.now a.handle.now a.buffer.now) the-geometry.ensures
    (rw (lt-ltb _ _ the-if1.true) (λ i. (the-short.ensures.0 i, the-short.ensures.1 i, 0, 0, 0, 0, a.handle.now, a.buffer.now)))

pub returns-then-a-ne1 : goal.returns-then-a-ne1
returns-then-a-ne1 c =
    let a = c.args in
    let the-geometry = c.geometry-g in
    let the-if1 = c.if-handle-lt-HANDLE_BYTES in
    let the-load-record = c.load_record-a in
    let the-if2 = c.if-a-ne1 in
    let the-handle-of = c.handle_of-h in
    at-disk (λ (g : Geometry). exported_load_record g a.image.now a.handle.now a.buffer.now) the-geometry.ensures
    (rw (le-ltb _ _ the-if1.false) (none_told a.handle.now the-load-record.result _ the-if2.true
    (the-load-record.ensures ∙ ap (λ (h : Handle). load_record the-geometry.result a.image.now h a.buffer.now) the-handle-of.ensures)))

pub returns : goal.returns
returns c =
    let a = c.args in
    let the-geometry = c.geometry-g in
    let the-if1 = c.if-handle-lt-HANDLE_BYTES in
    let the-load-record = c.load_record-a in
    let the-if2 = c.if-a-ne1 in
    let the-put-handle = c.put_handle in
    let the-handle-of = c.handle_of-h in
    at-disk (λ (g : Geometry). exported_load_record g a.image.now a.handle.now a.buffer.now) the-geometry.ensures
    (rw (le-ltb _ _ the-if1.false) (record-told a.handle.now the-load-record.result _ the-if2.false the-put-handle.ensures
    (the-load-record.ensures ∙ ap (λ (h : Handle). load_record the-geometry.result a.image.now h a.buffer.now) the-handle-of.ensures)))
