use borrow.Author.Tests.{lt-ltb, le-ltb}
use mathlib.Core.Path.{ap, ◌∙◌}
use Rattle.meaning.specs.declared.Mode.{Mode}
use Rattle.meaning.specs.declared.Handle.{Handle}
use Rattle.meaning.specs.declared.Geometry.{Geometry}
use Rattle.meaning.specs.Write.{write_record}
use Rattle.genie_codec.specs.Words.{mode_of}
use Rattle.genie.specs.Exports.{exported_write_record}
use Rattle.genie.proofs.HandsBack.{at-disk, stays, moved}
use Rattle.genie.proofs.genie_write_record.Goals as goal

pub returns-then-handle-lt-HANDLE_BYTES : goal.returns-then-handle-lt-HANDLE_BYTES
returns-then-handle-lt-HANDLE_BYTES c =
    let a = c.args in
    let the-geometry = c.geometry-g in
    let the-if1 = c.if-handle-lt-HANDLE_BYTES in
    let the-short = c.short in
    at-disk (λ (g : Geometry). exported_write_record g a.image.now a.handle.now a.sequential a.buffer.now) the-geometry.ensures
    (rw (lt-ltb _ _ the-if1.true) (λ i. (the-short.ensures.0 i, the-short.ensures.1 i, a.handle.now, a.image.now)))

pub returns-then-put-ne0 : goal.returns-then-put-ne0
returns-then-put-ne0 c =
    let a = c.args in
    let the-geometry = c.geometry-g in
    let the-if1 = c.if-handle-lt-HANDLE_BYTES in
    let the-write-record = c.write_record-put in
    let the-if2 = c.if-put-ne0 in
    let the-handle-of = c.handle_of-h in
    let the-mode-of = c.mode_of-m in
    at-disk (λ (g : Geometry). exported_write_record g a.image.now a.handle.now a.sequential a.buffer.now) the-geometry.ensures
    (rw (le-ltb _ _ the-if1.false) (stays a.handle.now the-write-record.result _ the-if2.true
    (the-write-record.ensures ∙ ap (λ (m : Mode). write_record the-geometry.result a.image.now m the-handle-of.result a.buffer.now)
    the-mode-of.ensures
    ∙ ap (λ (h : Handle). write_record the-geometry.result a.image.now (mode_of a.sequential) h a.buffer.now) the-handle-of.ensures)))

pub returns : goal.returns
returns c =
    let a = c.args in
    let the-geometry = c.geometry-g in
    let the-if1 = c.if-handle-lt-HANDLE_BYTES in
    let the-write-record = c.write_record-put in
    let the-if2 = c.if-put-ne0 in
    let the-put-handle = c.put_handle in
    let the-handle-of = c.handle_of-h in
    let the-mode-of = c.mode_of-m in
    at-disk (λ (g : Geometry). exported_write_record g a.image.now a.handle.now a.sequential a.buffer.now) the-geometry.ensures
    (rw (le-ltb _ _ the-if1.false) (moved a.handle.now the-write-record.result _ the-if2.false the-put-handle.ensures
    (the-write-record.ensures ∙ ap (λ (m : Mode). write_record the-geometry.result a.image.now m the-handle-of.result a.buffer.now)
    the-mode-of.ensures
    ∙ ap (λ (h : Handle). write_record the-geometry.result a.image.now (mode_of a.sequential) h a.buffer.now)
    the-handle-of.ensures)))
