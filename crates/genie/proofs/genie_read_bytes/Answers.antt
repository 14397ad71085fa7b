use borrow.Author.Tests.{lt-ltb, le-ltb}
use mathlib.Core.Path.{ap, ◌∙◌}
use Rattle.meaning.specs.declared.Handle.{Handle}
use Rattle.meaning.specs.declared.Geometry.{Geometry}
use Rattle.meaning.specs.Read.{read_bytes}
use Rattle.genie.specs.Exports.{exported_read_bytes}
use Rattle.genie.proofs.HandsBack.{at-disk, stays, moved}
use Rattle.genie.proofs.genie_read_bytes.Goals as goal

pub returns-then-handle-lt-HANDLE_BYTES : goal.returns-then-handle-lt-HANDLE_BYTES
returns-then-handle-lt-HANDLE_BYTES c =
    let a = c.args in
    let the-geometry = c.geometry-g in
    let the-if1 = c.if-handle-lt-HANDLE_BYTES in
    let the-short = c.short in
    at-disk (λ (g : Geometry). exported_read_bytes g a.image.now a.handle.now a.buffer.now) the-geometry.ensures
    (rw (lt-ltb _ _ the-if1.true) (λ i. (the-short.ensures.0 i, the-short.ensures.1 i, a.handle.now, a.buffer.now)))

pub returns-then-read-ne0 : goal.returns-then-read-ne0
returns-then-read-ne0 c =
    let a = c.args in
    let the-geometry = c.geometry-g in
    let the-if1 = c.if-handle-lt-HANDLE_BYTES in
    let the-read-bytes = c.read_bytes-read in
    let the-if2 = c.if-read-ne0 in
    let the-handle-of = c.handle_of-h in
    at-disk (λ (g : Geometry). exported_read_bytes g a.image.now a.handle.now a.buffer.now) the-geometry.ensures
    (rw (le-ltb _ _ the-if1.false) (stays a.handle.now the-read-bytes.result _ the-if2.true
    (the-read-bytes.ensures ∙ ap (λ (h : Handle). read_bytes the-geometry.result a.image.now h a.buffer.now) the-handle-of.ensures)))

pub returns : goal.returns
returns c =
    let a = c.args in
    let the-geometry = c.geometry-g in
    let the-if1 = c.if-handle-lt-HANDLE_BYTES in
    let the-read-bytes = c.read_bytes-read in
    let the-if2 = c.if-read-ne0 in
    let the-put-handle = c.put_handle in
    let the-handle-of = c.handle_of-h in
    at-disk (λ (g : Geometry). exported_read_bytes g a.image.now a.handle.now a.buffer.now) the-geometry.ensures
    (rw (le-ltb _ _ the-if1.false) (moved a.handle.now the-read-bytes.result _ the-if2.false the-put-handle.ensures
    (the-read-bytes.ensures ∙ ap (λ (h : Handle). read_bytes the-geometry.result a.image.now h a.buffer.now) the-handle-of.ensures)))
