use borrow.Author.Tests.{lt-ltb, le-ltb}
use mathlib.Core.Path.{ap, ◌∙◌}
use Rattle.meaning.specs.declared.Handle.{Handle}
use Rattle.meaning.specs.declared.Geometry.{Geometry}
use Rattle.meaning.specs.Allot.{allot}
use Rattle.genie.specs.Exports.{leaves, exported_allot}
use Rattle.genie.proofs.HandsBack.{at-disk}
use Rattle.genie.proofs.genie_allot.Goals as goal

pub returns-then-handle-lt-HANDLE_BYTES : goal.returns-then-handle-lt-HANDLE_BYTES
returns-then-handle-lt-HANDLE_BYTES c =
    let a = c.args in
    let the-geometry = c.geometry-g in
    let the-if1 = c.if-handle-lt-HANDLE_BYTES in
    let the-short = c.short in
    at-disk (λ (g : Geometry). exported_allot g a.image.now a.handle.now a.k) the-geometry.ensures
    (rw (lt-ltb _ _ the-if1.true) (λ i. (the-short.ensures.0 i, the-short.ensures.1 i, a.image.now)))

pub returns : goal.returns
returns c =
    let a = c.args in
    let the-geometry = c.geometry-g in
    let the-if1 = c.if-handle-lt-HANDLE_BYTES in
    let the-allot = c.allot-allotted in
    let the-handle-of = c.handle_of-h in
    at-disk (λ (g : Geometry). exported_allot g a.image.now a.handle.now a.k) the-geometry.ensures
    (rw (le-ltb _ _ the-if1.false) (ap leaves (the-allot.ensures ∙ ap (λ (h : Handle). allot the-geometry.result a.image.now h a.k)
    the-handle-of.ensures)))
