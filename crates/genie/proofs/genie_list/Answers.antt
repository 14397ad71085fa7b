use borrow.Author.Tests.{lt-ltb, le-ltb}
use Rattle.meaning.specs.declared.Geometry.{Geometry}
use Rattle.genie.specs.Exports.{exported_list}
use Rattle.genie.proofs.HandsBack.{at-disk, nothing, file}
use Rattle.genie.proofs.genie_list.Goals as goal

pub returns-then-name-lt-NAME_BYTES : goal.returns-then-name-lt-NAME_BYTES
returns-then-name-lt-NAME_BYTES c =
    let a = c.args in
    let the-geometry = c.geometry-g in
    let the-if1 = c.if-name-lt-NAME_BYTES in
    let the-short = c.short in
    at-disk (λ (g : Geometry). exported_list g a.image.now a.number a.name.now) the-geometry.ensures
    (rw (lt-ltb _ _ the-if1.true) (λ i. (the-short.ensures.0 i, the-short.ensures.1 i, 0, 0, 0, a.name.now)))

pub returns-then-not-l : goal.returns-then-not-l
returns-then-not-l c =
    let a = c.args in
    let the-geometry = c.geometry-g in
    let the-if1 = c.if-name-lt-NAME_BYTES in
    let the-list = c.list-l in
    let the-if2 = c.if-not-l in
    at-disk (λ (g : Geometry). exported_list g a.image.now a.number a.name.now) the-geometry.ensures
    (rw (le-ltb _ _ the-if1.false) (nothing a.name.now the-list.result the-if2.true the-list.ensures))

pub returns : goal.returns
returns c =
    let a = c.args in
    let the-geometry = c.geometry-g in
    let the-if1 = c.if-name-lt-NAME_BYTES in
    let the-list = c.list-l in
    let the-if2 = c.if-not-l in
    let the-put-name = c.put_name in
    at-disk (λ (g : Geometry). exported_list g a.image.now a.number a.name.now) the-geometry.ensures
    (rw (le-ltb _ _ the-if1.false) (file a.name.now the-list.result the-if2.false the-put-name.ensures the-list.ensures))
