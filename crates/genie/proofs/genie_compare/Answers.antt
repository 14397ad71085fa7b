use borrow.Author.Tests.{lt-ltb, le-ltb}
use mathlib.Core.Path.{◌∙◌}
use Rattle.meaning.specs.declared.Geometry.{Geometry}
use Rattle.refusal.specs.Short.{short_of_two}
use Rattle.genie_codec.specs.Words.{geometry}
use Rattle.genie.specs.Compared.{exported_compare}
use Rattle.genie.proofs.Compared.{short-told, none_told, one_told}
use Rattle.genie.proofs.HandsBack.{at-disk}
use Rattle.genie.proofs.genie_compare.Goals as goal

pub returns-then-name-lt-NAME_BYTES : goal.returns-then-name-lt-NAME_BYTES
returns-then-name-lt-NAME_BYTES c =
    let a = c.args in
    let the-geometry = c.geometry-g in
    let the-geometry2 = c.geometry-h in
    let the-if1 = c.if-name-lt-NAME_BYTES in
    let the-short-of-two = c.short_of_two-c in
    let the-from = c.from in
    let the-check = c.check in
    let the-check2 = c.check-then-name-lt-NAME_BYTES in
    at-disk (λ (g : Geometry). exported_compare g a.first.now
    (geometry a.blocks2 a.units2 a.start2 a.open_code2 a.system_disk2 a.granule_sectors2) a.second.now a.number a.name.now)
    the-geometry.ensures
    (at-disk (λ (h : Geometry). exported_compare the-geometry.result a.first.now h a.second.now a.number a.name.now) the-geometry2.ensures
    (rw (lt-ltb _ _ the-if1.true) (short-told a.name.now the-short-of-two.result the-from.ensures
    (the-short-of-two.ensures ∙ (λ i. short_of_two (the-check.ensures i) (the-check2.ensures i))))))

pub returns-then-x-eq0 : goal.returns-then-x-eq0
returns-then-x-eq0 c =
    let a = c.args in
    let the-geometry = c.geometry-g in
    let the-geometry2 = c.geometry-h in
    let the-if1 = c.if-name-lt-NAME_BYTES in
    let the-compare = c.compare-x in
    let the-from2 = c.from-2 in
    let the-from3 = c.from-3 in
    let the-flags-of = c.flags_of in
    let the-if2 = c.if-x-eq0 in
    at-disk (λ (g : Geometry). exported_compare g a.first.now
    (geometry a.blocks2 a.units2 a.start2 a.open_code2 a.system_disk2 a.granule_sectors2) a.second.now a.number a.name.now)
    the-geometry.ensures
    (at-disk (λ (h : Geometry). exported_compare the-geometry.result a.first.now h a.second.now a.number a.name.now) the-geometry2.ensures
    (rw (le-ltb _ _ the-if1.false) (none_told a.name.now the-compare.result the-from2.ensures the-from3.ensures
    the-flags-of.ensures the-compare.ensures the-if2.true)))

pub returns : goal.returns
returns c =
    let a = c.args in
    let the-geometry = c.geometry-g in
    let the-geometry2 = c.geometry-h in
    let the-if1 = c.if-name-lt-NAME_BYTES in
    let the-compare = c.compare-x in
    let the-from2 = c.from-2 in
    let the-from3 = c.from-3 in
    let the-flags-of = c.flags_of in
    let the-if2 = c.if-x-eq0 in
    let the-put-name = c.put_name in
    at-disk (λ (g : Geometry). exported_compare g a.first.now
    (geometry a.blocks2 a.units2 a.start2 a.open_code2 a.system_disk2 a.granule_sectors2) a.second.now a.number a.name.now)
    the-geometry.ensures
    (at-disk (λ (h : Geometry). exported_compare the-geometry.result a.first.now h a.second.now a.number a.name.now) the-geometry2.ensures
    (rw (le-ltb _ _ the-if1.false) (one_told a.name.now the-compare.result the-from2.ensures the-from3.ensures
    the-flags-of.ensures the-compare.ensures the-if2.false the-put-name.ensures)))
