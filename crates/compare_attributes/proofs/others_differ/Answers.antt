use lib.Dec.{eqb}
use mathlib.Core.Bool.{not}
use mathlib.Core.Path.{◌≡◌, refl, ◌∙◌}
use Prim.Native.Nat.{◌/◌}
use Rattle.compare_attributes.proofs.Attributes.{or-then, or-else, up_to-high, up_to-4, up_to-10, up_to-11, up_to-12, up_to-13}
use Rattle.compare_attributes.proofs.others_differ.Goals as goal
use Rattle.compare_attributes.proofs.others_differ.Goals.{then-differs_at, else-differs_at, then-field, else-field, then-differs_at-2}
use Rattle.compare_attributes.proofs.others_differ.Goals.{else-differs_at-2, then-differs_at-3, else-differs_at-3, then-differs_at-4}
use Rattle.compare_attributes.proofs.others_differ.Goals.{else-differs_at-4}

pub returns-then-differs_at-5 : goal.returns-then-differs_at-5
returns-then-differs_at-5 c =
    let a = c.args in let first = a.first.now in let second = a.second.now in
    let v0 = c.differs_at.ensures in
    let v1 : c.if-differs_at.value ≡ up_to-high first.g first.image.now second.g second.image.now a.s a.t = elim c.if-differs_at.branch [
      | then-differs_at w ↦ or-then _ v0 w.value-is w.if-differs_at.true
      | else-differs_at w ↦ or-else v0 w.value-is (λ i. not (eqb (w.field.ensures.is i / 32) (w.field-else-differs_at.ensures.is i / 32))) w.if-differs_at.false
    ] in
    let v2 : c.if-field.value ≡ up_to-4 first.g first.image.now second.g second.image.now a.s a.t = elim c.if-field.branch [
      | then-field w ↦ or-then _ v1 w.value-is w.if-field.true
      | else-field w ↦ or-else v1 w.value-is w.differs_at-else-field.ensures w.if-field.false
    ] in
    let v3 : c.if-differs_at-2.value ≡ up_to-10 first.g first.image.now second.g second.image.now a.s a.t = elim c.if-differs_at-2.branch [
      | then-differs_at-2 w ↦ or-then _ v2 w.value-is w.if-differs_at-2.true
      | else-differs_at-2 w ↦ or-else v2 w.value-is w.differs_at-else-differs_at-2.ensures w.if-differs_at-2.false
    ] in
    let v4 : c.if-differs_at-3.value ≡ up_to-11 first.g first.image.now second.g second.image.now a.s a.t = elim c.if-differs_at-3.branch [
      | then-differs_at-3 w ↦ or-then _ v3 w.value-is w.if-differs_at-3.true
      | else-differs_at-3 w ↦ or-else v3 w.value-is w.differs_at-else-differs_at-3.ensures w.if-differs_at-3.false
    ] in
    let v5 : c.if-differs_at-4.value ≡ up_to-12 first.g first.image.now second.g second.image.now a.s a.t = elim c.if-differs_at-4.branch [
      | then-differs_at-4 w ↦ or-then _ v4 w.value-is w.if-differs_at-4.true
      | else-differs_at-4 w ↦ or-else v4 w.value-is w.differs_at-else-differs_at-4.ensures w.if-differs_at-4.false
    ] in
    or-then _ v5 refl c.if-differs_at-5.true ∙ up_to-13 _ _ _ _ _ _

pub returns-else-differs_at-5 : goal.returns-else-differs_at-5
returns-else-differs_at-5 c =
    let a = c.args in let first = a.first.now in let second = a.second.now in
    let v0 = c.differs_at.ensures in
    let v1 : c.if-differs_at.value ≡ up_to-high first.g first.image.now second.g second.image.now a.s a.t = elim c.if-differs_at.branch [
      | then-differs_at w ↦ or-then _ v0 w.value-is w.if-differs_at.true
      | else-differs_at w ↦ or-else v0 w.value-is (λ i. not (eqb (w.field.ensures.is i / 32) (w.field-else-differs_at.ensures.is i / 32))) w.if-differs_at.false
    ] in
    let v2 : c.if-field.value ≡ up_to-4 first.g first.image.now second.g second.image.now a.s a.t = elim c.if-field.branch [
      | then-field w ↦ or-then _ v1 w.value-is w.if-field.true
      | else-field w ↦ or-else v1 w.value-is w.differs_at-else-field.ensures w.if-field.false
    ] in
    let v3 : c.if-differs_at-2.value ≡ up_to-10 first.g first.image.now second.g second.image.now a.s a.t = elim c.if-differs_at-2.branch [
      | then-differs_at-2 w ↦ or-then _ v2 w.value-is w.if-differs_at-2.true
      | else-differs_at-2 w ↦ or-else v2 w.value-is w.differs_at-else-differs_at-2.ensures w.if-differs_at-2.false
    ] in
    let v4 : c.if-differs_at-3.value ≡ up_to-11 first.g first.image.now second.g second.image.now a.s a.t = elim c.if-differs_at-3.branch [
      | then-differs_at-3 w ↦ or-then _ v3 w.value-is w.if-differs_at-3.true
      | else-differs_at-3 w ↦ or-else v3 w.value-is w.differs_at-else-differs_at-3.ensures w.if-differs_at-3.false
    ] in
    let v5 : c.if-differs_at-4.value ≡ up_to-12 first.g first.image.now second.g second.image.now a.s a.t = elim c.if-differs_at-4.branch [
      | then-differs_at-4 w ↦ or-then _ v4 w.value-is w.if-differs_at-4.true
      | else-differs_at-4 w ↦ or-else v4 w.value-is w.differs_at-else-differs_at-4.ensures w.if-differs_at-4.false
    ] in
    or-else v5 refl c.differs_at-else-differs_at-5.ensures c.if-differs_at-5.false ∙ up_to-13 _ _ _ _ _ _
