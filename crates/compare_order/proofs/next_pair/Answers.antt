use Rattle.compare_order.proofs.Merging.{some-at, none-at, holds-slot, merges-none, merges-first, merges-second, merges-both}
use Rattle.compare_order.proofs.Names.{cmp-before, cmp-after}
use Rattle.differences.specs.Compare.{before}
use Rattle.std.specs.Ordering.{is_lt, is_gt}
use mathlib.Core.Path.{refl, sym, ap, ◌∙◌}
use native.Mathlib.Omega.{arith}
use Rattle.compare_order.proofs.next_pair.Goals as goal

pub returns-in-None-None : goal.returns-in-None-None
returns-in-None-None c =
    let a = none-at _ _ c.in-None-None.is-0 c.slot_at.ensures in
    let b = none-at _ _ c.in-None-None.is-1 c.slot_at-2.ensures in
    let p = c.requires in
    merges-none _ _ _ _ p.0 p.1 _ _ _ _ p.2 p.3 a.0 a.1 b.0 b.1 refl refl

pub returns-in-None-Some : goal.returns-in-None-Some
returns-in-None-Some c =
    let a = none-at _ _ c.in-None-Some.is-0 c.slot_at.ensures in
    let b = some-at _ c.in-None-Some.ensures in
    let p = c.requires in
    merges-second _ _ _ _ p.0 p.1 _ _ _ _ p.2 p.3 a.0 a.1 b.0 b.1 (holds-slot _ _ _ _ p.3 b.0 b.1 c.in-None-Some.ensures.0)
    (λ l. absurd (let q : ⊥ = omega arith in q))

pub returns-in-Some-None : goal.returns-in-Some-None
returns-in-Some-None c =
    let a = some-at _ c.in-Some-None.ensures in
    let b = none-at _ _ c.in-Some-None.is-1 c.slot_at-2.ensures in
    let p = c.requires in
    merges-first _ _ _ _ p.0 p.1 _ _ _ _ p.2 p.3 a.0 a.1 b.0 b.1 (holds-slot _ _ _ _ p.2 a.0 a.1 c.in-Some-None.ensures.0)
    (λ l. absurd (let q : ⊥ = omega arith in q))

pub returns-in-Less : goal.returns-in-Less
returns-in-Less c =
    let a = some-at _ c.in-Some-Some.ensures in
    let b = some-at _ c.in-Some-Some.ensures' in
    let p = c.requires in
    let x = c.name.ensures in
    let y = c.name-in-Some-Some.ensures in
    merges-first _ _ _ _ p.0 p.1 _ _ _ _ p.2 p.3 a.0 a.1 b.0 b.1 (holds-slot _ _ _ _ p.2 a.0 a.1 c.in-Some-Some.ensures.0)
    (λ l. sym (ap is_lt (sym c.in-Less.is) ∙ cmp-before _ _ _ c.cmp.ensures ∙ (λ i. before (x i) (y i))))

pub returns-in-Greater : goal.returns-in-Greater
returns-in-Greater c =
    let a = some-at _ c.in-Some-Some.ensures in
    let b = some-at _ c.in-Some-Some.ensures' in
    let p = c.requires in
    let x = c.name.ensures in
    let y = c.name-in-Some-Some.ensures in
    merges-second _ _ _ _ p.0 p.1 _ _ _ _ p.2 p.3 a.0 a.1 b.0 b.1 (holds-slot _ _ _ _ p.3 b.0 b.1 c.in-Some-Some.ensures'.0)
    (λ l. sym (ap is_gt (sym c.in-Greater.is) ∙ cmp-after _ _ _ c.cmp.ensures ∙ (λ i. before (y i) (x i))))

pub returns-in-Equal : goal.returns-in-Equal
returns-in-Equal c =
    let a = some-at _ c.in-Some-Some.ensures in
    let b = some-at _ c.in-Some-Some.ensures' in
    let p = c.requires in
    let x = c.name.ensures in
    let y = c.name-in-Some-Some.ensures in
    merges-both _ _ _ _ p.0 p.1 _ _ _ _ p.2 p.3 a.0 a.1 b.0 b.1 (holds-slot _ _ _ _ p.2 a.0 a.1 c.in-Some-Some.ensures.0)
    (holds-slot _ _ _ _ p.3 b.0 b.1 c.in-Some-Some.ensures'.0)
    (sym (ap is_lt (sym c.in-Equal.is) ∙ cmp-before _ _ _ c.cmp.ensures ∙ (λ i. before (x i) (y i))))
    (sym (ap is_gt (sym c.in-Equal.is) ∙ cmp-after _ _ _ c.cmp.ensures ∙ (λ i. before (y i) (x i))))
