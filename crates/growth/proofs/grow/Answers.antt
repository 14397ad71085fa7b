use native.Mathlib.Omega.{arith}
use mathlib.Core.Path.{refl, ap, sym, ◌∙◌}
use mathlib.Core.Bool.{true, false}
use Prim.Native.Nat.{ℕ}
use borrow.Author.Tests.{ltb-false}
use Rattle.passed.proofs.Ready.{walks}
use Rattle.lists.specs.Tests.{is-false, is-true}
use Rattle.growth.proofs.Whole.{whole-none, whole-eleven, whole-nine, whole-eight, whole-first, whole-second, again, again-fails, lacks}
use Rattle.growth.proofs.Whole.{second-number}
use lib.ListN.{length}
use lib.Dec.{ltb}
use Rattle.growth.specs.Choose.{choice_by}
use Rattle.meaning.specs.Free.{free_granules}
use Rattle.meaning.specs.Growth.{fails, grow_by, disk_or, lacking}
use Rattle.growth.proofs.grow.Goals as goal

pub invariant_of-disk : goal.invariant_of-disk
invariant_of-disk c = record { room = (walks _ _ _ c.requires).0.room }

pub measure-x-requires : goal.measure-x-requires
measure-x-requires c = walks _ _ _ c.requires

pub returns-then-wanted-x : goal.returns-then-wanted-x
returns-then-wanted-x c = whole-none _ _ _ _ (let e = c.measure-x.ensures.many in let t = c.if-wanted-x.true in omega arith)

pub no_growth-requires : goal.no_growth-requires
no_growth-requires c = let p = c.requires in (walks _ _ _ p).1.slot

pub returns-then-no_growth : goal.returns-then-no_growth
returns-then-no_growth c = let a = c.args in whole-eleven _ _ _ (lacking a.g a.image.now a.p a.wanted)
    (let e = c.measure-x.ensures.many in let t = c.if-wanted-x.false in omega
    arith) (sym c.no_growth.ensures ∙ c.if-no_growth.true)

pub returns-then-too_few : goal.returns-then-too_few
returns-then-too_few c = let a = c.args in let e = lacks a.g a.image.now a.p a.wanted
    c.measure-x.ensures.many in
    whole-nine _ _ _ _ (sym c.no_growth.ensures ∙ c.if-no_growth.false)
    (ap (λ (k : ℕ). ltb (length (free_granules a.g a.image.now)) k) (sym e) ∙ sym c.too_few.ensures ∙ c.if-too_few.true)

pub too_few_slots-requires : goal.too_few_slots-requires
too_few_slots-requires c = let measure = c.measure-x in let p = c.requires in
    (p, measure.ensures.last, ltb-false _ _ (sym c.too_few.ensures ∙ c.if-too_few.false))

pub take_granules-requires : goal.take_granules-requires
take_granules-requires c = let too-few-slots = c.too_few_slots in let if3 = c.if-too_few in let too_few = c.too_few in let measure = c.measure-x in
    let p = c.requires in let w = again _ _ _ too-few-slots.ensures.1 p measure.ensures.last (ltb-false _ _ (sym too_few.ensures ∙ if3.false)) in
    (w.0, w.1, w.2, again-fails _ _ _ true _ too-few-slots.ensures.1 (is-false too-few-slots.ensures.0 c.if-not-too_few_slots.true))

pub returns-then-not-too_few_slots : goal.returns-then-not-too_few_slots
returns-then-not-too_few_slots c = let if4 = c.if-not-too_few_slots in let too-few-slots = c.too_few_slots in let too_few = c.too_few in
    let if2 = c.if-no_growth in let no-growth = c.no_growth in let a = c.args in let e = lacks a.g a.image.now a.p a.wanted
    c.measure-x.ensures.many in
    whole-first _ _ _ _ (sym no-growth.ensures ∙
    if2.false)
    (ap (λ (k : ℕ). ltb (length (free_granules a.g a.image.now)) k) (sym e) ∙ sym
    too_few.ensures ∙ c.if-too_few.false)
    (ap (λ (k : ℕ). fails (grow_by a.g a.p (choice_by a.g true) k a.image.now)) (sym e) ∙ is-false
    too-few-slots.ensures.0 if4.true)
    too-few-slots.ensures.1
    (c.take_granules.ensures.wrote refl ∙ ap
    (λ (k : ℕ). disk_or too-few-slots.new.image
    (grow_by a.g a.p (choice_by a.g true) k too-few-slots.new.image)) e)

pub too_few_slots-requires-2 : goal.too_few_slots-requires-2
too_few_slots-requires-2 c = let too-few-slots = c.too_few_slots in let if3 = c.if-too_few in let too_few = c.too_few in let measure = c.measure-x in
    let p = c.requires in again _ _ _ too-few-slots.ensures.1 p measure.ensures.last (ltb-false _ _ (sym too_few.ensures ∙ if3.false))

pub returns-then-too_few_slots : goal.returns-then-too_few_slots
returns-then-too_few_slots c = let too-few-slots2 = c.too_few_slots-2 in let if4 = c.if-not-too_few_slots in let too-few-slots = c.too_few_slots in
    let too_few = c.too_few in let if2 = c.if-no_growth in let no-growth = c.no_growth in let a = c.args in let e = lacks a.g a.image.now a.p a.wanted
    c.measure-x.ensures.many in (
      (whole-eight _ _ _ _ (sym no-growth.ensures ∙ if2.false)
          (ap (λ (k : ℕ). ltb (length (free_granules a.g a.image.now)) k) (sym e) ∙ sym
          too_few.ensures ∙ c.if-too_few.false)
          (ap (λ (k : ℕ). fails (grow_by a.g a.p (choice_by a.g true) k a.image.now)) (sym e) ∙ is-true
          too-few-slots.ensures.0
          if4.false)
          (ap (λ (k : ℕ). fails (grow_by a.g a.p (choice_by a.g false) k a.image.now)) (sym e) ∙ second-number _ _ _ _
          too-few-slots.ensures.1
          too-few-slots2.ensures.0 c.if-too_few_slots.true)).0,
      too-few-slots2.ensures.1 ∙ too-few-slots.ensures.1,
    )

pub take_granules-requires-2 : goal.take_granules-requires-2
take_granules-requires-2 c = let too-few-slots2 = c.too_few_slots-2 in let too-few-slots = c.too_few_slots in let if3 = c.if-too_few in
    let too_few = c.too_few in let measure = c.measure-x in let p = c.requires in let o = too-few-slots2.ensures.1 ∙ too-few-slots.ensures.1 in
    let w = again _ _ _ o p measure.ensures.last (ltb-false _ _ (sym too_few.ensures ∙ if3.false)) in
    (w.0, w.1, w.2, again-fails _ _ _ false _ o (second-number _ _ _ _ too-few-slots.ensures.1 too-few-slots2.ensures.0 c.if-too_few_slots.false))

pub returns : goal.returns
returns c = let if5 = c.if-too_few_slots in let too-few-slots2 = c.too_few_slots-2 in let if4 = c.if-not-too_few_slots in
    let too-few-slots = c.too_few_slots in let too_few = c.too_few in let a = c.args in let e = lacks a.g a.image.now a.p a.wanted
    c.measure-x.ensures.many in
    whole-second _ _ _ _ (sym c.no_growth.ensures ∙ c.if-no_growth.false) (ap (λ (k : ℕ). ltb (length (free_granules a.g a.image.now)) k) (sym e) ∙ sym
    too_few.ensures ∙ c.if-too_few.false)
    (ap (λ (k : ℕ). fails (grow_by a.g a.p (choice_by a.g true) k a.image.now)) (sym e) ∙ is-true
    too-few-slots.ensures.0
    if4.false)
    (ap (λ (k : ℕ). fails (grow_by a.g a.p (choice_by a.g false) k a.image.now)) (sym e) ∙ second-number _ _ _ _
    too-few-slots.ensures.1
    too-few-slots2.ensures.0 if5.false)
    (too-few-slots2.ensures.1 ∙ c.too_few_slots.ensures.1)
    (c.take_granules-2.ensures.wrote refl ∙ ap
    (λ (k : ℕ). disk_or too-few-slots2.new.image
    (grow_by a.g a.p (choice_by a.g false) k too-few-slots2.new.image)) e)
