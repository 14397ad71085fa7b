use mathlib.Core.List.{[]}
use Rattle.passed.proofs.Checked.{check-none, handle-stop, handle-then, passed, checked-room, by_level, by-system, by-none}
use borrow.Author.Tests.{lt-ltb, le-ltb}
use mathlib.Core.Path.{refl, sym, ◌∙◌}
use native.Mathlib.Omega.{arith}
use Rattle.std.proofs.lemmas.Result.{err_from_is_err_and}
use Rattle.refusal.proofs.Telling.{tells, tells-on}
use Rattle.handle.proofs.admits_changing.Goals as goal
use Rattle.handle.proofs.admits_changing.Goals.{then-most-h-via-then-most-h, then-most-h-via-else-most-h+then-system}

pub returns-in_err-admits : goal.returns-in_err-admits
returns-in_err-admits c = let a = c.args in let p = err_from_is_err_and c.from_residual.result c.from_residual.ensures.1 in
    rw (p.1, p.2) (tells-on _ (handle-stop a.g a.image.now a.h a.ranged [] _ refl c.in_err-admits.ensures.1) c.in_err-admits.ensures)

pub invariant_of-disk : goal.invariant_of-disk
invariant_of-disk c = let a = c.args in
    record { room = checked-room _ _ (passed a.g a.image.now a.h a.ranged [] refl refl c.in_ok-admits.ensures).disk }

pub system-requires : goal.system-requires
system-requires c = let a = c.args in (passed a.g a.image.now a.h a.ranged [] refl refl c.in_ok-admits.ensures).slot

pub returns-then-most-h : goal.returns-then-most-h
returns-then-most-h c = let a = c.args in let on = handle-then a.g a.image.now a.h a.ranged [] _ refl refl c.in_ok-admits.ensures in
    let z = check-none _ _ _ c.requires c.in_ok-admits.ensures in elim c.then-most-h.branch [
      | then-most-h-via-then-most-h w ↦
          let t = tells _ z (on ∙ by_level a.g a.image.now a.h _ (lt-ltb _ _ w.if-most-h.true)) (λ q. omega (arith, q)) in (c.refusal.ensures ∙ t.0, t.1)
      | then-most-h-via-else-most-h+then-system w ↦
          let t = tells _ z (on ∙ by-system a.g a.image.now a.h _ (le-ltb _ _ w.if-most-h.false) (sym w.system.ensures ∙ w.if-system.true))
          (λ q. omega (arith, q)) in (c.refusal.ensures ∙ t.0, t.1)
    ]

pub returns : goal.returns
returns c = let a = c.args in handle-then a.g a.image.now a.h a.ranged [] _ refl refl c.in_ok-admits.ensures ∙
    by-none a.g a.image.now a.h _ (le-ltb _ _ c.if-most-h.false) (sym c.system.ensures ∙ c.if-system.false)
