use mathlib.Core.List.{[]}
use Rattle.passed.proofs.Checked.{check-none, handle-stop, handle-then}
use Rattle.lists.specs.Tests.{first-hit, first-skip, first-none}
use borrow.Author.Tests.{lt-ltb, le-ltb}
use mathlib.Core.Path.{◌≡◌, refl, ◌∙◌}
use native.Mathlib.Omega.{arith}
use Rattle.std.proofs.lemmas.Result.{err_from_is_err_and}
use Rattle.refusal.proofs.Telling.{tells, tells-on}
use Rattle.handle.proofs.admits_reading.Goals as goal

pub returns-in_err-admits : goal.returns-in_err-admits
returns-in_err-admits c = let a = c.args in let p = err_from_is_err_and c.from_residual.result c.from_residual.ensures.1 in
    rw (p.1, p.2) (tells-on _ (handle-stop a.g a.image.now a.h a.ranged [] _ refl c.in_err-admits.ensures.1) c.in_err-admits.ensures)

pub returns-then-h-gt5 : goal.returns-then-h-gt5
returns-then-h-gt5 c = let a = c.args in
    let six : 6 ≡ 0 → ⊥ = λ q. omega (arith, q) in
    let n = handle-then a.g a.image.now a.h a.ranged [] _ refl refl c.in_ok-admits.ensures ∙ first-hit (lt-ltb _ _ c.if-h-gt5.true) 6 _ in
    let t = tells _ (check-none _ _ _ c.requires c.in_ok-admits.ensures) n six in (c.refusal.ensures ∙ t.0, t.1)

pub returns : goal.returns
returns c = let a = c.args in handle-then a.g a.image.now a.h a.ranged [] _ refl refl c.in_ok-admits.ensures ∙
    first-skip (le-ltb _ _ c.if-h-gt5.false) _ _ ∙ first-none
