use mathlib.Core.Path.{◌≡◌, refl, sym, ap, ◌∙◌}
use Prim.Native.Nat.{◌+◌, ◌*◌, ◌/◌}
use native.Mathlib.Omega.{arith}
use Rattle.listing.specs.From.{listed_from}
use Rattle.listing.proofs.Files.{from-end, rest-past, rest-no, next-here}
use Rattle.listing.proofs.next_listed.Goals as goal

pub loop-s-init : goal.loop-s-init
loop-s-init c = (omega arith, refl)

pub loop-s-2-preserved : goal.loop-s-2-preserved
loop-s-2-preserved c = let i = c.loop-s-2.invariant in (
  omega arith,
  i.1 ∙ rest-no _ _ i.2 c.columns-columns.ensures.is (omega arith) (sym c.tells.ensures ∙ c.if-tells.false),
  omega arith,
  omega arith,
  omega arith,
)

pub returns-then-tells : goal.returns-then-tells
returns-then-tells c = let i = c.loop-s-2.invariant in
    next-here _ _ i.2 c.columns-columns.ensures.is (omega arith) (sym c.tells.ensures ∙ c.if-tells.true) i.0 i.1

pub loop-s-preserved : goal.loop-s-preserved
loop-s-preserved c =
    let i = c.loop-s-2.invariant in let a = c.args in
    let q : 32 * (c.loop-s-2.s / 32 + 1) ≡ 32 * (c.loop-s.s / 32) + 32 = omega arith in
    (omega arith, i.1 ∙ rest-past _ _ i.2 c.columns-columns.ensures.is (omega arith) ∙ ap (listed_from a.disk.now.g a.disk.now.image.now) q)

pub returns : goal.returns
returns c = c.loop-s.invariant.1 ∙ from-end _ _ c.loop-s-test.false
