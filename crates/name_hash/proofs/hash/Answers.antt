use Rattle.meaning.specs.Lists.{through}
use Rattle.meaning.specs.Names.{hash, mix}
use borrow.Author.Tests.{eq-eqb, ne_eqb}
use native.Mathlib.Omega.{arith}
use mathlib.Core.Path.{◌≡◌, sym, ◌∙◌}
use Rattle.name_hash.proofs.hash.Goals as goal

pub returns-then-h-eq0 : goal.returns-then-h-eq0
unfolding hash
returns-then-h-eq0 c = let e : through mix 0 c.args.name.now ≡ 0 = sym c.mixed-h.ensures ∙ c.if-h-eq0.true in
    record { is = simp (eq-eqb _ _ e); small = omega arith }

pub returns-else-h-eq0 : goal.returns-else-h-eq0
unfolding hash
returns-else-h-eq0 c = let a = c.args in let e : through mix 0 a.name.now ≡ c.mixed-h.result = sym c.mixed-h.ensures in
    record { is = simp (e, ne_eqb _ _ c.if-h-eq0.false) c.from.ensures; small = omega arith }
