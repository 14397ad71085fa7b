use Rattle.lists.specs.Sizes.{round-least, bytes_pos}
use Rattle.growth.proofs.Whole.{Whole, whole-none}
use Rattle.meaning.specs.Growth.{lacking}
use Rattle.refusal.specs.Why.{number_of}
use Prim.Native.Nat.{ℕ}
use mathlib.Core.Path.{subst}
use native.Mathlib.Omega.{arith}
use Rattle.write.proofs.grow_to.Goals as goal

pub returns-then-wanted-granules_for : goal.returns-then-wanted-granules_for
returns-then-wanted-granules_for c = whole-none c.args.g c.args.image.now
    c.args.p _ (let e = c.granules_for-wanted.ensures in let f = c.granules_for.ensures in let t = c.if-wanted-granules_for.true in
    let o = c.requires.1 in omega (arith, round-least (bytes_pos _) _ _ o))

pub returns : goal.returns
returns c = let granules-for = c.granules_for-wanted in let a = c.args in
    subst (λ (w : ℕ). Whole a.g a.image.now a.p (lacking a.g a.image.now a.p w) (number_of c.grow.result)
    c.grow.new.image) granules-for.ensures c.grow.ensures
