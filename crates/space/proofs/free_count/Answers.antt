use Rattle.space.proofs.Clear.{Freed, freed-start, freed-more, freed-step, freed-end}
use native.Mathlib.Omega.{arith}
use Prim.Native.Nat.{ℕ}
use mathlib.Core.Path.{◌≡◌, subst}
use Rattle.space.proofs.free_count.Goals as goal

pub loop-b-init : goal.loop-b-init
loop-b-init c = (omega arith, omega arith, freed-start _ _)

pub loop-b-preserved : goal.loop-b-preserved
loop-b-preserved c = (
  omega arith,
  (let k = c.free_in_eight-n.ensures.1 in omega arith),
  freed-more _ _ 8 c.loop-b.invariant.2 (omega arith)
      c.free_in_eight-n.ensures.0,
)

pub loop-rest-init : goal.loop-rest-init
loop-rest-init c = c.loop-b.invariant

pub loop-rest-preserved : goal.loop-rest-preserved
loop-rest-preserved c = (
  omega arith,
  (let k = c.clear_bits-n.ensures.1 in omega arith),
  freed-step _ _
      c.args.disk.now.room.units-low c.loop-rest.invariant.2
      c.loop-rest-test.true c.gat_byte.ensures.is c.clear_bits-n.ensures.0,
)

pub returns : goal.returns
returns c = let z : c.loop-rest.rest ≡ 0 = omega arith in
    freed-end _ _ (subst (λ (j : ℕ). Freed c.args.disk.now.g
    c.args.disk.now.image.now j c.loop-rest.n) z c.loop-rest.invariant.2)
