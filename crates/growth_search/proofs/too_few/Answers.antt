use Rattle.space.proofs.Clear.{freed-start, freed-more, freed-step}
use Rattle.growth_search.proofs.Enough.{enough, fewer}
use native.Mathlib.Omega.{arith}
use Rattle.growth_search.proofs.too_few.Goals as goal

pub loop-b-init : goal.loop-b-init
loop-b-init c = (omega arith, omega arith, freed-start _ _)

pub returns-then-k-n : goal.returns-then-k-n
returns-then-k-n c = enough _ _ c.loop-b.invariant.2 c.if-k-n.true

pub free_in_eight-n-requires : goal.free_in_eight-n-requires
free_in_eight-n-requires c = (omega arith)

pub overflow_add-n : goal.overflow_add-n
overflow_add-n c = let r = c.args.disk.now.room in let k = c.free_in_eight-n.ensures.1 in omega arith

pub loop-b-smaller : goal.loop-b-smaller
loop-b-smaller c = omega arith

pub loop-b-preserved : goal.loop-b-preserved
loop-b-preserved c = (
  omega arith,
  (let k = c.free_in_eight-n.ensures.1 in omega arith),
  freed-more _ _ 8 c.loop-b.invariant.2 (omega arith) c.free_in_eight-n.ensures.0,
)

pub loop-rest-init : goal.loop-rest-init
loop-rest-init c = c.loop-b.invariant

pub returns-then-k-n-2 : goal.returns-then-k-n-2
returns-then-k-n-2 c = enough _ _ c.loop-rest.invariant.2 c.if-k-n-2.true

pub gat_byte-requires : goal.gat_byte-requires
gat_byte-requires c = let r = c.args.disk.now.room in omega arith

pub clear_bits-n-requires : goal.clear_bits-n-requires
clear_bits-n-requires c = c.args.disk.now.room.units-high

pub overflow_add-n-in-loop-rest : goal.overflow_add-n-in-loop-rest
overflow_add-n-in-loop-rest c = let r = c.args.disk.now.room in let k = c.clear_bits-n.ensures.1 in omega arith

pub loop-rest-preserved : goal.loop-rest-preserved
loop-rest-preserved c = (
  omega arith,
  (let k = c.clear_bits-n.ensures.1 in omega arith),
  freed-step _ _ c.args.disk.now.room.units-low
      c.loop-rest.invariant.2 c.loop-rest-test.true
      c.gat_byte.ensures.is c.clear_bits-n.ensures.0,
)

pub returns : goal.returns
returns c = fewer _ _ c.loop-rest.invariant.2 c.args.k (omega arith)
