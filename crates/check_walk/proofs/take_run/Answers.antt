use Rattle.check_walk.proofs.WalkSteps.{block_in, block_out, on-map, takes-unit, takes-disk, takes-map, takes_run}
use Rattle.layout.proofs.OneStep.{below}
use Rattle.check_map.proofs.Standing.{takes-marks}
use Prim.Native.Nat.{◌+◌, ◌/◌, ◌%◌}
use mathlib.Core.Path.{refl, ap}
use native.Mathlib.Omega.{arith}
use mathlib.Core.Bool.{not}
use Rattle.check_walk.proofs.take_run.Goals.{then-disk-block-via-then-disk-block, then-disk-block-via-else-disk-block+then-not-take_units}
use Rattle.check_walk.proofs.take_run.Goals.{then-disk-unit-via-then-disk-unit, then-disk-unit-via-else-disk-unit+then-granules-block}
use Rattle.check_walk.proofs.take_run.Goals.{then-disk-unit-via-else-disk-unit+else-granules-block+then-not-take_long}
use Rattle.check_walk.proofs.take_run.Goals as goal

pub take_units-requires : goal.take_units-requires
take_units-requires c = (
  (let b = c.args.disk.now.room.blocks-high in omega arith),
  (let q = c.if-unit-n.true in omega arith),
  c.args.disk.now.room.units-high,
  omega arith,
)

pub returns-then-disk-block : goal.returns-then-disk-block
returns-then-disk-block c = let second = c.field_at-second.ensures.is in let block = c.field_at-block.ensures.is in
    let n = 1 + c.field_at-second.result % 32 in let end = c.field_at-second.result / 32 + n in elim c.then-disk-block.branch [
      | then-disk-block-via-then-disk-block w ↦
          takes-disk _ _ _ _ _ second block refl
          (let q = block_out c.args.disk.now.g c.field_at-block.result end w.if-disk-block.true (omega arith) in omega arith)
      | then-disk-block-via-else-disk-block+then-not-take_units w ↦
          takes-map _ _ _ _ _ second block (takes-marks _ _ (let q = block_in c.args.disk.now.g c.field_at-block.result end w.if-disk-block.false
          c.if-unit-n.true in omega arith) w.take_units.ensures) (ap not w.if-not-take_units.true)
    ]

pub returns-then-unit-n : goal.returns-then-unit-n
returns-then-unit-n c =
    let end = c.field_at-second.result / 32 + (1 + c.field_at-second.result % 32) in
    let on = block_in c.args.disk.now.g c.field_at-block.result end c.if-disk-block.false c.if-unit-n.true in
    takes_run _ _ _ _ _ c.field_at-second.ensures.is c.field_at-block.ensures.is refl (omega arith) (omega (arith, on))
    (takes-marks _ _ (omega (arith, on)) c.take_units.ensures) (ap not c.if-not-take_units.false)

pub overflow_mul-block : goal.overflow_mul-block
overflow_mul-block c = omega (arith, below c.field_at-block.result c.args.disk.now.g.units 255 8 (omega arith) (omega arith))

pub overflow_add-block : goal.overflow_add-block
overflow_add-block c = omega (arith, below c.field_at-block.result c.args.disk.now.g.units 255 8 (omega arith) (omega arith))

pub overflow_add-block-else-disk-unit : goal.overflow_add-block-else-disk-unit
overflow_add-block-else-disk-unit c = omega (arith, below c.field_at-block.result c.args.disk.now.g.units 255 8 (omega arith) (omega arith))

pub returns-then-disk-unit : goal.returns-then-disk-unit
returns-then-disk-unit c = let second = c.field_at-second.ensures.is in let block = c.field_at-block.ensures.is in elim c.then-disk-unit.branch [
  | then-disk-unit-via-then-disk-unit w ↦ takes-unit _ _ _ _ _ second w.if-disk-unit.true
  | then-disk-unit-via-else-disk-unit+then-granules-block w ↦ takes-disk _ _ _ _ _ second block w.granules.ensures.0 w.if-granules-block.true
  | then-disk-unit-via-else-disk-unit+else-granules-block+then-not-take_long w ↦
      takes-map _ _ _ _ _ second block (takes-marks _ _ (let q = w.granules.ensures.0 in let v = w.if-granules-block.false in omega arith)
      w.take_long.ensures) (ap not w.if-not-take_long.true)
]

pub take_long-requires : goal.take_long-requires
take_long-requires c = (
  c.if-disk-unit.false,
  c.args.disk.now.room.units-high,
  on-map _ _ _ c.args.disk.now.room (let q = c.granules.ensures.0 in let w = c.if-granules-block.false in omega arith),
  omega arith,
  omega arith,
)

pub returns : goal.returns
returns c = takes_run _ _ _ _ _ c.field_at-second.ensures.is c.field_at-block.ensures.is c.granules.ensures.0 c.if-disk-unit.false
    c.if-granules-block.false (takes-marks _ _ (let q = c.granules.ensures.0 in let w = c.if-granules-block.false in omega arith) c.take_long.ensures)
    (ap not c.if-not-take_long.false)
