use Rattle.space.proofs.Eights.{eight-free}
use native.Mathlib.Omega.{arith}
use Rattle.space.proofs.free_in_eight.Goals as goal

pub overflow_mul-bits : goal.overflow_mul-bits
overflow_mul-bits c = omega (arith, c.mask.ensures.small)

pub overflow_cast-result : goal.overflow_cast-result
overflow_cast-result c = let q = eight-free c.args.disk.now.g
    c.args.disk.now.image.now c.args.disk.now.room.units-low
    c.args.disk.now.room.units-high c.args.b _
    c.gat_at.ensures
    (let r = c.requires in let a = c.gat_at.ensures in omega arith) c.eight-x.ensures.bytes c.eight-x.ensures.is
    c.mask.ensures.is in let r = c.requires in omega arith

pub overflow_sub-result : goal.overflow_sub-result
overflow_sub-result c = let q = eight-free c.args.disk.now.g c.args.disk.now.image.now
    c.args.disk.now.room.units-low c.args.disk.now.room.units-high
    c.args.b _ c.gat_at.ensures
    (let r = c.requires in let a = c.gat_at.ensures in omega arith) c.eight-x.ensures.bytes c.eight-x.ensures.is
    c.mask.ensures.is in omega arith

pub returns : goal.returns
returns c = let q = eight-free c.args.disk.now.g c.args.disk.now.image.now
    c.args.disk.now.room.units-low c.args.disk.now.room.units-high
    c.args.b _ c.gat_at.ensures
    (let r = c.requires in let a = c.gat_at.ensures in omega arith) c.eight-x.ensures.bytes c.eight-x.ensures.is
    c.mask.ensures.is in let r = c.requires in (omega arith, omega arith)
