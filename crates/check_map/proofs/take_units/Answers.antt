use Rattle.check_map.proofs.Owners.{one-shl-two}
use Rattle.check_map.proofs.Owners.{fits_byte, takes-no, takes-yes}
use native.Mathlib.Omega.{arith}
use Rattle.check_map.proofs.take_units.Goals as goal

pub overflow_sub-mask : goal.overflow_sub-mask
overflow_sub-mask c = let q = one-shl-two c.args.n c.requires.3 (let p = c.requires in omega arith) in omega arith

pub returns-then-x-mask-ne0 : goal.returns-then-x-mask-ne0
returns-then-x-mask-ne0 c = let a = c.args in let p = c.requires in
    takes-no a.units a.block a.unit a.n _ (p).1 (p).2 c.byte_of-x.ensures.is c.if-x-mask-ne0.true

pub overflow_cast-map : goal.overflow_cast-map
overflow_cast-map c = omega (
  arith,
  fits_byte c.byte_of-x.result c.args.n c.args.unit
      c.byte_of-x.ensures.small (let p = c.requires in omega arith),
)

pub returns : goal.returns
returns c = takes-yes c.args.units c.args.block
    c.args.unit c.args.n _ c.requires.1
    c.requires.2 (omega arith) c.byte_of-x.ensures.is c.if-x-mask-ne0.false
