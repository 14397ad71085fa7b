use Rattle.check_map.proofs.Window.{base-at, lies, stretch-no, stretch-yes}
use Rattle.check_map.proofs.Owners.{one-shl-pos}
use native.Mathlib.Omega.{arith}
use Rattle.check_map.proofs.take_stretch.Goals as goal

pub overflow_sub-shift : goal.overflow_sub-shift
overflow_sub-shift c = let b = base-at c.args.block c.min-at.ensures in b.low

pub overflow_sub-mask : goal.overflow_sub-mask
overflow_sub-mask c = one-shl-pos c.args.n (omega arith)

pub overflow_shl-mask-2 : goal.overflow_shl-mask-2
overflow_shl-mask-2 c = let b = base-at c.args.block c.min-at.ensures in
    let l = (lies c.args.unit c.args.n b c.requires.0 c.requires.1
    c.requires.3).room in
    let q = c.requires.2 in omega arith

pub eight-x-requires : goal.eight-x-requires
eight-x-requires c = let b = base-at c.args.block c.min-at.ensures in
    let h = b.high in omega arith

pub returns-then-x-mask-ne0 : goal.returns-then-x-mask-ne0
returns-then-x-mask-ne0 c = let b = base-at c.args.block c.min-at.ensures in
    stretch-no c.args.map.now _ c.min-at.result _
    c.args.n _ c.eight-x.ensures.is c.eight-x.ensures.bytes
    (lies c.args.unit c.args.n b
    c.requires.0 c.requires.1
    c.requires.3) (omega arith) c.if-x-mask-ne0.true

pub put_eight-requires : goal.put_eight-requires
put_eight-requires c = let b = base-at c.args.block c.min-at.ensures in
    let h = b.high in (omega arith, omega arith)

pub returns : goal.returns
returns c = let b = base-at c.args.block c.min-at.ensures in
    stretch-yes c.args.map.now _
    c.min-at.result _ c.args.n _
    c.eight-x.ensures.is c.eight-x.ensures.bytes
    (lies c.args.unit
    c.args.n b
    c.requires.0
    c.requires.1
    c.requires.3) (omega arith) c.if-x-mask-ne0.false
    c.put_eight.ensures
