use mathlib.Core.Path.{ap, ◌∙◌}
use Rattle.check_names.proofs.Buckets.{searching-start, here, searching-found, searching-on, searching-end, compared}
use Prim.Native.Nat.{◌-◌}
use native.Mathlib.Omega.{arith}
use mathlib.Core.Bool.{not}
use Rattle.check_names.proofs.alone.Goals as goal

pub loop-x-init : goal.loop-x-init
loop-x-init c = searching-start _ _ _ _ _ _ c.requires.2

pub name_at-requires : goal.name_at-requires
name_at-requires c = let w = here _ _ _ _ _ _ c.loop-x.invariant c.loop-x-test.true in
    let lo = w.slot.low in let he = w.slot.held in omega arith

pub same_name-requires : goal.same_name-requires
same_name-requires c = let w = here _ _ _ _ _ _ c.loop-x.invariant c.loop-x-test.true in
    let lo = w.slot.low in let he = w.slot.held in (omega arith, omega arith)

pub returns-then-same_name : goal.returns-then-same_name
returns-then-same_name c = let w = here _ _ _ _ _ _ c.loop-x.invariant c.loop-x-test.true in
    searching-found _ _ _ _ _ _ w
    (compared _ _ _ _ _ _ c.args.disk.now.room c.requires.0 w.slot (omega arith) c.requires.1 (rw c.name_at.ensures at c.same_name.ensures)
    ∙ ap not c.if-same_name.true)

pub offset_bounds-next-q : goal.offset_bounds-next-q
offset_bounds-next-q c = let w = here _ _ _ _ _ _ c.loop-x.invariant c.loop-x-test.true in
    let lo = w.slot.low in let he = w.slot.held in omega arith

pub bounds-next-q : goal.bounds-next-q
bounds-next-q c = let w = here _ _ _ _ _ _ c.loop-x.invariant c.loop-x-test.true in
    let lo = w.slot.low in let he = w.slot.held in omega arith

pub loop-x-smaller : goal.loop-x-smaller
loop-x-smaller c = let z = c.requires.4 (c.loop-x.x - 1) in omega arith

pub loop-x-preserved : goal.loop-x-preserved
loop-x-preserved c = let w = here _ _ _ _ _ _ c.loop-x.invariant c.loop-x-test.true in
    rw c.from-x.ensures (searching-on _ _ _ _ _ _ w
    (compared _ _ _ _ _ _ c.args.disk.now.room c.requires.0 w.slot (omega arith) c.requires.1 (rw c.name_at.ensures at c.same_name.ensures)
    ∙ ap not c.if-same_name.false))

pub returns : goal.returns
returns c = searching-end _ _ _ _ _ _ c.loop-x.invariant c.loop-x-test.false
