use Rattle.growth.proofs.Put.{stored, not-stored}
use Rattle.meaning.specs.Layout.{take_granule}
use Prim.Native.Nat.{ℕ}
use mathlib.Core.Path.{◌≡◌, ap, ◌∙◌}
use mathlib.Core.List.{List}
use lib.ListN.{length}
use native.Mathlib.Omega.{arith}
use native.Mathlib.Nat.{mod-lt}
use borrow.Author.Rules.{rules}
use mathlib.Core.Bool.{not}
use Rattle.growth.proofs.put_pair.Goals as goal

pub take_granule-requires : goal.take_granule-requires
take_granule-requires c = let i = c.requires.0 in let q = i.entry in let w = i.block in
    record { units-low = i.units-low; units-high = i.units-high; inside = omega arith }

pub returns-then-not-writes : goal.returns-then-not-writes
returns-then-not-writes c = let a = c.args in not-stored (λ (l : List ℕ). take_granule a.g l a.n) a.writes _ _ _ (ap not c.if-not-writes.true)
    c.take_granule.ensures

pub overflow_mul-n : goal.overflow_mul-n
overflow_mul-n c = let a = c.args in let i = c.requires.0 in let u = i.units-low in let v = i.units-high in
    omega (arith, mod-lt a.n {m = a.g.units} (omega arith))

pub set_pair-requires : goal.set_pair-requires
set_pair-requires c = let a = c.args in let i = c.requires.0 in let u = i.units-low in let v = i.units-high in let q = i.entry in let w = i.block in
    (omega arith, omega arith, omega arith, omega (arith, mod-lt a.n {m = a.g.units} (omega arith)))

pub take_granule-requires-2 : goal.take_granule-requires-2
take_granule-requires-2 c = let i = c.requires.0 in let q = i.entry in
    let w = i.block in
    let z : length c.set_pair.new.image ≡ length
    c.args.image.now = search rules in
    record { units-low = i.units-low; units-high = i.units-high; inside = omega arith }

pub returns : goal.returns
returns c = let a = c.args in stored (λ (l : List ℕ). take_granule a.g l a.n) a.writes _ _ _
    (ap not c.if-not-writes.false)
    (c.take_granule-2.ensures ∙ ap (λ (l : List ℕ). take_granule a.g l a.n)
    c.set_pair.ensures)
