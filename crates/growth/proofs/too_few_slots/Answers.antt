use native.Mathlib.Omega.{arith}
use mathlib.Core.Path.{refl, ap}
use mathlib.Core.List.{List, ◌++◌}
use Prim.Native.Nat.{ℕ, ◌+◌, ◌-◌}
use lib.ListN.{take, drop}
use Rattle.passed.proofs.Ready.{walks}
use Rattle.growth.proofs.Roomy.{pairs-left, lengthening}
use Rattle.growth.proofs.Growing.{tail-slot}
use Rattle.growth.proofs.Whole.{on-paper, gat-inside}
use Rattle.growth.proofs.Put.{put_back}
use Rattle.growth.proofs.too_few_slots.Goals as goal

pub invariant_of-disk : goal.invariant_of-disk
invariant_of-disk c = record { room = (walks _ _ _ c.requires.0).0.room }

pub runs-pairs-requires : goal.runs-pairs-requires
runs-pairs-requires c = let p = c.requires in tail-slot _ _ c.args.lowest p.0 p.1

pub returns-then-k-pairs : goal.returns-then-k-pairs
returns-then-k-pairs c = let p = c.requires in (
  pairs-left _ _ c.args.lowest p.0 p.1 p.2 c.runs-pairs.ensures.is (omega
      (arith, c.runs-pairs.ensures.small, c.if-k-pairs.true)),
  refl,
)

pub last_run-end-requires : goal.last_run-end-requires
last_run-end-requires c = let p = c.requires in tail-slot _ _ c.args.lowest p.0 p.1

pub returns-then-all_clear : goal.returns-then-all_clear
returns-then-all_clear c = let p = c.requires in let l = c.last_run-end.ensures in let n = c.runs-pairs.ensures in let t = c.if-k-pairs.false in (
  lengthening _ _ c.args.lowest p.0 p.1
      p.2 l c.if-k-pairs-2.true (c.all_clear.ensures.yes c.if-all_clear.true)
      (let m = l.many in let r = n.is in let s = n.small in omega arith),
  refl,
)

pub gat_at-at-requires : goal.gat_at-at-requires
gat_at-at-requires c = let p = c.requires in omega (
  arith,
  gat-inside _ _
      (walks _ _ _ p.0).0.room,
)

pub take_granules-r-requires : goal.take_granules-r-requires
take_granules-r-requires c = let a = c.args in let p = c.requires in on-paper _ _ _ a.lowest p.0 p.1 p.2

pub slice_bounds-copy_from_slice-end : goal.slice_bounds-copy_from_slice-end
slice_bounds-copy_from_slice-end c = let p = c.requires in let at = c.gat_at-at.ensures in omega (arith, gat-inside _ _ (walks _ _ _ p.0).0.room)

pub slice_bounds-copy_from_slice-end-2 : goal.slice_bounds-copy_from_slice-end-2
slice_bounds-copy_from_slice-end-2 c = let p = c.requires in let at = c.gat_at-at.ensures in omega (arith, gat-inside _ _ (walks _ _ _ p.0).0.room)

pub returns : goal.returns
returns c = let p = c.requires in let t = c.take_granules-r.ensures in (
  t.number,
  put_back _ _ _ (t.marked refl) (gat-inside _ _ (walks _ _ _ p.0).0.room) c.gat_at-at.ensures c.copy_from_slice.ensures.after
      (ap (λ (s : List ℕ). take c.gat_at-at.result c.take_granules-r.new.image ++ (s ++ drop (c.gat_at-at.result + 192 - c.gat_at-at.result)
      (drop c.gat_at-at.result c.take_granules-r.new.image))) c.copy_from_slice-2.ensures.after),
)
