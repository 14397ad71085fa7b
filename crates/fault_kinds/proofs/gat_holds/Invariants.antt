use Rattle.fault_kinds.proofs.Passes.{named}
use Rattle.meaning.specs.Entries.{entry_granules}
use Rattle.meaning.specs.Layout.{taken}
use Rattle.meaning.specs.Lists.{count, every}
use Prim.Native.Nat.{◌-◌}
use mathlib.Core.Path.{◌≡◌}
use Rattle.fault_kinds.proofs.gat_holds.Given as goal

abbrev pub invariant-loop-k : goal.invariant-loop-k
invariant-loop-k l = let g = l.disk.g in let d = l.disk.image.now in
    every (taken g d) (entry_granules g d l.s) ≡ every (taken g d) (named g d l.s (count l.k (l.n - l.k)))
