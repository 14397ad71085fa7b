use mathlib.Core.Path.{◌≡◌}
use Prim.Native.Nat.{◌-◌}
use Rattle.meaning.specs.Lists.{count, keep}
use Rattle.meaning.specs.Layout.{is_slot, slots}
use Rattle.meaning.specs.Fault.{lowest}
use Rattle.fault_diagnosis.specs.Told.{after_slots}
use Rattle.fault_diagnosis.proofs.slots_fault.Given as goal

abbrev pub invariant-loop-s : goal.invariant-loop-s
invariant-loop-s l = let g = l.disk.g in let d = l.disk.image.now in
    lowest g d (after_slots g d) (slots g d) ≡ lowest g d (after_slots g d) (keep (is_slot g d) (count l.s (256 - l.s)))
