-- A call that changes the disk and passed its handle's tests is ready for a growth.
use mathlib.Core.Path.{◌≡◌, refl}
use mathlib.Core.List.{List, [], ◌∷◌}
use mathlib.Core.Bool.{Bool}
use Prim.Native.Nat.{ℕ}
use Rattle.meaning.specs.Refusals.{first, handle_refusals, protected}
use Rattle.meaning.specs.declared.Geometry.{Geometry}
use Rattle.meaning.specs.declared.Handle.{Handle}
use Rattle.laws.specs.Steps.{Ready}
use Rattle.layout.proofs.HasRoom.{slot-yes}
use Rattle.passed.proofs.Checked.{passed, passed-user}

pub ready : (g : Geometry) (d : List ℕ) (h : Handle) (ranged : Bool) (most : ℕ) {n : ℕ} → n ≡ first (handle_refusals g d h ranged (protected g d most h ∷ []))
    → n ≡ 0 → Ready g d h.slot
ready g d h ranged most e z =
    let w = passed g d h ranged (protected g d most h ∷ []) refl e z in
    record {
      fits = w.disk.fits;
      sound = w.disk.sound;
      slot = slot-yes g d h.slot w.slot.low w.slot.held;
      first = w.first';
      user = passed-user g d h ranged most [] refl e z;
    }
