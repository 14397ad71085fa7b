-- "The split answers together are exactly the old 2" (02 §2): a disk has a fault exactly if it is not consistent.
use Rattle.std.specs.Prelude.{◌≡◌, ◌↔◌, ◌⊎◌, ℕ, eqb}
use Rattle.std.proofs.Common.{ap, inl, inr, arith}
use Rattle.std.proofs.Math.Bool.{Bool, true, false, cond}
use mathlib.Core.List.{List, [], ◌∷◌}
use Rattle.meaning.specs.Layout.{slots}
use Rattle.meaning.specs.Consistent.{length_holds, directory_taken, consistent}
use Rattle.meaning.specs.Fault.{kinds_at, fault_at, lowest, fault}
use Rattle.meaning.specs.Refusal.{unplaced, placed}
use Rattle.meaning.specs.Refusals.{fault_numbers}
use Rattle.meaning.specs.declared.Geometry.{Geometry}
use Rattle.meaning.specs.declared.Refusal.{Refusal}
use Rattle.lists.specs.Members
use Rattle.lists.specs.Members.{In}
use Rattle.lists.specs.First.{numbers_of, first-in}
use Rattle.laws.specs.Facts
use Rattle.laws.specs.Faultless.{faultless, none_of}
use Rattle.laws.specs.FaultlessSound.{faultless-sound}
use Rattle.laws.specs.SoundFaultless.{sound-faultless}

module _ (g : Geometry) (d : List ℕ) where
  none-sound : (fault g d).number ≡ 0 → consistent g d ≡ true
  none-sound e = Facts.back g d (faultless-sound g d (faultless g d e))

  sound_none : consistent g d ≡ true → fault g d ≡ unplaced 0
  sound_none e = none_of g d (sound-faultless g d (Facts.sound g d e))

  pub no-fault : (fault g d ≡ unplaced 0) ↔ (consistent g d ≡ true)
  no-fault = (λ e. none-sound (ap {B = ℕ} (λ (f : Refusal). f.number) e), sound_none)

  -- the number alone says it
  pub no_number : ((fault g d).number ≡ 0) ↔ (consistent g d ≡ true)
  no_number = (none-sound, λ e. ap {B = ℕ} (λ (f : Refusal). f.number) (sound_none e))

  at-numbered : (s : ℕ) → In (fault_at g d s) (0 ∷ fault_numbers)
  unfolding fault_at
  at-numbered s = go (Members.in-cons (first-in (kinds_at g d s)))
    where
      go : (fault_at g d s ≡ 0) ⊎ In (fault_at g d s) (numbers_of (kinds_at g d s)) → In (fault_at g d s) (0 ∷ fault_numbers)
      go (inl e) = Members.head_in fault_numbers e
      go (inr i) = Members.In.there (Members.In.there i)

  lowest-numbered : (after : Refusal) (ss : List ℕ) → In after.number (0 ∷ fault_numbers) → In (lowest g d after ss).number (0 ∷ fault_numbers)
  unfolding lowest
  lowest-numbered after [] i = i
  lowest-numbered after (s ∷ ss) i = go (eqb (fault_at g d s) 0) (lowest-numbered after ss i)
    where
      go : (b : Bool) → In (lowest g d after ss).number (0 ∷ fault_numbers)
          → In (cond b (lowest g d after ss) (placed (fault_at g d s) s)).number (0 ∷ fault_numbers)
      go true j = j
      go false j = at-numbered s

  -- The number is 0, or one of 21 to 30.
  pub numbered : In (fault g d).number (0 ∷ fault_numbers)
  unfolding fault
  numbered = go (length_holds g d) (directory_taken g d)
    where
      after : Bool → Refusal
      after b = cond b (unplaced 0) (unplaced 30)

      clear : (b : Bool) → In (after b).number (0 ∷ fault_numbers)
      clear true = Members.In.here
      clear false = Members.In.there (Members.in_count 30 21 10 (omega arith) (omega arith))

      go : (a b : Bool) → In (cond a (lowest g d (after b) (slots g d)) (unplaced 21)).number (0 ∷ fault_numbers)
      go true b = lowest-numbered (after b) (slots g d) (clear b)
      go false b = Members.In.there Members.In.here
