-- The free permitted slots hang on the directory's length and the HIT bytes alone
use Rattle.std.specs.Prelude.{◌≡◌, ◌≢◌, false, List, ℕ, suc, length, T, eqb}
use Rattle.std.proofs.Math.Path.{sym}
use Rattle.std.proofs.Common.{eqb→eq}
use Rattle.meaning.specs.Lists.{count, all}
use Rattle.meaning.specs.Layout.{is_slot, hit, above_ten}
use Rattle.meaning.specs.Free.{permitted, free_slot, free_slots}
use Rattle.meaning.specs.declared.Geometry.{Geometry}
use Rattle.lists.specs.Members
use Rattle.lists.specs.Members.{In}
use Rattle.lists.specs.Counting
use Rattle.laws.specs.Frame

module _ (g : Geometry) (d d' : List ℕ) (above : above_ten g d' ≡ above_ten g d) where
  slot_same : (s : ℕ) → (T (is_slot g d s) → hit g d' s ≡ hit g d s) → free_slot g d' s ≡ free_slot g d s
  unfolding free_slot permitted all
  slot_same s h = go (Members.decide (is_slot g d s))
    where
      go : Members.Test (is_slot g d s) → free_slot g d' s ≡ free_slot g d s
      go (Members.Test.holds t) = rw (Frame.slot-eq g d d' above s, h t)
      go (Members.Test.fails t) = rw (Frame.slot-eq g d d' above s, Members.no_false {b = is_slot g d s} t)

  pub slots_same : ((x : ℕ) → T (is_slot g d x) → hit g d' x ≡ hit g d x) → free_slots g d' ≡ free_slots g d
  unfolding free_slots
  slots_same h = Members.keep-eq (free_slot g d') (free_slot g d) (count 0 256) (λ s i. slot_same s (h s))

  taken-slot : (x : ℕ) → hit g d' x ≢ 0 → free_slot g d' x ≡ false
  unfolding free_slot all
  taken-slot x n = Members.no_false (λ t. n (eqb→eq (hit g d' x) 0 (Members.all-second (permitted g d' x) (eqb (hit g d' x) 0) t)))

  -- one slot taken
  pub slots-less : (x : ℕ) → In x (free_slots g d) → hit g d' x ≢ 0 → ((y : ℕ) → T (is_slot g d y) → y ≢ x → hit g d' y ≡ hit g d y) → length (free_slots g d) ≡
      suc (length (free_slots g d'))
  unfolding free_slots
  slots-less x i n h =
      let k = Members.keep-in (free_slot g d) x (count 0 256) i in
      Counting.one_less (free_slot g d') (free_slot g d) k.0 (Members.count-distinct 0 256) (taken-slot x n) (Members.T_true k.1)
      (λ y j e. sym (slot_same y (λ t. h y t e)))
