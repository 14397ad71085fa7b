-- A pass over the slots of the directory, by rising number: what is left of them from slot s on.
use mathlib.Core.Path.{◌≡◌, refl, ap, ◌∙◌}
use mathlib.Core.List.{List, [], ◌∷◌}
use mathlib.Core.Bool.{Bool, false}
use Prim.Native.Nat.{ℕ, zero, suc, ◌+◌, ◌-◌, ◌*◌, ◌/◌, ◌%◌, ◌≤◌, ◌<◌}
use native.Mathlib.Omega.{arith}
use native.Mathlib.Nat.{zero-add}
use Rattle.meaning.specs.Lists.{count, keep}
use Rattle.meaning.specs.Layout.{is_slot, slots, directory_sectors}
use Rattle.meaning.specs.declared.Geometry.{Geometry}
use Rattle.lists.specs.Ranges.{left-more, left-none}
use Rattle.lists.specs.Tests.{keep-yes, keep-no}
use Rattle.layout.proofs.HasRoom.{slot-yes, slot-no}

-- k numbers in a row that do not pass
pub keep-past : (p : ℕ → Bool) (i k m : ℕ) → ((j : ℕ) → i ≤ j → j < i + k → p j ≡ false) → keep p (count i (k + m)) ≡ keep p (count (i + k) m)
keep-past p i zero m h = let e : i ≡ i + 0 = omega arith in ap (λ (n : ℕ). keep p (count i n)) (zero-add m) ∙ ap (λ (j : ℕ). keep p (count j m)) e
keep-past p i (suc k) m h =
    let e : suc k + m ≡ suc (k + m) = omega arith in
    let f : i + 1 + k ≡ i + suc k = omega arith in
    ap (λ (n : ℕ). keep p (count i n)) e ∙ keep-no p (h i (omega arith) (omega arith)) (count (i + 1) (k + m))
    ∙ keep-past p (i + 1) k m (λ j a b. h j (omega arith) (omega arith)) ∙ ap (λ (j : ℕ). keep p (count j m)) f

-- a pass by rows: slot s of a row, or the row's end
pub record InRow (row columns s : ℕ) : Type 0 where
  pub low : row < 8
  pub begun : 32 * row ≤ s
  pub ends : s ≤ 32 * row + columns
  pub few : columns ≤ 28

pub row-start : (row columns : ℕ) → row < 8 → columns ≤ 28 → InRow row columns (32 * row)
row-start row columns h k = record { low = h; begun = omega arith; ends = omega arith; few = k }

module _ {row columns s : ℕ} (r : InRow row columns s) where
  pub row-slot : s ≤ 32 * row + columns → s < 256
  row-slot h = let a = r.low in let b = r.few in omega arith

  pub row_here : s < 32 * row + columns → s % 32 < columns
  row_here h = let a = r.begun in let b = r.few in omega arith

  pub row_next : s < 32 * row + columns → InRow row columns (s + 1)
  row_next h = let a = r.begun in record { low = r.low; begun = omega arith; ends = omega arith; few = r.few }

  -- the row has no slot more, and the next one begins
  pub row-past : 32 * row + columns ≤ s → columns ≤ s % 32
  row-past h = let a = r.ends in let b = r.few in omega arith

  pub row-after : 32 * row + columns ≤ s → 32 * (s / 32 + 1) ≡ 32 * (row + 1)
  row-after h = let a = r.ends in let b = r.few in omega arith

module _ (g : Geometry) (d : List ℕ) where
  -- the slots from s on
  unfoldable pub slots_from : ℕ → List ℕ
  slots_from s = keep (is_slot g d) (count s (256 - s))

  pub slots-start : slots g d ≡ slots_from 0
  unfolding slots slots_from
  slots-start = refl

  pub slots_end : {s : ℕ} → 256 ≤ s → slots_from s ≡ []
  unfolding slots_from
  slots_end {s} h = ap (λ (m : ℕ). keep (is_slot g d) (count s m)) (left-none h)

  -- slot s is one the directory has
  pub slots-here : {s columns : ℕ} → s < 256 → columns ≡ directory_sectors g d - 2 → s % 32 < columns → slots_from s ≡ s ∷ slots_from (s + 1)
  unfolding slots_from
  slots-here {s} h e l =
      ap (λ (m : ℕ). keep (is_slot g d) (count s m)) (left-more h)
      ∙ keep-yes (is_slot g d) (slot-yes g d s h (omega arith)) (count (s + 1) (256 - (s + 1)))

  -- it is not, and so none is up to the end of its row
  pub slots-past : {s columns : ℕ} → s < 256 → columns ≡ directory_sectors g d - 2 → columns ≤ s % 32 → slots_from s ≡ slots_from (32 * (s / 32 + 1))
  unfolding slots_from
  slots-past {s} h e l =
      let a : 256 - s ≡ (32 - s % 32) + (256 - 32 * (s / 32 + 1)) = omega arith in
      let b : s + (32 - s % 32) ≡ 32 * (s / 32 + 1) = omega arith in
      ap (λ (m : ℕ). keep (is_slot g d) (count s m)) a
      ∙ keep-past (is_slot g d) s (32 - s % 32) (256 - 32 * (s / 32 + 1)) (λ j x y. slot-no g d j (omega arith) (omega arith))
      ∙ ap (λ (j : ℕ). keep (is_slot g d) (count j (256 - 32 * (s / 32 + 1)))) b
