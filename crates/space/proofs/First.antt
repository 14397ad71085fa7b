-- The first of the numbers of a range that pass a test; the first free slot.
use mathlib.Core.Path.{◌≡◌, refl, sym, ap, subst, ◌∙◌}
use mathlib.Core.List.{List, [], ◌∷◌}
use mathlib.Core.Bool.{Bool, true, false, not}
use mathlib.Core.Logic.{⊎_elim, ◌⊎◌, inl, inr}
use Prim.Native.Nat.{ℕ, zero, suc, ◌+◌, ◌*◌, ◌-◌, ◌/◌, ◌%◌, ◌≤◌, ◌<◌}
use native.Mathlib.Nat.{eq-or-lt_of_le}
use native.Mathlib.Omega.{arith}
use borrow.Author.Tests.{lt-ltb, le-ltb, eq-eqb, ne_eqb}
use lib.Dec.{ltb, eqb}
use lib.ListN.{take}
use Rattle.meaning.specs.Lists.{count, keep, all, first_or}
use Rattle.meaning.specs.Layout.{directory_sectors, is_slot, hit}
use Rattle.meaning.specs.Free.{free_slots, free_slot, permitted, kept}
use Rattle.meaning.specs.declared.Geometry.{Geometry}
use Rattle.lists.specs.Tests.{keep-yes, keep-no, all_yes, all-no, all_none, all_one, le-or-lt}
use Rattle.layout.proofs.HasRoom.{slot-yes, slot-no}
use Rattle.space.specs.Keeps.{Keeps}

-- none of the numbers below m passes the test
abbrev pub NoneBelow : (ℕ → Bool) → ℕ → Type 0
NoneBelow p m = (k : ℕ) → k < m → p k ≡ false

pub none-step : (p : ℕ → Bool) (m : ℕ) {m' : ℕ} → NoneBelow p m → p m ≡ false → m' ≡ m + 1 → NoneBelow p m'
none-step p m all here e k h =
    ⊎_elim (λ (q : k ≡ m). subst (λ (j : ℕ). p j ≡ false) (sym q) here) (λ (q : k < m). all k q) (eq-or-lt_of_le (omega arith))

pub keep-first : (p : ℕ → Bool) (n i x : ℕ) → i ≤ x → x < i + n → NoneBelow p x → p x ≡ true → take 1 (keep p (count i n)) ≡ x ∷ []
keep-first p zero i x h l none yes' = absurd (let q : ⊥ = omega arith in q)
keep-first p (suc n) i x h l none yes' =
    ⊎_elim
    (λ (q : i ≡ x). ap (take 1) (keep-yes p {x = i} (ap p q ∙ yes') (count (i + 1) n)) ∙ ap (λ (k : ℕ). k ∷ []) q)
    (λ (q : i < x). ap (take 1) (keep-no p {x = i} (none i q) (count (i + 1) n)) ∙ keep-first p n (i + 1) x (omega arith) (omega arith) none yes')
    (eq-or-lt_of_le h)

pub first-at : (p : ℕ → Bool) (z n i x : ℕ) → i ≤ x → x < i + n → NoneBelow p x → p x ≡ true → first_or z (keep p (count i n)) ≡ x
unfolding first_or
first-at p z n i x h l none yes' = by (keep p (count i n)) (keep-first p n i x h l none yes')
  where
    by : (xs : List ℕ) → take 1 xs ≡ x ∷ [] → first_or z xs ≡ x
    by [] e = cc
    by (y ∷ ys) e = cc

pub keep-none : (p : ℕ → Bool) (n i : ℕ) → NoneBelow p (i + n) → keep p (count i n) ≡ []
keep-none p zero i none = refl
keep-none p (suc n) i none = keep-no p {x = i} (none i (omega arith)) (count (i + 1) n) ∙ keep-none p n (i + 1) (λ k h. none k (omega arith))

-- a slot of a row, against the number of those that it keeps
pub keeps-yes : {g : Geometry} {row c : ℕ} → Keeps g row c → (s : ℕ) → s / 32 ≡ row → s % 32 < c → kept g s ≡ true
keeps-yes w s e h = w.first s e ∙ lt-ltb _ _ h

pub keeps-no : {g : Geometry} {row c : ℕ} → Keeps g row c → (s : ℕ) → s / 32 ≡ row → c ≤ s % 32 → kept g s ≡ false
keeps-no w s e h = w.first s e ∙ le-ltb _ _ h

-- how many that are: eight of rows 0 to 3 on a system disk, slots 00H and 01H on a data disk
module _ (g : Geometry) (row : ℕ) where
  pub keeps-eight : g.system ≡ true → row < 4 → Keeps g row 8
  unfolding kept
  keeps-eight y h = record {
    few = omega arith;
    first = λ s e. rw y (all_yes (lt-ltb _ _ (let q : s / 32 < 4 = omega arith in q)) _ ∙ all_one (ltb (s % 32) 8));
  }

  pub keeps-system : g.system ≡ true → 4 ≤ row → Keeps g row 0
  unfolding kept
  keeps-system y h = record {
    few = omega arith;
    first = λ s e. rw y (all-no (le-ltb _ _ (let q : 4 ≤ s / 32 = omega arith in q)) _ ∙ sym (le-ltb (s % 32) 0 (omega arith)));
  }

  pub keeps-two : g.system ≡ false → row < 1 → Keeps g row 2
  unfolding kept
  keeps-two y h = record {
    few = omega arith;
    first = λ s e. rw y (ap (λ (n : ℕ). ltb n 2) (let q : s ≡ s % 32 = omega arith in q));
  }

  pub keeps-data : g.system ≡ false → 1 ≤ row → Keeps g row 0
  unfolding kept
  keeps-data y h = record {
    few = omega arith;
    first = λ s e. rw y (le-ltb s 2 (omega arith) ∙ sym (le-ltb (s % 32) 0 (omega arith)));
  }

module _ (g : Geometry) (d : List ℕ) where
  -- the tests of a slot
  pub slot-open : (s : ℕ) → s < 256 → s % 32 + 2 < directory_sectors g d → kept g s ≡ false → hit g d s ≡ 0 → free_slot g d s ≡ true
  unfolding free_slot permitted
  slot-open s h l o z = all_yes (all_yes (slot-yes g d s h l) _ ∙ all_yes (ap not o) _ ∙ all_none) _ ∙ all_yes (eq-eqb _ _ z) _ ∙ all_none

  pub slot-free : (row s : ℕ) {c : ℕ} → Keeps g row c → row < 8 → s + 2 < directory_sectors g d → directory_sectors g d ≤ 30 → c ≤ s → hit g d (32 * row + s) ≡
      0 → free_slot g d (32 * row + s) ≡ true
  slot-free row s k h l m b z = slot-open (32 * row + s) (omega arith) (omega arith) (keeps-no k (32 * row + s) (omega arith) (omega arith)) z

  pub slot-used : (s : ℕ) → (hit g d s ≡ 0 → ⊥) → free_slot g d s ≡ false
  unfolding free_slot
  slot-used s n = by (permitted g d s)
    where
      by : (b : Bool) → all (b ∷ eqb (hit g d s) 0 ∷ []) ≡ false
      by true = all_yes refl _ ∙ all-no (ne_eqb _ _ n) _
      by false = all-no refl _

  pub slot-past : (s : ℕ) → s < 256 → directory_sectors g d ≤ s % 32 + 2 → free_slot g d s ≡ false
  unfolding free_slot permitted
  slot-past s h l = all-no (all-no (slot-no g d s h l) _) _

  pub slot_kept : (s : ℕ) → kept g s ≡ true → free_slot g d s ≡ false
  unfolding free_slot permitted
  slot_kept s k = by (is_slot g d s)
    where
      by : (t : Bool) → all (all (t ∷ not (kept g s) ∷ []) ∷ eqb (hit g d s) 0 ∷ []) ≡ false
      by true = all-no (all_yes refl _ ∙ all-no (ap not k) _) _
      by false = all-no (all-no refl _) _

  -- at the start of a row behind its kept slots, and past its last slot
  pub none_kept : {row c : ℕ} → NoneBelow (free_slot g d) (32 * row) → Keeps g row c → NoneBelow (free_slot g d) (32 * row + c)
  none_kept {row} {c} none w k h =
      ⊎_elim
      (λ (q : 32 * row ≤ k). let f = w.few in slot_kept k (keeps-yes w k (omega arith) (omega arith)))
      (λ (q : k < 32 * row). none k q) (le-or-lt (32 * row) k)

  pub none_row : {row s n m : ℕ} → row < 8 → n ≡ directory_sectors g d - 2 → n ≤ s → m ≡ 32 * (row + 1) → NoneBelow (free_slot g d) (32 * row + s) → NoneBelow
      (free_slot g d) m
  none_row {row} {s} {n} {m} l e h q none k b =
      ⊎_elim (λ (w : 32 * row + s ≤ k). slot-past k (omega arith) (omega arith)) (λ (w : k < 32 * row + s). none k w) (le-or-lt (32 * row + s) k)

  pub slots-first : (x : ℕ) → x < 256 → NoneBelow (free_slot g d) x → free_slot g d x ≡ true → x ∷ [] ≡ take 1 (free_slots g d)
  unfolding free_slots
  slots-first x h none f = sym (keep-first (free_slot g d) 256 0 x (omega arith) h none f)

  pub slots-none : NoneBelow (free_slot g d) 256 → [] ≡ take 1 (free_slots g d)
  unfolding free_slots
  slots-none none = sym (ap (take 1) (keep-none (free_slot g d) 256 0 none))
