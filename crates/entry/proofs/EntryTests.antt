-- The name of an entry as it is copied, an entry's tests, and a whole entry put.
use mathlib.Core.Path.{◌≡◌, sym, ap, ap₂, ◌∙◌}
use mathlib.Core.List.{List, ◌++◌, append_assoc}
use mathlib.Core.Bool.{Bool, true, false, not, ◌&&◌}
use Prim.Native.Nat.{ℕ, ◌+◌, ◌-◌, ◌*◌, ◌≤◌}
use native.Mathlib.Omega.{arith}
use lib.ListN.{length, set, take, drop}
use lib.Seq.{sets, sets-eq, drop-drop}
use borrow.Rule.Slice.PartMut.{put_mid}
use lib.Dec.{leb}
use Rattle.meaning.specs.Bits.{bit}
use Rattle.meaning.specs.Layout.{granule_bytes, field, entry_at, hit_at}
use Rattle.meaning.specs.Names.{well_formed}
use Rattle.meaning.specs.Entries.{name_of, size_of, sector_count, end_byte}
use Rattle.meaning.specs.Chain.{owned}
use Rattle.meaning.specs.Consistent.{name_holds, size_holds, count_holds}
use Rattle.meaning.specs.declared.Geometry.{Geometry}
use Rattle.layout.specs.Room.{Room, Slot}
use Rattle.layout.proofs.OneStep.{name-part}
use Rattle.lists.specs.Tests.{all_yes, all-no, all_one, is-false, is-true}

module _ (g : Geometry) (d : List ℕ) (s : ℕ) where
  -- the eleven bytes at the name's place are the name
  pub name-is : {a : ℕ} → Room g d → Slot g d s → a ≡ entry_at g s + 5 → take (a + 11 - a) (drop a d) ≡ name_of g d s
  name-is {a} r sl e =
      let l = sl.low in let h = sl.held in let w = r.long in let t = r.directory in
      let n : a + 11 - a ≡ 11 = omega arith in
      ap (λ (k : ℕ). take k (drop a d)) n ∙ ap (λ (k : ℕ). take 11 (drop k d)) e ∙ sym (name-part g d s (omega arith))

  pub name-long : {n : List ℕ} → n ≡ name_of g d s → length n ≡ 11
  unfolding name_of
  name-long e = ap {B = ℕ} length e

  -- bit 5 beside what was found of the name
  beside : {b : Bool} {n : List ℕ} → n ≡ name_of g d s → well_formed n ≡ b → name_holds g d s ≡ (b && not (bit 5 (field g d s 0)))
  unfolding name_holds
  beside e w = ap (λ (c : Bool). c && not (bit 5 (field g d s 0))) (ap well_formed (sym e) ∙ w)

  pub name-bad : {f : Bool} {n : List ℕ} → n ≡ name_of g d s → f ≡ well_formed n → f ≡ false → f ≡ name_holds g d s
  name-bad e w t = t ∙ sym (beside e (is-false w t))

  pub name-good : {f h : Bool} {n : List ℕ} → n ≡ name_of g d s → f ≡ well_formed n → f ≡ true → h ≡ bit 5 (field g d s 0) → not h ≡ name_holds g d s
  name-good e w t q = ap not q ∙ sym (beside e (is-true w t))

  pub size-bad : {f : Bool} → f ≡ count_holds (sector_count g d s) (end_byte g d s) → f ≡ false → f ≡ size_holds g d s
  unfolding size_holds
  size-bad w t = t ∙ sym (all-no (is-false w t) _)

  pub size-good : {f : Bool} {k w n : ℕ} → f ≡ count_holds (sector_count g d s) (end_byte g d s) → f ≡ true → k ≡ size_of g d s → w ≡ granule_bytes g → n ≡
      length (owned g d s) → leb k (w * n) ≡ size_holds g d s
  unfolding size_holds
  size-good {f} {k} {w} {n} u t p v q = ap (λ (z : ℕ). leb k (z * n)) v ∙ ap (λ (z : ℕ). leb z (granule_bytes g * n)) p ∙ ap
      (λ (z : ℕ). leb (size_of g d s) (granule_bytes g * z)) q ∙ sym (all_yes (is-true u t) _ ∙ all_one _)

-- a whole entry put, and its HIT byte
pub entry-put : (g : Geometry) (d bs : List ℕ) (s h : ℕ) {at : ℕ} {part d₂ : List ℕ} → length bs ≡ 32 → entry_at g s + 32 ≤ length d → at ≡ entry_at g s
    → part ≡ bs → d₂ ≡ set (put_mid at (at + 32 - at) d part) (hit_at g s) h → d₂ ≡ set (sets d (entry_at g s) bs) (hit_at g s) h
entry-put g d bs s h {at} {part} l r e p q =
    let n : at + 32 - at ≡ length bs = omega arith in
    q ∙ ap (λ (x : List ℕ). set x (hit_at g s) h)
    (ap₂ (λ (ys : List ℕ) (k : ℕ). put_mid at k d ys) p n ∙ ap (λ (xs : List ℕ). take at d ++ (bs ++ xs)) (drop-drop (length bs) at d)
    ∙ sym (append_assoc (take at d) bs (drop (at + length bs) d)) ∙ sym (sets-eq bs d at (omega arith)) ∙ ap (λ (k : ℕ). sets d k bs) e)
