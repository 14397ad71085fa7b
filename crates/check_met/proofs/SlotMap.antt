-- The map of slots: the HIT copied to it, and its rows looked through.
use Rattle.std.proofs.lemmas.List.{get_or-take, get_or-drop, length-take-le, length-drop}
use mathlib.Core.Path.{◌≡◌, refl, sym, ap, ◌∙◌}
use mathlib.Core.List.{List}
use mathlib.Core.Bool.{Bool, true, false, ◌&&◌}
use Prim.Native.Nat.{ℕ, zero, suc, ◌+◌, ◌-◌, ◌*◌, ◌≤◌, ◌<◌}
use native.Mathlib.Omega.{arith}
use lib.Dec.{eqb}
use lib.ListN.{length, get_or, take, drop}
use lib.Seq.{drop-cons}
use mathlib.Core.Logic.{⊎_elim}
use native.Mathlib.Numerals.{add-one}
use borrow.Author.Tests.{eq-eqb, ne_eqb}
use Rattle.meaning.specs.Lists.{count, every, each, same, all}
use Rattle.meaning.specs.Layout.{hit, slots, directory_sectors}
use Rattle.meaning.specs.declared.Geometry.{Geometry}
use Rattle.layout.specs.Room.{Room}
use Rattle.layout.specs.Number.{number}
use Rattle.lists.specs.Tests.{le-or-lt, every-count, not-both}
use Rattle.lists.specs.Below.{all_below, all-below}
use Rattle.lists.specs.Ranges.{every_append, every_true, count-more, count_none}
use Rattle.lists.specs.Members
use Rattle.seek.proofs.SeekSteps.{slots_for, slots-are}
use Rattle.check_met.specs.Met.{HitCopied, met_at}

-- RowsLeft ------------------------------------------------------------------------------------------------------------------------

-- the slots of a row, and of all rows from one on
abbrev pub row_slots : ℕ → ℕ → List ℕ
row_slots columns row = count (32 * row) columns

abbrev pub rows_from : ℕ → ℕ → List ℕ
rows_from columns row = each (row_slots columns) (count row (8 - row))

-- the rows from `row` on decide for all
pub record RowsLeft (p : ℕ → Bool) (columns row : ℕ) : Type 0 where
  pub rest : every p (rows_from columns row) ≡ every p (rows_from columns 0)

module _ {p : ℕ → Bool} {columns row : ℕ} (w : RowsLeft p columns row) where
  rows_more : row < 8 → (every p (row_slots columns row) && every p (rows_from columns (row + 1))) ≡ every p (rows_from columns row)
  rows_more h = sym (ap (λ (l : List ℕ). every p (each (row_slots columns) l)) (count-more h) ∙ every_append p (row_slots columns row)
      (rows_from columns (row + 1)))

  pub rows-stop : row < 8 → every p (row_slots columns row) ≡ false → false ≡ every p (rows_from columns 0)
  rows-stop h e = ap (λ (b : Bool). b && every p (rows_from columns (row + 1))) (sym e) ∙ rows_more h ∙ w.rest

  pub rows_step : row < 8 → every p (row_slots columns row) ≡ true → RowsLeft p columns (row + 1)
  rows_step h e = record { rest = ap (λ (b : Bool). b && every p (rows_from columns (row + 1))) (sym e) ∙ rows_more h ∙ w.rest }

  pub rows_end : 8 ≤ row → true ≡ every p (rows_from columns 0)
  rows_end h = sym (ap (λ (l : List ℕ). every p (each (row_slots columns) l)) (count_none h)) ∙ w.rest

rows_for : ℕ → List ℕ
rows_for n = each (λ row. count (32 * row) (n - 2)) (count 0 8)

rows_all : all_below 21 (λ k. same (rows_for (10 + k)) (slots_for (10 + k))) ≡ true
unfolding all slots_for rows_for
rows_all = refl

rows-for : (k : ℕ) → k < 21 → rows_for (10 + k) ≡ slots_for (10 + k)
rows-for k h = Members.same-eq _ _ (Members.true-T (all-below 21 (λ k. same (rows_for (10 + k)) (slots_for (10 + k))) rows_all k h))

row_list : (n : ℕ) → rows_from (n - 2) 0 ≡ rows_for n
unfolding rows_for
row_list n = refl

pub rows_are : (g : Geometry) (d : List ℕ) {k : ℕ} → Room g d → k ≡ directory_sectors g d → rows_from (k - 2) 0 ≡ slots g d
rows_are g d {k} r q =
    let e : 10 + (k - 10) ≡ k = let t = r.ten in omega arith in
    row_list k ∙ ap rows_for (sym e) ∙ rows-for (k - 10) (let t = r.thirty in omega arith) ∙ ap slots_for (e ∙ q) ∙ sym (slots-are g d)

-- Eight slots as one number ---------------------------------------------------------------------------------------------------

-- a number of n bytes is 0 exactly if each of them is
zeros : (n : ℕ) (m : List ℕ) (at : ℕ) → at + n ≤ length m → eqb (number (take n (drop at m))) 0 ≡ every (met_at m) (count at n)
unfolding number
zeros zero m at h = refl
zeros (suc n) m at h =
    ap (λ (l : List ℕ). eqb (number (take (suc n) l)) 0) (drop-cons m at 0 (omega arith)) ∙ zero-sum (get_or m at 0) (number (take n (drop (suc at) m)))
    ∙ ap (λ (k : ℕ). eqb (get_or m at 0) 0 && eqb (number (take n (drop k m))) 0) (sym (add-one at))
    ∙ ap (λ (b : Bool). eqb (get_or m at 0) 0 && b) (zeros n m (at + 1) (omega arith))
  where
    zero-sum : (x y : ℕ) → eqb (x + 256 * y) 0 ≡ (eqb x 0 && eqb y 0)
    zero-sum zero zero = refl
    zero-sum zero (suc y) = ne_eqb (0 + 256 * suc y) 0 (λ z. omega arith) ∙ sym (ne_eqb (suc y) 0 (λ z. omega arith))
    zero-sum (suc x) y = ne_eqb (suc x + 256 * y) 0 (λ z. omega arith) ∙ sym (ap (λ (b : Bool). b && eqb y 0) (ne_eqb (suc x) 0 (λ z. omega arith)))

-- the slots of a row before `at` stand at 0
pub record RowMet (met : List ℕ) (first columns at : ℕ) : Type 0 where
  pub past : (s : ℕ) → first ≤ s → s < at → met_at met s ≡ true
  pub low : first ≤ at
  pub before : at < first + columns

pub rowing_start : (met : List ℕ) (first columns : ℕ) → 0 < columns → RowMet met first columns first
rowing_start met first columns h = record { past = λ s a b. absurd (let z : ⊥ = omega arith in z); low = omega arith; before = omega arith }

pub rowing-step : {met : List ℕ} {first columns at r : ℕ} → RowMet met first columns at → at + 8 < first + columns → first + columns ≤ length met → r ≡ number
    (take 8 (drop at met)) → r ≡ 0
    → RowMet met first columns (at + 8)
rowing-step {met} {first} {columns} {at} {r} w h l e z =
    let q : every (met_at met) (count at 8) ≡ true = sym (zeros 8 met at (omega arith)) ∙ eq-eqb _ _ (sym e ∙ z) in
    record {
      past = λ s a b. ⊎_elim (λ c. every-count (met_at met) at 8 s q c b) (λ c. w.past s a c) (le-or-lt at s);
      low = let k = w.low in omega arith;
      before = h;
    }

-- eight of the row do not all stand at 0
pub rowing-stop : {met : List ℕ} {first columns at r : ℕ} → RowMet met first columns at → at + 8 < first + columns → first + columns ≤ length met → r ≡ number
    (take 8 (drop at met))
    → (r ≡ 0 → ⊥) → false ≡ every (met_at met) (count first columns)
rowing-stop {met} {first} {columns} {at} {r} w h l e n = sym (by (every (met_at met) (count first columns)) refl)
  where
    by : (b : Bool) → every (met_at met) (count first columns) ≡ b → every (met_at met) (count first columns) ≡ false
    by true q =
        not-both (every_true (met_at met) at 8 (λ s a b. every-count (met_at met) first columns s q (let k = w.low in omega arith) (omega arith)))
        (sym (zeros 8 met at (omega arith)) ∙ ne_eqb _ _ (λ z. n (e ∙ z)))
    by false q = q

-- the last eight
pub rowing-end : {met : List ℕ} {first columns at r : ℕ} → RowMet met first columns at → first + columns ≤ at + 8 → 8 ≤ columns → first + columns ≤ length met
    → r ≡ number (take 8 (drop (first + columns - 8) met)) → eqb r 0 ≡ every (met_at met) (count first columns)
rowing-end {met} {first} {columns} {at} {r} w h c l e =
    ap (λ (k : ℕ). eqb k 0) e ∙ zeros 8 met (first + columns - 8) (omega arith) ∙ by (every (met_at met) (count (first + columns - 8) 8)) refl
  where
    by : (b : Bool) → every (met_at met) (count (first + columns - 8) 8) ≡ b → every (met_at met) (count (first + columns - 8) 8) ≡ every (met_at met)
        (count first columns)
    by true q =
        q ∙ sym (every_true (met_at met) first columns (λ s a b.
        ⊎_elim (λ k. every-count (met_at met) (first + columns - 8) 8 s q (omega arith) (omega arith)) (λ k. w.past s a k) (le-or-lt at s)))
    by false q = q ∙ rest (every (met_at met) (count first columns)) refl
      where
        rest : (b : Bool) → every (met_at met) (count first columns) ≡ b → false ≡ every (met_at met) (count first columns)
        rest true k = not-both (every_true (met_at met) (first + columns - 8) 8
            (λ s a b. every-count (met_at met) first columns s k (omega arith) (omega arith))) q
        rest false k = sym k

-- The HIT, which starts at `from`, copied
pub hit-copied : (g : Geometry) {d met : List ℕ} {from n : ℕ} → Room g d → from ≡ 256 * (g.start + 1) → n ≡ 256 → met ≡ take n (drop from d) → HitCopied g d met
unfolding hit
hit-copied g {d} {met} {from} r e n t =
    let q = t ∙ ap (λ (k : ℕ). take k (drop from d)) n in
    record {
      long = ap {B = ℕ} length q ∙ length-take-le 256 (drop from d) (simp length-drop (let z = r.directory in omega arith));
      is = λ s h. ap (λ (l : List ℕ). get_or l s 0) q ∙ get_or-take 256 (drop from d) s 0 h ∙ get_or-drop from d s 0 ∙ ap (λ (j : ℕ). get_or d (j + s) 0) e;
    }
