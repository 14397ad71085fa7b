-- The check, slot by slot.
use mathlib.Core.Path.{◌≡◌, refl, sym, ap, ◌∙◌}
use mathlib.Core.List.{List, [], ◌∷◌, ◌++◌}
use mathlib.Core.Bool.{Bool, true, false, ◌&&◌}
use Prim.Native.Nat.{ℕ, suc, ◌+◌, ◌-◌, ◌*◌, ◌/◌, ◌%◌, ◌≤◌, ◌<◌}
use native.Mathlib.Omega.{arith}
use borrow.Author.Tests.{leb-true, eqb-true}
use Rattle.meaning.specs.Lists.{count, every, each, all}
use Rattle.meaning.specs.Layout.{granules, fits_geometry, directory_sectors, most_blocks, most_units}
use Rattle.lists.specs.Sizes
use Rattle.meaning.specs.Consistent.{length_holds}
use Rattle.meaning.specs.declared.Geometry.{Geometry}
use Rattle.layout.specs.Room.{Room}
use Rattle.layout.proofs.OneStep.{below}
use Rattle.lists.specs.Tests.{all-at, not-both}
use Rattle.layout.proofs.HasRoom.{fits-directory}
use Rattle.check_map.specs.Marks.{marked, allows}
use Rattle.check_map.proofs.MarkLists.{marked_append}
use Rattle.lists.specs.Ranges.{every_append, count-more, count_none}
use Rattle.lists.specs.Members
use Rattle.check_whole.specs.Slots.{FitsImage, by32, sector_slots, disk_slots}
use Rattle.check_file.specs.Slots.{least_of, slot_fits, chain_of, owned_of, opens, one, slots_fit, Seen}
use Rattle.check_file.proofs.OneFile.{all_three}

-- Geometry and the directory's length ---------------------------------------------------------------------------------------

pub fits : (g : Geometry) (d : List ℕ) → fits_geometry g d ≡ true → FitsImage g d
unfolding fits_geometry granules
fits g d f =
    let a = leb-true g.blocks most_blocks (all-at _ f 1) in
    let b = leb-true g.units 8 (all-at _ f 3) in
    let m = below g.blocks g.units most_blocks most_units a b in
    let w = eqb-true _ _ (all-at _ f 5) in
    record {
      blocks-low = leb-true _ _ (all-at _ f 0);
      blocks-high = a;
      units-low = leb-true _ _ (all-at _ f 2);
      units-high = b;
      five = eqb-true _ _ (all-at _ f 4);
      most = m;
      whole = w;
      long = w ∙ Sizes.bytes-sectors g;
      far = Sizes.sectors-low g m;
      ten = leb-true _ _ (all-at _ f 6);
    }

pub room_of : (g : Geometry) (d : List ℕ) → FitsImage g d → length_holds g d ≡ true → Room g d
room_of g d f h =
    let e = fits-directory g d h in
    record {
      blocks-low = f.blocks-low;
      blocks-high = f.blocks-high;
      units-low = f.units-low;
      units-high = f.units-high;
      most = f.most;
      whole = f.whole;
      long = f.long;
      far = f.far;
      ten = e.0;
      thirty = e.1;
      directory = e.2;
    }

-- Slot after slot -------------------------------------------------------------------------------------------------------------

pub opens-append : (low : ℕ → ℕ) (f : ℕ → List ℕ) (xs ys m : List ℕ) → opens m low f (xs ++ ys) ≡
    (opens m low f xs && opens (marked m 0 (each f xs)) low f ys)
unfolding opens marked
opens-append low f [] ys m = refl
opens-append low f (x ∷ xs) ys m =
    ap (λ (b : Bool). allows m (low x) 0 (f x) && b)
    (opens-append low f xs ys (marked m 0 (f x)) ∙ ap (λ (l : List ℕ). opens (marked m 0 (f x)) low f xs && opens l low f ys)
    (sym (marked_append m 0 (f x) (each f xs))))
    ∙ assoc (allows m (low x) 0 (f x)) (opens (marked m 0 (f x)) low f xs) (opens (marked m 0 (f x ++ each f xs)) low f ys)
  where
    assoc : (a b c : Bool) → (a && (b && c)) ≡ ((a && b) && c)
    assoc true b c = refl
    assoc false b c = refl

regroup : (a b a' b' a'' b'' : Bool) → all ((a && b) ∷ (a' && b') ∷ (a'' && b'') ∷ []) ≡ (all (a ∷ a' ∷ a'' ∷ []) && all (b ∷ b' ∷ b'' ∷ []))
unfolding all
regroup false b a' b' a'' b'' = refl
regroup true true false b' a'' b'' = refl
regroup true false false b' a'' b'' = refl
regroup true false true b' true b'' = refl
regroup true false true b' false b'' = refl
regroup true true true true false b'' = refl
regroup true true true false false b'' = refl
regroup true true true b' true b'' = refl

-- Sectors of the directory, from a column on
abbrev pub sectors_from : ℕ → ℕ → List ℕ
sectors_from columns column = each sector_slots (count column (columns - column))

pub sectors-more : {columns column : ℕ} → column < columns → sectors_from columns column ≡ sector_slots column ++ sectors_from columns (column + 1)
sectors-more h = ap (each sector_slots) (count-more h)

pub sectors-none : {columns column : ℕ} → columns ≤ column → sectors_from columns column ≡ []
sectors-none h = ap (each sector_slots) (count_none h)

pub sectors-are : (g : Geometry) (d : List ℕ) → sectors_from (directory_sectors g d - 2) 0 ≡ disk_slots g d
unfolding disk_slots
sectors-are g d =
    ap (λ (j : ℕ). each sector_slots (count 0 j)) (let z : directory_sectors g d - 2 - 0 ≡ directory_sectors g d - 2 = omega arith in z)

-- the slots of a sector from s on
abbrev pub column_from : ℕ → List ℕ
column_from s = by32 ((287 - s) / 32) s

pub column-are : {column : ℕ} → column < 32 → column_from column ≡ sector_slots column
unfolding sector_slots
column-are {column} h = ap (λ (n : ℕ). by32 n column) (let z : (287 - column) / 32 ≡ 8 = omega arith in z)

pub column-more : {s : ℕ} → s < 256 → column_from s ≡ s ∷ column_from (s + 32)
unfolding by32
column-more {s} h = ap (λ (n : ℕ). by32 n s) (let z : (287 - s) / 32 ≡ suc ((287 - (s + 32)) / 32) = omega arith in z)

-- the entry of the slot in the next row, in the same column
pub next_row : (a s : ℕ) {at : ℕ} → at ≡ a + 32 * (s / 32) → at + 32 ≡ a + 32 * ((s + 32) / 32)
next_row a s e = omega arith

pub same-column : (s : ℕ) {column : ℕ} → s % 32 ≡ column → (s + 32) % 32 ≡ column
same-column s e = omega arith

pub column-none : {s : ℕ} → 256 ≤ s → column_from s ≡ []
unfolding by32
column-none {s} h = ap (λ (n : ℕ). by32 n s) (let z : (287 - s) / 32 ≡ 0 = omega arith in z)

module _ (g : Geometry) (d : List ℕ) where
  fit_append : (xs ys m met : List ℕ)
      → slots_fit g d m met (xs ++ ys) ≡ (slots_fit g d m met xs && slots_fit g d (marked m 0 (each (owned_of g d) xs))
      (marked met 0 (each (chain_of g d) xs)) ys)
  unfolding slots_fit
  fit_append xs ys m met =
      all_three (every_append (slot_fits g d) xs ys) (opens-append (least_of g d) (owned_of g d) xs ys m) (opens-append one (chain_of g d) xs ys met)
      ∙ regroup (every (slot_fits g d) xs) (every (slot_fits g d) ys) (opens m (least_of g d) (owned_of g d) xs)
      (opens (marked m 0 (each (owned_of g d) xs)) (least_of g d) (owned_of g d) ys)
      (opens met one (chain_of g d) xs) (opens (marked met 0 (each (chain_of g d) xs)) one (chain_of g d) ys)

  -- what is left from here on is the whole
  pub record Seeing (m₀ met₀ whole m met rest : List ℕ) : Type 0 where
    pub answer : slots_fit g d m met rest ≡ slots_fit g d m₀ met₀ whole
    pub map : marked m 0 (each (owned_of g d) rest) ≡ marked m₀ 0 (each (owned_of g d) whole)
    pub meets : marked met 0 (each (chain_of g d) rest) ≡ marked met₀ 0 (each (chain_of g d) whole)

  pub seeing-start : (m met : List ℕ) {xs whole : List ℕ} → xs ≡ whole → Seeing m met whole m met xs
  seeing-start m met e =
      record {
        answer = ap (slots_fit g d m met) e;
        map = ap (λ (l : List ℕ). marked m 0 (each (owned_of g d) l)) e;
        meets = ap (λ (l : List ℕ). marked met 0 (each (chain_of g d) l)) e;
      }

  -- the places that come next are some of the whole, and the others
  pub seeing-as : {m₀ met₀ whole m met xs ys : List ℕ} → Seeing m₀ met₀ whole m met xs → xs ≡ ys → Seeing m₀ met₀ whole m met ys
  seeing-as i e = rw e at i

  pub seeing-step : {m₀ met₀ whole m m' met met' : List ℕ} {r : Bool} (xs rest : List ℕ) → Seeing m₀ met₀ whole m met (xs ++ rest) → Seen g d xs m m' met met'
      r → r ≡ true
      → Seeing m₀ met₀ whole m' met' rest
  seeing-step {m₀} {met₀} {whole} {m} {m'} {met} {met'} {r} xs rest i w t =
      record {
        answer =
            ap (λ (l : List ℕ). slots_fit g d l met' rest) (w.map t) ∙ ap (λ (l : List ℕ). slots_fit g d (marked m 0 (each (owned_of g d) xs)) l rest)
            (w.meets t)
            ∙ ap (λ (b : Bool). b && slots_fit g d (marked m 0 (each (owned_of g d) xs)) (marked met 0 (each (chain_of g d) xs)) rest) (sym t ∙ w.answer)
            ∙ sym (fit_append xs rest m met) ∙ i.answer;
        map =
            ap (λ (l : List ℕ). marked l 0 (each (owned_of g d) rest)) (w.map t) ∙ sym (marked_append m 0 (each (owned_of g d) xs) (each (owned_of g d) rest))
            ∙ ap (marked m 0) (sym (Members.each_append (owned_of g d) xs rest)) ∙ i.map;
        meets =
            ap (λ (l : List ℕ). marked l 0 (each (chain_of g d) rest)) (w.meets t) ∙ sym
            (marked_append met 0 (each (chain_of g d) xs) (each (chain_of g d) rest))
            ∙ ap (marked met 0) (sym (Members.each_append (chain_of g d) xs rest)) ∙ i.meets;
      }

  pub seeing-stop : {m₀ met₀ whole m m' met met' m'' met'' : List ℕ} {r : Bool} (xs rest : List ℕ) → Seeing m₀ met₀ whole m met (xs ++ rest) → Seen g d xs m m'
      met met' r → r ≡ false
      → Seen g d whole m₀ m'' met₀ met'' false
  seeing-stop {m₀} {met₀} {whole} {m} {m'} {met} xs rest i w t =
      record {
        answer =
            ap (λ (b : Bool). b && slots_fit g d (marked m 0 (each (owned_of g d) xs)) (marked met 0 (each (chain_of g d) xs)) rest) (sym t ∙ w.answer)
            ∙ sym (fit_append xs rest m met) ∙ i.answer;
        map = λ q. not-both q refl;
        meets = λ q. not-both q refl;
      }

  pub seeing-end : {m₀ met₀ whole m met : List ℕ} → Seeing m₀ met₀ whole m met [] → Seen g d whole m₀ m met₀ met true
  unfolding slots_fit opens marked all
  seeing-end i = record { answer = i.answer; map = λ q. i.map; meets = λ q. i.meets }
