-- Refusals tested in two steps, and what a call has whose handle passed.
use native.Mathlib.Decide.{ℕ_discrete}
use mathlib.Core.Path.{◌≡◌, refl, sym, ap, ◌∙◌}
use mathlib.Core.List.{List, [], ◌∷◌, ◌++◌}
use mathlib.Core.Bool.{Bool, true, false, not}
use Prim.Native.Nat.{ℕ, ◌+◌, ◌≤◌}
use native.Mathlib.Omega.{arith}
use lib.ListN.{length, get_or}
use lib.Dec.{eqb, ltb}
use borrow.Author.Tests.{not-false, leb-true}
use Rattle.meaning.specs.Lists.{every, any}
use Rattle.meaning.specs.Layout.{fits_geometry, highest}
use Rattle.lists.specs.Sizes
use Rattle.meaning.specs.Consistent.{consistent}
use Rattle.meaning.specs.Entries.{in_use, extension, in_use_primary, system}
use Rattle.meaning.specs.Refusal.{carried}
use Rattle.meaning.specs.Refusals.{first, check, refusal, fault_numbers, disk_refusals, stale, handle_refusals, protected}
use Rattle.meaning.specs.Handles.{in_range, fresh, good_length}
use Rattle.meaning.specs.declared.Geometry.{Geometry}
use Rattle.meaning.specs.declared.Handle.{Handle}
use Rattle.meaning.specs.declared.Refusal.{Refusal}
use Rattle.lists.specs.Members
use Rattle.laws.specs.Facts
use Rattle.laws.specs.Carried.{carried-own}
use Rattle.laws.specs.Passed.{Served, disk-passed, check-passed}
use Rattle.layout.specs.Room.{Room, Slot}
use Rattle.lists.specs.Tests.{first-at, first-hit, first-skip, first-none, and_l, and_r, any-skip, all-at}
use Rattle.layout.proofs.HasRoom.{room, slot-of}
use Rattle.seek.specs.Seek.{Walkable, Used}
use Rattle.seek.proofs.IsWalkable.{sound}

-- the first part of a list of refusals lets a call through
pub first_then : (xs ys : List (ℕ × Bool)) → first xs ≡ 0 → every (λ c. not (eqb c.0 0)) xs ≡ true → first (xs ++ ys) ≡ first ys
first_then [] ys h e = refl
first_then ((n, b) ∷ xs) ys h e =
    let q : b ≡ false = first-at ((n, b) ∷ xs) h e 0 in
    first-skip q n (xs ++ ys) ∙ first_then xs ys (sym (first-skip q n xs) ∙ h) (and_r (not (eqb n 0)) (every (λ c. not (eqb c.0 0)) xs) e)

-- the first part refuses
pub first-stop : (xs ys : List (ℕ × Bool)) {n : ℕ} → n ≡ first xs → (n ≡ 0 → ⊥) → n ≡ first (xs ++ ys)
first-stop [] ys h z = absurd (z (h ∙ first-none))
first-stop ((m, b) ∷ xs) ys {n} h z = by (λ k. first-stop xs ys k z) b refl
  where
    by : (n ≡ first xs → n ≡ first (xs ++ ys)) → (t : Bool) → b ≡ t → n ≡ first ((m, b) ∷ (xs ++ ys))
    by ih true q = h ∙ first-hit q m xs ∙ sym (first-hit q m (xs ++ ys))
    by ih false q = ih (h ∙ first-skip q m xs) ∙ sym (first-skip q m (xs ++ ys))

pub length-range : (len : ℕ) → good_length len ≡ true → (1 ≤ len) × (len ≤ 256)
unfolding good_length
length-range len r = (leb-true _ _ (all-at _ r 0), leb-true _ _ (all-at _ r 1))

any-second : (a b : Bool) → any (a ∷ b ∷ []) ≡ false → b ≡ false
unfolding any
any-second true b h = absurd (let z : ◌≡◌ {A = ℕ} 0 1 = cc in let q : ⊥ = omega arith in q)
any-second false true h = h
any-second false false h = refl

-- the place of a call's own row k, behind those of the disk
abbrev pub own_row : ℕ → ℕ
own_row k = 1 + length fault_numbers + k

module _ (g : Geometry) (d : List ℕ) where
  -- the check answers 0: test 1 is passed, and there is no fault
  pub record Checked : Type 0 where
    pub fits : fits_geometry g d ≡ true
    pub sound : consistent g d ≡ true

  of-served : Served g d → Checked
  of-served w = record { fits = Members.T_true w.fits; sound = Facts.back g d w.sound }

  number_is : {c : Refusal} → c ≡ check g d → c.number ≡ (check g d).number
  number_is e = ap {B = ℕ} (λ (c : Refusal). c.number) e

  pub checked : {c : Refusal} → c ≡ check g d → c.number ≡ 0 → Checked
  checked e z = of-served (check-passed g d (sym (number_is e) ∙ z))

  pub check-stop : (rest : List (ℕ × Bool)) {c : Refusal} → c ≡ check g d → (c.number ≡ 0 → ⊥) → c.number ≡ first (disk_refusals g d rest)
  unfolding check
  check-stop rest e z = first-stop (disk_refusals g d []) rest (number_is e) z

  pub check-then : (rest : List (ℕ × Bool)) {c : Refusal} → c ≡ check g d → c.number ≡ 0 → first (disk_refusals g d rest) ≡ first rest
  unfolding check
  check-then rest e z = first_then (disk_refusals g d []) rest (sym (number_is e) ∙ z) refl

  pub check-none : (rest : List (ℕ × Bool)) {c : Refusal} → c ≡ check g d → first (disk_refusals g d rest) ≡ 0 → c.number ≡ 0
  check-none rest {c} e z = by (ℕ_discrete c.number 0)
    where
      by : Dec (c.number ≡ 0) → c.number ≡ 0
      by (yes q) = q
      by (no q) = check-stop rest e q ∙ z

  -- what goes out beside a number, on a disk whose check answered c
  pub handed : {c r : Refusal} (n : ℕ) → c ≡ check g d → r ≡ carried c n → r ≡ refusal g d n
  handed n p e = e ∙ ap (λ (c : Refusal). carried c n) p

  -- the check's own refusal
  pub handed-on : {c : Refusal} → c ≡ check g d → c ≡ refusal g d c.number
  handed-on {c} p = p ∙ sym (carried-own (check g d) (number_is p))

  pub checked-room : Checked → Room g d
  checked-room c = room g d c.fits c.sound

  -- what a handle is whose call passed 1, 21 to 30, 12 and 7
  pub record Passed (h : Handle) (ranged : Bool) : Type 0 where
    pub disk : Checked
    pub ranged' : ranged ≡ true
    pub slot : Slot g d h.slot
    pub first' : in_use_primary g d h.slot ≡ true
    pub used : in_use g d h.slot ≡ true

  pub ranges : (h : Handle) → in_range g h ≡ true → (h.at ≤ 7864320) × (1 ≤ h.len) × (h.len ≤ 256) × (h.level ≤ 7)
  unfolding in_range
  ranges h r = let l = length-range h.len (all-at _ r 1) in let a = leb-true _ (highest g) (all-at _ r 0) in
      (omega (arith, Sizes.bytes-are g, Sizes.sectors-most g), l.0, l.1, leb-true _ _ (all-at _ r 2))

  pub is-slot : (h : Handle) → fresh g d h ≡ true → Slot g d h.slot
  unfolding fresh
  is-slot h r = slot-of g d h.slot (all-at _ r 0)

  pub is-primary : (h : Handle) → fresh g d h ≡ true → in_use_primary g d h.slot ≡ true
  unfolding fresh
  is-primary h r = all-at _ r 1

  -- so the file's chain can be walked
  pub walks : (h : Handle) (ranged : Bool) → Passed h ranged → Walkable g d × Used g d h.slot
  walks h ranged p = (sound g d p.disk.fits p.disk.sound, record { slot = p.slot; used = p.used })

  abbrev NonZero : List (ℕ × Bool) → Type 0
  NonZero cs = every (λ c. not (eqb c.0 0)) cs ≡ true

  -- `rest` is whatever the call tests after; none of its numbers is 0
  pub passed : (h : Handle) (ranged : Bool) (rest : List (ℕ × Bool)) → NonZero rest → {n : ℕ} → n ≡ first (handle_refusals g d h ranged rest) → n ≡ 0
      → Passed h ranged
  passed h ranged rest q e z =
      let t : (k : ℕ) → (get_or (handle_refusals g d h ranged rest) k (0, false)).1 ≡ false = λ k. first-at (handle_refusals g d h ranged rest)
      (sym e ∙ z) q k in
      let w = not-false _ (t (own_row 1)) in
      let c = disk-passed g d ((12, not ranged) ∷ stale g d h ∷ rest) (sym e ∙ z) in
      record {
        disk = of-served c.0;
        ranged' = not-false _ (t (own_row 0));
        slot = is-slot h w;
        first' = is-primary h w;
        used = and_l (in_use g d h.slot) (not (extension g d h.slot)) (is-primary h w);
      }

  -- a call that changes the disk passed 6 as well: the file is no system file
  pub passed-user : (h : Handle) (ranged : Bool) (most : ℕ) (rest : List (ℕ × Bool)) → NonZero rest → {n : ℕ}
      → n ≡ first (handle_refusals g d h ranged (protected g d most h ∷ rest)) → n ≡ 0 → system g d h.slot ≡ false
  passed-user h ranged most rest q e z =
      any-second _ _ (first-at (handle_refusals g d h ranged (protected g d most h ∷ rest)) (sym e ∙ z) q (own_row 2))

  -- a call that tests first `xs` after its handle, then `rest`
  pub handle-stop : (h : Handle) (ranged : Bool) (xs rest : List (ℕ × Bool)) {n : ℕ} → n ≡ first (handle_refusals g d h ranged xs) → (n ≡ 0 → ⊥)
      → n ≡ first (handle_refusals g d h ranged (xs ++ rest))
  handle-stop h ranged xs rest e z = first-stop (handle_refusals g d h ranged xs) rest e z

  pub handle-then : (h : Handle) (ranged : Bool) (xs rest : List (ℕ × Bool)) → NonZero xs → {n : ℕ} → n ≡ first (handle_refusals g d h ranged xs) → n ≡ 0
      → first (handle_refusals g d h ranged (xs ++ rest)) ≡ first rest
  handle-then h ranged xs rest q e z = first_then (handle_refusals g d h ranged xs) rest (sym e ∙ z) q

  -- refusal 6 of a call that changes the disk, by its two parts
  pub by_level : (h : Handle) (most : ℕ) → ltb most h.level ≡ true → first (protected g d most h ∷ []) ≡ 6
  unfolding any
  by_level h most l = first-hit (ap (λ (t : Bool). any (t ∷ system g d h.slot ∷ [])) l) 6 []

  pub by-system : (h : Handle) (most : ℕ) → ltb most h.level ≡ false → system g d h.slot ≡ true → first (protected g d most h ∷ []) ≡ 6
  unfolding any
  by-system h most l s = first-hit (any-skip l (system g d h.slot ∷ []) ∙ ap (λ (t : Bool). any (t ∷ [])) s) 6 []

  pub by-none : (h : Handle) (most : ℕ) → ltb most h.level ≡ false → system g d h.slot ≡ false → first (protected g d most h ∷ []) ≡ 0
  unfolding any
  by-none h most l s = first-skip (any-skip l (system g d h.slot ∷ []) ∙ ap (λ (t : Bool). any (t ∷ [])) s) 6 [] ∙ first-none
