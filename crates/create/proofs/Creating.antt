-- What a create writes, answers and leaves.
use mathlib.Core.Path.{◌≡◌, refl, sym, ap, ◌∙◌}
use mathlib.Core.List.{List, [], ◌∷◌}
use mathlib.Core.Bool.{Bool, true, false, not}
use Prim.Native.Nat.{ℕ, suc, ◌/◌, ◌%◌, ◌≤◌, ◌<◌}
use native.Mathlib.Omega.{arith}
use lib.ListN.{length, take}
use lib.Dec.{eqb}
use borrow.Author.Tests.{ne_eqb, leb-true}
use Rattle.meaning.specs.Lists.{count, all, first_or}
use Rattle.meaning.specs.Names.{well_formed, fold}
use Rattle.meaning.specs.Free.{free_slots, free_slot, permitted}
use Rattle.meaning.specs.Refusals.{name_refusal, first, check, new_in_range}
use Rattle.meaning.specs.Handles.{no_handle}
use Rattle.meaning.specs.LookUp.{named, missing, slot_of}
use Rattle.meaning.specs.Open.{admits, opened_at}
use Rattle.meaning.specs.Create.{new_slot, with_entry, create_refusals, create}
use Rattle.meaning.specs.declared.Geometry.{Geometry}
use Rattle.meaning.specs.declared.Handle.{Handle}
use Rattle.meaning.specs.declared.NewFile.{NewFile}
use Rattle.meaning.specs.declared.Created.{Created}
use Rattle.meaning.specs.declared.Refusal.{Refusal}
use Rattle.lists.specs.Members
use Rattle.lists.specs.Members.{In}
use Rattle.layout.specs.Room.{Slot}
use Rattle.lists.specs.Tests.{all-at, all_yes, all-no, all_none, first-hit, first-skip, first-none, not_yes, not-no}
use Rattle.layout.proofs.HasRoom.{slot-of}
use Rattle.passed.proofs.Checked.{check-stop, check-then, length-range}
use Rattle.look_up.proofs.Open.{slot-found}

-- day, month, year and record length as the entry can hold them
pub ranges : (f : NewFile) → new_in_range f ≡ true → (f.day ≤ 31) × (f.month ≤ 15) × (f.year ≤ 15) × ((1 ≤ f.len) × (f.len ≤ 256))
unfolding new_in_range
ranges f r = (leb-true _ _ (all-at _ r 0), leb-true _ _ (all-at _ r 1), leb-true _ _ (all-at _ r 2), length-range f.len (all-at _ r 3))

-- a number below 65536 in two bytes, low byte first
pub two_bytes : (n : ℕ) → n < 65536 → n % 256 ∷ n / 256 % 256 ∷ [] ≡ n % 256 ∷ n / 256 ∷ []
two_bytes n h = ap (λ (x : ℕ). n % 256 ∷ x ∷ []) (omega arith)

-- the first free slot, if there is one
module _ (g : Geometry) (d : List ℕ) where
  free-slot : (y : ℕ) → In y (free_slots g d) → Slot g d y
  unfolding free_slots free_slot permitted
  free-slot y i = slot-of g d y (all-at _ (all-at _ (Members.T_true (Members.keep-in (free_slot g d) y (count 0 256) i).1) 0) 0)

  pub slot-none : [] ≡ take 1 (free_slots g d) → eqb (length (free_slots g d)) 0 ≡ true
  slot-none = by (free_slots g d)
    where
      by : (l : List ℕ) → [] ≡ take 1 l → eqb (length l) 0 ≡ true
      by [] e = refl
      by (y ∷ ys) e = cc

  pub slot-some : {x : ℕ} → x ∷ [] ≡ take 1 (free_slots g d) → (x ≡ new_slot g d) × (eqb (length (free_slots g d)) 0 ≡ false) × Slot g d x
  unfolding first_or
  slot-some {x} = by (free_slots g d) free-slot
    where
      by : (l : List ℕ) → ((y : ℕ) → In y l → Slot g d y) → x ∷ [] ≡ take 1 l → (x ≡ first_or 0 l) × (eqb (length l) 0 ≡ false) × Slot g d x
      by [] m e = cc
      by (y ∷ ys) m e = let v : x ≡ y = cc in (v, ne_eqb (suc (length ys)) 0 (λ q. omega arith), rw v (m y Members.In.here))

-- the answers, of the name n that came in: the file is that of its fold
module _ (g : Geometry) (d n : List ℕ) (f : NewFile) (checking : Bool) where
  pub told : {no : ℕ} {c : Refusal} {r : Created} → c ≡ name_refusal g d n no → r ≡ record { refusal = c; old = false; handle = no_handle }
      → no ≡ first (create_refusals g d n f checking) → (no ≡ 0 → ⊥) → ◌≡◌ {A = Created × List ℕ} (r, d) (create g d n f checking)
  unfolding create
  told {no} p q e z = rw (← e, ne_eqb no 0 z, q, p)

  absent : named g d (fold n) ≡ [] → missing g d (fold n) ≡ true
  absent e = ap (λ (l : List ℕ). eqb (length l) 0) e

  there : {s : ℕ} → named g d (fold n) ≡ s ∷ [] → missing g d (fold n) ≡ false
  there e = ap (λ (l : List ℕ). eqb (length l) 0) e

  pub opened : {s : ℕ} {h : Handle} {c : Refusal} → c ≡ name_refusal g d n 0 → first (create_refusals g d n f checking) ≡ 0 → named g d (fold n) ≡ s ∷ [] → h ≡
      opened_at g d s (fold n) f.len checking f.main
      → ◌≡◌ {A = Created × List ℕ} (record { refusal = c; old = true; handle = h }, d) (create g d n f checking)
  unfolding create
  opened {s} y e m q = rw (e, there m, q, slot-found g d (fold n) f.len checking f.main m, y)

  pub made : {x : ℕ} {m d' : List ℕ} {c : Refusal} → c ≡ name_refusal g d n 0 → first (create_refusals g d n f checking) ≡ 0 → named g d (fold n) ≡ [] → x ≡
      new_slot g d → m ≡ fold n → d' ≡ with_entry g d x (fold n) f
      → ◌≡◌ {A = Created × List ℕ} (record { refusal = c; old = false; handle = record { slot = x; name = m; at = 0; len = f.len; level = 0 } }, d')
      (create g d n f checking)
  unfolding create
  made y e m q v w = rw (w, v, q, e, absent m, y)

  -- the number, test after test
  pub by-check : {c : Refusal} → c ≡ check g d → (c.number ≡ 0 → ⊥) → c.number ≡ first (create_refusals g d n f checking)
  by-check e z = check-stop g d _ e z

  pub by-range : {c : Refusal} → c ≡ check g d → c.number ≡ 0 → new_in_range f ≡ false → 12 ≡ first (create_refusals g d n f checking)
  by-range e z r = sym (check-then g d _ e z ∙ first-hit (not-no r) 12 _)

  pub by_name : {c : Refusal} → c ≡ check g d → c.number ≡ 0 → new_in_range f ≡ true → well_formed (fold n) ≡ false → 3 ≡ first
      (create_refusals g d n f checking)
  by_name e z r w = sym (check-then g d _ e z ∙ first-skip (not_yes r) 12 _ ∙ first-hit (not-no w) 3 _)

  abbrev code : Bool
  code = all (not (missing g d (fold n)) ∷ not (admits g d (slot_of g d (fold n)) checking f.main) ∷ [])

  abbrev full : Bool
  full = all (missing g d (fold n) ∷ eqb (length (free_slots g d)) 0 ∷ [])

  named-first : {c : Refusal} → c ≡ check g d → c.number ≡ 0 → new_in_range f ≡ true → well_formed (fold n) ≡ true → first (create_refusals g d n f checking) ≡
      first ((5, code) ∷ (8, full) ∷ [])
  named-first e z r w = check-then g d _ e z ∙ first-skip (not_yes r) 12 _ ∙ first-skip (not_yes w) 3 _

  -- where the file is there: 5, or it is opened
  pub by_code : {c : Refusal} {s : ℕ} → c ≡ check g d → c.number ≡ 0 → new_in_range f ≡ true → well_formed (fold n) ≡ true → named g d (fold n) ≡ s ∷ [] →
      admits g d s checking f.main ≡ false
      → 5 ≡ first (create_refusals g d n f checking)
  by_code e z r w m a =
      sym (named-first e z r w ∙ first-hit (all_yes (not-no (there m)) _ ∙ all_yes
      (not-no (ap (λ (s : ℕ). admits g d s checking f.main) (slot-found g d (fold n) f.len checking f.main m) ∙ a)) _ ∙ all_none) 5 _)

  pub is-old : {c : Refusal} {s : ℕ} → c ≡ check g d → c.number ≡ 0 → new_in_range f ≡ true → well_formed (fold n) ≡ true → named g d (fold n) ≡ s ∷ [] → admits
      g d s checking f.main ≡ true
      → first (create_refusals g d n f checking) ≡ 0
  is-old e z r w m a =
      named-first e z r w ∙ first-skip (all_yes (not-no (there m)) _ ∙ all-no
      (not_yes (ap (λ (s : ℕ). admits g d s checking f.main) (slot-found g d (fold n) f.len checking f.main m) ∙ a)) _) 5 _
      ∙ first-skip (all-no (there m) _) 8 _ ∙ first-none

  -- where it is not: 8, or it is made
  pub by-slot : {c : Refusal} → c ≡ check g d → c.number ≡ 0 → new_in_range f ≡ true → well_formed (fold n) ≡ true → named g d (fold n) ≡ [] → eqb
      (length (free_slots g d)) 0 ≡ true
      → 8 ≡ first (create_refusals g d n f checking)
  by-slot e z r w m a = sym (named-first e z r w ∙ first-skip (all-no (not_yes (absent m)) _) 5 _ ∙ first-hit (all_yes (absent m) _ ∙ all_yes a _ ∙ all_none)
      8 _)

  pub is-new : {c : Refusal} → c ≡ check g d → c.number ≡ 0 → new_in_range f ≡ true → well_formed (fold n) ≡ true → named g d (fold n) ≡ [] → eqb
      (length (free_slots g d)) 0 ≡ false
      → first (create_refusals g d n f checking) ≡ 0
  is-new e z r w m a = named-first e z r w ∙ first-skip (all-no (not_yes (absent m)) _) 5 _ ∙ first-skip (all_yes (absent m) _ ∙ all-no a _) 8 _ ∙ first-none
