-- Calls by name: with a number, without one, and the drive that the search and a create go to.
use mathlib.Core.Path.{◌≡◌, refl, sym, ap, subst, ◌∙◌}
use mathlib.Core.Bool.{Bool, true, false, cond}
use mathlib.Core.List.{List, [], ◌∷◌}
use Prim.Native.Nat.{ℕ, suc, ◌≤◌}
use native.Mathlib.Omega.{arith}
use native.Mathlib.Decide.{ℕ_discrete}
use lib.Dec.{eqb}
use lib.ListN.{length, take}
use borrow.Author.Tests.{eq-eqb, ne_eqb}
use Rattle.meaning.specs.Lists.{count, has, all}
use Rattle.lists.specs.Members.{length-count}
use Rattle.lists.specs.Counting.{keep-under}
use Rattle.meaning.specs.Layout.{slots, is_slot, hit}
use Rattle.meaning.specs.Names.{comes_in, hash}
use Rattle.meaning.specs.Free.{free_slots}
use Rattle.meaning.specs.Refusal.{unplaced, naming}
use Rattle.meaning.specs.Refusals.{first, check, accepted}
use Rattle.meaning.specs.LookUp
use Rattle.meaning.specs.Open
use Rattle.meaning.specs.Create
use Rattle.meaning.specs.declared.Geometry.{Geometry}
use Rattle.meaning.specs.declared.Answer.{Answer}
use Rattle.meaning.specs.declared.Created.{Created}
use Rattle.meaning.specs.declared.LookedUp.{LookedUp}
use Rattle.meaning.specs.declared.NewFile.{NewFile}
use Rattle.meaning.specs.declared.Refusal.{Refusal}
use Rattle.layout.specs.Room.{Room}
use Rattle.lists.specs.Tests.{all-no, all_yes, all_none}
use Rattle.passed.proofs.Checked.{checked, checked-room}
use Rattle.create.proofs.Creating.{slot-none, slot-some}
use Rattle.drives.specs.Pair.{Pair, image, geometry, no_such_drive, on_drive, of_disk, naming', of_both, tested}
use Rattle.drives.specs.ByName.{by_name, looked_up_on, opened_on, created_on, not_looked_up, not_opened, not_created, look_up_on, open_on, create_on}
use Rattle.drives.specs.ByName.{lacks, searched, passed_over, takes, look_up, open_file, create}
use Rattle.drives.specs.declared.DriveAnswer.{DriveAnswer}
use Rattle.drives.specs.declared.DriveCreated.{DriveCreated}
use Rattle.drives.specs.declared.DriveLookedUp.{DriveLookedUp}
use Rattle.drives_calls.proofs.OnDrive.{on-0, on-1, on_none}

module _ (p : Pair) {A : Type 0} (numbered : Bool) (k : ℕ) (call : ℕ → A) (without : A) (refused : Refusal → A) where
  abbrev answer : A
  answer = by_name p numbered k call without refused

  numbered_is : numbered ≡ true → on_drive k call (refused no_such_drive) ≡ answer
  unfolding by_name
  numbered_is e =
      ap (λ (t : Bool). cond t (on_drive k call (refused no_such_drive)) (cond (accepted (tested p).number) without (refused (tested p)))) (sym e)

  pub with-0 : numbered ≡ true → k ≡ 0 → call 0 ≡ answer
  with-0 e z = on-0 k call (refused no_such_drive) z ∙ numbered_is e

  pub with-1 : numbered ≡ true → (k ≡ 0 → ⊥) → k ≡ 1 → call 1 ≡ answer
  with-1 e y z = on-1 k call (refused no_such_drive) y z ∙ numbered_is e

  pub with_none : numbered ≡ true → (k ≡ 0 → ⊥) → (k ≡ 1 → ⊥) → refused no_such_drive ≡ answer
  with_none e y z = on_none k call (refused no_such_drive) y z ∙ numbered_is e

  unnumbered-is : numbered ≡ false → cond (accepted (tested p).number) without (refused (tested p)) ≡ answer
  unfolding by_name
  unnumbered-is e =
      ap (λ (t : Bool). cond t (on_drive k call (refused no_such_drive)) (cond (accepted (tested p).number) without (refused (tested p)))) (sym e)

  module _ {c : Refusal} (e : numbered ≡ false) (q : c ≡ tested p) where
    number_is : c.number ≡ (tested p).number
    number_is = ap (λ (x : Refusal). x.number) q

    pub stopped : (c.number ≡ 0 → ⊥) → refused c ≡ answer
    stopped z =
        ap refused q
        ∙ ap (λ (t : Bool). cond t without (refused (tested p))) (sym (ne_eqb (tested p).number 0 (λ w. z (number_is ∙ w)))) ∙ unnumbered-is e

    pub passed : c.number ≡ 0 → without ≡ answer
    passed z = ap (λ (t : Bool). cond t without (refused (tested p))) (sym (eq-eqb (tested p).number 0 (sym number_is ∙ z))) ∙ unnumbered-is e

-- what both checks answered
module _ (p : Pair) {c c₀ c₁ : Refusal} (q : c ≡ of_both c₀ c₁) (e₀ : c₀ ≡ check p.geometry0 p.image0) (e₁ : c₁ ≡ check p.geometry1 p.image1) where
  pub tested-is : c ≡ tested p
  tested-is = q ∙ (λ i. of_both (e₀ i) (e₁ i))

-- Counting -------------------------------------------------------------------------------------------------------------------------

module _ (g : Geometry) (d : List ℕ) where
  compared-few : (n xs : List ℕ) → LookUp.compared_in g d n xs ≤ length xs
  unfolding LookUp.compared_in
  compared-few n [] = omega arith
  compared-few n (s ∷ ss) = by (compared-few n ss) (LookUp.carries g d n s)
    where
      by : LookUp.compared_in g d n ss ≤ length ss → (t : Bool) → cond t 1 (suc (LookUp.compared_in g d n ss)) ≤ suc (length ss)
      by h true = omega arith
      by h false = omega arith

  slots-few : length (slots g d) ≤ 256
  unfolding slots
  slots-few = keep-under (is_slot g d) (count 0 256) (subst (λ (k : ℕ). k ≤ 256) (sym (length-count 0 256)) (omega arith))

  candidates-few : (n : List ℕ) → length (LookUp.candidates g d n) ≤ 256
  unfolding LookUp.candidates
  candidates-few n = keep-under (λ s. eqb (hit g d s) (hash n)) (slots g d) slots-few

  -- so many entries are compared at the most
  pub few : (n : List ℕ) {l : LookedUp} → l ≡ LookUp.look_up g d n → l.compared ≤ 256
  unfolding LookUp.look_up
  few n e = rw e (by (has (0 ∷ 4 ∷ []) (first (LookUp.look_up_refusals g d n))))
    where
      by : (t : Bool) → cond t (LookUp.compared_in g d (comes_in n).name (LookUp.candidates g d (comes_in n).name)) 0 ≤ 256
      by true =
          let a = compared-few (comes_in n).name (LookUp.candidates g d (comes_in n).name) in
          let b = candidates-few (comes_in n).name in omega arith
      by false = omega arith

-- The search -----------------------------------------------------------------------------------------------------------------------

module _ (p : Pair) (n : List ℕ) where
  has-it : (k : ℕ) {l : LookedUp} → l ≡ look_up_on p k n → (l.refusal.number ≡ 4 → ⊥) → lacks p k n ≡ false
  unfolding lacks
  has-it k {l} e z = ap (λ (x : LookedUp). eqb x.refusal.number 4) (sym e) ∙ ne_eqb l.refusal.number 4 z

  lacks-it : (k : ℕ) {l : LookedUp} → l ≡ look_up_on p k n → l.refusal.number ≡ 4 → lacks p k n ≡ true
  unfolding lacks
  lacks-it k {l} e z = ap (λ (x : LookedUp). eqb x.refusal.number 4) (sym e) ∙ eq-eqb l.refusal.number 4 z

  module _ {l₀ : LookedUp} (e₀ : l₀ ≡ look_up_on p 0 n) where
    pub search-0 : (l₀.refusal.number ≡ 4 → ⊥) → 0 ≡ searched p n
    unfolding searched
    search-0 z = ap (λ (t : Bool). cond t 1 0) (sym (has-it 0 e₀ z))

    pub search-1 : l₀.refusal.number ≡ 4 → 1 ≡ searched p n
    unfolding searched
    search-1 z = ap (λ (t : Bool). cond t 1 0) (sym (lacks-it 0 e₀ z))

    abbrev sought : DriveLookedUp
    sought = looked_up_on (searched p n) (passed_over p n) (look_up_on p (searched p n) n)

    pub sought-0 : {r : DriveLookedUp} → (l₀.refusal.number ≡ 4 → ⊥) → r ≡ looked_up_on 0 0 l₀ → r ≡ sought
    sought-0 z q =
        let f = sym (has-it 0 e₀ z) in let s = search-0 z in
        q ∙ ap (looked_up_on 0 0) e₀ ∙ (λ i. looked_up_on (s i) (cond (f i) (look_up_on p 0 n).compared 0) (look_up_on p (s i) n))

    pub sought-1 : {r : DriveLookedUp} {l₁ : LookedUp} → l₀.refusal.number ≡ 4 → l₁ ≡ look_up_on p 1 n → r ≡ looked_up_on 1 l₀.compared l₁ → r ≡ sought
    sought-1 z e₁ q =
        let f = sym (lacks-it 0 e₀ z) in let s = search-1 z in
        q ∙ (λ i. looked_up_on 1 (e₀ i).compared (e₁ i)) ∙ (λ i. looked_up_on (s i) (cond (f i) (look_up_on p 0 n).compared 0) (look_up_on p (s i) n))

    -- where a create goes
    pub takes-found-0 : (l₀.refusal.number ≡ 4 → ⊥) → 0 ≡ takes p n
    unfolding takes
    takes-found-0 z =
        search-0 z
        ∙ sym (ap (λ (t : Bool). cond t (cond (eqb (length (free_slots p.geometry0 p.image0)) 0) 1 0) (searched p n))
        (all-no (has-it 0 e₀ z) (lacks p 1 n ∷ [])))

    module _ {l₁ : LookedUp} (e₁ : l₁ ≡ look_up_on p 1 n) (z₀ : l₀.refusal.number ≡ 4) where
      pub takes-found-1 : (l₁.refusal.number ≡ 4 → ⊥) → 1 ≡ takes p n
      unfolding takes
      takes-found-1 z =
          search-1 z₀
          ∙ sym (ap (λ (t : Bool). cond t (cond (eqb (length (free_slots p.geometry0 p.image0)) 0) 1 0) (searched p n))
          (all_yes (lacks-it 0 e₀ z₀) (lacks p 1 n ∷ []) ∙ all-no (has-it 1 e₁ z) []))

      takes-new : l₁.refusal.number ≡ 4 → takes p n ≡ cond (eqb (length (free_slots p.geometry0 p.image0)) 0) 1 0
      unfolding takes
      takes-new z =
          ap (λ (t : Bool). cond t (cond (eqb (length (free_slots p.geometry0 p.image0)) 0) 1 0) (searched p n))
          (all_yes (lacks-it 0 e₀ z₀) (lacks p 1 n ∷ []) ∙ all_yes (lacks-it 1 e₁ z) [] ∙ all_none)

      module _ (z₁ : l₁.refusal.number ≡ 4) where
        pub takes-full : [] ≡ take 1 (free_slots p.geometry0 p.image0) → 1 ≡ takes p n
        takes-full e = ap (λ (t : Bool). cond t 1 0) (sym (slot-none p.geometry0 p.image0 e)) ∙ sym (takes-new z₁)

        pub takes-free : {x : ℕ} → x ∷ [] ≡ take 1 (free_slots p.geometry0 p.image0) → 0 ≡ takes p n
        takes-free e = ap (λ (t : Bool). cond t 1 0) (sym (slot-some p.geometry0 p.image0 e).1) ∙ sym (takes-new z₁)

  pub takes-1 : (takes p n ≡ 0 → ⊥) → takes p n ≡ 1
  unfolding takes searched
  takes-1 = by (all (lacks p 0 n ∷ lacks p 1 n ∷ [])) (eqb (length (free_slots p.geometry0 p.image0)) 0) (lacks p 0 n)
    where
      by : (s t u : Bool) → (◌≡◌ {A = ℕ} (cond s (cond t 1 0) (cond u 1 0)) 0 → ⊥) → ◌≡◌ {A = ℕ} (cond s (cond t 1 0) (cond u 1 0)) 1
      by true true u h = refl
      by true false u h = absurd (h refl)
      by false t true h = refl
      by false t false h = absurd (h refl)

-- a disk whose check answered 0 has room
pub room : (g : Geometry) (d : List ℕ) {c : Refusal} → c ≡ check g d → c.number ≡ 0 → Room g d
room g d e z = checked-room g d (checked g d e z)

-- naming a drive leaves the number
naming-number : (c : Refusal) (n : ℕ) → (naming' n c).number ≡ c.number
unfolding naming'
naming-number c n = by (of_disk c.number)
  where
    by : (t : Bool) → (cond t (naming (cond (eqb n 0) 1 2) c) c).number ≡ c.number
    by true = refl
    by false = refl

-- drive 0's disk passed its check where both did
pub first-passed : (c₀ c₁ : Refusal) {c : Refusal} → c ≡ of_both c₀ c₁ → c.number ≡ 0 → c₀.number ≡ 0
unfolding of_both
first-passed c₀ c₁ q z = by (ℕ_discrete c₀.number 0)
  where
    by : Dec (c₀.number ≡ 0) → c₀.number ≡ 0
    by (yes w) = w
    by (no w) =
        sym (naming-number c₀ 0)
        ∙ sym (ap (λ (x : Refusal). x.number)
        (q ∙ ap (λ (t : Bool). cond t (cond (accepted c₁.number) (unplaced 0) (naming' 1 c₁)) (naming' 0 c₀)) (ne_eqb c₀.number 0 w))) ∙ z

-- Create ---------------------------------------------------------------------------------------------------------------------------

module _ (p : Pair) (n : List ℕ) (f : NewFile) (checking : Bool) {r : DriveCreated} {c : Created} {d : List ℕ} where
  pub created-0 : r ≡ created_on 0 c → ◌≡◌ {A = Created × List ℕ} (c, d) (Create.create p.geometry0 p.image0 n f checking)
      → ◌≡◌ {A = DriveCreated × List ℕ × List ℕ} (r, d, p.image1) (create_on p n f checking 0)
  created-0 e q = (λ i. (e i, d, p.image1)) ∙ ap (λ (x : Created × List ℕ). (created_on 0 x.0, x.1, p.image1)) q

  pub created-1 : r ≡ created_on 1 c → ◌≡◌ {A = Created × List ℕ} (c, d) (Create.create p.geometry1 p.image1 n f checking)
      → ◌≡◌ {A = DriveCreated × List ℕ × List ℕ} (r, p.image0, d) (create_on p n f checking 1)
  created-1 e q = (λ i. (e i, p.image0, d)) ∙ ap (λ (x : Created × List ℕ). (created_on 1 x.0, p.image0, x.1)) q

-- What each call by name answers, case by case --------------------------------------------------------------------------------------

module _ (p : Pair) (numbered : Bool) (k : ℕ) (n : List ℕ) where
  abbrev looks_with : ℕ → DriveLookedUp
  looks_with j = looked_up_on j 0 (look_up_on p j n)

  abbrev looks_without : DriveLookedUp
  looks_without = looked_up_on (searched p n) (passed_over p n) (look_up_on p (searched p n) n)

  pub look-0 : {r : DriveLookedUp} {l : LookedUp} → numbered ≡ true → k ≡ 0 → l ≡ look_up_on p 0 n → r ≡ looked_up_on 0 0 l → r ≡ look_up p numbered k n
  unfolding look_up
  look-0 e z q f = f ∙ ap (looked_up_on 0 0) q ∙ with-0 p numbered k looks_with looks_without not_looked_up e z

  pub look-1 : {r : DriveLookedUp} {l : LookedUp} → numbered ≡ true → (k ≡ 0 → ⊥) → k ≡ 1 → l ≡ look_up_on p 1 n → r ≡ looked_up_on 1 0 l
      → r ≡ look_up p numbered k n
  unfolding look_up
  look-1 e y z q f = f ∙ ap (looked_up_on 1 0) q ∙ with-1 p numbered k looks_with looks_without not_looked_up e y z

  pub look_none : {r : DriveLookedUp} {c : Refusal} → numbered ≡ true → (k ≡ 0 → ⊥) → (k ≡ 1 → ⊥) → c ≡ no_such_drive → r ≡ not_looked_up c
      → r ≡ look_up p numbered k n
  unfolding look_up
  look_none e y z q f = f ∙ ap not_looked_up q ∙ with_none p numbered k looks_with looks_without not_looked_up e y z

  pub look-stopped : {r : DriveLookedUp} {c : Refusal} → numbered ≡ false → c ≡ tested p → (c.number ≡ 0 → ⊥) → r ≡ not_looked_up c
      → r ≡ look_up p numbered k n
  unfolding look_up
  look-stopped e q z f = f ∙ stopped p numbered k looks_with looks_without not_looked_up e q z

  pub look-passed : {r : DriveLookedUp} {c : Refusal} → numbered ≡ false → c ≡ tested p → c.number ≡ 0 → r ≡ looks_without → r ≡ look_up p numbered k n
  unfolding look_up
  look-passed e q z f = f ∙ passed p numbered k looks_with looks_without not_looked_up e q z

module _ (p : Pair) (numbered : Bool) (k : ℕ) (n : List ℕ) (len : ℕ) (checking : Bool) (code : ℕ) where
  abbrev opens : ℕ → DriveAnswer
  opens = open_on p n len checking code

  abbrev answered-by : ℕ → Answer → Type 0
  answered-by j a = a ≡ Open.open' (geometry p j) (image p j) n len checking code

  pub open-0 : {r : DriveAnswer} {a : Answer} → numbered ≡ true → k ≡ 0 → answered-by 0 a → r ≡ opened_on 0 a → r ≡ open_file p numbered k n len checking code
  unfolding open_file
  open-0 e z q f = f ∙ ap (opened_on 0) q ∙ with-0 p numbered k opens (opens (searched p n)) not_opened e z

  pub open-1 : {r : DriveAnswer} {a : Answer} → numbered ≡ true → (k ≡ 0 → ⊥) → k ≡ 1 → answered-by 1 a → r ≡ opened_on 1 a
      → r ≡ open_file p numbered k n len checking code
  unfolding open_file
  open-1 e y z q f = f ∙ ap (opened_on 1) q ∙ with-1 p numbered k opens (opens (searched p n)) not_opened e y z

  pub open_none : {r : DriveAnswer} {c : Refusal} → numbered ≡ true → (k ≡ 0 → ⊥) → (k ≡ 1 → ⊥) → c ≡ no_such_drive → r ≡ not_opened c
      → r ≡ open_file p numbered k n len checking code
  unfolding open_file
  open_none e y z q f = f ∙ ap not_opened q ∙ with_none p numbered k opens (opens (searched p n)) not_opened e y z

  module _ {c : Refusal} (e : numbered ≡ false) (q : c ≡ tested p) where
    pub open-stopped : {r : DriveAnswer} → (c.number ≡ 0 → ⊥) → r ≡ not_opened c → r ≡ open_file p numbered k n len checking code
    unfolding open_file
    open-stopped z f = f ∙ stopped p numbered k opens (opens (searched p n)) not_opened e q z

    pub open-passed : {r : DriveAnswer} {a : Answer} (j : ℕ) → c.number ≡ 0 → j ≡ searched p n → answered-by j a → r ≡ opened_on j a
        → r ≡ open_file p numbered k n len checking code
    unfolding open_file
    open-passed j z s w f = f ∙ ap (opened_on j) w ∙ ap opens s ∙ passed p numbered k opens (opens (searched p n)) not_opened e q z

module _ (p : Pair) (numbered : Bool) (k : ℕ) (n : List ℕ) (f : NewFile) (checking : Bool) where
  abbrev creates : ℕ → DriveCreated × List ℕ × List ℕ
  creates = create_on p n f checking

  abbrev refuses : Refusal → DriveCreated × List ℕ × List ℕ
  refuses c = (not_created c, p.image0, p.image1)

  pub create-0 : {r : DriveCreated × List ℕ × List ℕ} → numbered ≡ true → k ≡ 0 → r ≡ creates 0 → r ≡ create p numbered k n f checking
  unfolding create
  create-0 e z w = w ∙ with-0 p numbered k creates (creates (takes p n)) refuses e z

  pub create-1 : {r : DriveCreated × List ℕ × List ℕ} → numbered ≡ true → (k ≡ 0 → ⊥) → k ≡ 1 → r ≡ creates 1 → r ≡ create p numbered k n f checking
  unfolding create
  create-1 e y z w = w ∙ with-1 p numbered k creates (creates (takes p n)) refuses e y z

  pub create-none : {r : DriveCreated × List ℕ × List ℕ} → numbered ≡ true → (k ≡ 0 → ⊥) → (k ≡ 1 → ⊥) → r ≡ refuses no_such_drive
      → r ≡ create p numbered k n f checking
  unfolding create
  create-none e y z w = w ∙ with_none p numbered k creates (creates (takes p n)) refuses e y z

  module _ {c : Refusal} (e : numbered ≡ false) (q : c ≡ tested p) where
    pub create-stopped : {r : DriveCreated × List ℕ × List ℕ} → (c.number ≡ 0 → ⊥) → r ≡ refuses c → r ≡ create p numbered k n f checking
    unfolding create
    create-stopped z w = w ∙ stopped p numbered k creates (creates (takes p n)) refuses e q z

    pub create-passed : {r : DriveCreated × List ℕ × List ℕ} → (j : ℕ) → c.number ≡ 0 → j ≡ takes p n → r ≡ creates j → r ≡ create p numbered k n f checking
    unfolding create
    create-passed j z s w = w ∙ ap creates s ∙ passed p numbered k creates (creates (takes p n)) refuses e q z
