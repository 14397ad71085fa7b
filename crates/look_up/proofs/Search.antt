-- The search, slot by slot, and the refusals of look up.
use mathlib.Core.Path.{◌≡◌, sym, ap, subst, ◌∙◌}
use Rattle.std.specs.Prelude.{Option, None, Some, IfSome}
use Rattle.std.specs.Option.{option_to_list}
use mathlib.Core.Logic.{◌⊎◌, inl, inr}
use mathlib.Core.List.{List, [], ◌∷◌}
use mathlib.Core.Bool.{Bool, true, false, cond}
use Prim.Native.Nat.{ℕ, suc, ◌+◌, ◌-◌, ◌*◌, ◌/◌, ◌%◌, ◌≤◌, ◌<◌}
use native.Mathlib.Omega.{arith}
use native.Mathlib.Nat.{zero-add}
use lib.ListN.{take}
use lib.Dec.{eqb}
use borrow.Author.Tests.{ne_eqb}
use Rattle.meaning.specs.Lists.{keep, has, first_or}
use Rattle.meaning.specs.Layout.{hit, directory_sectors}
use Rattle.meaning.specs.Names.{hash, fold}
use Rattle.meaning.specs.LookUp.{candidates, carries, compared_in, named, look_up, look_up_refusals}
use Rattle.meaning.specs.Refusals.{name_refusal, first, accepted, check, fault_numbers, disk_refusals}
use Rattle.meaning.specs.declared.LookedUp.{LookedUp}
use Rattle.meaning.specs.declared.Refusal.{Refusal}
use Rattle.meaning.specs.declared.Geometry.{Geometry}
use Rattle.lists.specs.Members
use Rattle.lists.specs.First.{first-in}
use Rattle.lists.specs.Tests.{keep-yes, keep-no}
use Rattle.passed.proofs.Checked.{check-stop}
use Rattle.layout.specs.Room.{Slot}
use Rattle.look_up.specs.Found.{Finds}
use Rattle.look_up.specs.declared.Found.{Found}
use Rattle.look_up.proofs.Named.{by-own}
use Rattle.look_up.proofs.Pass.{slots_from, slots-start, slots-here, slots-past, slots_end}

module _ (g : Geometry) (d n : List ℕ) where
  -- those of a list of slots whose HIT byte is the hash
  unfoldable pub hashed : List ℕ → List ℕ
  hashed ss = keep (λ s. eqb (hit g d s) (hash n)) ss

  hashed-no : (s : ℕ) → eqb (hit g d s) (hash n) ≡ false → (ss : List ℕ) → hashed (s ∷ ss) ≡ hashed ss
  unfolding hashed
  hashed-no s h ss = keep-no (λ s. eqb (hit g d s) (hash n)) {x = s} h ss

  hashed-yes : (s : ℕ) → eqb (hit g d s) (hash n) ≡ true → (ss : List ℕ) → hashed (s ∷ ss) ≡ s ∷ hashed ss
  unfolding hashed
  hashed-yes s h ss = keep-yes (λ s. eqb (hit g d s) (hash n)) {x = s} h ss

  compared-no : (s : ℕ) → carries g d n s ≡ false → (ss : List ℕ) → compared_in g d n (s ∷ ss) ≡ suc (compared_in g d n ss)
  unfolding compared_in
  compared-no s h ss = ap (λ (b : Bool). cond b 1 (suc (compared_in g d n ss))) h

  compared-yes : (s : ℕ) → carries g d n s ≡ true → (ss : List ℕ) → compared_in g d n (s ∷ ss) ≡ 1
  unfolding compared_in
  compared-yes s h ss = ap (λ (b : Bool). cond b 1 (suc (compared_in g d n ss))) h

  -- the slots from s on are left, after c comparisons
  pub record Finding (s c : ℕ) : Type 0 where
    pub slot : named g d n ≡ take 1 (keep (carries g d n) (hashed (slots_from g d s)))
    pub compared : compared_in g d n (candidates g d n) ≡ c + compared_in g d n (hashed (slots_from g d s))

  start-hashed : candidates g d n ≡ hashed (slots_from g d 0)
  unfolding candidates hashed
  start-hashed = ap (keep (λ s. eqb (hit g d s) (hash n))) (slots-start g d)

  pub finding-start : Finding 0 0
  unfolding named
  finding-start =
      record {
        slot = ap (λ (l : List ℕ). take 1 (keep (carries g d n) l)) start-hashed;
        compared = ap (compared_in g d n) start-hashed ∙ sym (zero-add _);
      }

  finding-same : {s t c : ℕ} → hashed (slots_from g d s) ≡ hashed (slots_from g d t) → Finding s c → Finding t c
  finding-same q f = record { slot = rw q at f.slot; compared = rw q at f.compared }

  module _ {s columns : ℕ} (l : s < 256) (e : columns ≡ directory_sectors g d - 2) where
    -- the row has no slot at s or after
    pub finding-past : {c : ℕ} → columns ≤ s % 32 → Finding s c → Finding (32 * (s / 32 + 1)) c
    finding-past h f = finding-same (ap hashed (slots-past g d l e h)) f

    -- it has one there, whose HIT byte is another
    pub finding-other : {c : ℕ} → s % 32 < columns → eqb (hit g d s) (hash n) ≡ false → Finding s c → Finding (s + 1) c
    finding-other h k f = finding-same (ap hashed (slots-here g d l e h) ∙ hashed-no s k (slots_from g d (s + 1))) f

    one : s % 32 < columns → eqb (hit g d s) (hash n) ≡ true → hashed (slots_from g d s) ≡ s ∷ hashed (slots_from g d (s + 1))
    one h k = ap hashed (slots-here g d l e h) ∙ hashed-yes s k (slots_from g d (s + 1))

    -- the hash is there and the name is not
    pub finding-miss : {c : ℕ} → s % 32 < columns → eqb (hit g d s) (hash n) ≡ true → carries g d n s ≡ false → Finding s c → Finding (s + 1) (c + 1)
    finding-miss {c} h k w f =
        let rest = hashed (slots_from g d (s + 1)) in
        record {
          slot = (rw (one h k) at f.slot) ∙ ap (take 1) (keep-no (carries g d n) w rest);
          compared =
              (rw (one h k) at f.compared) ∙ ap (λ (x : ℕ). c + x) (compared-no s w rest)
              ∙ (let z : c + suc (compared_in g d n rest) ≡ c + 1 + compared_in g d n rest = omega arith in z);
        }

    -- both are there
    pub finding-hit : {c : ℕ} → s % 32 < columns → eqb (hit g d s) (hash n) ≡ true → carries g d n s ≡ true → Finding s c
        → Finds g d n (record { slot = Some s; compared = c + 1 })
    finding-hit {c} h k w f =
        let rest = hashed (slots_from g d (s + 1)) in
        record {
          slot = (rw (one h k) at f.slot) ∙ ap (take 1) (keep-yes (carries g d n) w rest);
          compared = sym ((rw (one h k) at f.compared) ∙ ap (λ (x : ℕ). c + x) (compared-yes s w rest));
          held = record { low = l; held = omega arith };
        }

  pub finding-end : {s c : ℕ} → 256 ≤ s → Finding s c → Finds g d n (record { slot = None; compared = c })
  unfolding hashed compared_in
  finding-end {s} {c} h f =
      record {
        slot = f.slot ∙ ap (λ (l : List ℕ). take 1 (keep (carries g d n) (hashed l))) (slots_end g d h);
        compared = sym (f.compared ∙ ap (λ (l : List ℕ). c + compared_in g d n (hashed l)) (slots_end g d h) ∙ (let z : c + 0 ≡ c = omega arith in z));
        held = tt;
      }

  pub finding-count : {s c c' : ℕ} → c' ≡ c → Finding s c → Finding s c'
  finding-count e f = rw e f

  -- the refusals of look up, one after the other
  pub told : {no slot compared : ℕ} {c : Refusal} → c ≡ name_refusal g d n no → no ≡ first (look_up_refusals g d n)
      → cond (accepted no) (first_or 0 (named g d (fold n))) 0 ≡ slot
      → cond (has (0 ∷ 4 ∷ []) no) (compared_in g d (fold n) (candidates g d (fold n))) 0 ≡ compared
      → ◌≡◌ {A = LookedUp} (record { refusal = c; slot = slot; compared = compared }) (look_up g d n)
  unfolding look_up
  told q e f h = rw (← e, f, h, q)

  -- of the name that came in
  pub finds-as : {m : List ℕ} {r : Found} → m ≡ n → Finds g d m r → Finds g d n r
  finds-as e f = rw e at f

  pub finds-none : {r : Found} → Finds g d n r → r.slot ≡ None → named g d n ≡ []
  finds-none f e = f.slot ∙ ap option_to_list e

  pub finds-one : {r : Found} {s : ℕ} → Finds g d n r → r.slot ≡ Some s → named g d n ≡ s ∷ []
  finds-one f e = f.slot ∙ ap option_to_list e

  pub finds-slot : {r : Found} {s : ℕ} → Finds g d n r → r.slot ≡ Some s → Slot g d s
  finds-slot f e = subst (λ (o : Option ℕ). IfSome o (Slot g d)) e f.held

module _ (g : Geometry) (d : List ℕ) where
  -- the check answers 0, 1 or 21 to 30
  not-missing : (check g d).number ≡ 4 → ⊥
  unfolding check
  not-missing e = zero_or (Members.in-cons (first-in (disk_refusals g d [])))
    where
      one-or : ((check g d).number ≡ 1) ⊎ Members.In (check g d).number fault_numbers → ⊥
      one-or (inl q) = omega (arith, e, q)
      one-or (inr i) = let k = Members.count-in (check g d).number 21 10 i in omega (arith, e, k)

      zero_or : ((check g d).number ≡ 0) ⊎ Members.In (check g d).number (1 ∷ fault_numbers) → ⊥
      zero_or (inl q) = omega (arith, e, q)
      zero_or (inr i) = one-or (Members.in-cons i)

  -- refused under 1 or 21 to 30: no slot, no count
  pub told-stop : (n : List ℕ) {c : Refusal} → c ≡ check g d → (c.number ≡ 0 → ⊥)
      → ◌≡◌ {A = LookedUp} (record { refusal = c; slot = 0; compared = 0 }) (look_up g d n)
  told-stop n {c} e z =
      let no = c.number in
      told g d n (by-own g d n e) (check-stop g d _ e z) (ap (λ (b : Bool). cond b (first_or 0 (named g d (fold n))) 0) (ne_eqb no 0 z))
      (simp (ne_eqb no 0 z, ne_eqb no 4 (λ q. not-missing (sym (ap {B = ℕ} (λ (x : Refusal). x.number) e) ∙ q))))
