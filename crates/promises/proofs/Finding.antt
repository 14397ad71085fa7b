-- The file of a name: look up, open, and create
use Rattle.std.proofs.Math.Path.{◌≡◌, refl, ap}
use Rattle.std.proofs.Common.{sym, ◌∙◌, subst, inl, inr, arith, eqb→eq, le→leb}
use Rattle.std.specs.Prelude.{◌≢◌, ◌⊎◌, Bool, true, false, not, take, eqb}
use Rattle.std.proofs.Math.Bool.{cond}
use mathlib.Core.List.{List, [], ◌∷◌}
use Prim.Native.Nat.{ℕ, suc, ◌≤◌}
use Rattle.std.proofs.Math.ListN.{length}
use Rattle.std.proofs.Math.Dec.{T, leb, not_T, leb→le}
use Rattle.meaning.specs.Lists.{count, keep, all, has, first_or}
use Rattle.meaning.specs.Layout.{slots, is_slot, hit}
use Rattle.meaning.specs.Names.{hash, fold}
use Rattle.meaning.specs.Entries.{name_of, access_level}
use Rattle.meaning.specs.Refusals.{first, new_in_range}
use Rattle.meaning.specs.Handles.{good_length}
use Rattle.meaning.specs.LookUp.{candidates, carries, compared_in, named, missing, slot_of, look_up}
use Rattle.meaning.specs.Open.{full, admits, opened_at, open'}
use Rattle.meaning.specs.Create.{create, new_slot}
use Rattle.meaning.specs.Calls.{Call, number}
use Rattle.meaning.specs.Plain.{File, found, file_at}
use Rattle.meaning.specs.declared.Geometry.{Geometry}
use Rattle.meaning.specs.declared.NewFile.{NewFile}
use Rattle.lists.specs.Members
use Rattle.lists.specs.Members.{In}
use Rattle.laws.specs.Facts
use Rattle.laws.specs.Facts.{Sound}
use Rattle.laws.specs.Named
use Rattle.laws.specs.Rising
use Rattle.laws.specs.Rising.{Rising}
use Rattle.laws.specs.Passed.{passed, yes-T}
use Rattle.promises.specs.CreateMeans
use Rattle.promises.specs.Promises
use Rattle.promises.specs.Promises.{LooksUp, Opened, Creates, NotFound, Live, InRange, NewInRange, matching}
use Rattle.promises.specs.Refusing
use Rattle.promises.specs.Passing
use Rattle.promises.specs.Changing

-- the file of a name that is not missing
pub record Whose (g : Geometry) (d n : List ℕ) (p : ℕ) : Type 0 where
  pub alone : named g d n ≡ p ∷ []
  pub file : Facts.IsFile g d p
  pub name' : name_of g d p ≡ n

-- The count --------------------------------------------------------------------------------------------------------------------------

module _ (g : Geometry) (d n : List ℕ) where
  slots-rising : Rising (slots g d)
  unfolding slots
  slots-rising = Rising.keep-rising (is_slot g d) (Rising.count-rising 0 256)

  candidates-are : candidates g d n ≡ keep (λ x. eqb (hit g d x) (hash n)) (slots g d)
  unfolding candidates
  candidates-are = refl

  -- entries are compared up to the one that carries the name
  compared-to : (x : ℕ) {xs : List ℕ} → Rising xs → In x xs → T (carries g d n x) → ((y : ℕ) → In y xs → T (carries g d n y) → y ≡ x)
      → compared_in g d n xs ≡ length (keep (λ y. leb y x) xs)
  unfolding compared_in
  compared-to x Rising.done i t u = Members.none_in i
  compared-to x (Rising.next {x = s} {xs = ss} f r) i t u =
      go (Members.decide (carries g d n s)) (Members.in-cons i) (λ j. compared-to x r j t (λ y k. u y (Members.In.there k)))
    where
      none : s ≡ x → keep (λ y. leb y x) ss ≡ []
      none e = Rising.keep-none (λ y. leb y x) ss (λ y j. Members.no_false {b = leb y x} (λ q. omega (arith, f y j, leb→le y x q)))

      go : Members.Test (carries g d n s) → (x ≡ s) ⊎ In x ss → (In x ss → compared_in g d n ss ≡ length (keep (λ y. leb y x) ss))
          → cond (carries g d n s) 1 (suc (compared_in g d n ss)) ≡ length (cond (leb s x) (s ∷ keep (λ y. leb y x) ss) (keep (λ y. leb y x) ss))
      go (Members.Test.holds h) j ih =
          let e = u s Members.In.here h in
          rw (Members.T_true {b = carries g d n s} h, Members.T_true {b = leb s x} (le→leb s x (omega arith)), none e)
      go (Members.Test.fails h) (inl e) ih = absurd (h (rw e at t))
      go (Members.Test.fails h) (inr j) ih =
          rw (Members.no_false {b = carries g d n s} h, Members.T_true {b = leb s x} (le→leb s x (omega (arith, f x j)))) (ap suc (ih j))

  compared-all : (xs : List ℕ) → keep (carries g d n) xs ≡ [] → compared_in g d n xs ≡ length xs
  unfolding compared_in
  compared-all [] e = refl
  compared-all (x ∷ xs) e = go (Members.decide (carries g d n x)) (compared-all xs)
    where
      go : Members.Test (carries g d n x) → (keep (carries g d n) xs ≡ [] → compared_in g d n xs ≡ length xs) → cond (carries g d n x) 1
          (suc (compared_in g d n xs)) ≡ suc (length xs)
      go (Members.Test.holds t) ih =
          let q : x ∷ keep (carries g d n) xs ≡ [] = rw (Members.T_true {b = carries g d n x} t) at e in
          absurd (let z : ◌≡◌ {A = ℕ} 0 1 = cc in omega arith)
      go (Members.Test.fails t) ih = rw (Members.no_false {b = carries g d n x} t) (ap suc (ih (rw (Members.no_false {b = carries g d n x} t) at e)))

module _ (g : Geometry) (d : List ℕ) (c : Sound g d) (n : List ℕ) where
  pub whose : (T (missing g d n) → ⊥) → (p : ℕ) × Whose g d n p
  whose k = go (Named.look g d c n)
    where
      go : ((p : ℕ) × Facts.IsFile g d p × (name_of g d p ≡ n)) ⊎ ((p : ℕ) → Facts.IsFile g d p → name_of g d p ≢ n) → (p : ℕ) × Whose g d n p
      go (inl w) = (w.0, record { alone = Named.named-at g d c w.0 n w.1 w.2; file = w.1; name' = w.2 })
      go (inr w) = absurd (k (subst (λ (l : List ℕ). T (eqb (length l) 0)) (sym (Named.none_named g d n w)) tt))

  slot_is : (p : ℕ) → Whose g d n p → slot_of g d n ≡ p
  unfolding first_or
  slot_is p w = ap (first_or 0) w.alone

  compared_is : (p : ℕ) → Whose g d n p → compared_in g d n (candidates g d n) ≡ matching g d n p
  compared_is p w =
      let k = Members.keep-in (carries g d n) p (candidates g d n)
      (subst (λ (m : List ℕ). In p (keep (carries g d m) (candidates g d m))) w.name' (Named.in-named g d c p w.file)) in
      let r : Rising (candidates g d n) = subst Rising (sym (candidates-are g d n)) (Rising.keep-rising (λ x. eqb (hit g d x) (hash n)) (slots-rising g d n))
      in
      compared-to g d n p r k.0 k.1 (λ y i t. let z = Named.named_in g d n y (Members.in-keep (carries g d n) i t) in c.names y p z.0 w.file
      (z.1 ∙ sym w.name'))
      ∙ ap (λ (l : List ℕ). length (keep (λ y. leb y p) l)) (candidates-are g d n)
      ∙ ap length (Rising.keep-keep (λ x. eqb (hit g d x) (hash n)) (λ y. leb y p) (slots g d))

none-carries : (g : Geometry) (d n : List ℕ) → T (missing g d n) → keep (carries g d n) (candidates g d n) ≡ []
unfolding named
none-carries g d n t = go (keep (carries g d n) (candidates g d n)) t
  where
    go : (xs : List ℕ) → T (eqb (length (take 1 xs)) 0) → xs ≡ []
    go [] t = refl
    go (x ∷ xs) t = absurd (omega (arith, eqb→eq 1 0 t))

-- Look up -----------------------------------------------------------------------------------------------------------------------------

pub look-serves : (g : Geometry) (d n : List ℕ) → (look_up g d n).refusal.number ≡ 0 → LooksUp g d n (look_up g d n)
look-serves g d n e =
    let w = disk e in let c = w.0 in let v = whose g d c (fold n) w.1 in let p = v.0 in let z = v.1 in
    let s : (look_up g d n).slot ≡ p = slot e ∙ slot_is g d c (fold n) p z in
    record {
      file = Named.plain-is g d c p (fold n) z.file z.name' ∙ ap (λ (q : ℕ). found (file_at g d q)) (sym s);
      name' = ap (name_of g d) s ∙ z.name';
      here = z.alone ∙ ap (λ (q : ℕ). q ∷ []) (sym s);
      compared = compared e ∙ compared_is g d c (fold n) p z ∙ ap (matching g d (fold n)) (sym s);
    }
  where
    disk : (look_up g d n).refusal.number ≡ 0 → Sound g d × (T (missing g d (fold n)) → ⊥)
    disk e = unfold look_up in
        let w = Passing.disk-passed g d _ e in let p₃ = passed 3 _ _ (omega arith) w.1 in let p₄ = passed 4 _ _ (omega arith) p₃.1 in
        (w.0.sound, p₄.0)

    slot : (look_up g d n).refusal.number ≡ 0 → (look_up g d n).slot ≡ slot_of g d (fold n)
    slot e = unfold look_up in rw e

    compared : (look_up g d n).refusal.number ≡ 0 → (look_up g d n).compared ≡ compared_in g d (fold n) (candidates g d (fold n))
    compared e = unfold look_up in rw e

pub look-refuses : (g : Geometry) (d n : List ℕ) → (look_up g d n).refusal.number ≢ 0 → NotFound g d n (look_up g d n)
look-refuses g d n k = record {
  slot = slot;
  all' = λ e. all e;
  none = λ m. none m;
}
  where
    slot : (look_up g d n).slot ≡ 0
    slot = unfold look_up in Passing.other-case (look_up g d n).refusal.number (slot_of g d (fold n)) 0 k

    lost : (look_up g d n).refusal.number ≡ 4 → T (missing g d (fold n))
    lost e = (Refusing.missing-iff g d (fold n)).1 (rows.1.0.0 (known e)).1
      where
        rows : Promises.Rows (number g d (Call.looks_up n)) (Refusing.Checked g d) (Refusing.own_cases (Promises.table g d (Call.looks_up n)))
        rows = Refusing.own-rows g d (Refusing.own_cases (Promises.table g d (Call.looks_up n))) (number g d (Call.looks_up n))
            (Refusing.numbers g d (Call.looks_up n))

        known : (look_up g d n).refusal.number ≡ 4 → number g d (Call.looks_up n) ≡ 4
        known e = unfold number in e

    all : (look_up g d n).refusal.number ≡ 4 → (look_up g d n).compared ≡ length (keep (λ x. eqb (hit g d x) (hash (fold n))) (slots g d))
    all e = count e ∙ counted (lost e)
      where
        count : (look_up g d n).refusal.number ≡ 4 → (look_up g d n).compared ≡ compared_in g d (fold n) (candidates g d (fold n))
        count e = unfold look_up in rw e

        counted : T (missing g d (fold n)) → compared_in g d (fold n) (candidates g d (fold n)) ≡ length
            (keep (λ x. eqb (hit g d x) (hash (fold n))) (slots g d))
        counted t = compared-all g d (fold n) (candidates g d (fold n)) (none-carries g d (fold n) t) ∙ ap length (candidates-are g d (fold n))

    none : (look_up g d n).refusal.number ≢ 4 → (look_up g d n).compared ≡ 0
    none m = unfold look_up in
        rw (Members.no_false {b = has (0 ∷ 4 ∷ []) (look_up g d n).refusal.number}
        (λ t. which (Members.has_in (look_up g d n).refusal.number (0 ∷ 4 ∷ []) t)))
      where
        which : In (look_up g d n).refusal.number (0 ∷ 4 ∷ []) → ⊥
        which i = go (Members.in-cons i)
          where
            one : ((look_up g d n).refusal.number ≡ 4) ⊎ In (look_up g d n).refusal.number [] → ⊥
            one (inl e) = m e
            one (inr j) = Members.none_in j

            go : ((look_up g d n).refusal.number ≡ 0) ⊎ In (look_up g d n).refusal.number (4 ∷ []) → ⊥
            go (inl e) = k e
            go (inr j) = one (Members.in-cons j)

-- Open --------------------------------------------------------------------------------------------------------------------------------

opened : (g : Geometry) (d : List ℕ) → Sound g d → (n : List ℕ) (len : ℕ) (checking : Bool) (code : ℕ) → (1 ≤ len) × (len ≤ 256) → (T (missing g d n) → ⊥)
    → T (admits g d (slot_of g d n) checking code) → Opened g d n len checking code (opened_at g d (slot_of g d n) n len checking code)
unfolding file_at
opened g d c n len checking code r k t =
    let v = whose g d c n k in let p = v.0 in let z = v.1 in
    subst (λ (s : ℕ). T (admits g d s checking code) → Opened g d n len checking code (opened_at g d s n len checking code)) (sym (slot_is g d c n p z))
    (λ a. record {
      file = file_at g d p;
      called = Named.plain-is g d c p n z.file z.name';
      live = record { slot = z.file.slot; used = Facts.file-in-use g d p z.file; first = Facts.file-first g d p z.file; name' = z.name' };
      ranged = record { at = omega arith; length' = r; level = level p (full g d p checking code) };
      name'' = refl;
      start = refl;
      length' = refl;
      full = λ x. rw (Members.T_true {b = full g d p checking code} ((Refusing.full-iff g d p checking code).1 x));
      worker = λ x. (
        only x ((Refusing.admitted-iff g d p checking code).0 a),
        rw
            (Members.no_false {b = full g d p checking code} (λ y. x ((Refusing.full-iff g d p checking code).0 y))),
      );
    }) t
  where
    level : (p : ℕ) (b : Bool) → cond b 0 (access_level g d p) ≤ 7
    level p true = omega arith
    level p false = omega arith

    only : {A B : Type 0} → (A → ⊥) → A ⊎ B → B
    only x (inl a) = absurd (x a)
    only x (inr b) = b

pub open-serves : (g : Geometry) (d n : List ℕ) (len : ℕ) (checking : Bool) (code : ℕ) → (open' g d n len checking code).refusal.number ≡ 0
    → Opened g d (fold n) len checking code (open' g d n len checking code).handle
unfolding open'
open-serves g d n len checking code e =
    let w = Passing.disk-passed g d _ e in
    let p₃ = passed 12 _ _ (omega arith) w.1 in let p₄ = passed 3 _ _ (omega arith) p₃.1 in
    let p₅ = passed 4 _ _ (omega arith) p₄.1 in let p₆ = passed 5 _ _ (omega arith) p₅.1 in
    rw e (opened g d w.0.sound (fold n) len checking code ((Refusing.length-iff len).0 (yes-T (good_length len) p₃.0)) p₅.0
    (yes-T (admits g d (slot_of g d (fold n)) checking code) p₆.0))

-- Create ------------------------------------------------------------------------------------------------------------------------------

old-says : (b : Bool) → not b ≡ true → T b → ⊥
old-says true e t = Members.true-T e
old-says false e t = t

fresh-of : (b : Bool) → not b ≡ false → T b
fresh-of true q = tt
fresh-of false q = Members.false-no q tt

in-range : (g : Geometry) (d n : List ℕ) (f : NewFile) (checking : Bool) → (create g d n f checking).0.refusal.number ≡ 0 → NewInRange f
unfolding create
in-range g d n f checking e =
    let w = Passing.disk-passed g d _ e in let p₃ = passed 12 _ _ (omega arith) w.1 in
    (Refusing.new-iff f).0 (yes-T (new_in_range f) p₃.0)

made : (g : Geometry) (d n : List ℕ) (f : NewFile) (checking : Bool) → (create g d n f checking).0.refusal.number ≡ 0 → (create g d n f checking).0.old ≡
    false
    → (create g d n f checking).0.handle ≡ record { slot = new_slot g d; name = fold n; at = 0; len = f.len; level = 0 }
unfolding create
made g d n f checking e o = rw (e, Members.T_true {b = missing g d (fold n)} (fresh-of (missing g d (fold n)) (rw e at o)))

pub create-serves : (g : Geometry) (d n : List ℕ) (f : NewFile) (checking : Bool) → (create g d n f checking).0.refusal.number ≡ 0
    → Creates g d n f checking (create g d n f checking).0 (create g d n f checking).1
create-serves g d n f checking e = record {
  old = λ o. (old o, Passing.old-stands g d n f checking o);
  new = λ o. (
    Changing.create-becomes g d n f checking e o,
    live o,
    subst (InRange g) (sym (made g d n f checking e o))
        (record { at = omega arith; length' = range.length'; level = omega arith }),
  );
  handle' = λ o. made g d n f checking e o;
}
  where
    range : NewInRange f
    range = in-range g d n f checking e

    old : (create g d n f checking).0.old ≡ true → Opened g d (fold n) f.len checking f.main (create g d n f checking).0.handle
    old o = unfold create in
        let w = Passing.disk-passed g d _ e in
        let p₃ = passed 12 _ _ (omega arith) w.1 in let p₄ = passed 3 _ _ (omega arith) p₃.1 in
        let p₅ = passed 5 _ _ (omega arith) p₄.1 in
        let found' : T (missing g d (fold n)) → ⊥ = old-says (missing g d (fold n)) (rw e at o) in
        let admitted : T (admits g d (slot_of g d (fold n)) checking f.main) = yes-T (admits g d (slot_of g d (fold n)) checking f.main) (λ t.
        p₅.0 (Members.all_two (not (missing g d (fold n))) (not (admits g d (slot_of g d (fold n)) checking f.main)) (not_T (missing g d (fold n)) found')
        t)) in
        rw (e, Members.no_false {b = missing g d (fold n)} found')
        (opened g d w.0.sound (fold n) f.len checking f.main range.length' found' admitted)

    live : (create g d n f checking).0.old ≡ false → Live g (create g d n f checking).1 (create g d n f checking).0.handle
    live o =
        let z = CreateMeans.create-placed g d n f checking e o in
        subst (Live g (create g d n f checking).1) (sym (made g d n f checking e o))
        (record {
          slot = z.file.slot;
          used = Facts.file-in-use g (create g d n f checking).1 (new_slot g d) z.file;
          first = Facts.file-first g
              (create g d n f checking).1 (new_slot g d) z.file;
          name' = z.name';
        })
