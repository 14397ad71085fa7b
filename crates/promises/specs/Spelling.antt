-- What is promised of a name that comes in (02 §7): the place of the first bad byte, and that every call by name goes by the fold
use Rattle.std.specs.Prelude.{◌≡◌, refl, ◌≢◌, ◌⊎◌, Bool, true, false, ◌&&◌, List, [], ◌∷◌, ℕ, zero, suc, ◌+◌, ◌-◌, ◌≤◌, ◌<◌, length, get_or, take}
use Rattle.std.specs.Prelude.{drop, T, eqb, ltb}
use Rattle.std.proofs.Math.Path.{ap}
use Rattle.std.proofs.Common.{sym, ◌∙◌, subst, inl, inr, arith, length-drop, length-take-le, eq-eqb, ne_eqb, eqb-true, ltb-true, ltb-false}
use Rattle.std.proofs.Math.Bool.{cond}
use Rattle.std.proofs.lemmas.Bool.{eqb-false}
use Rattle.meaning.specs.Names.{letter, well_formed, fold, blanks, good, bad_place, comes_in}
use Rattle.meaning.specs.Refusals.{check, bad_at, name_refusal}
use Rattle.meaning.specs.LookUp.{look_up}
use Rattle.meaning.specs.Open.{open'}
use Rattle.meaning.specs.Create.{create}
use Rattle.meaning.specs.Calls.{Call, number}
use Rattle.meaning.specs.declared.Geometry.{Geometry}
use Rattle.meaning.specs.declared.NewFile.{NewFile}
use Rattle.meaning.specs.declared.Refusal.{Refusal}
use Rattle.lists.specs.Members
use Rattle.laws.specs.Carried.{carried-own, carried-second}
use Rattle.laws.specs.Spelling.{fold-twice, fold-well, well-place, place-well, place_inside}
use Rattle.promises.specs.Promises
use Rattle.promises.specs.Promises.{GoodIn, GoodAt, BadAt, SaysPlace, ComesIn, ByName}
use Rattle.promises.specs.Refusing

-- One part, the name or the type -----------------------------------------------------------------------------------------------------

one_more : (k : ℕ) → 1 + k ≡ suc k
one_more k = omega arith

blanks-before : (xs : List ℕ) (i : ℕ) → i < blanks xs → get_or xs i 0 ≡ 0x20
unfolding blanks
blanks-before [] i h = absurd (let z : ⊥ = omega arith in z)
blanks-before (x ∷ xs) i h = by (eqb 0x20 x) refl i h (blanks-before xs)
  where
    by : (b : Bool) → eqb 0x20 x ≡ b → (i : ℕ) → i < cond b (1 + blanks xs) 0 → ((i : ℕ) → i < blanks xs → get_or xs i 0 ≡ 0x20) → get_or (x ∷ xs) i 0 ≡ 0x20
    by true e zero h ih = sym (eqb-true 0x20 x e)
    by true e (suc i) h ih = ih i (omega arith)
    by false e i h ih = absurd (let z : ⊥ = omega arith in z)

blanks-stop : (xs : List ℕ) → blanks xs < length xs → get_or xs (blanks xs) 0 ≢ 0x20
unfolding blanks
blanks-stop [] h = absurd (let z : ⊥ = omega arith in z)
blanks-stop (x ∷ xs) h = by (eqb 0x20 x) refl h (blanks-stop xs)
  where
    by : (b : Bool) → eqb 0x20 x ≡ b → cond b (1 + blanks xs) 0 < suc (length xs) → (blanks xs < length xs → get_or xs (blanks xs) 0 ≢ 0x20)
        → get_or (x ∷ xs) (cond b (1 + blanks xs) 0) 0 ≢ 0x20
    by true e h ih q = ih (omega arith) (sym (ap (λ (j : ℕ). get_or (x ∷ xs) j 0) (one_more (blanks xs))) ∙ q)
    by false e h ih q = eqb-false 0x20 x e (sym q)

-- every byte before the first bad one is good
good-before : (xs : List ℕ) (i : ℕ) → i < good xs → GoodIn xs i
unfolding good
good-before [] i h = absurd (let z : ⊥ = omega arith in z)
good-before (x ∷ xs) i h = by (letter x) refl i h (good-before xs)
  where
    apart : letter x ≡ true → (i j : ℕ) → j < suc i → ((k : ℕ) → k < i → get_or xs k 0 ≢ 0x20) → get_or (x ∷ xs) j 0 ≢ 0x20
    apart e i zero l f q = Members.false-no refl (subst (λ (y : ℕ). T (letter y)) q (Members.true-T e))
    apart e i (suc j) l f q = f j (omega arith) q

    step : letter x ≡ true → (i : ℕ) → GoodIn xs i → GoodIn (x ∷ xs) (suc i)
    step e i (inl w) = inl (w.0, λ j l. apart e i j l w.1)
    step e i (inr q) = inr q

    by : (b : Bool) → letter x ≡ b → (i : ℕ) → i < cond b (1 + good xs) (blanks (x ∷ xs)) → ((i : ℕ) → i < good xs → GoodIn xs i) → GoodIn (x ∷ xs) i
    by true e zero h ih = inl (Members.true-T e, λ j l. absurd (let z : ⊥ = omega arith in z))
    by true e (suc i) h ih = step e i (ih i (omega arith))
    by false e i h ih = inr (blanks-before (x ∷ xs) i h)

-- and it is not
good-bad : (xs : List ℕ) → good xs < length xs → GoodIn xs (good xs) → ⊥
unfolding good
good-bad [] h w = omega arith
good-bad (x ∷ xs) h w = by (letter x) refl h (good-bad xs) w
  where
    down : (k : ℕ) → GoodIn (x ∷ xs) (suc k) → GoodIn xs k
    down k (inl w) = inl (w.0, λ j l. w.1 (suc j) (omega arith))
    down k (inr q) = inr q

    stop : letter x ≡ false → (k : ℕ) → k ≡ blanks (x ∷ xs) → blanks (x ∷ xs) < suc (length xs) → GoodIn (x ∷ xs) k → ⊥
    stop e k q h (inr z) = blanks-stop (x ∷ xs) h (ap (λ (j : ℕ). get_or (x ∷ xs) j 0) (sym q) ∙ z)
    stop e zero q h (inl w) = Members.false-no e w.0
    stop e (suc k) q h (inl w) = w.1 0 (omega arith) (blanks-before (x ∷ xs) 0 (omega (arith, q)))

    by : (b : Bool) → letter x ≡ b → cond b (1 + good xs) (blanks (x ∷ xs)) < suc (length xs) → (good xs < length xs → GoodIn xs (good xs) → ⊥)
        → GoodIn (x ∷ xs) (cond b (1 + good xs) (blanks (x ∷ xs))) → ⊥
    by true e h ih w = ih (omega arith) (down (good xs) (subst (GoodIn (x ∷ xs)) (one_more (good xs)) w))
    by false e h ih w = stop e (blanks (x ∷ xs)) refl h w

-- The whole name -----------------------------------------------------------------------------------------------------------------------

abbrev First : List ℕ → ℕ → Type 0
First m i = (GoodAt m i → ⊥) × ((j : ℕ) → j < i → GoodAt m j)

first-bad : (m : List ℕ) → length m ≡ 11 → well_formed m ≡ false → First m (bad_place m)
unfolding bad_place
first-bad m l e =
    subst (First m) (sym (ap (λ (b : Bool). cond (b && letter (get_or m 0 0)) (cond (ltb (good (take 8 m)) 8) (good (take 8 m)) (8 + good (drop 8 m))) 0)
    (eq-eqb (length m) 11 l)))
    (by (letter (get_or m 0 0)) refl (ltb (good (take 8 m)) 8) refl
    (subst (λ (k : ℕ). k < 11) (ap (λ (b : Bool). cond (b && letter (get_or m 0 0)) (cond (ltb (good (take 8 m)) 8) (good (take 8 m)) (8 + good (drop 8 m)))
    0) (eq-eqb (length m) 11 l)) (place_inside m e)))
  where
    eight : length (take 8 m) ≡ 8
    eight = length-take-le 8 m (omega arith)

    three : length (drop 8 m) ≡ 3
    three = length-drop 8 m ∙ omega arith

    by : (b : Bool) → letter (get_or m 0 0) ≡ b → (c : Bool) → ltb (good (take 8 m)) 8 ≡ c
        → cond b (cond c (good (take 8 m)) (8 + good (drop 8 m))) 0 < 11 → First m (cond b (cond c (good (take 8 m)) (8 + good (drop 8 m))) 0)
    by false p c q z = (λ w. Members.false-no p (w.start refl), λ j h. absurd (let z : ⊥ = omega arith in z))
    by true p true q z =
        let k = ltb-true (good (take 8 m)) 8 q in (
          λ w. good-bad (take 8 m) (omega (arith, k, eight)) (w.name' k),
          λ j h. record { start = λ i. Members.true-T p; name' = λ i. good-before (take 8 m) j h; type' = λ i. absurd (let z : ⊥ = omega arith in z) },
        )
    by true p false q z =
        let k = ltb-false (good (take 8 m)) 8 q in let g = good (drop 8 m) in
        let back : 8 + g - 8 ≡ g = omega arith in (
          λ w. good-bad (drop 8 m) (omega (arith, z, three)) (subst (GoodIn (drop 8 m)) back (w.type' (omega arith))),
          λ j h. record {
            start = λ i. Members.true-T p;
            name' = λ i. good-before (take 8 m) j (omega arith);
            type' = λ i. good-before (drop 8 m) (j - 8)
                (omega arith);
          },
        )

pub bad-at : (m : List ℕ) → well_formed m ≡ false → BadAt m (bad_place m)
bad-at m e = record {
  inside = place_inside m e;
  bad = λ l. (first-bad m l e).0;
  before = λ l. (first-bad m l e).1;
  short = λ z. none z;
}
  where
    none : length m ≢ 11 → bad_place m ≡ 0
    none z = unfold bad_place in
        ap (λ (b : Bool). cond (b && letter (get_or m 0 0)) (cond (ltb (good (take 8 m)) 8) (good (take 8 m)) (8 + good (drop 8 m))) 0) (ne_eqb (length m) 11 z)

pub comes-in : (n : List ℕ) → ComesIn n
comes-in n = record {
  name' = refl;
  good = (place-well (fold n), well-place (fold n));
  bad = λ e. bad-at (fold n) e;
  once = fold-twice n;
  old = fold-well n;
}

-- The calls ----------------------------------------------------------------------------------------------------------------------------

module _ (g : Geometry) (d n : List ℕ) where
  look-fold : look_up g d n ≡ look_up g d (fold n)
  unfolding look_up
  look-fold = rw (fold-twice n)

  open-fold : (len : ℕ) (checking : Bool) (code : ℕ) → open' g d n len checking code ≡ open' g d (fold n) len checking code
  unfolding open'
  open-fold len checking code = rw (fold-twice n)

  create-fold : (f : NewFile) (checking : Bool) → create g d n f checking ≡ create g d (fold n) f checking
  unfolding create
  create-fold f checking = rw (fold-twice n)

  -- 3 carries the place
  says : (k : ℕ) → k ≡ 3 → Refusing.Checked g d → well_formed (fold n) ≡ false → BadAt (fold n) (name_refusal g d n k).at
  says k e c w =
      let z = Refusing.checked-none g d c in
      let own = ap (name_refusal g d n) e ∙ carried-second (check g d) (bad_at n) (λ q. omega (arith, q, z)) ∙ carried-own (bad_at n) refl in
      subst (BadAt (fold n)) (sym (ap {B = ℕ} (λ (r : Refusal). r.at) own)) (bad-at (fold n) w)

  look-place : SaysPlace n (look_up g d n).refusal
  look-place e = go (rows.0.0 (known e))
    where
      rows : Promises.Rows (number g d (Call.looks_up n)) (Refusing.Checked g d) (Refusing.own_cases (Promises.table g d (Call.looks_up n)))
      rows = Refusing.own-rows g d (Refusing.own_cases (Promises.table g d (Call.looks_up n))) (number g d (Call.looks_up n))
          (Refusing.numbers g d (Call.looks_up n))

      known : (look_up g d n).refusal.number ≡ 3 → number g d (Call.looks_up n) ≡ 3
      known e = unfold number in e

      go : Refusing.Checked g d × (well_formed (fold n) ≡ false) → BadAt (fold n) (look_up g d n).refusal.at
      go r = unfold look_up in says _ e r.0 r.1

  open-place : (len : ℕ) (checking : Bool) (code : ℕ) → SaysPlace n (open' g d n len checking code).refusal
  open-place len checking code e = let r = rows.1.0.0 (known e) in go r.0.0 r.1
    where
      rows : Promises.Rows (number g d (Call.opens n len checking code)) (Refusing.Checked g d)
          (Refusing.own_cases (Promises.table g d (Call.opens n len checking code)))
      rows = Refusing.own-rows g d (Refusing.own_cases (Promises.table g d (Call.opens n len checking code))) (number g d (Call.opens n len checking code))
          (Refusing.numbers g d (Call.opens n len checking code))

      known : (open' g d n len checking code).refusal.number ≡ 3 → number g d (Call.opens n len checking code) ≡ 3
      known e = unfold number in e

      go : Refusing.Checked g d → well_formed (fold n) ≡ false → BadAt (fold n) (open' g d n len checking code).refusal.at
      go c w = unfold open' in says _ e c w

  create-place : (f : NewFile) (checking : Bool) → SaysPlace n (create g d n f checking).0.refusal
  create-place f checking e = let r = rows.1.0.0 (known e) in go r.0.0 r.1
    where
      rows : Promises.Rows (number g d (Call.creates n f checking)) (Refusing.Checked g d)
          (Refusing.own_cases (Promises.table g d (Call.creates n f checking)))
      rows = Refusing.own-rows g d (Refusing.own_cases (Promises.table g d (Call.creates n f checking))) (number g d (Call.creates n f checking))
          (Refusing.numbers g d (Call.creates n f checking))

      known : (create g d n f checking).0.refusal.number ≡ 3 → number g d (Call.creates n f checking) ≡ 3
      known e = unfold number in e

      go : Refusing.Checked g d → well_formed (fold n) ≡ false → BadAt (fold n) (create g d n f checking).0.refusal.at
      go c w = unfold create in says _ e c w

  pub by-name : ByName g d n
  by-name = record {
    look = look-fold;
    open'' = open-fold;
    create' = create-fold;
    look-place = look-place;
    open-place = open-place;
    create-place = create-place;
  }
