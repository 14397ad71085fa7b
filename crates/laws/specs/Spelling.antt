-- A name that comes in: its fold, and the place of its first bad byte, which is 11 exactly where the name is well formed.
use Rattle.std.specs.Prelude.{◌≡◌, refl, ◌≢◌, List, [], ◌∷◌, ◌++◌, map, Bool, true, false, cond, ◌&&◌, ℕ, suc, ◌+◌, ◌-◌, ◌≤◌, ◌<◌, length, get_or}
use Rattle.std.specs.Prelude.{take, drop, T, eqb, leb, ltb}
use Rattle.std.proofs.Common.{sym, ap, ◌∙◌, ⊎_elim, arith, length-drop, take-append-drop, length-take-le, leb→le, eqb-true, ltb-true, ltb-false, le-ltb}
use Rattle.std.proofs.lemmas.List.{map-append, length-map}
use Rattle.std.proofs.lemmas.Bool.{lt-leb}
use Rattle.meaning.specs.Lists.{every, all}
use Rattle.meaning.specs.Names.{letter, padded, well_formed, fold_byte, fold, blanks, good, bad_place, no_place}
use Rattle.lists.specs.Members

-- The fold ----------------------------------------------------------------------------------------------------------------

-- what is under 61H stays as it is
low-stays : (x : ℕ) → x < 0x61 → fold_byte x ≡ x
low-stays x h = ap (λ (b : Bool). cond (b && leb x 0x7d) (x - 0x20) x) (lt-leb 0x61 x h)

byte-twice : (x : ℕ) → fold_byte (fold_byte x) ≡ fold_byte x
byte-twice x = by (leb 0x61 x && leb x 0x7d) refl
  where
    by : (b : Bool) → (leb 0x61 x && leb x 0x7d) ≡ b → fold_byte (fold_byte x) ≡ fold_byte x
    by true e =
        let most = leb→le x 0x7d (Members.and_r (leb 0x61 x) (leb x 0x7d) (Members.true-T e)) in
        let folds : fold_byte x ≡ x - 0x20 = ap (λ (b : Bool). cond b (x - 0x20) x) e in
        ap fold_byte folds ∙ low-stays (x - 0x20) (omega arith) ∙ sym folds
    by false e = let stays : fold_byte x ≡ x = ap (λ (b : Bool). cond b (x - 0x20) x) e in ap fold_byte stays

-- folding twice is folding once
pub fold-twice : (n : List ℕ) → fold (fold n) ≡ fold n
unfolding fold
fold-twice [] = refl
fold-twice (x ∷ xs) = let e = byte-twice x in let h = fold-twice xs in λ i. e i ∷ h i

pub fold-length : (n : List ℕ) → length (fold n) ≡ length n
unfolding fold
fold-length n = length-map n fold_byte

-- an allowed byte is not one of those that fold
letter-stays : (x : ℕ) → letter x ≡ true → fold_byte x ≡ x
letter-stays x e = low-stays x (⊎_elim digits capitals (Members.or-e (leb 0x30 x && leb x 0x39) (leb 0x41 x && leb x 0x5d) (Members.true-T e)))
  where
    digits : T (leb 0x30 x && leb x 0x39) → x < 0x61
    digits t = let h = leb→le x 0x39 (Members.and_r (leb 0x30 x) (leb x 0x39) t) in omega arith

    capitals : T (leb 0x41 x && leb x 0x5d) → x < 0x61
    capitals t = let h = leb→le x 0x5d (Members.and_r (leb 0x41 x) (leb x 0x5d) t) in omega arith

blank-stays : (xs : List ℕ) → every (eqb 0x20) xs ≡ true → map fold_byte xs ≡ xs
blank-stays [] e = refl
blank-stays (x ∷ xs) e = by (eqb 0x20 x) refl e (blank-stays xs)
  where
    by : (b : Bool) → eqb 0x20 x ≡ b → (b && every (eqb 0x20) xs) ≡ true → (every (eqb 0x20) xs ≡ true → map fold_byte xs ≡ xs)
        → fold_byte x ∷ map fold_byte xs ≡ x ∷ xs
    by true q r ih = let z = eqb-true 0x20 x q in let s = low-stays x (omega arith) in let h = ih r in λ i. s i ∷ h i
    by false q r ih = absurd (Members.true-T r)

padded-stays : (xs : List ℕ) → padded xs ≡ true → map fold_byte xs ≡ xs
padded-stays [] e = refl
padded-stays (x ∷ xs) e = by (letter x) refl e (padded-stays xs)
  where
    by : (b : Bool) → letter x ≡ b → cond b (padded xs) (every (eqb 0x20) (x ∷ xs)) ≡ true → (padded xs ≡ true → map fold_byte xs ≡ xs)
        → fold_byte x ∷ map fold_byte xs ≡ x ∷ xs
    by true q r ih = let s = letter-stays x q in let h = ih r in λ i. s i ∷ h i
    by false q r ih = blank-stays (x ∷ xs) r

-- The place in one part, the name or the type -------------------------------------------------------------------------------

blanks-le : (xs : List ℕ) → blanks xs ≤ length xs
unfolding blanks
blanks-le [] = omega arith
blanks-le (x ∷ xs) = by (eqb 0x20 x) (blanks-le xs)
  where
    by : (b : Bool) → blanks xs ≤ length xs → cond b (1 + blanks xs) 0 ≤ suc (length xs)
    by true h = omega arith
    by false h = omega arith

blanks-all : (xs : List ℕ) → every (eqb 0x20) xs ≡ true → blanks xs ≡ length xs
unfolding blanks
blanks-all [] e = refl
blanks-all (x ∷ xs) e = by (eqb 0x20 x) e (blanks-all xs)
  where
    by : (b : Bool) → (b && every (eqb 0x20) xs) ≡ true → (every (eqb 0x20) xs ≡ true → blanks xs ≡ length xs) → cond b (1 + blanks xs) 0 ≡ suc (length xs)
    by true q ih = let h = ih q in omega arith
    by false q ih = absurd (Members.true-T q)

all-blanks : (xs : List ℕ) → blanks xs ≡ length xs → every (eqb 0x20) xs ≡ true
unfolding blanks
all-blanks [] e = refl
all-blanks (x ∷ xs) e = by (eqb 0x20 x) e (all-blanks xs)
  where
    by : (b : Bool) → cond b (1 + blanks xs) 0 ≡ suc (length xs) → (blanks xs ≡ length xs → every (eqb 0x20) xs ≡ true) → (b && every (eqb 0x20) xs) ≡ true
    by true q ih = ih (omega arith)
    by false q ih = absurd (let z : ⊥ = omega arith in z)

good-le : (xs : List ℕ) → good xs ≤ length xs
unfolding good
good-le [] = omega arith
good-le (x ∷ xs) = by (letter x) (good-le xs) (blanks-le (x ∷ xs))
  where
    by : (b : Bool) → good xs ≤ length xs → blanks (x ∷ xs) ≤ suc (length xs) → cond b (1 + good xs) (blanks (x ∷ xs)) ≤ suc (length xs)
    by true h k = omega arith
    by false h k = k

padded-good : (xs : List ℕ) → padded xs ≡ true → good xs ≡ length xs
unfolding good
padded-good [] e = refl
padded-good (x ∷ xs) e = by (letter x) e (padded-good xs)
  where
    by : (b : Bool) → cond b (padded xs) (every (eqb 0x20) (x ∷ xs)) ≡ true → (padded xs ≡ true → good xs ≡ length xs)
        → cond b (1 + good xs) (blanks (x ∷ xs)) ≡ suc (length xs)
    by true q ih = let h = ih q in omega arith
    by false q ih = blanks-all (x ∷ xs) q

good-padded : (xs : List ℕ) → good xs ≡ length xs → padded xs ≡ true
unfolding good
good-padded [] e = refl
good-padded (x ∷ xs) e = by (letter x) e (good-padded xs)
  where
    by : (b : Bool) → cond b (1 + good xs) (blanks (x ∷ xs)) ≡ suc (length xs) → (good xs ≡ length xs → padded xs ≡ true)
        → cond b (padded xs) (every (eqb 0x20) (x ∷ xs)) ≡ true
    by true q ih = ih (omega arith)
    by false q ih = all-blanks (x ∷ xs) q

-- The whole name --------------------------------------------------------------------------------------------------------------

-- what a well-formed name is
record Well (n : List ℕ) : Type 0 where
  eleven : length n ≡ 11
  starts : letter (get_or n 0 0) ≡ true
  name' : padded (take 8 n) ≡ true
  type' : padded (drop 8 n) ≡ true

well : (n : List ℕ) → well_formed n ≡ true → Well n
unfolding well_formed all
well n e =
    let t = Members.true-T e in
    let a = eqb (length n) 11 in let b = letter (get_or n 0 0) in let c = padded (take 8 n) in let d = padded (drop 8 n) in
    let u = Members.and_r a (b && (c && (d && true))) t in let v = Members.and_r b (c && (d && true)) u in
    record {
      eleven = eqb-true (length n) 11 (Members.T_true {b = a} (Members.and_l a (b && (c && (d && true))) t));
      starts = Members.T_true {b = b} (Members.and_l b (c && (d && true)) u);
      name' = Members.T_true {b = c} (Members.and_l c (d && true) v);
      type' = Members.T_true {b = d} (Members.and_l d true (Members.and_r c (d && true) v));
    }

-- a well-formed name folds to itself
pub fold-well : (n : List ℕ) → well_formed n ≡ true → fold n ≡ n
unfolding fold
fold-well n e =
    let w = well n e in
    let p = padded-stays (take 8 n) w.name' in let q = padded-stays (drop 8 n) w.type' in
    ap (map fold_byte) (sym (take-append-drop 8 n)) ∙ map-append fold_byte (take 8 n) (drop 8 n) ∙ (λ i. p i ++ q i) ∙ take-append-drop 8 n

module _ (n : List ℕ) (l : length n ≡ 11) where
  first-eight : length (take 8 n) ≡ 8
  first-eight = length-take-le 8 n (omega arith)

  last-three : length (drop 8 n) ≡ 3
  last-three = length-drop 8 n ∙ omega arith

pub well-place : (n : List ℕ) → well_formed n ≡ true → bad_place n ≡ no_place
unfolding bad_place
well-place n e =
    let w = well n e in
    let p = padded-good (take 8 n) w.name' ∙ first-eight n w.eleven in
    let q = padded-good (drop 8 n) w.type' ∙ last-three n w.eleven in
    rw (w.eleven, w.starts, le-ltb (good (take 8 n)) 8 (omega (arith, p))) (omega (arith, q))

pub place-well : (n : List ℕ) → bad_place n ≡ no_place → well_formed n ≡ true
unfolding well_formed all bad_place
place-well n e = by (eqb (length n) 11) refl (letter (get_or n 0 0)) refl (ltb (good (take 8 n)) 8) refl e
  where
    by : (a : Bool) → eqb (length n) 11 ≡ a → (b : Bool) → letter (get_or n 0 0) ≡ b → (c : Bool) → ltb (good (take 8 n)) 8 ≡ c
        → cond (a && b) (cond c (good (take 8 n)) (8 + good (drop 8 n))) 0 ≡ 11 → well_formed n ≡ true
    by false p b q c r z = absurd (let w : ⊥ = omega arith in w)
    by true p false q c r z = absurd (let w : ⊥ = omega arith in w)
    by true p true q true r z = absurd (let w = ltb-true (good (take 8 n)) 8 r in let v : ⊥ = omega arith in v)
    by true p true q false r z =
        let l = eqb-true (length n) 11 p in
        let w = ltb-false (good (take 8 n)) 8 r in
        let v = good-le (take 8 n) in
        let a : good (take 8 n) ≡ length (take 8 n) = omega (arith, first-eight n l) in
        let b : good (drop 8 n) ≡ length (drop 8 n) = omega (arith, last-three n l) in
        rw (p, q, good-padded (take 8 n) a, good-padded (drop 8 n) b) refl

-- the place of a name that is not well formed is one of its eleven
pub place_inside : (n : List ℕ) → well_formed n ≡ false → bad_place n < no_place
unfolding bad_place
place_inside n e = by (eqb (length n) 11) refl (letter (get_or n 0 0)) (ltb (good (take 8 n)) 8) refl
    (λ z. Members.false-no e (Members.true-T (place-well n z)))
  where
    by : (a : Bool) → eqb (length n) 11 ≡ a → (b c : Bool) → ltb (good (take 8 n)) 8 ≡ c
        → (cond (a && b) (cond c (good (take 8 n)) (8 + good (drop 8 n))) 0 ≢ 11)
        → cond (a && b) (cond c (good (take 8 n)) (8 + good (drop 8 n))) 0 < 11
    by false p b c r z = omega arith
    by true p false c r z = omega arith
    by true p true true r z = let h = ltb-true (good (take 8 n)) 8 r in omega arith
    by true p true false r z = let h = good-le (drop 8 n) in let l = last-three n (eqb-true (length n) 11 p) in omega (arith, h, l, z)
