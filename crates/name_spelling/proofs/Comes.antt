-- What is handed back of a name that comes in, and the counts that find its first bad byte.
use mathlib.Core.Path.{◌≡◌, refl, sym, ap, ◌∙◌}
use mathlib.Core.List.{List, [], ◌∷◌}
use mathlib.Core.Bool.{Bool, true, false, cond, ◌&&◌}
use Prim.Native.Nat.{ℕ, suc, ◌+◌, ◌≤◌, ◌<◌}
use native.Mathlib.Omega.{arith}
use native.Mathlib.Nat.{zero-add}
use native.Mathlib.Decide.{ℕ_discrete}
use lib.ListN.{length, get_or, take, drop, replicate}
use lib.Dec.{eqb, ltb}
use borrow.Author.Tests.{eq-eqb, ne_eqb, lt-ltb, le-ltb}
use Rattle.std.specs.List.{prefix_len, list_all}
use Rattle.meaning.specs.Lists.{every}
use Rattle.meaning.specs.Names.{letter, well_formed, fold, blanks, good, bad_place, no_place}
use Rattle.meaning.specs.Refusal.{place_of}
use Rattle.meaning.specs.declared.Incoming.{Incoming}
use Rattle.meaning.specs.declared.Refusal.{Refusal}
use Rattle.laws.specs.Spelling.{fold-well, fold-length, well-place, place-well}
use Rattle.name_spelling.specs.Hands.{Hands}

-- What is handed back ---------------------------------------------------------------------------------------------------------

module _ {n : List ℕ} {r : Incoming} (h : Hands n r) where
  pub hands-good : r.place ≡ no_place → well_formed (fold n) ≡ true
  hands-good e = place-well (fold n) (sym h.place ∙ e)

  pub hands-name : r.place ≡ no_place → r.name ≡ fold n
  hands-name e = h.name (sym h.place ∙ e)

  pub hands-bad : (r.place ≡ no_place → ⊥) → well_formed (fold n) ≡ false
  hands-bad f = by (well_formed (fold n)) refl
    where
      by : (b : Bool) → well_formed (fold n) ≡ b → well_formed (fold n) ≡ false
      by true e = absurd (f (h.place ∙ well-place (fold n) e))
      by false e = e

-- The counts ------------------------------------------------------------------------------------------------------------------

same_blank : (x : ℕ) → eqb x 0x20 ≡ eqb 0x20 x
same_blank x = by (ℕ_discrete x 0x20)
  where
    by : Dec (x ≡ 0x20) → eqb x 0x20 ≡ eqb 0x20 x
    by (yes e) = rw e refl
    by (no f) = ne_eqb _ _ f ∙ sym (ne_eqb 0x20 x (λ q. f (sym q)))

pub all-blank : (xs : List ℕ) → list_all (λ x. eqb x 0x20) xs ≡ every (eqb 0x20) xs
all-blank [] = refl
all-blank (x ∷ xs) = λ i. same_blank x i && all-blank xs i

pub count-blanks : (xs : List ℕ) → prefix_len (λ x. eqb x 0x20) xs ≡ blanks xs
unfolding blanks
count-blanks [] = refl
count-blanks (x ∷ xs) = λ i. cond (same_blank x i) (1 + count-blanks xs i) 0

-- letters, and blanks after them
pub count-good : (xs : List ℕ) → prefix_len letter xs + blanks (drop (prefix_len letter xs) xs) ≡ good xs
unfolding good blanks
count-good [] = refl
count-good (x ∷ xs) = by (letter x) (count-good xs)
  where
    by : (b : Bool) → prefix_len letter xs + blanks (drop (prefix_len letter xs) xs) ≡ good xs
        → cond b (1 + prefix_len letter xs) 0 + blanks (drop (cond b (1 + prefix_len letter xs) 0) (x ∷ xs)) ≡ cond b (1 + good xs) (blanks (x ∷ xs))
    by true e =
        let s : 1 + prefix_len letter xs ≡ suc (prefix_len letter xs) = omega arith in
        ap (λ (k : ℕ). k + blanks (drop k (x ∷ xs))) s ∙ omega (arith, e)
    by false e = zero-add _

-- The place, test by test -----------------------------------------------------------------------------------------------------

module _ (n : List ℕ) where
  pub place_short : eqb (length n) 11 ≡ false → 0 ≡ bad_place n
  unfolding bad_place
  place_short e = sym (ap (λ (b : Bool). cond (b && letter (get_or n 0 0)) (cond (ltb (good (take 8 n)) 8) (good (take 8 n)) (8 + good (drop 8 n))) 0) e)

  pub place-first : letter (get_or n 0 0) ≡ false → 0 ≡ bad_place n
  unfolding bad_place
  place-first e = by (eqb (length n) 11)
    where
      by : (a : Bool) → 0 ≡ cond (a && letter (get_or n 0 0)) (cond (ltb (good (take 8 n)) 8) (good (take 8 n)) (8 + good (drop 8 n))) 0
      by false = refl
      by true = sym (ap (λ (b : Bool). cond b (cond (ltb (good (take 8 n)) 8) (good (take 8 n)) (8 + good (drop 8 n))) 0) e)

  started : length n ≡ 11 → letter (get_or n 0 0) ≡ true → bad_place n ≡ cond (ltb (good (take 8 n)) 8) (good (take 8 n)) (8 + good (drop 8 n))
  unfolding bad_place
  started l e = rw (eq-eqb (length n) 11 l, e) refl

  -- the name is bad
  pub place-name : {k : ℕ} → length n ≡ 11 → letter (get_or n 0 0) ≡ true → k ≡ good (take 8 n) → k < 8 → k ≡ bad_place n
  place-name {k} l e q h =
      q ∙ sym (started l e ∙ ap (λ (b : Bool). cond b (good (take 8 n)) (8 + good (drop 8 n))) (lt-ltb (good (take 8 n)) 8 (omega arith)))

  -- the type is, or nothing
  pub place-type : {k j : ℕ} → length n ≡ 11 → letter (get_or n 0 0) ≡ true → k ≡ good (take 8 n) → 8 ≤ k → j ≡ 8 + good (drop 8 n) → j ≡ bad_place n
  place-type {k} {j} l e q h w =
      w ∙ sym (started l e ∙ ap (λ (b : Bool). cond b (good (take 8 n)) (8 + good (drop 8 n))) (le-ltb (good (take 8 n)) 8 (omega arith)))

-- a well-formed name is its own fold
pub hands-well : (n : List ℕ) {m : List ℕ} → well_formed n ≡ true → m ≡ n → Hands n (record { place = no_place; name = m })
hands-well n w q =
    let f = fold-well n w in let e = ap bad_place f ∙ well-place n w in
    record { place = sym e; name = λ z. q ∙ sym f; none = λ z. absurd (z e) }

-- one that has not eleven bytes is bad at 0
pub hands-short : (n : List ℕ) {m : List ℕ} → (length n ≡ 11 → ⊥) → m ≡ replicate 11 0 → Hands n (record { place = 0; name = m })
hands-short n f q =
    let e = place_short (fold n) (ne_eqb (length (fold n)) 11 (λ z. f (sym (fold-length n) ∙ z))) in
    record { place = e; name = λ z. absurd (let w : ⊥ = omega (arith, e, z) in w); none = λ z. q }

module _ (n : List ℕ) {x : List ℕ} {k : ℕ} (f : x ≡ fold n) (e : k ≡ bad_place x) where
  its-place : k ≡ bad_place (fold n)
  its-place = e ∙ ap bad_place f

  -- one that is bad after the fold
  pub hands-place : {m : List ℕ} → (k ≡ no_place → ⊥) → m ≡ replicate 11 0 → Hands n (record { place = k; name = m })
  hands-place z q = record { place = its-place; name = λ w. absurd (z (its-place ∙ w)); none = λ w. q }

  -- and one that is not
  pub hands-folded : k ≡ no_place → Hands n (record { place = k; name = x })
  hands-folded z = record { place = its-place; name = λ w. f; none = λ w. absurd (w (sym its-place ∙ z)) }

-- The place that a refusal tells of ----------------------------------------------------------------------------------------------

module _ (c : Refusal) where
  pub tells-place : c.number ≡ 3 → c.at ≡ place_of c
  unfolding place_of
  tells-place e = rw e

  pub tells-no-place : (c.number ≡ 3 → ⊥) → no_place ≡ place_of c
  unfolding place_of
  tells-no-place z = rw (ne_eqb c.number 3 z)
