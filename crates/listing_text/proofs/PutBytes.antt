-- Bytes put one after the other, and what the listing's words are made of.
use mathlib.Core.Path.{◌≡◌, refl, sym, ap, ◌∙◌}
use mathlib.Core.Bool.{Bool, true, false, not, cond, ◌&&◌}
use mathlib.Core.List.{List, [], ◌∷◌, ◌++◌}
use Prim.Native.Nat.{ℕ, suc, ◌+◌, ◌-◌, ◌/◌, ◌%◌, ◌≤◌, ◌<◌}
use native.Mathlib.Numerals.{add-one}
use native.Mathlib.Omega.{arith}
use lib.Dec.{eqb}
use lib.ListN.{length, take, drop, get_or, length-append, length-drop}
use lib.Seq.{take-suc, take_all, sets}
use borrow.Author.Tests.{lt-ltb, le-ltb, eq-eqb, ne_eqb}
use Rattle.copy.proofs.OneByOne.{sets-append}
use Rattle.std.specs.List.{list_all}
use Rattle.meaning.specs.Listing.{digits, stripped, slashed}
use Rattle.listing_text.specs.Put.{Put, none}

-- nothing put
pub put-none : (most : ℕ) (to : List ℕ) (at : ℕ) {bytes : List ℕ} → bytes ≡ [] → Put most to at bytes to at
put-none most to at e =
    record {
      is = ap (λ (bs : List ℕ). sets to at bs) (sym e);
      past = let l = ap length e in omega arith;
      fits = let l = ap length e in omega arith;
    }

-- the bytes by another name, and a larger bound
pub put_as : {k most : ℕ} {to to' : List ℕ} {at end : ℕ} {xs ys : List ℕ} → Put k to at xs to' end → xs ≡ ys → k ≤ most
    → Put most to at ys to' end
put_as {to = to} {at = at} p e h =
    let l = ap length e in
    record {
      is = p.is ∙ ap (λ (bs : List ℕ). sets to at bs) e;
      past = let q = p.past in omega arith;
      fits = let q = p.fits in omega arith;
    }

-- one after the other
pub put_then : {j k most : ℕ} {to₀ to₁ to₂ : List ℕ} {a b c : ℕ} {xs ys : List ℕ}
    → Put j to₀ a xs to₁ b → Put k to₁ b ys to₂ c → j + k ≤ most → Put most to₀ a (xs ++ ys) to₂ c
put_then {to₀ = to₀} {a = a} {b = b} {xs = xs} {ys = ys} p q h =
    let l = length-append xs ys in
    let e = p.past in
    let f = q.past in
    let m = p.fits in
    let n = q.fits in
    record {
      is = q.is
          ∙ ap (λ (l : List ℕ). sets l b ys) p.is
          ∙ ap (λ (i : ℕ). sets (sets to₀ a xs) i ys) e
          ∙ sym (sets-append to₀ a xs ys);
      past = omega arith;
      fits = omega arith;
    }

-- the same, the whole by another name
pub put_both : {j k most : ℕ} {to₀ to₁ to₂ : List ℕ} {a b c : ℕ} {xs ys zs : List ℕ}
    → Put j to₀ a xs to₁ b → Put k to₁ b ys to₂ c → xs ++ ys ≡ zs → j + k ≤ most → Put most to₀ a zs to₂ c
put_both {most = most} p q e h = put_as {k = most} (put_then p q h) e (omega arith)

-- Digits ------------------------------------------------------------------------------------------------------------------

pub digits-none : (most n : ℕ) → most ≡ 0 → digits most n ≡ []
unfolding digits
digits-none most n e = ap (λ (m : ℕ). digits m n) e

digits_low : (most n : ℕ) → n < 10 → digits (suc most) n ≡ (0x30 + n) ∷ []
unfolding digits
digits_low most n h = simp (lt-ltb _ _ h)

digits-high : (most n : ℕ) → 10 ≤ n → digits (suc most) n ≡ digits most (n / 10) ++ ((0x30 + n % 10) ∷ [])
unfolding digits
digits-high most n h = simp (le-ltb _ _ h)

pub digits-one : (most n b : ℕ) → (most ≡ 0 → ⊥) → n < 10 → b ≡ 0x30 + n → b ∷ [] ≡ digits most n
digits-one most n b z h e =
    let m : suc (most - 1) ≡ most = omega arith in
    ap (λ (x : ℕ). x ∷ []) e ∙ sym (digits_low (most - 1) n h) ∙ ap (λ (k : ℕ). digits k n) m

pub digits_more : (most n b : ℕ) → (most ≡ 0 → ⊥) → 10 ≤ n → b ≡ 0x30 + n % 10
    → digits (most - 1) (n / 10) ++ (b ∷ []) ≡ digits most n
digits_more most n b z h e =
    let m : suc (most - 1) ≡ most = omega arith in
    ap (λ (x : ℕ). digits (most - 1) (n / 10) ++ (x ∷ [])) e ∙ sym (digits-high (most - 1) n h) ∙ ap (λ (k : ℕ). digits k n) m

-- Names -------------------------------------------------------------------------------------------------------------------

pick-append : (b : Bool) (x : ℕ) (l m : List ℕ) → cond b (x ∷ (l ++ m)) (l ++ m) ≡ cond b (x ∷ l) l ++ m
pick-append true x l m = refl
pick-append false x l m = refl

stripped-append : (xs ys : List ℕ) → stripped (xs ++ ys) ≡ stripped xs ++ stripped ys
stripped-append [] ys = refl
stripped-append (x ∷ xs) ys =
    ap (λ (r : List ℕ). cond (not (eqb x 0x20)) (x ∷ r) r) (stripped-append xs ys)
    ∙ pick-append (not (eqb x 0x20)) x (stripped xs) (stripped ys)

pub stripped-more : (part : List ℕ) (i : ℕ) → i < length part
    → stripped (take i part) ++ stripped (get_or part i 0 ∷ []) ≡ stripped (take (i + 1) part)
stripped-more part i h =
    sym (stripped-append (take i part) (get_or part i 0 ∷ []))
    ∙ ap stripped (sym (take-suc part i 0 h) ∙ ap (λ (k : ℕ). take k part) (sym (add-one i)))

pub stripped-all : (part : List ℕ) (i : ℕ) → length part ≤ i → stripped (take i part) ≡ stripped part
stripped-all part i h = ap stripped (take_all i part h)

pub stripped-blank : (x : ℕ) (xs : List ℕ) → x ≡ 0x20 → stripped (x ∷ xs) ≡ stripped xs
stripped-blank x xs e = simp (eq-eqb _ _ e)

pub stripped-kept : (x : ℕ) (xs : List ℕ) → (x ≡ 0x20 → ⊥) → stripped (x ∷ xs) ≡ x ∷ stripped xs
stripped-kept x xs e = simp (ne_eqb _ _ e)

-- all blank: nothing is left
pub all-none : (xs : List ℕ) → list_all (λ x. eqb x 0x20) xs ≡ none (stripped xs)
unfolding none
all-none [] = refl
all-none (x ∷ xs) = by (eqb x 0x20) (all-none xs)
  where
    by : (b : Bool) → list_all (λ y. eqb y 0x20) xs ≡ none (stripped xs) → (b && list_all (λ y. eqb y 0x20) xs) ≡ none
        (cond (not b) (x ∷ stripped xs) (stripped xs))
    by true e = e
    by false e = refl

-- the type, lent as the rest of a name
pub type-part : (name : List ℕ) → take (length name - 8) (drop 8 name) ≡ drop 8 name
type-part name = take_all (length name - 8) (drop 8 name) (omega (arith, length-drop 8 name))

pub type-length : (name : List ℕ) → length name ≡ 11 → length (take (length name - 8) (drop 8 name)) ≡ 3
type-length name h =
    let e : length name - 8 ≡ 3 = omega arith in
    ap length (type-part name) ∙ length-drop 8 name ∙ e

pub slashed-none : (xs : List ℕ) → none xs ≡ true → slashed xs ≡ []
unfolding none slashed
slashed-none [] e = refl
slashed-none (x ∷ xs) e = cc

pub slashed-some : (xs : List ℕ) → none xs ≡ false → (0x2f ∷ []) ++ xs ≡ slashed xs
unfolding none slashed
slashed-some [] e = cc
slashed-some (x ∷ xs) e = refl
