-- Laws of the position where two contents part.
use Rattle.std.specs.Prelude.{◌≡◌, refl, Bool, true, false, List, [], ◌∷◌, ◌++◌, ℕ, suc, ◌+◌, eqb, length}
use Rattle.std.proofs.Common.{sym, ap, ◌∙◌, arith, zero-add, eqb-true, eq-eqb, ne_eqb}
use Rattle.std.proofs.Math.Bool.{and-false}
use Rattle.std.proofs.Math.Dec.{eqb-suc-suc, eqb-zero-suc}
use Rattle.std.proofs.lemmas.Bool.{eqb-false}
use Rattle.meaning.specs.Lists.{same, all}
use Rattle.differences.specs.Compare.{parting}

pub parting-none : (xs : List ℕ) → parting xs [] ≡ 0
unfolding parting
parting-none [] = refl
parting-none (x ∷ xs) = refl

pub parting-nothing : (ys : List ℕ) → parting [] ys ≡ 0
unfolding parting
parting-nothing ys = refl

pub parting-on : (x y : ℕ) (xs ys : List ℕ) → x ≡ y → parting (x ∷ xs) (y ∷ ys) ≡ suc (parting xs ys)
unfolding parting
parting-on x y xs ys e = rw (eq-eqb x y e)

pub parting-here : (x y : ℕ) (xs ys : List ℕ) → (x ≡ y → ⊥) → parting (x ∷ xs) (y ∷ ys) ≡ 0
unfolding parting
parting-here x y xs ys e = rw (ne_eqb x y e)

-- two bytes are alike, or not
data Alike (x y : ℕ) : Type 0 where
  yes' : x ≡ y → Alike x y
  no' : (x ≡ y → ⊥) → Alike x y

look : (x y : ℕ) → Alike x y
look x y = by (eqb x y) refl
  where
    by : (t : Bool) → eqb x y ≡ t → Alike x y
    by true e = yes' (eqb-true x y e)
    by false e = no' (eqb-false x y e)

-- The two sides may be changed: the position is the same.
pub parting-swap : (xs ys : List ℕ) → parting xs ys ≡ parting ys xs
parting-swap [] ys = parting-nothing ys ∙ sym (parting-none ys)
parting-swap (x ∷ xs) [] = parting-none (x ∷ xs) ∙ sym (parting-nothing (x ∷ xs))
parting-swap (x ∷ xs) (y ∷ ys) = by (parting-swap xs ys) (look x y)
  where
    by : parting xs ys ≡ parting ys xs → Alike x y → parting (x ∷ xs) (y ∷ ys) ≡ parting (y ∷ ys) (x ∷ xs)
    by ih (yes' e) = parting-on x y xs ys e ∙ ap suc ih ∙ sym (parting-on y x ys xs (sym e))
    by ih (no' e) = parting-here x y xs ys e ∙ sym (parting-here y x ys xs (λ q. e (sym q)))

-- Two contents are equal exactly if they have one size and part at it.
pub same-parting : (xs ys : List ℕ) → same xs ys ≡ all (eqb (length xs) (length ys) ∷ eqb (parting xs ys) (length xs) ∷ [])
unfolding all parting
same-parting [] [] = refl
same-parting [] (y ∷ ys) = sym (rw (ne_eqb 0 (suc (length ys)) (λ q. omega arith)))
same-parting (x ∷ xs) [] = sym (rw (ne_eqb (suc (length xs)) 0 (λ q. omega arith)))
same-parting (x ∷ xs) (y ∷ ys) = by (same-parting xs ys) (look x y)
  where
    by : same xs ys ≡ all (eqb (length xs) (length ys) ∷ eqb (parting xs ys) (length xs) ∷ []) → Alike x y
        → same (x ∷ xs) (y ∷ ys) ≡ all (eqb (suc (length xs)) (suc (length ys)) ∷ eqb (parting (x ∷ xs) (y ∷ ys)) (suc (length xs)) ∷ [])
    by ih (yes' e) = simp (eq-eqb x y e, eqb-suc-suc) ih
    by ih (no' e) = simp (ne_eqb x y e, eqb-zero-suc, and-false)

-- parts of one length that are alike are passed; where they are not, that is where the contents part
module _ (a b xs ys : List ℕ) where
  pub parting-past : length a ≡ length b → parting a b ≡ length a → parting (a ++ xs) (b ++ ys) ≡ length a + parting xs ys
  parting-past = go a b
    where
      go : (a b : List ℕ) → length a ≡ length b → parting a b ≡ length a → parting (a ++ xs) (b ++ ys) ≡ length a + parting xs ys
      go [] [] l h = sym (zero-add (parting xs ys))
      go [] (y ∷ b) l h = absurd (let q : ⊥ = omega arith in q)
      go (x ∷ a) [] l h = absurd (let q : ⊥ = omega arith in q)
      go (x ∷ a) (y ∷ b) l h = by (λ p q. go a b p q) (look x y)
        where
          by : (length a ≡ length b → parting a b ≡ length a → parting (a ++ xs) (b ++ ys) ≡ length a + parting xs ys) → Alike x y → parting (x ∷ (a ++ xs))
              (y ∷ (b ++ ys)) ≡ suc (length a) + parting xs ys
          by ih (yes' e) =
              let k : parting a b ≡ length a = let z : suc (parting a b) ≡ suc (length a) = sym (parting-on x y a b e) ∙ h in omega arith in
              let z : suc (length a + parting xs ys) ≡ suc (length a) + parting xs ys = omega arith in
              parting-on x y (a ++ xs) (b ++ ys) e ∙ ap suc (ih (omega arith) k) ∙ z
          by ih (no' e) = absurd (let z : 0 ≡ suc (length a) = sym (parting-here x y a b e) ∙ h in let q : ⊥ = omega arith in q)

  pub parting-in : length a ≡ length b → (parting a b ≡ length a → ⊥) → parting (a ++ xs) (b ++ ys) ≡ parting a b
  parting-in = go a b
    where
      go : (a b : List ℕ) → length a ≡ length b → (parting a b ≡ length a → ⊥) → parting (a ++ xs) (b ++ ys) ≡ parting a b
      go [] b l h = absurd (h (parting-nothing b))
      go (x ∷ a) [] l h = absurd (let q : ⊥ = omega arith in q)
      go (x ∷ a) (y ∷ b) l h = by (λ p q. go a b p q) (look x y)
        where
          by : (length a ≡ length b → (parting a b ≡ length a → ⊥) → parting (a ++ xs) (b ++ ys) ≡ parting a b) → Alike x y → parting (x ∷ (a ++ xs))
              (y ∷ (b ++ ys)) ≡ parting (x ∷ a) (y ∷ b)
          by ih (yes' e) =
              parting-on x y (a ++ xs) (b ++ ys) e ∙ ap suc (ih (omega arith) (λ q. h (parting-on x y a b e ∙ ap suc q))) ∙ sym (parting-on x y a b e)
          by ih (no' e) = parting-here x y (a ++ xs) (b ++ ys) e ∙ sym (parting-here x y a b e)
