-- Maps of marks as statements about lists: places are open if each stands high enough and none stands twice.
use mathlib.Core.Path.{◌≡◌, refl, ap, ◌∙◌}
use mathlib.Core.Logic.{◌⊎◌, inl, inr}
use mathlib.Core.List.{List, [], ◌∷◌}
use mathlib.Core.Bool.{Bool, true, ◌&&◌}
use Prim.Native.Nat.{ℕ, zero, suc, ◌≤◌, ◌<◌}
use native.Mathlib.Omega.{arith}
use lib.Dec.{leb}
use lib.ListN.{length, get_or, set, length-set}
use lib.Seq.{get_or-set_same, get_or-set_other}
use borrow.Author.Tests.{le-leb, leb-true}
use Rattle.lists.specs.Tests.{and_l, and_r}
use Rattle.check_map.specs.Marks.{marked, allows}
use Rattle.lists.specs.Members
use Rattle.lists.specs.Members.{In, Distinct}

pub in-range : (m : List ℕ) (n : ℕ) → 0 < get_or m n 0 → n < length m
in-range [] n h = absurd (let z : ⊥ = omega arith in z)
in-range (x ∷ m) zero h = omega arith
in-range (x ∷ m) (suc n) h = omega (arith, in-range m n h)

pub marked-out : (v n : ℕ) (xs m : List ℕ) → (In n xs → ⊥) → get_or (marked m v xs) n 0 ≡ get_or m n 0
unfolding marked
marked-out v n [] m h = refl
marked-out v n (x ∷ xs) m h = marked-out v n xs (set m x v) (λ i. h (In.there i)) ∙ get_or-set_other m x n v 0 (λ e. h (Members.head_in xs e))

pub marked-in : (v n : ℕ) (xs m : List ℕ) → In n xs → n < length m → get_or (marked m v xs) n 0 ≡ v
unfolding marked
marked-in v n [] m i l = Members.none_in i
marked-in v n (x ∷ xs) m i l = go (Members.in? n xs) (Members.in-cons i) (λ j. marked-in v n xs (set m x v) j (rw (length-set m x v) l))
  where
    go : In n xs ⊎ (In n xs → ⊥) → (n ≡ x) ⊎ In n xs → (In n xs → get_or (marked (set m x v) v xs) n 0 ≡ v) → get_or (marked (set m x v) v xs) n 0 ≡ v
    go (inl j) k r = r j
    go (inr f) (inr j) r = r j
    go (inr f) (inl e) r = marked-out v n xs (set m x v) f ∙ ap (λ (y : ℕ). get_or (set m x v) y 0) e ∙ get_or-set_same m x v 0 (rw e at l)

pub record Open (m : List ℕ) (low : ℕ) (xs : List ℕ) : Type 0 where
  pub high : (n : ℕ) → In n xs → low ≤ get_or m n 0
  pub once : Distinct xs

pub allows-says : (low v : ℕ) (xs m : List ℕ) → v < low → allows m low v xs ≡ true → Open m low xs
unfolding allows
allows-says low v [] m l e = record { high = λ n i. Members.none_in i; once = Distinct.done }
allows-says low v (x ∷ xs) m l e =
    let h : low ≤ get_or m x 0 = leb-true low (get_or m x 0) (and_l (leb low (get_or m x 0)) (allows (set m x v) low v xs) e) in
    go h (allows-says low v xs (set m x v) l (and_r (leb low (get_or m x 0)) (allows (set m x v) low v xs) e))
  where
    go : low ≤ get_or m x 0 → Open (set m x v) low xs → Open m low (x ∷ xs)
    go h r = record { high = λ n i. up n (Members.in-cons i); once = Distinct.fresh new r.once }
      where
        new : In x xs → ⊥
        new i = let a = r.high x i in let b = get_or-set_same m x v 0 (in-range m x (omega arith)) in omega arith

        up : (n : ℕ) → (n ≡ x) ⊎ In n xs → low ≤ get_or m n 0
        up n (inl q) = rw q h
        up n (inr i) = rw (← get_or-set_other m x n v 0 (λ q. new (rw q at i))) (r.high n i)

pub says-allows : (low v : ℕ) (xs m : List ℕ) → Open m low xs → allows m low v xs ≡ true
unfolding allows
says-allows low v [] m o = refl
says-allows low v (x ∷ xs) m o = go o.once (says-allows low v xs (set m x v))
  where
    go : Distinct (x ∷ xs) → (Open (set m x v) low xs → allows (set m x v) low v xs ≡ true) → (leb low (get_or m x 0) && allows (set m x v) low v xs) ≡ true
    go (Distinct.fresh f d) ih =
        ap (λ (b : Bool). b && allows (set m x v) low v xs) (le-leb low (get_or m x 0) (o.high x In.here))
        ∙ ih (record { high = λ n i. rw (get_or-set_other m x n v 0 (λ q. f (rw q at i))) (o.high n (In.there i)); once = d })
