-- Attributes of two files held against each other.
use mathlib.Core.Path.{◌≡◌, refl, sym, ap, ◌∙◌}
use mathlib.Core.List.{List, [], ◌∷◌}
use mathlib.Core.Bool.{Bool, true, false, not, ◌||◌}
use Prim.Native.Nat.{ℕ, ◌/◌, ◌%◌}
use lib.Dec.{eqb}
use borrow.Author.Tests.{not-true, not-false}
use Rattle.meaning.specs.Lists.{all}
use Rattle.meaning.specs.Layout.{field}
use Rattle.meaning.specs.Plain.{file_at}
use Rattle.meaning.specs.declared.Geometry.{Geometry}
use Rattle.lists.specs.Tests.{all-no, all_yes, all_one}
use Rattle.compare_attributes.specs.Attributes.{differs_at, dates_differ, others_differ}

-- one test more: v is what p and the test of x make
pub or-then : {v p P : Bool} (X : Bool) → p ≡ P → v ≡ p → p ≡ true → v ≡ (P || X)
or-then X z e q = e ∙ q ∙ ap (λ (b : Bool). b || X) (sym (sym z ∙ q))

pub or-else : {v p P x X : Bool} → p ≡ P → v ≡ x → x ≡ X → p ≡ false → v ≡ (P || X)
or-else {X = X} z e f q = e ∙ f ∙ ap (λ (b : Bool). b || X) (sym (sym z ∙ q))

or-all : (a b c d e f g : Bool) → ((((((not a || not b) || not c) || not d) || not e) || not f) || not g) ≡ not (all (a ∷ b ∷ c ∷ d ∷ e ∷ f ∷ g ∷ []))
unfolding all
or-all false b c d e f g = refl
or-all true false c d e f g = refl
or-all true true false d e f g = refl
or-all true true true false e f g = refl
or-all true true true true false f g = refl
or-all true true true true true false g = refl
or-all true true true true true true false = refl
or-all true true true true true true true = refl

module _ (g : Geometry) (d : List ℕ) (h : Geometry) (e : List ℕ) where
  pub differs-is : (s t k : ℕ) {x y : ℕ} → x ≡ field g d s k → y ≡ field h e t k → not (eqb x y) ≡ differs_at g d h e s t k
  unfolding differs_at
  differs-is s t k p q = λ i. not (eqb (p i) (q i))

  module _ (s t : ℕ) where
    agree : ℕ → Bool
    agree k = eqb (field g d s k) (field h e t k)

    agree-no : (k : ℕ) {r : Bool} → r ≡ differs_at g d h e s t k → r ≡ true → agree k ≡ false
    unfolding differs_at agree
    agree-no k p q = not-true _ (sym p ∙ q)

    agree-yes : (k : ℕ) {r : Bool} → r ≡ differs_at g d h e s t k → r ≡ false → agree k ≡ true
    unfolding differs_at agree
    agree-yes k p q = not-false _ (sym p ∙ q)

    day : Bool
    day = eqb (field g d s 1 % 32) (field h e t 1 % 32)

    dates-are : dates_differ g d h e s t ≡ not (all (agree 2 ∷ day ∷ []))
    unfolding dates_differ file_at agree day all
    dates-are = refl

    pub date-first : {r : Bool} → r ≡ differs_at g d h e s t 2 → r ≡ true → true ≡ dates_differ g d h e s t
    date-first p q = sym (dates-are ∙ ap not (all-no (agree-no 2 p q) (day ∷ [])))

    pub date-second : {r : Bool} (x y : ℕ) → r ≡ differs_at g d h e s t 2 → r ≡ false → x ≡ field g d s 1 → y ≡ field h e t 1 → not (eqb (x % 32) (y % 32)) ≡
        dates_differ g d h e s t
    unfolding day
    date-second x y p q u v = (λ i. not (eqb (u i % 32) (v i % 32))) ∙ sym (dates-are ∙ ap not (all_yes (agree-yes 2 p q) (day ∷ []) ∙ all_one day))

    -- byte 00, the high bits of 01, bytes 04 and 10 to 13, up to each of them
    abbrev pub up_to-high : Bool
    up_to-high = differs_at g d h e s t 0 || not (eqb (field g d s 1 / 32) (field h e t 1 / 32))

    abbrev pub up_to-4 : Bool
    up_to-4 = up_to-high || differs_at g d h e s t 4

    abbrev pub up_to-10 : Bool
    up_to-10 = up_to-4 || differs_at g d h e s t 0x10

    abbrev pub up_to-11 : Bool
    up_to-11 = up_to-10 || differs_at g d h e s t 0x11

    abbrev pub up_to-12 : Bool
    up_to-12 = up_to-11 || differs_at g d h e s t 0x12

    high : Bool
    high = eqb (field g d s 1 / 32) (field h e t 1 / 32)

    others-are : others_differ g d h e s t ≡ not (all (agree 0 ∷ high ∷ agree 4 ∷ agree 0x10 ∷ agree 0x11 ∷ agree 0x12 ∷ agree 0x13 ∷ []))
    unfolding others_differ file_at agree high all
    others-are = refl

    pub up_to-13 : (up_to-12 || differs_at g d h e s t 0x13) ≡ others_differ g d h e s t
    unfolding differs_at agree high
    up_to-13 = or-all (agree 0) high (agree 4) (agree 0x10) (agree 0x11) (agree 0x12) (agree 0x13) ∙ sym others-are
