-- Marking, list after list of places.
use mathlib.Core.Path.{◌≡◌, refl, sym, ap, ◌∙◌}
use mathlib.Core.List.{List, [], ◌∷◌, ◌++◌}
use mathlib.Core.Bool.{Bool, ◌&&◌, and_assoc}
use Prim.Native.Nat.{ℕ}
use lib.Dec.{leb}
use lib.ListN.{get_or, set}
use Rattle.check_map.specs.Marks.{marked, allows}

-- One list of places after another
pub marked_append : (m : List ℕ) (v : ℕ) (xs ys : List ℕ) → marked m v (xs ++ ys) ≡ marked (marked m v xs) v ys
unfolding marked
marked_append m v [] ys = refl
marked_append m v (x ∷ xs) ys = marked_append (set m x v) v xs ys

pub allows-append : (m : List ℕ) (least v : ℕ) (xs ys : List ℕ) → allows m least v (xs ++ ys) ≡ (allows m least v xs && allows (marked m v xs) least v ys)
unfolding marked allows
allows-append m least v [] ys = refl
allows-append m least v (x ∷ xs) ys =
    ap (λ (b : Bool). leb least (get_or m x 0) && b) (allows-append (set m x v) least v xs ys)
    ∙ sym (and_assoc (leb least (get_or m x 0)) (allows (set m x v) least v xs) (allows (marked (set m x v) v xs) least v ys))
