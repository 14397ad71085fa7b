-- What is told of a name bears it, and is no refusal.
use Rattle.std.specs.Prelude.{◌≡◌, refl, Bool, true, false, cond, List, [], ◌∷◌, ℕ}
use Rattle.meaning.specs.Lists.{any}
use Rattle.meaning.specs.Plain.{Found, found, nothing, is_system}
use Rattle.differences.specs.Compare.{name_only, unlike, difference}

pub difference-name : (n : List ℕ) (a b : Found) → (difference n a b).name ≡ n
unfolding difference unlike
difference-name n nothing nothing = refl
difference-name n (found f) nothing = refl
difference-name n nothing (found f) = refl
difference-name n (found f) (found f') = by (any (is_system f ∷ is_system f' ∷ []))
  where
    by : (t : Bool) → (cond t (name_only n 0) (unlike n f f')).name ≡ n
    by true = refl
    by false = refl

pub difference-number : (n : List ℕ) (a b : Found) → (difference n a b).refusal.number ≡ 0
unfolding difference unlike
difference-number n nothing nothing = refl
difference-number n (found f) nothing = refl
difference-number n nothing (found f) = refl
difference-number n (found f) (found f') = by (any (is_system f ∷ is_system f' ∷ []))
  where
    by : (t : Bool) → (cond t (name_only n 0) (unlike n f f')).refusal.number ≡ 0
    by true = refl
    by false = refl
