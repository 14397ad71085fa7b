-- Two names held against each other.
use Rattle.std.specs.Prelude.{◌≡◌, refl, Bool, List, Some, ℕ, ◌+◌, ◌-◌, take, drop}
use Rattle.std.specs.Cmp.Lexicographic.{slice_cmp, slice_partial_cmp}
use Rattle.std.specs.Ordering.{nat_cmp, is_lt, is_gt, is_some_and}
use Rattle.std.proofs.Common.{Ordering, sym, ap, ◌∙◌, arith}
use Rattle.std.proofs.lemmas.Bool.Decides.{nat_tests}
use Rattle.std.proofs.lemmas.Cmp.{same_from_slice_cmp, same_from_slice_cmp_tested}
use Rattle.meaning.specs.Layout.{entry_at}
use Rattle.meaning.specs.Entries.{name_of}
use Rattle.meaning.specs.declared.Geometry.{Geometry}
use Rattle.layout.specs.Room.{Room, Slot}
use Rattle.layout.proofs.HasRoom.{entry-fits}
use Rattle.layout.proofs.OneStep.{name-part}
use Rattle.differences.specs.Compare.{before}

-- the name of a slot is the part of the image where it lies
pub placed-name : (g : Geometry) (d : List ℕ) (s : ℕ) {r : ℕ} → Room g d × Slot g d s → r ≡ entry_at g s + 5 → take (r + 11 - r) (drop r d) ≡ name_of g d s
placed-name g d s {r} h e =
    let f = entry-fits g d s h.0 h.1 in let z : r + 11 - r ≡ 11 = omega arith in
    ap (λ (k : ℕ). take k (drop r d)) z ∙ ap (λ (k : ℕ). take 11 (drop k d)) e ∙ sym (name-part g d s (omega arith))

-- `cmp` of two names says which of them comes first
pub cmp-before : (xs ys : List ℕ) (o : Ordering) → o ≡ slice_cmp nat_cmp xs ys → is_lt o ≡ before xs ys
unfolding before
cmp-before = same_from_slice_cmp nat_cmp is_lt before refl (λ _ _. refl) (λ _ _. refl) (λ x y xs ys o h. grind (arith, nat_tests))

pub cmp-after : (xs ys : List ℕ) (o : Ordering) → o ≡ slice_cmp nat_cmp xs ys → is_gt o ≡ before ys xs
unfolding before
cmp-after = same_from_slice_cmp nat_cmp is_gt (λ xs ys. before ys xs) refl (λ _ _. refl) (λ _ _. refl) (λ x y xs ys o h. grind (arith, nat_tests))

-- and so does `<`
pub lt-before : (xs ys : List ℕ) (r : Bool) → r ≡ is_some_and is_lt (slice_partial_cmp (λ x y. Some (nat_cmp x y)) xs ys) → r ≡ before xs ys
unfolding before
lt-before = same_from_slice_cmp_tested nat_cmp is_lt before refl (λ _ _. refl) (λ _ _. refl) (λ x y xs ys o h. grind (arith, nat_tests))
