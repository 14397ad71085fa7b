-- A name, byte by byte.
use mathlib.Core.Path.{◌≡◌, sym, ap, ◌∙◌}
use mathlib.Core.List.{List, ◌∷◌}
use mathlib.Core.Bool.{Bool, true, false, cond}
use Prim.Native.Nat.{ℕ, ◌+◌, ◌-◌, ◌<◌}
use native.Mathlib.Omega.{arith}
use native.Mathlib.Numerals.{add-one}
use lib.ListN.{length, get_or, take, drop, length-drop}
use lib.Seq.{drop-cons, take_all}
use lib.Dec.{eqb}
use Rattle.meaning.specs.Lists.{every}
use Rattle.meaning.specs.Names.{letter, padded}
use Rattle.lists.specs.Ranges.{left-more}

module _ (n : List ℕ) (to i : ℕ) where
  -- the part from i up to `to` has one byte more than the part after it
  pub part-more : i < to → i < length n → take (to - i) (drop i n) ≡ get_or n i 0 ∷ take (to - (i + 1)) (drop (i + 1) n)
  part-more h l = simp (left-more h, drop-cons n i 0 l, add-one)

  pub padded-more : i < to → i < length n → letter (get_or n i 0) ≡ true → padded (take (to - i) (drop i n)) ≡ padded (take (to - (i + 1)) (drop (i + 1) n))
  padded-more h l e =
      let rest = take (to - (i + 1)) (drop (i + 1) n) in
      ap padded (part-more h l) ∙ ap (λ (b : Bool). cond b (padded rest) (every (eqb 0x20) (get_or n i 0 ∷ rest))) e

  pub padded-stop : i < to → i < length n → letter (get_or n i 0) ≡ false → padded (take (to - i) (drop i n)) ≡ every (eqb 0x20) (take (to - i) (drop i n))
  padded-stop h l e =
      let rest = take (to - (i + 1)) (drop (i + 1) n) in
      ap padded (part-more h l) ∙ ap (λ (b : Bool). cond b (padded rest) (every (eqb 0x20) (get_or n i 0 ∷ rest))) e
      ∙ sym (ap (every (eqb 0x20)) (part-more h l))

pub to-end : (n : List ℕ) (i : ℕ) → take (length n - i) (drop i n) ≡ drop i n
to-end n i = take_all (length n - i) (drop i n) (simp length-drop (omega arith))

pub type-part : (n : List ℕ) → length n ≡ 11 → take 3 (drop 8 n) ≡ drop 8 n
type-part n h = take_all 3 (drop 8 n) (simp length-drop (omega arith))
