-- Whether one of the granules of a run is taken: a block's part by a mask, and block by block.
use mathlib.Core.Path.{◌≡◌, refl, sym, ap, ◌∙◌}
use mathlib.Core.List.{List, [], ◌∷◌, ◌++◌}
use mathlib.Core.Bool.{Bool, true, false, not, ◌||◌, or_assoc}
use Prim.Native.Nat.{ℕ, zero, suc, ◌+◌, ◌-◌, ◌*◌, ◌/◌, ◌%◌, ◌≤◌, ◌<◌}
use native.Mathlib.Omega.{arith}
use native.Mathlib.Nat.{div-add-mod'}
use lib.Bits.{bit_and}
use lib.Dec.{eqb}
use Rattle.meaning.specs.Lists.{count, some}
use Rattle.meaning.specs.Bits.{bit}
use Rattle.meaning.specs.Layout.{taken, byte}
use Rattle.meaning.specs.declared.Geometry.{Geometry}
use Rattle.space.specs.Marks.{mask}
use Rattle.space.proofs.Masks.{any-bit}
use Rattle.space.proofs.Blocks.{block_of, unit-of, Cut, cut-start, cut-count, cut_step}

pub some-append : (p : ℕ → Bool) (xs ys : List ℕ) → some p (xs ++ ys) ≡ (some p xs || some p ys)
some-append p [] ys = refl
some-append p (x ∷ xs) ys = ap (λ (b : Bool). p x || b) (some-append p xs ys) ∙ sym (or_assoc (p x) (some p xs) (some p ys))

module _ (g : Geometry) (d : List ℕ) where
  pub at_unit : (b u : ℕ) → u < g.units → taken g d (b * g.units + u) ≡ bit u (byte d (256 * g.start + b))
  unfolding taken
  at_unit b u h =
      ap (λ (i : ℕ). bit ((b * g.units + u) % g.units) (byte d (256 * g.start + i))) (block_of b u h)
      ∙ ap (λ (i : ℕ). bit i (byte d (256 * g.start + b))) (unit-of b u h)

  block-some : (b u n : ℕ) → u + n ≤ g.units → some (taken g d) (count (b * g.units + u) n) ≡ some (λ k. bit k (byte d (256 * g.start + b))) (count u n)
  block-some b u zero h = refl
  block-some b u (suc n) h =
      let x : ℕ = byte d (256 * g.start + b) in
      let e : b * g.units + u + 1 ≡ b * g.units + (u + 1) = omega arith in
      ap (λ (t : Bool). t || some (taken g d) (count (b * g.units + u + 1) n)) (at_unit b u (omega arith))
      ∙ ap (λ (i : ℕ). bit u x || some (taken g d) (count i n)) e
      ∙ ap (λ (t : Bool). bit u x || t) (block-some b (u + 1) n (omega arith))

  -- as the code tests it
  pub units-some : (b u n : ℕ) {x m : ℕ} → u + n ≤ g.units → g.units ≤ 8 → x ≡ byte d (256 * g.start + b) → x < 256 → m ≡ mask u n
      → not (eqb (bit_and x m) 0) ≡ some (taken g d) (count (b * g.units + u) n)
  units-some b u n {x} {m} h k e l q =
      any-bit x u n l (omega arith) q ∙ ap (λ (y : ℕ). some (λ j. bit j y) (count u n)) e ∙ sym (block-some b u n h)

  -- none of the blocks before has one
  pub record LookingThrough (a n b u left : ℕ) : Type 0 where
    pub rest : some (taken g d) (count a n) ≡ some (taken g d) (count (b * g.units + u) left)
    pub cut : Cut g a n b u left

  pub looking-start : (a n : ℕ) → 1 ≤ g.units → LookingThrough a n (a / g.units) (a % g.units) n
  looking-start a n h =
      record { rest = ap (λ (i : ℕ). some (taken g d) (count i n)) (sym (div-add-mod' a g.units)); cut = cut-start g a n h }

  here : {a n b u left : ℕ} {r : Bool} → LookingThrough a n b u left → g.units < u + left → r ≡ some (taken g d) (count (b * g.units + u) (g.units - u))
      → some (taken g d) (count a n) ≡ (r || some (taken g d) (count ((b + 1) * g.units + 0) (left - (g.units - u))))
  here {a} {n} {b} {u} {left} {r} m h e =
      m.rest ∙ ap (some (taken g d)) (cut-count g m.cut h)
      ∙ some-append (taken g d) (count (b * g.units + u) (g.units - u)) (count ((b + 1) * g.units + 0) (left - (g.units - u)))
      ∙ ap (λ (t : Bool). t || some (taken g d) (count ((b + 1) * g.units + 0) (left - (g.units - u)))) (sym e)

  pub looking-hit : {a n b u left : ℕ} {r : Bool} → LookingThrough a n b u left → g.units < u + left → r ≡ some (taken g d)
      (count (b * g.units + u) (g.units - u))
      → r ≡ true → true ≡ some (taken g d) (count a n)
  looking-hit {a} {n} {b} {u} {left} {r} m h e q =
      sym (here m h e ∙ ap (λ (t : Bool). t || some (taken g d) (count ((b + 1) * g.units + 0) (left - (g.units - u)))) q)

  pub looking-step : {a n b u left : ℕ} {r : Bool} → LookingThrough a n b u left → g.units < u + left → r ≡ some (taken g d)
      (count (b * g.units + u) (g.units - u))
      → r ≡ false → LookingThrough a n (b + 1) 0 (left - (g.units - u))
  looking-step {a} {n} {b} {u} {left} {r} m h e q =
      record {
        rest = here m h e ∙ ap (λ (t : Bool). t || some (taken g d) (count ((b + 1) * g.units + 0) (left - (g.units - u)))) q;
        cut = cut_step g m.cut h;
      }
