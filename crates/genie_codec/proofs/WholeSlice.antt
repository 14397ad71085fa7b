-- Bytes over a whole slice, and a handle's in two parts.
use mathlib.Core.Path.{◌≡◌, ap, ◌∙◌}
use mathlib.Core.List.{List, ◌++◌, append-nil}
use Prim.Native.Nat.{ℕ, ◌≤◌}
use native.Mathlib.Omega.{arith}
use native.Mathlib.Nat.{zero-add}
use lib.ListN.{length, drop, drop_of_length-le}
use lib.Seq.{sets, sets-eq}
use Rattle.meaning.specs.declared.Handle.{Handle}
use Rattle.genie_codec.specs.Codec.{low_first, bytes_of, stored}

-- as many bytes over a whole slice
pub whole : (z xs : List ℕ) → length xs ≡ length z → sets z 0 xs ≡ xs
whole z xs e =
    sets-eq xs z 0 (omega (arith, e)) ∙ ap (λ (k : ℕ). xs ++ drop k z) (zero-add (length xs) ∙ e)
    ∙ ap (λ (r : List ℕ). xs ++ r) (let q : length z ≤ length z = omega arith in drop_of_length-le z q) ∙ append-nil xs

-- a handle's numbers, then its name
pub numbers-then-name : (b : List ℕ) (h : Handle) {b₁ b₂ : List ℕ}
    → b₁ ≡ sets b 0 (low_first 1 h.slot ++ (low_first 1 h.level ++ (low_first 2 h.len ++ low_first 4 h.at)))
    → b₂ ≡ sets b₁ 8 h.name → b₂ ≡ stored b h
unfolding stored bytes_of
numbers-then-name b h e f = f ∙ ap (λ (r : List ℕ). sets r 8 h.name) e
