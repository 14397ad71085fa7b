-- A list of bytes overwritten from a place on
use Rattle.std.specs.Prelude.{◌≡◌, ◌⊎◌, List, ◌++◌, map, ℕ, ◌+◌, ◌-◌, ◌≤◌, ◌<◌, max, length, get_or, take, drop, replicate}
use Rattle.std.proofs.Common.{ap, ap₂, sym, ◌∙◌, inl, inr, arith, length-append, length-take, length-drop, get_or-take, get_or-drop}
use Rattle.std.proofs.Common.{get_or-append-add, ext_get_or}
use Rattle.std.proofs.Math.Decide.{dec_lt}
use Rattle.std.proofs.lemmas.List.{length-replicate, get_or-replicate}
use Rattle.std.proofs.Math.ListN.{get_or-append}
use Rattle.meaning.specs.Lists.{count}
use Rattle.meaning.specs.Write.{size_after}
use Rattle.meaning.specs.Plain.{overwritten}
use Rattle.meaning.specs.declared.Mode.{Mode}
use Rattle.meaning.specs.declared.Mode.TheVariants.{Sequential, Random}
use Rattle.lists.specs.Members

module _ (O r : List ℕ) (at : ℕ) where
  abbrev kept : List ℕ
  kept = take at O ++ replicate (at - length O) 0

  abbrev pub whole : List ℕ
  whole = kept ++ (r ++ drop (at + length r) O)

  kept-length : length kept ≡ at
  kept-length = length-append (take at O) (replicate (at - length O) 0) ∙ ap₂ (λ (a b : ℕ). a + b) (length-take at O) (length-replicate (at - length O) 0) ∙
      omega arith

  pub whole_length : length whole ≡ max (length O) (at + length r)
  whole_length = length-append kept (r ++ drop (at + length r) O) ∙ ap₂ (λ (a b : ℕ). a + b) kept-length
      (length-append r (drop (at + length r) O) ∙ ap (λ (x : ℕ). length r + x) (length-drop (at + length r) O)) ∙ omega arith

  pub whole-old : (j : ℕ) → j < at → j < length O → get_or whole j 0 ≡ get_or O j 0
  whole-old j a b = get_or-append kept (r ++ drop (at + length r) O) 0 j (omega (arith, kept-length))
      ∙ get_or-append (take at O) (replicate (at - length O) 0) 0 j (omega (arith, length-take at O)) ∙ get_or-take at O j 0 a

  pub whole-zero : (j : ℕ) → length O ≤ j → j < at → get_or whole j 0 ≡ 0
  whole-zero j a b = get_or-append kept (r ++ drop (at + length r) O) 0 j (omega (arith, kept-length))
      ∙ ap (λ (x : ℕ). get_or kept x 0) (omega (arith, length-take at O)) ∙ get_or-append-add (take at O) (replicate (at - length O) 0) (j - length O) 0 ∙
      get_or-replicate (at - length O) (j - length O) 0 0 (omega arith)

  pub whole-new : (j : ℕ) → at ≤ j → j < at + length r → get_or whole j 0 ≡ get_or r (j - at) 0
  whole-new j a b = ap (λ (x : ℕ). get_or whole x 0) (omega (arith, kept-length)) ∙ get_or-append-add kept (r ++ drop (at + length r) O) (j - at) 0
      ∙ get_or-append r (drop (at + length r) O) 0 (j - at) (omega arith)

  pub whole-rest : (j : ℕ) → at + length r ≤ j → get_or whole j 0 ≡ get_or O j 0
  whole-rest j a = ap (λ (x : ℕ). get_or whole x 0) (omega (arith, kept-length)) ∙ get_or-append-add kept (r ++ drop (at + length r) O)
      (length r + (j - (at + length r))) 0
      ∙ get_or-append-add r (drop (at + length r) O) (j - (at + length r)) 0 ∙ get_or-drop (at + length r) O (j - (at + length r)) 0
      ∙ ap (λ (x : ℕ). get_or O x 0)
      (omega arith)

-- what a mode makes of the size
pub after-max : (m : Mode) (old end : ℕ) → size_after m old end ≤ max old end
unfolding size_after
after-max Sequential old end = omega arith
after-max Random old end = omega arith

pub overwritten-length : (m : Mode) (O : List ℕ) (at : ℕ) (r : List ℕ) → length (overwritten m O at r) ≡ size_after m (length O) (at + length r)
unfolding overwritten
overwritten-length m O at r = length-take (size_after m (length O) (at + length r)) (whole O r at) ∙ omega
    (arith, whole_length O r at, after-max m (length O) (at + length r))

-- a list is the overwritten one if its bytes are
pub is-overwritten : (m : Mode) (O : List ℕ) (at : ℕ) (r : List ℕ) (G : ℕ → ℕ)
    → ((j : ℕ) → j < length O → (j < at) ⊎ (at + length r ≤ j) → G j ≡ get_or O j 0) → ((j : ℕ) → length O ≤ j → j < at → G j ≡ 0)
    → ((j : ℕ) → at ≤ j → j < at + length r → G j ≡ get_or r (j - at) 0)
    → (len : length (map G (count 0 (size_after m (length O) (at + length r)))) ≡ size_after m (length O) (at + length r))
    → map G (count 0 (size_after m (length O) (at + length r))) ≡ overwritten m O at r
unfolding overwritten
is-overwritten m O at r G a b c len =
    ext_get_or 0 (map G (count 0 S)) (overwritten m O at r) (len ∙ sym (overwritten-length m O at r)) (λ j h. point j (omega (arith, len)))
  where
    S : ℕ
    S = size_after m (length O) (at + length r)

    val : (j : ℕ) → j < S → Dec (j < at) → Dec (j < at + length r) → Dec (j < length O) → G j ≡ get_or (whole O r at) j 0
    val j h (yes p) q (yes s) = a j s (inl p) ∙ sym (whole-old O r at j p s)
    val j h (yes p) q (no s) = b j (omega arith) p ∙ sym (whole-zero O r at j (omega arith) p)
    val j h (no p) (yes q) s = c j (omega arith) q ∙ sym (whole-new O r at j (omega arith) q)
    val j h (no p) (no q) (yes s) = a j s (inr (omega arith)) ∙ sym (whole-rest O r at j (omega arith))
    val j h (no p) (no q) (no s) = absurd (omega (arith, after-max m (length O) (at + length r)))

    point : (j : ℕ) → j < S → get_or (map G (count 0 S)) j 0 ≡ get_or (overwritten m O at r) j 0
    point j h = Members.map-count G 0 S j h ∙ ap G (omega arith) ∙ val j h (dec_lt j at) (dec_lt j (at + length r)) (dec_lt j (length O)) ∙ sym
        (get_or-take S (whole O r at) j 0 h)
