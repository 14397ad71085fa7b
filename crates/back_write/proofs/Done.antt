-- What a loop over the parts of a list leaves.
use mathlib.Core.Path.{◌≡◌, sym, ap, ◌∙◌}
use mathlib.Core.List.{List}
use Prim.Native.Nat.{ℕ, ◌+◌, ◌≤◌, ◌<◌}
use native.Mathlib.Omega.{arith}
use Rattle.meaning.specs.Lists.{through}
use Rattle.space.proofs.Folds.{through-append}
use Rattle.back_taken.proofs.Steps.{Steps}

-- a fold: k parts are done
pub record Done (f : List ℕ → ℕ → List ℕ) (d : List ℕ) (whole : ℕ → List ℕ) (d' : List ℕ) (k n : ℕ) : Type 0 where
  pub few : k ≤ n
  pub is : d' ≡ through f d (whole k)

module _ {whole part : ℕ → List ℕ} (s : Steps whole part) where
  pub done-start : (f : List ℕ → ℕ → List ℕ) (d : List ℕ) (n : ℕ) → Done f d whole d 0 n
  done-start f d n = record { few = omega arith; is = sym (ap (through f d) s.none) }

  pub done_more : {f : List ℕ → ℕ → List ℕ} {d d' d'' : List ℕ} {k n : ℕ} → Done f d whole d' k n → k < n → d'' ≡ through f d' (part k) → Done f d whole d''
      (k + 1) n
  done_more {f} {d} {d'} {d''} {k} {n} t h e =
      record {
        few = omega arith;
        is = e ∙ ap (λ (l : List ℕ). through f l (part k)) t.is ∙ sym (through-append f d (whole k) (part k)) ∙ sym (ap (through f d) (s.more k));
      }

pub done_end : {f : List ℕ → ℕ → List ℕ} {d d' : List ℕ} {whole : ℕ → List ℕ} {k n : ℕ} → Done f d whole d' k n → n ≤ k → d' ≡ through f d (whole n)
done_end {f} {d} {d'} {whole} {k} {n} t h =
    let a = t.few in let q : k ≡ n = omega arith in t.is ∙ ap (λ (m : ℕ). through f d (whole m)) q
