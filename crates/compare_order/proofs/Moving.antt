-- A number put into a table, and the others moved up, one place a turn.
use mathlib.Core.Path.{◌≡◌, refl, sym, ap, ◌∙◌}
use mathlib.Core.Logic.{⊎_elim}
use mathlib.Core.List.{List}
use Prim.Native.Nat.{ℕ, ◌+◌, ◌-◌, ◌≤◌, ◌<◌}
use native.Mathlib.Omega.{arith}
use lib.ListN.{length, get_or, set, length-set}
use lib.Seq.{get_or-set_same, get_or-set_other}
use Rattle.lists.specs.Tests.{le-or-lt}
use Rattle.compare_order.specs.Table.{PutIn}

-- places i to k have got what they shall have; c is carried on to place k
pub record Carrying (o : List ℕ) (n i x : ℕ) (o' : List ℕ) (k c : ℕ) : Type 0 where
  pub long : length o' ≡ length o
  pub begun : i ≤ k
  pub low : k ≤ n
  pub below : (j : ℕ) → j < i → get_or o' j 0 ≡ get_or o j 0
  pub here : i < k → get_or o' i 0 ≡ x
  pub moved : (j : ℕ) → i < j → j < k → get_or o' j 0 ≡ get_or o (j - 1) 0
  pub rest : (j : ℕ) → k ≤ j → get_or o' j 0 ≡ get_or o j 0
  pub first' : k ≡ i → c ≡ x
  pub carried : i < k → c ≡ get_or o (k - 1) 0

pub carrying-start : (o : List ℕ) (n i x : ℕ) → i ≤ n → Carrying o n i x o i x
carrying-start o n i x h =
    record {
      long = refl;
      begun = omega arith;
      low = h;
      below = λ j l. refl;
      here = λ l. absurd (let z : ⊥ = omega arith in z);
      moved = λ j l m. absurd (let z : ⊥ = omega arith in z);
      rest = λ j l. refl;
      first' = λ e. refl;
      carried = λ l. absurd (let z : ⊥ = omega arith in z);
    }

module _ (o : List ℕ) (n i x : ℕ) (o' : List ℕ) (k c : ℕ) (t : Carrying o n i x o' k c) (h : k < length o') where
  other : (j : ℕ) → (j ≡ k → ⊥) → get_or (set o' k c) j 0 ≡ get_or o' j 0
  other j f = get_or-set_other o' k j c 0 f

  same : get_or (set o' k c) k 0 ≡ c
  same = get_or-set_same o' k c 0 h

  at_first : get_or (set o' k c) i 0 ≡ x
  at_first = let b = t.begun in
      ⊎_elim (λ q. let e : k ≡ i = omega arith in ap (λ (j : ℕ). get_or (set o' k c) j 0) (sym e) ∙ same ∙ t.first' e)
      (λ q. other i (λ e. omega arith) ∙ t.here q) (le-or-lt k i)

  at_moved : (j : ℕ) → i < j → j ≤ k → get_or (set o' k c) j 0 ≡ get_or o (j - 1) 0
  at_moved j l m =
      ⊎_elim
      (λ q. let e : j ≡ k = omega arith in
      ap (λ (y : ℕ). get_or (set o' k c) y 0) e ∙ same ∙ t.carried (omega arith) ∙ ap (λ (y : ℕ). get_or o (y - 1) 0) (sym e))
      (λ q. other j (λ e. omega arith) ∙ t.moved j l q) (le-or-lt k j)

  pub carrying-on : k < n → Carrying o n i x (set o' k c) (k + 1) (get_or o' k 0)
  carrying-on l = let b = t.begun in
      record {
        long = length-set o' k c ∙ t.long;
        begun = omega arith;
        low = omega arith;
        below = λ j m. other j (λ e. omega arith) ∙ t.below j m;
        here = λ m. at_first;
        moved = λ j m q. at_moved j m (omega arith);
        rest = λ j m. other j (λ e. omega arith) ∙ t.rest j (omega arith);
        first' = λ e. absurd (let z : ⊥ = omega arith in z);
        carried = λ m. let e : k ≡ k + 1 - 1 = omega arith in t.rest k (omega arith) ∙ ap (λ (y : ℕ). get_or o y 0) e;
      }

  pub carrying-end : n ≤ k → PutIn o n i x (set o' n c)
  carrying-end l = let b = t.begun in let w = t.low in let e : k ≡ n = omega arith in
      rw (sym e) (record {
        long = length-set o' k c ∙ t.long;
        below = λ j m. other j (λ q. omega arith) ∙ t.below j m;
        here = at_first;
        above = λ j m q. at_moved j m q;
      })
