-- A list of distinct numbers by its head, and a count in two parts.
use Rattle.std.specs.Prelude.{◌≡◌, List, [], ◌∷◌, ◌++◌, ℕ, zero, suc, ◌+◌}
use Rattle.std.proofs.Common.{ap, ◌∙◌, arith}
use Rattle.meaning.specs.Lists.{count}
use Rattle.lists.specs.Members
use Rattle.lists.specs.Members.{In, Distinct}

pub distinct_head : {x : ℕ} {xs : List ℕ} → Distinct (x ∷ xs) → In x xs → ⊥
distinct_head (Members.Distinct.fresh f d) = f

pub distinct_tail : {x : ℕ} {xs : List ℕ} → Distinct (x ∷ xs) → Distinct xs
distinct_tail (Members.Distinct.fresh f d) = d

-- a count in two parts
pub count-parts : (i m n : ℕ) → count i (m + n) ≡ count i m ++ count (i + m) n
count-parts i zero n = let e : 0 + n ≡ n = omega arith in let f : i + 0 ≡ i = omega arith in rw (e, f)
count-parts i (suc m) n =
    let e : suc m + n ≡ suc (m + n) = omega arith in
    let f : i + 1 + m ≡ i + suc m = omega arith in
    ap (count i) e ∙ ap {B = List ℕ} (λ l. i ∷ l) (count-parts (i + 1) m n ∙ ap (λ (k : ℕ). count (i + 1) m ++ count k n) f)
