-- The numbers, in words: what each number of a call's table means, whoever gives it. A table whose case is another, be it one that holds in the
-- same cases, is not the one of this page.
use Rattle.std.specs.Prelude.{ℕ, zero, suc, ◌+◌, ◌<◌, ◌≡◌, refl, ◌⊎◌, List, [], ◌∷◌, T, length}
use Rattle.meaning.specs.Names.{fold}
use Rattle.meaning.specs.Free.{free_granules}
use Rattle.meaning.specs.Allot.{granules_to}
use Rattle.meaning.specs.Choice.{NothingFits}
use Rattle.meaning.specs.Calls.{Call}
use Rattle.meaning.specs.Plain.{nothing, plain, is_system}
use Rattle.meaning.specs.declared.Geometry.{Geometry}
use Rattle.meaning.specs.declared.Handle.{Handle}
use Rattle.promises.specs.Said.{Said}
use Rattle.promises.specs.Promises.{Promised, Rows, Table, Live, FitsGeometry, file_of, lacks, may_not_grow, table}

-- the case of a row, where its number is the answer
CaseAt : ℕ → Table → Type 0
CaseAt zero [] = Unit {0}
CaseAt zero (r ∷ rs) = r.1
CaseAt (suc k) [] = Unit {0}
CaseAt (suc k) (r ∷ rs) = CaseAt k rs

number_at : ℕ → Table → ℕ
number_at zero [] = 0
number_at zero (r ∷ rs) = r.0
number_at (suc k) [] = 0
number_at (suc k) (r ∷ rs) = number_at k rs

row : (k : ℕ) (rs : Table) (E : Type 0) (a : ℕ) → Rows a E rs → a ≡ number_at k rs → CaseAt k rs
unfolding CaseAt number_at
row zero [] E a x e = tt
row zero (r ∷ rs) E a x e = (x.0.0 e).1
row (suc k) [] E a x e = tt
row (suc k) (r ∷ rs) E a x e = row k rs (E × (r.1 → ⊥)) a x.1 e

module _ (g : Geometry) (d : List ℕ) where
  -- 1 and the ten faults come first: row 11 is the twelfth
  module _ (h : Handle) (k : ℕ) (s : Said (Call.allots h k)) (p : Promised g d (Call.allots h k) s) where
    one : s.number' ≡ 1 → FitsGeometry g d → ⊥
    unfolding CaseAt number_at
    one e = row 0 (table g d (Call.allots h k)) (Unit {0}) s.number' p.numbers e

    stale : s.number' ≡ 7 → Live g d h → ⊥
    unfolding CaseAt number_at
    stale e = row 12 (table g d (Call.allots h k)) (Unit {0}) s.number' p.numbers e

    barred : s.number' ≡ 6 → (4 < h.level) ⊎ T (is_system (file_of g d h))
    unfolding CaseAt number_at
    barred e = row 13 (table g d (Call.allots h k)) (Unit {0}) s.number' p.numbers e

    fixed : s.number' ≡ 11 → T (may_not_grow (file_of g d h)) × (0 < lacks g d h (granules_to g k))
    unfolding CaseAt number_at
    fixed e = row 14 (table g d (Call.allots h k)) (Unit {0}) s.number' p.numbers e

    full : s.number' ≡ 9 → length (free_granules g d) < lacks g d h (granules_to g k)
    unfolding CaseAt number_at
    full e = row 15 (table g d (Call.allots h k)) (Unit {0}) s.number' p.numbers e

    -- "Number 8 must then mean that no choice of free granules whatever .. fits" (02 §13)
    nothing-fits : s.number' ≡ 8 → NothingFits g d h.slot (lacks g d h (granules_to g k))
    unfolding CaseAt number_at
    nothing-fits e = row 16 (table g d (Call.allots h k)) (Unit {0}) s.number' p.numbers e

  not_found : (n : List ℕ) (s : Said (Call.looks_up n)) → Promised g d (Call.looks_up n) s → s.number' ≡ 4 → plain g d (fold n) ≡ nothing
  unfolding CaseAt number_at
  not_found n s p e = row 12 (table g d (Call.looks_up n)) (Unit {0}) s.number' p.numbers e
