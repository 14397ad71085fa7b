-- The theorems to the types of `Statement`.
use Rattle.std.specs.Prelude.{◌≡◌, refl, not, List, ℕ, ◌≤◌, length, T, ltb}
use Rattle.std.proofs.Common.{sym, ◌∙◌, arith, nltb→le}
use Rattle.std.proofs.Math.Dec.{not_T}
use Rattle.meaning.specs.Entries.{system}
use Rattle.meaning.specs.Free.{free_granules, lowest_free, longest_free}
use Rattle.meaning.specs.Growth.{Grown, grown, no_slot, grow, growth, fails, disk_or, with_granules}
use Rattle.meaning.specs.Refusals.{first, cannot_grow}
use Rattle.meaning.specs.Allot.{allot, to_allot}
use Rattle.meaning.specs.Write.{write_of, to_write}
use Rattle.meaning.specs.declared.Geometry.{Geometry}
use Rattle.meaning.specs.declared.Handle.{Handle}
use Rattle.laws.specs.Facts.{Sound, IsFile}
use Rattle.laws.specs.Places
use Rattle.laws.specs.Passed
use Rattle.laws.specs.Rewrite
use Rattle.laws.specs.TakeOne
use Rattle.promises.specs.Grow
use Rattle.promises_choice.specs.Statement
use Rattle.promises_choice.specs.Statement.{LowestGranule, StretchEnd, GrowsBy, EveryAllot, EveryWrite}
use Rattle.promises_choice.specs.Steps
use Rattle.promises_choice.specs.Accepted.{accepted-write, rewrites}

-- a growth by the rule, or by the second where the first stuck
growth-says : (g : Geometry) (p k : ℕ) (d d' : List ℕ) → Sound g d → Places.Fits g d → IsFile g d p → T (not (system g d p)) → k ≤ length (free_granules g d)
    → growth g p k d ≡ grown d' → GrowsBy g p k d d'
growth-says g p k d d' c w f u room e = go (grow g p k d) refl
  where
    go : (t : Grown) → grow g p k d ≡ t → GrowsBy g p k d d'
    go (grown d₁) q =
        Statement.GrowsBy.first (Steps.steps g p (lowest_free g) (TakeOne.first-free g) (LowestGranule g p) (λ d r. Steps.lowest-is g d p r) k d d' c w f u room
        (q ∙ sym (Grow.keeps-first g k d d₁ p q) ∙ e))
    go no_slot q =
        Statement.GrowsBy.second (Steps.sticks g p k d c w f u room q)
        (Steps.steps g p (longest_free g) (Grow.longest-chooses g) (StretchEnd g p) (λ d r. Steps.end_is g d p r) k d d' c w f u room
        (sym (Grow.else-second g k d p q) ∙ e))

is-grown : (z : List ℕ) (t : Grown) → (T (fails t) → ⊥) → t ≡ grown (disk_or z t)
unfolding fails disk_or
is-grown z (grown d) f = refl
is-grown z no_slot f = absurd (f tt)

-- what passed its refusals grows so
passed-grows : (g : Geometry) (d : List ℕ) (h : Handle) (k : ℕ) → Passed.Holds g d h → first (cannot_grow g d h.slot k) ≡ 0
    → GrowsBy g h.slot k d (with_granules g d h.slot k)
passed-grows g d h k w e =
    let p₁ = Passed.passed 11 _ _ (omega arith) e in
    let p₂ = Passed.passed 9 _ _ (omega arith) p₁.1 in
    let p₃ = Passed.passed 8 _ _ (omega arith) p₂.1 in
    growth-says g h.slot k d (with_granules g d h.slot k) w.sound w.fits w.file w.user
    (nltb→le (length (free_granules g d)) k (not_T (ltb (length (free_granules g d)) k) p₂.0)) (is-grown d (growth g h.slot k d) p₃.0)

pub every-allot : EveryAllot
unfolding allot
every-allot g d h k e =
    let w = Passed.holds g d h _ 4 (cannot_grow g d h.slot (to_allot g d h k)) e in
    rw e (passed-grows g d h (to_allot g d h k) w.0 w.1)

pub every-write : EveryWrite
every-write g d m h n b e =
    let q = accepted-write g d m h n b e in
    let x = q.grew in
    let d₁ = with_granules g d h.slot (to_write g d m h n) in
    record {
      larger = d₁;
      grows = passed-grows g d h (to_write g d m h n) q.holds q.may;
      granules' = Rewrite.rw-owned g d₁ (write_of g d m h n b).1 x.kept.sound h.slot x.kept.file (rewrites g d m h n b q);
      entries = Rewrite.rw-chain g d₁ (write_of g d m h n b).1 x.kept.sound h.slot x.kept.file (rewrites g d m h n b q);
    }
