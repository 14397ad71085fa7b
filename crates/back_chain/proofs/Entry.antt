-- One entry of a killed file: whether it was met before, its pairs and its link.
use Rattle.std.specs.Prelude.{Some, None}
use mathlib.Core.Path.{◌≡◌, refl, sym, ap, ◌∙◌}
use mathlib.Core.List.{List, [], ◌∷◌}
use mathlib.Core.Bool.{Bool, true, false, ◌&&◌, and-true}
use Prim.Native.Nat.{ℕ, ◌≤◌}
use lib.ListN.{get_or, set}
use lib.Dec.{leb}
use borrow.Author.Tests.{le-leb}
use Rattle.meaning.specs.Lists.{all}
use Rattle.meaning.specs.Entries.{entry_granules}
use Rattle.meaning.specs.Consistent.{link_holds_by}
use Rattle.meaning.specs.BringBack
use Rattle.meaning.specs.declared.Geometry.{Geometry}
use Rattle.lists.specs.Tests.{all-at, all_yes, all-no, all_none, not-both, all-out}
use Rattle.check_map.specs.Marks.{marked, allows}
use Rattle.check_walk.specs.Walk.{entry_fits, Entered}
use Rattle.check_walk.specs.declared.Pairs.{Pairs}
use Rattle.back_chain.specs.Line.{Visits}

-- of three tests the middle one, or the first, is left where the others hold
middle : {a b c : Bool} → a ≡ true → c ≡ true → all (a ∷ b ∷ c ∷ []) ≡ b
unfolding all
middle {a} {b} {c} h l = rw (h, l) (and-true b)

head : {a b c : Bool} → b ≡ true → c ≡ true → all (a ∷ b ∷ c ∷ []) ≡ a
unfolding all
head {a} {b} {c} h l = rw (h, l) (and-true a)

module _ (g : Geometry) (d : List ℕ) (s : ℕ) where
  -- what is met before
  pub visits-met : {m m' met met' : List ℕ} → get_or met s 0 ≡ 0 → Visits g d s m m' met met' None
  unfolding allows
  visits-met e = record { answer = sym (all-out _ 2 (ap (λ (n : ℕ). leb 1 n && true) e)); visited = tt }

  -- pairs that are not as they must be, or a granule that is met before
  pub visits-pairs : {m m'' m' met met' : List ℕ} → Entered g d s 1 m m'' None → Visits g d s m m' met met' None
  visits-pairs {m} {m''} {m'} {met} {met'} e =
      record {
        answer = sym (by (all (BringBack.killed_entry_holds g d s ∷ allows m 1 0 (entry_granules g d s) ∷ allows met 1 0 (s ∷ []) ∷ [])) refl);
        visited = tt;
      }
    where
      by : (t : Bool) → all (BringBack.killed_entry_holds g d s ∷ allows m 1 0 (entry_granules g d s) ∷ allows met 1 0 (s ∷ []) ∷ []) ≡ t
          → all (BringBack.killed_entry_holds g d s ∷ allows m 1 0 (entry_granules g d s) ∷ allows met 1 0 (s ∷ []) ∷ []) ≡ false
      by true q =
          let k = all-at _ q 0 in
          let fits : entry_fits g d s 1 m ≡ true = all_yes (all-at _ k 0) _ ∙ all_yes (all-at _ k 2) _ ∙ all_yes (all-at _ q 1) _ ∙ all_none in
          not-both fits (sym e.answer)
      by false q = q

  -- all is as it must be but the link
  pub visits-astray : {m m'' met met' : List ℕ} → link_holds_by g d 0x80 s ≡ false → Visits g d s m m'' met met' None
  visits-astray h = record { answer = sym (all-no (all-out _ 1 h) _); visited = tt }

  -- all is as it must be
  pub visits-link : {m m' met : List ℕ} {p : Pairs} → Entered g d s 1 m m' (Some p) → 1 ≤ get_or met s 0 → link_holds_by g d 0x80 s ≡ true
      → Visits g d s m m' met (set met s 0) (Some p.granules)
  unfolding allows marked
  visits-link {m} {m'} {met} {p} e l q =
      let fits : entry_fits g d s 1 m ≡ true = sym e.answer in
      let met-is : (leb 1 (get_or met s 0) && true) ≡ true = ap (λ (b : Bool). b && true) (le-leb 1 (get_or met s 0) l) in
      let w = e.taken in
      record {
        answer = sym (head (all-at _ fits 2) met-is ∙ middle (all-at _ fits 0) (all-at _ fits 1) ∙ q);
        visited = record { few = w.few; granules-is = w.granules-is; map = w.map; meets = refl };
      }
