-- No slot is wanting, whatever the choice, where but for those that lengthen the last run there are no more granules than pairs left in the last
-- entry: each of these may start a run of its own.
use mathlib.Core.Path.{◌≡◌, refl, ap, sym, ◌∙◌}
use mathlib.Core.Logic.{⊎_elim}
use mathlib.Core.Bool.{Bool, false}
use mathlib.Core.List.{List}
use Prim.Native.Nat.{ℕ, zero, suc, ◌+◌, ◌-◌, ◌≤◌, ◌<◌}
use native.Mathlib.Omega.{arith}
use lib.ListN.{length}
use Rattle.meaning.specs.Layout.{granules}
use Rattle.meaning.specs.Entries.{runs, run_start, run_length}
use Rattle.meaning.specs.Free.{free_granules}
use Rattle.meaning.specs.Growth.{tail, take_at, Grown, grown, no_slot, grow_by, and_then, fails}
use Rattle.meaning.specs.declared.Geometry.{Geometry}
use Rattle.laws.specs.Longer
use Rattle.laws.specs.TakeOne
use Rattle.laws.specs.Steps.{Ready, take-ready}
use Rattle.lists.specs.Tests.{le-or-lt}
use Rattle.laws_choice.specs.Words
use Rattle.meaning.specs.Choice.{last_run, last_of, spare, after}
use Rattle.laws_choice.specs.Words.{Lengthens}
use Rattle.laws_choice.specs.View
use Rattle.laws_choice.specs.View.{view, Took}
use Rattle.growth_search.specs.Search.{Ends, Stretch}
use Rattle.growth_search.specs.declared.Ending.{Ending}
use Rattle.growth.specs.Choose.{choice_by}
use Rattle.growth.proofs.Step
use Rattle.growth.proofs.Growing.{chooses}

module _ (g : Geometry) (p : ℕ) (lowest : Bool) where
  abbrev choice : List ℕ → ℕ
  choice = choice_by g lowest

  -- the last run may be lengthened by x granules, and for the rest of k there is room for runs
  record Enough (k x : ℕ) (d : List ℕ) : Type 0 where
    within : x ≤ spare 32 (view g p d).last
    behind : Words.Stretch (granules g) (view g p d) (after (view g p d).last) x
    rest : k ≤ x + (view g p d).room

  none-behind : {k : ℕ} (d : List ℕ) → k ≤ (view g p d).room → Enough k 0 d
  none-behind d h = record { within = omega arith; behind = λ i a b. absurd (let z : ⊥ = omega arith in z); rest = omega arith }

  -- it was lengthened by one
  one_less : {k x : ℕ} (d d₁ : List ℕ) → Enough (suc k) (suc x) d → Lengthens 32 (granules g) (view g p d) (view g p d₁) → Enough k x d₁
  one_less {k} {x} d d₁ w l =
      let a : spare 32 (view g p d).last ≡ 32 - l.run.many = ap (spare 32) l.had in
      let b : spare 32 (view g p d₁).last ≡ 32 - (l.run.many + 1) = ap (spare 32) l.has in
      let u : after (view g p d).last ≡ l.run.first + l.run.many = ap after l.had in
      let v : after (view g p d₁).last ≡ l.run.first + (l.run.many + 1) = ap after l.has in
      record {
        within = omega (arith, w.within);
        behind = λ i m n.
            let q = w.behind i (omega arith) (omega arith) in
            record { inside = q.inside; clear = l.takes.keeps i q.inside (λ e. omega arith) ∙ q.clear };
        rest = omega (arith, w.rest, l.place);
      }

  -- it can be
  can : {k x : ℕ} (d : List ℕ) → Enough k (suc x) d → Words.CanLengthen 32 (granules g) (view g p d)
  can d w = record { fewer = omega (arith, w.within); free = w.behind (after (view g p d).last) (omega arith) (omega arith) }

  roomy : (k x : ℕ) (d : List ℕ) → Ready g d p → k ≤ length (free_granules g d) → Enough k x d → fails (grow_by g p choice k d) ≡ false
  unfolding grow_by and_then fails
  roomy zero x d y h w = refl
  roomy (suc k) x d y h w =
      let t = View.took g d (Step.sound' g d p y) (Step.fits' g d p y) p (Step.file' g d p y) (choice d) n.0 n.1 in
      go x w (take_at g p (choice d) d) refl t (λ x₁ d₁ y₁ l m. roomy k x₁ d₁ y₁ l m)
    where
      n : Step.Free' g p choice d
      n = chooses g p lowest d (omega arith)

      after_one : (x₁ : ℕ) (d₁ : List ℕ) → take_at g p (choice d) d ≡ grown d₁
          → ((x₂ : ℕ) (d₂ : List ℕ) → Ready g d₂ p → k ≤ length (free_granules g d₂) → Enough k x₂ d₂ → fails (grow_by g p choice k d₂) ≡ false)
          → Enough k x₁ d₁ → fails (grow_by g p choice k d₁) ≡ false
      after_one x₁ d₁ e ih m =
          let c = Step.sound' g d p y in let f = Step.file' g d p y in
          let w = TakeOne.take-at g d c (Step.fits' g d p y) p f (Step.user' g d p y) (choice d) n d₁ e in
          ih x₁ d₁ (take-ready g d p y (choice d) n d₁ e).0 (omega (arith, Longer.grown-free g d d₁ c p f w.which w.longer)) m

      go : (x : ℕ) → Enough (suc k) x d → (t : Grown) → take_at g p (choice d) d ≡ t
          → Took g d (Step.sound' g d p y) (Step.fits' g d p y) p (Step.file' g d p y) (choice d) t
          → ((x₁ : ℕ) (d₁ : List ℕ) → Ready g d₁ p → k ≤ length (free_granules g d₁) → Enough k x₁ d₁ → fails (grow_by g p choice k d₁) ≡ false)
          → fails (and_then t (grow_by g p choice k)) ≡ false
      go zero w (grown d₁) e (Took.longer t l) ih = after_one 0 d₁ e ih (none-behind d₁ (omega (arith, w.rest, l.place)))
      go zero w (grown d₁) e (Took.starts a s) ih = after_one 0 d₁ e ih (none-behind d₁ (omega (arith, w.rest, s.place)))
      go zero w no_slot e (Took.none a z) ih = absurd (let v : ⊥ = omega (arith, w.rest, z) in v)
      go (suc x) w (grown d₁) e (Took.longer t l) ih = after_one x d₁ e ih (one_less d d₁ w l)
      go (suc x) w (grown d₁) e (Took.starts a s) ih = absurd (a (View.can-says g p d (can d w)))
      go (suc x) w no_slot e (Took.none a z) ih = absurd (a (View.can-says g p d (can d w)))

  pub pairs-left : {e k r : ℕ} {d : List ℕ} → Ready g d p → e ≡ tail g p d → k ≤ length (free_granules g d) → r ≡ runs g d e → k + r ≤ 4
      → false ≡ fails (grow_by g p choice k d)
  pairs-left {e} {k} {r} {d} y q h s l =
      let z : r ≡ runs g d (tail g p d) = s ∙ ap (runs g d) q in
      sym (roomy k 0 d y h (none-behind d (omega (arith, z))))

  -- what the code has found of the last run
  some-last : (n first many : ℕ) → 1 ≤ n → last_of n first many ≡ last_run (record { first = first; many = many })
  some-last zero first many h = absurd (let z : ⊥ = omega arith in z)
  some-last (suc n) first many h = refl

  last-is : (e : ℕ) (d : List ℕ) (r : Ending) → e ≡ tail g p d → Ends g d e r → 1 ≤ r.runs
      → (after (view g p d).last ≡ r.after) × (spare 32 (view g p d).last ≡ 32 - r.long)
  last-is e d r q w h =
      let x = tail g p d in let n = runs g d x - 1 in let m = r.runs - 1 in
      let t : x ≡ e = sym q in
      let many : runs g d x ≡ r.runs = ap (runs g d) t ∙ w.many in
      let j : n ≡ m = ap (λ (i : ℕ). i - 1) many in
      let s = some-last (runs g d x) (run_start g d x n) (run_length g d x n) (omega arith) in
      let a : run_start g d x n ≡ run_start g d e m = ap (λ (i : ℕ). run_start g d x i) j ∙ ap (λ (i : ℕ). run_start g d i m) t in
      let b : run_length g d x n ≡ run_length g d e m = ap (λ (i : ℕ). run_length g d x i) j ∙ ap (λ (i : ℕ). run_length g d i m) t in
      let u = w.after h in (
        ap after s ∙ ap (λ (i : ℕ). i + run_length g d x n) a ∙ ap (λ (i : ℕ). run_start g d e m + i) b ∙ sym u.0,
        ap (spare 32) s ∙ ap (λ (i : ℕ). 32 - i) b ∙ ap (λ (i : ℕ). 32 - i) (sym u.1),
      )

  -- all but as many as there are pairs left lie behind the last run
  pub lengthening : {e k x : ℕ} {r : Ending} {d : List ℕ} → Ready g d p → e ≡ tail g p d → k ≤ length (free_granules g d) → Ends g d e r
      → x ≤ 32 - r.long → Stretch g d r.after x → k ≤ x + (4 - r.runs) → false ≡ fails (grow_by g p choice k d)
  lengthening {e} {k} {x} {r} {d} y q h w s f l = ⊎_elim
      (λ (z : r.runs ≤ 0). let o = w.none (omega arith) in pairs-left y q h (sym w.many) (omega arith))
      (λ (z : 0 < r.runs). sym (roomy k x d y h (enough (last-is e d r q w z)))) (le-or-lt r.runs 0)
    where
      pairs : runs g d (tail g p d) ≡ r.runs
      pairs = ap (runs g d) (sym q) ∙ w.many

      enough : (after (view g p d).last ≡ r.after) × (spare 32 (view g p d).last ≡ 32 - r.long) → Enough k x d
      enough o =
          let a = o.0 in let b = o.1 in
          record {
            within = omega arith;
            behind = λ i m n. let v = f i (omega arith) (omega arith) in record { inside = v.0; clear = v.1 };
            rest = omega (arith, pairs);
          }
