-- Passes over places, over slots, and along a walk.
use mathlib.Core.Path.{◌≡◌, refl, sym, ap, ◌∙◌}
use mathlib.Core.List.{List, [], ◌∷◌}
use mathlib.Core.Bool.{Bool, true, false, not, cond, ◌&&◌}
use Prim.Native.Nat.{ℕ, suc, ◌+◌, ◌-◌, ◌≤◌, ◌<◌}
use native.Mathlib.Omega.{arith}
use lib.Dec.{eqb}
use lib.ListN.{length, length-append}
use borrow.Author.Tests.{not-false}
use Rattle.meaning.specs.Lists.{count, every, each, keep, all}
use Rattle.meaning.specs.Layout.{taken}
use Rattle.meaning.specs.Entries.{in_use, runs, link, run_start, run_length, run_granules, entry_granules}
use Rattle.meaning.specs.Consistent.{follows_by, pairs_hold, runs_hold, gat_holds}
use Rattle.meaning.specs.Fault.{hands_on, good_extension, chain_fault, run_fault}
use Rattle.meaning.specs.declared.Geometry.{Geometry}
use Rattle.layout.specs.Room.{Slot}
use Rattle.lists.specs.Tests.{all_yes, all_one, keep-yes, keep-no, all-out}
use Rattle.layout.proofs.HasRoom.{slot-of}
use Rattle.lists.specs.Ranges.{every_append}
use Rattle.lists.specs.Members
use Rattle.laws.specs.Walk
pub use Rattle.lists.specs.Tests.{any-one}
pub use Rattle.lists.specs.Ranges.{count-more, count_none}
use Rattle.fault_kinds.specs.Reach.{reach}
use Rattle.fault_kinds.specs.Tests.{leads, tally, good_from, run_in}
use Rattle.fault_kinds.specs.Overlap.{overlaps, runs_meet}

-- Places in a row -------------------------------------------------------------------------------------------------------------

pub from_zero : (n : ℕ) → count 0 n ≡ count 0 (n - 0)
from_zero n = let e : n ≡ n - 0 = omega arith in ap (count 0) e

-- what is left of n after one more
pub one-less : (n k : ℕ) → n - k - 1 ≡ n - (k + 1)
one-less n k = omega arith

module _ (p : ℕ → Bool) {n k : ℕ} where
  keep-in : k < n → p k ≡ true → keep p (count k (n - k)) ≡ k ∷ keep p (count (k + 1) (n - (k + 1)))
  keep-in h t = ap (keep p) (count-more h) ∙ keep-yes p t (count (k + 1) (n - (k + 1)))

  keep_out : k < n → p k ≡ false → keep p (count k (n - k)) ≡ keep p (count (k + 1) (n - (k + 1)))
  keep_out h t = ap (keep p) (count-more h) ∙ keep-no p t (count (k + 1) (n - (k + 1)))

-- Bool ------------------------------------------------------------------------------------------------------------------------

-- what a test `if f(..)` says of the definition that f's contract names
pub so : {f a : Bool} → f ≡ a → f ≡ true → a ≡ true
so e t = sym e ∙ t

pub not_so : {f a : Bool} → f ≡ a → f ≡ false → a ≡ false
not_so e t = sym e ∙ t

-- a last test that holds
pub ends-first : (a : Bool) {b : Bool} → b ≡ true → a ≡ all (a ∷ b ∷ [])
unfolding all
ends-first true h = sym (rw h)
ends-first false h = refl

module _ (g : Geometry) (d : List ℕ) where
  -- of four runs no pair is empty
  pub four-hold : (s : ℕ) → runs g d s ≡ 4 → pairs_hold g d s ≡ true
  unfolding pairs_hold
  four-hold s e = rw e refl

  -- Along a walk ----------------------------------------------------------------------------------------------------------------

  reach-more : {left : ℕ} (s : ℕ) → 0 < left → reach g d left s ≡ s ∷ cond (hands_on g d s) (reach g d (left - 1) (link g d s)) []
  unfolding reach
  reach-more {left} s h = let e : left ≡ suc (left - 1) = omega arith in ap (λ (n : ℕ). reach g d n s) e

  pub reach-none : {left : ℕ} (s : ℕ) → left ≤ 0 → reach g d left s ≡ []
  unfolding reach
  reach-none {left} s h = let e : left ≡ 0 = omega arith in ap (λ (n : ℕ). reach g d n s) e

  pub reach-stop : {left : ℕ} (s : ℕ) → 0 < left → hands_on g d s ≡ false → reach g d left s ≡ s ∷ []
  reach-stop {left} s h f = reach-more s h ∙ ap (λ (b : Bool). s ∷ cond b (reach g d (left - 1) (link g d s)) []) f

  pub reach-on : {left t : ℕ} (s : ℕ) → 0 < left → hands_on g d s ≡ true → t ≡ link g d s → reach g d left s ≡ s ∷ reach g d (left - 1) t
  reach-on {left} {t} s h f e =
      reach-more s h ∙ ap (λ (b : Bool). s ∷ cond b (reach g d (left - 1) (link g d s)) []) f ∙ ap (λ (x : ℕ). s ∷ reach g d (left - 1) x) (sym e)

  pub hands-slot : {t : ℕ} (s : ℕ) → hands_on g d s ≡ true → t ≡ link g d s → Slot g d t
  hands-slot s h e = rw e (slot-of g d (link g d s) (Members.T_true (Walk.hands-says g d s (Members.true-T h)).next.slot))

  abbrev pub firm : ℕ → Bool
  firm s = not (chain_fault g d s)

  module _ (n p left s : ℕ) (i : every firm (reach g d n p) ≡ every firm (reach g d left s)) where
    pub whole-no : 0 < left → chain_fault g d s ≡ true → false ≡ every firm (reach g d n p)
    whole-no h e =
        sym (i ∙ ap (every firm) (reach-more s h) ∙ ap (λ (b : Bool). not b && every firm (cond (hands_on g d s) (reach g d (left - 1) (link g d s)) [])) e)

    pub whole-end : 0 < left → chain_fault g d s ≡ false → hands_on g d s ≡ false → true ≡ every firm (reach g d n p)
    whole-end h e f = sym (i ∙ ap (every firm) (reach-stop s h f) ∙ ap (λ (b : Bool). not b && true) e)

    pub whole-on : {t : ℕ} → 0 < left → chain_fault g d s ≡ false → hands_on g d s ≡ true → t ≡ link g d s → every firm (reach g d n p) ≡ every firm
        (reach g d (left - 1) t)
    whole-on {t} h e f q = i ∙ ap (every firm) (reach-on s h f q) ∙ ap (λ (b : Bool). not b && every firm (reach g d (left - 1) t)) e

    pub whole-none : left ≤ 0 → true ≡ every firm (reach g d n p)
    whole-none h = sym (i ∙ ap (every firm) (reach-none s h))

  -- how many granules these entries name
  abbrev pub size : List ℕ → ℕ
  size ss = length (each (entry_granules g d) ss)

  size-more : (s : ℕ) (ss : List ℕ) → size (s ∷ ss) ≡ length (entry_granules g d s) + size ss
  size-more s ss = length-append (entry_granules g d s) (each (entry_granules g d) ss)

  module _ (n p left s c : ℕ) (i : size (reach g d n p) ≡ c + size (reach g d left s)) where
    pub count-end : {m : ℕ} → 0 < left → m ≡ length (entry_granules g d s) → hands_on g d s ≡ false → c + m ≡ size (reach g d n p)
    count-end {m} h e f =
        let q : size (reach g d left s) ≡ m + 0 = ap {B = ℕ} size (reach-stop s h f) ∙ size-more s [] ∙ ap (λ (j : ℕ). j + 0) (sym e) in omega (arith, i, q)

    pub count-on : {m t : ℕ} → 0 < left → m ≡ length (entry_granules g d s) → hands_on g d s ≡ true → t ≡ link g d s
        → size (reach g d n p) ≡ c + m + size (reach g d (left - 1) t)
    count-on {m} {t} h e f z =
        let q : size (reach g d left s) ≡ m + size (reach g d (left - 1) t)
        = ap {B = ℕ} size (reach-on s h f z) ∙ size-more s (reach g d (left - 1) t) ∙ ap (λ (j : ℕ). j + size (reach g d (left - 1) t)) (sym e) in
        omega (arith, i, q)

    pub count-none' : left ≤ 0 → c ≡ size (reach g d n p)
    count-none' h = let q : size (reach g d left s) ≡ 0 = ap {B = ℕ} size (reach-none s h) in omega (arith, i, q)

  -- An extension -----------------------------------------------------------------------------------------------------------------

  tally-yes : (x b : ℕ) → leads g d x b ≡ true → tally g d x b ≡ cond (follows_by g d 0x90 b x) 1 2
  unfolding tally
  tally-yes x b h = ap {B = ℕ} (λ (t : Bool). cond t (cond (follows_by g d 0x90 b x) 1 2) 0) h

  tally-no : (x b : ℕ) → leads g d x b ≡ false → tally g d x b ≡ 0
  unfolding tally
  tally-no x b h = ap {B = ℕ} (λ (t : Bool). cond t (cond (follows_by g d 0x90 b x) 1 2) 0) h

  pub tally-none : (x b : ℕ) → leads g d x b ≡ false → 0 ≡ tally g d x b
  tally-none x b h = sym (tally-no x b h)

  -- the slots after b from which walks come to x
  abbrev pub later : ℕ → ℕ → List ℕ
  later x b = keep (leads g d x) (count (b + 1) (256 - (b + 1)))

  module _ (x n b : ℕ) (i : good_extension g d x ≡ good_from g d x n (keep (leads g d x) (count b (256 - b)))) where
    pub good-bad : {t : ℕ} → b < 256 → t ≡ tally g d x b → t ≡ 2 → false ≡ good_extension g d x
    good-bad {t} h e q = by (leads g d x b) refl
      where
        at : leads g d x b ≡ true → (u : Bool) → follows_by g d 0x90 b x ≡ u → false ≡ good_extension g d x
        at l true f = absurd (let z : t ≡ 1 = e ∙ tally-yes x b l ∙ ap {B = ℕ} (λ (t : Bool). cond t 1 2) f in let w : ⊥ = omega arith in w)
        at l false f =
            sym (i ∙ ap (good_from g d x n) (keep-in (leads g d x) h l) ∙ all-out (eqb (n + length (b ∷ (later x b))) 1 ∷ _ ∷ []) 1
            (ap (λ (t : Bool). t && every (λ b. follows_by g d 0x90 b x) (later x b)) f))

        by : (u : Bool) → leads g d x b ≡ u → false ≡ good_extension g d x
        by true l = at l (follows_by g d 0x90 b x) refl
        by false l = absurd (let z : t ≡ 0 = e ∙ tally-no x b l in let w : ⊥ = omega arith in w)

    pub good-on : {t : ℕ} → b < 256 → t ≡ tally g d x b → (t ≡ 2 → ⊥) → good_extension g d x ≡ good_from g d x (n + t) (later x b)
    good-on {t} h e q = by (leads g d x b) refl
      where
        at : leads g d x b ≡ true → (u : Bool) → follows_by g d 0x90 b x ≡ u → good_extension g d x ≡ good_from g d x (n + t) (later x b)
        at l false f = absurd (q (e ∙ tally-yes x b l ∙ ap {B = ℕ} (λ (t : Bool). cond t 1 2) f))
        at l true f =
            let z : t ≡ 1 = e ∙ tally-yes x b l ∙ ap {B = ℕ} (λ (t : Bool). cond t 1 2) f in
            let w : n + suc (length (later x b)) ≡ n + t + length (later x b) = omega arith in
            i ∙ ap (good_from g d x n) (keep-in (leads g d x) h l)
            ∙ ap (λ (j : ℕ). all (eqb j 1 ∷ (follows_by g d 0x90 b x && every (λ b. follows_by g d 0x90 b x) (later x b)) ∷ [])) w
            ∙ ap (λ (u : Bool). all (eqb (n + t + length (later x b)) 1 ∷ (u && every (λ b. follows_by g d 0x90 b x) (later x b)) ∷ [])) f

        by : (u : Bool) → leads g d x b ≡ u → good_extension g d x ≡ good_from g d x (n + t) (later x b)
        by true l = at l (follows_by g d 0x90 b x) refl
        by false l =
            let z : t ≡ 0 = e ∙ tally-no x b l in
            let w : n ≡ n + t = omega arith in
            i ∙ ap (good_from g d x n) (keep_out (leads g d x) h l) ∙ ap (λ (j : ℕ). good_from g d x j (later x b)) w

    pub good-end : 256 ≤ b → eqb n 1 ≡ good_extension g d x
    good-end h =
        let w : n ≡ n + 0 = omega arith in
        ap (λ (j : ℕ). eqb j 1) w ∙ ends-first (eqb (n + 0) 1) refl ∙ sym (i ∙ ap (good_from g d x n) (ap (keep (leads g d x)) (count_none h)))

  -- Runs -------------------------------------------------------------------------------------------------------------------------

  abbrev pub named : ℕ → List ℕ → List ℕ
  named s ks = each (run_granules g d s) ks

  module _ (s n k : ℕ) (i : every (taken g d) (entry_granules g d s) ≡ every (taken g d) (named s (count k (n - k)))) where
    cut : k < n → every (taken g d) (entry_granules g d s) ≡
        (every (taken g d) (run_granules g d s k) && every (taken g d) (named s (count (k + 1) (n - (k + 1)))))
    cut h = i ∙ ap (λ (l : List ℕ). every (taken g d) (named s l)) (count-more h) ∙ every_append (taken g d) (run_granules g d s k)
        (named s (count (k + 1) (n - (k + 1))))

    pub gat-no : k < n → every (taken g d) (run_granules g d s k) ≡ false → false ≡ gat_holds g d s
    unfolding gat_holds
    gat-no h f = sym (cut h ∙ ap (λ (b : Bool). b && every (taken g d) (named s (count (k + 1) (n - (k + 1))))) f)

    pub gat-on : k < n → every (taken g d) (run_granules g d s k) ≡ true → every (taken g d) (entry_granules g d s) ≡ every (taken g d)
        (named s (count (k + 1) (n - (k + 1))))
    gat-on h f = cut h ∙ ap (λ (b : Bool). b && every (taken g d) (named s (count (k + 1) (n - (k + 1))))) f

    pub gat-end : n ≤ k → true ≡ gat_holds g d s
    unfolding gat_holds
    gat-end h = sym (i ∙ ap (λ (l : List ℕ). every (taken g d) (named s l)) (count_none h))

  pub named-all : {n : ℕ} (s : ℕ) → n ≡ runs g d s → entry_granules g d s ≡ named s (count 0 (n - 0))
  unfolding entry_granules
  named-all {n} s e = ap (λ (j : ℕ). named s (count 0 j)) (sym e) ∙ ap (named s) (from_zero n)

  pub run-taken : (s k : ℕ) {a m : ℕ} {b : Bool} → a ≡ run_start g d s k → m ≡ run_length g d s k → every (taken g d) (count a m) ≡ b → every (taken g d)
      (run_granules g d s k) ≡ b
  run-taken s k {a} {m} e f h = ap (λ (j : ℕ). every (taken g d) (count j (run_length g d s k))) (sym e) ∙ ap (λ (j : ℕ). every (taken g d) (count a j))
      (sym f) ∙ h

  pub runs-lie : (s : ℕ) → in_use g d s ≡ true → run_fault g d s ≡ false → runs_hold g d s ≡ true
  unfolding run_fault
  runs-lie s u f = not-false (runs_hold g d s) (sym (all_yes u _ ∙ all_one _) ∙ f)

  pub meet-of : (s k t l : ℕ) {b m : ℕ} → b ≡ run_start g d t l → m ≡ run_length g d t l → run_in g d b m s k ≡ runs_meet g d s k t l
  unfolding run_in runs_meet
  meet-of s k t l {b} {m} e f =
      ap (λ (j : ℕ). overlaps (run_start g d s k) (run_length g d s k) j m) e ∙ ap
      (λ (j : ℕ). overlaps (run_start g d s k) (run_length g d s k) (run_start g d t l) j) f
