-- The length of a file, one pair of an entry and one entry of the file a turn.
use mathlib.Core.Path.{◌≡◌, refl, ap, ap₂, sym, ◌∙◌}
use mathlib.Core.Bool.{Bool, cond}
use mathlib.Core.List.{List, [], ◌∷◌}
use Prim.Native.Nat.{ℕ, ◌+◌, ◌-◌, ◌*◌, ◌≤◌, ◌<◌}
use native.Mathlib.Omega.{arith}
use native.Mathlib.Numerals.{add-one}
use native.Mathlib.Nat.{sub-zero}
use lib.ListN.{length, length-append}
use borrow.Author.Tests.{eq-eqb, ne_eqb}
use Rattle.meaning.specs.Lists.{count, each, last_or}
use Rattle.lists.specs.Members.{length-count}
use Rattle.meaning.specs.Layout.{slots, directory_sectors}
use Rattle.meaning.specs.Entries.{block, runs, runs_from, run_length, run_granules, entry_granules, marker, link}
use Rattle.meaning.specs.Chain.{chain_from, chain, owned}
use Rattle.meaning.specs.declared.Geometry.{Geometry}
use Rattle.lists.specs.Members
use Rattle.layout.specs.Room.{Below}
use Rattle.layout.proofs.OneStep.{runs-more, runs_none}
use Rattle.lists.specs.Ranges.{left-more}
use Rattle.seek.specs.Seek.{Walkable, Used, onward}
use Rattle.seek.proofs.SeekSteps.{chain-none, slots_length}
use Rattle.extent.specs.Reach.{Reaches}

module _ (g : Geometry) (d : List ℕ) where
  -- The granules of an entry, k of its pairs counted ----------------------------------------------------------------------

  pub record CountingRuns (s k n : ℕ) : Type 0 where
    pub rest : runs g d s ≡ runs_from g d s (4 - k) k
    pub sum : n ≡ length (each (run_granules g d s) (count 0 k))
    pub low : k ≤ 4
    pub small : n ≤ 32 * k

  pub counting-start : (s : ℕ) → CountingRuns s 0 0
  unfolding runs
  counting-start s = record { rest = refl; sum = refl; low = omega arith; small = omega arith }

  each_snoc : (s k : ℕ) → length (each (run_granules g d s) (count 0 (k + 1))) ≡ length (each (run_granules g d s) (count 0 k)) + run_length g d s k
  each_snoc s k =
      ap (λ (j : ℕ). length (each (run_granules g d s) (count 0 j))) (add-one k)
      ∙ ap (λ (l : List ℕ). length (each (run_granules g d s) l)) (Members.count-snoc 0 k)
      ∙ ap {B = ℕ} length (Members.each_append (run_granules g d s) (count 0 k) ((0 + k) ∷ []))
      ∙ length-append (each (run_granules g d s) (count 0 k)) (each (run_granules g d s) ((0 + k) ∷ []))
      ∙ ap (λ (j : ℕ). length (each (run_granules g d s) (count 0 k)) + j)
      (ap {B = ℕ} length (Members.each-one (run_granules g d s) (0 + k)) ∙ length-count _ _ ∙ ap (run_length g d s) (omega arith))

  pub counting-step : {s k n m : ℕ} → CountingRuns s k n → k < 4 → (block g d s k ≡ 0xff → ⊥) → Below 33 (run_length g d s k) m
      → CountingRuns s (k + 1) (n + m)
  counting-step {s} {k} c h f e = record {
    rest = c.rest ∙ simp (left-more h, runs-more, ne_eqb _ _ f);
    sum = ap₂ (λ (i j : ℕ). i + j) c.sum e.is ∙ sym (each_snoc s k);
    low = omega arith;
    small = omega (arith, c.small, e.small);
  }

  runs-counted : {s k n : ℕ} → CountingRuns s k n → runs g d s ≡ k → Below 129 (length (entry_granules g d s)) n
  unfolding entry_granules
  runs-counted {s} c r = record {
    is = c.sum ∙ ap (λ (j : ℕ). length (each (run_granules g d s) (count 0 j))) (sym r);
    small = omega (arith, c.small, c.low);
  }

  pub counting-stop : {s k n : ℕ} → CountingRuns s k n → k < 4 → block g d s k ≡ 0xff → Below 129 (length (entry_granules g d s)) n
  counting-stop c h f = runs-counted c (c.rest ∙ simp (left-more h, runs-more, eq-eqb _ _ f))

  pub counting-end : {s k n : ℕ} → CountingRuns s k n → 4 ≤ k → Below 129 (length (entry_granules g d s)) n
  counting-end {k = k} c h = let l = c.low in let e : k ≡ 4 = omega arith in runs-counted c (c.rest ∙ simp (e, runs_none))

  -- The entries of a file: i of `most` are counted, and slot `at` comes next ---------------------------------------------------

  pub record Measuring (s most at last n i : ℕ) : Type 0 where
    pub ends : last_or s (chain_from g d most s) ≡ last_or last (chain_from g d (most - i) at)
    pub sum : length (each (entry_granules g d) (chain_from g d most s)) ≡ n + length (each (entry_granules g d) (chain_from g d (most - i) at))
    pub used : Used g d at
    pub small : n ≤ 128 * i

  pub measuring-start : {s : ℕ} (most : ℕ) → Used g d s → Measuring s most s s 0 0
  measuring-start {s} most u = record {
    ends = ap (λ (k : ℕ). last_or s (chain_from g d k s)) (sym (sub-zero most));
    sum = let e = ap (λ (k : ℕ). length (each (entry_granules g d) (chain_from g d k s))) (sym (sub-zero most)) in omega (arith, e);
    used = u;
    small = omega arith;
  }

  chain-cons : {i most : ℕ} (s : ℕ) → i < most → chain_from g d (most - i) s ≡ s ∷ onward g d (most - (i + 1)) s
  unfolding chain_from
  chain-cons {i} {most} s h = rw (left-more h)

  last_cons : (z x : ℕ) (xs : List ℕ) → last_or z (x ∷ xs) ≡ last_or x xs
  unfolding last_or
  last_cons z x xs = refl

  last_none : (z : ℕ) → last_or z [] ≡ z
  unfolding last_or
  last_none z = refl

  counted : {s most at last n i m : ℕ} → Measuring s most at last n i → i < most → m ≡ length (entry_granules g d at)
      → length (each (entry_granules g d) (chain_from g d most s)) ≡ n + m + length (each (entry_granules g d) (onward g d (most - (i + 1)) at))
  counted {s} {most} {at} {last} {n} {i} {m} c h e =
      let a = ap (λ (l : List ℕ). length (each (entry_granules g d) l)) (chain-cons at h) ∙ length-append (entry_granules g d at)
      (each (entry_granules g d) (onward g d (most - (i + 1)) at)) in
      omega (arith, c.sum)

  onward-yes : (left at : ℕ) {m t : ℕ} → m ≡ marker g d at → m ≡ 0xfe → t ≡ link g d at → onward g d left at ≡ chain_from g d left t
  onward-yes left at {m} {t} e f q =
      ap (λ (b : Bool). cond b (chain_from g d left (link g d at)) []) (eq-eqb (marker g d at) 0xfe (sym e ∙ f)) ∙ ap (chain_from g d left) (sym q)

  onward-no : (left at : ℕ) {m : ℕ} → m ≡ marker g d at → (m ≡ 0xfe → ⊥) → onward g d left at ≡ []
  onward-no left at e f = ap (λ (b : Bool). cond b (chain_from g d left (link g d at)) []) (ne_eqb (marker g d at) 0xfe (λ q. f (e ∙ q)))

  pub measuring-step : {s most at last n i m k t : ℕ} → Walkable g d → Measuring s most at last n i → i < most → Below 129
      (length (entry_granules g d at)) m
      → k ≡ marker g d at → k ≡ 0xfe → t ≡ link g d at → Measuring s most t at (n + m) (i + 1)
  measuring-step {s} {most} {at} {last} {n} {i} {m} {k} {t} snd c h b e f q =
      let o = onward-yes (most - (i + 1)) at e f q in
      record {
        ends = c.ends ∙ ap (last_or last) (chain-cons at h) ∙ last_cons last at _ ∙ ap (last_or at) o;
        sum = counted c h b.is ∙ ap (λ (l : List ℕ). n + m + length (each (entry_granules g d) l)) o;
        used = rw q (snd.next at c.used (sym e ∙ f));
        small = omega (arith, c.small, b.small);
      }

  -- a walk begins with as many to come as the directory has slots
  abbrev whole : ℕ
  whole = 8 * (directory_sectors g d - 2)

  reached : {s n e : ℕ} → Walkable g d → last_or s (chain_from g d whole s) ≡ e → length (each (entry_granules g d) (chain_from g d whole s)) ≡ n
      → n ≤ 128 * whole → Reaches g d s (record { last = e; owned = n })
  unfolding owned chain
  reached {s} {n} {e} snd u v h =
      let t = snd.room.thirty in
      let w : whole ≡ length (slots g d) = sym (slots_length g d snd.room.ten snd.room.thirty) in
      record {
        last = sym u ∙ ap (λ (k : ℕ). last_or s (chain_from g d k s)) w;
        many = sym v ∙ ap (λ (k : ℕ). length (each (entry_granules g d) (chain_from g d k s))) w;
        small = omega arith;
      }

  pub measuring-stop : {s at last n i m k : ℕ} → Walkable g d → Measuring s whole at last n i → i < whole → Below 129 (length (entry_granules g d at)) m
      → k ≡ marker g d at → (k ≡ 0xfe → ⊥) → Reaches g d s (record { last = at; owned = n + m })
  measuring-stop {s} {at} {last} {n} {i} {m} {k} snd c h b e f =
      let o = onward-no (whole - (i + 1)) at e f in
      reached snd (c.ends ∙ ap (last_or last) (chain-cons at h ∙ ap (λ (l : List ℕ). at ∷ l) o) ∙ last_cons last at [] ∙ last_none at)
      (counted c h b.is ∙ ap (λ (l : List ℕ). n + m + length (each (entry_granules g d) l)) o ∙ omega arith) (omega (arith, c.small, b.small))

  pub measuring-end : {s at last n i : ℕ} → Walkable g d → Measuring s whole at last n i → i ≡ whole → Reaches g d s (record { last = last; owned = n })
  measuring-end {s} {at} {last} {n} {i} snd c h =
      let o = chain-none g d (whole - i) at (omega arith) in
      reached snd (c.ends ∙ ap (last_or last) o ∙ last_none last) (c.sum ∙ ap (λ (l : List ℕ). n + length (each (entry_granules g d) l)) o ∙ omega arith)
      (omega (arith, c.small))
