-- The walk, step by step.
use mathlib.Core.Path.{◌≡◌, refl, sym, ap, ◌∙◌}
use mathlib.Core.List.{List, [], ◌∷◌, ◌++◌}
use mathlib.Core.Bool.{Bool, true, false, cond}
use Prim.Native.Nat.{ℕ, zero, suc, ◌+◌, ◌-◌, ◌*◌, ◌%◌, ◌≤◌, ◌<◌}
use native.Mathlib.Omega.{arith}
use native.Mathlib.Nat.{sub-zero}
use lib.ListN.{length, get_or, length-append, get_or-append}
use lib.Seq.{get_or-append-add}
use lib.Dec.{eqb, ltb}
use borrow.Author.Tests.{eq-eqb, ne_eqb, eqb-true}
use Rattle.meaning.specs.Lists.{count, keep, each, all}
use Rattle.lists.specs.Members.{length-count}
use Rattle.meaning.specs.Layout.{is_slot, slots, directory_sectors}
use Rattle.meaning.specs.Entries.{block, runs, runs_from, run_start, run_length, run_granules, entry_granules, marker, link}
use Rattle.meaning.specs.Chain.{chain_from}
use Rattle.meaning.specs.declared.Geometry.{Geometry}
use Rattle.layout.proofs.OneStep.{runs-more, runs_none}
use Rattle.lists.specs.Ranges.{left-more, left-none}
use Rattle.lists.specs.Tests.{get_or-count}
use Rattle.lists.specs.Below.{all_below, all-below}
use Rattle.seek.specs.Seek.{Walkable, Used, Sought, onward}
use Rattle.std.specs.Prelude.{Ok, Err}

pub get_d_past : (xs ys : List ℕ) (k : ℕ) → length xs ≤ k → get_or (xs ++ ys) k 0 ≡ get_or ys (k - length xs) 0
get_d_past xs ys k h =
    let e : k ≡ length xs + (k - length xs) = omega arith in
    ap (λ (j : ℕ). get_or (xs ++ ys) j 0) e ∙ get_or-append-add xs ys (k - length xs) 0

-- the number of slots, for each length of a directory that there is
unfoldable pub slots_for : ℕ → List ℕ
slots_for n = keep (λ s. all (ltb s 256 ∷ ltb (s % 32 + 2) n ∷ [])) (count 0 256)

counted : all_below 21 (λ k. eqb (length (slots_for (10 + k))) (8 * (8 + k))) ≡ true
unfolding all slots_for
counted = refl

counted-at : (k : ℕ) → k < 21 → length (slots_for (10 + k)) ≡ 8 * (8 + k)
counted-at k h = eqb-true (length (slots_for (10 + k))) (8 * (8 + k)) (all-below 21 (λ k. eqb (length (slots_for (10 + k))) (8 * (8 + k))) counted k h)

pub slots-are : (g : Geometry) (d : List ℕ) → slots g d ≡ slots_for (directory_sectors g d)
unfolding slots is_slot slots_for
slots-are g d = refl

pub slots_same : (g : Geometry) (d d' : List ℕ) → directory_sectors g d' ≡ directory_sectors g d → slots g d' ≡ slots g d
slots_same g d d' e = slots-are g d' ∙ ap slots_for e ∙ sym (slots-are g d)

pub slots_length : (g : Geometry) (d : List ℕ) → 10 ≤ directory_sectors g d → directory_sectors g d ≤ 30 → length (slots g d) ≡ 8 * (directory_sectors g d - 2)
slots_length g d h l =
    let e : 10 + (directory_sectors g d - 10) ≡ directory_sectors g d = omega arith in
    let f : 8 * (8 + (directory_sectors g d - 10)) ≡ 8 * (directory_sectors g d - 2) = omega arith in
    ap length (slots-are g d) ∙ ap (λ (m : ℕ). length (slots_for m)) (sym e) ∙ counted-at (directory_sectors g d - 10) (omega arith) ∙ f

module _ (g : Geometry) (d : List ℕ) where
  pub chain_more : (left s : ℕ) → (left ≡ 0 → ⊥) → each (entry_granules g d) (chain_from g d left s) ≡ entry_granules g d s ++ each (entry_granules g d)
      (onward g d (left - 1) s)
  unfolding chain_from
  chain_more zero s h = absurd (h refl)
  chain_more (suc left) s h = let e : suc left - 1 ≡ left = omega arith in rw e

  pub chain-none : (left s : ℕ) → left ≡ 0 → chain_from g d left s ≡ []
  unfolding chain_from
  chain-none left s h = rw h

  -- runs counted from j on are at least j
  runs-low : (s m j : ℕ) → j ≤ runs_from g d s m j
  runs-low s zero j = rw (runs_none g d s j) (omega arith)
  runs-low s (suc m) j = rw (runs-more g d s m j) (by (eqb (block g d s j) 0xff) (runs-low s m (j + 1)))
    where
      by : (b : Bool) → j + 1 ≤ runs_from g d s m (j + 1) → j ≤ cond b j (runs_from g d s m (j + 1))
      by true h = omega arith
      by false h = omega arith

  -- j pairs are runs, and whether the next one is
  pub record Pairs (s j : ℕ) : Type 0 where
    pub rest : runs g d s ≡ runs_from g d s (4 - j) j

  pub pairs_start : (s : ℕ) → Pairs s 0
  unfolding runs
  pairs_start s = record { rest = refl }

  next-pair : {s j : ℕ} → Pairs s j → j < 4 → runs g d s ≡ cond (eqb (block g d s j) 0xff) j (runs_from g d s (4 - (j + 1)) (j + 1))
  next-pair {s} {j} p h = p.rest ∙ ap (λ (m : ℕ). runs_from g d s m j) (left-more h) ∙ runs-more g d s (4 - (j + 1)) j

  pub pairs-stop : {s j b : ℕ} → Pairs s j → j < 4 → b ≡ block g d s j → b ≡ 0xff → runs g d s ≤ j
  pairs-stop {s} {j} p h e q =
      let w = next-pair p h ∙ ap (λ (t : Bool). cond t j (runs_from g d s (4 - (j + 1)) (j + 1))) (eq-eqb (block g d s j) 0xff (sym e ∙ q)) in omega arith

  pub pairs-step : {s j b : ℕ} → Pairs s j → j < 4 → b ≡ block g d s j → (b ≡ 0xff → ⊥) → Pairs s (j + 1) × (j < runs g d s)
  pairs-step {s} {j} p h e q =
      let w : runs g d s ≡ runs_from g d s (4 - (j + 1)) (j + 1) = next-pair p h ∙ ap (λ (t : Bool). cond t j (runs_from g d s (4 - (j + 1)) (j + 1)))
      (ne_eqb (block g d s j) 0xff (λ z. q (e ∙ z))) in
      let l = runs-low s (4 - (j + 1)) (j + 1) in
      (record { rest = w }, omega arith)

  pub pairs_end : {s j : ℕ} → Pairs s j → 4 ≤ j → runs g d s ≤ j
  pairs_end {s} {j} p h = let w = p.rest ∙ ap (λ (m : ℕ). runs_from g d s m j) (left-none h) ∙ runs_none g d s j in omega arith

  -- of n runs in all, the first j are passed: granule k of the entry is granule `left` of the others
  pub record Seeking (s k n j left : ℕ) : Type 0 where
    pub rest : get_or (entry_granules g d s) k 0 ≡ get_or (each (run_granules g d s) (count j (n - j))) left 0
    pub far : k + length (each (run_granules g d s) (count j (n - j))) ≡ left + length (entry_granules g d s)

  pub seeking-start : (s k : ℕ) → Seeking s k (runs g d s) 0 k
  unfolding entry_granules
  seeking-start s k =
      let e : each (run_granules g d s) (count 0 (runs g d s)) ≡ each (run_granules g d s) (count 0 (runs g d s - 0)) = ap
      (λ (m : ℕ). each (run_granules g d s) (count 0 m)) (sym (sub-zero (runs g d s))) in
      record { rest = ap (λ (xs : List ℕ). get_or xs k 0) e; far = ap (λ (xs : List ℕ). k + length xs) (sym e) }

  one-run : (s : ℕ) {j n : ℕ} → j < n → each (run_granules g d s) (count j (n - j)) ≡ run_granules g d s j ++ each (run_granules g d s)
      (count (j + 1) (n - (j + 1)))
  one-run s {j} h = ap (λ (m : ℕ). each (run_granules g d s) (count j m)) (left-more h)

  run-long : (s : ℕ) {j n : ℕ} → j < n → length (each (run_granules g d s) (count j (n - j))) ≡ run_length g d s j + length
      (each (run_granules g d s) (count (j + 1) (n - (j + 1))))
  run-long s {j} {n} h =
      ap {B = ℕ} length (one-run s h) ∙ length-append (run_granules g d s j) _
      ∙ ap (λ (m : ℕ). m + length (each (run_granules g d s) (count (j + 1) (n - (j + 1))))) (length-count (run_start g d s j) (run_length g d s j))

  pub seeking-here : {s k n j left len a : ℕ} → Seeking s k n j left → j < n → len ≡ run_length g d s j → left < len → a ≡ run_start g d s j
      → (k < length (entry_granules g d s)) × (a + left ≡ get_or (entry_granules g d s) k 0)
  seeking-here {s} {k} {n} {j} {left} {len} {a} i h e l f = (
    omega (arith, i.far, run-long s h),
    sym
        (i.rest ∙ ap (λ (xs : List ℕ). get_or xs left 0) (one-run s h)
        ∙ get_or-append (run_granules g d s j) _ 0 left (rw length-count (omega arith))
        ∙ get_or-count (run_start g d s j) (run_length g d s j) left (omega arith) ∙ ap (λ (v : ℕ). v + left) (sym f)),
  )

  pub seeking-past : {s k n j left len : ℕ} → Seeking s k n j left → j < n → len ≡ run_length g d s j → len ≤ left → Seeking s k n (j + 1) (left - len)
  seeking-past {s} {k} {n} {j} {left} {len} i h e l = record {
    rest =
        i.rest ∙ ap (λ (xs : List ℕ). get_or xs left 0) (one-run s h) ∙ get_d_past (run_granules g d s j) _ left (rw length-count (omega arith))
        ∙ ap (λ (v : ℕ). get_or (each (run_granules g d s) (count (j + 1) (n - (j + 1)))) (left - v) 0) (rw length-count (sym e));
    far = omega (arith, i.far, run-long s h);
  }

  pub seeking-end : {s k n j left : ℕ} → Seeking s k n j left → n ≤ j → (length (entry_granules g d s) ≤ k) × (left ≡ k - length (entry_granules g d s))
  seeking-end {s} {k} {n} {j} {left} i h =
      let e : k + 0 ≡ left + length (entry_granules g d s) = ap (λ (m : ℕ). k + length (each (run_granules g d s) (count j m))) (sym (left-none h)) ∙ i.far in
      (omega arith, omega arith)

  -- i entries passed: granule k of the file from slot s on is granule `seek` from slot `at` on
  pub record Walking (s k left at seek i : ℕ) : Type 0 where
    pub rest : get_or (each (entry_granules g d) (chain_from g d left s)) k 0 ≡ get_or (each (entry_granules g d) (chain_from g d (left - i) at)) seek 0
    pub used : Used g d at
    pub low : seek ≤ k

  pub walking_start : {s : ℕ} (k left : ℕ) → Used g d s → Walking s k left s k 0
  walking_start {s} k left u = record {
    rest = ap (λ (n : ℕ). get_or (each (entry_granules g d) (chain_from g d n s)) k 0) (sym (sub-zero left));
    used = u;
    low = omega arith;
  }

  walking_on : {s k left at seek i : ℕ} → Walking s k left at seek i → i < left
      → get_or (each (entry_granules g d) (chain_from g d left s)) k 0 ≡ get_or
      (entry_granules g d at ++ each (entry_granules g d) (onward g d (left - (i + 1)) at)) seek 0
  walking_on {left = left} {at = at} {seek = seek} {i = i} w h =
      let e : left - i - 1 ≡ left - (i + 1) = omega arith in
      w.rest ∙ ap (λ (l : List ℕ). get_or l seek 0)
      (chain_more (left - i) at (λ q. omega arith) ∙ ap (λ (n : ℕ). entry_granules g d at ++ each (entry_granules g d) (onward g d n at)) e)

  pub walking_here : {s k left at seek i n : ℕ} → Walking s k left at seek i → i < left → Sought (entry_granules g d at) seek (Ok n)
      → n ≡ get_or (each (entry_granules g d) (chain_from g d left s)) k 0
  walking_here w h e = sym (walking_on w h ∙ get_or-append _ _ 0 _ e.0 ∙ sym e.1)

  walking-past : {s k left at seek i past : ℕ} → Walking s k left at seek i → i < left → Sought (entry_granules g d at) seek (Err past)
      → get_or (each (entry_granules g d) (chain_from g d left s)) k 0 ≡ get_or (each (entry_granules g d) (onward g d (left - (i + 1)) at)) past 0
  walking-past {left = left} {at = at} {i = i} w h e =
      let xs = each (entry_granules g d) (onward g d (left - (i + 1)) at) in
      walking_on w h ∙ get_d_past (entry_granules g d at) xs _ e.0 ∙ ap (λ (j : ℕ). get_or xs j 0) (sym e.1)

  pub walking-stop : {s k left at seek i past m : ℕ} → Walking s k left at seek i → i < left → Sought (entry_granules g d at) seek (Err past)
      → m ≡ marker g d at → (m ≡ 0xfe → ⊥) → 0 ≡ get_or (each (entry_granules g d) (chain_from g d left s)) k 0
  walking-stop {left = left} {at = at} {i = i} {past = past} w h e f z =
      sym (walking-past w h e
      ∙ ap (λ (b : Bool). get_or (each (entry_granules g d) (cond b (chain_from g d (left - (i + 1)) (link g d at)) [])) past 0)
      (ne_eqb (marker g d at) 0xfe (λ y. z (f ∙ y))))

  pub walking-step : {s k left at seek i past m t : ℕ} → Walkable g d → Walking s k left at seek i → i < left → Sought (entry_granules g d at) seek (Err past)
      → m ≡ marker g d at → m ≡ 0xfe → t ≡ link g d at → Walking s k left t past (i + 1)
  walking-step {left = left} {at = at} {i = i} {past = past} {t = t} snd w h e f z y =
      record {
        rest =
            walking-past w h e
            ∙ ap (λ (b : Bool). get_or (each (entry_granules g d) (cond b (chain_from g d (left - (i + 1)) (link g d at)) [])) past 0)
            (eq-eqb (marker g d at) 0xfe (sym f ∙ z))
            ∙ ap (λ (j : ℕ). get_or (each (entry_granules g d) (chain_from g d (left - (i + 1)) j)) past 0) (sym y);
        used = rw y (snd.next at w.used (sym f ∙ z));
        low = omega (arith, w.low, e.1);
      }

  pub walking-end : {s k left at seek i : ℕ} → Walking s k left at seek i → left ≤ i → 0 ≡ get_or (each (entry_granules g d) (chain_from g d left s)) k 0
  walking-end {left = left} {at = at} {seek = seek} {i = i} w h =
      sym (w.rest ∙ ap (λ (l : List ℕ). get_or (each (entry_granules g d) l) seek 0) (chain-none (left - i) at (omega arith)))
