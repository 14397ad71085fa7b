-- One run more, and one entry more.
use mathlib.Core.Path.{◌≡◌, refl, sym, ap, ◌∙◌}
use mathlib.Core.List.{List, [], ◌++◌, append_assoc, append-nil}
use mathlib.Core.Bool.{Bool, true, false, cond}
use Prim.Native.Nat.{ℕ, zero, suc, ◌+◌, ◌-◌, ◌*◌, ◌/◌, ◌%◌, ◌≤◌, ◌<◌}
use native.Mathlib.Omega.{arith}
use native.Mathlib.Nat.{sub-zero, mul-le-mul_left, mul-add}
use lib.ListN.{length, get_or, length-append, get_or-append}
use lib.Seq.{get_or-append-add}
use lib.Dec.{eqb}
use borrow.Author.Tests.{eq-eqb, ne_eqb, eqb-true}
use Rattle.std.proofs.lemmas.Bool.{eqb-false}
use mathlib.Core.Logic.{⊎_elim}
use Rattle.meaning.specs.Lists.{count, each}
use Rattle.meaning.specs.Layout.{granule_bytes, directory_sectors}
use Rattle.meaning.specs.Entries.{runs, run_start, run_length, run_granules, entry_granules, marker, link}
use Rattle.meaning.specs.Chain.{chain_from, chain, owned, place}
use Rattle.meaning.specs.declared.Geometry.{Geometry}
use Rattle.lists.specs.Sizes
use Rattle.lists.specs.Members.{length-count}
use Rattle.lists.specs.Ranges.{count-more, count_none}
use Rattle.lists.specs.Tests.{get_or-count, le-or-lt}
use Rattle.seek.specs.Seek.{Walkable, Used, onward}
use Rattle.seek.proofs.SeekSteps.{slots_length}
use Rattle.file_runs.specs.Along.{ahead, Past, Along}

module _ (g : Geometry) (d : List ℕ) where
  -- what is ahead before an entry's first pair is what the chain from there on has
  ahead-chain : (left s : ℕ) → ahead g d left s 0 ≡ each (entry_granules g d) (chain_from g d left s)
  unfolding ahead chain_from entry_granules
  ahead-chain zero s = refl
  ahead-chain (suc left) s = ap (λ (n : ℕ). each (run_granules g d s) (count 0 n) ++ each (entry_granules g d) (onward g d left s)) (sub-zero (runs g d s))

  ahead-run : (left s k : ℕ) → 0 < left → k < runs g d s → ahead g d left s k ≡ run_granules g d s k ++ ahead g d left s (k + 1)
  unfolding ahead
  ahead-run zero s k h l = absurd (let z : ⊥ = omega arith in z)
  ahead-run (suc left) s k h l =
      ap (λ (ks : List ℕ). each (run_granules g d s) ks ++ each (entry_granules g d) (onward g d left s)) (count-more l)
      ∙ append_assoc (run_granules g d s k) (each (run_granules g d s) (count (k + 1) (runs g d s - (k + 1)))) (each (entry_granules g d) (onward g d left s))

  -- past the last pair
  ahead_past : (left s k : ℕ) → 0 < left → runs g d s ≤ k → ahead g d left s k ≡ each (entry_granules g d) (onward g d (left - 1) s)
  unfolding ahead
  ahead_past zero s k h l = absurd (let z : ⊥ = omega arith in z)
  ahead_past (suc left) s k h l =
      let e : left ≡ suc left - 1 = omega arith in
      ap (λ (ks : List ℕ). each (run_granules g d s) ks ++ each (entry_granules g d) (onward g d left s)) (count_none l)
      ∙ ap (λ (n : ℕ). each (entry_granules g d) (onward g d n s)) e

  ahead-on : (left s k : ℕ) → 0 < left → runs g d s ≤ k → marker g d s ≡ 0xfe → ahead g d left s k ≡ ahead g d (left - 1) (link g d s) 0
  ahead-on left s k h l m =
      ahead_past left s k h l
      ∙ ap (λ (b : Bool). each (entry_granules g d) (cond b (chain_from g d (left - 1) (link g d s)) [])) (eq-eqb (marker g d s) 0xfe m)
      ∙ sym (ahead-chain (left - 1) (link g d s))

  ahead_none : (left s k : ℕ) → 0 < left → runs g d s ≤ k → (marker g d s ≡ 0xfe → ⊥) → ahead g d left s k ≡ []
  ahead_none left s k h l m =
      ahead_past left s k h l
      ∙ ap (λ (b : Bool). each (entry_granules g d) (cond b (chain_from g d (left - 1) (link g d s)) [])) (ne_eqb (marker g d s) 0xfe m)

  ahead-over : (left s k : ℕ) → left ≤ 0 → ahead g d left s k ≡ []
  unfolding ahead
  ahead-over zero s k h = refl
  ahead-over (suc left) s k h = absurd (let z : ⊥ = omega arith in z)

  -- The walk --------------------------------------------------------------------------------------------------------------

  pub along-start : (s : ℕ) {left : ℕ} → Walkable g d → Used g d s → left ≡ 8 * (directory_sectors g d - 2)
      → Along g d s (record { slot = s; pair = 0; left = left; from = 0; to = 0; at = 0 })
  unfolding owned chain
  along-start s {left} w u e =
      let r = w.room in
      record {
        rest = record {
          past = [];
          whole = ap (λ (n : ℕ). each (entry_granules g d) (chain_from g d n s)) (slots_length g d r.ten r.thirty ∙ sym e)
              ∙ sym (ahead-chain left s);
          to' = omega arith;
          used = u;
          few = omega arith;
        };
        here = λ i a b. absurd (let z : ⊥ = omega arith in z);
        inside = omega arith;
      }

  module _ {s to slot pair left : ℕ} (snd : Walkable g d) (p : Past g d s to slot pair left) (h : 0 < left) where
    pub past-on : {n : ℕ} → runs g d slot ≤ pair → marker g d slot ≡ 0xfe → n ≡ link g d slot → Past g d s to n 0 (left - 1)
    past-on {n} l m e =
        record {
          past = p.past;
          whole = p.whole ∙ ap (λ (xs : List ℕ). p.past ++ xs) (ahead-on left slot pair h l m ∙ ap (λ (x : ℕ). ahead g d (left - 1) x 0) (sym e));
          to' = p.to';
          used = rw e (snd.next slot p.used m);
          few = omega arith;
        }

    module _ (l : pair < runs g d slot) (k : runs g d slot ≤ 4) where
      abbrev w : ℕ
      w = granule_bytes g

      abbrev start : ℕ
      start = run_start g d slot pair

      abbrev len : ℕ
      len = run_length g d slot pair

      split : owned g d s ≡ p.past ++ (count start len ++ ahead g d left slot (pair + 1))
      split = p.whole ∙ ap (λ (xs : List ℕ). p.past ++ xs) (ahead-run left slot pair h l)

      sized : w * length (p.past ++ count start len) ≡ to + w * len
      sized =
          ap (λ (n : ℕ). w * n) (length-append p.past (count start len) ∙ ap (λ (n : ℕ). length p.past + n) (length-count start len))
          ∙ mul-add w (length p.past) len ∙ ap (λ (n : ℕ). n + w * len) (sym p.to')

      -- byte j of the run
      placed : (j : ℕ) → j < w * len → place g d s (to + j) ≡ w * start + j
      unfolding place
      placed j b =
          let q = Sizes.split (Sizes.bytes_pos g) j in
          let t = p.to' in
          let z : to + j ≡ w * (length p.past + j / w) + j % w = omega (arith, q.is, mul-add w (length p.past) (j / w)) in
          let e : (to + j) / w ≡ length p.past + j / w = ap (λ (n : ℕ). n / w) z ∙ Sizes.at_width _ _ q.rest in
          let f : (to + j) % w ≡ j % w = ap (λ (n : ℕ). n % w) z ∙ Sizes.at_rest _ _ q.rest in
          let x = Sizes.width-lt (Sizes.bytes_pos g) j len b in
          let y : get_or (owned g d s) (length p.past + j / w) 0 ≡ start + j / w
          = ap (λ (xs : List ℕ). get_or xs (length p.past + j / w) 0) split
          ∙ get_or-append-add p.past (count start len ++ ahead g d left slot (pair + 1)) (j / w) 0
          ∙ get_or-append (count start len) (ahead g d left slot (pair + 1)) 0 (j / w) (rw (length-count start len) x)
          ∙ get_or-count start len (j / w) x in
          ap (λ (n : ℕ). w * get_or (owned g d s) n 0 + (to + j) % w) e ∙ ap (λ (n : ℕ). w * n + (to + j) % w) y
          ∙ ap (λ (n : ℕ). w * (start + j / w) + n) f
          ∙ omega (arith, q.is, mul-add w start (j / w))

      along-run : Along g d s (record { slot = slot; pair = pair + 1; left = left; from = to; to = to + w * len; at = w * start })
      along-run =
          record {
            rest = record {
              past = p.past ++ count start len;
              whole = split ∙ sym (append_assoc p.past (count start len) (ahead g d left slot (pair + 1)));
              to' = sym sized;
              used = p.used;
              few = omega arith;
            };
            here = λ i a b. let e : i ≡ to + (i - to) = omega arith in ap (place g d s) e ∙ placed (i - to) (omega arith);
            inside = omega (arith, snd.room.whole, mul-le-mul_left w (snd.run slot pair p.used l), mul-add w start len);
          }

      run-some : to < to + w * len
      run-some = omega (arith, mul-le-mul_left w (let z : 1 ≤ len = omega arith in z), Sizes.bytes_pos g)

      -- the same of the numbers that the code has
      pub next-run : {v x y : ℕ} → v ≡ granule_bytes g → x ≡ run_length g d slot pair → y ≡ run_start g d slot pair
          → Along g d s (record { slot = slot; pair = pair + 1; left = left; from = to; to = to + v * x; at = v * y }) × (to ≡ to) × (to < to + v * x)
      next-run a b e = rw (a, b, e) (along-run, refl, run-some)

  -- where granules are ahead, nothing is not
  module _ {s to slot pair left : ℕ} (p : Past g d s to slot pair left) (more : to < granule_bytes g * length (owned g d s)) where
    over : ahead g d left slot pair ≡ [] → ⊥
    over e =
        let q = ap (λ (xs : List ℕ). granule_bytes g * length xs) (p.whole ∙ ap (λ (xs : List ℕ). p.past ++ xs) e ∙ append-nil p.past) in
        omega (arith, p.to')

    pub past-some : 0 < left
    past-some = ⊎_elim (λ h. absurd (over (ahead-over left slot pair h))) (λ h. h) (le-or-lt left 0)

    pub past-marker : runs g d slot ≤ pair → marker g d slot ≡ 0xfe
    past-marker l = by (eqb (marker g d slot) 0xfe) refl
      where
        by : (t : Bool) → eqb (marker g d slot) 0xfe ≡ t → marker g d slot ≡ 0xfe
        by true e = eqb-true (marker g d slot) 0xfe e
        by false e = absurd (over (ahead_none left slot pair past-some l (eqb-false (marker g d slot) 0xfe e)))
