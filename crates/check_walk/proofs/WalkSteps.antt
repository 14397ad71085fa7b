-- The walk, step by step: a run, an entry's pairs, the chain.
use Rattle.std.specs.Prelude.{Some, None}
use mathlib.Core.Path.{◌≡◌, refl, sym, ap, ◌∙◌}
use mathlib.Core.List.{List, [], ◌∷◌, ◌++◌}
use mathlib.Core.Bool.{Bool, true, false, not, cond, ◌&&◌, ◌||◌, and-true}
use Prim.Native.Nat.{ℕ, zero, suc, ◌+◌, ◌-◌, ◌*◌, ◌/◌, ◌%◌, ◌≤◌, ◌<◌}
use native.Mathlib.Omega.{arith}
use native.Mathlib.Nat.{add-mul, one-mul, mul-le-mul}
use lib.ListN.{length, get_or, set, length-append}
use lib.Dec.{eqb, ltb, leb}
use borrow.Author.Tests.{le-leb, lt-leb, lt-ltb, le-ltb, eqb-true, not-false}
use Rattle.meaning.specs.Lists.{count, every, each, all, any}
use Rattle.lists.specs.Members.{length-count}
use Rattle.layout.proofs.HasRoom.{slot-of}
use Rattle.meaning.specs.Layout.{granules, is_slot, granule_sectors, most_blocks}
use Rattle.meaning.specs.Entries.{runs, runs_from, block, pair_byte, run_start, run_length, run_granules, entry_granules, marker, link}
use Rattle.meaning.specs.Chain.{chain_from}
use Rattle.meaning.specs.Consistent.{pairs_hold, runs_hold}
use Rattle.meaning.specs.declared.Geometry.{Geometry}
use Rattle.layout.specs.Room.{Room, Slot}
use Rattle.layout.proofs.OneStep.{runs-more, runs_none}
use Rattle.lists.specs.Tests.{and_l, and_r, all-at, all_yes, all-no, all_one, all_none, any-skip, every-count, is-no, is-yes, any-one, not-both, on, off}
use Rattle.lists.specs.Tests.{all-out}
use Rattle.check_map.specs.Marks.{marked, allows, MarksPlaces}
use Rattle.check_map.proofs.MarkLists.{marked_append, allows-append}
use Rattle.lists.specs.Members
use Rattle.check_walk.specs.Walk.{TakesRun, run_holds, unused, entry_fits, Entered, Walked, goes_on, marker_holds, chain_holds, onward}
use Rattle.check_walk.specs.Walk.{granules_of}
use Rattle.check_walk.specs.declared.Pairs.{Pairs}
use Rattle.lists.specs.Ranges.{all-four, every_append, every-alike, every_true, count_cut, each_snoc, every-snoc, left-more}

-- A run ------------------------------------------------------------------------------------------------------------------

-- a run within one block is on the disk exactly if the block is
pub block_in : (g : Geometry) (y a : ℕ) → y < g.blocks → a ≤ g.units → y * g.units + a ≤ granules g
unfolding granules
block_in g y a h l =
    let e : (y + 1) * g.units ≡ y * g.units + 1 * g.units = add-mul y 1 g.units in
    let o : 1 * g.units ≡ g.units = one-mul g.units in
    let q : (y + 1) * g.units ≤ g.blocks * g.units = mul-le-mul {n₁ = y + 1} {m₁ = g.units} {n₂ = g.blocks} {m₂ = g.units} (omega arith) (omega arith)
    in
    omega arith

pub block_out : (g : Geometry) (y a : ℕ) → g.blocks ≤ y → 1 ≤ a → granules g < y * g.units + a
unfolding granules
block_out g y a h l = let q : g.blocks * g.units ≤ y * g.units = mul-le-mul {n₁ = g.blocks} {m₁ = g.units} {n₂ = y} {m₂ = g.units} h (omega arith) in
    omega arith

-- and what is on the disk is on the owner map
pub on-map : (g : Geometry) (d : List ℕ) (a : ℕ) → Room g d → a ≤ granules g → a ≤ most_blocks * g.units
unfolding granules
on-map g d a r h = let q : g.blocks * g.units ≤ most_blocks * g.units = mul-le-mul {n₁ = g.blocks} {m₁ = g.units} {n₂ = most_blocks} {m₂ = g.units}
    r.blocks-high (omega arith) in
    omega arith

module _ (g : Geometry) (d : List ℕ) (s k least : ℕ) where
  taken_not : {m m' : List ℕ} → all (run_holds g d s k ∷ allows m least 0 (run_granules g d s k) ∷ []) ≡ false → TakesRun g d s k least m m' None
  taken_not h = record { answer = sym h; taken = tt }

  pub takes-unit : {m m' : List ℕ} {x : ℕ} → x ≡ pair_byte g d s k → g.units ≤ x / 32 → TakesRun g d s k least m m' None
  takes-unit e h = taken_not (all-no (all-no (le-ltb _ _ (rw e at h)) _) _)

  pub takes-disk : {m m' : List ℕ} {x y w : ℕ} → x ≡ pair_byte g d s k → y ≡ block g d s k → w ≡ granules g → w < y * g.units + x / 32 + (1 + x % 32)
      → TakesRun g d s k least m m' None
  takes-disk e f q h = taken_not (all-no (all-out _ 1 (lt-leb _ _ (rw (e, f, q) at h))) _)

  pub takes-map : {m m' m'' : List ℕ} {x y : ℕ} {r : Bool} → x ≡ pair_byte g d s k → y ≡ block g d s k
      → MarksPlaces m least 0 (count (y * g.units + x / 32) (1 + x % 32)) m' r → not r ≡ true → TakesRun g d s k least m m'' None
  takes-map {m} {m'} {m''} {x} {y} {r} e f w h =
      let w' : MarksPlaces m least 0 (run_granules g d s k) m' r = rw (e, f) at w in
      taken_not (all-out _ 1 (is-no w'.answer h))

  pub takes_run : {m m' : List ℕ} {x y w : ℕ} {r : Bool} → x ≡ pair_byte g d s k → y ≡ block g d s k → w ≡ granules g → x / 32 < g.units
      → y * g.units + x / 32 + (1 + x % 32) ≤ w → MarksPlaces m least 0 (count (y * g.units + x / 32) (1 + x % 32)) m' r → not r ≡ false
      → TakesRun g d s k least m m' (Some (1 + x % 32))
  takes_run {m} {m'} {x} {y} {w} {r} e f q u l k' h =
      let w' : MarksPlaces m least 0 (run_granules g d s k) m' r = rw (e, f) at k' in
      record {
        answer =
            sym (all_yes (all_yes (lt-ltb _ _ (rw e at u)) _ ∙ all_yes (le-leb _ _ (rw (e, f, q) at l)) _ ∙ all_none) _ ∙ all_yes (is-yes w'.answer h) _
            ∙ all_none);
        taken = record { small = omega arith; length-is = ap (λ (v : ℕ). 1 + v % 32) e; map = w'.map (not-false r h) };
      }

-- An entry's pairs -------------------------------------------------------------------------------------------------------

module _ (g : Geometry) (d : List ℕ) (s : ℕ) where
  -- the granules of the first k runs
  abbrev pub first_runs : ℕ → List ℕ
  first_runs k = each (run_granules g d s) (count 0 k)

  pub from-above : (m k : ℕ) → k ≤ runs_from g d s m k
  unfolding runs_from
  from-above zero k = omega arith
  from-above (suc m) k = by (from-above m (k + 1)) (eqb (block g d s k) 0xff)
    where
      by : k + 1 ≤ runs_from g d s m (k + 1) → (t : Bool) → k ≤ cond t k (runs_from g d s m (k + 1))
      by ih true = omega arith
      by ih false = omega arith

  pub record Entering (least : ℕ) (m₀ m : List ℕ) (k n : ℕ) : Type 0 where
    pub four : k ≤ 4
    pub none : runs g d s ≡ runs_from g d s (4 - k) k
    pub holds : every (run_holds g d s) (count 0 k) ≡ true
    pub allowed : allows m₀ least 0 (first_runs k) ≡ true
    pub map : m ≡ marked m₀ 0 (first_runs k)
    pub long : n ≡ length (first_runs k)
    pub few : n ≤ 32 * k

  pub entering-start : (least : ℕ) (m : List ℕ) → Entering least m m 0 0
  unfolding runs allows marked
  entering-start least m = record { four = omega arith; none = refl; holds = refl; allowed = refl; map = refl; long = refl; few = omega arith }

  -- pair k is a run
  more : {least k n : ℕ} {m₀ m : List ℕ} → Entering least m₀ m k n → k < 4 → unused g d s k ≡ false → runs g d s ≡ runs_from g d s (4 - (k + 1)) (k + 1)
  more {k = k} i h u =
      i.none ∙ ap (λ (j : ℕ). runs_from g d s j k) (left-more h) ∙ runs-more g d s (4 - (k + 1)) k
      ∙ ap (λ (b : Bool). cond b k (runs_from g d s (4 - (k + 1)) (k + 1))) u

  -- pair k is none
  stops : {least k n : ℕ} {m₀ m : List ℕ} → Entering least m₀ m k n → k < 4 → unused g d s k ≡ true → runs g d s ≡ k
  stops {k = k} i h u =
      i.none ∙ ap (λ (j : ℕ). runs_from g d s j k) (left-more h) ∙ runs-more g d s (4 - (k + 1)) k
      ∙ ap (λ (b : Bool). cond b k (runs_from g d s (4 - (k + 1)) (k + 1))) u

  pub entering-step : {least k n len x : ℕ} {m₀ m m' : List ℕ} → Entering least m₀ m k n → k < 4 → x ≡ block g d s k → (x ≡ 0xff → ⊥)
      → TakesRun g d s k least m m' (Some len) → Entering least m₀ m' (k + 1) (n + len)
  entering-step {least} {k} {n} {len} {x} {m₀} {m} {m'} i h e u w =
      let t = w.taken in
      let on : all (run_holds g d s k ∷ allows m least 0 (run_granules g d s k) ∷ []) ≡ true = sym w.answer in
      let a : allows m₀ least 0 (first_runs k ++ run_granules g d s k) ≡ true
      = allows-append m₀ least 0 (first_runs k) (run_granules g d s k) ∙ rw (i.allowed, ← i.map) (all-at _ on 1) in
      let l : length (first_runs k ++ run_granules g d s k) ≡ length (first_runs k) + run_length g d s k
      = length-append (first_runs k) (run_granules g d s k)
      ∙ ap (λ (j : ℕ). length (first_runs k) + j) (length-count (run_start g d s k) (run_length g d s k)) in
      let q = t.small in
      let v = i.few in
      record {
        four = omega arith;
        none = more i h (off e u);
        holds = every-snoc (run_holds g d s) k i.holds (all-at _ on 0);
        allowed = ap (allows m₀ least 0) (each_snoc (run_granules g d s) k) ∙ a;
        map = t.map ∙ ap (λ (l : List ℕ). marked l 0 (run_granules g d s k)) i.map ∙ sym (marked_append m₀ 0 (first_runs k) (run_granules g d s k))
            ∙ ap (marked m₀ 0) (sym (each_snoc (run_granules g d s) k));
        long =
            ap (λ (j : ℕ). j + len) i.long ∙ ap (λ (j : ℕ). length (first_runs k) + j) t.length-is ∙ sym l
            ∙ ap {B = ℕ} length (sym (each_snoc (run_granules g d s) k));
        few = omega arith;
      }

  -- what the whole entry says of its first runs
  prefix : (least k : ℕ) (m₀ : List ℕ) → k ≤ runs g d s → entry_fits g d s least m₀ ≡ true → allows m₀ least 0 (first_runs k) ≡ true
  unfolding entry_granules
  prefix least k m₀ h e =
      let c : entry_granules g d s ≡ first_runs k ++ each (run_granules g d s) (count k (runs g d s - k))
      = ap (each (run_granules g d s)) (count_cut h) ∙ Members.each_append (run_granules g d s) (count 0 k) (count k (runs g d s - k)) in
      and_l _ _ (sym (ap (allows m₀ least 0) c ∙ allows-append m₀ least 0 (first_runs k) (each (run_granules g d s) (count k (runs g d s - k)))) ∙ all-at _ e 2)

  run-holds : (least k : ℕ) (m₀ : List ℕ) → k < runs g d s → entry_fits g d s least m₀ ≡ true → run_holds g d s k ≡ true
  unfolding runs_hold
  run-holds least k m₀ h e = every-count (run_holds g d s) 0 (runs g d s) k (all-at _ e 1) (omega arith) (omega arith)

  pub entering-bad : {least k n x : ℕ} {m₀ m m' m'' : List ℕ} → Entering least m₀ m k n → k < 4 → x ≡ block g d s k → (x ≡ 0xff → ⊥)
      → TakesRun g d s k least m m' None → Entered g d s least m₀ m'' None
  entering-bad {least} {k} {n} {x} {m₀} {m} i h e u w = record { answer = sym (by (entry_fits g d s least m₀) refl); taken = tt }
    where
      above : k + 1 ≤ runs g d s
      above = rw (more i h (off e u)) (from-above (4 - (k + 1)) (k + 1))

      by : (t : Bool) → entry_fits g d s least m₀ ≡ t → entry_fits g d s least m₀ ≡ false
      by true q =
          let a : allows m₀ least 0 (first_runs k ++ run_granules g d s k) ≡ true = ap (allows m₀ least 0) (sym (each_snoc (run_granules g d s) k)) ∙ prefix
          least (k + 1) m₀ above q in
          let b : allows (marked m₀ 0 (first_runs k)) least 0 (run_granules g d s k) ≡ true
          = and_r (allows m₀ least 0 (first_runs k)) (allows (marked m₀ 0 (first_runs k)) least 0 (run_granules g d s k))
          (sym (allows-append m₀ least 0 (first_runs k) (run_granules g d s k)) ∙ a) in
          let c : allows m least 0 (run_granules g d s k) ≡ true = ap (λ (l : List ℕ). allows l least 0 (run_granules g d s k)) i.map ∙ b in
          not-both (all_yes (run-holds least k m₀ (omega (arith, above)) q) _ ∙ all_yes c _ ∙ all_none) (sym w.answer)
      by false q = q

  -- the pairs past the last run
  pairs-past : {k : ℕ} → runs g d s ≡ k → k ≤ 4 → pairs_hold g d s ≡ every (unused g d s) (count k (4 - k))
  unfolding pairs_hold
  pairs-past {k} e h =
      ap (every (λ j. ltb j (runs g d s) || unused g d s j)) (count_cut h) ∙ every_append (λ j. ltb j (runs g d s) || unused g d s j) (count 0 k)
      (count k (4 - k))
      ∙ ap (λ (b : Bool). b && every (λ j. ltb j (runs g d s) || unused g d s j) (count k (4 - k)))
      (every_true (λ j. ltb j (runs g d s) || unused g d s j) 0 k (λ j a b. ap (λ (t : Bool). t || unused g d s j) (lt-ltb j (runs g d s) (omega arith))))
      ∙ every-alike (λ j. ltb j (runs g d s) || unused g d s j) (unused g d s) k (4 - k)
      (λ j a b. ap (λ (t : Bool). t || unused g d s j) (le-ltb j (runs g d s) (omega arith)))

  -- all runs are taken
  whole : {least k n : ℕ} {m₀ m : List ℕ} → Entering least m₀ m k n → runs g d s ≡ k → pairs_hold g d s ≡ true → Entered g d s least m₀ m
      (Some (record { runs = k; granules = n }))
  unfolding runs_hold entry_granules
  whole {least} {k} {n} {m₀} {m} i e q =
      let f = i.few in
      let b = i.four in
      let hold : runs_hold g d s ≡ true = ap (λ (j : ℕ). every (run_holds g d s) (count 0 j)) e ∙ i.holds in
      let own : first_runs k ≡ entry_granules g d s = ap (λ (j : ℕ). each (run_granules g d s) (count 0 j)) (sym e) in
      let allow : allows m₀ least 0 (entry_granules g d s) ≡ true = ap (allows m₀ least 0) (sym own) ∙ i.allowed in
      record {
        answer = sym (all_yes q _ ∙ all_yes hold _ ∙ all_yes allow _ ∙ all_none);
        taken = record { few = omega arith; runs-is = sym e; granules-is = i.long ∙ ap {B = ℕ} length own; map = i.map ∙ ap (marked m₀ 0) own };
      }

  -- pair k is no run, but a later one is
  pub entering-astray : {least k n x : ℕ} {m₀ m m'' : List ℕ} → Entering least m₀ m k n → k < 4 → x ≡ block g d s k → x ≡ 0xff
      → every (unused g d s) (count k (4 - k)) ≡ false → Entered g d s least m₀ m'' None
  entering-astray i h e u q = record { answer = sym (all-no (pairs-past (stops i h (on e u)) i.four ∙ q) _); taken = tt }

  -- pair k is no run, and no later one is
  pub entering-stop : {least k n x : ℕ} {m₀ m : List ℕ} → Entering least m₀ m k n → k < 4 → x ≡ block g d s k → x ≡ 0xff
      → every (unused g d s) (count k (4 - k)) ≡ true → Entered g d s least m₀ m (Some (record { runs = k; granules = n }))
  entering-stop i h e u q = let z = stops i h (on e u) in whole i z (pairs-past z i.four ∙ q)

  pub entering-end : {least k n : ℕ} {m₀ m : List ℕ} → Entering least m₀ m k n → 4 ≤ k → Entered g d s least m₀ m
      (Some (record { runs = 4; granules = n }))
  entering-end {least} {k} {n} {m₀} {m} i h =
      let e : k ≡ 4 = let f = i.four in omega arith in
      let j = rw e at i in
      let z : runs g d s ≡ 4 = j.none ∙ runs_none g d s 4 in
      whole {k = 4} j z (pairs-past z (omega arith))

-- what `goes_on` reads of a slot, once it is one
pub ruleset is_one = (slot-of)

-- The chain ---------------------------------------------------------------------------------------------------------------

module _ (g : Geometry) (d : List ℕ) where
  pub goes-slot : (h s : ℕ) → goes_on g d h s ≡ true → is_slot g d (link g d s) ≡ true
  unfolding goes_on
  goes-slot h s e = all-at _ e 2

  -- so it has an entry
  pub goes-slot-of : (h s : ℕ) {t : ℕ} → goes_on g d h s ≡ true → t ≡ link g d s → Slot g d t
  goes-slot-of h s e f = slot-of g d _ (ap (is_slot g d) f ∙ goes-slot h s e)

  goes-marker : (h s : ℕ) → goes_on g d h s ≡ true → marker g d s ≡ 0xfe
  unfolding goes_on
  goes-marker h s e = eqb-true _ _ (all-at _ e 0)

  chain-some : {left : ℕ} (s : ℕ) → (left ≡ 0 → ⊥) → chain_from g d left s ≡ s ∷ onward g d s (chain_from g d (left - 1) (link g d s))
  unfolding chain_from onward
  chain-some {left = zero} s n = absurd (n refl)
  chain-some {left = suc left} s n =
      let e : suc left - 1 ≡ left = omega arith in
      ap (λ (j : ℕ). s ∷ onward g d s (chain_from g d j (link g d s))) (sym e)

  holds-some : {left : ℕ} (h s : ℕ) → (left ≡ 0 → ⊥)
      → chain_holds g d h left s ≡ all (pairs_hold g d s ∷ runs_hold g d s ∷ marker_holds g d h s (chain_holds g d h (left - 1) (link g d s)) ∷ [])
  unfolding chain_holds
  holds-some {left = zero} h s n = absurd (n refl)
  holds-some {left = suc left} h s n =
      let e : suc left - 1 ≡ left = omega arith in
      ap (λ (j : ℕ). all (pairs_hold g d s ∷ runs_hold g d s ∷ marker_holds g d h s (chain_holds g d h j (link g d s)) ∷ [])) (sym e)

  holds-none : {left : ℕ} (h s : ℕ) → left ≡ 0 → chain_holds g d h left s ≡ false
  unfolding chain_holds
  holds-none h s e = ap (λ (j : ℕ). chain_holds g d h j s) e

  walked-no : {least sectors owned : ℕ} {right : Bool} {cs m m' met met' : List ℕ}
      → all (right ∷ allows m least 0 (granules_of g d cs) ∷ allows met 1 0 cs ∷ leb sectors (granule_sectors g * (owned + length (granules_of g d cs))) ∷ []) ≡
      false
      → Walked g d least sectors owned right cs m m' met met' false
  walked-no h = record { answer = sym h; map = λ q. not-both q refl; meets = λ q. not-both q refl }

  -- no entry is left to visit
  pub walked_none : {least sectors owned : ℕ} (h s : ℕ) {left : ℕ} {cs m m' met met' : List ℕ} → left ≡ 0 → Walked g d least sectors owned
      (chain_holds g d h left s) cs m m' met met' false
  walked_none h s e = walked-no (all-no (holds-none h s e) _)

  -- the slot was met before
  pub walked-again : {least sectors owned : ℕ} (s : ℕ) {right : Bool} {left : ℕ} {m m' met met' : List ℕ} → (left ≡ 0 → ⊥) → get_or met s 0 < 1
      → Walked g d least sectors owned right (chain_from g d left s) m m' met met' false
  unfolding allows
  walked-again s {left = left} {met = met} n h =
      walked-no (all-out _ 2 (ap (allows met 1 0) (chain-some s n)
      ∙ ap (λ (b : Bool). b && allows (set met s 0) 1 0 (onward g d s (chain_from g d (left - 1) (link g d s)))) (lt-leb 1 (get_or met s 0) h)))

  split : {left : ℕ} (s : ℕ) → (left ≡ 0 → ⊥) → granules_of g d (chain_from g d left s) ≡ entry_granules g d s ++ granules_of g d
      (onward g d s (chain_from g d (left - 1) (link g d s)))
  split s n = ap (each (entry_granules g d)) (chain-some s n)

  -- the entry does not hold
  pub walked-entry-no : {least sectors owned : ℕ} (h s : ℕ) {left : ℕ} {m m₁ m' met met' : List ℕ} → (left ≡ 0 → ⊥) → Entered g d s least m m₁ None
      → Walked g d least sectors owned (chain_holds g d h left s) (chain_from g d left s) m m' met met' false
  walked-entry-no {least} {sectors} {owned} h s {left} {m} {m₁} {m'} {met} n w = walked-no (by _ refl)
    where
      rest : List ℕ
      rest = granules_of g d (onward g d s (chain_from g d (left - 1) (link g d s)))

      by : (b : Bool)
          → all (chain_holds g d h left s ∷ allows m least 0 (granules_of g d (chain_from g d left s)) ∷ allows met 1 0 (chain_from g d left s)
          ∷ leb sectors (granule_sectors g * (owned + length (granules_of g d (chain_from g d left s)))) ∷ []) ≡ b
          → all (chain_holds g d h left s ∷ allows m least 0 (granules_of g d (chain_from g d left s)) ∷ allows met 1 0 (chain_from g d left s)
          ∷ leb sectors (granule_sectors g * (owned + length (granules_of g d (chain_from g d left s)))) ∷ []) ≡ false
      by false q = q
      by true q =
          let c = sym (holds-some h s n) ∙ all-at _ q 0 in
          let a : allows m least 0 (entry_granules g d s) ≡ true
          = and_l _ _ (sym (allows-append m least 0 (entry_granules g d s) rest) ∙ sym (ap (allows m least 0) (split s n)) ∙ all-at _ q 1) in
          not-both (all_yes (all-at _ c 0) _ ∙ all_yes (all-at _ c 1) _ ∙ all_yes a _ ∙ all_none) (sym w.answer)

  -- the entry holds, and its marker was walked
  pub walked-entry : {least sectors owned : ℕ} (h s : ℕ) {left : ℕ} {m m₁ m₂ met met₂ : List ℕ} {p : Pairs} {r : Bool} → (left ≡ 0 → ⊥) → 1 ≤ get_or met s 0 →
      Entered g d s least m m₁ (Some p)
      → Walked g d least sectors (owned + p.granules) (marker_holds g d h s (chain_holds g d h (left - 1) (link g d s)))
      (onward g d s (chain_from g d (left - 1) (link g d s))) m₁ m₂ (set met s 0) met₂ r
      → Walked g d least sectors owned (chain_holds g d h left s) (chain_from g d left s) m m₂ met met₂ r
  unfolding allows marked
  walked-entry {least} {sectors} {owned} h s {left} {m} {m₁} {m₂} {met} {met₂} {p} {r} n l w k =
      record {
        answer = k.answer ∙ sym (all-four c a b o);
        map = λ q. k.map q ∙ ap (λ (v : List ℕ). marked v 0 rest) here ∙ sym (marked_append m 0 (entry_granules g d s) rest) ∙ ap (marked m 0)
            (sym (split s n));
        meets = λ q. k.meets q ∙ ap (marked met 0) (sym (chain-some s n));
      }
    where
      cs : List ℕ
      cs = onward g d s (chain_from g d (left - 1) (link g d s))

      rest : List ℕ
      rest = granules_of g d cs

      fits : entry_fits g d s least m ≡ true
      fits = sym w.answer

      here : m₁ ≡ marked m 0 (entry_granules g d s)
      here = w.taken.map

      c : chain_holds g d h left s ≡ marker_holds g d h s (chain_holds g d h (left - 1) (link g d s))
      c = holds-some h s n ∙ all_yes (all-at _ fits 0) _ ∙ all_yes (all-at _ fits 1) _ ∙ all_one _

      a : allows m least 0 (granules_of g d (chain_from g d left s)) ≡ allows m₁ least 0 rest
      a = ap (allows m least 0) (split s n) ∙ allows-append m least 0 (entry_granules g d s) rest
          ∙ ap (λ (z : Bool). z && allows (marked m 0 (entry_granules g d s)) least 0 rest) (all-at _ fits 2) ∙ ap (λ (v : List ℕ). allows v least 0 rest)
          (sym here)

      b : allows met 1 0 (chain_from g d left s) ≡ allows (set met s 0) 1 0 cs
      b = ap (allows met 1 0) (chain-some s n) ∙ ap (λ (z : Bool). z && allows (set met s 0) 1 0 cs) (le-leb 1 (get_or met s 0) l)

      o : leb sectors (granule_sectors g * (owned + length (granules_of g d (chain_from g d left s)))) ≡ leb sectors
          (granule_sectors g * (owned + p.granules + length rest))
      o = let e : length (granules_of g d (chain_from g d left s)) ≡ p.granules + length rest
          = ap {B = ℕ} length (split s n) ∙ length-append (entry_granules g d s) rest ∙ ap (λ (j : ℕ). j + length rest) (sym w.taken.granules-is) in
          let f : owned + length (granules_of g d (chain_from g d left s)) ≡ owned + p.granules + length rest = omega arith in
          ap (λ (j : ℕ). leb sectors (granule_sectors g * j)) f

  -- the marker is FFH
  pub walked_end : {least sectors owned w : ℕ} (h s : ℕ) (rest : Bool) (cs : List ℕ) {x : ℕ} {m met : List ℕ} → w ≡ granule_sectors g → x ≡ marker g d s → x ≡
      0xff
      → Walked g d least sectors owned (marker_holds g d h s rest) (onward g d s cs) m m met met (leb sectors (w * owned))
  unfolding marker_holds onward allows marked all any
  walked_end {least} {sectors} {owned} {w} h s rest cs {x} {m} {met} v e f =
      let q : marker g d s ≡ 0xff = sym e ∙ f in
      let z : owned + 0 ≡ owned = omega arith in
      record { answer = rw (v, q, z, and-true); map = λ t. rw q; meets = λ t. rw q }

  -- the marker is not FFH, and does not lead on
  pub walked_stop : {least sectors owned : ℕ} (h s : ℕ) (rest : Bool) {x : ℕ} {cs m m' met met' : List ℕ} → x ≡ marker g d s → (x ≡ 0xff → ⊥) → goes_on g d h s
      ≡ false
      → Walked g d least sectors owned (marker_holds g d h s rest) cs m m' met met' false
  unfolding marker_holds
  walked_stop h s rest e f n = walked-no (all-no (any-skip (off e f) _ ∙ any-one _ ∙ all-no n _) _)

  -- it leads on
  pub walked_on : {least sectors owned : ℕ} (h s left : ℕ) {x t : ℕ} {m m' met met' : List ℕ} {r : Bool} → x ≡ marker g d s → (x ≡ 0xff → ⊥) → goes_on g d h s
      ≡ true → t ≡ link g d s
      → Walked g d least sectors owned (chain_holds g d h left t) (chain_from g d left t) m m' met met' r
      → Walked g d least sectors owned (marker_holds g d h s (chain_holds g d h left (link g d s))) (onward g d s (chain_from g d left (link g d s))) m m' met
      met' r
  unfolding marker_holds onward
  walked_on h s left e f n q w = rw (holds, rest) (rw q at w)
    where
      holds : marker_holds g d h s (chain_holds g d h left (link g d s)) ≡ chain_holds g d h left (link g d s)
      holds = any-skip (off e f) _ ∙ any-one _ ∙ all_yes n _ ∙ all_one _

      rest : onward g d s (chain_from g d left (link g d s)) ≡ chain_from g d left (link g d s)
      rest = ap (λ (v : ℕ). cond (eqb v 0xfe) (chain_from g d left (link g d s)) []) (goes-marker h s n)
