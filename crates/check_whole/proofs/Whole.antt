-- The whole disk: the tests by maps hold exactly if the disk is consistent.
use mathlib.Core.Path.{◌≡◌, refl, sym, ap, ◌∙◌}
use mathlib.Core.Logic.{◌⊎◌, inl, inr}
use mathlib.Core.List.{List, [], ◌∷◌}
use mathlib.Core.Bool.{Bool, true, false, not, cond, ◌||◌, beq}
use Prim.Native.Nat.{ℕ, ◌+◌, ◌-◌, ◌*◌, ◌/◌, ◌%◌, ◌≤◌, ◌<◌}
use native.Mathlib.Omega.{arith}
use lib.Dec.{T, eqb, eqb→eq, T_not, not_T}
use lib.ListN.{length, get_or}
use borrow.Author.Tests.{eq-eqb, ne_eqb, eqb-true, eqb-false, le-leb, leb-true}
use Rattle.meaning.specs.Lists.{count, every, each, keep, has, distinct, any}
use Rattle.meaning.specs.Bits.{bit}
use Rattle.meaning.specs.Layout.{granules, taken, field, hit, slots, is_slot, directory_granules, granule_bytes, granule_sectors}
use Rattle.lists.specs.Sizes
use Rattle.meaning.specs.Names.{hash}
use Rattle.meaning.specs.Entries.{in_use, in_use_primary, system, runs, run_start, run_length, run_granules, entry_granules, name_of, sector_count, end_byte}
use Rattle.meaning.specs.Entries.{size_of}
use Rattle.meaning.specs.Chain.{chain, owned, files}
use Rattle.meaning.specs.Consistent.{length_holds, hit_holds, runs_hold, gat_holds, entry_holds, slot_holds, file_holds, names_differ, met, consistent}
use Rattle.meaning.specs.Consistent.{count_holds}
use Rattle.meaning.specs.declared.Geometry.{Geometry}
use Rattle.layout.specs.Room.{Room}
use Rattle.lists.specs.Tests.{all-at, all_yes, all-no, all_none, any_last, not_yes, every-count, not-both}
use Rattle.check_map.specs.Marks.{marked}
use Rattle.check_map.specs.Owners.{GatMap, standing}
use Rattle.check_map.specs.Eight.{Among}
use Rattle.check_walk.specs.Walk.{chain_holds, run_holds}
use Rattle.lists.specs.Members
use Rattle.lists.specs.Members.{In}
use Rattle.laws.specs.Facts
use Rattle.laws.specs.Facts.{IsFile, Sound}
use Rattle.laws.specs.Entry
use Rattle.laws.specs.Change
use Rattle.check_file.specs.Slots.{least, least_of, name_fits, file_fits, slot_fits, chain_of, owned_of, one, slots_fit, Seen, Directory}
use Rattle.check_whole.specs.Slots.{disk_slots}
use Rattle.check_met.specs.Met.{HitCopied, met_at}
use Rattle.check_whole.proofs.Maps
use Rattle.check_whole.proofs.Order.{fit-alike, marked-alike, disk-order}
use Rattle.check_file.proofs.Directory.{all-open, open-all}
use Rattle.check_whole.proofs.Bridge
use Rattle.check_whole.proofs.Bridge.{MapBefore, Held, GoodEntry}

-- the image's bytes are bytes
abbrev pub Bytes : List ℕ → Type 0
Bytes d = (i : ℕ) → get_or d i 0 < 256

module _ (g : Geometry) (d : List ℕ) where
  -- Small parts ---------------------------------------------------------------------------------------------------------------

  pub least-low : (s : ℕ) → 1 ≤ least_of g d s
  unfolding least
  least-low s = go (bit 6 (field g d s 0))
    where
      go : (b : Bool) → 1 ≤ cond b 1 2
      go true = omega arith
      go false = omega arith

  least-two : (s : ℕ) → system g d s ≡ false → ◌≡◌ {A = ℕ} (least_of g d s) 2
  unfolding least
  least-two s e = ap {B = ℕ} (λ (b : Bool). cond b 1 2) e

  least-one : (s : ℕ) → system g d s ≡ true → ◌≡◌ {A = ℕ} (least_of g d s) 1
  unfolding least
  least-one s e = ap {B = ℕ} (λ (b : Bool). cond b 1 2) e

  owned-of : (p : ℕ) → T (in_use_primary g d p) → owned_of g d p ≡ owned g d p
  unfolding owned_of
  owned-of p t = rw (Members.T_true {b = in_use_primary g d p} t)

  of-chain : (p x : ℕ) → In x (chain_of g d p) → T (in_use_primary g d p) × In x (chain g d p)
  unfolding chain_of
  of-chain p x i = go (in_use_primary g d p) refl i
    where
      go : (b : Bool) → in_use_primary g d p ≡ b → In x (cond b (chain g d p) []) → T (in_use_primary g d p) × In x (chain g d p)
      go true e j = (Members.true-T e, j)
      go false e j = Members.none_in j

  of-owned : (p x : ℕ) → In x (owned_of g d p) → T (in_use_primary g d p) × In x (owned g d p)
  unfolding owned_of
  of-owned p x i = go (in_use_primary g d p) refl i
    where
      go : (b : Bool) → in_use_primary g d p ≡ b → In x (cond b (owned g d p) []) → T (in_use_primary g d p) × In x (owned g d p)
      go true e j = (Members.true-T e, j)
      go false e j = Members.none_in j

  all-chains : met g d ≡ each (chain_of g d) (slots g d)
  unfolding met files chain_of
  all-chains = Maps.each_keep (in_use_primary g d) (chain g d) (slots g d)

  all-owned : each (owned g d) (files g d) ≡ each (owned_of g d) (slots g d)
  unfolding files owned_of
  all-owned = Maps.each_keep (in_use_primary g d) (owned g d) (slots g d)

  entry_lt : (x n : ℕ) → runs_hold g d x ≡ true → In n (entry_granules g d x) → n < granules g
  unfolding entry_granules runs_hold
  entry_lt x n e i =
      let k = Members.each_in (run_granules g d x) n (count 0 (runs g d x)) i in
      let j = Members.count-in k.0 0 (runs g d x) k.1 in
      let q = every-count (run_holds g d x) 0 (runs g d x) k.0 e (omega arith) (omega arith) in
      let l = leb-true (run_start g d x k.0 + run_length g d x k.0) (granules g) (all-at _ q 1) in
      let z = Members.count-in n (run_start g d x k.0) (run_length g d x k.0) k.2 in omega arith

  unused-hit : (s : ℕ) → hit_holds g d s ≡ true → T (in_use g d s) → hit g d s ≡ 0 → ⊥
  unfolding hit_holds
  unused-hit s e u z = not-both (sym (rw (z, Members.T_true {b = in_use g d s} u)) ∙ e) refl

  used-hit : (s : ℕ) → hit_holds g d s ≡ true → (hit g d s ≡ 0 → ⊥) → T (in_use g d s)
  unfolding hit_holds
  used-hit s e n = Members.true-T (sym (ap (λ (b : Bool). beq (not b) (in_use g d s)) (ne_eqb _ _ n) ∙ beq-true (in_use g d s)) ∙ e)
    where
      beq-true : (b : Bool) → beq true b ≡ b
      beq-true true = refl
      beq-true false = refl

  -- the size fits exactly if the sector count does
  size-le : (p : ℕ) → Bytes d → count_holds (sector_count g d p) (end_byte g d p) ≡ true → sector_count g d p ≤ granule_sectors g * length (owned g d p)
      → size_of g
      d p ≤ granule_bytes g * length (owned g d p)
  unfolding size_of field
  size-le p b c l = go (eqb (end_byte g d p) 0) refl
    where
      go : (t : Bool) → eqb (end_byte g d p) 0 ≡ t
          → cond (eqb (end_byte g d p) 0) (256 * sector_count g d p) (256 * (sector_count g d p - 1) + end_byte g d p) ≤
          granule_bytes g * length (owned g d p)
      go true e = rw e (omega (arith, ap (λ (x : ℕ). x * length (owned g d p)) (Sizes.bytes-are g)))
      go false e =
          let n : (sector_count g d p ≡ 0 → ⊥) = λ z. not-both (sym (ap (λ (k : ℕ). not (eqb k 0) || eqb (end_byte g d p) 0) z ∙ e) ∙ c) refl in
          let w = b (entry_place + 3) in
          rw e (omega (arith, ap (λ (x : ℕ). x * length (owned g d p)) (Sizes.bytes-are g)))
        where
          entry_place : ℕ
          entry_place = 256 * (g.start + 2 + p % 32) + 32 * (p / 32)

  le-size : (p : ℕ) → (sector_count g d p ≡ 0 → end_byte g d p ≡ 0) → size_of g d p ≤ granule_bytes g * length (owned g d p)
      → sector_count g d p ≤ granule_sectors
      g * length (owned g d p)
  unfolding size_of
  le-size p c l = go (eqb (end_byte g d p) 0) refl
    where
      go : (t : Bool) → eqb (end_byte g d p) 0 ≡ t → sector_count g d p ≤ granule_sectors g * length (owned g d p)
      go true e = let h = rw e at l in omega (arith, ap (λ (x : ℕ). x * length (owned g d p)) (Sizes.bytes-are g))
      go false e = let h = rw e at l in let n = eqb-false (end_byte g d p) 0 e in omega (arith, ap (λ (x : ℕ). x * length (owned g d p)) (Sizes.bytes-are g))

  -- From the maps to the disk -------------------------------------------------------------------------------------------------

  module _ (lh : length_holds g d ≡ true) (m seen : List ℕ) (b : MapBefore g d m) (copy : HitCopied g d seen) (bytes : Bytes d)
      (dt : every (taken g d) (directory_granules g d) ≡ true)
      (fit : slots_fit g d m seen (slots g d) ≡ true) (all-met : every (met_at (marked seen 0 (each (chain_of g d) (slots g d)))) (slots g d) ≡ true) where
    fits : every (slot_fits g d) (slots g d) ≡ true
    unfolding slots_fit
    fits = all-at _ fit 0

    own : Maps.Opens m (least_of g d) (owned_of g d) (slots g d)
    unfolding slots_fit
    own = Maps.opens-says (least_of g d) (owned_of g d) least-low (slots g d) m (all-at _ fit 1)

    cha : Maps.Opens seen one (chain_of g d) (slots g d)
    unfolding slots_fit
    cha = Maps.opens-says one (chain_of g d) (λ s. omega arith) (slots g d) seen (all-at _ fit 2)

    slot-fits : (s : ℕ) → T (is_slot g d s) → slot_fits g d s ≡ true
    slot-fits s t = Members.T_true (Members.every-all (slot_fits g d) (Members.true-T fits) (Facts.in-slots g d s t))

    hit-fits : (s : ℕ) → T (is_slot g d s) → hit_holds g d s ≡ true
    unfolding slot_fits
    hit-fits s t = all-at _ (slot-fits s t) 0

    file-fits : (p : ℕ) → IsFile g d p → file_fits g d p ≡ true
    unfolding slot_fits
    file-fits p f = any_last _ _ (all-at _ (slot-fits p f.slot) 1) (not_yes (Members.T_true {b = in_use_primary g d p} f.primary'))

    pub hashed : (p : ℕ) → IsFile g d p → hit g d p ≡ hash (name_of g d p)
    unfolding file_fits name_fits
    hashed p f = eqb-true _ _ (all-at _ (all-at _ (file-fits p f) 1) 1)

    held : (p s : ℕ) → IsFile g d p → In s (chain g d p) → Held g d (hit g d p) p s
    unfolding file_fits chain
    held p s f i = Bridge.chain-says g d (hit g d p) (length (slots g d)) p s (all-at _ (file-fits p f) 3) i

    covered : (s : ℕ) → T (is_slot g d s) → T (in_use g d s) → (p : ℕ) × IsFile g d p × In s (chain g d p)
    covered s t u =
        go (eqb→eq _ _ (Members.every-all (met_at (marked seen 0 (each (chain_of g d) (slots g d)))) (Members.true-T all-met) (Facts.in-slots g d s t)))
        (Members.in? s (each (chain_of g d) (slots g d)))
      where
        go : ◌≡◌ {A = ℕ} (get_or (marked seen 0 (each (chain_of g d) (slots g d))) s 0) 0 → In s (each (chain_of g d) (slots g d)) ⊎
            (In s (each (chain_of g d) (slots g d)) → ⊥)
            → (p : ℕ) × IsFile g d p × In s (chain g d p)
        go z (inl i) =
            let k = Members.each_in (chain_of g d) s (slots g d) i in
            let c = of-chain k.0 s k.2 in
            (k.0, record { slot = Facts.slots-in g d k.0 k.1; primary' = c.0 }, c.1)
        go z (inr f) =
            absurd (unused-hit s (hit-fits s t) u
            (sym (copy.is s (Facts.slot_lt g d s t)) ∙ sym (Maps.marked-out 0 s (each (chain_of g d) (slots g d)) seen f) ∙ z))

    high : (p n : ℕ) → IsFile g d p → In n (owned g d p) → least_of g d p ≤ get_or m n 0
    high p n f i = own.high p n (Facts.in-slots g d p f.slot) (rw (owned-of p f.primary') i)

    owned-lt : (p n : ℕ) → IsFile g d p → In n (owned g d p) → n < granules g
    unfolding owned
    owned-lt p n f i =
        let k = Members.each_in (entry_granules g d) n (chain g d p) i in
        entry_lt k.0 n (held p k.0 f k.1).runs-hold k.2

    in-owned : (p s n : ℕ) → In s (chain g d p) → In n (entry_granules g d s) → In n (owned g d p)
    unfolding owned
    in-owned p s n i j = Members.in-each (entry_granules g d) i j

    gat : (p s : ℕ) → IsFile g d p → In s (chain g d p) → gat_holds g d s ≡ true
    unfolding gat_holds
    gat p s f i =
        Members.T_true (Members.all-every (taken g d) (entry_granules g d s) (λ n j.
        let o = in-owned p s n i j in
        let h = high p n f o in
        let l = least-low p in
        b.taken_in n (owned-lt p n f o) (omega arith)))

    entry-holds : (s : ℕ) → T (is_slot g d s) → T (in_use g d s) → entry_holds g d s ≡ true
    entry-holds s t u =
        let c = covered s t u in
        let h = held c.0 s c.1 c.2 in
        all_yes h.pairs _ ∙ all_yes h.linked _ ∙ all_yes h.runs-hold _ ∙ all_yes (gat c.0 s c.1 c.2) _ ∙ all_none

    slot-holds : every (slot_holds g d) (slots g d) ≡ true
    unfolding slot_holds
    slot-holds =
        Members.T_true (Members.all-every (slot_holds g d) (slots g d) (λ s i.
        let t = Facts.slots-in g d s i in
        Members.all_two (hit_holds g d s) (any (not (in_use g d s) ∷ entry_holds g d s ∷ [])) (Members.true-T (hit-fits s t))
        (Members.any-if (in_use g d s) (entry_holds g d s) (λ u. Members.true-T (entry-holds s t u)))))

    filed : (p : ℕ) → IsFile g d p → Entry.Filed g d p
    unfolding file_fits name_fits
    filed p f =
        let e = file-fits p f in
        let n = all-at _ e 1 in
        record {
          name = Members.true-T (all-at _ n 0);
          zero' = Members.true-T (all-at _ e 0);
          hashes = λ s i. hash-of s (held p s f i).hits;
          count' = λ z. eqb→eq _ _ (Members.if-or (eqb (sector_count g d p) 0) (eqb (end_byte g d p) 0) (Members.true-T (all-at _ e 2)) (Members.eq-T z));
          fits = size-le p bytes (all-at _ e 2) (leb-true _ _ (all-at _ e 4));
          off = λ u k i j. b.off-in k (let h = high p k f i in let l = least-two p (Members.no_false {b = system g d p} (T_not (system g d p) u)) in omega
              arith) j;
        }
      where
        hash-of : (s : ℕ) → (s ≡ p) ⊎ (hit g d s ≡ hit g d p) → hit g d s ≡ hash (name_of g d p)
        hash-of s (inl q) = ap (hit g d) q ∙ hashed p f
        hash-of s (inr q) = q ∙ hashed p f

    file-holds : every (file_holds g d) (files g d) ≡ true
    file-holds =
        Members.T_true (Members.all-every (file_holds g d) (files g d) (λ p i. let f = Facts.files-in g d p i in Entry.says-filed g d p (filed p f)))

    met-once : distinct (met g d) ≡ true
    met-once = Members.T_true (Members.says-distinct {xs = met g d} (rw all-chains cha.once))

    met_all : every (has (met g d)) (keep (in_use g d) (slots g d)) ≡ true
    met_all =
        Members.T_true (Members.all-every (has (met g d)) (keep (in_use g d) (slots g d)) (λ s i.
        let k = Members.keep-in (in_use g d) s (slots g d) i in
        let c = covered s (Facts.slots-in g d s k.0) k.1 in
        Members.in-has (Facts.in-met g d c.0 s c.1 c.2)))

    owned-once : distinct (each (owned g d) (files g d)) ≡ true
    owned-once = Members.T_true (Members.says-distinct {xs = each (owned g d) (files g d)} (rw all-owned own.once))

    pub disk-holds : names_differ g d (files g d) ≡ true → consistent g d ≡ true
    unfolding consistent
    disk-holds n =
        all_yes lh _ ∙ all_yes slot-holds _ ∙ all_yes file-holds _ ∙ all_yes n _ ∙ all_yes met-once _ ∙ all_yes met_all _ ∙ all_yes owned-once _ ∙ all_yes dt
        _ ∙ all_none

  -- From the disk to the maps -------------------------------------------------------------------------------------------------

  module _ (e : consistent g d ≡ true) (m seen : List ℕ) (b : MapBefore g d m) (copy : HitCopied g d seen) where
    c : Sound g d
    c = Facts.sound g d e

    chain-low : (p x : ℕ) → IsFile g d p → In x (chain g d p) → x < 256
    chain-low p x f i = Facts.slot_lt g d x (Change.members g d c p x f i).slot

    good : (p x : ℕ) → IsFile g d p → In x (chain g d p) → GoodEntry g d (hit g d p) x
    good p x f i =
        let k = Change.members g d c p x f i in
        let q = Change.filed-at g d c p f in
        record {
          entry = Change.entry-at g d c x k.slot k.used;
          hits = q.hashes x i ∙ sym (q.hashes p (Change.chain_head g d c p f.slot));
        }

    chain-good : (p : ℕ) → IsFile g d p → chain_holds g d (hit g d p) (length (slots g d)) p ≡ true
    unfolding chain
    chain-good p f =
        Bridge.says-chain g d (hit g d p) (length (slots g d)) p (Change.in-length (Facts.in-slots g d p f.slot)) (λ x i. good p x f i)
        (Change.tail-marker g d c p f)

    file-good : (p : ℕ) → IsFile g d p → file_fits g d p ≡ true
    unfolding file_fits name_fits
    file-good p f =
        let q = Change.filed-at g d c p f in
        all_yes (Members.T_true q.zero') _
        ∙ all_yes (all_yes (Members.T_true q.name) _ ∙ all_yes (eq-eqb _ _ (q.hashes p (Change.chain_head g d c p f.slot))) _ ∙ all_none) _
        ∙ all_yes (Members.T_true (Members.or-if (eqb (sector_count g d p) 0) (eqb (end_byte g d p) 0) (λ t. Members.eq-T (q.count' (eqb→eq _ _ t))))) _
        ∙ all_yes (chain-good p f) _ ∙ all_yes (le-leb _ _ (le-size p q.count' q.fits)) _ ∙ all_none

    slots-good : every (slot_fits g d) (slots g d) ≡ true
    unfolding slot_fits
    slots-good =
        Members.T_true (Members.all-every (slot_fits g d) (slots g d) (λ s i.
        let t = Facts.slots-in g d s i in
        Members.all_two (hit_holds g d s) (any (not (in_use_primary g d s) ∷ file_fits g d s ∷ [])) (c.hits s t)
        (Members.any-if (in_use_primary g d s) (file_fits g d s) (λ u. Members.true-T (file-good s (record { slot = t; primary' = u }))))))

    owned-open : Maps.Opens m (least_of g d) (owned_of g d) (slots g d)
    unfolding consistent
    owned-open =
        record {
          high = λ s n i j. let k = of-owned s n j in at s n (record { slot = Facts.slots-in g d s i; primary' = k.0 }) k.1 (system g d s) refl;
          once = rw (← all-owned) (Members.distinct-says _ (Members.true-T (all-at _ e 6)));
        }
      where
        at : (s n : ℕ) → IsFile g d s → In n (owned g d s) → (t : Bool) → system g d s ≡ t → least_of g d s ≤ get_or m n 0
        at s n f i true q =
            let l = least-one s q in
            let o = b.open-one n (Change.owned-lt g d c s n f i) (Change.owned-taken g d c s n f i) in omega arith
        at s n f i false q =
            let l = least-two s q in
            let o = b.open-two n (Change.owned-lt g d c s n f i) (Change.owned-taken g d c s n f i)
            (λ j. (Change.filed-at g d c s f).off (not_T (system g d s) (Members.false-no q)) n i j) in
            omega arith

    chain-open : Maps.Opens seen one (chain_of g d) (slots g d)
    unfolding consistent
    chain-open =
        record {
          high = λ s n i j. let k = of-chain s n j in at s n (record { slot = Facts.slots-in g d s i; primary' = k.0 }) k.1;
          once = rw (← all-chains) (Members.distinct-says _ (Members.true-T (all-at _ e 4)));
        }
      where
        at : (s n : ℕ) → IsFile g d s → In n (chain g d s) → 1 ≤ get_or seen n 0
        at s n f i =
            let k = Change.members g d c s n f i in
            let w = copy.is n (chain-low s n f i) in
            let u = unused-hit n (Members.T_true (c.hits n k.slot)) k.used in omega arith

    pub maps-fit : slots_fit g d m seen (slots g d) ≡ true
    unfolding slots_fit
    maps-fit =
        all_yes slots-good _ ∙ all_yes (Maps.says-opens (least_of g d) (owned_of g d) (slots g d) m owned-open) _
        ∙ all_yes (Maps.says-opens one (chain_of g d) (slots g d) seen chain-open) _ ∙ all_none

    pub maps-met : every (met_at (marked seen 0 (each (chain_of g d) (slots g d)))) (slots g d) ≡ true
    maps-met =
        Members.T_true (Members.all-every (met_at (marked seen 0 (each (chain_of g d) (slots g d)))) (slots g d) (λ s i.
        Members.eq-T (at s (Facts.slots-in g d s i) (Members.in? s (each (chain_of g d) (slots g d))))))
      where
        unmet : (s : ℕ) → T (is_slot g d s) → (In s (each (chain_of g d) (slots g d)) → ⊥) → (t : Bool) → eqb (hit g d s) 0 ≡ t → hit g d s ≡ 0
        unmet s t f true q = eqb-true _ _ q
        unmet s t f false q =
            let k = c.covered s t (used-hit s (Members.T_true (c.hits s t)) (eqb-false _ _ q)) in
            absurd (f (rw (← all-chains) (Facts.in-met g d k.0 s k.1 k.2)))

        at : (s : ℕ) → T (is_slot g d s) → In s (each (chain_of g d) (slots g d)) ⊎ (In s (each (chain_of g d) (slots g d)) → ⊥)
            → ◌≡◌ {A = ℕ} (get_or (marked seen 0 (each (chain_of g d) (slots g d))) s 0) 0
        at s t (inl i) = Maps.marked-in 0 s (each (chain_of g d) (slots g d)) seen i (rw copy.long (Facts.slot_lt g d s t))
        at s t (inr f) =
            Maps.marked-out 0 s (each (chain_of g d) (slots g d)) seen f ∙ copy.is s (Facts.slot_lt g d s t) ∙ unmet s t f (eqb (hit g d s) 0) refl

-- One law for each way through the code ------------------------------------------------------------------------------------------

names-good : (g : Geometry) (d : List ℕ) → consistent g d ≡ true → names_differ g d (files g d) ≡ true
unfolding consistent
names-good g d e = all-at _ e 3

pub no_length : (g : Geometry) (d : List ℕ) → length_holds g d ≡ false → false ≡ consistent g d
unfolding consistent
no_length g d e = sym (all-no e _)

by_way : (g : Geometry) (d : List ℕ) → (consistent g d ≡ true → ⊥) → false ≡ consistent g d
by_way g d f = sym (Members.no_false {b = consistent g d} (λ t. f (Members.T_true t)))

module _ (g : Geometry) (d m : List ℕ) (room : Room g d) (w : GatMap g d m) where
  pub no-directory : {from bits r : ℕ} → Directory g d from bits → Among m from bits r → (r ≡ 0 → ⊥) → false ≡ consistent g d
  unfolding consistent
  no-directory k a f = by_way g d (λ q. f (open-all g d room k a (Bridge.taken-directory g d m room w (all-at _ q 7))))

  module _ (dt : every (taken g d) (directory_granules g d) ≡ true) (seen : List ℕ) (copy : HitCopied g d seen) where
    pub no-slots : slots_fit g d (standing g d m) seen (slots g d) ≡ false → false ≡ consistent g d
    no-slots e = by_way g d (λ q. not-both (maps-fit g d q _ _ (Bridge.base g d m room w) copy) e)

    pub no_met : every (met_at (marked seen 0 (each (chain_of g d) (slots g d)))) (slots g d) ≡ false → false ≡ consistent g d
    no_met e = by_way g d (λ q. not-both (maps-met g d q (standing g d m) _ (Bridge.base g d m room w) copy) e)

    pub by_names : length_holds g d ≡ true → Bytes d → slots_fit g d (standing g d m) seen (slots g d) ≡ true
        → every (met_at (marked seen 0 (each (chain_of g d) (slots g d)))) (slots g d) ≡ true → names_differ g d (files g d) ≡ consistent g d
    by_names l y f a =
        Members.both-T
        (λ t. Members.true-T (disk-holds g d l _ _ (Bridge.base g d m room w) copy y dt f a (Members.T_true {b = names_differ g d (files g d)} t)))
        (λ t. Members.true-T (names-good g d (Members.T_true {b = consistent g d} t)))

-- The same, as the code comes to it: `a`, `r` and `q` are what its functions answered
module _ (g : Geometry) (d : List ℕ) (room : Room g d) {m m₂ seen met₂ : List ℕ} {from bits a : ℕ} {r : Bool} (w : GatMap g d m) (k : Directory g d from bits)
    (u : Among m from bits a) (t : a ≡ 0)
    (copy : HitCopied g d seen) (s : Seen g d (disk_slots g d) (standing g d m) m₂ seen met₂ r) where
  open' : every (taken g d) (directory_granules g d) ≡ true
  open' = Bridge.directory-taken g d m room w (all-open g d room k u t)

  fit_is : r ≡ slots_fit g d (standing g d m) seen (slots g d)
  fit_is =
      s.answer ∙ fit-alike g d (least-low g d) (standing g d m) seen (disk-order g d room)

  pub way-slots : r ≡ false → false ≡ consistent g d
  way-slots e = no-slots g d m room w open' seen copy (sym fit_is ∙ e)

  met-is : {q : Bool} → r ≡ true → q ≡ every (met_at met₂) (slots g d) → q ≡ every (met_at (marked seen 0 (each (chain_of g d) (slots g d)))) (slots g d)
  met-is e f =
      f ∙ ap (λ (l : List ℕ). every (met_at l) (slots g d)) (s.meets e)
      ∙ Members.every-eq (met_at (marked seen 0 (each (chain_of g d) (disk_slots g d)))) (met_at (marked seen 0 (each (chain_of g d) (slots g d)))) (slots g d)
      (λ p i.
      ap (λ (v : ℕ). eqb v 0)
      (marked-alike seen (chain_of g d) (disk-order g d room) p (let l = Facts.slot_lt g d p (Facts.slots-in g d p i) in let b = copy.long in omega arith)))

  pub way-met : {q : Bool} → r ≡ true → q ≡ every (met_at met₂) (slots g d) → q ≡ false → false ≡ consistent g d
  way-met e f n = no_met g d m room w open' seen copy (sym (met-is e f) ∙ n)

  pub way-names : {q n : Bool} → r ≡ true → q ≡ every (met_at met₂) (slots g d) → q ≡ true → length_holds g d ≡ true → Bytes d
      → n ≡ names_differ g d (files g d)
      → n ≡ consistent g d
  way-names e f n l y h = h ∙ by_names g d m room w open' seen copy l y (sym fit_is ∙ e) (sym (met-is e f) ∙ n)
