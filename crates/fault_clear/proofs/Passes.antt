-- The passes over slots that find them clear: where they start, one slot further, and what they say at the end.
use Rattle.std.specs.Prelude.{Option, Some, None, is_some}
use mathlib.Core.Path.{◌≡◌, refl, sym, ap, ◌∙◌}
use mathlib.Core.Logic.{◌⊎◌, inl, inr}
use mathlib.Core.List.{List, [], ◌∷◌}
use mathlib.Core.Bool.{Bool, true, false, not, ◌&&◌}
use Prim.Native.Nat.{ℕ, ◌+◌, ◌≤◌, ◌<◌}
use native.Mathlib.Omega.{arith}
use native.Mathlib.Decide.{ℕ_discrete}
use lib.Dec.{T, ltb, ltb→lt, T_not}
use lib.ListN.{get_or}
use Rattle.meaning.specs.Lists.{some, has, distinct, same, all, any}
use Rattle.meaning.specs.Layout.{granules, taken, is_slot, slots}
use Rattle.meaning.specs.Entries.{in_use, in_use_primary, entry_granules, name_of}
use Rattle.meaning.specs.Chain.{files}
use Rattle.meaning.specs.Consistent.{gat_holds, names_differ}
use Rattle.meaning.specs.Fault.{duplicate_fault, run_fault, gat_fault, shared_fault}
use Rattle.meaning.specs.declared.Geometry.{Geometry}
use Rattle.lists.specs.Members
use Rattle.lists.specs.Members.{In}
use Rattle.lists.specs.Tests.{all-no, all-at, all-out, not-both}
use Rattle.laws.specs.Facts
use Rattle.laws.specs.Kinds
use Rattle.laws.specs.Entry
use Rattle.laws.specs.Places
use Rattle.layout.specs.Room.{Slot}
use Rattle.layout.proofs.HasRoom.{slot-of, slot-yes}
use Rattle.check_map.specs.Marks.{marked}
use Rattle.check_map.specs.Owners.{shut, GatMap, standing}
use Rattle.check_map.proofs.Maps.{in-range, marked-out, marked-in, Open, allows-says}
use Rattle.check_map.proofs.Standing.{open-if}
use Rattle.check_walk.specs.Walk.{Entered, entry_fits}
use Rattle.check_walk.specs.declared.Pairs.{Pairs}
use Rattle.fault_clear.specs.Clear.{NamesClear, ClearThrough}

module _ (g : Geometry) (d : List ℕ) where
  -- Runs ------------------------------------------------------------------------------------------------------------------

  -- below 0 there is no slot
  pub clearing-start : {m : List ℕ} → GatMap g d m → ClearThrough g d 0 (standing g d m)
  clearing-start {m} w =
      record {
        clear = record { run = λ s b. absurd (none b); gat = λ s b. absurd (none b); shared = λ s b. absurd (none b) };
        bits = λ q l h. by q l (open-if g d m q l h) (taken g d q) refl;
        free = λ q t l h b. absurd (none b);
      }
    where
      none : {s : ℕ} → s < 0 → ⊥
      none b = omega arith

      by : (q : ℕ) → q < granules g → shut g.units m q ≡ 0 → (b : Bool) → taken g d q ≡ b → taken g d q ≡ true
      by q l h true e = e
      by q l h false e = absurd (let z = w.shuts q l e in let x : ⊥ = omega arith in x)

  -- one slot further, where nothing changes below it
  further : {P : ℕ → Type 0} (n : ℕ) → ((s : ℕ) → s < n → Slot g d s → P s) → (Slot g d n → P n) → (s : ℕ) → s < n + 1 → Slot g d s → P s
  further {P} n f h s b l = by (ℕ_discrete s n)
    where
      by : Dec (s ≡ n) → P s
      by (yes e) = rw e (h (rw e at l))
      by (no e) = f s (omega arith) l

  -- slot n is not in use
  pub clearing-skip : (n : ℕ) {m : List ℕ} → (Slot g d n → in_use g d n ≡ false) → ClearThrough g d n m → ClearThrough g d (n + 1) m
  unfolding run_fault gat_fault shared_fault
  clearing-skip n {m} h c =
      record {
        clear =
            record {
              run = further n c.clear.run (λ l. all-no (h l) _);
              gat = further n c.clear.gat (λ l. all-no (h l) _);
              shared = further n c.clear.shared (λ l. all-no (h l) _);
            };
        bits = c.bits;
        free = λ q t l k b s u i. by q t l k b s u i (ℕ_discrete t n);
      }
    where
      by : (q t : ℕ) → q < granules g → 1 ≤ get_or m q 0 → t < n + 1 → Slot g d t → in_use g d t ≡ true → In q (entry_granules g d t) → Dec (t ≡ n) → ⊥
      by q t l k b s u i (yes e) = not-both (sym (ap (in_use g d) e) ∙ u) (h (rw e at s))
      by q t l k b s u i (no e) = c.free q t l k (omega arith) s u i

  pub no_slot : (n : ℕ) → is_slot g d n ≡ false → Slot g d n → in_use g d n ≡ false
  no_slot n e l = not-both (slot-yes g d n l.low l.held) e

  -- slot n is in use, and its entry was taken off the map
  module _ (n : ℕ) {m m' : List ℕ} {p : Pairs} (w : Entered g d n 1 m m' (Some p)) (c : ClearThrough g d n m) where
    fits : entry_fits g d n 1 m ≡ true
    fits = sym w.answer

    opens : Open m 1 (entry_granules g d n)
    opens = allows-says 1 0 (entry_granules g d n) m (omega arith) (all-at _ fits 2)

    low : (q : ℕ) → In q (entry_granules g d n) → q < granules g
    low q i = Places.runs-granule-lt g d n q (Entry.runs-say g d n (Members.true-T (all-at _ fits 1))) i

    gats : gat_holds g d n ≡ true
    unfolding gat_holds
    gats = Members.T_true (Members.all-every (taken g d) (entry_granules g d n) (λ q i. Members.true-T (c.bits q (low q i) (opens.high q i))))

    others : ℕ → Bool
    others t = all (ltb t n ∷ in_use g d t ∷ some (has (entry_granules g d t)) (entry_granules g d n) ∷ [])

    alone : T (shared_fault g d n) → ⊥
    unfolding shared_fault all others
    alone v =
        let k = Kinds.two-says (in_use g d n) (any (not (distinct (entry_granules g d n)) ∷ some others (slots g d) ∷ [])) v in
        go (Members.any-e (not (distinct (entry_granules g d n))) (some others (slots g d)) k.1)
      where
        go : T (not (distinct (entry_granules g d n))) ⊎ T (some others (slots g d)) → ⊥
        go (inl u) = T_not (distinct (entry_granules g d n)) u (Members.says-distinct opens.once)
        go (inr u) =
            let k = Kinds.some_in others (slots g d) u in
            let a = Kinds.all-says (ltb k.0 n) (in_use g d k.0) (some (has (entry_granules g d k.0)) (entry_granules g d n)) k.2 in
            let x = Kinds.some_in (has (entry_granules g d k.0)) (entry_granules g d n) a.2 in
            c.free x.0 k.0 (low x.0 x.1) (opens.high x.0 x.1) (ltb→lt k.0 n a.0)
            (slot-of g d k.0 (Members.T_true {b = is_slot g d k.0} (Facts.slots-in g d k.0 k.1))) (Members.T_true {b = in_use g d k.0} a.1)
            (Members.has_in x.0 (entry_granules g d k.0) x.2)

    -- what is open afterwards was open before, and is none of the entry's
    was : (q : ℕ) → 1 ≤ get_or m' q 0 → (In q (entry_granules g d n) → ⊥) × (1 ≤ get_or m q 0)
    was q h =
        let e : In q (entry_granules g d n) → ⊥ = λ i.
        let z : ◌≡◌ {A = ℕ} (get_or (marked m 0 (entry_granules g d n)) q 0) 0
        = marked-in 0 q (entry_granules g d n) m i (in-range m q (let k = opens.high q i in omega arith)) in
        let y : get_or m' q 0 ≡ get_or (marked m 0 (entry_granules g d n)) q 0 = ap (λ (l : List ℕ). get_or l q 0) w.taken.map in
        let x : ⊥ = omega arith in x in
        let y : get_or m' q 0 ≡ get_or m q 0 = ap (λ (l : List ℕ). get_or l q 0) w.taken.map ∙ marked-out 0 q (entry_granules g d n) m e in
        (e, omega arith)

    clearing-taken : ClearThrough g d (n + 1) m'
    unfolding run_fault gat_fault
    clearing-taken =
        record {
          clear =
              record {
                run = further n c.clear.run (λ l. all-out _ 1 (ap not (all-at _ fits 1)));
                gat = further n c.clear.gat (λ l. all-out _ 1 (ap not gats));
                shared = further n c.clear.shared (λ l. Members.no_false {b = shared_fault g d n} alone);
              };
          bits = λ q l h. c.bits q l (was q h).1;
          free = λ q t l k b s u i. by q t l k b s u i (ℕ_discrete t n);
        }
      where
        by : (q t : ℕ) → q < granules g → 1 ≤ get_or m' q 0 → t < n + 1 → Slot g d t → in_use g d t ≡ true → In q (entry_granules g d t) → Dec (t ≡ n) → ⊥
        by q t l k b s u i (yes e) = (was q k).0 (rw e at i)
        by q t l k b s u i (no e) = c.free q t l (was q k).1 (omega arith) s u i

  pub clearing-step : (n : ℕ) {m m' : List ℕ} {r : Option Pairs} → Entered g d n 1 m m' r → is_some r ≡ true → ClearThrough g d n m → ClearThrough g d
      (n + 1) m'
  clearing-step n {r = None} w ok c = not-both ok refl
  clearing-step n {r = Some p} w ok c = clearing-taken n w c

  -- Names -----------------------------------------------------------------------------------------------------------------

  pub names-none : NamesClear g d 0
  names-none = record { name = λ s b. absurd (let z : ⊥ = omega arith in z) }

  -- where all names differ, none is a duplicate
  pub names-all : names_differ g d (files g d) ≡ true → NamesClear g d 256
  unfolding duplicate_fault
  names-all h = record { name = λ s b l. Members.no_false {b = duplicate_fault g d s} (λ v. alone s l v) }
    where
      alone : (s : ℕ) → Slot g d s → T (duplicate_fault g d s) → ⊥
      alone s l v =
          let k = Kinds.two-says (in_use_primary g d s) (some (λ q. ltb q s && same (name_of g d q) (name_of g d s)) (files g d)) v in
          let x = Kinds.some_in (λ q. ltb q s && same (name_of g d q) (name_of g d s)) (files g d) k.1 in
          let b = ltb→lt x.0 s (Members.and_l (ltb x.0 s) (same (name_of g d x.0) (name_of g d s)) x.2) in
          let e = Members.same-eq (name_of g d x.0) (name_of g d s) (Members.and_r (ltb x.0 s) (same (name_of g d x.0) (name_of g d s)) x.2) in
          let f : Facts.IsFile g d s = record { slot = Members.true-T (slot-yes g d s l.low l.held); primary' = k.0 } in
          let z = Facts.differ-says g d {p = x.0} {q = s} (Members.true-T h) x.1 (Facts.in-files g d s f) e in omega arith
