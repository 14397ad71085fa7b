-- The tests of HIT bytes and names, and the pass over all slots.
use mathlib.Core.Path.{◌≡◌, refl, sym, ap, ap₂, ◌∙◌}
use mathlib.Core.List.{List, ◌∷◌}
use mathlib.Core.Bool.{Bool, true, false, not, cond, ◌&&◌, beq}
use Prim.Native.Nat.{ℕ, ◌+◌, ◌-◌, ◌/◌, ◌≤◌, ◌<◌}
use native.Mathlib.Omega.{arith}
use lib.Dec.{T, eqb, ltb, ltb→lt, lt→ltb}
use borrow.Author.Tests.{eq-eqb, ne_eqb}
use Rattle.meaning.specs.Lists.{count, every, some, keep, same}
use Rattle.meaning.specs.Layout.{granules, taken, is_slot, slots, directory_sectors, granule_sectors, round_up}
use Rattle.lists.specs.Sizes
use Rattle.meaning.specs.Entries.{in_use_primary, name_of}
use Rattle.meaning.specs.Chain.{files}
use Rattle.meaning.specs.Consistent.{length_holds, directory_taken}
use Rattle.meaning.specs.Refusal.{unplaced, placed}
use Rattle.meaning.specs.Fault.{fault_at, lowest, fault}
use Rattle.meaning.specs.declared.Geometry.{Geometry}
use Rattle.meaning.specs.declared.Refusal.{Refusal}
use Rattle.layout.specs.Room.{Room}
use Rattle.lists.specs.Tests.{keep-yes, keep-no}
use Rattle.lists.specs.Members
use Rattle.laws.specs.Facts
use Rattle.laws.specs.Kinds
use Rattle.fault_kinds.proofs.Passes.{count-more, count_none}
use Rattle.fault_diagnosis.specs.Told.{same_file, fault_in, after_slots, number_of}
use Rattle.fault_diagnosis.specs.declared.Kind.{Kind}
use Rattle.fault_diagnosis.specs.declared.Kind.TheVariants.{Hit, Name, DuplicateName, Chain, Run, Gat, SharedGranule, Size, Directory}

pub beq-off : (a b : Bool) → a ≡ true → not b ≡ beq (not a) b
beq-off true true h = refl
beq-off true false h = refl
beq-off false b h = absurd (let z : ◌≡◌ {A = ℕ} 0 1 = cc in let q : ⊥ = omega arith in q)

pub beq-on : (a b : Bool) → a ≡ false → b ≡ beq (not a) b
beq-on false true h = refl
beq-on false false h = refl
beq-on true b h = absurd (let z : ◌≡◌ {A = ℕ} 0 1 = cc in let q : ⊥ = omega arith in q)

-- a kind's number is not 0
pub some-number : (k : Kind) → 0 < number_of k
some-number Hit = omega arith
some-number Name = omega arith
some-number DuplicateName = omega arith
some-number Chain = omega arith
some-number Run = omega arith
some-number Gat = omega arith
some-number SharedGranule = omega arith
some-number Size = omega arith
some-number Directory = omega arith

module _ (g : Geometry) (d : List ℕ) where
  -- the same of a name that is another's
  pub under : (q : ℕ) {r : Bool} {n m : List ℕ} → r ≡ same_file g d n q → n ≡ m → r ≡ same_file g d m q
  under q e w = e ∙ ap (λ (x : List ℕ). same_file g d x q) w

  -- a name in a lower slot
  pub below-is : (p : ℕ) → p < 256 → some (λ q. ltb q p && same (name_of g d q) (name_of g d p)) (files g d) ≡ some (same_file g d (name_of g d p)) (count 0 p)
  unfolding same_file
  below-is p l = Members.both-T {a = some old (files g d)} {b = some (same_file g d (name_of g d p)) (count 0 p)} fore back
    where
      old : ℕ → Bool
      old q = ltb q p && same (name_of g d q) (name_of g d p)

      fore : T (some old (files g d)) → T (some (same_file g d (name_of g d p)) (count 0 p))
      fore v =
          let k = Kinds.some_in old (files g d) v in
          let f = Facts.files-in g d k.0 k.1 in
          let h = ltb→lt k.0 p (Members.and_l (ltb k.0 p) (same (name_of g d k.0) (name_of g d p)) k.2) in
          Kinds.in_some (same_file g d (name_of g d p)) (Members.in_count k.0 0 p (omega arith) (omega arith))
          (Kinds.all_three (is_slot g d k.0) (in_use_primary g d k.0) (same (name_of g d k.0) (name_of g d p)) f.slot f.primary'
          (Members.and_r (ltb k.0 p) (same (name_of g d k.0) (name_of g d p)) k.2))

      back : T (some (same_file g d (name_of g d p)) (count 0 p)) → T (some old (files g d))
      back v =
          let k = Kinds.some_in (same_file g d (name_of g d p)) (count 0 p) v in
          let m = Kinds.all-says (is_slot g d k.0) (in_use_primary g d k.0) (same (name_of g d k.0) (name_of g d p)) k.2 in
          let h = (Members.count-in k.0 0 p k.1).1 in
          Kinds.in_some old (Facts.in-files g d k.0 (record { slot = m.0; primary' = m.1 }))
          (Members.and_i (ltb k.0 p) (same (name_of g d k.0) (name_of g d p)) (lt→ltb k.0 p (omega arith)) m.2)

  -- The slots ----------------------------------------------------------------------------------------------------------------------

  pub none_in : (s : ℕ) → is_slot g d s ≡ false → 0 ≡ fault_in g d s
  unfolding fault_in
  none_in s h = sym (ap {B = ℕ} (λ (b : Bool). cond b (fault_at g d s) 0) h)

  pub one_in : (s : ℕ) → is_slot g d s ≡ true → fault_at g d s ≡ fault_in g d s
  unfolding fault_in
  one_in s h = sym (ap {B = ℕ} (λ (b : Bool). cond b (fault_at g d s) 0) h)

  pub all_slots : (after : Refusal) → lowest g d after (slots g d) ≡ lowest g d after (keep (is_slot g d) (count 0 (256 - 0)))
  unfolding slots
  all_slots after = refl

  -- the slots after s
  abbrev pub later : ℕ → List ℕ
  later s = keep (is_slot g d) (count (s + 1) (256 - (s + 1)))

  module _ (after : Refusal) (s n : ℕ) (i : lowest g d after (slots g d) ≡ lowest g d after (keep (is_slot g d) (count s (256 - s)))) (e : n ≡ fault_in g d s)
    where
      here : s < 256 → is_slot g d s ≡ true → keep (is_slot g d) (count s (256 - s)) ≡ s ∷ (later s)
      here h t = ap (keep (is_slot g d)) (count-more h) ∙ keep-yes (is_slot g d) t (count (s + 1) (256 - (s + 1)))

      gone : s < 256 → is_slot g d s ≡ false → keep (is_slot g d) (count s (256 - s)) ≡ (later s)
      gone h t = ap (keep (is_slot g d)) (count-more h) ∙ keep-no (is_slot g d) t (count (s + 1) (256 - (s + 1)))

      lowest-more : lowest g d after (s ∷ (later s)) ≡ cond (eqb (fault_at g d s) 0) (lowest g d after (later s)) (placed (fault_at g d s) s)
      unfolding lowest
      lowest-more = refl

      pub slot-found : s < 256 → (n ≡ 0 → ⊥) → placed n s ≡ lowest g d after (slots g d)
      slot-found h z = by (is_slot g d s) refl
        where
          by : (b : Bool) → is_slot g d s ≡ b → placed n s ≡ lowest g d after (slots g d)
          by true t =
              let q : n ≡ fault_at g d s = e ∙ sym (one_in s t) in
              sym (i ∙ ap (lowest g d after) (here h t) ∙ lowest-more
              ∙ ap {B = Refusal} (λ (b : Bool). cond b (lowest g d after (later s)) (placed (fault_at g d s) s)) (ne_eqb (fault_at g d s) 0 (λ w. z (q ∙ w)))
              ∙ ap {B = Refusal} (λ (k : ℕ). placed k s) (sym q))
          by false t = absurd (z (e ∙ sym (none_in s t)))

      pub slot-clear : s < 256 → n ≡ 0 → lowest g d after (slots g d) ≡ lowest g d after (later s)
      slot-clear h z = by (is_slot g d s) refl
        where
          by : (b : Bool) → is_slot g d s ≡ b → lowest g d after (slots g d) ≡ lowest g d after (later s)
          by true t =
              let q : fault_at g d s ≡ 0 = one_in s t ∙ sym e ∙ z in
              i ∙ ap (lowest g d after) (here h t) ∙ lowest-more
              ∙ ap {B = Refusal} (λ (b : Bool). cond b (lowest g d after (later s)) (placed (fault_at g d s) s)) (eq-eqb (fault_at g d s) 0 q)
          by false t = i ∙ ap (lowest g d after) (gone h t)

  pub slots-done : (after : Refusal) (s : ℕ) → lowest g d after (slots g d) ≡ lowest g d after (keep (is_slot g d) (count s (256 - s))) → 256 ≤ s → after ≡
      lowest g d after (slots g d)
  unfolding lowest
  slots-done after s i h = sym (i ∙ ap (λ (l : List ℕ). lowest g d after (keep (is_slot g d) l)) (count_none h))

  -- the granules of the directory are on the disk
  pub directory-in : {a n : ℕ} → a ≡ g.start / granule_sectors g → n ≡ round_up (directory_sectors g d) (granule_sectors g) → Room g d → a + n ≤ granules g
  directory-in e f r = rw (e, f) (Sizes.touched-inside (Sizes.sectors-pos g) g.start (directory_sectors g d) (granules g) r.directory)

  -- a clear granule of the directory
  taken-by : {a n : ℕ} {b : Bool} → a ≡ g.start / granule_sectors g → n ≡ round_up (directory_sectors g d) (granule_sectors g) → every (taken g d) (count a n) ≡
      b → directory_taken g d ≡ b
  taken-by e f h = ap₂ (λ (x y : ℕ). every (taken g d) (count x y)) (sym e) (sym f) ∙ h

  pub clear-no : {a n : ℕ} → a ≡ g.start / granule_sectors g → n ≡ round_up (directory_sectors g d) (granule_sectors g)
      → every (taken g d) (count a n) ≡ false →
      unplaced 30 ≡ after_slots g d
  unfolding after_slots
  clear-no e f h = sym (ap {B = Refusal} (λ (b : Bool). cond b (unplaced 0) (unplaced 30)) (taken-by e f h))

  pub clear-yes : {a n : ℕ} → a ≡ g.start / granule_sectors g → n ≡ round_up (directory_sectors g d) (granule_sectors g)
      → every (taken g d) (count a n) ≡ true →
      unplaced 0 ≡ after_slots g d
  unfolding after_slots
  clear-yes e f h = sym (ap {B = Refusal} (λ (b : Bool). cond b (unplaced 0) (unplaced 30)) (taken-by e f h))

  -- The disk -----------------------------------------------------------------------------------------------------------------------

  pub length-no : length_holds g d ≡ false → unplaced 21 ≡ fault g d
  unfolding fault after_slots
  length-no h = sym (ap {B = Refusal} (λ (b : Bool). cond b (lowest g d (after_slots g d) (slots g d)) (unplaced 21)) h)

  pub length-yes : length_holds g d ≡ true → lowest g d (after_slots g d) (slots g d) ≡ fault g d
  unfolding fault after_slots
  length-yes h = sym (ap {B = Refusal} (λ (b : Bool). cond b (lowest g d (after_slots g d) (slots g d)) (unplaced 21)) h)
