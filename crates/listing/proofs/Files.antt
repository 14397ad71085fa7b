-- The listed files, slot by slot.
use mathlib.Core.Path.{◌≡◌, refl, sym, ap, ◌∙◌}
use mathlib.Core.List.{List, [], ◌∷◌}
use mathlib.Core.Bool.{Bool, true, false, not, cond}
use Prim.Native.Nat.{ℕ, zero, suc, ◌+◌, ◌-◌, ◌*◌, ◌/◌, ◌%◌, ◌≤◌, ◌<◌}
use native.Mathlib.Omega.{arith}
use native.Mathlib.Nat.{zero-add, add-zero}
use lib.ListN.{length, drop}
use lib.Seq.{drop-nil}
use borrow.Author.Tests.{ne_eqb}
use Rattle.meaning.specs.Lists.{count, keep, all}
use Rattle.meaning.specs.Layout.{is_slot, slots, directory_sectors}
use Rattle.meaning.specs.Entries.{in_use, extension, in_use_primary, name_of, size_of}
use Rattle.meaning.specs.Chain.{files, owned}
use Rattle.meaning.specs.Free.{free_granules}
use Rattle.meaning.specs.Refusal.{unplaced}
use Rattle.meaning.specs.Refusals.{check}
use Rattle.meaning.specs.Listing.{no_file, shown, listed, tell_first, list, counts}
use Rattle.meaning.specs.declared.Geometry.{Geometry}
use Rattle.meaning.specs.declared.Listed.{Listed}
use Rattle.meaning.specs.declared.Counts.{Counts}
use Rattle.meaning.specs.declared.Refusal.{Refusal}
use Rattle.lists.specs.Tests.{all-at, and_l, keep-yes, keep-no}
use Rattle.layout.specs.Room.{Slot}
use Rattle.layout.proofs.HasRoom.{slot-yes, slot-no}
use Rattle.lists.specs.Ranges.{left-more, left-none}
use Rattle.listing.specs.From.{listed_from, NextListed}

module _ (g : Geometry) (d : List ℕ) where
  pub told_is : (s : ℕ) {size granules : ℕ} {name : List ℕ} {c : Refusal} → c ≡ unplaced 0 → name ≡ name_of g d s → size ≡ size_of g d s → granules ≡ length
      (owned g d s)
      → ◌≡◌ {A = Listed} (record { refusal = c; more = true; name = name; size = size; granules = granules }) (tell_first g d (s ∷ []))
  unfolding tell_first
  told_is s q e f h = rw (e, f, h, q)

  -- a listed file starts at slot s
  abbrev pub Tells : ℕ → Bool
  Tells s = all (in_use_primary g d s ∷ shown g d s ∷ [])

  pub from-start : listed g d ≡ listed_from g d 0
  unfolding listed files slots listed_from
  from-start = refl

  pub from-end : {s : ℕ} → 256 ≤ s → listed_from g d s ≡ []
  unfolding listed_from
  from-end {s} h = ap (λ (m : ℕ). keep (shown g d) (keep (in_use_primary g d) (keep (is_slot g d) (count s m)))) (left-none h)

  -- slot s first, then those past it
  from-on : {s : ℕ} → s < 256 → listed_from g d s ≡ keep (shown g d) (keep (in_use_primary g d) (keep (is_slot g d) (s ∷ count (s + 1) (256 - (s + 1)))))
  unfolding listed_from
  from-on {s} h = ap (λ (m : ℕ). keep (shown g d) (keep (in_use_primary g d) (keep (is_slot g d) (count s m)))) (left-more h)

  keep_two : (s : ℕ) (l : List ℕ) → keep (shown g d) (keep (in_use_primary g d) (s ∷ l)) ≡ cond (Tells s) (s ∷ keep (shown g d) (keep (in_use_primary g d) l))
      (keep (shown g d) (keep (in_use_primary g d) l))
  unfolding all
  keep_two s l = by (in_use_primary g d s) refl (shown g d s) refl
    where
      by : (a : Bool) → in_use_primary g d s ≡ a → (b : Bool) → shown g d s ≡ b → keep (shown g d) (keep (in_use_primary g d) (s ∷ l)) ≡ cond (Tells s)
          (s ∷ keep (shown g d) (keep (in_use_primary g d) l)) (keep (shown g d) (keep (in_use_primary g d) l))
      by true e true f = simp (e, f)
      by true e false f = simp (e, f)
      by false e b f = simp e

  -- the directory has no slot s
  from-past : {s columns : ℕ} → s < 256 → columns ≡ directory_sectors g d - 2 → columns ≤ s % 32 → listed_from g d s ≡ listed_from g d (s + 1)
  unfolding listed_from
  from-past {s} l e h =
      from-on l ∙ ap (λ (r : List ℕ). keep (shown g d) (keep (in_use_primary g d) r))
      (keep-no (is_slot g d) (slot-no g d s (omega arith) (omega arith)) (count (s + 1) (256 - (s + 1))))

  from-here : {s : ℕ} → Slot g d s → listed_from g d s ≡ cond (Tells s) (s ∷ listed_from g d (s + 1)) (listed_from g d (s + 1))
  unfolding listed_from
  from-here {s} l =
      from-on l.low ∙ ap (λ (r : List ℕ). keep (shown g d) (keep (in_use_primary g d) r))
      (keep-yes (is_slot g d) (slot-yes g d s l.low l.held) (count (s + 1) (256 - (s + 1)))) ∙ keep_two s (keep (is_slot g d) (count (s + 1) (256 - (s + 1))))

  -- nor has it one from there to k slots on, in the same row
  row-past : {s columns : ℕ} → s < 256 → columns ≡ directory_sectors g d - 2 → columns ≤ s % 32 → (k : ℕ) → s % 32 + k ≤ 32
      → listed_from g d s ≡ listed_from g d (s + k)
  row-past {s} l e h zero b = let q : s ≡ s + 0 = omega arith in ap (listed_from g d) q
  row-past {s} {columns} l e h (suc k) b =
      let q : s + k + 1 ≡ s + suc k = omega arith in
      row-past l e h k (omega arith) ∙ from-past {columns = columns} (omega arith) e (omega arith) ∙ ap (listed_from g d) q

  module _ {s columns : ℕ} (l : s < 256) (e : columns ≡ directory_sectors g d - 2) where
    -- behind a row's last slot those of the next row are left
    pub rest-past : columns ≤ s % 32 → listed_from g d s ≡ listed_from g d (32 * (s / 32 + 1))
    rest-past h = let q : s + (32 - s % 32) ≡ 32 * (s / 32 + 1) = omega arith in
        row-past l e h (32 - s % 32) (omega arith) ∙ ap (listed_from g d) q

    here : s % 32 < columns → Slot g d s
    here h = record { low = l; held = omega arith }

    -- no listed file starts there
    pub rest-no : s % 32 < columns → Tells s ≡ false → listed_from g d s ≡ listed_from g d (s + 1)
    rest-no h t = from-here (here h) ∙ ap (λ (b : Bool). cond b (s ∷ listed_from g d (s + 1)) (listed_from g d (s + 1))) t

    -- one does
    pub rest-yes : s % 32 < columns → Tells s ≡ true → listed_from g d s ≡ s ∷ listed_from g d (s + 1)
    rest-yes h t = from-here (here h) ∙ ap (λ (b : Bool). cond b (s ∷ listed_from g d (s + 1)) (listed_from g d (s + 1))) t

    -- of what is left from a slot before, it is the first
    pub next-here : {from : ℕ} → s % 32 < columns → Tells s ≡ true → from ≤ s → listed_from g d from ≡ listed_from g d s → NextListed g d from s
    next-here h t f p = record {
      past = f;
      low = l;
      used = record { slot = here h; used = and_l (in_use g d s) (not (extension g d s)) (all-at _ t 0) };
      ahead = p ∙ rest-yes h t;
    }

  -- of the files from number i on, `left` are to be passed over from slot s on
  pub record Telling (i left s : ℕ) : Type 0 where
    pub ahead : drop i (listed g d) ≡ drop left (listed_from g d s)

  pub telling-start : (i : ℕ) → Telling i i 0
  telling-start i = record { ahead = ap (drop i) from-start }

  -- n files were met before slot s
  pub record Counting (n s : ℕ) : Type 0 where
    pub ahead : length (listed g d) ≡ n + length (listed_from g d s)

  pub counting-start : Counting 0 0
  counting-start = record { ahead = ap length from-start ∙ sym (zero-add _) }

  module _ {from s : ℕ} (f : NextListed g d from s) where
    pub telling-more : (i left : ℕ) → (left ≡ 0 → ⊥) → Telling i left from → Telling i (left - 1) (s + 1)
    telling-more i zero z t = absurd (z refl)
    telling-more i (suc left) z t =
        let q : left ≡ suc left - 1 = omega arith in
        record { ahead = t.ahead ∙ ap (drop (suc left)) f.ahead ∙ ap (λ (k : ℕ). drop k (listed_from g d (s + 1))) q }

    pub telling-here : {i left : ℕ} → left ≡ 0 → Telling i left from → tell_first g d (s ∷ []) ≡ tell_first g d (drop i (listed g d))
    unfolding tell_first
    telling-here z t = sym (ap (tell_first g d) (t.ahead ∙ ap (λ (k : ℕ). drop k (listed_from g d from)) z ∙ f.ahead))

    pub counting-on : {n : ℕ} → Counting n from → Counting (n + 1) (s + 1)
    counting-on {n} t =
        let z : n + suc (length (listed_from g d (s + 1))) ≡ n + 1 + length (listed_from g d (s + 1)) = omega arith in
        record { ahead = t.ahead ∙ ap (λ (r : List ℕ). n + length r) f.ahead ∙ z }

  pub telling-end : {i left s : ℕ} → listed_from g d s ≡ [] → Telling i left s → no_file (unplaced 0) ≡ tell_first g d (drop i (listed g d))
  unfolding tell_first
  telling-end {i} {left} h t = sym (ap (tell_first g d) (t.ahead ∙ ap (drop left) h ∙ drop-nil left))

  pub counting-end : {n s : ℕ} → listed_from g d s ≡ [] → Counting n s → n ≡ length (listed g d)
  counting-end {n} h t = sym (t.ahead ∙ ap (λ (r : List ℕ). n + length r) h ∙ add-zero n)

  -- refused and accepted
  pub list-refused : (i : ℕ) {c : Refusal} {r : Listed} → r ≡ no_file c → c ≡ check g d → (c.number ≡ 0 → ⊥) → r ≡ list g d i
  unfolding list
  list-refused i {c} f e z = f ∙ (rw (← e, ne_eqb c.number 0 z))

  pub list-accepted : (i : ℕ) {c : Refusal} {r : Listed} → r ≡ tell_first g d (drop i (listed g d)) → c ≡ check g d → c.number ≡ 0 → r ≡ list g d i
  unfolding list
  list-accepted i f e z = f ∙ (rw (← e, z))

  pub counts-refused : {c : Refusal} → c ≡ check g d → (c.number ≡ 0 → ⊥) → ◌≡◌ {A = Counts} (record { refusal = c; files = 0; free = 0 }) (counts g d)
  unfolding counts
  counts-refused {c} e z = rw (← e, ne_eqb c.number 0 z)

  pub counts-accepted : {n m : ℕ} {c : Refusal} → c ≡ check g d → c.number ≡ 0 → n ≡ length (listed g d) → m ≡ length (free_granules g d)
      → ◌≡◌ {A = Counts} (record { refusal = c; files = n; free = m }) (counts g d)
  unfolding counts
  counts-accepted e z p q = rw (← e, z, p, q)
