-- The call: its refusals, and what an accepted one hands out.
use mathlib.Core.Path.{◌≡◌, refl, sym, ap, ◌∙◌}
use mathlib.Core.List.{List, [], ◌∷◌, ◌++◌}
use mathlib.Core.Bool.{Bool, true, false, or-false}
use Prim.Native.Nat.{ℕ, ◌≤◌, ◌<◌}
use native.Mathlib.Omega.{arith}
use native.Mathlib.Decide.{ℕ_discrete}
use lib.ListN.{length, take, drop}
use lib.Dec.{eqb, ltb, leb}
use borrow.Author.Tests.{eq-eqb, ne_eqb, eqb-true, ltb-true, leb-true}
use Rattle.meaning.specs.Lists.{all, every, has}
use Rattle.meaning.specs.Refusals.{first, refusal, handle_refusals, not_for_reading, by_number}
use Rattle.meaning.specs.Handles.{in_range, moved_to}
use Rattle.meaning.specs.Entries.{size_of}
use Rattle.meaning.specs.declared.Geometry.{Geometry}
use Rattle.meaning.specs.declared.Handle.{Handle}
use Rattle.meaning.specs.declared.Refusal.{Refusal}
use Rattle.layout.specs.Room.{Room, Slot}
use Rattle.lists.specs.Tests.{first-hit, first-skip, first-none, and_l, and_r, all-at}
use Rattle.passed.proofs.Checked.{Passed, passed, walks, ranges}
use Rattle.read.proofs.ReadParts.{reading-stop, reading-then}
use Rattle.load.specs.Records.{item_refusals, item_at, told_at, record_from, past}
use Rattle.load.specs.Load.{bytes_of, most_bytes, load_numbers, asked, load_refusals, load_record}
use Rattle.load.specs.declared.NextRecord.{NextRecord}
use Rattle.load.specs.declared.Loaded.{Loaded}
use Rattle.load_record.specs.Program.{Program}

-- the first of numbered cases is 0, or one of their numbers
first-among : (p : ℕ → Bool) (cs : List (ℕ × Bool)) → p 0 ≡ true → every (λ c. p c.0) cs ≡ true → p (first cs) ≡ true
first-among p [] z h = ap p first-none ∙ z
first-among p ((n, b) ∷ cs) z h = by b refl (first-among p cs z (and_r (p n) (every (λ c. p c.0) cs) h))
  where
    by : (t : Bool) → b ≡ t → p (first cs) ≡ true → p (first ((n, b) ∷ cs)) ≡ true
    by true e ih = ap p (first-hit e n cs) ∙ and_l (p n) (every (λ c. p c.0) cs) h
    by false e ih = ap p (first-skip e n cs) ∙ ih

-- 31, 32 and 33, by number, tell the number
by-load : (n : ℕ) → has (0 ∷ load_numbers) n ≡ true → first (by_number n load_numbers) ≡ n
by-load n h = by (ℕ_discrete n 31) (ℕ_discrete n 32) (ℕ_discrete n 33)
  where
    by : Dec (n ≡ 31) → Dec (n ≡ 32) → Dec (n ≡ 33) → first (by_number n load_numbers) ≡ n
    by (yes e) q r = first-hit (eq-eqb n 31 e) _ _ ∙ sym e
    by (no x) (yes e) r = first-skip (ne_eqb n 31 x) _ _ ∙ first-hit (eq-eqb n 32 e) _ _ ∙ sym e
    by (no x) (no y) (yes e) = first-skip (ne_eqb n 31 x) _ _ ∙ first-skip (ne_eqb n 32 y) _ _ ∙ first-hit (eq-eqb n 33 e) _ _ ∙ sym e
    by (no x) (no y) (no z) =
        first-skip (ne_eqb n 31 x) _ _ ∙ first-skip (ne_eqb n 32 y) _ _ ∙ first-skip (ne_eqb n 33 z) _ _ ∙ first-none ∙ sym zero_is
      where
        zero_is : n ≡ 0
        zero_is = eqb-true n 0 (sym (or-false (eqb n 0)) ∙ (rw (ne_eqb n 31 x, ne_eqb n 32 y, ne_eqb n 33 z) at h))

item-number : (bs : List ℕ) (i : ℕ) → has (0 ∷ load_numbers) (item_at bs i).number ≡ true
unfolding item_at
item-number bs i = first-among (has (0 ∷ load_numbers)) (item_refusals bs i) refl refl

record-number : (bs : List ℕ) (i : ℕ) → has (0 ∷ load_numbers) (record_from bs i).number ≡ true
unfolding record_from told_at
record-number bs i = item-number bs (past bs (length bs) i)

-- no number of a load file is among those tested before
apart : (m n : ℕ) → ltb m 31 ≡ true → has (0 ∷ load_numbers) n ≡ true → (m ≡ 0 → ⊥) → m ≡ n → ⊥
apart m n l h z e = by (ℕ_discrete n 0) (ℕ_discrete n 31) (ℕ_discrete n 32) (ℕ_discrete n 33)
  where
    by : Dec (n ≡ 0) → Dec (n ≡ 31) → Dec (n ≡ 32) → Dec (n ≡ 33) → ⊥
    by (yes w) p q r = z (e ∙ w)
    by (no w) (yes p) q r = let k = ltb-true m 31 l in omega arith
    by (no w) (no p) (yes q) r = let k = ltb-true m 31 l in omega arith
    by (no w) (no p) (no q) (yes r) = let k = ltb-true m 31 l in omega arith
    by (no w) (no p) (no q) (no r) =
        let x : false ≡ true = rw (ne_eqb n 0 w, ne_eqb n 31 p, ne_eqb n 32 q, ne_eqb n 33 r) at h in
        let y : ◌≡◌ {A = ℕ} 0 1 = cc in omega arith

module _ (g : Geometry) (d : List ℕ) (h : Handle) where
  abbrev ranged' : List ℕ → Bool
  ranged' b = all (in_range g h ∷ leb most_bytes (length b) ∷ [])

  module _ (b : List ℕ) {ranged : Bool} {n : ℕ} (r : ranged ≡ ranged' b) (e : n ≡ first (handle_refusals g d h ranged (not_for_reading h ∷ []))) where
    -- refused by what every reading call tests
    pub refused-first : {c : Refusal} → c ≡ refusal g d n → (n ≡ 0 → ⊥)
        → ◌≡◌ {A = Loaded × List ℕ} (record { refusal = c; kind = 0; address = 0; count = 0; position = 0; handle = h }, b) (load_record g d h b)
    refused-first {c} q z =
        let stop = reading-stop g d h (ranged' b) (by_number (asked g d h).number load_numbers) r e z in
        let low = ap (λ (k : ℕ). ltb k 31) e ∙ first-among (λ k. ltb k 31) (handle_refusals g d h ranged (not_for_reading h ∷ [])) refl refl in
        same stop (ne_eqb n (asked g d h).number (apart n (asked g d h).number low (record-number (bytes_of g d h.slot) h.at) z))
      where
        same : n ≡ first (load_refusals g d h (length b)) → eqb n (asked g d h).number ≡ false
            → ◌≡◌ {A = Loaded × List ℕ} (record { refusal = c; kind = 0; address = 0; count = 0; position = 0; handle = h }, b) (load_record g d h b)
        same s o = unfold load_record in rw (← s, o, ne_eqb n 0 z, q)

    module _ (z : n ≡ 0) where
      pub let_through : Passed g d h ranged
      let_through = passed g d h ranged (not_for_reading h ∷ []) refl e z

      own : {k : ℕ} → k ≡ (asked g d h).number → first (load_refusals g d h (length b)) ≡ k
      own f =
          reading-then g d h (ranged' b) (by_number (asked g d h).number load_numbers) r e z
          ∙ by-load (asked g d h).number (record-number (bytes_of g d h.slot) h.at) ∙ sym f

      pub has_room : Room g d × Slot g d h.slot
      has_room = ((walks g d h ranged let_through).0.room, let_through.slot)

      -- the handle's position, and the buffer
      pub low : h.at < 16777216
      low = let q = ranges g d h (all-at _ (sym r ∙ let_through.ranged') 0) in omega arith

      pub room : 255 ≤ length b
      room = leb-true 255 (length b) (all-at _ (sym r ∙ let_through.ranged') 1)

      pub program : {size : ℕ} → size ≡ size_of g d h.slot → size < 16777216 → Program g d h.slot size
      program {size} f l =
          let w = walks g d h ranged let_through in
          record {
            file = record { sound = w.0; used = w.1 };
            is = f;
            owned = rw f (w.0.size h.slot let_through.slot let_through.first');
            high = l;
          }

      -- refused by the file itself
      pub refused-own : {x : NextRecord} {c : Refusal} → x ≡ asked g d h → c ≡ refusal g d x.number → (x.number ≡ 0 → ⊥)
          → ◌≡◌ {A = Loaded × List ℕ} (record { refusal = c; kind = 0; address = 0; count = 0; position = x.position; handle = h }, b) (load_record g d h b)
      refused-own {x} {c} f q y = same (own (ap (λ (t : NextRecord). t.number) f))
        where
          same : first (load_refusals g d h (length b)) ≡ x.number
              → ◌≡◌ {A = Loaded × List ℕ} (record { refusal = c; kind = 0; address = 0; count = 0; position = x.position; handle = h }, b)
              (load_record g d h b)
          same s = unfold load_record in
              rw (s, ne_eqb x.number 0 y, eq-eqb x.number (asked g d h).number (ap (λ (t : NextRecord). t.number) f), q, ← f)

      pub handed_out : {x : NextRecord} {c : Refusal} {b' : List ℕ} → x ≡ asked g d h → c ≡ refusal g d 0 → x.number ≡ 0
          → b' ≡ take x.count (drop x.from (bytes_of g d h.slot)) ++ drop x.count b
          → ◌≡◌ {A = Loaded × List ℕ}
          (record { refusal = c; kind = x.kind; address = x.address; count = x.count; position = x.position; handle = moved_to h x.next }, b')
          (load_record g d h b)
      handed_out {x} {c} {b'} f q y t = same (own (sym y ∙ ap (λ (v : NextRecord). v.number) f))
        where
          same : first (load_refusals g d h (length b)) ≡ 0
              → ◌≡◌ {A = Loaded × List ℕ}
              (record { refusal = c; kind = x.kind; address = x.address; count = x.count; position = x.position; handle = moved_to h x.next }, b')
              (load_record g d h b)
          same s = unfold load_record in rw (s, t, q, ← f, y)
