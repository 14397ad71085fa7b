-- A disk that passed refusals 1 and 2 is sound; every granule that a file owns is on the disk.
use mathlib.Core.Path.{◌≡◌, refl, sym, ap, ◌∙◌}
use mathlib.Core.Logic.{⊎_elim}
use mathlib.Core.List.{List, [], ◌∷◌, ◌++◌}
use mathlib.Core.Bool.{Bool, true, false, not, cond}
use Prim.Native.Nat.{ℕ, zero, suc, ◌+◌, ◌-◌, ◌*◌, ◌≤◌, ◌<◌}
use native.Mathlib.Omega.{arith}
use lib.ListN.{length, get_or, length-append, get_or-append}
use lib.Dec.{eqb}
use borrow.Author.Tests.{leb-true, eqb-true, ne_eqb}
use Rattle.meaning.specs.Lists.{count, each, every, any}
use Rattle.lists.specs.Members.{length-count}
use Rattle.meaning.specs.Layout.{is_slot, slots, fits_geometry, granules, field, granule_bytes}
use Rattle.meaning.specs.Bits.{bit, digit}
use Rattle.meaning.specs.Entries.{in_use, in_use_primary, marker, link, runs, run_start, run_length, run_granules, entry_granules, size_of}
use Rattle.meaning.specs.Chain.{chain_from, chain, owned, files}
use Rattle.meaning.specs.Consistent.{consistent, slot_holds, file_holds, link_holds_by, runs_hold, size_holds, follows_by}
use Rattle.meaning.specs.declared.Geometry.{Geometry}
use Rattle.layout.specs.Room.{Slot}
use Rattle.lists.specs.Tests.{all-at, any_last, every-keep, every-count, not_yes, get_or-count, le-or-lt}
use Rattle.layout.proofs.HasRoom.{room, slot-of, slot-yes}
use Rattle.seek.specs.Seek.{Walkable, Used}
use Rattle.seek.proofs.SeekSteps.{get_d_past}

module _ (g : Geometry) (d : List ℕ) where
  pub at_slot : (p : ℕ → Bool) → every p (slots g d) ≡ true → (s : ℕ) → Slot g d s → p s ≡ true
  unfolding slots
  at_slot p h s sl =
      any_last (not (is_slot g d s)) (p s)
      (every-count (λ x. any (not (is_slot g d x) ∷ p x ∷ [])) 0 256 s (every-keep p (is_slot g d) (count 0 256) h) (omega arith)
      (let l = sl.low in omega arith))
      (not_yes (slot-yes g d s sl.low sl.held))

  slot-holds : consistent g d ≡ true → (s : ℕ) → Slot g d s → slot_holds g d s ≡ true
  unfolding consistent
  slot-holds h s sl = at_slot (slot_holds g d) (all-at _ h 1) s sl

  link-holds : (s : ℕ) → slot_holds g d s ≡ true → in_use g d s ≡ true → link_holds_by g d 0x90 s ≡ true
  unfolding slot_holds
  link-holds s h u = all-at _ (any_last _ _ (all-at _ h 1) (not_yes u)) 1

  runs-hold : (s : ℕ) → slot_holds g d s ≡ true → in_use g d s ≡ true → runs_hold g d s ≡ true
  unfolding slot_holds
  runs-hold s h u = all-at _ (any_last _ _ (all-at _ h 1) (not_yes u)) 2

  linked : (s : ℕ) → link_holds_by g d 0x90 s ≡ true → marker g d s ≡ 0xfe → follows_by g d 0x90 s (link g d s) ≡ true
  unfolding link_holds_by follows_by
  linked s h m = all-at _ (any_last _ _ h (ne_eqb (marker g d s) 0xff (λ q. let z : ◌≡◌ {A = ℕ} 0xfe 0xff = sym m ∙ q in omega arith))) 1

  followed : (s x : ℕ) → follows_by g d 0x90 s x ≡ true → Used g d x
  unfolding follows_by digit
  followed s x h = record { slot = slot-of g d x (all-at _ h 0); used = ap (bit 4) (eqb-true (field g d x 0) 0x90 (all-at _ h 1)) }

  pub run_fits : (s k : ℕ) → runs_hold g d s ≡ true → k < runs g d s → run_start g d s k + run_length g d s k ≤ granules g
  unfolding runs_hold
  run_fits s k h l = leb-true _ _ (all-at _ (every-count _ 0 (runs g d s) k h (omega arith) (omega arith)) 1)

  size_fits : consistent g d ≡ true → (s : ℕ) → Slot g d s → in_use_primary g d s ≡ true → size_holds g d s ≡ true
  unfolding consistent files file_holds
  size_fits h s sl p =
      all-at _ (any_last _ _ (at_slot (λ x. any (not (in_use_primary g d x) ∷ file_holds g d x ∷ []))
      (every-keep (file_holds g d) (in_use_primary g d) (slots g d) (all-at _ h 2)) s sl) (not_yes p)) 2

  size_below : (s : ℕ) → size_holds g d s ≡ true → size_of g d s ≤ granule_bytes g * length (owned g d s)
  unfolding size_holds
  size_below s h = leb-true _ _ (all-at _ h 1)

  pub sound : fits_geometry g d ≡ true → consistent g d ≡ true → Walkable g d
  sound f h =
      record {
        room = room g d f h;
        next = λ s u m. followed s (link g d s) (linked s (link-holds s (slot-holds h s u.slot) u.used) m);
        run = λ s k u l. run_fits s k (runs-hold s (slot-holds h s u.slot) u.used) l;
        size = λ s sl p. size_below s (size_fits h s sl p);
      }

-- every element is below m
unfoldable pub Low : ℕ → List ℕ → Type 0
Low m xs = (k : ℕ) → k < length xs → get_or xs k 0 < m

low-append : (m : ℕ) (xs ys : List ℕ) → Low m xs → Low m ys → Low m (xs ++ ys)
unfolding Low
low-append m xs ys a b k h =
    ⊎_elim
    (λ p. rw (get_d_past xs ys k p) (b (k - length xs) (let q : k < length xs + length ys = rw length-append at h in omega arith)))
    (λ p. rw (get_or-append xs ys 0 k p) (a k p))
    (le-or-lt (length xs) k)

low-nil : (m : ℕ) → Low m []
unfolding Low
low-nil m k h = absurd (let z : ⊥ = omega arith in z)

low_count : (m a n : ℕ) → a + n ≤ m → Low m (count a n)
unfolding Low
low_count m a n h k l =
    let q : k < n = rw length-count at l in
    rw (get_or-count a n k q) (omega arith)

low-each : (m : ℕ) (f : ℕ → List ℕ) (j n : ℕ) → ((k : ℕ) → k < j + n → Low m (f k)) → Low m (each f (count j n))
low-each m f j zero h = low-nil m
low-each m f j (suc n) h = low-append m (f j) (each f (count (j + 1) n)) (h j (omega arith)) (low-each m f (j + 1) n (λ k l. h k (omega arith)))

module _ (g : Geometry) (d : List ℕ) (snd : Walkable g d) where
  pub low-entry : (s : ℕ) → Used g d s → Low (granules g) (entry_granules g d s)
  unfolding entry_granules
  low-entry s u = low-each (granules g) (run_granules g d s) 0 (runs g d s)
      (λ k l. low_count (granules g) (run_start g d s k) (run_length g d s k) (snd.run s k u (omega arith)))

  pub low-chain : (left s : ℕ) → Used g d s → Low (granules g) (each (entry_granules g d) (chain_from g d left s))
  unfolding chain_from
  low-chain zero s u = low-nil (granules g)
  low-chain (suc left) s u =
      low-append (granules g) (entry_granules g d s) _ (low-entry s u) (by (λ w. low-chain left (link g d s) w) (eqb (marker g d s) 0xfe) refl)
    where
      by : (Used g d (link g d s) → Low (granules g) (each (entry_granules g d) (chain_from g d left (link g d s)))) → (t : Bool) → eqb (marker g d s) 0xfe ≡ t
          → Low (granules g) (each (entry_granules g d) (cond t (chain_from g d left (link g d s)) []))
      by ih true e = ih (snd.next s u (eqb-true (marker g d s) 0xfe e))
      by ih false e = low-nil (granules g)

  pub owned-low : (s : ℕ) → Used g d s → (k : ℕ) → k < length (owned g d s) → get_or (owned g d s) k 0 < granules g
  unfolding owned chain Low
  owned-low s u k h = low-chain (length (slots g d)) s u k h
