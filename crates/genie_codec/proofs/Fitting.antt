-- Every handle that a call hands back fits its bytes.
use mathlib.Core.Path.{◌≡◌, refl, ap, ◌∙◌}
use mathlib.Core.List.{List, [], ◌∷◌}
use mathlib.Core.Bool.{Bool, true, false, cond, ◌&&◌}
use Prim.Native.Nat.{ℕ, ◌+◌, ◌≤◌, ◌<◌}
use native.Mathlib.Omega.{arith}
use lib.Dec.{ltb, eqb}
use lib.ListN.{length, take, get_or}
use borrow.Author.Tests.{ltb-true, leb-true, eqb-true, not-false}
use Rattle.meaning.specs.Lists.{count, every, keep, first_or}
use Rattle.meaning.specs.Names.{well_formed, hash, fold}
use Rattle.meaning.specs.Layout.{slots, is_slot, hit, highest}
use Rattle.lists.specs.Sizes
use Rattle.meaning.specs.Entries.{access_level}
use Rattle.meaning.specs.Free.{free_slot, free_slots}
use Rattle.meaning.specs.Refusals.{first, new_in_range}
use Rattle.meaning.specs.Handles.{in_range, no_handle, moved_to}
use Rattle.meaning.specs.LookUp.{carries, candidates, named, slot_of, missing}
use Rattle.meaning.specs.Open.{full, opened_at, open_refusals, open'}
use Rattle.meaning.specs.Create.{new_slot, create_refusals, create}
use Rattle.meaning.specs.Read.{read_refusals, read_of}
use Rattle.meaning.specs.Write.{write_refusals, write_of}
use Rattle.meaning.specs.declared.Geometry.{Geometry}
use Rattle.meaning.specs.declared.Handle.{Handle}
use Rattle.meaning.specs.declared.NewFile.{NewFile}
use Rattle.meaning.specs.declared.Mode.{Mode}
use Rattle.layout.proofs.OneStep.{well-length}
use Rattle.passed.proofs.Checked.{own_row}
use Rattle.lists.specs.Tests.{and_l, and_r, all-at, first-at}
use Rattle.genie_codec.specs.Codec.{HandleFits}
use Rattle.passed.proofs.Checked.{length-range}

-- all of these are below 256
low : List ℕ → Bool
low xs = every (λ x. ltb x 256) xs

low-cons : (x : ℕ) (xs : List ℕ) → ltb x 256 ≡ true → low xs ≡ true → low (x ∷ xs) ≡ true
unfolding low
low-cons x xs h k = ap (λ (t : Bool). t && every (λ x. ltb x 256) xs) h ∙ k

low-keep : (p : ℕ → Bool) (xs : List ℕ) → low xs ≡ true → low (keep p xs) ≡ true
unfolding low
low-keep p [] h = refl
low-keep p (x ∷ xs) h = by (low-keep p xs (and_r (ltb x 256) (low xs) h)) (p x)
  where
    by : low (keep p xs) ≡ true → (t : Bool) → low (cond t (x ∷ keep p xs) (keep p xs)) ≡ true
    by ih true = low-cons x (keep p xs) (and_l (ltb x 256) (low xs) h) ih
    by ih false = ih

low_first : (xs : List ℕ) → low xs ≡ true → first_or 0 xs < 256
unfolding low first_or
low_first [] h = omega arith
low_first (x ∷ xs) h = ltb-true x 256 (and_l (ltb x 256) (low xs) h)

low-taken : (xs : List ℕ) → low xs ≡ true → first_or 0 (take 1 xs) < 256
unfolding low first_or
low-taken [] h = omega arith
low-taken (x ∷ xs) h = ltb-true x 256 (and_l (ltb x 256) (low xs) h)

low_count : low (count 0 256) ≡ true
unfolding low
low_count = refl

module _ (g : Geometry) (d : List ℕ) where
  found-low : (n : List ℕ) → slot_of g d n < 256
  unfolding named candidates slots
  found-low n = low-taken _ (low-keep (carries g d n) _ (low-keep (λ s. eqb (hit g d s) (hash n)) _ (low-keep (is_slot g d) (count 0 256) low_count)))

  free-low : new_slot g d < 256
  unfolding free_slots
  free-low = low_first _ (low-keep (free_slot g d) (count 0 256) low_count)

  zeros-fit : HandleFits no_handle
  zeros-fit = record { slot = omega arith; level = omega arith; len = omega arith; at = omega arith; name = refl }

  level-low : (s : ℕ) (t : Bool) → cond t 0 (access_level g d s) < 256
  level-low s true = omega arith
  level-low s false = omega arith

  opened-fits : (n : List ℕ) (len : ℕ) (checking : Bool) (code : ℕ) → well_formed n ≡ true → len ≤ 256 → HandleFits
      (opened_at g d (slot_of g d n) n len checking code)
  opened-fits n len checking code h l =
      record {
        slot = found-low n;
        level = level-low (slot_of g d n) (full g d (slot_of g d n) checking code);
        len = omega arith;
        at = omega arith;
        name =
            well-length n h;
      }

  -- open, refused or accepted
  pub open-fits : (n : List ℕ) (len : ℕ) (checking : Bool) (code : ℕ) → HandleFits (open' g d n len checking code).handle
  unfolding open'
  open-fits n len checking code = by (eqb (first (open_refusals g d n len checking code)) 0) refl
    where
      by : (t : Bool) → eqb (first (open_refusals g d n len checking code)) 0 ≡ t
          → HandleFits (cond t (opened_at g d (slot_of g d (fold n)) (fold n) len checking code) no_handle)
      by true e =
          let t : (k : ℕ) → (get_or (open_refusals g d n len checking code) k (0, false)).1 ≡ false
          = λ k. first-at (open_refusals g d n len checking code) (eqb-true _ 0 e) refl k in
          opened-fits (fold n) len checking code (not-false _ (t (own_row 1))) (length-range len (not-false _ (t (own_row 0)))).1
      by false e = zeros-fit

  -- create, refused or accepted
  pub create-fits : (n : List ℕ) (f : NewFile) (checking : Bool) → HandleFits (create g d n f checking).0.handle
  unfolding create new_in_range
  create-fits n f checking = by (eqb (first (create_refusals g d n f checking)) 0) refl (missing g d (fold n))
    where
      by : (t : Bool) → eqb (first (create_refusals g d n f checking)) 0 ≡ t → (new : Bool)
          → HandleFits (cond t (cond new (record { slot = new_slot g d; name = fold n; at = 0; len = f.len; level = 0 })
          (opened_at g d (slot_of g d (fold n)) (fold n) f.len checking f.main)) no_handle)
      by true e new =
          let t : (k : ℕ) → (get_or (create_refusals g d n f checking) k (0, false)).1 ≡ false
          = λ k. first-at (create_refusals g d n f checking) (eqb-true _ 0 e) refl k in
          let l = (length-range f.len (all-at _ (not-false _ (t (own_row 0))) 3)).1 in
          either new (not-false _ (t (own_row 1))) l
        where
          either : (new : Bool) → well_formed (fold n) ≡ true → f.len ≤ 256
              → HandleFits (cond new (record { slot = new_slot g d; name = fold n; at = 0; len = f.len; level = 0 })
              (opened_at g d (slot_of g d (fold n)) (fold n) f.len checking f.main))
          either true h l = record { slot = free-low; level = omega arith; len = omega arith; at = omega arith; name = well-length (fold n) h }
          either false h l = opened-fits (fold n) f.len checking f.main h l
      by false e new = zeros-fit

  -- a position that advances by n is in range still, as bytes go: both are the highest one at most
  moved-fits : (h : Handle) (n : ℕ) → HandleFits h → h.at ≤ highest g → n ≤ highest g → HandleFits (moved_to h (h.at + n))
  moved-fits h n f a l =
      record { slot = f.slot; level = f.level; len = f.len; at = omega (arith, Sizes.bytes-are g, Sizes.sectors-most g); name = f.name }

  position-low : (h : Handle) → in_range g h ≡ true → h.at ≤ highest g
  unfolding in_range
  position-low h r = leb-true h.at (highest g) (all-at _ r 0)

  either-fits : (t : Bool) (h h' : Handle) → HandleFits h → (t ≡ true → HandleFits h') → HandleFits (cond t h' h)
  either-fits true h h' f k = k refl
  either-fits false h h' f k = f

  -- a read and a write of n bytes, of a handle that fits
  pub read_fits : (h : Handle) (n : ℕ) (b : List ℕ) → HandleFits h → HandleFits (read_of g d h n b).0.handle
  unfolding read_of
  read_fits h n b f =
      either-fits _ h _ f (λ e.
      let w = not-false _ (first-at (read_refusals g d h n (length b)) (eqb-true _ 0 e) refl (own_row 0)) in
      moved-fits h n f (position-low h (all-at _ w 0)) (leb-true n (highest g) (all-at _ w 1)))

  pub write-fits : (m : Mode) (h : Handle) (n : ℕ) (b : List ℕ) → HandleFits h → HandleFits (write_of g d m h n b).0.handle
  unfolding write_of
  write-fits m h n b f =
      either-fits _ h _ f (λ e.
      let w = not-false _ (first-at (write_refusals g d m h n (length b)) (eqb-true _ 0 e) refl (own_row 0)) in
      let end = leb-true (h.at + n) (highest g) (all-at _ w 1) in
      moved-fits h n f (position-low h (all-at _ w 0)) (omega arith))
