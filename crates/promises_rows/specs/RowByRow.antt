-- The listing in one call tells what the listing tells one file a call: row k is the file of number `number` + k, every such file while a row more
-- would fit, and behind the rows the table is as it stood.
use Rattle.std.specs.Prelude.{◌≡◌, Bool, true, false, ℕ, zero, suc, ◌+◌, ◌-◌, ◌*◌, ◌/◌, ◌≤◌, ◌<◌, get_or}
use Rattle.std.proofs.Math.Path.{refl, ap}
use Rattle.std.proofs.Common.{sym, ◌∙◌, arith, zero-add, length-take, length-drop, drop_of_length-le, drop-cons, ne_eqb}
use mathlib.Core.List.{List, [], ◌∷◌, ◌++◌, append_assoc}
use Rattle.std.proofs.Math.ListN.{length, take, drop}
use Rattle.std.proofs.lemmas.List.Edits.{sets, sets-eq}
use Rattle.std.proofs.Math.Seq.{take-append_seam, drop-append_seam, drop-append-add, get_or-take, get_or-drop}
use Rattle.meaning.specs.Lists.{each}
use Rattle.meaning.specs.Refusal.{unplaced}
use Rattle.meaning.specs.Refusals.{check, first}
use Rattle.meaning.specs.Listing.{listed, tell_first, list}
use Rattle.meaning.specs.declared.Geometry.{Geometry}
use Rattle.meaning.specs.declared.Listed.{Listed}
use Rattle.list_rows.specs.Rows.{row_bytes, row_of, row, told_from, rows_from, rows_refusals, list_from}
use Rattle.list_rows.specs.Lengths.{row-length, rows-length}
use Rattle.lists.specs.Members
use Rattle.laws.specs.Facts
use Rattle.laws.specs.Passed.{disk-passed, check-none}

module _ (g : Geometry) (d : List ℕ) where
  -- row k of the rows of these files is the row of the k-th of them
  rows_at : (ps : List ℕ) (k : ℕ) → k < length ps → (more : List ℕ)
      → take row_bytes (drop (row_bytes * k) (each (row g d) ps ++ more)) ≡ row g d (get_or ps k 0)
  rows_at [] k h more = absurd (let q : ⊥ = omega arith in q)
  rows_at (p ∷ ps) zero h more =
      ap (take row_bytes) (append_assoc (row g d p) (each (row g d) ps) more)
      ∙ ap (λ (n : ℕ). take n (row g d p ++ (each (row g d) ps ++ more))) (sym (row-length g d p))
      ∙ take-append_seam (row g d p) (each (row g d) ps ++ more)
  rows_at (p ∷ ps) (suc k) h more =
      let e : row_bytes * suc k ≡ length (row g d p) + row_bytes * k = omega (arith, row-length g d p) in
      ap (λ (x : List ℕ). take row_bytes (drop (row_bytes * suc k) x)) (append_assoc (row g d p) (each (row g d) ps) more)
      ∙ ap (λ (n : ℕ). take row_bytes (drop n (row g d p ++ (each (row g d) ps ++ more)))) e
      ∙ ap (take row_bytes) (drop-append-add (row g d p) (each (row g d) ps ++ more) (row_bytes * k)) ∙ rows_at ps k (omega arith) more

  -- the listing, one file a call, of a disk whose check found nothing
  list-is : check g d ≡ unplaced 0 → (i : ℕ) → list g d i ≡ tell_first g d (drop i (listed g d))
  unfolding list
  list-is c i = rw c refl

  file-at : (i : ℕ) → i < length (listed g d) → tell_first g d (drop i (listed g d)) ≡ tell_first g d (get_or (listed g d) i 0 ∷ [])
  unfolding tell_first
  file-at i h = ap (tell_first g d) (drop-cons (listed g d) i 0 h)

  is-more : (p : ℕ) → (tell_first g d (p ∷ [])).more ≡ true
  unfolding tell_first
  is-more p = refl

  no_more : (i : ℕ) → length (listed g d) ≤ i → (tell_first g d (drop i (listed g d))).more ≡ false
  unfolding tell_first
  no_more i h = ap {B = Bool} (λ (ps : List ℕ). (tell_first g d ps).more) (drop_of_length-le (listed g d) h)

  module _ (number : ℕ) (table : List ℕ) where
    abbrev told : ℕ
    told = (list_from g d number table).0.told

    abbrev after : List ℕ
    after = (list_from g d number table).1

    module _ (accepted : (list_from g d number table).0.refusal.number ≡ 0) where
      abbrev ps : List ℕ
      ps = told_from g d number (length table)

      no-refusal : first (rows_refusals g d (length table)) ≡ 0
      unfolding list_from
      no-refusal = accepted

      whole : check g d ≡ unplaced 0
      whole = let w = (disk-passed g d _ no-refusal).0 in check-none g d (Members.T_true w.fits) (Facts.back g d w.sound)

      told_is : told ≡ length ps
      unfolding list_from rows_from
      told_is = rw no-refusal refl

      ps-length : length ps ≡ length (take (length table / row_bytes) (drop number (listed g d)))
      unfolding told_from
      ps-length = refl

      -- as many as fit, and as many as there are
      told-fits : row_bytes * told ≤ length table
      told-fits = omega (arith, told_is, ps-length, length-take (length table / row_bytes) (drop number (listed g d)))

      file-below : (k : ℕ) → k < told → number + k < length (listed g d)
      file-below k h =
          omega (arith, told_is, ps-length, length-take (length table / row_bytes) (drop number (listed g d)), length-drop number (listed g d))

      after_is : after ≡ each (row g d) ps ++ drop (row_bytes * told) table
      unfolding list_from rows_from
      after_is =
          let e : 0 + length (each (row g d) ps) ≡ row_bytes * length ps = omega (arith, rows-length g d ps) in
          let h : 0 + length (each (row g d) ps) ≤ length table = omega (arith, e, told_is, told-fits) in
          rw no-refusal (sets-eq (each (row g d) ps) table 0 h ∙ ap (λ (n : ℕ). each (row g d) ps ++ drop n table) e)

      slot_is : (k : ℕ) → k < told → get_or ps k 0 ≡ get_or (listed g d) (number + k) 0
      unfolding told_from
      slot_is k h =
          let l : k < length table / row_bytes = omega (arith, told-fits) in
          get_or-take (length table / row_bytes) (drop number (listed g d)) k 0 l ∙ get_or-drop number (listed g d) k 0

      told-one : (k : ℕ) → k < told → list g d (number + k) ≡ tell_first g d (get_or (listed g d) (number + k) 0 ∷ [])
      told-one k h = list-is whole (number + k) ∙ file-at (number + k) (file-below k h)

      -- "Row i is what `genie_list` tells of number + i": the row is made of what that call tells, and of the slot of the file of that number
      pub row_is : (k : ℕ) → k < told → take row_bytes (drop (row_bytes * k) after) ≡ row_of (get_or (listed g d) (number + k) 0) (list g d (number + k))
      unfolding row
      row_is k h =
          ap (λ (x : List ℕ). take row_bytes (drop (row_bytes * k) x)) after_is ∙ rows_at ps k (omega (arith, told_is)) (drop (row_bytes * told) table)
          ∙ ap (λ (p : ℕ). row_of p (tell_first g d (p ∷ []))) (slot_is k h)
          ∙ ap (row_of (get_or (listed g d) (number + k) 0)) (sym (told-one k h))

      -- it is a file
      pub row-of-a-file : (k : ℕ) → k < told → (list g d (number + k)).more ≡ true
      row-of-a-file k h = ap {B = Bool} (λ (l : Listed). l.more) (told-one k h) ∙ is-more (get_or (listed g d) (number + k) 0)

      -- where a row more would fit, there is no file more
      pub none-left-out : row_bytes * told + row_bytes ≤ length table → (list g d (number + told)).more ≡ false
      none-left-out h =
          ap {B = Bool} (λ (l : Listed). l.more) (list-is whole (number + told))
          ∙ no_more (number + told) (omega (
            arith,
            told_is,
            ps-length,
            length-take (length table / row_bytes) (drop number (listed g d)),
            length-drop number (listed g d),
          ))

      -- "rows that are not told stay as they stood"
      pub rest-stands : drop (row_bytes * told) after ≡ drop (row_bytes * told) table
      rest-stands =
          ap (drop (row_bytes * told)) after_is
          ∙ ap (λ (n : ℕ). drop n (each (row g d) ps ++ drop (row_bytes * told) table)) (let e : row_bytes * told ≡ length (each (row g d) ps) = omega
          (arith, told_is, rows-length g d ps) in e)
          ∙ drop-append_seam (each (row g d) ps) (drop (row_bytes * told) table)

    -- "Under a refusal `told` is 0", and the table is as it stood
    pub nothing-told : ((list_from g d number table).0.refusal.number ≡ 0 → ⊥) → (told ≡ 0) × (after ≡ table)
    unfolding list_from
    nothing-told z = rw (ne_eqb (first (rows_refusals g d (length table))) 0 z) (refl, refl)
