-- What a call has passed that was accepted, and what one leaves that was refused
use Rattle.std.specs.Prelude.{◌≡◌, ◌≢◌, Bool, ◌&&◌, ℕ, ◌≤◌, T}
use Rattle.std.proofs.Math.Path.{refl, ap}
use Rattle.std.proofs.Common.{sym, ◌∙◌, arith, eqb→eq}
use Rattle.std.proofs.Math.Bool.{true, false, not, cond}
use mathlib.Core.List.{List, [], ◌∷◌}
use Rattle.std.proofs.Math.Dec.{eqb}
use Rattle.meaning.specs.Lists.{all}
use Rattle.meaning.specs.Layout.{fits_geometry, highest}
use Rattle.meaning.specs.Entries.{in_use, extension}
use Rattle.meaning.specs.Refusals.{first, handle_refusals, check}
use Rattle.meaning.specs.Handles.{moved_to, fresh, no_handle}
use Rattle.meaning.specs.Names.{fold}
use Rattle.meaning.specs.LookUp.{missing}
use Rattle.meaning.specs.Open.{open'}
use Rattle.meaning.specs.Create.{create}
use Rattle.meaning.specs.Amount.{how_many}
use Rattle.meaning.specs.Read.{read_of, read_sector}
use Rattle.meaning.specs.Write.{write_of}
use Rattle.meaning.specs.Allot.{allot}
use Rattle.meaning.specs.Trim.{trim}
use Rattle.meaning.specs.Kill.{kill}
use Rattle.meaning.specs.Listing
use Rattle.meaning.specs.Calls.{Call, number, leaves}
use Rattle.meaning.specs.declared.Geometry.{Geometry}
use Rattle.meaning.specs.declared.Handle.{Handle}
use Rattle.meaning.specs.declared.NewFile.{NewFile}
use Rattle.meaning.specs.declared.Mode.{Mode}
use Rattle.meaning.specs.declared.Listed.{Listed}
use Rattle.lists.specs.Members
use Rattle.laws.specs.Facts
use Rattle.laws.specs.Passed.{passed, yes-T}
use Rattle.promises.specs.Promises.{Live, InRange}
use Rattle.promises.specs.Refusing
-- Accepted --------------------------------------------------------------------------------------------------------------------------

-- refusals 1 and 21 to 30 passed
pub use Rattle.laws.specs.Passed.{Served, disk-passed}

-- and 12 and 7: the handle is live
pub record Has (g : Geometry) (d : List ℕ) (h : Handle) : Type 0 where
  pub fits : T (fits_geometry g d)
  pub sound : Facts.Sound g d
  pub live : Live g d h

module _ (g : Geometry) (d : List ℕ) (h : Handle) where
  pub handle-passed : (b : Bool) (cs : List (ℕ × Bool)) → first (handle_refusals g d h b cs) ≡ 0 → Has g d h × T b × (first cs ≡ 0)
  handle-passed b cs e =
      let w = disk-passed g d _ e in
      let p₃ = passed 12 _ _ (omega arith) w.1 in
      let p₄ = passed 7 _ _ (omega arith) p₃.1 in
      (record { fits = w.0.fits; sound = w.0.sound; live = (Refusing.live-iff g d h).0 (yes-T (fresh g d h) p₄.0) }, yes-T b p₃.0, p₄.1)

  pub live-file : Live g d h → Facts.IsFile g d h.slot
  live-file l = record { slot = l.slot; primary' = Members.and_i (in_use g d h.slot) (not (extension g d h.slot)) l.used l.first }

-- the first of several tests
pub first_of : (a : Bool) (bs : List Bool) → T (all (a ∷ bs)) → T a
unfolding all
first_of a bs t = Members.and_l a (all bs) t

-- a handle in range, moved within the range
pub further : (g : Geometry) (h : Handle) (at : ℕ) → InRange g h → at ≤ highest g → InRange g (moved_to h at)
further g h at r l = record { at = l; length' = r.length'; level = r.level }

-- Refused ---------------------------------------------------------------------------------------------------------------------------

pub other-case : {A : Type 0} (n : ℕ) (x y : A) → n ≢ 0 → cond (eqb n 0) x y ≡ y
other-case n x y k = rw (Members.no_false {b = eqb n 0} (λ t. k (eqb→eq n 0 t)))

pub other-both : {A : Type 0} (n : ℕ) (b : Bool) (x y : A) → n ≢ 0 → cond (eqb n 0 && b) x y ≡ y
other-both n b x y k = rw (Members.no_false {b = eqb n 0} (λ t. k (eqb→eq n 0 t)))

module _ (g : Geometry) (d : List ℕ) where
  -- the image is as it stood
  pub as-stood : (c : Call) → number g d c ≢ 0 → leaves g d c ≡ d
  unfolding number leaves create write_of allot trim kill
  as-stood Call.checks k = refl
  as-stood (Call.looks_up n) k = refl
  as-stood (Call.opens n len checking code) k = refl
  as-stood (Call.creates n f checking) k = other-both (create g d n f checking).0.refusal.number (missing g d (fold n)) _ d k
  as-stood (Call.reads a h b) k = refl
  as-stood (Call.reads_sector h i) k = refl
  as-stood (Call.writes a m h b) k = other-case (write_of g d m h (how_many a h.len b) b).0.refusal.number _ d k
  as-stood (Call.allots h i) k = other-case (allot g d h i).0.refusal.number _ d k
  as-stood (Call.trims h) k = other-both (trim g d h).0.refusal.number _ _ d k
  as-stood (Call.kills h) k = other-case (kill g d h).0.refusal.number _ d k
  as-stood (Call.lists i) k = refl
  as-stood Call.counts k = refl
  as-stood Call.measures k = refl

  -- and so it is where create found an old file
  pub old-stands : (n : List ℕ) (f : NewFile) (checking : Bool) → (create g d n f checking).0.old ≡ true → (create g d n f checking).1 ≡ d
  unfolding create
  old-stands n f checking o = go (eqb (create g d n f checking).0.refusal.number 0) (missing g d (fold n)) _ o
    where
      go : (a b : Bool) (x : List ℕ) → (a && not b) ≡ true → cond (a && b) x d ≡ d
      go true true x o = absurd (Members.true-T o)
      go true false x o = refl
      go false b x o = absurd (Members.true-T o)

  pub open-refuses : (n : List ℕ) (len : ℕ) (checking : Bool) (code : ℕ) → (open' g d n len checking code).refusal.number ≢ 0 → (open' g d n len checking code
      ).handle ≡ no_handle
  unfolding open'
  open-refuses n len checking code k = other-case (open' g d n len checking code).refusal.number _ no_handle k

  pub create-refuses : (n : List ℕ) (f : NewFile) (checking : Bool) → (create g d n f checking).0.refusal.number ≢ 0
      → ((create g d n f checking).0.handle ≡ no_handle) × ((create g d n f checking).0.old ≡ false)
  unfolding create
  create-refuses n f checking k = (
    other-case (create g d n f checking).0.refusal.number _ no_handle k,
    ap (λ (b : Bool). b && not (missing g d (fold n)))
        (Members.no_false {b = eqb (create g d n f checking).0.refusal.number 0} (λ t. k (eqb→eq _ 0 t))),
  )

  pub read-refuses : (h : Handle) (n : ℕ) (b : List ℕ) → (read_of g d h n b).0.refusal.number ≢ 0 → ((read_of g d h n b).0.handle ≡ h) ×
      ((read_of g d h n b).1 ≡ b)
  unfolding read_of
  read-refuses h n b k = (other-case (read_of g d h n b).0.refusal.number _ h k, other-case (read_of g d h n b).0.refusal.number _ b k)

  pub sector-refuses : (h : Handle) (i : ℕ) → (read_sector g d h i).refusal.number ≢ 0 → ((read_sector g d h i).from ≡ 0) × ((read_sector g d h i).to ≡ 0)
  unfolding read_sector
  sector-refuses h i k = (other-case (read_sector g d h i).refusal.number _ 0 k, other-case (read_sector g d h i).refusal.number _ 0 k)

  pub write-refuses : (m : Mode) (h : Handle) (n : ℕ) (b : List ℕ) → (write_of g d m h n b).0.refusal.number ≢ 0 → (write_of g d m h n b).0.handle ≡ h
  unfolding write_of
  write-refuses m h n b k = other-case (write_of g d m h n b).0.refusal.number _ h k

  pub allot-refuses : (h : Handle) (i : ℕ) → (allot g d h i).0.handle ≡ h
  unfolding allot
  allot-refuses h i = refl

  pub trim-refuses : (h : Handle) → (trim g d h).0.handle ≡ h
  unfolding trim
  trim-refuses h = refl

  pub kill-refuses : (h : Handle) → (kill g d h).0.handle ≡ h
  unfolding kill
  kill-refuses h = refl

  pub list-refuses : (i : ℕ) → (Listing.list g d i).refusal.number ≢ 0 → Listing.list g d i ≡ Listing.no_file (Listing.list g d i).refusal
  unfolding Listing.list
  list-refuses i k =
      let n : (check g d).number ≢ 0 = λ e. k (Refusing.list-number g d i ∙ e) in
      let q = other-case (check g d).number _ (Listing.no_file (check g d)) n in q ∙ ap Listing.no_file (sym (ap (λ (l : Listed). l.refusal) q))

  pub counts-refuses : (Listing.counts g d).refusal.number ≢ 0 → ((Listing.counts g d).files ≡ 0) × ((Listing.counts g d).free ≡ 0)
  unfolding Listing.counts
  counts-refuses k = (other-case (check g d).number _ 0 k, other-case (check g d).number _ 0 k)
