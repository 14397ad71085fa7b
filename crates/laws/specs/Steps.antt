-- One step of a growth or of a trim, in the words of the code's contracts: whatever a function asks of a disk and a file
-- (refusals 1, 2, 6 and 7 passed) still holds after the step. So a loop of steps may call it again.
use Rattle.std.specs.Prelude.{◌≡◌, true, false, not, List, [], ◌∷◌, ◌++◌, ℕ, ◌+◌, ◌*◌, ◌≤◌, ◌<◌, length, T}
use Rattle.std.proofs.Common.{ap, ◌∙◌, arith}
use Rattle.std.proofs.Math.Dec.{not_T}
use Rattle.meaning.specs.Layout.{fits_geometry, granules, taken, is_slot, field, granule_bytes}
use Rattle.meaning.specs.Bits.{bit}
use Rattle.meaning.specs.Entries.{in_use_primary, system, size_of}
use Rattle.meaning.specs.Chain.{owned}
use Rattle.meaning.specs.Consistent.{consistent}
use Rattle.meaning.specs.Growth.{take_at, grown}
use Rattle.meaning.specs.Drop.{drop_one}
use Rattle.meaning.specs.declared.Geometry.{Geometry}
use Rattle.lists.specs.Members
use Rattle.laws.specs.Facts
use Rattle.laws.specs.Places
use Rattle.laws.specs.Change
use Rattle.laws.specs.TakeOne
use Rattle.laws.specs.DropLast

-- what a call by a handle has passed, of the disk d and the file at slot p
pub record Ready (g : Geometry) (d : List ℕ) (p : ℕ) : Type 0 where
  pub fits : fits_geometry g d ≡ true
  pub sound : consistent g d ≡ true
  pub slot : is_slot g d p ≡ true
  pub first : in_use_primary g d p ≡ true
  pub user : system g d p ≡ false

pub fits-long : (g : Geometry) (d d' : List ℕ) → length d' ≡ length d → fits_geometry g d' ≡ fits_geometry g d
unfolding fits_geometry
fits-long g d d' e = rw e

module _ (g : Geometry) (d : List ℕ) (p : ℕ) (r : Ready g d p) where
  c : Facts.Sound g d
  c = Facts.sound g d r.sound

  k : Places.Fits g d
  k = Places.fits g d (Members.true-T r.fits)

  f : Facts.IsFile g d p
  f = record { slot = Members.true-T r.slot; primary' = Members.true-T r.first }

  u : T (not (system g d p))
  u = not_T (system g d p) (λ t. Members.false-no r.user t)

  ready : (d' : List ℕ) → Change.Change g d d' p → length d' ≡ length d → Facts.IsFile g d' p → field g d' p 0 ≡ field g d p 0 → Ready g d' p
  ready d' h l f' e = record {
    fits = fits-long g d d' l ∙ r.fits;
    sound = Facts.back g d' (Change.changed g d d' c p h);
    slot = Members.T_true f'.slot;
    first = Members.T_true f'.primary';
    user = ap (bit 6) e ∙ r.user;
  }

  pub take-ready : (n : ℕ) → (n < granules g) × (T (taken g d n) → ⊥) → (d' : List ℕ) → take_at g p n d ≡ grown d'
      → Ready g d' p × ((m : ℕ) × (owned g d' p ≡ owned g d p ++ (m ∷ [])))
  take-ready n free d' e =
      let w = TakeOne.take-at g d c k p f u n free d' e in
      (ready d' w.change w.long w.file (w.longer.low 0 (omega arith)), (w.which, w.longer.more))

  pub drop-ready : size_of g d p + granule_bytes g ≤ granule_bytes g * length (owned g d p)
      → Ready g (drop_one g p d) p × ((m : ℕ) × (owned g d p ≡ owned g (drop_one g p d) p ++ (m ∷ [])))
  drop-ready h =
      let w = DropLast.drop-one g d c k p f u h in
      (ready (drop_one g p d) w.change w.long w.file (w.shorter.low 0 (omega arith)), (w.which, w.shorter.less))
