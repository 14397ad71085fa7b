-- A second drive (02 §9): the two images, a drive number, what it is refused by, and which drive a refusal names.
use Rattle.std.specs.Prelude.{ℕ, Bool, cond, List, [], ◌∷◌, eqb, leb}
use Rattle.meaning.specs.Lists.{all, any}
use Rattle.meaning.specs.Refusal.{unplaced, naming}
use Rattle.meaning.specs.Refusals.{check, accepted}
use Rattle.meaning.specs.Handles.{no_handle}
use Rattle.meaning.specs.declared.Geometry.{Geometry}
use Rattle.meaning.specs.declared.Handle.{Handle}
use Rattle.meaning.specs.declared.Refusal.{Refusal}
use Rattle.meaning.specs.declared.Answer.{Answer}
use Rattle.drives.specs.declared.DriveHandle.{DriveHandle}
use Rattle.drives.specs.declared.DriveAnswer.{DriveAnswer}

-- what is lent: the image that stands in each drive, each with the geometry that is stated for it
pub record Pair : Type 0 where
  pub geometry0 : Geometry
  pub image0 : List ℕ
  pub geometry1 : Geometry
  pub image1 : List ℕ

abbrev pub pair : Geometry → List ℕ → Geometry → List ℕ → Pair
pair g d g' d' = record { geometry0 = g; image0 = d; geometry1 = g'; image1 = d' }

-- what stands in drive n, 0 or 1
abbrev pub geometry : Pair → ℕ → Geometry
geometry p n = cond (eqb n 0) p.geometry0 p.geometry1

abbrev pub image : Pair → ℕ → List ℕ
image p n = cond (eqb n 0) p.image0 p.image1

-- what stands in drive k where a call leaves d in drive n: "a call on one drive changes no byte of the other"
abbrev pub leaving : Pair → ℕ → List ℕ → ℕ → List ℕ
leaving p n d k = cond (eqb n k) d (image p k)

-- "16, drive number not 0 or 1, before all others"
abbrev pub no_such_drive : Refusal
no_such_drive = unplaced 16

-- "with a number, as every handle has, only there": the call on drive n, or what is answered where there is no such drive
unfoldable pub on_drive : {A : Type 0} → ℕ → (ℕ → A) → A → A
on_drive n call none = cond (eqb n 0) (call 0) (cond (eqb n 1) (call 1) none)

-- "1 and 2 name the drive": 1, and 21 to 30 in 2's place
unfoldable pub of_disk : ℕ → Bool
of_disk k = any (eqb k 1 ∷ all (leb 21 k ∷ leb k 30 ∷ []) ∷ [])

-- a refusal of the call on drive n, naming the drive where it is of its disk
unfoldable pub naming' : ℕ → Refusal → Refusal
naming' n c = cond (of_disk c.number) (naming (cond (eqb n 0) 1 2) c) c

-- the drive that a refusal names; 2, which is none, where it names none
abbrev pub no_drive : ℕ
no_drive = 2

unfoldable pub fault_drive : Refusal → ℕ
fault_drive c = cond (eqb c.image 0) no_drive (cond (eqb c.image 1) 0 1)

-- "1 and 2 name the drive, drive 0's before drive 1's": of what the check of each image answered
unfoldable pub of_both : Refusal → Refusal → Refusal
of_both c c' = cond (accepted c.number) (cond (accepted c'.number) (unplaced 0) (naming' 1 c')) (naming' 0 c)

-- what a call without a number tests first, of both images
abbrev pub tested : Pair → Refusal
tested p = of_both (check p.geometry0 p.image0) (check p.geometry1 p.image1)

-- A refused open or create hands back a handle of zeros: drive 0, and length 0.
abbrev pub no_drive_handle : DriveHandle
no_drive_handle = record { drive = 0; handle = no_handle }

-- "Handles carry the drive number"
abbrev pub handle_on : ℕ → Handle → DriveHandle
handle_on n h = record { drive = n; handle = h }

-- the drive that a call tells of: "0 on a refusal"
unfoldable pub drive_of : ℕ → Refusal → ℕ
drive_of n c = cond (accepted c.number) n 0

-- what a call by handle on drive n answers
abbrev pub answered : ℕ → Answer → DriveAnswer
answered n a = record { refusal = naming' n a.refusal; handle = handle_on n a.handle }
