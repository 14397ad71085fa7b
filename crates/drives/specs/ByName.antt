-- Calls by name on two drives (02 §9): "A name without a drive number is looked for on drive 0, then on drive 1; with a number … only there".
use Rattle.std.specs.Prelude.{ℕ, ◌+◌, Bool, false, cond, List, [], ◌∷◌, eqb, length}
use Rattle.meaning.specs.Lists.{all}
use Rattle.meaning.specs.Free.{free_slots}
use Rattle.meaning.specs.Refusals.{accepted}
use Rattle.meaning.specs.LookUp
use Rattle.meaning.specs.Open
use Rattle.meaning.specs.Create
use Rattle.meaning.specs.declared.Answer.{Answer}
use Rattle.meaning.specs.declared.Created.{Created}
use Rattle.meaning.specs.declared.Handle.{Handle}
use Rattle.meaning.specs.declared.LookedUp.{LookedUp}
use Rattle.meaning.specs.declared.NewFile.{NewFile}
use Rattle.meaning.specs.declared.Refusal.{Refusal}
use Rattle.drives.specs.Pair.{Pair, geometry, image, leaving, no_such_drive, on_drive, naming', drive_of, tested, handle_on, no_drive_handle}
use Rattle.drives.specs.declared.DriveHandle.{DriveHandle}
use Rattle.drives.specs.declared.DriveAnswer.{DriveAnswer}
use Rattle.drives.specs.declared.DriveCreated.{DriveCreated}
use Rattle.drives.specs.declared.DriveLookedUp.{DriveLookedUp}

-- What the call on drive n answers, told of that drive ---------------------------------------------------------------------------

-- `before` is how many entries were compared on the drive asked before: "Comparison counts add up over the drives searched."
abbrev pub looked_up_on : ℕ → ℕ → LookedUp → DriveLookedUp
looked_up_on n before l =
    record {
      refusal = naming' n l.refusal;
      drive = drive_of n l.refusal;
      slot = l.slot;
      compared = before + l.compared;
    }

-- a refused open or create hands back a handle of zeros, and so drive 0
abbrev pub opened_on : ℕ → Answer → DriveAnswer
opened_on n a =
    record { refusal = naming' n a.refusal; handle = handle_on (drive_of n a.refusal) a.handle }

abbrev pub created_on : ℕ → Created → DriveCreated
created_on n c =
    record { refusal = naming' n c.refusal; old = c.old; handle = handle_on (drive_of n c.refusal) c.handle }

-- What is answered where no drive is asked ------------------------------------------------------------------------------------------

-- "count 0" under 16, and under 1 and 2 as on one image
abbrev pub not_looked_up : Refusal → DriveLookedUp
not_looked_up c = record { refusal = c; drive = 0; slot = 0; compared = 0 }

abbrev pub not_opened : Refusal → DriveAnswer
not_opened c = record { refusal = c; handle = no_drive_handle }

abbrev pub not_created : Refusal → DriveCreated
not_created c = record { refusal = c; old = false; handle = no_drive_handle }

-- The calls ------------------------------------------------------------------------------------------------------------------------

module _ (p : Pair) where
  -- With a number: the call on that drive, or 16. Without, where the number is not looked at: both images are tested, then the call that `without`
  -- is.
  unfoldable pub by_name : {A : Type 0} → Bool → ℕ → (ℕ → A) → A → (Refusal → A) → A
  by_name numbered n call without refused =
      cond numbered (on_drive n call (refused no_such_drive)) (cond (accepted (tested p).number) without (refused (tested p)))

  abbrev pub look_up_on : ℕ → List ℕ → LookedUp
  look_up_on k n = LookUp.look_up (geometry p k) (image p k) n

  -- drive k has no file of that name
  unfoldable pub lacks : ℕ → List ℕ → Bool
  lacks k n = eqb (look_up_on k n).refusal.number 4

  -- "looked for on drive 0, then on drive 1": the drive that the search names, which is drive 1 where neither has the name
  unfoldable pub searched : List ℕ → ℕ
  searched n = cond (lacks 0 n) 1 0

  -- how many entries were compared on drive 0 before drive 1 was asked
  abbrev pub passed_over : List ℕ → ℕ
  passed_over n = cond (lacks 0 n) (look_up_on 0 n).compared 0

  -- "Creating without a number opens what that search finds; if nothing, drive 0 takes it if it has a free permitted slot, else drive 1."
  unfoldable pub takes : List ℕ → ℕ
  takes n =
      cond (all (lacks 0 n ∷ lacks 1 n ∷ [])) (cond (eqb (length (free_slots (geometry p 0) (image p 0))) 0) 1 0) (searched n)

  unfoldable pub look_up : Bool → ℕ → List ℕ → DriveLookedUp
  look_up numbered k n =
      by_name numbered k (λ j. looked_up_on j 0 (look_up_on j n)) (looked_up_on (searched n) (passed_over n) (look_up_on (searched n) n)) not_looked_up

  abbrev pub open_on : List ℕ → ℕ → Bool → ℕ → ℕ → DriveAnswer
  open_on n len checking code j = opened_on j (Open.open' (geometry p j) (image p j) n len checking code)

  unfoldable pub open_file : Bool → ℕ → List ℕ → ℕ → Bool → ℕ → DriveAnswer
  open_file numbered k n len checking code =
      by_name numbered k (open_on n len checking code) (open_on n len checking code (searched n)) not_opened

  abbrev pub create_on : List ℕ → NewFile → Bool → ℕ → DriveCreated × List ℕ × List ℕ
  create_on n f checking j =
      let r = Create.create (geometry p j) (image p j) n f checking in (created_on j r.0, leaving p j r.1 0, leaving p j r.1 1)

  unfoldable pub create : Bool → ℕ → List ℕ → NewFile → Bool → DriveCreated × List ℕ × List ℕ
  create numbered k n f checking =
      by_name numbered k (create_on n f checking) (create_on n f checking (takes n)) (λ c. (not_created c, p.image0, p.image1))
