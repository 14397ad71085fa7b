-- What each exported function over two drives hands back (02 §9): its number first, the drive that it names and the slot of a fault, in calls by name
-- the place of a bad byte, then the other numbers that go out, then the bytes of what it was lent.
use Rattle.std.specs.Prelude.{ℕ, Bool, cond, List}
use Rattle.meaning.specs.Refusal.{place_of, slot_told}
use Rattle.meaning.specs.Refusals.{accepted}
use Rattle.meaning.specs.declared.NewFile.{NewFile}
use Rattle.drives.specs.Pair.{Pair, fault_drive}
use Rattle.drives.specs.ByName.{look_up, open_file, create}
use Rattle.drives.specs.ByHandle.{read_record, read_sector, write_record, allot, trim, kill}
use Rattle.drives.specs.declared.DriveAnswer.{DriveAnswer}
use Rattle.drives.specs.declared.DriveCreated.{DriveCreated}
use Rattle.drives.specs.declared.DriveLookedUp.{DriveLookedUp}
use Rattle.drives.specs.declared.DrivePart.{DrivePart}
use Rattle.drives_codec.specs.Codec.{handle_of, stored, length_for}
use Rattle.genie_codec.specs.Words.{mode_of, told}
use Rattle.genie.specs.Exports.{new_file}

abbrev pub looks : DriveLookedUp → ℕ × ℕ × ℕ × ℕ × ℕ × ℕ × ℕ
looks l = (l.refusal.number, fault_drive l.refusal, slot_told l.refusal, place_of l.refusal, l.drive, l.slot, l.compared)

abbrev pub opens : List ℕ → DriveAnswer → ℕ × ℕ × ℕ × ℕ × List ℕ
opens b a = (a.refusal.number, fault_drive a.refusal, slot_told a.refusal, place_of a.refusal, stored b a.handle)

abbrev pub creates : List ℕ → DriveCreated × List ℕ × List ℕ → ℕ × ℕ × ℕ × ℕ × ℕ × List ℕ × List ℕ × List ℕ
creates b r =
    let c = r.0 in
    (c.refusal.number, fault_drive c.refusal, slot_told c.refusal, place_of c.refusal, told c.old, stored b c.handle, r.1, r.2)

-- the handle's bytes change where the call was accepted
unfoldable pub after : List ℕ → DriveAnswer → List ℕ
after b a = cond (accepted a.refusal.number) (stored b a.handle) b

abbrev pub reads : List ℕ → DriveAnswer × List ℕ → ℕ × ℕ × ℕ × List ℕ × List ℕ
reads b r = (r.0.refusal.number, fault_drive r.0.refusal, r.0.refusal.at, after b r.0, r.1)

abbrev pub writes : List ℕ → DriveAnswer × List ℕ × List ℕ → ℕ × ℕ × ℕ × List ℕ × List ℕ × List ℕ
writes b r = (r.0.refusal.number, fault_drive r.0.refusal, r.0.refusal.at, after b r.0, r.1, r.2)

abbrev pub changes : DriveAnswer × List ℕ × List ℕ → ℕ × ℕ × ℕ × List ℕ × List ℕ
changes r = (r.0.refusal.number, fault_drive r.0.refusal, r.0.refusal.at, r.1, r.2)

abbrev pub lies : DrivePart → ℕ × ℕ × ℕ × ℕ × ℕ × ℕ
lies a = (a.refusal.number, fault_drive a.refusal, a.refusal.at, a.drive, a.from, a.to)

-- a new file as it is stated, its record length out of range where the outgoing handle has no room
abbrev room_for : List ℕ → NewFile → NewFile
room_for b f = new_file f.day f.month f.year (length_for b f.len) f.main f.worker

module _ (p : Pair) where
  -- the place, the drive, slot, compared
  abbrev pub drives_look_up : Bool → ℕ → List ℕ → ℕ × ℕ × ℕ × ℕ × ℕ × ℕ × ℕ
  drives_look_up numbered k n = looks (look_up p numbered k n)

  -- the place, the handle's bytes
  abbrev pub drives_open : Bool → ℕ → List ℕ → ℕ → Bool → ℕ → List ℕ → ℕ × ℕ × ℕ × ℕ × List ℕ
  drives_open numbered k n len checking code b = opens b (open_file p numbered k n (length_for b len) checking code)

  -- the place, old, the handle's bytes, both images
  abbrev pub drives_create : Bool → ℕ → List ℕ → NewFile → Bool → List ℕ → ℕ × ℕ × ℕ × ℕ × ℕ × List ℕ × List ℕ × List ℕ
  drives_create numbered k n f checking b = creates b (create p numbered k n (room_for b f) checking)

  -- the handle's bytes, the buffer
  abbrev pub drives_read_record : List ℕ → List ℕ → ℕ × ℕ × ℕ × List ℕ × List ℕ
  drives_read_record b buffer = reads b (read_record p (handle_of b) buffer)

  -- the drive, from, to
  abbrev pub drives_read_sector : List ℕ → ℕ → ℕ × ℕ × ℕ × ℕ × ℕ × ℕ
  drives_read_sector b k = lies (read_sector p (handle_of b) k)

  -- the handle's bytes, both images
  abbrev pub drives_write_record : List ℕ → Bool → List ℕ → ℕ × ℕ × ℕ × List ℕ × List ℕ × List ℕ
  drives_write_record b sequential buffer = writes b (write_record p (mode_of sequential) (handle_of b) buffer)

  -- both images
  abbrev pub drives_allot : List ℕ → ℕ → ℕ × ℕ × ℕ × List ℕ × List ℕ
  drives_allot b k = changes (allot p (handle_of b) k)

  abbrev pub drives_trim : List ℕ → ℕ × ℕ × ℕ × List ℕ × List ℕ
  drives_trim b = changes (trim p (handle_of b))

  abbrev pub drives_kill : List ℕ → ℕ × ℕ × ℕ × List ℕ × List ℕ
  drives_kill b = changes (kill p (handle_of b))
