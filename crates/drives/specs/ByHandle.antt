-- Calls by handle on two drives (02 §9): "with a number, as every handle has, only there, and only that drive's image is tested".
use Rattle.std.specs.Prelude.{ℕ, List}
use Rattle.meaning.specs.Read
use Rattle.meaning.specs.Write
use Rattle.meaning.specs.Allot
use Rattle.meaning.specs.Trim
use Rattle.meaning.specs.Kill
use Rattle.meaning.specs.declared.Answer.{Answer}
use Rattle.meaning.specs.declared.Mode.{Mode}
use Rattle.meaning.specs.declared.Part.{Part}
use Rattle.meaning.specs.declared.Refusal.{Refusal}
use Rattle.drives.specs.Pair.{Pair, geometry, image, leaving, no_such_drive, on_drive, naming', drive_of, answered}
use Rattle.drives.specs.declared.DriveHandle.{DriveHandle}
use Rattle.drives.specs.declared.DriveAnswer.{DriveAnswer}
use Rattle.drives.specs.declared.DrivePart.{DrivePart}

-- 16, a handle's drive not 0 or 1: the handle is as it stood
abbrev pub unheld : DriveHandle → DriveAnswer
unheld h = record { refusal = no_such_drive; handle = h }

-- "A sector read then hands back a part of whichever image holds the file, and says which (0 on a refusal)"
abbrev pub part_on : ℕ → Part → DrivePart
part_on n a = record { refusal = naming' n a.refusal; drive = drive_of n a.refusal; from = a.from; to = a.to }

-- a refused sector read hands back an empty part: that at place 0 of drive 0's image
abbrev pub no_part : Refusal → DrivePart
no_part c = record { refusal = c; drive = 0; from = 0; to = 0 }

module _ (p : Pair) where
  -- a call that changes an image: what it answers, and both images as it leaves them
  abbrev pub changing : DriveHandle → (ℕ → Answer × List ℕ) → DriveAnswer × List ℕ × List ℕ
  changing h call = on_drive h.drive (λ n. (answered n (call n).0, leaving p n (call n).1 0, leaving p n (call n).1 1)) (unheld h, p.image0, p.image1)

  -- The call on drive n, by what the handle holds -----------------------------------------------------------------------------------

  abbrev pub read_on : DriveHandle → List ℕ → ℕ → Answer × List ℕ
  read_on h b n = Read.read_record (geometry p n) (image p n) h.handle b

  abbrev pub sector_on : DriveHandle → ℕ → ℕ → Part
  sector_on h k n = Read.read_sector (geometry p n) (image p n) h.handle k

  abbrev pub write_on : Mode → DriveHandle → List ℕ → ℕ → Answer × List ℕ
  write_on m h b n = Write.write_record (geometry p n) (image p n) m h.handle b

  abbrev pub allot_on : DriveHandle → ℕ → ℕ → Answer × List ℕ
  allot_on h k n = Allot.allot (geometry p n) (image p n) h.handle k

  abbrev pub trim_on : DriveHandle → ℕ → Answer × List ℕ
  trim_on h n = Trim.trim (geometry p n) (image p n) h.handle

  abbrev pub kill_on : DriveHandle → ℕ → Answer × List ℕ
  kill_on h n = Kill.kill (geometry p n) (image p n) h.handle

  -- The calls ------------------------------------------------------------------------------------------------------------------------

  -- the buffer beside the answer
  unfoldable pub read_record : DriveHandle → List ℕ → DriveAnswer × List ℕ
  read_record h b = on_drive h.drive (λ n. (answered n (read_on h b n).0, (read_on h b n).1)) (unheld h, b)

  unfoldable pub read_sector : DriveHandle → ℕ → DrivePart
  read_sector h k = on_drive h.drive (λ n. part_on n (sector_on h k n)) (no_part no_such_drive)

  unfoldable pub write_record : Mode → DriveHandle → List ℕ → DriveAnswer × List ℕ × List ℕ
  write_record m h b = changing h (write_on m h b)

  unfoldable pub allot : DriveHandle → ℕ → DriveAnswer × List ℕ × List ℕ
  allot h k = changing h (allot_on h k)

  unfoldable pub trim : DriveHandle → DriveAnswer × List ℕ × List ℕ
  trim h = changing h (trim_on h)

  unfoldable pub kill : DriveHandle → DriveAnswer × List ℕ × List ℕ
  kill h = changing h (kill_on h)
