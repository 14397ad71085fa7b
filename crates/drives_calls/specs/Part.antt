-- A part of the image of a drive, as it is handed back.
use Rattle.std.specs.Prelude.{List, cond, ℕ, ◌-◌, ◌≤◌, eqb, length, take, drop}
use Rattle.drives.specs.Pair.{Pair, image, fault_drive}
use Rattle.drives.specs.declared.DrivePart.{DrivePart}

-- the refusal's number, the drive that it names and the slot, the drive that holds the file, and the part's bytes
unfoldable pub part_of : Pair → DrivePart → ℕ × ℕ × ℕ × ℕ × List ℕ
part_of p a =
    (a.refusal.number, fault_drive a.refusal, a.refusal.at, a.drive, take (a.to - a.from) (drop a.from (image p a.drive)))

-- of two, the one of that drive
abbrev pub one_of : {A : Type 0} → ℕ → A → A → A
one_of n x y = cond (eqb n 0) x y

-- the part lies inside the image of its drive
pub record DriveLies (p : Pair) (a : DrivePart) : Type 0 where
  pub forward : a.from ≤ a.to
  pub inside : a.to ≤ length (image p a.drive)
