-- Two small disks, a system disk in drive 0 and a data disk in drive 1, on which the calls of two drives compute.
use Rattle.std.specs.Prelude.{ℕ, ◌+◌, ◌≡◌, refl, Bool, true, false, List, [], ◌∷◌, ◌++◌, replicate}
use Rattle.meaning.specs.Names.{hash}
use Rattle.meaning_table.specs.Samples as samples
use Rattle.meaning_table.specs.Samples.{laid}
use Rattle.meaning.specs.Handles.{no_handle}
use Rattle.meaning.specs.declared.Geometry.{Geometry}
use Rattle.meaning.specs.declared.Refusal.{Refusal}
use Rattle.drives.specs.Pair.{Pair, pair, no_such_drive, on_drive, of_disk, naming', fault_drive, of_both, drive_of, handle_on}
use Rattle.drives.specs.ByName.{by_name, not_looked_up, lacks, searched, takes, look_up}
use Rattle.drives.specs.ByHandle.{read_sector, no_part}
use Rattle.drives.specs.declared.DriveLookedUp.{DriveLookedUp}

-- every definition that is shut, opened by one name
unfoldable pub opened : Bool
unfolding samples.opened on_drive of_disk naming' fault_drive of_both drive_of by_name lacks searched takes look_up read_sector
opened = true

-- names of one hash
abbrev named : ℕ → ℕ → List ℕ
named x y = x ∷ y ∷ replicate 9 0x20

abbrev pub aa : List ℕ
aa = named 0x41 0x41

abbrev pub bg : List ℕ
bg = named 0x42 0x47

abbrev pub ce : List ℕ
ce = named 0x43 0x45

abbrev dk : List ℕ
dk = named 0x44 0x4b

-- one block of 3 granules, the directory in the first two; the third is free where the GAT's byte is 03H
abbrev geometry_of : Bool → Geometry
geometry_of system = record { blocks = 1; units = 3; start = 0; noPassword = 0x9999; system = system; granule = 5 }

-- an empty file's entry
abbrev entry : List ℕ → List ℕ
entry n = 0x10 ∷ 0 ∷ 0 ∷ 0 ∷ 0 ∷ (n ++ (replicate 6 0 ++ replicate 10 0xff))

-- AA in slot 80H; the GAT's byte and HIT place 1FH as given
abbrev zeroth_disk : ℕ → ℕ → List ℕ
zeroth_disk gat above = laid 0 ((0, gat ∷ []) ∷ (256 + 0x1f, above ∷ []) ∷ (256 + 0x80, hash aa ∷ []) ∷ (640, entry aa) ∷ []) 3840

-- BG in slot 02H, CE in slot 03H
abbrev first_disk : List ℕ
first_disk = laid 0 ((0, 0x03 ∷ []) ∷ (256 + 0x02, hash bg ∷ hash ce ∷ []) ∷ (1024, entry bg) ∷ (1280, entry ce) ∷ []) 3840

abbrev pub bench : Pair
bench = pair (geometry_of true) (zeroth_disk 3 0) (geometry_of false) first_disk

-- drive 1 of 7 bytes
abbrev cut : ℕ → Pair
cut above = pair (geometry_of true) (zeroth_disk 3 above) (geometry_of false) (replicate 7 0)

-- a refusal that names drive 0 (1) or drive 1 (2)
abbrev naming : ℕ → ℕ → Refusal
naming number image = record { number = number; image = image; at = 256 }

abbrev told : ℕ → ℕ → ℕ → DriveLookedUp
told drive slot compared = record { refusal = naming 0 0; drive = drive; slot = slot; compared = compared }

-- comparison counts add up over the drives searched: AA, then BG and CE
counts-add-up : look_up bench false 0 ce ≡ told 1 3 3
unfolding opened
counts-add-up = refl

-- with a number, only there
only-there : look_up bench true 1 ce ≡ told 1 3 2
unfolding opened
only-there = refl

-- on neither drive: all of both are compared
on-neither : look_up bench false 0 dk ≡ record { refusal = naming 4 0; drive = 0; slot = 0; compared = 3 }
unfolding opened
on-neither = refl

-- the first drive that has the name is told, though the other has it too
first-hit : look_up (pair (geometry_of true) (zeroth_disk 3 0) (geometry_of true) (zeroth_disk 3 0)) false 0 aa ≡ told 0 0x80 1
unfolding opened
first-hit = refl

-- with a number only that drive's image is tested
untested : look_up (cut 0) true 0 aa ≡ told 0 0x80 1
unfolding opened
untested = refl

-- without a number both are, and the refusal names drive 1
both-tested : look_up (cut 0) false 0 aa ≡ not_looked_up (naming 1 2)
unfolding opened
both-tested = refl

-- drive 0's 21 before drive 1's 1
zeroth-before-first : look_up (cut 1) false 0 aa ≡ not_looked_up (naming 21 1)
unfolding opened
zeroth-before-first = refl

-- 16 before 1
sixteen-first : look_up (cut 1) true 7 aa ≡ not_looked_up no_such_drive
unfolding opened
sixteen-first = refl

-- a refused sector read tells drive 0, and names drive 1
refused-part : read_sector (cut 0) (handle_on 1 no_handle) 0 ≡ no_part (naming 1 2)
unfolding opened
refused-part = refl

-- drive 0 has a free permitted slot and no free granule: it takes the new file
slot-and-no-granule : takes (pair (geometry_of true) (zeroth_disk 7 0) (geometry_of false) first_disk) dk ≡ 0
unfolding opened
slot-and-no-granule = refl
