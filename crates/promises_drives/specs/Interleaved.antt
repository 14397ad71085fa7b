-- Demand 3 over two drives, as it is stated: "Demand 3 reads with 'file' as drive and name; calls without a drive number are left out." A file is a
-- drive and a name; every call has a number, looks up, opens and creates too. Both disks are consistent, each under its geometry. Lists on one name and
-- two drives are lists on two files. The proof is in Demand3.antt, above the theorem of one disk (together: Demand3).
--
-- `answer` is all that this page knows of the calls, and it only names those of `drives`.
use Rattle.std.specs.Prelude.{ℕ, ◌≡◌, ◌≢◌, true, List, [], ◌∷◌, ◌++◌, map, T, get_or, set}
use Rattle.std.proofs.Math.Seq.{slice}
use Rattle.meaning.specs.Layout.{fits_geometry}
use Rattle.meaning.specs.Names.{fold}
use Rattle.meaning.specs.Consistent.{consistent}
use Rattle.meaning.specs.Handles.{no_handle, moved_to}
use Rattle.meaning.specs.Amount.{how_many}
use Rattle.meaning.specs.Read
use Rattle.meaning.specs.Write
use Rattle.meaning.specs.Plain.{plain}
use Rattle.promises_words.specs.Given.{AreBytes}
use Rattle.meaning.specs.declared.Handle.{Handle}
use Rattle.meaning.specs.declared.Mode.{Mode}
use Rattle.together.specs.Statement.{Name, Step, looks_up, opens, creates, moves, reads, reads_sector, writes, allots, trims, kills}
use Rattle.together.specs.Statement.{known, kept, Turn, one, two, Interleaving, Quiet, Same, SameFiles, AsItWas, Grip, grip, AllBring}
use Rattle.drives.specs.Pair.{Pair, pair, geometry, image, handle_on, on_drive}
use Rattle.drives.specs.Pair as pairs
use Rattle.drives.specs.ByName.{look_up, open_file, create}
use Rattle.drives.specs.ByHandle.{unheld, changing, read_sector, allot, trim, kill}
use Rattle.drives.specs.declared.DriveHandle.{DriveHandle}
use Rattle.drives.specs.declared.DriveAnswer.{DriveAnswer}
use Rattle.promises_drives.specs.Statement.{IsDrive}

-- what a list has by now: its handles, each with its drive, and what its reads handed back
pub record DriveSide : Type 0 where
  pub handles : List DriveHandle
  pub heard : List (List ℕ)

-- the list's handle of that place; where it has none, which `known` forbids, one of zeros on its drive
abbrev pub handle_at : ℕ → List DriveHandle → ℕ → DriveHandle
handle_at k hs i = get_or hs i (handle_on k no_handle)

abbrev pub with_new : DriveSide → DriveHandle → DriveSide
with_new s h = record { handles = s.handles ++ (h ∷ []); heard = s.heard }

abbrev pub with_moved : DriveSide → ℕ → DriveHandle → DriveSide
with_moved s i h = record { handles = set s.handles i h; heard = s.heard }

abbrev pub hearing : DriveSide → List ℕ → DriveSide
hearing s bytes = record { handles = s.handles; heard = s.heard ++ (bytes ∷ []) }

-- A read and a write of n bytes by a handle, on the drive that it names: read record and write record of `drives` where n is the handle's
-- record length. Read bytes and write bytes are calls on one image, and the steps that ask for them are so on one drive's.
unfoldable pub read_of : Pair → DriveHandle → ℕ → List ℕ → DriveAnswer × List ℕ
read_of p h n b =
    on_drive h.drive (λ k. let r = Read.read_of (geometry p k) (image p k) h.handle n b in (pairs.answered k r.0, r.1)) (unheld h, b)

unfoldable pub write_of : Pair → Mode → DriveHandle → ℕ → List ℕ → DriveAnswer × List ℕ × List ℕ
write_of p m h n b = changing p h (λ k. Write.write_of (geometry p k) (image p k) m h.handle n b)

-- what both drives hold after a call that leaves these images
abbrev pub with_images : Pair → List ℕ → List ℕ → Pair
with_images p d d' = pair p.geometry0 d p.geometry1 d'

-- the number that a step answers, and both images and the list's side that it leaves
pub record DriveAnswered : Type 0 where
  pub number : ℕ
  pub drives : Pair
  pub side : DriveSide

-- a step of a list on the file of name n of drive k: every call by name has the number k, and every handle is one that the list opened or created
-- there; to set a position is no call
unfoldable pub answer : Pair → ℕ → Name → DriveSide → Step → DriveAnswered
answer p k n s looks_up = record { number = (look_up p true k n).refusal.number; drives = p; side = s }
answer p k n s (opens len checking code) =
    let r = open_file p true k n len checking code in record { number = r.refusal.number; drives = p; side = with_new s r.handle }
answer p k n s (creates f checking) =
    let r = create p true k n f checking in
    record { number = r.0.refusal.number; drives = with_images p r.1 r.2; side = with_new s r.0.handle }
answer p k n s (moves i at) =
    let h = handle_at k s.handles i in
    record { number = 0; drives = p; side = with_moved s i (handle_on h.drive (moved_to h.handle at)) }
answer p k n s (reads a i buffer) =
    let h = handle_at k s.handles i in let r = read_of p h (how_many a h.handle.len buffer) buffer in
    record {
      number = r.0.refusal.number;
      drives = p;
      side = hearing (with_moved s i r.0.handle) (kept (plain (geometry p k) (image p k) (fold n)) r.1);
    }
answer p k n s (reads_sector i j) =
    let r = read_sector p (handle_at k s.handles i) j in
    record {
      number = r.refusal.number;
      drives = p;
      side = hearing s (kept (plain (geometry p k) (image p k) (fold n)) (slice r.from r.to (image p r.drive)));
    }
answer p k n s (writes a m i bytes) =
    let h = handle_at k s.handles i in let r = write_of p m h (how_many a h.handle.len bytes) bytes in
    record { number = r.0.refusal.number; drives = with_images p r.1 r.2; side = with_moved s i r.0.handle }
answer p k n s (allots i j) =
    let r = allot p (handle_at k s.handles i) j in
    record { number = r.0.refusal.number; drives = with_images p r.1 r.2; side = s }
answer p k n s (trims i) =
    let r = trim p (handle_at k s.handles i) in
    record { number = r.0.refusal.number; drives = with_images p r.1 r.2; side = s }
answer p k n s (kills i) =
    let r = kill p (handle_at k s.handles i) in
    record { number = r.0.refusal.number; drives = with_images p r.1 r.2; side = s }

-- both drives, and what each list has
pub record DriveWorld : Type 0 where
  pub drives : Pair
  pub first : DriveSide
  pub second : DriveSide

abbrev pub empty : DriveSide
empty = record { handles = []; heard = [] }

abbrev pub start : Pair → DriveWorld
start p = record { drives = p; first = empty; second = empty }

-- the handles without their drives
abbrev pub bare : List DriveHandle → List Handle
bare hs = map (λ h. h.handle) hs

-- the first list is on the file of name a of drive k, the second on that of name b of drive l
module _ (k l : ℕ) (a b : Name) where
  abbrev pub answered : DriveWorld → Turn → DriveAnswered
  answered w (one c) = answer w.drives k a w.first c
  answered w (two c) = answer w.drives l b w.second c

  abbrev pub next : DriveWorld → Turn → DriveWorld
  next w (one c) = let r = answered w (one c) in record { drives = r.drives; first = r.side; second = w.second }
  next w (two c) = let r = answered w (two c) in record { drives = r.drives; first = w.first; second = r.side }

  abbrev pub after : DriveWorld → List Turn → DriveWorld
  after w [] = w
  after w (t ∷ ts) = after (next w t) ts

  -- the call names a handle that its list has, and is accepted
  abbrev pub Taken : DriveWorld → Turn → Type 0
  Taken w (one c) = T (known (bare w.first.handles) c) × ((answered w (one c)).number ≡ 0)
  Taken w (two c) = T (known (bare w.second.handles) c) × ((answered w (two c)).number ≡ 0)

  abbrev pub Accepted : DriveWorld → List Turn → Type 0
  Accepted w [] = Unit {0}
  Accepted w (t ∷ ts) = Taken w t × Accepted (next w t) ts

  -- no call takes or gives back a granule or an entry
  abbrev pub AllQuiet : DriveWorld → List Turn → Type 0
  AllQuiet w [] = Unit {0}
  AllQuiet w (one c ∷ ts) =
      Quiet (geometry w.drives k) (fold a) (image w.drives k) (image (next w (one c)).drives k) × AllQuiet (next w (one c)) ts
  AllQuiet w (two c ∷ ts) =
      Quiet (geometry w.drives l) (fold b) (image w.drives l) (image (next w (two c)).drives l) × AllQuiet (next w (two c)) ts

-- a handle with its drive, its slot apart
pub record DriveGrip : Type 0 where
  pub drive : ℕ
  pub grip : Grip

abbrev pub drive_grip : DriveHandle → DriveGrip
drive_grip h = record { drive = h.drive; grip = grip h.handle }

-- of the worlds w and w' at the end of two interleavings of xs and ys, the first of them zs, from the drives p
pub record DrivesAgree (p : Pair) (k l : ℕ) (a b : Name) (xs ys : List Step) (zs : List Turn) (w w' : DriveWorld) : Type 0 where
  -- both drives hold the same named files
  pub files : (j : ℕ) → IsDrive j → SameFiles (geometry p j) (image w.drives j) (image w'.drives j)
  -- every third file, of either drive, is as it was
  pub third : (j : ℕ) → IsDrive j → (n : Name) → (j ≡ k → n ≢ fold a) → (j ≡ l → n ≢ fold b)
      → AsItWas (geometry p j) n (image p j) (image w.drives j) × Same (plain (geometry p j) (image p j) n) (plain (geometry p j) (image w.drives j) n)
  -- if no call takes or gives back a granule or an entry, both images are equal byte for byte
  pub images : AllQuiet k l a b (start p) zs → (j : ℕ) → IsDrive j → image w.drives j ≡ image w'.drives j
  -- both disks are consistent
  pub consistent' : (j : ℕ) → IsDrive j → (consistent (geometry p j) (image w.drives j) ≡ true) × (consistent (geometry p j) (image w'.drives j) ≡ true)
  -- each list ends with the same handles, slots apart
  pub handles : (map drive_grip w.first.handles ≡ map drive_grip w'.first.handles)
      × (map drive_grip w.second.handles ≡ map drive_grip w'.second.handles)
  -- each list was handed back the same bytes
  pub heard : AreBytes (image p 0) → AreBytes (image p 1) → AllBring xs → AllBring ys
      → (w.first.heard ≡ w'.first.heard) × (w.second.heard ≡ w'.second.heard)

-- Two lists of calls on two files, which differ in drive or in name.
abbrev pub Demand3 : Type 0
Demand3 =
    (p : Pair) (k l : ℕ) → IsDrive k → IsDrive l → (a b : Name) → (k ≡ l → fold a ≢ fold b)
    → ((j : ℕ) → IsDrive j → (fits_geometry (geometry p j) (image p j) ≡ true) × (consistent (geometry p j) (image p j) ≡ true))
    → (xs ys : List Step) (zs zs' : List Turn) → Interleaving xs ys zs → Interleaving xs ys zs'
    → Accepted k l a b (start p) zs → Accepted k l a b (start p) zs'
    → DrivesAgree p k l a b xs ys zs (after k l a b (start p) zs) (after k l a b (start p) zs')

-- Lists on two drives do not meet: any two interleavings end with the same images, handles and bytes handed back, slots too.
abbrev pub Apart : Type 0
Apart =
    (p : Pair) (k l : ℕ) → IsDrive k → IsDrive l → k ≢ l → (a b : Name) → (xs ys : List Step) (zs zs' : List Turn)
    → Interleaving xs ys zs → Interleaving xs ys zs' → Accepted k l a b (start p) zs → Accepted k l a b (start p) zs'
    → after k l a b (start p) zs ≡ after k l a b (start p) zs'
