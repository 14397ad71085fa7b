-- One step of a list on a drive is the step on that drive's disk, the other drive out of reach.
use Prim.Native.Nat.{ℕ, zero, suc}
use Rattle.std.specs.Prelude.{◌≡◌, true, cond, eqb, get_or, set}
use Rattle.std.proofs.Math.Path.{refl, ap}
use Rattle.std.proofs.Common.{sym, ap₂, ◌∙◌}
use mathlib.Core.List.{List, [], ◌∷◌, ◌++◌, map, map-append}
use Rattle.std.proofs.Math.ListN.{get_or-map}
use Rattle.std.proofs.Math.Seq.{slice}
use Rattle.meaning.specs.Names.{fold}
use Rattle.meaning.specs.Amount.{Amount, how_many}
use Rattle.meaning.specs.Handles.{no_handle, moved_to}
use Rattle.meaning.specs.Open
use Rattle.meaning.specs.Create
use Rattle.meaning.specs.Read
use Rattle.meaning.specs.Write
use Rattle.meaning.specs.Allot
use Rattle.meaning.specs.Trim
use Rattle.meaning.specs.Kill
use Rattle.meaning.specs.Calls as calls
use Rattle.meaning.specs.Plain.{plain}
use Rattle.meaning.specs.declared.Answer.{Answer}
use Rattle.meaning.specs.declared.Created.{Created}
use Rattle.meaning.specs.declared.Geometry.{Geometry}
use Rattle.meaning.specs.declared.Handle.{Handle}
use Rattle.meaning.specs.declared.Mode.{Mode}
use Rattle.meaning.specs.declared.Part.{Part}
use Rattle.meaning.specs.declared.Refusal.{Refusal}
use Rattle.together.specs.Statement as disk
use Rattle.together.specs.Statement.{Name, Step, looks_up, opens, creates, moves, reads, reads_sector, writes, allots, trims, kills, Side, kept}
use Rattle.drives.specs.Pair.{Pair, pair, geometry, image, leaving, handle_on, drive_of, naming', answered}
use Rattle.drives.specs.ByName.{look_up, open_file, create, created_on}
use Rattle.drives.specs.ByHandle.{read_sector, allot, trim, kill, part_on}
use Rattle.drives.specs.declared.DriveAnswer.{DriveAnswer}
use Rattle.drives.specs.declared.DriveCreated.{DriveCreated}
use Rattle.drives.specs.declared.DriveHandle.{DriveHandle}
use Rattle.drives.specs.declared.DriveLookedUp.{DriveLookedUp}
use Rattle.drives.specs.declared.DrivePart.{DrivePart}
use Rattle.promises_drives.specs.Statement.{IsDrive, zeroth, first, OnOne}
use Rattle.promises_drives.specs.Drive.{on-drive, naming-number}
use Rattle.promises_drives.specs.Proved.{every-number}
use Rattle.promises_drives.specs.Interleaved.{DriveSide, read_of, write_of, handle_at, with_new, with_moved, hearing, with_images, DriveAnswered, answer}
use Rattle.promises_drives.specs.Interleaved.{bare}

-- a list's side on one disk, as its side on drive k
abbrev pub lift : ℕ → Side → DriveSide
lift k s = record { handles = map (handle_on k) s.handles; heard = s.heard }

pub bare-lift : (k : ℕ) (hs : List Handle) → bare (map (handle_on k) hs) ≡ hs
bare-lift k [] = refl
bare-lift k (h ∷ hs) = ap (λ (l : List Handle). h ∷ l) (bare-lift k hs)

map-set : (f : Handle → DriveHandle) (hs : List Handle) (i : ℕ) (h : Handle) → set (map f hs) i (f h) ≡ map f (set hs i h)
map-set f [] i h = refl
map-set f (x ∷ hs) zero h = refl
map-set f (x ∷ hs) (suc i) h = ap (λ (l : List DriveHandle). f x ∷ l) (map-set f hs i h)

-- the drives with another image in drive k
abbrev pub with_disk : Pair → ℕ → List ℕ → Pair
with_disk p k d = with_images p (leaving p k d 0) (leaving p k d 1)

same-disk : (p : Pair) (k : ℕ) → IsDrive k → p ≡ with_disk p k (image p k)
same-disk p k zeroth = refl
same-disk p k first = refl

pub drive-told : (k : ℕ) (c : Refusal) → c.number ≡ 0 → drive_of k c ≡ k
unfolding drive_of
drive-told k c z = rw z refl

module _ (p : Pair) (k : ℕ) (is : IsDrive k) (n : Name) (s : Side) where
  abbrev g : Geometry
  g = geometry p k

  abbrev d : List ℕ
  d = image p k

  abbrev on : OnOne p k
  on = every-number p k is

  abbrev held : ℕ → Handle
  held i = disk.handle_at s.handles i

  pub at-is : (i : ℕ) → handle_at k (lift k s).handles i ≡ handle_on k (held i)
  at-is i = get_or-map (handle_on k) s.handles i no_handle

  -- what each call by handle answers by the list's handle
  pub read_is : (a : Amount) (i : ℕ) (b : List ℕ) → let h = handle_at k (lift k s).handles i in
      let r = Read.read_of g d (held i) (how_many a (held i).len b) b in
      ◌≡◌ {A = DriveAnswer × List ℕ} (read_of p h (how_many a h.handle.len b) b) (answered k r.0, r.1)
  unfolding read_of
  read_is a i b = ap (λ (h : DriveHandle). read_of p h (how_many a h.handle.len b) b) (at-is i) ∙ on-drive _ _ k is

  pub sector-is : (i j : ℕ) → read_sector p (handle_at k (lift k s).handles i) j ≡ part_on k (Read.read_sector g d (held i) j)
  sector-is i j = ap (λ (h : DriveHandle). read_sector p h j) (at-is i) ∙ on.reads_sector (held i) j

  abbrev Changed : Answer × List ℕ → DriveAnswer × List ℕ × List ℕ
  Changed r = (answered k r.0, leaving p k r.1 0, leaving p k r.1 1)

  write-is : (a : Amount) (m : Mode) (i : ℕ) (b : List ℕ) → let h = handle_at k (lift k s).handles i in
      write_of p m h (how_many a h.handle.len b) b ≡ Changed (Write.write_of g d m (held i) (how_many a (held i).len b) b)
  unfolding write_of
  write-is a m i b = ap (λ (h : DriveHandle). write_of p m h (how_many a h.handle.len b) b) (at-is i) ∙ on-drive _ _ k is

  allot-is : (i j : ℕ) → allot p (handle_at k (lift k s).handles i) j ≡ Changed (Allot.allot g d (held i) j)
  allot-is i j = ap (λ (h : DriveHandle). allot p h j) (at-is i) ∙ on.allots (held i) j

  trim-is : (i : ℕ) → trim p (handle_at k (lift k s).handles i) ≡ Changed (Trim.trim g d (held i))
  trim-is i = ap (trim p) (at-is i) ∙ on.trims (held i)

  kill-is : (i : ℕ) → kill p (handle_at k (lift k s).handles i) ≡ Changed (Kill.kill g d (held i))
  kill-is i = ap (kill p) (at-is i) ∙ on.kills (held i)

  pub number_is : (c : Step) → (answer p k n (lift k s) c).number ≡ (disk.answer g n d s c).number
  unfolding answer disk.answer calls.number
  number_is looks_up = ap (λ (r : DriveLookedUp). r.refusal.number) (on.looks_up n) ∙ naming-number k _
  number_is (opens len checking code) = ap (λ (r : DriveAnswer). r.refusal.number) (on.opens n len checking code) ∙ naming-number k _
  number_is (creates f checking) = ap (λ (r : DriveCreated × List ℕ × List ℕ). r.0.refusal.number) (on.creates n f checking) ∙ naming-number k _
  number_is (moves i at) = refl
  number_is (reads a i b) = ap (λ (r : DriveAnswer × List ℕ). r.0.refusal.number) (read_is a i b) ∙ naming-number k _
  number_is (reads_sector i j) = ap (λ (r : DrivePart). r.refusal.number) (sector-is i j) ∙ naming-number k _
  number_is (writes a m i b) = ap (λ (r : DriveAnswer × List ℕ × List ℕ). r.0.refusal.number) (write-is a m i b) ∙ naming-number k _
  number_is (allots i j) = ap (λ (r : DriveAnswer × List ℕ × List ℕ). r.0.refusal.number) (allot-is i j) ∙ naming-number k _
  number_is (trims i) = ap (λ (r : DriveAnswer × List ℕ × List ℕ). r.0.refusal.number) (trim-is i) ∙ naming-number k _
  number_is (kills i) = ap (λ (r : DriveAnswer × List ℕ × List ℕ). r.0.refusal.number) (kill-is i) ∙ naming-number k _

  new_is : (h : Handle) → with_new (lift k s) (handle_on k h) ≡ lift k (disk.with_new s h)
  new_is h = λ i. record { handles = sym (map-append (handle_on k) s.handles (h ∷ [])) i; heard = s.heard }

  moved-is : (i : ℕ) (h : Handle) → with_moved (lift k s) i (handle_on k h) ≡ lift k (disk.with_moved s i h)
  moved-is i h = λ j. record { handles = map-set (handle_on k) s.handles i h j; heard = s.heard }

  pub drives-is : (c : Step) → (answer p k n (lift k s) c).drives ≡ with_disk p k (disk.answer g n d s c).disk
  unfolding answer disk.answer calls.leaves
  drives-is looks_up = same-disk p k is
  drives-is (opens len checking code) = same-disk p k is
  drives-is (creates f checking) = ap (λ (r : DriveCreated × List ℕ × List ℕ). with_images p r.1 r.2) (on.creates n f checking)
  drives-is (moves i at) = same-disk p k is
  drives-is (reads a i b) = same-disk p k is
  drives-is (reads_sector i j) = same-disk p k is
  drives-is (writes a m i b) = ap (λ (r : DriveAnswer × List ℕ × List ℕ). with_images p r.1 r.2) (write-is a m i b)
  drives-is (allots i j) = ap (λ (r : DriveAnswer × List ℕ × List ℕ). with_images p r.1 r.2) (allot-is i j)
  drives-is (trims i) = ap (λ (r : DriveAnswer × List ℕ × List ℕ). with_images p r.1 r.2) (trim-is i)
  drives-is (kills i) = ap (λ (r : DriveAnswer × List ℕ × List ℕ). with_images p r.1 r.2) (kill-is i)

  -- where the call is accepted
  pub side-is : (c : Step) → (disk.answer g n d s c).number ≡ 0 → (answer p k n (lift k s) c).side ≡ lift k (disk.answer g n d s c).side
  unfolding answer disk.answer calls.number
  side-is looks_up z = refl
  side-is (opens len checking code) z =
      let a = Open.open' g d n len checking code in
      ap (λ (r : DriveAnswer). with_new (lift k s) r.handle) (on.opens n len checking code)
      ∙ ap (λ (j : ℕ). with_new (lift k s) (handle_on j a.handle)) (drive-told k a.refusal z) ∙ new_is a.handle
  side-is (creates f checking) z =
      let a = (Create.create g d n f checking).0 in
      ap (λ (r : DriveCreated × List ℕ × List ℕ). with_new (lift k s) r.0.handle) (on.creates n f checking)
      ∙ ap (λ (j : ℕ). with_new (lift k s) (handle_on j a.handle)) (drive-told k a.refusal z) ∙ new_is a.handle
  side-is (moves i at) z =
      ap (λ (h : DriveHandle). with_moved (lift k s) i (handle_on h.drive (moved_to h.handle at))) (at-is i) ∙ moved-is i (moved_to (held i) at)
  side-is (reads a i b) z =
      let x = Read.read_of g d (held i) (how_many a (held i).len b) b in
      ap (λ (r : DriveAnswer × List ℕ). hearing (with_moved (lift k s) i r.0.handle) (kept (plain g d (fold n)) r.1)) (read_is a i b)
      ∙ ap (λ (t : DriveSide). hearing t (kept (plain g d (fold n)) x.1)) (moved-is i x.0.handle)
  side-is (reads_sector i j) z =
      let x = Read.read_sector g d (held i) j in
      ap (λ (r : DrivePart). hearing (lift k s) (kept (plain g d (fold n)) (slice r.from r.to (image p r.drive)))) (sector-is i j)
      ∙ ap (λ (y : ℕ). hearing (lift k s) (kept (plain g d (fold n)) (slice x.from x.to (image p y)))) (drive-told k x.refusal z)
  side-is (writes a m i b) z =
      ap (λ (r : DriveAnswer × List ℕ × List ℕ). with_moved (lift k s) i r.0.handle) (write-is a m i b) ∙ moved-is i _
  side-is (allots i j) z = refl
  side-is (trims i) z = refl
  side-is (kills i) z = refl
