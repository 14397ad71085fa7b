-- What is promised of the exports over two drives is so: each is the call on one image, 16, or the refusal of a disk that was tested first.
use Prim.Native.Nat.{ℕ}
use Rattle.std.specs.Prelude.{◌≡◌, ◌≢◌, Bool, eqb, length, set, replicate}
use Rattle.std.proofs.Math.Path.{refl, ap, ap₂, subst}
use Rattle.std.proofs.Common.{sym, ◌∙◌, ne_eqb, ltb-false}
use Rattle.std.proofs.Math.Bool.{true, false, cond}
use mathlib.Core.List.{List, [], ◌∷◌, ◌++◌}
use Rattle.std.proofs.Math.Dec.{ltb}
use Rattle.std.proofs.Math.ListN.{drop}
use Rattle.std.proofs.lemmas.List.Edits.{sets}
use Rattle.std.proofs.Math.Seq.{sets-eq}
use Rattle.meaning.specs.Amount.{one_record}
use Rattle.meaning.specs.Handles.{no_handle}
use Rattle.meaning.specs.Refusal.{unplaced}
use Rattle.meaning.specs.Refusals.{accepted, check}
use Rattle.meaning.specs.Calls.{Call, number, leaves}
use Rattle.meaning.specs.declared.Geometry.{Geometry}
use Rattle.meaning.specs.declared.Refusal.{Refusal}
use Rattle.meaning.specs.declared.Answer.{Answer}
use Rattle.meaning.specs.declared.Handle.{Handle}
use Rattle.meaning.specs.declared.NewFile.{NewFile}
use Rattle.lists.specs.Members.{In, in-append-l, in-append-r}
use Rattle.promises.specs.Said.{Said, says}
use Rattle.promises.proofs.Kept.{every_call}
use Rattle.drives.specs.Pair.{Pair, image, geometry, leaving, on_drive, no_such_drive, naming', tested, of_both, handle_on, no_drive_handle, drive_of}
use Rattle.drives.specs.ByName.{by_name, look_up, open_file, create, open_on, create_on, looked_up_on, opened_on, created_on, not_looked_up}
use Rattle.drives.specs.ByName.{not_opened, not_created}
use Rattle.drives.specs.ByName.{searched, passed_over, takes}
use Rattle.drives.specs.ByHandle.{changing, read_record, read_sector, write_record, allot, trim, kill, read_on, write_on, allot_on, trim_on, kill_on}
use Rattle.drives.specs.declared.DriveHandle.{DriveHandle}
use Rattle.drives.specs.declared.DriveAnswer.{DriveAnswer}
use Rattle.drives.specs.declared.DriveCreated.{DriveCreated}
use Rattle.drives.specs.declared.DriveLookedUp.{DriveLookedUp}
use Rattle.drives.specs.declared.DrivePart.{DrivePart}
use Rattle.promises_drives.specs.Statement.{IsDrive, zeroth, first, NoDrive}
use Rattle.promises_drives.specs.Proved as drives
use Rattle.promises_drives.specs.Proved.{every-search, every-test}
use Rattle.promises_drives.specs.Drive.{naming-number, searched-drive, takes-drive}
use Rattle.drives_codec.specs.Codec as drives-codec
use Rattle.genie_codec.specs.Codec as codec
use Rattle.genie_codec.specs.Words.{mode_of}
use Rattle.genie.specs.Drives.{looks, opens, creates, reads, writes, changes, lies, after}
use Rattle.genie.specs.Drives.{drives_look_up, drives_open, drives_create, drives_read_record, drives_read_sector, drives_write_record}
use Rattle.genie.specs.Drives.{drives_allot, drives_trim}
use Rattle.genie.specs.Drives.{drives_kill}
use Rattle.promises_numbers.specs.Statement.{numbers, of_disk}
use Rattle.promises_numbers.specs.Kept.{every-number}
use Rattle.promises_exports.specs.Others.{numbers_on, zeroed_on, LookedUpOn, OpenedOn, CreatedOn, ReadOn, SectorReadOn, WrittenOn}
use Rattle.promises_exports.specs.Others.{AllottedOn, TrimmedOn, KilledOn, SaidOn, ByName, room_for, both_after}

-- what holds of the call on each drive and of 16 holds of what is answered
on-either : {A : Type 0} (P : A → Type 0) (n : ℕ) (call : ℕ → A) (none : A) → ((j : ℕ) → IsDrive j → P (call j)) → P none → P (on_drive n call none)
unfolding on_drive
on-either P n call none x y = by (eqb n 0) (eqb n 1)
  where
    by : (s t : Bool) → P (cond s (call 0) (cond t (call 1) none))
    by true t = x 0 zeroth
    by false true = x 1 first
    by false false = y

module _ (p : Pair) where
  -- the numbers of a call on either drive, and 16
  same_numbers : (j : ℕ) (c : Call) → In (number (geometry p j) (image p j) c) (0 ∷ numbers_on c)
  same_numbers j c = in-append-l (16 ∷ []) (every-number (geometry p j) (image p j) c).one_of

  sixteen : (c : Call) → In 16 (0 ∷ numbers_on c)
  sixteen c = in-append-r (0 ∷ numbers c) In.here

  -- Calls by handle -------------------------------------------------------------------------------------------------------------------------------

  -- a refused call leaves both drives as they stood
  left-as-was : (j : ℕ) → IsDrive j → (d : List ℕ) → d ≡ image p j → (leaving p j d 0 ∷ leaving p j d 1 ∷ []) ≡ (p.image0 ∷ p.image1 ∷ [])
  left-as-was j zeroth d e = ap (λ (x : List ℕ). x ∷ p.image1 ∷ []) e
  left-as-was j first d e = ap (λ (x : List ℕ). p.image0 ∷ x ∷ []) e

  pub record Unchanged (c : Call) (x : DriveAnswer × List ℕ × List ℕ) : Type 0 where
    pub numbers : In x.0.refusal.number (0 ∷ numbers_on c)
    pub images : x.0.refusal.number ≢ 0 → (x.1 ∷ x.2 ∷ []) ≡ (p.image0 ∷ p.image1 ∷ [])

  unchanged : (h : DriveHandle) (c : Call) (call : ℕ → Answer × List ℕ)
      → ((j : ℕ) → (call j).0.refusal.number ≡ number (geometry p j) (image p j) c)
      → ((j : ℕ) → (call j).1 ≡ leaves (geometry p j) (image p j) c) → Unchanged c (changing p h call)
  unchanged h c call n l =
      on-either (Unchanged c) h.drive _ _
      (λ j is. let q = naming-number j (call j).0.refusal ∙ n j in
      record {
        numbers = subst (λ (k : ℕ). In k (0 ∷ numbers_on c)) (sym q) (same_numbers j c);
        images = λ z. left-as-was j is _ (l j ∙ ((every_call (geometry p j) (image p j) c).refuses (λ y. z (q ∙ y))).0);
      })
      (record { numbers = sixteen c; images = λ z. refl })

  -- said of the call on drive j's image: what the definitions say
  said-on : (j : ℕ) (c : Call) (Goes : Said c → Type 0) → Goes (says (geometry p j) (image p j) c) → SaidOn p j c Goes
  said-on j c Goes e = (says (geometry p j) (image p j) c, every_call (geometry p j) (image p j) c, e)

  -- where there is no such drive
  no-drive : (j : ℕ) → (IsDrive j → ⊥) → NoDrive p j
  no-drive j n = drives.sixteen p j (λ e. n (subst IsDrive (sym e) zeroth)) (λ e. n (subst IsDrive (sym e) first))

  module _ (b : List ℕ) where
    abbrev h : DriveHandle
    h = drives-codec.handle_of b

    abbrev j : ℕ
    j = h.drive

    pub allotted-on : (k : ℕ) → AllottedOn p b k (drives_allot p b k)
    unfolding allot number leaves
    allotted-on k =
        let u = unchanged h (Call.allots h.handle k) (allot_on p h k) (λ j. refl) (λ j. refl) in
        record {
          is = refl;
          numbered = u.numbers;
          refuses = u.images;
          does = (
            λ i. said-on j (Call.allots h.handle k) _ (ap changes ((drives.every-number p j i).allots h.handle k)),
            λ n. ap (λ (r : DriveAnswer × List ℕ × List ℕ). r.0.refusal.number) ((no-drive j n).allots h.handle k),
          );
        }

    pub trimmed-on : TrimmedOn p b (drives_trim p b)
    unfolding trim number leaves
    trimmed-on =
        let u = unchanged h (Call.trims h.handle) (trim_on p h) (λ j. refl) (λ j. refl) in
        record {
          is = refl;
          numbered = u.numbers;
          refuses = u.images;
          does = (
            λ i. said-on j (Call.trims h.handle) _ (ap changes ((drives.every-number p j i).trims h.handle)),
            λ n. ap (λ (r : DriveAnswer × List ℕ × List ℕ). r.0.refusal.number) ((no-drive j n).trims h.handle),
          );
        }

    pub killed-on : KilledOn p b (drives_kill p b)
    unfolding kill number leaves
    killed-on =
        let u = unchanged h (Call.kills h.handle) (kill_on p h) (λ j. refl) (λ j. refl) in
        record {
          is = refl;
          numbered = u.numbers;
          refuses = u.images;
          does = (
            λ i. said-on j (Call.kills h.handle) _ (ap changes ((drives.every-number p j i).kills h.handle)),
            λ n. ap (λ (r : DriveAnswer × List ℕ × List ℕ). r.0.refusal.number) ((no-drive j n).kills h.handle),
          );
        }

    pub written_on : (sequential : Bool) (buffer : List ℕ) → WrittenOn p b sequential buffer (drives_write_record p b sequential buffer)
    unfolding write_record number leaves after
    written_on sequential buffer =
        let m = mode_of sequential in
        let u = unchanged h (Call.writes one_record m h.handle buffer) (write_on p m h buffer) (λ j. refl) (λ j. refl) in
        record {
          is = refl;
          numbered = u.numbers;
          refuses = λ z. rw (ne_eqb _ 0 z) (ap (λ (xs : List (List ℕ)). b ∷ xs) (u.images z));
          does = (
            λ i. said-on j (Call.writes one_record m h.handle buffer) _ (ap (writes b) ((drives.every-number p j i).writes m h.handle buffer)),
            λ n. ap (λ (r : DriveAnswer × List ℕ × List ℕ). r.0.refusal.number) ((no-drive j n).writes m h.handle buffer),
          );
        }

    pub read-on : (buffer : List ℕ) → ReadOn p b buffer (drives_read_record p b buffer)
    unfolding read_record number leaves after
    read-on buffer =
        let c = Call.reads one_record h.handle buffer in
        let u = on-either (λ (x : DriveAnswer × List ℕ). In x.0.refusal.number (0 ∷ numbers_on c) × (x.0.refusal.number ≢ 0 → x.1 ≡ buffer))
        h.drive _ _
        (λ j is. let q = naming-number j (read_on p h buffer j).0.refusal in (
          subst (λ (k : ℕ). In k (0 ∷ numbers_on c)) (sym q) (same_numbers j c),
          λ z. ((every_call (geometry p j) (image p j) c).refuses (λ y. z (q ∙ y))).1.1,
        ))
        (sixteen c, λ z. refl) in
        record {
          is = refl;
          numbered = u.0;
          refuses = λ z. rw (ne_eqb _ 0 z) (ap (λ (x : List ℕ). b ∷ x ∷ []) (u.1 z));
          does = (
            λ i. said-on j c _ (ap (reads b) ((drives.every-number p j i).reads h.handle buffer)),
            λ n. ap (λ (r : DriveAnswer × List ℕ). r.0.refusal.number) ((no-drive j n).reads h.handle buffer),
          );
        }

    pub sector-on : (k : ℕ) → SectorReadOn p b k (drives_read_sector p b k)
    unfolding read_sector number
    sector-on k =
        let c = Call.reads_sector h.handle k in
        record {
          is = refl;
          numbered =
              on-either (λ (x : DrivePart). In x.refusal.number (0 ∷ numbers_on c)) h.drive _ _
              (λ j is. subst (λ (k : ℕ). In k (0 ∷ numbers_on c)) (sym (naming-number j _)) (same_numbers j c)) (sixteen c);
          refuses = λ z. refl;
          does = (
            λ i. said-on j c _ (ap lies ((drives.every-number p j i).reads_sector h.handle k)),
            λ n. ap (λ (r : DrivePart). r.refusal.number) ((no-drive j n).reads_sector h.handle k),
          );
        }

  -- Calls by name --------------------------------------------------------------------------------------------------------------------------------

  -- what holds of the call on each drive, of the call without a number, of 16 and of what was found of both disks, holds of what is answered
  by-name : {A : Type 0} (P : A → Type 0) (numbered : Bool) (k : ℕ) (call : ℕ → A) (without : A) (refused : Refusal → A)
      → ((j : ℕ) → IsDrive j → P (call j)) → P without → P (refused no_such_drive) → P (refused (tested p)) → P (by_name p numbered k call without refused)
  unfolding by_name
  by-name P numbered k call without refused x y z u = by numbered (accepted (tested p).number)
    where
      by : (s t : Bool) → P (cond s (on_drive k call (refused no_such_drive)) (cond t without (refused (tested p))))
      by true t = on-either P k call (refused no_such_drive) x z
      by false true = y
      by false false = u

  check-number : (g : Geometry) (d : List ℕ) → In (check g d).number (0 ∷ of_disk [])
  unfolding number
  check-number g d = (every-number g d Call.checks).one_of

  tested-number : In (tested p).number (0 ∷ of_disk [])
  unfolding of_both
  tested-number = by (accepted (check p.geometry0 p.image0).number) (accepted (check p.geometry1 p.image1).number)
    where
      by : (s t : Bool)
          → In (cond s (cond t (unplaced 0) (naming' 1 (check p.geometry1 p.image1))) (naming' 0 (check p.geometry0 p.image0))).number
          (0 ∷ of_disk [])
      by true true = In.here
      by true false =
          subst (λ (k : ℕ). In k (0 ∷ of_disk [])) (sym (naming-number 1 _)) (check-number p.geometry1 p.image1)
      by false t =
          subst (λ (k : ℕ). In k (0 ∷ of_disk [])) (sym (naming-number 0 _)) (check-number p.geometry0 p.image0)

  named-number : (j : ℕ) (c : Call) (r : Refusal) → r.number ≡ number (geometry p j) (image p j) c
      → In (naming' j r).number (0 ∷ numbers_on c)
  named-number j c r e = subst (λ (k : ℕ). In k (0 ∷ numbers_on c)) (sym (naming-number j r ∙ e)) (same_numbers j c)

  looked-up : (numbered : Bool) (k : ℕ) (n : List ℕ) → let x = drives_look_up p numbered k n in
      ByName p x.0 numbered k (searched p n) (Call.looks_up n) (λ j s. x ≡ looks (looked_up_on j (cond numbered 0 (passed_over p n)) s.answer))
  looked-up numbered k n = (
    λ e. (
      λ i. said-on k (Call.looks_up n) _ (rw e (ap looks ((drives.every-number p k i).looks_up n))),
      λ u. rw e (ap (λ (r : DriveLookedUp). r.refusal.number) ((no-drive k u).looks_up n)),
    ),
    λ e. (
      λ z. said-on (searched p n) (Call.looks_up n) _ (rw e (ap looks ((every-search p z).looks_up k n))),
      λ z. rw e (ap (λ (r : DriveLookedUp). r.refusal.number) ((every-test p).looks_up z k n)),
    ),
  )

  pub looked-up-on : (numbered : Bool) (k : ℕ) (n : List ℕ) → LookedUpOn p numbered k n (drives_look_up p numbered k n)
  unfolding look_up number
  looked-up-on numbered k n =
      let c = Call.looks_up n in
      record {
        is = refl;
        numbered =
            by-name (λ (x : DriveLookedUp). In x.refusal.number (0 ∷ numbers_on c)) numbered k _ _ not_looked_up
            (λ j is. named-number j c _ refl) (named-number (searched p n) c _ refl) (sixteen c)
            (in-append-l (3 ∷ 4 ∷ 16 ∷ []) tested-number);
        refuses = λ z. refl;
        does = looked-up numbered k n;
      }

  -- the slice of a handle of zeros
  stored-none : (b : List ℕ) → drives-codec.stored b no_drive_handle ≡ zeroed_on b
  unfolding drives-codec.stored codec.stored codec.bytes_of
  stored-none b = by (ltb (length b) drives-codec.handle_bytes) refl
    where
      by : (t : Bool) → ltb (length b) drives-codec.handle_bytes ≡ t
          → cond t b (set (sets b 0 (codec.bytes_of no_handle)) 19 0) ≡ cond t b (replicate drives-codec.handle_bytes 0 ++ drop drives-codec.handle_bytes b)
      by true e = refl
      by false e = sets-eq (replicate drives-codec.handle_bytes 0) b 0 (ltb-false (length b) drives-codec.handle_bytes e)

  refused-drive : (j : ℕ) (r : Refusal) {h : Handle} → r.number ≢ 0 → h ≡ no_handle → handle_on (drive_of j r) h ≡ no_drive_handle
  unfolding drive_of
  refused-drive j r z e = rw (ne_eqb r.number 0 z) (ap (handle_on 0) e)

  opened : (numbered : Bool) (k : ℕ) (n : List ℕ) (len : ℕ) (checking : Bool) (code : ℕ) (b : List ℕ)
      → let x = drives_open p numbered k n len checking code b in let l = drives-codec.length_for b len in
      ByName p x.0 numbered k (searched p n) (Call.opens n l checking code) (λ j s. x ≡ opens b (opened_on j s.answer))
  opened numbered k n len checking code b =
      let l = drives-codec.length_for b len in
      let c = Call.opens n l checking code in
      let s = searched p n in (
        λ e. (
          λ i. said-on k c _ (rw e (ap (opens b) ((drives.every-number p k i).opens n l checking code))),
          λ u. rw e (ap (λ (r : DriveAnswer). r.refusal.number) ((no-drive k u).opens n l checking code)),
        ),
        λ e. (
          λ z. said-on s c _ (rw e
              (ap (opens b) ((every-search p z).opens k n l checking code ∙ (drives.every-number p s (searched-drive p n)).opens n l checking code))),
          λ z. rw e (ap (λ (r : DriveAnswer). r.refusal.number) ((every-test p).opens z k n l checking code)),
        ),
      )

  pub opened-on : (numbered : Bool) (k : ℕ) (n : List ℕ) (len : ℕ) (checking : Bool) (code : ℕ) (b : List ℕ)
      → OpenedOn p numbered k n len checking code b (drives_open p numbered k n len checking code b)
  unfolding open_file number
  opened-on numbered k n len checking code b =
      let l = drives-codec.length_for b len in
      let c = Call.opens n l checking code in
      let P : DriveAnswer → Type 0 = λ x. In x.refusal.number (0 ∷ numbers_on c) × (x.refusal.number ≢ 0 → x.handle ≡ no_drive_handle) in
      let one : (j : ℕ) → IsDrive j → P (open_on p n l checking code j)
      = λ j is. (
        named-number j c _ refl,
        λ z. let y : number (geometry p j) (image p j) c ≢ 0 = λ e. z (naming-number j _ ∙ e) in
            refused-drive j _ y ((every_call (geometry p j) (image p j) c).refuses y).1,
      ) in
      let u = by-name P numbered k _ _ not_opened one (one (searched p n) (searched-drive p n)) (sixteen c, λ z. refl)
      (in-append-l (12 ∷ 3 ∷ 4 ∷ 5 ∷ 16 ∷ []) tested-number, λ z. refl) in
      record {
        is = refl;
        numbered = u.0;
        refuses = λ z. ap (λ (x : List ℕ). x ∷ []) (ap (drives-codec.stored b) (u.1 z) ∙ stored-none b);
        does = opened numbered k n len checking code b;
      }

  created : (numbered : Bool) (k : ℕ) (n : List ℕ) (f : NewFile) (checking : Bool) (b : List ℕ) → let x = drives_create p numbered k n f checking b in
      ByName p x.0 numbered k (takes p n) (Call.creates n (room_for b f) checking)
      (λ j s. x ≡ creates b (both_after p (created_on j s.answer) j s.image))
  unfolding leaves
  created numbered k n f checking b =
      let v = room_for b f in
      let c = Call.creates n v checking in
      let t = takes p n in (
        λ e. (
          λ i. said-on k c _ (rw e (ap (creates b) ((drives.every-number p k i).creates n v checking))),
          λ u. rw e (ap (λ (r : DriveCreated × List ℕ × List ℕ). r.0.refusal.number) ((no-drive k u).creates n v checking)),
        ),
        λ e. (
          λ z. said-on t c _ (rw e
              (ap (creates b) ((every-search p z).creates k n v checking ∙ (drives.every-number p t (takes-drive p n)).creates n v checking))),
          λ z. rw e (ap (λ (r : DriveCreated × List ℕ × List ℕ). r.0.refusal.number) ((every-test p).creates z k n v checking)),
        ),
      )

  pub created-on : (numbered : Bool) (k : ℕ) (n : List ℕ) (f : NewFile) (checking : Bool) (b : List ℕ)
      → CreatedOn p numbered k n f checking b (drives_create p numbered k n f checking b)
  unfolding create number leaves
  created-on numbered k n f checking b =
      let v = room_for b f in
      let c = Call.creates n v checking in
      let P : DriveCreated × List ℕ × List ℕ → Type 0 = λ x. In x.0.refusal.number (0 ∷ numbers_on c)
      × (x.0.refusal.number ≢ 0 → (x.0.handle ≡ no_drive_handle) × ((x.1 ∷ x.2 ∷ []) ≡ (p.image0 ∷ p.image1 ∷ []))) in
      let one : (j : ℕ) → IsDrive j → P (create_on p n v checking j)
      = λ j is. (
        named-number j c _ refl,
        λ z. let y : number (geometry p j) (image p j) c ≢ 0 = λ e. z (naming-number j _ ∙ e) in
            let q = (every_call (geometry p j) (image p j) c).refuses y in
            (refused-drive j _ y q.1.0, left-as-was j is _ q.0),
      ) in
      let u = by-name P numbered k _ _ (λ c. (not_created c, p.image0, p.image1)) one (one (takes p n) (takes-drive p n)) (sixteen c, λ z. (refl, refl))
      (in-append-l (12 ∷ 3 ∷ 5 ∷ 8 ∷ 16 ∷ []) tested-number, λ z. (refl, refl)) in
      record {
        is = refl;
        numbered = u.0;
        refuses = λ z. ap₂ (λ (x : List ℕ) (xs : List (List ℕ)). x ∷ xs) (ap (drives-codec.stored b) (u.1 z).0 ∙ stored-none b) (u.1 z).1;
        does = created numbered k n f checking b;
      }
