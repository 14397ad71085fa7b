-- What is promised of two drives, proved; it is stated in Statement.antt
use Rattle.std.specs.Prelude.{ℕ, ◌≡◌, refl, ◌≢◌, ◌⊎◌, Bool, true, false, cond, List, eqb}
use Rattle.std.proofs.Common.{sym, ap, ◌∙◌, inl, inr, ne_eqb}
use Rattle.meaning.specs.Refusal.{naming}
use Rattle.meaning.specs.Refusals.{check, accepted}
use Rattle.meaning.specs.declared.NewFile.{NewFile}
use Rattle.meaning.specs.declared.Refusal.{Refusal}
use Rattle.drives.specs.Pair.{Pair, on_drive, of_disk, naming', fault_drive, no_drive, of_both, tested}
use Rattle.drives.specs.ByName.{by_name, not_created, searched, takes, create_on, open_on, look_up, open_file, create}
use Rattle.drives.specs.ByHandle.{read_record, read_sector, write_record, allot, trim, kill}
use Rattle.drives.specs.declared.DriveCreated.{DriveCreated}
use Rattle.promises_drives.specs.Statement.{IsDrive, zeroth, first, OnOne, EveryNumber, Spares, Without, EverySearch, OneStays}
use Rattle.promises_drives.specs.Statement.{NoDrive, Sixteen, BothTested, EveryTest, Names, EveryName}
use Rattle.promises_drives.specs.Drive.{on-drive, on_none, searched-drive, takes-drive, by-name, naming-number}

pub every-number : EveryNumber
unfolding look_up open_file create read_record read_sector write_record allot trim kill by_name
every-number p n k =
    record {
      looks_up = λ m. on-drive _ _ n k;
      opens = λ m len checking code. on-drive _ _ n k;
      creates = λ m f checking. on-drive _ _ n k;
      reads = λ h b. on-drive _ _ n k;
      reads_sector = λ h j. on-drive _ _ n k;
      writes = λ m h b. on-drive _ _ n k;
      allots = λ h j. on-drive _ _ n k;
      trims = λ h. on-drive _ _ n k;
      kills = λ h. on-drive _ _ n k;
    }

pub spares : Spares
spares p n k d z = rw (ne_eqb n k z) refl

pub every-search : EverySearch
unfolding look_up open_file create by_name
every-search p z =
    record {
      looks_up = λ k m. rw z refl;
      opens = λ k m len checking code. rw z (sym (on-drive (open_on p m len checking code) _ (searched p m) (searched-drive p m)));
      creates = λ k m f checking. rw z (sym (on-drive (create_on p m f checking) _ (takes p m) (takes-drive p m)));
    }

abbrev Stays : Pair → DriveCreated × List ℕ × List ℕ → Type 0
Stays p r = (r.1 ≡ p.image0) ⊎ (r.2 ≡ p.image1)

pub one-stays : OneStays
unfolding create
one-stays p numbered k m f checking =
    by-name (Stays p) p numbered k (create_on p m f checking) (create_on p m f checking (takes p m)) (λ c. (not_created c, p.image0, p.image1))
    on (on (takes p m) (takes-drive p m)) (λ c. inl refl)
  where
    on : (j : ℕ) → IsDrive j → Stays p (create_on p m f checking j)
    on j zeroth = inr refl
    on j first = inl refl

pub sixteen : Sixteen
unfolding look_up open_file create read_record read_sector write_record allot trim kill by_name
sixteen p n y z =
    record {
      looks_up = λ m. on_none _ _ n y z;
      opens = λ m len checking code. on_none _ _ n y z;
      creates = λ m f checking. on_none _ _ n y z;
      reads = λ h b. on_none _ _ n y z;
      reads_sector = λ h j. on_none _ _ n y z;
      writes = λ m h b. on_none _ _ n y z;
      allots = λ h j. on_none _ _ n y z;
      trims = λ h. on_none _ _ n y z;
      kills = λ h. on_none _ _ n y z;
    }

pub every-test : EveryTest
unfolding look_up open_file create by_name of_both
every-test p =
    record {
      zeroth = λ z. rw (ne_eqb (check p.geometry0 p.image0).number 0 z) refl;
      first = λ y z. rw (y, ne_eqb (check p.geometry1 p.image1).number 0 z) refl;
      neither = λ y z. rw (y, z) refl;
      looks_up = λ z k m. rw (ne_eqb (tested p).number 0 z) refl;
      opens = λ z k m len checking code. rw (ne_eqb (tested p).number 0 z) refl;
      creates = λ z k m f checking. rw (ne_eqb (tested p).number 0 z) refl;
    }

pub every-name : EveryName
unfolding naming' fault_drive
every-name n k c =
    record {
      number = naming-number n c;
      at = by (of_disk c.number);
      disk = λ e. rw e (named n k);
      other = λ e z. rw (e, z) refl;
    }
  where
    by : (t : Bool) → (cond t (naming (cond (eqb n 0) 1 2) c) c).at ≡ c.at
    by true = refl
    by false = refl

    named : (j : ℕ) → IsDrive j → fault_drive (naming (cond (eqb j 0) 1 2) c) ≡ j
    named j zeroth = refl
    named j first = refl
