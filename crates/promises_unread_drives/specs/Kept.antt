-- The theorem to the type of `Statement`: a call on a drive is that call on its image, of which `promises_unread` says it; and what a call without a number
-- tests and searches first is the same.
use Rattle.std.specs.Prelude.{◌≡◌, Bool, length}
use Rattle.std.proofs.Math.Path.{refl, ap, subst}
use Rattle.std.proofs.Common.{◌∙◌, arith, ne_eqb}
use Rattle.std.proofs.Math.Bool.{true, false, cond}
use mathlib.Core.List.{List, [], ◌∷◌}
use Prim.Native.Nat.{ℕ, zero, suc, ◌<◌}
use Rattle.std.proofs.Math.Dec.{eqb}
use Rattle.meaning.specs.Lists.{all}
use Rattle.meaning.specs.Amount.{one_record}
use Rattle.meaning.specs.Refusals.{accepted}
use Rattle.meaning.specs.Calls.{Call}
use Rattle.meaning.specs.declared.Answer.{Answer}
use Rattle.meaning.specs.declared.Geometry.{Geometry}
use Rattle.meaning.specs.declared.NewFile.{NewFile}
use Rattle.meaning.specs.declared.Refusal.{Refusal}
use Rattle.drives.specs.Pair.{Pair, pair, geometry, image, leaving, no_such_drive, on_drive, of_both, tested, answered}
use Rattle.drives.specs.ByName.{looked_up_on, opened_on, created_on, not_looked_up, not_opened, not_created, by_name, look_up_on, lacks, searched}
use Rattle.drives.specs.ByName.{passed_over, takes}
use Rattle.drives.specs.ByName.{look_up, open_on, open_file, create_on, create}
use Rattle.drives.specs.ByHandle.{unheld, part_on, no_part, changing}
use Rattle.drives.specs.ByHandle.{read_record, read_sector, write_record, allot, trim, kill}
use Rattle.drives.specs.declared.DriveHandle.{DriveHandle}
use Rattle.drives.specs.declared.DriveAnswer.{DriveAnswer}
use Rattle.drives.specs.declared.DriveCreated.{DriveCreated}
use Rattle.drives.specs.declared.DriveLookedUp.{DriveLookedUp}
use Rattle.drives.specs.declared.DrivePart.{DrivePart}
use Rattle.promises_unread.specs.Statement.{Kinds, ReadAlike, LeftAlike, Apart, Same}
use Rattle.promises_unread.specs.Reads
use Rattle.promises_unread.specs.Kept.{every_call}
use Rattle.promises_unread_drives.specs.Statement.{BothAlike, EveryDrive}

-- a number above 1 is neither drive's
neither : (n : ℕ) → (eqb (suc (suc n)) 0 ≡ false) × (eqb (suc (suc n)) 1 ≡ false)
neither n = (ne_eqb (suc (suc n)) 0 (λ q. omega arith), ne_eqb (suc (suc n)) 1 (λ q. omega arith))

-- what holds of the call on the drive of that number, and where there is no such drive, holds of what is answered
on : {A : Type 0} (R : A → A → Type 0) (n : ℕ) (c c' : ℕ → A) (z z' : A) → ((j : ℕ) → n ≡ j → j < 2 → R (c j) (c' j)) → R z z'
    → R (on_drive n c z) (on_drive n c' z')
unfolding on_drive
on R zero c c' z z' f r = f 0 refl (omega arith)
on R (suc zero) c c' z z' f r = f 1 refl (omega arith)
on R (suc (suc n)) c c' z z' f r = rw ((neither n).0, (neither n).1) r

module _ (u v : Kinds) (g h : Geometry) (d d' e e' : List ℕ) (a : ReadAlike u g d d') (b : ReadAlike v h e e') where
  abbrev p : Pair
  p = pair g d h e

  abbrev q : Pair
  q = pair g d' h e'

  abbrev kinds : ℕ → Kinds
  kinds j = cond (eqb j 0) u v

  alike : (j : ℕ) → ReadAlike (kinds j) (geometry p j) (image p j) (image q j)
  alike j = by (eqb j 0)
    where
      by : (t : Bool) → ReadAlike (cond t u v) (cond t g h) (cond t d e) (cond t d' e')
      by true = a
      by false = b

  -- a call on the image in drive j
  one : (j : ℕ) (c : Call) → Same (kinds j) (geometry p j) (image p j) (image q j) c
  one j c = every_call (kinds j) (geometry p j) (image p j) (image q j) (alike j) c

  -- what it leaves in drive j, and the other image
  both_left : {A : Type 0} (j : ℕ) (x y : List ℕ) (r s : A) → r ≡ s → ReadAlike (kinds j) (geometry p j) x y
      → BothAlike u v g h (r, leaving p j x 0, leaving p j x 1) (s, leaving q j y 0, leaving q j y 1)
  both_left zero x y r s m w = (m, w, b)
  both_left (suc zero) x y r s m w = (m, a, w)
  both_left (suc (suc j)) x y r s m w = rw ((neither j).0, (neither j).1) (m, a, b)

  -- Calls by name -------------------------------------------------------------------------------------------------------------

  tested-same : tested p ≡ tested q
  tested-same = λ i. of_both (Reads.check-same u g d d' a i) (Reads.check-same v h e e' b i)

  named : {A : Type 0} (R : A → A → Type 0) (numbered : Bool) (k : ℕ) (c c' : ℕ → A) (w w' : A) (z z' : Refusal → A)
      → ((j : ℕ) → R (c j) (c' j)) → R w w' → ((t : Refusal) → R (z t) (z' t)) → R (by_name p numbered k c w z) (by_name q numbered k c' w' z')
  unfolding by_name
  named R numbered k c c' w w' z z' f r s =
      subst (λ (t : Refusal). R (by_name p numbered k c w z) (cond numbered (on_drive k c' (z' no_such_drive)) (cond (accepted t.number) w' (z' t))))
      tested-same (by numbered (accepted (tested p).number))
    where
      by : (x y : Bool) → R (cond x (on_drive k c (z no_such_drive)) (cond y w (z (tested p))))
          (cond x (on_drive k c' (z' no_such_drive)) (cond y w' (z' (tested p))))
      by true y = on R k c c' (z no_such_drive) (z' no_such_drive) (λ j m l. f j) (s no_such_drive)
      by false true = r
      by false false = s (tested p)

  module _ (n : List ℕ) where
    found : (j : ℕ) → look_up_on p j n ≡ look_up_on q j n
    found j = one j (Call.looks_up n)

    lacks-same : (j : ℕ) → lacks p j n ≡ lacks q j n
    unfolding lacks
    lacks-same j = λ i. eqb (found j i).refusal.number 4

    searched-same : searched p n ≡ searched q n
    unfolding searched
    searched-same = λ i. cond (lacks-same 0 i) 1 0

    passed-same : passed_over p n ≡ passed_over q n
    passed-same = λ i. cond (lacks-same 0 i) (found 0 i).compared 0

    takes_same : takes p n ≡ takes q n
    unfolding takes
    takes_same =
        λ i. cond (all (lacks-same 0 i ∷ lacks-same 1 i ∷ [])) (cond (eqb (length (Reads.free_slots-same u g d d' a i)) 0) 1 0) (searched-same i)

    look-up : (numbered : Bool) (k : ℕ) → look_up p numbered k n ≡ look_up q numbered k n
    unfolding look_up
    look-up numbered k =
        named {A = DriveLookedUp} (λ x y. x ≡ y) numbered k (λ j. looked_up_on j 0 (look_up_on p j n)) (λ j. looked_up_on j 0 (look_up_on q j n)) _ _
        not_looked_up not_looked_up (λ j. ap (looked_up_on j 0) (found j))
        (ap (looked_up_on (searched p n) (passed_over p n)) (found (searched p n))
        ∙ (λ i. looked_up_on (searched-same i) (passed-same i) (look_up_on q (searched-same i) n))) (λ t. refl)

    open-file : (numbered : Bool) (k len : ℕ) (checking : Bool) (code : ℕ)
        → open_file p numbered k n len checking code ≡ open_file q numbered k n len checking code
    unfolding open_file
    open-file numbered k len checking code =
        named {A = DriveAnswer} (λ x y. x ≡ y) numbered k (open_on p n len checking code) (open_on q n len checking code) _ _ not_opened not_opened
        (λ j. opened j) (opened (searched p n) ∙ ap (open_on q n len checking code) searched-same) (λ t. refl)
      where
        opened : (j : ℕ) → open_on p n len checking code j ≡ open_on q n len checking code j
        opened j = ap (opened_on j) (one j (Call.opens n len checking code))

    create-on : (numbered : Bool) (k : ℕ) (f : NewFile) (checking : Bool)
        → BothAlike u v g h (create p numbered k n f checking) (create q numbered k n f checking)
    unfolding create
    create-on numbered k f checking =
        named {A = DriveCreated × List ℕ × List ℕ} (BothAlike u v g h) numbered k (create_on p n f checking) (create_on q n f checking) _ _
        (λ t. (not_created t, d, e)) (λ t. (not_created t, d', e')) (λ j. created j)
        (subst (λ (j : ℕ). BothAlike u v g h (create_on p n f checking (takes p n)) (create_on q n f checking j)) takes_same (created (takes p n)))
        (λ t. (refl, a, b))
      where
        created : (j : ℕ) → BothAlike u v g h (create_on p n f checking j) (create_on q n f checking j)
        created j = let c = one j (Call.creates n f checking) in both_left j _ _ _ _ (ap (created_on j) c.0) c.1

  -- Calls by handle -----------------------------------------------------------------------------------------------------------

  module _ (x : DriveHandle) where
    changing-same : (c c' : ℕ → Answer × List ℕ) → ((j : ℕ) → LeftAlike (kinds j) (geometry p j) (c j) (c' j))
        → BothAlike u v g h (changing p x c) (changing q x c')
    changing-same c c' f =
        on {A = DriveAnswer × List ℕ × List ℕ} (BothAlike u v g h) x.drive _ _ (unheld x, d, e) (unheld x, d', e')
        (λ j m l. both_left j _ _ _ _ (ap (answered j) (f j).0) (f j).1) (refl, a, b)

    read_answer : (w : List ℕ) → (read_record p x w).0 ≡ (read_record q x w).0
    unfolding read_record
    read_answer w =
        on {A = DriveAnswer × List ℕ} (λ r s. r.0 ≡ s.0) x.drive _ _ (unheld x, w) (unheld x, w)
        (λ j m l. ap (answered j) (one j (Call.reads one_record x.handle w)).0) refl

    read-buffer : (w : List ℕ) → (x.drive < 2 → Apart (geometry p x.drive) (image p x.drive) x.handle.slot)
        → (read_record p x w).1 ≡ (read_record q x w).1
    unfolding read_record
    read-buffer w o =
        on {A = DriveAnswer × List ℕ} (λ r s. r.1 ≡ s.1) x.drive _ _ (unheld x, w) (unheld x, w)
        (λ j m l. (one j (Call.reads one_record x.handle w)).1
        (subst (λ (k : ℕ). k < 2 → Apart (geometry p k) (image p k) x.handle.slot) m o l)) refl

    read-sector : (k : ℕ) → read_sector p x k ≡ read_sector q x k
    unfolding read_sector
    read-sector k =
        on {A = DrivePart} (λ r s. r ≡ s) x.drive _ _ (no_part no_such_drive) (no_part no_such_drive)
        (λ j m l. ap (part_on j) (one j (Call.reads_sector x.handle k))) refl

pub every-drive : EveryDrive
unfolding write_record allot trim kill
every-drive u v g h d d' e e' a b = record {
  looks_up = λ numbered k n. look-up u v g h d d' e e' a b n numbered k;
  opens = λ numbered k n len checking code. open-file u v g h d d' e e' a b n numbered k len checking code;
  creates = λ numbered k n f checking. create-on u v g h d d' e e' a b n numbered k f checking;
  reads = λ x w. (read_answer u v g h d d' e e' a b x w, read-buffer u v g h d d' e e' a b x w);
  reads_sector = λ x k. read-sector u v g h d d' e e' a b x k;
  writes = λ m x w. changing-same u v g h d d' e e' a b x _ _ (λ j. one u v g h d d' e e' a b j (Call.writes one_record m x.handle w));
  allots = λ x k. changing-same u v g h d d' e e' a b x _ _ (λ j. one u v g h d d' e e' a b j (Call.allots x.handle k));
  trims = λ x. changing-same u v g h d d' e e' a b x _ _ (λ j. one u v g h d d' e e' a b j (Call.trims x.handle));
  kills = λ x. changing-same u v g h d d' e e' a b x _ _ (λ j. one u v g h d d' e e' a b j (Call.kills x.handle));
}
