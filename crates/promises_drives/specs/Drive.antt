-- Laws of a drive number: a call on a drive that there is, and what a choice between calls gives.
use Rattle.std.specs.Prelude.{ℕ, ◌≡◌, ◌≢◌, Bool, cond, List, [], ◌∷◌, eqb, length}
use Rattle.std.proofs.Math.Path.{refl}
use Rattle.std.proofs.Math.Bool.{true, false}
use borrow.Author.Tests.{ne_eqb}
use Rattle.meaning.specs.Lists.{all}
use Rattle.meaning.specs.Free.{free_slots}
use Rattle.meaning.specs.Refusal.{naming}
use Rattle.meaning.specs.Refusals.{accepted}
use Rattle.meaning.specs.declared.Refusal.{Refusal}
use Rattle.drives.specs.Pair.{Pair, on_drive, no_such_drive, of_disk, naming', tested}
use Rattle.drives.specs.ByName.{by_name, lacks, searched, takes}
use Rattle.promises_drives.specs.Statement.{IsDrive, zeroth, first}

module _ {A : Type 0} (call : ℕ → A) (none : A) where
  pub on-drive : (n : ℕ) → IsDrive n → on_drive n call none ≡ call n
  unfolding on_drive
  on-drive n zeroth = refl
  on-drive n first = refl

  pub on_none : (n : ℕ) → n ≢ 0 → n ≢ 1 → on_drive n call none ≡ none
  unfolding on_drive
  on_none n y z = rw (ne_eqb n 0 y, ne_eqb n 1 z) refl

module _ (p : Pair) (m : List ℕ) where
  pub searched-drive : IsDrive (searched p m)
  unfolding searched
  searched-drive = by (lacks p 0 m)
    where
      by : (t : Bool) → IsDrive (cond t 1 0)
      by true = first
      by false = zeroth

  pub takes-drive : IsDrive (takes p m)
  unfolding takes
  takes-drive = by (all (lacks p 0 m ∷ lacks p 1 m ∷ [])) (eqb (length (free_slots p.geometry0 p.image0)) 0)
    where
      by : (s t : Bool) → IsDrive (cond s (cond t 1 0) (searched p m))
      by true true = first
      by true false = zeroth
      by false t = searched-drive

-- what holds of the call on each drive, of the call without a number and of every refusal holds of what is answered
pub by-name : {A : Type 0} (P : A → Type 0) (p : Pair) (numbered : Bool) (k : ℕ) (call : ℕ → A) (without : A) (refused : Refusal → A)
    → ((j : ℕ) → IsDrive j → P (call j)) → P without → ((c : Refusal) → P (refused c)) → P (by_name p numbered k call without refused)
unfolding by_name on_drive
by-name P p numbered k call without refused x y z = by numbered (eqb k 0) (eqb k 1) (accepted (tested p).number)
  where
    by : (s t u v : Bool) → P (cond s (cond t (call 0) (cond u (call 1) (refused no_such_drive))) (cond v without (refused (tested p))))
    by true true u v = x 0 zeroth
    by true false true v = x 1 first
    by true false false v = z no_such_drive
    by false t u true = y
    by false t u false = z (tested p)

-- naming a drive leaves the number
pub naming-number : (n : ℕ) (c : Refusal) → (naming' n c).number ≡ c.number
unfolding naming'
naming-number n c = by (of_disk c.number)
  where
    by : (t : Bool) → (cond t (naming (cond (eqb n 0) 1 2) c) c).number ≡ c.number
    by true = refl
    by false = refl
