-- The file at p has more granules or fewer, and all else is as it was: what holds of both
use Rattle.std.specs.Prelude.{◌≡◌, refl, ◌≢◌, not, List, ℕ, ◌/◌, ◌<◌, length, T}
use Rattle.std.proofs.Common.{sym, ◌∙◌, arith}
use Rattle.meaning.specs.Layout.{byte, field, directory_granules, granule_bytes}
use Rattle.meaning.specs.Entries.{system, name_of}
use Rattle.meaning.specs.Plain.{file_at, plain}
use Rattle.promises_words.specs.Untouched.{hush, beyond}
use Rattle.meaning.specs.Free.{reserved}
use Rattle.meaning.specs.LookUp.{named}
use Rattle.meaning.specs.declared.Geometry.{Geometry}
use Rattle.lists.specs.Members.{In}
use Rattle.laws.specs.Facts.{Sound, IsFile}
use Rattle.laws.specs.Frame
use Rattle.laws.specs.Places
use Rattle.laws.specs.Change
use Rattle.laws.specs.Others
use Rattle.laws.specs.Bytes.{Small}

pub record Resized (g : Geometry) (d d' : List ℕ) (p : ℕ) : Type 0 where
  pub sound : Sound g d'
  pub fits : Places.Fits g d'
  pub file : IsFile g d' p
  pub user : T (not (system g d' p))
  pub long : length d' ≡ length d
  pub name : name_of g d' p ≡ name_of g d p
  pub reserved' : reserved g d' ≡ reserved g d
  pub attributes : (file_at g d' p).attributes ≡ (file_at g d p).attributes
  pub bytes : (file_at g d' p).bytes ≡ (file_at g d p).bytes
  pub others : (n : List ℕ) → n ≢ name_of g d p → hush (plain g d' n) ≡ hush (plain g d n)
  pub beyond' : (n : List ℕ) → n ≢ name_of g d p → beyond g d' n ≡ beyond g d n
  pub names' : (n : List ℕ) → n ≢ name_of g d p → named g d' n ≡ named g d n
  pub small : Small d → Small d'

module _ (g : Geometry) where
  pub resized-none : (d : List ℕ) (p : ℕ) → Sound g d → Places.Fits g d → IsFile g d p → T (not (system g d p)) → Resized g d d p
  resized-none d p c k f u = record {
    sound = c;
    fits = k;
    file = f;
    user = u;
    long = refl;
    name = refl;
    reserved' = refl;
    attributes = refl;
    bytes = refl;
    others = λ n q. refl;
    beyond' = λ n q. refl;
    names' = λ n q. refl;
    small = λ b. b;
  }

  -- one step: what is before the pairs stays, and so does every byte beyond the directory
  pub resized-one : (d d' : List ℕ) (p : ℕ) → Sound g d → Places.Fits g d → T (not (system g d p)) → (Small d → Small d') → Change.Change g d d' p → length d'
      ≡ length d
      → IsFile g d' p → ((j : ℕ) → j < 0x16 → field g d' p j ≡ field g d p j)
      → ((i : ℕ) → (In (i / granule_bytes g) (directory_granules g d) → ⊥) → byte d' i ≡ byte d i)
      → (file_at g d' p).attributes ≡ (file_at g d p).attributes → (file_at g d' p).bytes ≡ (file_at g d p).bytes → Resized g d d' p
  resized-one d d' p c k u b h l f low same at bs =
      let s : Others.Same g d d' p = λ i a b e. same i a in
      let n : name_of g d' p ≡ name_of g d p = Frame.name_of-bytes g d d' p (λ j a b. low j (omega arith)) in
      record {
        sound = Change.changed g d d' c p h;
        fits = Places.as_long k l;
        file = f;
        user = rw (low 0 (omega arith)) u;
        long = l;
        name = n;
        reserved' = Others.reserved-stays g d d' c p h;
        attributes = at;
        bytes = bs;
        others = λ b q. Others.others-plain g d d' c p h s b (λ z a. q (sym a)) (λ z a. q (sym a ∙ n));
        beyond' = λ b q. Others.beyond-plain g d d' c p h s b (λ z a. q (sym a)) (λ z a. q (sym a ∙ n));
        names' = λ b q. Others.names-stay g d d' c p h b (λ z a. q (sym a)) (λ z a. q (sym a ∙ n));
        small = b;
      }

  pub resized-trans : (a b e : List ℕ) (p : ℕ) → Resized g a b p → Resized g b e p → Resized g a e p
  resized-trans a b e p x y = record {
    sound = y.sound;
    fits = y.fits;
    file = y.file;
    user = y.user;
    long = y.long ∙ x.long;
    name = y.name ∙ x.name;
    reserved' = y.reserved' ∙ x.reserved';
    attributes = y.attributes ∙ x.attributes;
    bytes = y.bytes ∙ x.bytes;
    others = λ n q. y.others n (λ z. q (z ∙ x.name)) ∙ x.others n q;
    beyond' = λ n q. y.beyond' n (λ z. q (z ∙ x.name)) ∙ x.beyond' n q;
    names' = λ n q. y.names' n (λ z. q (z ∙ x.name)) ∙ x.names' n q;
    small = λ b. y.small (x.small b);
  }
