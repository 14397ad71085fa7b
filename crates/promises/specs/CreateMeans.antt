-- Create of a new file, as the call answers it
use Rattle.std.specs.Prelude.{◌≡◌, ◌≢◌, Bool, true, false, not, ◌&&◌, List, [], ℕ, length, T, eqb}
use Rattle.std.proofs.Common.{ap, sym, ◌∙◌, subst, arith}
use Rattle.meaning.specs.Lists.{first_or}
use Rattle.meaning.specs.Layout.{fits_geometry, is_slot, hit}
use Rattle.meaning.specs.Names.{well_formed, fold}
use Rattle.meaning.specs.Entries.{name_of}
use Rattle.meaning.specs.Chain.{chain}
use Rattle.meaning.specs.Consistent.{consistent}
use Rattle.meaning.specs.Free.{free_slots, free_granules, reserved}
use Rattle.meaning.specs.Create.{create, new_slot}
use Rattle.meaning.specs.LookUp.{named, missing}
use Rattle.meaning.specs.Plain.{Found, found, nothing, plain, born_as}
use Rattle.promises_words.specs.Untouched.{hush, beyond}
use Rattle.meaning.specs.declared.Geometry.{Geometry}
use Rattle.meaning.specs.declared.NewFile.{NewFile}
use Rattle.lists.specs.Members
use Rattle.laws.specs.Facts
use Rattle.laws.specs.Facts.{IsFile, Sound}
use Rattle.laws.specs.Places
use Rattle.laws.specs.Change
use Rattle.laws.specs.Named
use Rattle.laws.specs.Others
use Rattle.laws.specs.Touch
use Rattle.laws.specs.Passed
use Rattle.laws.specs.Create

pub record CreateMeans (g : Geometry) (d d' n : List ℕ) (f : NewFile) : Type 0 where
  pub long : length d' ≡ length d
  pub consistent' : consistent g d' ≡ true
  pub reserved' : reserved g d' ≡ reserved g d
  pub free' : free_granules g d' ≡ free_granules g d
  pub born : plain g d' n ≡ found (born_as f)
  pub others : (m : List ℕ) → m ≢ n → hush (plain g d' m) ≡ hush (plain g d m)
  pub beyond' : (m : List ℕ) → m ≢ n → beyond g d' m ≡ beyond g d m
  pub names' : (m : List ℕ) → m ≢ n → named g d' m ≡ named g d m
  pub was : plain g d n ≡ nothing

create-made : (g : Geometry) (d : List ℕ) (c : Sound g d) (k : Places.Fits g d) (x : ℕ) (t : T (is_slot g d x)) (z : hit g d x ≡ 0)
    (n : List ℕ) (w : T (well_formed n)) (f : NewFile) (free : (q : ℕ) → IsFile g d q → name_of g d q ≢ n)
    → CreateMeans g d (Create.made g d c k x t z n w f free) n f
create-made g d c k x t z n w f free =
    let d' = Create.made g d c k x t z n w f free in
    let h = Create.made-change g d c k x t z n w f free in
    let s : Others.Same g d d' x = λ i a b e. Create.made-same g d c k x t z n w f free i a in
    let v = Create.made-file g d c k x t z n w f free in
    let m = Create.made-name g d c k x t z n w f free in
    let no' = Create.no-file g d c k x t z n w f free in
    record {
      long = Create.made-length g d c k x t z n w f free;
      consistent' = Facts.back g d' (Change.changed g d d' c x h);
      reserved' = Others.reserved-stays g d d' c x h;
      free' = Create.free_stays g d c k x t z n w f free;
      born = Named.plain-is g d' (Change.changed g d d' c x h) x n v m ∙ ap {B = Found} found (Create.made-born g d c k x t z n w f free);
      others = λ b e. Others.others-plain g d d' c x h s b (λ q. absurd (no' q)) (λ q a. e (sym a ∙ m));
      beyond' = λ b e. Others.beyond-plain g d d' c x h s b (λ q. absurd (no' q)) (λ q a. e (sym a ∙ m));
      names' = λ b e. Others.names-stay g d d' c x h b (λ q. absurd (no' q)) (λ q a. e (sym a ∙ m));
      was = Named.plain-none g d n free;
    }

pub none-missing : (g : Geometry) (d : List ℕ) → Sound g d → (n : List ℕ) → T (missing g d n) → (q : ℕ) → IsFile g d q → name_of g d q ≢ n
none-missing g d c n t q f e = subst (λ (l : List ℕ). T (eqb (length l) 0)) (ap (named g d) (sym e) ∙ Named.named-is g d c q f) t

new-of : (a b : Bool) → T a → (a && not b) ≡ false → T b
new-of true true t e = tt
new-of true false t e = Members.false-no e tt
new-of false b t e = absurd t

-- the new file's slot and name
pub record Placed (g : Geometry) (d d' n : List ℕ) (x : ℕ) : Type 0 where
  pub file : IsFile g d' x
  pub name' : name_of g d' x ≡ n
  pub touch : Touch.Touch g (chain g d' x) [] d d'

create-both : (g : Geometry) (d n : List ℕ) (f : NewFile) (checking : Bool) → (create g d n f checking).0.refusal.number ≡ 0
    → (create g d n f checking).0.old ≡ false
    → CreateMeans g d (create g d n f checking).1 (fold n) f × Placed g d (create g d n f checking).1 (fold n) (new_slot g d)
unfolding create Create.made Create.with_entry
create-both g d n f checking e o =
    let p₂ = Passed.disk-passed g d _ e in
    let p₃ = Passed.passed 12 _ _ (omega arith) p₂.1 in
    let p₄ = Passed.passed 3 _ _ (omega arith) p₃.1 in
    let p₅ = Passed.passed 5 _ _ (omega arith) p₄.1 in
    let p₆ = Passed.passed 8 _ _ (omega arith) p₅.1 in
    let c = p₂.0.sound in
    let k = Places.fits g d p₂.0.fits in
    let new : T (missing g d (fold n)) = new-of true (missing g d (fold n)) tt (rw e at o) in
    let i = Create.first-in (free_slots g d) (λ t. p₆.0 (Members.all_two (missing g d (fold n)) (eqb (length (free_slots g d)) 0) new t)) in
    let x = first_or 0 (free_slots g d) in
    let y = Create.slots-free g d x i in
    let w = Passed.yes-T (well_formed (fold n)) p₄.0 in
    let free = none-missing g d c (fold n) new in
    rw (e, Members.T_true {b = missing g d (fold n)} new) (
      create-made g d c k x y.0 y.1 (fold n) w f free,
      record {
        file = Create.made-file g d c k x y.0 y.1 (fold n) w f free;
        name' = Create.made-name g d c k x y.0 y.1 (fold n) w f free;
        touch =
            Create.made-touch g d c k x y.0 y.1 (fold n) w f free;
      },
    )

pub create-means : (g : Geometry) (d n : List ℕ) (f : NewFile) (checking : Bool) → (create g d n f checking).0.refusal.number ≡ 0 → (create g d n f checking
    ).0.old ≡ false
    → CreateMeans g d (create g d n f checking).1 (fold n) f
create-means g d n f checking e o = (create-both g d n f checking e o).0

pub create-placed : (g : Geometry) (d n : List ℕ) (f : NewFile) (checking : Bool) → (create g d n f checking).0.refusal.number ≡ 0 → (create g d n f checking
    ).0.old ≡ false
    → Placed g d (create g d n f checking).1 (fold n) (new_slot g d)
create-placed g d n f checking e o = (create-both g d n f checking e o).1

-- refusal 1 was passed
pub create-fits : (g : Geometry) (d n : List ℕ) (f : NewFile) (checking : Bool) → (create g d n f checking).0.refusal.number ≡ 0 → Places.Fits g d
unfolding create
create-fits g d n f checking e = let p₁ = Passed.passed 1 _ _ (omega arith) e in Places.fits g d (Passed.yes-T (fits_geometry g d) p₁.0)
