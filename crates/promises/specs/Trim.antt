-- Trim: the last granules given back, one at a time
use Rattle.std.specs.Prelude.{◌≡◌, refl, ◌≢◌, true, not, cond, List, [], ◌∷◌, ◌++◌, ℕ, zero, suc, ◌+◌, ◌-◌, ◌*◌, ◌≤◌, length, T}
use Rattle.std.proofs.Common.{ap, ap₂, sym, ◌∙◌, subst, append_assoc, append-nil, arith, length-append}
use Rattle.meaning.specs.Lists.{times}
use Rattle.meaning.specs.Layout.{granules, granule_bytes, granules_for}
use Rattle.lists.specs.Sizes
use Rattle.meaning.specs.Entries.{system, name_of, size_of, keeps_space}
use Rattle.meaning.specs.Chain.{chain, owned}
use Rattle.meaning.specs.Consistent.{consistent}
use Rattle.meaning.specs.Plain.{file_at, plain, Found, found, trimmed}
use Rattle.promises_words.specs.Untouched.{hush, beyond}
use Rattle.meaning.specs.LookUp.{named}
use Rattle.meaning.specs.Drop.{drop_one}
use Rattle.meaning.specs.Free.{free_granules, reserved}
use Rattle.meaning.specs.Trim.{trim}
use Rattle.meaning.specs.declared.Geometry.{Geometry}
use Rattle.meaning.specs.declared.Handle.{Handle}
use Rattle.lists.specs.Members
use Rattle.lists.specs.Members.{In}
use Rattle.laws.specs.Facts
use Rattle.laws.specs.Facts.{Sound, IsFile}
use Rattle.laws.specs.Places
use Rattle.laws.specs.Change
use Rattle.laws.specs.Others
use Rattle.laws.specs.Named
use Rattle.laws.specs.Bytes
use Rattle.laws.specs.Bytes.{Small}
use Rattle.laws.specs.Touch
use Rattle.laws.specs.Touch.{Touch}
use Rattle.laws.specs.Passed
use Rattle.laws.specs.Shorter
use Rattle.laws.specs.DropLast
use Rattle.laws.specs.DropLast.{Dropped}
use Rattle.promises.specs.Resized.{Resized, resized-none, resized-one, resized-trans}

-- the file at p has lost its last k granules, and all else is as it was
pub record Shrank (g : Geometry) (d d' : List ℕ) (p k : ℕ) : Type 0 where
  pub kept : Resized g d d' p
  pub size : size_of g d' p ≡ size_of g d p
  pub old : List ℕ
  pub owned' : owned g d p ≡ owned g d' p ++ old
  pub many : length old ≡ k
  pub free : length (free_granules g d') ≡ length (free_granules g d) + k
  pub touch : Touch g (chain g d p) [] d d'
  pub entries : (x : ℕ) → In x (chain g d' p) → In x (chain g d p)

module _ (g : Geometry) where
  shrank-none : (d : List ℕ) (p : ℕ) → Sound g d → Places.Fits g d → IsFile g d p → T (not (system g d p)) → Shrank g d d p 0
  shrank-none d p c k f u = record {
    kept = resized-none g d p c k f u;
    size = refl;
    old = [];
    owned' = sym (append-nil (owned g d p));
    many = refl;
    free = omega arith;
    touch = Touch.Touch.none;
    entries = λ x i. i;
  }

  shrank-one : (d d₁ : List ℕ) (p : ℕ) → Sound g d → Places.Fits g d → IsFile g d p → T (not (system g d p)) → (Small d → Small d₁) → Dropped g d d₁ p →
      Shrank g d d₁ p 1
  shrank-one d d₁ p c k f u b w =
      let m = w.which in let h = w.change in let l = w.shorter in
      let file' = Shorter.shrunk-file g d d₁ c p f m l u in
      record {
        kept = resized-one g d d₁ p c k u b h w.long w.file l.low l.same
            (sym (ap (λ (x : Rattle.meaning.specs.Plain.File). x.attributes) file')) (sym (ap (λ (x : Rattle.meaning.specs.Plain.File). x.bytes) file'));
        size = Shorter.size_same g d d₁ c p f m l;
        old = m ∷ [];
        owned' = l.less;
        many = refl;
        free = omega (arith, Shorter.shrunk-free g d d₁ c p f m l);
        touch = w.touch;
        entries = w.entries;
      }

  shrank-trans : (a b e : List ℕ) (p j k : ℕ) → Shrank g a b p j → Shrank g b e p k → Shrank g a e p (j + k)
  shrank-trans a b e p j k x y = record {
    kept = resized-trans g a b e p x.kept y.kept;
    size = y.size ∙ x.size;
    old = y.old ++ x.old;
    owned' = x.owned' ∙ ap (λ (l : List ℕ). l ++ x.old) y.owned' ∙ append_assoc (owned g e p) y.old x.old;
    many = length-append y.old x.old ∙ ap₂ (λ (m n : ℕ). m + n) y.many x.many ∙ omega arith;
    free = omega (arith, x.free, y.free);
    touch = Touch.touch-then x.touch (Touch.touch-more (chain g a p) [] x.entries (λ n i. i) y.touch);
    entries = λ z i. x.entries z (y.entries z i);
  }

  pub times-shrank : (k : ℕ) (d : List ℕ) (p : ℕ) → Sound g d → Places.Fits g d → IsFile g d p → T (not (system g d p))
      → size_of g d p + granule_bytes g * k ≤ granule_bytes g * length (owned g d p) → Shrank g d (times k (drop_one g p) d) p k
  times-shrank zero d p c w f u room = shrank-none d p c w f u
  times-shrank (suc k) d p c w f u room =
      let d₁ = drop_one g p d in
      let x = shrank-one d d₁ p c w f u (λ b. Bytes.drop-small g d c w p f b) (DropLast.drop-one g d c w p f u (omega arith)) in
      let l = ap length x.owned' ∙ length-append (owned g d₁ p) x.old in
      subst (λ (j : ℕ). Shrank g d (times k (drop_one g p) d₁) p j) (omega arith)
      (shrank-trans d d₁ (times k (drop_one g p) d₁) p 1 k x
      (times-shrank k d₁ p x.kept.sound x.kept.fits x.kept.file x.kept.user
      (omega (arith, x.size, ap (granule_bytes g *◌) (l ∙ ap (length (owned g d₁ p) +◌) x.many)))))

pub record TrimMeans (g : Geometry) (d d' : List ℕ) (p : ℕ) : Type 0 where
  pub long : length d' ≡ length d
  pub consistent' : consistent g d' ≡ true
  pub reserved' : reserved g d' ≡ reserved g d
  pub own : plain g d' (name_of g d p) ≡ found (trimmed g (file_at g d p))
  pub others : (n : List ℕ) → n ≢ name_of g d p → hush (plain g d' n) ≡ hush (plain g d n)
  pub beyond' : (n : List ℕ) → n ≢ name_of g d p → beyond g d' n ≡ beyond g d n
  pub names' : (n : List ℕ) → n ≢ name_of g d p → named g d' n ≡ named g d n
  pub touch : Touch g (chain g d p) [] d d'
  pub file' : IsFile g d' p
  pub name' : name_of g d' p ≡ name_of g d p
  pub told : file_at g d' p ≡ trimmed g (file_at g d p)
  pub free : length (free_granules g d) + length (owned g d p) ≡ length (free_granules g d') + length (owned g d' p)
  pub small : Small d → Small d'

trim-kept : (g : Geometry) (d : List ℕ) (p : ℕ) → T (keeps_space g d p) → file_at g d p ≡ trimmed g (file_at g d p)
unfolding trimmed file_at
trim-kept g d p t = rw (Members.T_true {b = keeps_space g d p} t)

trim-done : (g : Geometry) (d d' : List ℕ) (p : ℕ) → (T (keeps_space g d p) → ⊥) → granules_for g (size_of g d p) ≤ length (owned g d p)
    → Shrank g d d' p (length (owned g d p) - granules_for g (size_of g d p)) → file_at g d' p ≡ trimmed g (file_at g d p)
unfolding trimmed file_at
trim-done g d d' p t h x = λ i. record { attributes = x.kept.attributes i; granules = many i; bytes = x.kept.bytes i }
  where
    many : length (owned g d' p) ≡ cond (keeps_space g d p) (length (owned g d p)) (granules_for g (length (file_at g d p).bytes))
    many = rw (Members.no_false {b = keeps_space g d p} t, Others.file-length g d p)
        (omega (arith, h, x.many, ap length x.owned' ∙ length-append (owned g d' p) x.old))

pub trim-means : (g : Geometry) (d : List ℕ) (h : Handle) → (trim g d h).0.refusal.number ≡ 0 → TrimMeans g d (trim g d h).1 h.slot
unfolding trim
trim-means g d h e =
    let p = h.slot in
    let w = (Passed.holds g d h _ 4 [] e).0 in
    rw e (go p w (Members.decide (keeps_space g d p)))
  where
    go : (p : ℕ) → Passed.Holds g d h → Members.Test (keeps_space g d h.slot)
        → TrimMeans g d (cond (not (keeps_space g d h.slot))
        (times (length (owned g d h.slot) - granules_for g (size_of g d h.slot)) (drop_one g h.slot) d) d) h.slot
    go p w (Members.Test.holds t) = rw (Members.T_true {b = keeps_space g d h.slot} t) (record {
      long = refl;
      consistent' = Facts.back g d w.sound;
      reserved' = refl;
      own = Named.plain-is g d w.sound h.slot (name_of g d h.slot) w.file refl ∙ ap {B = Found} found (trim-kept g d h.slot t);
      others = λ n q. refl;
      beyond' = λ n q. refl;
      names' = λ n q. refl;
      touch = Touch.Touch.none;
      file' = w.file;
      name' = refl;
      told = trim-kept g d h.slot t;
      free = refl;
      small = λ b. b;
    })
    go p w (Members.Test.fails t) =
        let k = length (owned g d h.slot) - granules_for g (size_of g d h.slot) in
        let fit = (Change.filed-at g d w.sound h.slot w.file).fits in
        let held = Sizes.round-least (Sizes.bytes_pos g) _ _ fit in
        let x = times-shrank g k d h.slot w.sound w.fits w.file w.user (Sizes.surplus-fits (Sizes.bytes_pos g) _ _ fit) in
        let d' = times k (drop_one g h.slot) d in
        rw (Members.no_false {b = keeps_space g d h.slot} t) (record {
          long = x.kept.long;
          consistent' = Facts.back g d' x.kept.sound;
          reserved' = x.kept.reserved';
          own = Named.plain-is g d' x.kept.sound h.slot (name_of g d h.slot) x.kept.file x.kept.name ∙ ap {B = Found} found
              (trim-done g d d' h.slot t held x);
          others = x.kept.others;
          beyond' = x.kept.beyond';
          names' = x.kept.names';
          touch = x.touch;
          file' = x.kept.file;
          name' = x.kept.name;
          told = trim-done g d d' h.slot t held x;
          free = omega (arith, x.free, x.many, ap length x.owned' ∙ length-append (owned g d' h.slot) x.old);
          small = x.kept.small;
        })
