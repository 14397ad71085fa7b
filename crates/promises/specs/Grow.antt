-- k granules more, and the call that asks for them
use Rattle.std.proofs.Math.Path.{◌≡◌, refl, ap, ap₂, subst}
use Rattle.std.proofs.Common.{sym, ◌∙◌, arith, nltb→le}
use Rattle.std.specs.Prelude.{◌≢◌, true, not, length, T, ltb}
use mathlib.Core.List.{List, [], ◌∷◌, ◌++◌, append_assoc, append-nil}
use Prim.Native.Nat.{ℕ, zero, suc, ◌+◌, ◌/◌, ◌≤◌, ◌<◌, max}
use Rattle.std.proofs.Math.ListN.{length-append}
use Rattle.std.proofs.Math.Dec.{not_T}
use Rattle.meaning.specs.Lists.{count}
use Rattle.meaning.specs.Layout.{granules, taken, byte, field, directory_granules, granule_bytes, granule_sectors, above_ten, round_up}
use Rattle.meaning.specs.Entries.{system, name_of}
use Rattle.meaning.specs.Chain.{chain, owned}
use Rattle.meaning.specs.Consistent.{consistent}
use Rattle.meaning.specs.Growth.{take_at, Grown, grown, no_slot, grow, grow_by, growth, and_then, or_else, fails, disk_or, with_granules, lacking}
use Rattle.meaning.specs.Free.{free_granules, lowest_free, longest_free, free_slots, reserved}
use Rattle.meaning.specs.Plain.{file_at, plain, Found, found, allotted_to}
use Rattle.promises_words.specs.Untouched.{hush, beyond}
use Rattle.meaning.specs.LookUp.{named}
use Rattle.meaning.specs.Allot.{allot, granules_to}
use Rattle.meaning.specs.Refusals.{first, cannot_grow}
use Rattle.meaning.specs.Choice.{view}
use Rattle.meaning.specs.declared.Geometry.{Geometry}
use Rattle.meaning.specs.declared.Handle.{Handle}
use Rattle.lists.specs.Members
use Rattle.lists.specs.Members.{In}
use Rattle.laws.specs.Facts
use Rattle.laws.specs.Facts.{Sound, IsFile}
use Rattle.laws.specs.Places
use Rattle.laws.specs.Longer
use Rattle.laws.specs.TakeOne
use Rattle.laws.specs.Bytes
use Rattle.laws.specs.Bytes.{Small}
use Rattle.laws.specs.Touch
use Rattle.laws.specs.Touch.{Touch}
use Rattle.laws.specs.TakeOne.{Took}
use Rattle.laws.specs.Named
use Rattle.laws.specs.Passed
use Rattle.laws.specs.Words.{words}
use Rattle.laws_choice.specs.Stretches
use Rattle.promises.specs.Resized.{Resized, resized-none, resized-one, resized-trans}

-- the file at p has k granules more, and all else is as it was
pub record Grew (g : Geometry) (d d' : List ℕ) (p k : ℕ) : Type 0 where
  pub kept : Resized g d d' p
  pub above : above_ten g d' ≡ above_ten g d
  pub low : (j : ℕ) → j < 0x16 → field g d' p j ≡ field g d p j
  pub new : List ℕ
  pub owned' : owned g d' p ≡ owned g d p ++ new
  pub many : length new ≡ k
  pub free : length (free_granules g d) ≡ length (free_granules g d') + k
  pub touch : Touch g (chain g d' p) [] d d'
  pub entries : (x : ℕ) → In x (chain g d p) → In x (chain g d' p)
  pub slots : length (free_slots g d) + length (chain g d p) ≡ length (free_slots g d') + length (chain g d' p)
  pub same : (i : ℕ) → (In (i / granule_bytes g) (directory_granules g d) → ⊥) → byte d' i ≡ byte d i

module _ (g : Geometry) where
  grew_none : (d : List ℕ) (p : ℕ) → Sound g d → Places.Fits g d → IsFile g d p → T (not (system g d p)) → Grew g d d p 0
  grew_none d p c k f u = record {
    kept = resized-none g d p c k f u;
    above = refl;
    low = λ j b. refl;
    new = [];
    owned' = sym (append-nil (owned g d p));
    many = refl;
    free = omega arith;
    touch = Touch.Touch.none;
    entries = λ x i. i;
    slots = refl;
    same = λ i o. refl;
  }

  grew-one : (d d₁ : List ℕ) (p : ℕ) → Sound g d → Places.Fits g d → IsFile g d p → T (not (system g d p)) → (Small d → Small d₁) → Took g d d₁ p → Grew g d
      d₁ p 1
  grew-one d d₁ p c k f u b w =
      let m = w.which in let h = w.change in let l = w.longer in
      let file' = Longer.grown-file g d d₁ c p f m l u in
      record {
        kept = resized-one g d d₁ p c k u b h w.long w.file l.low l.same
            (ap (λ (x : Rattle.meaning.specs.Plain.File). x.attributes) file') (ap (λ (x : Rattle.meaning.specs.Plain.File). x.bytes) file');
        above = h.above;
        low = l.low;
        new = m ∷ [];
        owned' = l.more;
        many = refl;
        free = omega (arith, Longer.grown-free g d d₁ c p f m l);
        touch = w.touch;
        entries = w.entries;
        slots = w.slots;
        same = l.same;
      }

  grew_trans : (a b e : List ℕ) (p j k : ℕ) → Grew g a b p j → Grew g b e p k → Grew g a e p (j + k)
  unfolding words
  grew_trans a b e p j k x y = record {
    kept = resized-trans g a b e p x.kept y.kept;
    above = y.above ∙ x.above;
    low = λ i h. y.low i h ∙ x.low i h;
    new = x.new ++ y.new;
    owned' = y.owned' ∙ ap (λ (l : List ℕ). l ++ y.new) x.owned' ∙ append_assoc (owned g a p) x.new y.new;
    many = length-append x.new y.new ∙ ap₂ (λ (m n : ℕ). m + n) x.many y.many;
    free = omega (arith, x.free, y.free);
    touch = Touch.touch-then (Touch.touch-more (chain g e p) [] y.entries (λ n i. i) x.touch) y.touch;
    entries = λ z i. y.entries z (x.entries z i);
    slots = x.slots ∙ y.slots;
    same = λ i o. y.same i (λ z. o
        (subst (λ (v : ℕ). In (i / granule_bytes g) (count (g.start / granule_sectors g) (round_up (10 + v) (granule_sectors g)))) x.above z)) ∙ x.same i o;
  }

  -- the choice is free wherever some granule is
  abbrev pub Chooses : (List ℕ → ℕ) → Type 0
  Chooses choice = (d : List ℕ) → 1 ≤ length (free_granules g d) → (choice d < granules g) × (T (taken g d (choice d)) → ⊥)

  pub grow_by-grew : (choice : List ℕ → ℕ) → Chooses choice → (k : ℕ) (d d' : List ℕ) (p : ℕ) → Sound g d → Places.Fits g d → IsFile g d p → T
      (not (system g d p)) → k ≤ length (free_granules g d)
      → grow_by g p choice k d ≡ grown d' → Grew g d d' p k
  unfolding grow_by and_then
  grow_by-grew choice h zero d d' p c w f u room q = let r : d ≡ d' = cc in subst (λ (l : List ℕ). Grew g d l p 0) r (grew_none d p c w f u)
  grow_by-grew choice h (suc k) d d' p c w f u room q =
      go (take_at g p (choice d) d) refl q (λ d₁ x. grow_by-grew choice h k d₁ d' p x.kept.sound x.kept.fits x.kept.file x.kept.user
      (omega (arith, x.free)))
    where
      go : (t : Grown) → take_at g p (choice d) d ≡ t → and_then t (grow_by g p choice k) ≡ grown d' →
          ((d₁ : List ℕ) → Grew g d d₁ p 1 → grow_by g p choice k d₁ ≡ grown d' → Grew g d₁ d' p k) → Grew g d d' p (suc k)
      go (grown d₁) e q ih =
          let n = h d (omega arith) in
          let x = grew-one d d₁ p c w f u (λ b. Bytes.take-small g d c w p f b (choice d) n.0 d₁ e) (TakeOne.take-at g d c w p f u (choice d) n d₁ e) in
          subst (λ (j : ℕ). Grew g d d' p j) (omega arith) (grew_trans d d₁ d' p 1 k x (ih d₁ x q))
      go no_slot e q ih = absurd (let z : ◌≡◌ {A = ℕ} 0 1 = cc in omega arith)

  pub grow-grew : (k : ℕ) (d d' : List ℕ) (p : ℕ) → Sound g d → Places.Fits g d → IsFile g d p → T (not (system g d p)) → k ≤ length (free_granules g d)
      → grow g p k d ≡ grown d' → Grew g d d' p k
  grow-grew = grow_by-grew (lowest_free g) (TakeOne.first-free g)

  pub longest-chooses : Chooses (longest_free g)
  longest-chooses d h =
      let a = TakeOne.first-free g d h in
      let b = Stretches.low_free (granules g) (view g 0 d) (lowest_free g d) (record { inside = a.0; clear = Members.no_false a.1 }) in
      (b.inside, λ t. Members.false-no b.clear t)

  -- "Keep 01's choice where it fits."
  pub keeps-first : (k : ℕ) (d d' : List ℕ) (p : ℕ) → grow g p k d ≡ grown d' → growth g p k d ≡ grown d'
  unfolding growth or_else
  keeps-first k d d' p e = rw e

  -- Where it doesn't, the second, from the disk as it stood.
  pub else-second : (k : ℕ) (d : List ℕ) (p : ℕ) → grow g p k d ≡ no_slot → growth g p k d ≡ grow_by g p (longest_free g) k d
  unfolding growth or_else
  else-second k d p e = rw e

  -- 01's growth, or the second where that found no slot
  pub growth-grew : (k : ℕ) (d d' : List ℕ) (p : ℕ) → Sound g d → Places.Fits g d → IsFile g d p → T (not (system g d p)) → k ≤ length (free_granules g d)
      → growth g p k d ≡ grown d' → Grew g d d' p k
  growth-grew k d d' p c w f u room e = go (grow g p k d) refl
    where
      go : (t : Grown) → grow g p k d ≡ t → Grew g d d' p k
      go (grown d₁) q = grow-grew k d d' p c w f u room (q ∙ sym (keeps-first k d d₁ p q) ∙ e)
      go no_slot q = grow_by-grew (longest_free g) longest-chooses k d d' p c w f u room (sym (else-second k d p q) ∙ e)

not-fails : (z : List ℕ) (t : Grown) → (T (fails t) → ⊥) → t ≡ grown (disk_or z t)
unfolding fails disk_or
not-fails z (grown d) f = refl
not-fails z no_slot f = absurd (f tt)

-- what a growth that passed its refusals leaves
pub larger-grew : (g : Geometry) (d : List ℕ) (h : Handle) (k : ℕ) → Passed.Holds g d h → first (cannot_grow g d h.slot k) ≡ 0 → Grew g d
    (with_granules g d h.slot k) h.slot k
larger-grew g d h k w e =
    let p₁ = Passed.passed 11 _ _ (omega arith) e in
    let p₂ = Passed.passed 9 _ _ (omega arith) p₁.1 in
    let p₃ = Passed.passed 8 _ _ (omega arith) p₂.1 in
    growth-grew g k d (with_granules g d h.slot k) h.slot w.sound w.fits w.file w.user
    (nltb→le (length (free_granules g d)) k (not_T (ltb (length (free_granules g d)) k) p₂.0)) (not-fails d (growth g h.slot k d) p₃.0)

pub record AllotMeans (g : Geometry) (d d' : List ℕ) (p k : ℕ) : Type 0 where
  pub long : length d' ≡ length d
  pub consistent' : consistent g d' ≡ true
  pub reserved' : reserved g d' ≡ reserved g d
  pub own : plain g d' (name_of g d p) ≡ found (allotted_to g k (file_at g d p))
  pub others : (n : List ℕ) → n ≢ name_of g d p → hush (plain g d' n) ≡ hush (plain g d n)
  pub beyond' : (n : List ℕ) → n ≢ name_of g d p → beyond g d' n ≡ beyond g d n
  pub names' : (n : List ℕ) → n ≢ name_of g d p → named g d' n ≡ named g d n
  pub touch : Touch g (chain g d' p) [] d d'
  pub file' : IsFile g d' p
  pub name' : name_of g d' p ≡ name_of g d p
  pub small : Small d → Small d'
  pub free : length (free_granules g d) ≡ length (free_granules g d') + lacking g d p (granules_to g k)

allotted : (g : Geometry) (d d' : List ℕ) (p k : ℕ) → Grew g d d' p (lacking g d p (granules_to g k)) → file_at g d' p ≡ allotted_to g k (file_at g d p)
unfolding file_at allotted_to
allotted g d d' p k x = λ i. record {
  attributes = x.kept.attributes i;
  granules = many i;
  bytes = x.kept.bytes i;
}
  where
    many : length (owned g d' p) ≡ max (length (owned g d p)) (granules_to g k)
    many = ap length x.owned' ∙ length-append (owned g d p) x.new ∙ omega (arith, x.many)

pub allot-means : (g : Geometry) (d : List ℕ) (h : Handle) (k : ℕ) → (allot g d h k).0.refusal.number ≡ 0 → AllotMeans g d (allot g d h k).1 h.slot k
unfolding allot
allot-means g d h k e =
    let p = h.slot in
    let w = Passed.holds g d h _ 4 (cannot_grow g d p (lacking g d p (granules_to g k))) e in
    let x = larger-grew g d h (lacking g d p (granules_to g k)) w.0 w.1 in
    let d' = with_granules g d p (lacking g d p (granules_to g k)) in
    rw e (record {
      long = x.kept.long;
      consistent' = Facts.back g d' x.kept.sound;
      reserved' = x.kept.reserved';
      own = Named.plain-is g d' x.kept.sound p (name_of g d p) x.kept.file x.kept.name ∙ ap {B = Found} found (allotted g d d' p k x);
      others = x.kept.others;
      beyond' = x.kept.beyond';
      names' = x.kept.names';
      touch = x.touch;
      file' = x.kept.file;
      name' = x.kept.name;
      small = x.kept.small;
      free = x.free;
    })
