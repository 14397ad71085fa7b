-- One granule more, and k granules more
use Rattle.std.proofs.Math.Path.{◌≡◌, subst}
use Rattle.std.proofs.Common.{ap, ap₂, sym, ◌∙◌, arith, length-set, length-append, T_not, eqb→eq, ltb→lt}
use Rattle.std.specs.Prelude.{not, ℕ, ◌+◌, ◌-◌, ◌*◌, ◌≤◌, ◌<◌, length, T}
use mathlib.Core.List.{List, [], ◌∷◌, ◌++◌}
use Rattle.std.proofs.Math.Dec.{ltb, not_T, nltb→le}
use Rattle.meaning.specs.Lists.{count}
use Rattle.meaning.specs.Layout.{is_slot, taken, granules, hit}
use Rattle.meaning.specs.Entries.{system, runs}
use Rattle.meaning.specs.Chain.{chain}
use Rattle.meaning.specs.Growth.{tail, after, lengthens, lengthened, with_pair, with_extension, take_at, take_one, grown, extended}
use Rattle.meaning.specs.Free.{free_granules, lowest_free, free_slots}
use Rattle.meaning.specs.declared.Geometry.{Geometry}
use Rattle.lists.specs.Members
use Rattle.lists.specs.Members.{In}
use Rattle.laws.specs.Facts
use Rattle.laws.specs.Facts.{Sound, IsFile}
use Rattle.laws.specs.Entry
use Rattle.laws.specs.Places
use Rattle.laws.specs.Change
use Rattle.laws.specs.Create
use Rattle.laws.specs.Longer
use Rattle.laws.specs.Tail
use Rattle.laws.specs.AtTail
use Rattle.laws.specs.Take
use Rattle.laws.specs.Extend
use Rattle.laws.specs.TakeNew
use Rattle.laws.specs.FreeSlots
use Rattle.laws.specs.Touch
use Rattle.laws.specs.Words.{words}

-- a granule taken: which, and what it means
pub record Took (g : Geometry) (d d' : List ℕ) (p : ℕ) : Type 0 where
  pub which : ℕ
  pub change : Change.Change g d d' p
  pub longer : Longer.Longer g d d' p which
  pub long : length d' ≡ length d
  pub file : IsFile g d' p
  -- only the file's entries and one bit are stored to, and no entry is lost
  pub touch : Touch.Touch g (chain g d' p) [] d d'
  pub entries : (x : ℕ) → In x (chain g d p) → In x (chain g d' p)
  -- an extension takes one permitted slot, and nothing else does
  pub slots : length (free_slots g d) + length (chain g d p) ≡ length (free_slots g d') + length (chain g d' p)

free_in : (g : Geometry) (d : List ℕ) → 1 ≤ length (free_granules g d) → In (lowest_free g d) (free_granules g d)
free_in g d h = Create.first-in (free_granules g d) (λ t. omega (arith, eqb→eq (length (free_granules g d)) 0 t))

free-says : (g : Geometry) (d : List ℕ) (n : ℕ) → In n (free_granules g d) → (n < granules g) × (T (taken g d n) → ⊥)
unfolding free_granules
free-says g d n i =
    let a = Members.keep-in (λ n. not (taken g d n)) n (count 0 (granules g)) i in
    (omega (arith, Members.count-in n 0 (granules g) a.0), T_not (taken g d n) a.1)

-- the lowest free granule, where there is one
pub first-free : (g : Geometry) (d : List ℕ) → 1 ≤ length (free_granules g d) → (lowest_free g d < granules g) × (T (taken g d (lowest_free g d)) → ⊥)
first-free g d room = free-says g d (lowest_free g d) (free_in g d room)

module _ (g : Geometry) (d : List ℕ) (c : Sound g d) (k : Places.Fits g d) (p : ℕ) (f : IsFile g d p) (u : T (not (system g d p)))
    (n : ℕ) (is_free : (n < granules g) × (T (taken g d n) → ⊥)) where
  abbrev e : ℕ
  e = tail g p d

  by-tail : (d' : List ℕ) (m : ℕ) → Tail.Grows g d d' p m → length d' ≡ length d → Touch.Touch g (chain g d p) [] d d' → Took g d d' p
  by-tail d' m w l t = record {
    which = m;
    change = Tail.grows-change g d d' c p f m w u;
    longer = Tail.grows-longer g d d' c p f m w;
    long = l;
    file = AtTail.file-stays g d d' c p f w.at;
    touch = subst (λ (xs : List ℕ). Touch.Touch g xs [] d d') (sym (AtTail.chain-stays g d d' c p f w.at)) t;
    entries = λ x i. subst (In x) (sym (AtTail.chain-stays g d d' c p f w.at)) i;
    slots = ap₂ (λ (a b : List ℕ). length a + length b) (sym (FreeSlots.slots_same g d d' w.at.above w.at.hits))
        (sym (AtTail.chain-stays g d d' c p f w.at));
  }

  tail-here : In e (chain g d p)
  tail-here = Change.tail-in g d c p f

  longer-touch : T (lengthens g p d) → Touch.Touch g (chain g d p) [] d (lengthened g p d)
  longer-touch t =
      let w = Take.lengthened-grows g d c k p f t in
      Touch.touch-take g (chain g d p) [] d (after g p d) w.inside
      (Touch.touch-field g (chain g d p) [] d e (0x17 + 2 * (runs g d e - 1)) _ tail-here (omega (arith, Entry.runs-le g d e)) Touch.Touch.none)

  pair-touch : runs g d e < 4 → Touch.Touch g (chain g d p) [] d (with_pair g d e (runs g d e) n)
  pair-touch h = Touch.touch-pair g (chain g d p) [] d p e (runs g d e) n tail-here h is_free.0 Touch.Touch.none

  -- the new entry at the end of the chain
  new-touch : (x : ℕ) → Touch.Touch g (chain g d p ++ (x ∷ [])) [] d (with_pair g (with_extension g p d e x) x 0 n)
  new-touch x =
      let i = Members.in-append-r (chain g d p) {ys = x ∷ []} Members.In.here in
      Touch.touch-pair g (chain g d p ++ (x ∷ [])) [] d p x 0 n i (omega arith) is_free.0
      (Touch.touch-hook g (chain g d p ++ (x ∷ [])) [] d p e x (Members.in-append-l (x ∷ []) tail-here) i Touch.Touch.none)

  one-slot : (d' : List ℕ) (x : ℕ) → In x (free_slots g d) → Extend.Extends g d d' p x n → length (free_slots g d) + length (chain g d p) ≡ length
      (free_slots g d') + length (chain g d' p)
  one-slot d' x i w = omega (
    arith,
    FreeSlots.slots-less g d d' w.above x i (λ q. Change.used-hit g d c p f.slot (Facts.file-in-use g d p f) (sym w.hit-new ∙ q)) w.hits,
    ap length (Extend.extends-chain g d d' c p f x n w) ∙ length-append (chain g d p) (x ∷ []),
  )

  by-extension : (x : ℕ) → In x (free_slots g d) → T (is_slot g d x) → hit g d x ≡ 0 → runs g d e ≡ 4
      → Took g d (with_pair g (with_extension g p d e x) x 0 n) p
  unfolding words
  by-extension x i t z full =
      let d' = with_pair g (with_extension g p d e x) x 0 n in
      let w = TakeNew.new-extends g d c k p f x t z n full is_free.0 is_free.1 in
      record {
        which = n;
        change = Extend.extends-change g d d' c p f x n w u;
        longer = Extend.extends-longer g d d' c p f x n w;
        long = simp length-set;
        file = Extend.extends-file g d d' c p f x n w;
        touch = subst (λ (xs : List ℕ). Touch.Touch g xs [] d d') (sym (Extend.extends-chain g d d' c p f x n w)) (new-touch x);
        entries = λ y j. subst (In y) (sym (Extend.extends-chain g d d' c p f x n w)) (Members.in-append-l (x ∷ []) j);
        slots = one-slot d' x i w;
      }

  extended-took : (d' : List ℕ) (xs : List ℕ) → ((x : ℕ) → In x xs → In x (free_slots g d)) → runs g d e ≡ 4 → extended g p xs d e n ≡ grown d' → Took g d d' p
  unfolding extended
  extended-took d' [] a full q = absurd (let z : ◌≡◌ {A = ℕ} 0 1 = cc in omega arith)
  extended-took d' (x ∷ xs) a full q =
      let r : with_pair g (with_extension g p d e x) x 0 n ≡ d' = cc in
      let i = a x Members.In.here in let s = Create.slots-free g d x i in
      subst (λ (l : List ℕ). Took g d l p) r (by-extension x i s.0 s.1 full)

  pub take-at : (d' : List ℕ) → take_at g p n d ≡ grown d' → Took g d d' p
  unfolding words
  take-at d' q = go (Members.decide (lengthens g p d)) (Members.decide (ltb (runs g d e) 4))
    where
      go : Members.Test (lengthens g p d) → Members.Test (ltb (runs g d e) 4) → Took g d d' p
      go (Members.Test.holds t) b =
          let r : grown (lengthened g p d) ≡ grown d' = rw (Members.T_true {b = lengthens g p d} t) at q in
          let s : lengthened g p d ≡ d' = cc in
          subst (λ (l : List ℕ). Took g d l p) s
          (by-tail (lengthened g p d) (after g p d) (Take.lengthened-grows g d c k p f t) (simp length-set) (longer-touch t))
      go (Members.Test.fails a) (Members.Test.holds t) =
          let r : grown (with_pair g d e (runs g d e) n) ≡ grown d' = rw (Members.no_false {b = lengthens g p d} a, Members.T_true {b = ltb (runs g d e) 4} t)
          at q in
          let s : with_pair g d e (runs g d e) n ≡ d' = cc in
          subst (λ (l : List ℕ). Took g d l p) s
          (by-tail (with_pair g d e (runs g d e) n) n (Take.paired-grows g d c k p f n (ltb→lt (runs g d e) 4 t) is_free.0 is_free.1)
          (simp length-set) (pair-touch (ltb→lt (runs g d e) 4 t)))
      go (Members.Test.fails a) (Members.Test.fails b) =
          let r : extended g p (free_slots g d) d e n ≡ grown d' = rw (Members.no_false {b = lengthens g p d} a, Members.no_false {b = ltb (runs g d e) 4} b)
          at q in
          extended-took d' (free_slots g d) (λ x i. i) (omega (arith, nltb→le (runs g d e) 4 (not_T (ltb (runs g d e) 4) b), Entry.runs-le g d e)) r

pub take-one : (g : Geometry) (d : List ℕ) (c : Sound g d) (k : Places.Fits g d) (p : ℕ) (f : IsFile g d p) (u : T (not (system g d p)))
    (room : 1 ≤ length (free_granules g d))
    (d' : List ℕ) → take_one g p d ≡ grown d' → Took g d d' p
unfolding take_one
take-one g d c k p f u room d' q = take-at g d c k p f u (lowest_free g d) (first-free g d room) d' q
