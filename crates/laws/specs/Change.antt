-- The one theorem behind every call that writes: a disk on which only one file's own entries, HIT bytes and granules changed
-- is consistent if the file itself is sound afterwards; and every other file is as it was
use Rattle.std.specs.Prelude.{◌≡◌, refl, ◌≢◌, ◌⊎◌, Bool, true, false, not, cond, ◌&&◌, length, eqb}
use Rattle.std.proofs.Common.{ap, sym, ◌∙◌, subst, inl, inr, arith, T_not, eqb→eq}
use Rattle.std.specs.Bool.{beq}
use mathlib.Core.List.{List, [], ◌∷◌}
use Prim.Native.Nat.{ℕ, zero, suc, ◌≤◌, ◌<◌}
use Rattle.std.proofs.Math.Decide.{ℕ_discrete}
use Rattle.std.proofs.Math.Dec.{T}
use Rattle.meaning.specs.Layout.{is_slot, slots, taken, field, granules, hit, directory_granules, above_ten}
use Rattle.meaning.specs.Bits.{bit, digit}
use Rattle.meaning.specs.Entries.{in_use, extension, in_use_primary, marker, link, entry_granules, name_of}
use Rattle.meaning.specs.Chain.{chain, chain_from, owned}
use Rattle.meaning.specs.Consistent.{hit_holds, entry_holds, file_holds}
use Rattle.meaning.specs.Growth.{tail}
use Rattle.meaning.specs.declared.Geometry.{Geometry}
use Rattle.lists.specs.Members
use Rattle.lists.specs.Members.{In, Distinct}
use Rattle.lists.specs.Counting
use Rattle.laws.specs.Facts
use Rattle.laws.specs.Facts.{IsFile, Sound}
use Rattle.laws.specs.Entry
use Rattle.laws.specs.Frame
use Rattle.laws.specs.Places
use Rattle.laws.specs.Frame.{Agree}
use Rattle.laws.specs.Words.{words}

-- the entries, and the granules, of the file at slot p; none if there is no file at p
unfoldable pub entries_of : Geometry → List ℕ → ℕ → List ℕ
entries_of g d p = cond (is_slot g d p && in_use_primary g d p) (chain g d p) []

unfoldable pub granules_of : Geometry → List ℕ → ℕ → List ℕ
granules_of g d p = cond (is_slot g d p && in_use_primary g d p) (owned g d p) []

module _ (g : Geometry) (d : List ℕ) (p : ℕ) where
  file-test : IsFile g d p → T (is_slot g d p && in_use_primary g d p)
  file-test f = Members.and_i (is_slot g d p) (in_use_primary g d p) f.slot f.primary'

  test-file : T (is_slot g d p && in_use_primary g d p) → IsFile g d p
  test-file t = record { slot = Members.and_l (is_slot g d p) (in_use_primary g d p) t; primary' = Members.and_r (is_slot g d p) (in_use_primary g d p) t }

  pub file? : IsFile g d p ⊎ (IsFile g d p → ⊥)
  file? = go (Members.decide (is_slot g d p && in_use_primary g d p))
    where
      go : Members.Test (is_slot g d p && in_use_primary g d p) → IsFile g d p ⊎ (IsFile g d p → ⊥)
      go (Members.Test.holds t) = inl (test-file t)
      go (Members.Test.fails f) = inr (λ h. f (file-test h))

  pub entries_of-is : IsFile g d p → entries_of g d p ≡ chain g d p
  unfolding entries_of
  entries_of-is f = rw (Members.T_true {b = is_slot g d p && in_use_primary g d p} (file-test f))

  pub granules_of-is : IsFile g d p → granules_of g d p ≡ owned g d p
  unfolding granules_of
  granules_of-is f = rw (Members.T_true {b = is_slot g d p && in_use_primary g d p} (file-test f))

  pub entries_of-none : (IsFile g d p → ⊥) → entries_of g d p ≡ []
  unfolding entries_of
  entries_of-none f = rw (Members.no_false {b = is_slot g d p && in_use_primary g d p} (λ t. f (test-file t)))

  pub granules_of-none : (IsFile g d p → ⊥) → granules_of g d p ≡ []
  unfolding granules_of
  granules_of-none f = rw (Members.no_false {b = is_slot g d p && in_use_primary g d p} (λ t. f (test-file t)))

  pub entries-in : (x : ℕ) → In x (entries_of g d p) → IsFile g d p × In x (chain g d p)
  entries-in x i = go file? i
    where
      go : IsFile g d p ⊎ (IsFile g d p → ⊥) → In x (entries_of g d p) → IsFile g d p × In x (chain g d p)
      go (inl f) i = (f, rw (entries_of-is f) at i)
      go (inr n) i = Members.none_in (rw (entries_of-none n) at i)

  pub granules-in : (n : ℕ) → In n (granules_of g d p) → IsFile g d p × In n (owned g d p)
  granules-in n i = go file? i
    where
      go : IsFile g d p ⊎ (IsFile g d p → ⊥) → In n (granules_of g d p) → IsFile g d p × In n (owned g d p)
      go (inl f) i = (f, rw (granules_of-is f) at i)
      go (inr h) i = Members.none_in (rw (granules_of-none h) at i)

-- the file at p of d' is sound in itself, and no other file of d has its name
pub record Own (g : Geometry) (d d' : List ℕ) (p : ℕ) : Type 0 where
  pub slots' : (x : ℕ) → In x (chain g d' p) → T (is_slot g d' x)
  pub used : (x : ℕ) → In x (chain g d' p) → T (in_use g d' x)
  pub later : (x : ℕ) → In x (chain g d' p) → x ≢ p → T (extension g d' x)
  pub entry : (x : ℕ) → In x (chain g d' p) → Entry.Entry g d' x
  pub filed : Entry.Filed g d' p
  pub once : Distinct (chain g d' p)
  pub single : Distinct (owned g d' p)
  pub name : (q : ℕ) → IsFile g d q → q ≢ p → name_of g d q ≢ name_of g d' p

pub record Change (g : Geometry) (d d' : List ℕ) (p : ℕ) : Type 0 where
  pub above : above_ten g d' ≡ above_ten g d
  pub agrees : (x : ℕ) → T (is_slot g d x) → (In x (entries_of g d p) → ⊥) → (In x (entries_of g d' p) → ⊥) → Agree g d d' x
  pub hits : (x : ℕ) → T (is_slot g d x) → (In x (entries_of g d p) → ⊥) → (In x (entries_of g d' p) → ⊥) → hit g d' x ≡ hit g d x
  pub gone : (x : ℕ) → In x (entries_of g d p) → (In x (entries_of g d' p) → ⊥) → T (in_use g d' x) → ⊥
  pub unhit : (x : ℕ) → In x (entries_of g d p) → (In x (entries_of g d' p) → ⊥) → hit g d' x ≡ 0
  pub born : (x : ℕ) → In x (entries_of g d' p) → (In x (entries_of g d p) → ⊥) → T (in_use g d x) → ⊥
  pub nonzero : (x : ℕ) → In x (entries_of g d' p) → hit g d' x ≢ 0
  pub keeps : (n : ℕ) → n < granules g → (In n (granules_of g d p) → ⊥) → (In n (granules_of g d' p) → ⊥) → taken g d' n ≡ taken g d n
  pub freed : (n : ℕ) → In n (granules_of g d p) → (In n (granules_of g d' p) → ⊥) → T (taken g d' n) → ⊥
  pub fresh : (n : ℕ) → In n (granules_of g d' p) → (In n (granules_of g d p) → ⊥) → T (taken g d n) → ⊥
  pub off : (n : ℕ) → In n (granules_of g d p) → In n (directory_granules g d) → ⊥
  pub own : IsFile g d' p → Own g d d' p

-- In any sound disk
module _ (g : Geometry) (d : List ℕ) (c : Sound g d) where
  pub entry-at : (s : ℕ) → T (is_slot g d s) → T (in_use g d s) → Entry.Entry g d s
  entry-at s t u = Entry.entry g d s (c.entries s t u)

  pub filed-at : (p : ℕ) → IsFile g d p → Entry.Filed g d p
  filed-at p f = Entry.filed g d p (c.file p f)

-- what is known of an entry x in the chain of the file at p
pub record Member (g : Geometry) (d : List ℕ) (p x : ℕ) : Type 0 where
  pub slot : T (is_slot g d x)
  pub used : T (in_use g d x)
  pub kind : (x ≡ p) ⊎ (field g d x 0 ≡ 0x90)

pub flags-used : (x : ℕ) → x ≡ 0x90 → T (bit 4 x)
unfolding digit
flags-used x e = rw e tt

pub flags-extension : (x : ℕ) → x ≡ 0x90 → T (bit 7 x)
unfolding digit
flags-extension x e = rw e tt

pub in-length : {x : ℕ} {xs : List ℕ} → In x xs → 1 ≤ length xs
in-length Members.In.here = omega arith
in-length (Members.In.there i) = omega arith

-- A chain of slots that meets none twice ends by its marker, not by its bound: if it has every slot of the directory, it has the next one too.
pub chain_next : (g : Geometry) (d : List ℕ) (p x : ℕ) → ((y : ℕ) → In y (chain g d p) → T (is_slot g d y)) → Distinct (chain g d p) → In x (chain g d p)
    → marker g d x ≡ 0xfe → T (is_slot g d (link g d x)) → In (link g d x) (chain g d p)
chain_next g d p x s u i m t = go (walk x i m) (Members.in? (link g d x) (chain g d p))
  where
    walk : (x : ℕ) → In x (chain g d p) → marker g d x ≡ 0xfe → In (link g d x) (chain g d p) ⊎ (length (chain g d p) ≡ length (slots g d))
    walk x i m = unfold chain in Entry.chain_from-next g d (length (slots g d)) p x i m

    inside : (y : ℕ) → (y ≡ link g d x) ⊎ In y (chain g d p) → In y (slots g d)
    inside y (inl q) = rw q (Facts.in-slots g d (link g d x) t)
    inside y (inr j) = Facts.in-slots g d y (s y j)

    go : In (link g d x) (chain g d p) ⊎ (length (chain g d p) ≡ length (slots g d)) → In (link g d x) (chain g d p) ⊎ (In (link g d x) (chain g d p) → ⊥) →
        In (link g d x) (chain g d p)
    go (inl j) q = j
    go (inr e) (inl j) = j
    go (inr e) (inr n) =
        absurd (omega (
          arith,
          Counting.pigeonhole {xs = slots g d} (link g d x ∷ chain g d p) (Facts.slots-distinct g d) (Members.Distinct.fresh n u)
              (λ y j. inside y (Members.in-cons j)),
        ))

module _ (g : Geometry) (d : List ℕ) (c : Sound g d) where
  chain_from-members : (n p x : ℕ) → T (is_slot g d p) → T (in_use g d p) → In x (chain_from g d n p) → Member g d p x
  unfolding chain_from
  chain_from-members zero p x t u i = Members.none_in i
  chain_from-members (suc n) p x t u i = go (Members.in-cons i) (chain_from-members n (link g d p) x)
    where
      rest : List ℕ
      rest = chain_from g d n (link g d p)

      Rest : Type 0
      Rest = T (is_slot g d (link g d p)) → T (in_use g d (link g d p)) → In x rest → Member g d (link g d p) x

      kind' : field g d (link g d p) 0 ≡ 0x90 → (x ≡ link g d p) ⊎ (field g d x 0 ≡ 0x90) → (x ≡ p) ⊎ (field g d x 0 ≡ 0x90)
      kind' f (inl e) = inr (rw e f)
      kind' f (inr e) = inr e

      deeper : marker g d p ≡ 0xfe → (marker g d p ≡ 0xff) ⊎ Entry.Linked g d p → In x rest → Rest → Member g d p x
      deeper e (inl m) i r = absurd (omega arith)
      deeper e (inr l) i r =
          let m = r l.next.slot (flags-used _ l.next.flags) i in
          record { slot = m.slot; used = m.used; kind = kind' l.next.flags m.kind }

      into : (b : Bool) → eqb (marker g d p) 0xfe ≡ b → In x (cond b rest []) → Rest → Member g d p x
      into true e i r = deeper (eqb→eq _ _ (Members.true-T e)) (entry-at g d c p t u).linked i r
      into false e i r = Members.none_in i

      go : (x ≡ p) ⊎ In x (cond (eqb (marker g d p) 0xfe) rest []) → Rest → Member g d p x
      go (inl e) r = record { slot = rw e t; used = rw e u; kind = inl e }
      go (inr i) r = into (eqb (marker g d p) 0xfe) refl i r

  pub members : (p x : ℕ) → IsFile g d p → In x (chain g d p) → Member g d p x
  unfolding chain
  members p x f i = chain_from-members _ p x f.slot (Facts.file-in-use g d p f) i

  pub extends : (p x : ℕ) → IsFile g d p → In x (chain g d p) → x ≢ p → T (extension g d x)
  extends p x f i n = go (members p x f i).kind
    where
      go : (x ≡ p) ⊎ (field g d x 0 ≡ 0x90) → T (extension g d x)
      go (inl e) = absurd (n e)
      go (inr e) = flags-extension _ e

  pub chain_head : (p : ℕ) → T (is_slot g d p) → In p (chain g d p)
  unfolding chain chain_from
  chain_head p t = go (length (slots g d)) (in-length (Facts.in-slots g d p t))
    where
      go : (n : ℕ) → 1 ≤ n → In p (chain_from g d n p)
      go zero h = absurd (omega arith)
      go (suc n) h = Members.In.here

  -- only one entry is followed by y, and it is in the same chain
  pub before-in : (p x y : ℕ) → IsFile g d p → In y (chain g d p) → Entry.Follows g d x y → In x (chain g d p)
  before-in p x y f i w = go (Entry.chain-pred g d p y i)
    where
      linked : (z : ℕ) → In z (chain g d p) → marker g d z ≡ 0xfe → link g d z ≡ y → (marker g d z ≡ 0xff) ⊎ Entry.Linked g d z → In x (chain g d p)
      linked z j m l (inl e) = absurd (omega arith)
      linked z j m l (inr k) = subst (λ (u : ℕ). In u (chain g d p)) (sym (rw l at k.next.before) ∙ w.before) j

      go : Entry.Pred g d p y (chain g d p) → In x (chain g d p)
      go (Entry.Pred.first e) = absurd (T_not (extension g d p) (Facts.file-first g d p f) (flags-extension _ (rw e at w.flags)))
      go (Entry.Pred.after z j' m l) = let j = Members.front-in p i j' in let k = members p z f j in
          linked z j m l (entry-at g d c z k.slot k.used).linked

  -- a granule of an entry in use is one of its file's
  pub granule-owned : (q x n : ℕ) → In x (chain g d q) → In n (entry_granules g d x) → In n (owned g d q)
  unfolding owned
  granule-owned q x n i j = Members.in-each (entry_granules g d) i j

  pub owned-taken : (q n : ℕ) → IsFile g d q → In n (owned g d q) → T (taken g d n)
  unfolding owned
  owned-taken q n f i =
      let k = Members.each_in (entry_granules g d) n (chain g d q) i in
      let m = members q k.0 f k.1 in
      (entry-at g d c k.0 m.slot m.used).gat n k.2

  pub owned-lt : (q n : ℕ) → IsFile g d q → In n (owned g d q) → n < granules g
  unfolding owned
  owned-lt q n f i =
      let k = Members.each_in (entry_granules g d) n (chain g d q) i in
      let m = members q k.0 f k.1 in
      Places.entry-granule-lt g d k.0 n (entry-at g d c k.0 m.slot m.used) k.2

module _ (g : Geometry) (d : List ℕ) (c : Sound g d) (p : ℕ) (f : IsFile g d p) where
  pub tail-in : In (tail g p d) (chain g d p)
  tail-in = Members.last-in p (chain_head g d c p f.slot)

  -- the last entry of a chain has no next
  pub tail-marker : marker g d (tail g p d) ≡ 0xff
  tail-marker = go (entry-at g d c (tail g p d) member.slot member.used).linked
    where
      member : Member g d p (tail g p d)
      member = members g d c p (tail g p d) f tail-in

      again : Entry.Linked g d (tail g p d) → Entry.Pred g d p (link g d (tail g p d)) (chain g d p) → ⊥
      again l (Entry.Pred.first e) = T_not (extension g d p) (Facts.file-first g d p f) (flags-extension _ (rw e at l.next.flags))
      again l (Entry.Pred.after z j m e) =
          let i = Members.front-in p tail-in j in
          let k = members g d c p z f i in
          Members.front-not-last p (c.once p f) tail-in j (followed z m e l.next (entry-at g d c z k.slot k.used).linked)
        where
          followed : (z : ℕ) → marker g d z ≡ 0xfe → link g d z ≡ link g d (tail g p d) → Entry.Follows g d (tail g p d) (link g d (tail g p d)) →
              (marker g d z ≡ 0xff) ⊎ Entry.Linked g d z → z ≡ tail g p d
          followed z m e w (inl q) = absurd (omega arith)
          followed z m e w (inr q) = sym (rw e at q.next.before) ∙ w.before

      go : (marker g d (tail g p d) ≡ 0xff) ⊎ Entry.Linked g d (tail g p d) → marker g d (tail g p d) ≡ 0xff
      go (inl m) = m
      go (inr l) =
          let y = link g d (tail g p d) in
          let u = flags-used _ l.next.flags in
          let q = c.covered y l.next.slot u in
          let e : p ≡ q.0 = c.chains p q.0 (tail g p d) f q.1 tail-in (before-in g d c q.0 (tail g p d) y q.1 q.2 l.next) in
          absurd (again l (Entry.chain-pred g d p y (subst (λ (r : ℕ). In y (chain g d r)) (sym e) q.2)))

beq-says : (a b : Bool) → T (beq a b) → T b → T a
beq-says true b t u = tt
beq-says false true t u = absurd t
beq-says false false t u = absurd u

-- an entry in use has a HIT byte
pub used-hit : (g : Geometry) (d : List ℕ) → Sound g d → (x : ℕ) → T (is_slot g d x) → T (in_use g d x) → hit g d x ≢ 0
unfolding words
used-hit g d c x t u z = T_not (eqb (hit g d x) 0) (beq-says (not (eqb (hit g d x) 0)) (in_use g d x) (c.hits x t) u) (Members.eq-T z)

pub hit-yes : (g : Geometry) (d : List ℕ) (s : ℕ) → hit g d s ≢ 0 → T (in_use g d s) → T (hit_holds g d s)
unfolding words
hit-yes g d s h u = rw (Members.T_true {b = in_use g d s} u, Members.no_false {b = eqb (hit g d s) 0} (λ t. h (eqb→eq _ _ t))) tt

pub hit-no : (g : Geometry) (d : List ℕ) (s : ℕ) → hit g d s ≡ 0 → (T (in_use g d s) → ⊥) → T (hit_holds g d s)
unfolding words
hit-no g d s h u = rw (Members.no_false {b = in_use g d s} u, h) tt

module _ (g : Geometry) (d d' : List ℕ) (c : Sound g d) (p : ℕ) (h : Change g d d' p) where
  -- an entry in use before, and not the file's own
  agree-used : (x : ℕ) → T (is_slot g d x) → T (in_use g d x) → (In x (entries_of g d p) → ⊥) → Agree g d d' x
  agree-used x t u n = h.agrees x t n (λ i. h.born x i n u)

  pub foreign : (q x : ℕ) → IsFile g d q → q ≢ p → In x (chain g d q) → In x (entries_of g d p) → ⊥
  foreign q x f n i j = let k = entries-in g d p x j in n (c.chains q p x f k.0 i k.1)

  pub spared : (q x : ℕ) → IsFile g d q → q ≢ p → In x (chain g d q) → Agree g d d' x
  spared q x f n i = let m = members g d c q x f i in agree-used x m.slot m.used (foreign q x f n i)

  pub spared-hit : (q x : ℕ) → IsFile g d q → q ≢ p → In x (chain g d q) → hit g d' x ≡ hit g d x
  spared-hit q x f n i = let m = members g d c q x f i in h.hits x m.slot (foreign q x f n i) (λ j. h.born x j (foreign q x f n i) m.used)

  pub spared-first : (q : ℕ) → IsFile g d q → q ≢ p → Agree g d d' q
  spared-first q f n = spared q q f n (chain_head g d c q f.slot)

  pub file-stays : (q : ℕ) → IsFile g d q → q ≢ p → IsFile g d' q
  file-stays q f n = Frame.file-eq g d d' h.above q (spared-first q f n) f

  pub file-was : (q : ℕ) → IsFile g d' q → q ≢ p → IsFile g d q
  file-was q f n = go (Members.in? q (entries_of g d' p)) (Members.in? q (entries_of g d p))
    where
      go : In q (entries_of g d' p) ⊎ (In q (entries_of g d' p) → ⊥) → In q (entries_of g d p) ⊎ (In q (entries_of g d p) → ⊥) → IsFile g d q
      go (inl i) j = let k = entries-in g d' p q i in absurd (T_not (extension g d' q) (Facts.file-first g d' q f) ((h.own k.0).later q k.1 n))
      go (inr i) (inl j) = absurd (h.gone q j i (Facts.file-in-use g d' q f))
      go (inr i) (inr j) = Frame.eq-file g d d' h.above q (h.agrees q (rw (Frame.slot-eq g d d' h.above q) at f.slot) j i) f

  pub chain-stays : (q : ℕ) → IsFile g d q → q ≢ p → chain g d' q ≡ chain g d q
  chain-stays q f n = Frame.chain-eq g d d' h.above q (λ x i. spared q x f n i)

  pub owned-stays : (q : ℕ) → IsFile g d q → q ≢ p → owned g d' q ≡ owned g d q
  owned-stays q f n = Frame.owned-eq g d d' h.above q (λ x i. spared q x f n i)

  pub name-stays : (q : ℕ) → IsFile g d q → q ≢ p → name_of g d' q ≡ name_of g d q
  name-stays q f n = Frame.name_of-eq g d d' q (spared-first q f n)

  pub foreign-granule : (q n : ℕ) → IsFile g d q → q ≢ p → In n (owned g d q) → In n (granules_of g d p) → ⊥
  foreign-granule q n f e i j = let k = granules-in g d p n j in e (c.granules q p n f k.0 i k.1)

  pub foreign-granule' : (q n : ℕ) → IsFile g d q → q ≢ p → In n (owned g d q) → In n (granules_of g d' p) → ⊥
  foreign-granule' q n f e i j = h.fresh n j (foreign-granule q n f e i) (owned-taken g d c q n f i)

  slot-was : (s : ℕ) → T (is_slot g d' s) → T (is_slot g d s)
  slot-was s t = rw (Frame.slot-eq g d d' h.above s) at t

  hits' : (s : ℕ) → T (is_slot g d' s) → T (hit_holds g d' s)
  unfolding words
  hits' s t = go (Members.in? s (entries_of g d' p)) (Members.in? s (entries_of g d p))
    where
      go : In s (entries_of g d' p) ⊎ (In s (entries_of g d' p) → ⊥) → In s (entries_of g d p) ⊎ (In s (entries_of g d p) → ⊥) → T (hit_holds g d' s)
      go (inl i) j = let k = entries-in g d' p s i in hit-yes g d' s (h.nonzero s i) ((h.own k.0).used s k.1)
      go (inr i) (inl j) = hit-no g d' s (h.unhit s j i) (h.gone s j i)
      go (inr i) (inr j) = rw (h.hits s (slot-was s t) j i, h.agrees s (slot-was s t) j i 0 (omega arith)) (c.hits s (slot-was s t))

  entries' : (s : ℕ) → T (is_slot g d' s) → T (in_use g d' s) → T (entry_holds g d' s)
  entries' s t u = go (Members.in? s (entries_of g d' p)) (Members.in? s (entries_of g d p))
    where
      kept : (In s (entries_of g d p) → ⊥) → Agree g d d' s → T (in_use g d s) → Entry.Entry g d' s
      kept j a v =
          let q = c.covered s (slot-was s t) v in
          let n : q.0 ≢ p = λ e. j (rw (entries_of-is g d p (rw e at q.1), ← e) q.2) in
          Frame.entry-eq g d d' s a
          (λ l. Frame.slot-eq g d d' h.above (link g d s))
          (λ l. agree-used (link g d s) l.next.slot (flags-used _ l.next.flags) (λ i.
          let k = entries-in g d p (link g d s) i in j (rw (entries_of-is g d p k.0) (before-in g d c p s (link g d s) k.0 k.1 l.next))))
          (λ m i. let o = granule-owned g d c q.0 s m q.2 i in h.keeps m (Places.entry-granule-lt g d s m (entry-at g d c s (slot-was s t) v) i)
          (foreign-granule q.0 m q.1 n o) (foreign-granule' q.0 m q.1 n o))
          (entry-at g d c s (slot-was s t) v)

      go : In s (entries_of g d' p) ⊎ (In s (entries_of g d' p) → ⊥) → In s (entries_of g d p) ⊎ (In s (entries_of g d p) → ⊥) → T (entry_holds g d' s)
      go (inl i) j = let k = entries-in g d' p s i in Entry.says-entry g d' s ((h.own k.0).entry s k.1)
      go (inr i) (inl j) = absurd (h.gone s j i u)
      go (inr i) (inr j) = let a = h.agrees s (slot-was s t) j i in Entry.says-entry g d' s (kept j a (rw (a 0 (omega arith)) at u))

  file' : (q : ℕ) → IsFile g d' q → T (file_holds g d' q)
  file' q f = go (ℕ_discrete q p)
    where
      go : Dec (q ≡ p) → T (file_holds g d' q)
      go (yes e) = rw e (Entry.says-filed g d' p (h.own (rw e at f)).filed)
      go (no n) = let b = file-was q f n in
          Entry.says-filed g d' q (Frame.filed-eq g d d' h.above q (spared-first q b n) (λ x i. spared q x b n i) (λ x i. spared-hit q x b n i)
          (filed-at g d c q b))

  names' : (q r : ℕ) → IsFile g d' q → IsFile g d' r → name_of g d' q ≡ name_of g d' r → q ≡ r
  names' q r f k e = go (ℕ_discrete q p) (ℕ_discrete r p)
    where
      go : Dec (q ≡ p) → Dec (r ≡ p) → q ≡ r
      go (yes a) (yes b) = a ∙ sym b
      go (yes a) (no b) = let w = file-was r k b in absurd ((h.own (rw a at f)).name r w b (sym (name-stays r w b) ∙ sym e ∙ ap (name_of g d') a))
      go (no a) (yes b) = let w = file-was q f a in absurd ((h.own (rw b at k)).name q w a (sym (name-stays q w a) ∙ e ∙ ap (name_of g d') b))
      go (no a) (no b) = let w = file-was q f a in let v = file-was r k b in c.names q r w v (sym (name-stays q w a) ∙ e ∙ name-stays r v b)

  apart' : (q s : ℕ) → IsFile g d' p → IsFile g d' q → q ≢ p → In s (chain g d' p) → In s (chain g d' q) → ⊥
  apart' q s f k n i j =
      let w = file-was q k n in
      let j' = rw (chain-stays q w n) at j in
      h.born s (rw (entries_of-is g d' p f) i) (foreign q s w n j') (members g d c q s w j').used

  chains' : (q r s : ℕ) → IsFile g d' q → IsFile g d' r → In s (chain g d' q) → In s (chain g d' r) → q ≡ r
  chains' q r s f k i j = go (ℕ_discrete q p) (ℕ_discrete r p)
    where
      go : Dec (q ≡ p) → Dec (r ≡ p) → q ≡ r
      go (yes a) (yes b) = a ∙ sym b
      go (yes a) (no b) = absurd (apart' r s (rw a at f) k b (rw a at i) j)
      go (no a) (yes b) = absurd (apart' q s (rw b at k) f a (rw b at j) i)
      go (no a) (no b) = let w = file-was q f a in let v = file-was r k b in c.chains q r s w v (rw (chain-stays q w a) at i) (rw (chain-stays r v b) at j)

  apart-granules' : (q n : ℕ) → IsFile g d' p → IsFile g d' q → q ≢ p → In n (owned g d' p) → In n (owned g d' q) → ⊥
  apart-granules' q m f k n i j =
      let w = file-was q k n in
      let j' = rw (owned-stays q w n) at j in
      foreign-granule' q m w n j' (rw (granules_of-is g d' p f) i)

  granules' : (q r n : ℕ) → IsFile g d' q → IsFile g d' r → In n (owned g d' q) → In n (owned g d' r) → q ≡ r
  granules' q r s f k i j = go (ℕ_discrete q p) (ℕ_discrete r p)
    where
      go : Dec (q ≡ p) → Dec (r ≡ p) → q ≡ r
      go (yes a) (yes b) = a ∙ sym b
      go (yes a) (no b) = absurd (apart-granules' r s (rw a at f) k b (rw a at i) j)
      go (no a) (yes b) = absurd (apart-granules' q s (rw b at k) f a (rw b at j) i)
      go (no a) (no b) = let w = file-was q f a in let v = file-was r k b in c.granules q r s w v (rw (owned-stays q w a) at i) (rw (owned-stays r v b) at j)

  once' : (q : ℕ) → IsFile g d' q → Distinct (chain g d' q)
  once' q f = go (ℕ_discrete q p)
    where
      go : Dec (q ≡ p) → Distinct (chain g d' q)
      go (yes e) = rw e (h.own (rw e at f)).once
      go (no n) = let w = file-was q f n in rw (chain-stays q w n) (c.once q w)

  single' : (q : ℕ) → IsFile g d' q → Distinct (owned g d' q)
  single' q f = go (ℕ_discrete q p)
    where
      go : Dec (q ≡ p) → Distinct (owned g d' q)
      go (yes e) = rw e (h.own (rw e at f)).single
      go (no n) = let w = file-was q f n in rw (owned-stays q w n) (c.single q w)

  covered' : (s : ℕ) → T (is_slot g d' s) → T (in_use g d' s) → (q : ℕ) × IsFile g d' q × In s (chain g d' q)
  covered' s t u = go (Members.in? s (entries_of g d' p)) (Members.in? s (entries_of g d p))
    where
      kept : (In s (entries_of g d p) → ⊥) → (q : ℕ) × IsFile g d q × In s (chain g d q) → (q : ℕ) × IsFile g d' q × In s (chain g d' q)
      kept j q =
          let n : q.0 ≢ p = λ e. j (rw (entries_of-is g d p (rw e at q.1), ← e) q.2) in
          (q.0, file-stays q.0 q.1 n, rw (chain-stays q.0 q.1 n) q.2)

      go : In s (entries_of g d' p) ⊎ (In s (entries_of g d' p) → ⊥) → In s (entries_of g d p) ⊎ (In s (entries_of g d p) → ⊥) → (q : ℕ) × IsFile g d' q × In s
          (chain g d' q)
      go (inl i) j = let k = entries-in g d' p s i in (p, k.0, k.1)
      go (inr i) (inl j) = absurd (h.gone s j i u)
      go (inr i) (inr j) = kept j (c.covered s (slot-was s t) (rw (h.agrees s (slot-was s t) j i 0 (omega arith)) at u))

  -- a granule of the file afterwards is set
  pub own-taken' : (n : ℕ) → In n (granules_of g d' p) → T (taken g d' n)
  unfolding owned
  own-taken' n i =
      let k = granules-in g d' p n i in
      let x = Members.each_in (entry_granules g d') n (chain g d' p) k.1 in
      ((h.own k.0).entry x.0 x.1).gat n x.2

  directory' : (n : ℕ) → In n (directory_granules g d') → T (taken g d' n)
  directory' n i = go (Members.in? n (granules_of g d' p)) (Members.in? n (granules_of g d p))
    where
      was : In n (directory_granules g d)
      was = rw (Frame.directory-eq g d d' h.above) at i

      go : In n (granules_of g d' p) ⊎ (In n (granules_of g d' p) → ⊥) → In n (granules_of g d p) ⊎ (In n (granules_of g d p) → ⊥) → T (taken g d' n)
      go (inl a) b = own-taken' n a
      go (inr a) (inl b) = absurd (h.off n b was)
      go (inr a) (inr b) = rw (h.keeps n (Places.directory-lt g d n (Places.dir g d c.dir) was) b a) (c.directory n was)

  pub changed : Sound g d'
  unfolding words
  changed = record {
    dir = rw h.above c.dir;
    hits = hits';
    entries = entries';
    file = file';
    names = names';
    chains = chains';
    once = once';
    covered = covered';
    granules = granules';
    single = single';
    directory = directory';
  }
