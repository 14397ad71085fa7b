-- Kill and bring back: what a kill leaves is whole, and brought back it is the very image; where none of the file's slots was written in
-- between, its entries are what they were
use Rattle.std.specs.Prelude.{◌≡◌, refl, ◌≢◌, ◌⊎◌, Bool, not, length, T}
use Rattle.std.proofs.Math.Path.{ap, sym}
use Rattle.std.proofs.Common.{◌∙◌, inl, inr, arith}
use Rattle.std.proofs.Math.Bool.{true, false, cond}
use mathlib.Core.List.{List, [], ◌∷◌}
use Prim.Native.Nat.{ℕ, zero, suc, ◌≤◌, ◌<◌}
use Rattle.std.proofs.Math.Decide.{ℕ_discrete, dec_lt}
use Rattle.std.proofs.Math.Dec.{eqb, eqb→eq}
use Rattle.meaning.specs.Lists.{each, last_or}
use Rattle.meaning.specs.Layout.{is_slot, slots, field, hit}
use Rattle.meaning.specs.Bits.{digit, put_digit}
use Rattle.meaning.specs.Names.{hash}
use Rattle.meaning.specs.Entries.{system, name_of, marker, link, entry_granules}
use Rattle.meaning.specs.Chain.{chain, chain_from, owned}
use Rattle.meaning.specs.Kill.{killed}
use Rattle.meaning.specs.BringBack.{brought_back}
use Rattle.meaning.specs.declared.Geometry.{Geometry}
use Rattle.lists.specs.Members
use Rattle.lists.specs.Members.{In}
use Rattle.laws.specs.Bits
use Rattle.laws.specs.Facts
use Rattle.laws.specs.Facts.{IsFile, Sound}
use Rattle.laws.specs.Entry
use Rattle.laws.specs.Frame
use Rattle.laws.specs.Frame.{Agree}
use Rattle.laws.specs.Places
use Rattle.laws.specs.Change
use Rattle.laws.specs.Marking
use Rattle.laws.specs.Kill
use Rattle.laws.specs.BringBack
use Rattle.laws.specs.BringBack.{Killed, Whole, Back}
use Rattle.laws.specs.Words.{words}

now-killed : put_digit 0x90 4 0 ≡ 0x80
unfolding put_digit
now-killed = refl

module _ (g : Geometry) (d : List ℕ) (c : Sound g d) (k : Places.Fits g d) (p : ℕ) (f : IsFile g d p) where
  -- the disk after the kill
  abbrev gone : List ℕ
  gone = Marking.marking g 0 0 d (owned g d p) (chain g d p)

  marks : Marking.Marks g d 0 (owned g d p) (chain g d p)
  marks = Kill.kill-marks g d c k p f

  head : In p (chain g d p)
  head = Change.chain_head g d c p f.slot

  chain₁ : chain g gone p ≡ chain g d p
  chain₁ = Marking.file-chain g d 0 0 p f.slot marks

  owned₁ : owned g gone p ≡ owned g d p
  owned₁ = Marking.file-owned g d 0 0 p f.slot marks

  name₁ : name_of g gone p ≡ name_of g d p
  name₁ = Marking.file-name g d 0 0 p f.slot marks

  member : (x : ℕ) → In x (chain g d p) → Change.Member g d p x
  member x i = Change.members g d c p x f i

  used : (x : ℕ) → In x (chain g d p) → digit (field g d x 0) 4 ≡ 1
  used x i = eqb→eq (digit (field g d x 0) 4) 1 (member x i).used

  killed-entry : (x : ℕ) → In x (chain g d p) → Killed g gone x
  killed-entry x i =
      let e = Change.entry-at g d c x (member x i).slot (member x i).used in
      let a = Marking.file-tail g d 0 0 p f.slot marks x i in
      record {
        pairs = Frame.pairs_next g d gone x (Frame.tail-pairs g d gone x a) e.pairs;
        linked = Frame.linked-next g d gone 0x90 0x80 x a next e.linked;
        run = Frame.run-next g d gone x (Frame.tail-pairs g d gone x a) e.run;
      }
    where
      next : Entry.Linked g d x → Entry.FollowsBy g gone 0x80 x (link g d x)
      next l = rw now-killed at (Marking.file-next g d 0 0 p f.slot marks 0x90 x i
          (Change.chain_next g d p x (λ y j. (member y j).slot) (c.once p f) i l.marked l.next.slot) l)

  killed-whole : Whole g gone p
  killed-whole =
      let o = Change.filed-at g d c p f in
      record {
        first = rw (Marking.file-flag g d 0 0 p f.slot marks p 7 head (omega arith)) (Facts.file-first g d p f);
        name = rw name₁ o.name;
        zero' = rw (Marking.file-flag g d 0 0 p f.slot marks p 5 head (omega arith)) o.zero';
        entries = λ x i. killed-entry x (rw chain₁ at i);
        once = rw chain₁ (c.once p f);
        single = rw owned₁ (c.single p f);
        count' = rw (Marking.file-end g d 0 0 p f.slot marks, Marking.file-low g d 0 0 p f.slot marks, Marking.file-high g d 0 0 p f.slot marks)
            o.count';
        fits = rw (Marking.file-size g d 0 0 p f.slot marks, owned₁) o.fits;
      }

  -- what bring back tests, on the disk after the kill of a file that is no system file
  pub killed-back : T (not (system g d p)) → Back g (killed g d p) p
  unfolding Marking.marking words
  killed-back u = record {
    slot = Marking.file-slot g d 0 0 p f.slot marks p head;
    dead = Kill.kill-gone g d c k p f p head;
    user = rw (Marking.file-flag g d 0 0 p f.slot marks p 6 head (omega arith)) u;
    whole' = killed-whole;
    new = other;
    free = λ n i. Kill.kill-freed g d c k p f n (rw owned₁ at i);
  }
    where
      other : (q : ℕ) → IsFile g gone q → name_of g gone q ≢ name_of g gone p
      other q h e = go (ℕ_discrete q p)
        where
          x : Change.Change g d (killed g d p) p
          x = Kill.kill-change g d c k p f u

          go : Dec (q ≡ p) → ⊥
          go (yes s) = Kill.no-file g d c k p f (rw s at h)
          go (no n) = let v = Change.file-was g d (killed g d p) c p x q h n in
              n (c.names q p v f (sym (Change.name-stays g d (killed g d p) c p x q v n) ∙ e ∙ name₁))

  pub killed-chain : chain g (killed g d p) p ≡ chain g d p
  unfolding Marking.marking words
  killed-chain = chain₁

  pub killed-owned : owned g (killed g d p) p ≡ owned g d p
  unfolding Marking.marking words
  killed-owned = owned₁

  -- nothing written in between
  pub undone : brought_back g (killed g d p) p ≡ d
  unfolding Marking.marking words
  undone =
      rw (name₁, owned₁, chain₁)
      (Marking.unmark g d (hash (name_of g d p)) (owned g d p) (chain g d p) marks (λ n i. Change.owned-taken g d c p n f i) used
      (λ x i. (Change.filed-at g d c p f).hashes x i))

-- Chains that end by their markers: the bound does not matter ---------------------------------------------------------------------------

module _ (g : Geometry) (d : List ℕ) where
  stop : (n m s : ℕ) → 1 ≤ n → n ≤ m → marker g d (last_or s (chain_from g d n s)) ≡ 0xff → chain_from g d m s ≡ chain_from g d n s
  unfolding chain_from last_or
  stop zero m s a b e = absurd (omega arith)
  stop (suc n) zero s a b e = absurd (omega arith)
  stop (suc n) (suc m) s a b e = go n (Members.decide (eqb (marker g d s) 0xfe)) (omega arith) e (stop n m (link g d s))
    where
      go : (n : ℕ) → Members.Test (eqb (marker g d s) 0xfe) → n ≤ m → marker g d (last_or s (cond (eqb (marker g d s) 0xfe) (chain_from g d n (link g d s)) []))
          ≡ 0xff
          → (1 ≤ n → n ≤ m → marker g d (last_or (link g d s) (chain_from g d n (link g d s))) ≡ 0xff → chain_from g d m (link g d s) ≡ chain_from g d n
          (link g d s))
          → s ∷ cond (eqb (marker g d s) 0xfe) (chain_from g d m (link g d s)) [] ≡ s ∷ cond (eqb (marker g d s) 0xfe) (chain_from g d n (link g d s)) []
      go n (Members.Test.fails t) l e r = rw (Members.no_false {b = eqb (marker g d s) 0xfe} t)
      go zero (Members.Test.holds t) l e r = absurd (omega (arith, eqb→eq (marker g d s) 0xfe t, rw (Members.T_true {b = eqb (marker g d s) 0xfe} t) at e))
      go (suc n) (Members.Test.holds t) l e r = rw (r (omega arith) l (rw (Members.T_true {b = eqb (marker g d s) 0xfe} t) at e))

  longer : (n m s x : ℕ) → n ≤ m → In x (chain_from g d n s) → In x (chain_from g d m s)
  unfolding chain_from
  longer zero m s x h i = Members.none_in i
  longer (suc n) zero s x h i = absurd (omega arith)
  longer (suc n) (suc m) s x h i = go (Members.in-cons i) (longer n m (link g d s) x (omega arith))
    where
      into : (b : Bool) → In x (cond b (chain_from g d n (link g d s)) []) → (In x (chain_from g d n (link g d s)) → In x (chain_from g d m (link g d s)))
          → In x (s ∷ cond b (chain_from g d m (link g d s)) [])
      into true i r = Members.In.there (r i)
      into false i r = Members.none_in i

      go : (x ≡ s) ⊎ In x (cond (eqb (marker g d s) 0xfe) (chain_from g d n (link g d s)) []) →
          (In x (chain_from g d n (link g d s)) → In x (chain_from g d m (link g d s)))
          → In x (s ∷ cond (eqb (marker g d s) 0xfe) (chain_from g d m (link g d s)) [])
      go (inl e) r = Members.head_in _ e
      go (inr i) r = into (eqb (marker g d s) 0xfe) i r

  first-in : (n s : ℕ) → 1 ≤ n → In s (chain_from g d n s)
  unfolding chain_from
  first-in zero s h = absurd (omega arith)
  first-in (suc n) s h = Members.In.here

same_from : (g : Geometry) (d d' : List ℕ) (p n m : ℕ) → 1 ≤ n → 1 ≤ m
    → ((x : ℕ) → In x (chain_from g d n p) → (marker g d' x ≡ marker g d x) × (link g d' x ≡ link g d x))
    → marker g d (last_or p (chain_from g d n p)) ≡ 0xff → marker g d' (last_or p (chain_from g d' m p)) ≡ 0xff → chain_from g d' m p ≡ chain_from g d n p
same_from g d d' p n m b b' a e e' = go (dec_lt m n)
  where
    go : Dec (m < n) → chain_from g d' m p ≡ chain_from g d n p
    go (no l) =
        let q = Frame.chain_from-eq g d d' n p a in
        let o : marker g d' (last_or p (chain_from g d' n p)) ≡ 0xff = rw q ((a _ (Members.last-in p (first-in g d n p b))).0 ∙ e) in
        stop g d' n m p b (omega arith) o ∙ q
    go (yes l) =
        let q = Frame.chain_from-eq g d d' m p (λ x i. a x (longer g d m n p x (omega arith) i)) in
        let o : marker g d (last_or p (chain_from g d m p)) ≡ 0xff =
        sym (a _ (longer g d m n p _ (omega arith) (Members.last-in p (first-in g d m p b')))).0 ∙ ap (λ (xs : List ℕ). marker g d' (last_or p xs)) (sym q) ∙
        e' in
        q ∙ sym (stop g d m n p b' (omega arith) o)

-- Two disks, be their directories as long as they may: where the entries of the one's chain have the same markers and links on the other,
-- and both chains end by their markers, they are one.
same-chain : (g : Geometry) (d d' : List ℕ) (p : ℕ) → T (is_slot g d p) → T (is_slot g d' p)
    → ((x : ℕ) → In x (chain g d p) → (marker g d' x ≡ marker g d x) × (link g d' x ≡ link g d x))
    → marker g d (last_or p (chain g d p)) ≡ 0xff → marker g d' (last_or p (chain g d' p)) ≡ 0xff → chain g d' p ≡ chain g d p
unfolding chain
same-chain g d d' p t t' a e e' =
    same_from g d d' p (length (slots g d)) (length (slots g d')) (Change.in-length (Facts.in-slots g d p t)) (Change.in-length (Facts.in-slots g d' p t')) a
    e e'

-- None of its slots written in between ----------------------------------------------------------------------------------------------------

-- the file at p has on d' the entries that it has on d, byte by byte, with their HIT bytes, and the same granules
pub record AsBefore (g : Geometry) (d d' : List ℕ) (p : ℕ) : Type 0 where
  pub chain' : chain g d' p ≡ chain g d p
  pub owned' : owned g d' p ≡ owned g d p
  pub entries : (x : ℕ) → In x (chain g d p) → Agree g d d' x
  pub hits : (x : ℕ) → In x (chain g d p) → hit g d' x ≡ hit g d x

module _ (g : Geometry) (d : List ℕ) (c : Sound g d) (k : Places.Fits g d) (p : ℕ) (f : IsFile g d p)
    (e : List ℕ) (c₂ : Sound g e) (k₂ : Places.Fits g e) (w : Back g e p) (a : (x : ℕ) → In x (chain g d p) → Agree g (killed g d p) e x) where
  -- the disk with the file brought back
  abbrev later : List ℕ
  later = Marking.marking g 1 (hash (name_of g e p)) e (owned g e p) (chain g e p)

  byte₂ : (x j : ℕ) → In x (chain g d p) → 1 ≤ j → j < 32 → field g e x j ≡ field g d x j
  unfolding Marking.marking words
  byte₂ x j i l b = a x i j b ∙ Marking.file-byte g d 0 0 p f.slot (Kill.kill-marks g d c k p f) x j i l b

  flags₂ : (x : ℕ) → In x (chain g d p) → field g e x 0 ≡ put_digit (field g d x 0) 4 0
  unfolding Marking.marking words
  flags₂ x i = a x i 0 (omega arith) ∙ Marking.file-flags g d 0 0 p f.slot (Kill.kill-marks g d c k p f) x i

  tail₂ : (x : ℕ) → In x (chain g d p) → Frame.Tail g d e x
  tail₂ x i j l b = byte₂ x j i (omega arith) b

  -- the file is whole on the disk afterwards, so its chain ends by its marker; and so it did before
  chain₂ : chain g e p ≡ chain g d p
  chain₂ =
      same-chain g d e p f.slot w.slot (λ x i. (tail₂ x i 0x1e (omega arith) (omega arith), tail₂ x i 0x1f (omega arith) (omega arith)))
      (Change.tail-marker g d c p f) ended
    where
      after : Sound g later
      after = Change.changed g e later c₂ p (BringBack.back-change g e c₂ k₂ p w)

      in-chain : In (last_or p (chain g e p)) (chain g e p)
      in-chain = Members.last-in p (Change.chain_head g e c₂ p w.slot)

      ended : marker g e (last_or p (chain g e p)) ≡ 0xff
      ended = sym (BringBack.back-byte g e c₂ k₂ p w _ 0x1e in-chain (omega arith) (omega arith)) ∙
          (rw (BringBack.back-chain g e c₂ k₂ p w) at (Change.tail-marker g later after p (BringBack.back-file g e c₂ k₂ p w)))

  owned₂ : owned g e p ≡ owned g d p
  unfolding owned
  owned₂ = ap (each (entry_granules g e)) chain₂ ∙ Members.each-eq (entry_granules g e) (entry_granules g d) (chain g d p)
      (λ x i. Frame.granules-tail g d e x (tail₂ x i))

  name₂ : name_of g e p ≡ name_of g d p
  name₂ = Frame.name_of-bytes g d e p (λ j l b. byte₂ p j (head g d c k p f) (omega arith) (omega arith))

  here : (x : ℕ) → In x (chain g d p) → In x (chain g e p)
  here x i = rw chain₂ i

  byte₃ : (x j : ℕ) → In x (chain g d p) → j < 32 → field g later x j ≡ field g d x j
  byte₃ x zero i b = BringBack.back-flags g e c₂ k₂ p w x (here x i) ∙ ap (λ (n : ℕ). put_digit n 4 1) (flags₂ x i) ∙ Bits.put_back (field g d x 0) 4
      (used g d c k p f x i)
  byte₃ x (suc j) i b = BringBack.back-byte g e c₂ k₂ p w x (suc j) (here x i) (omega arith) b ∙ byte₂ x (suc j) i (omega arith) b

  pub as_before : AsBefore g d (brought_back g e p) p
  unfolding Marking.marking words
  as_before = record {
    chain' = BringBack.back-chain g e c₂ k₂ p w ∙ chain₂;
    owned' = BringBack.back-owned g e c₂ k₂ p w ∙ owned₂;
    entries = λ x i j b. byte₃ x j i b;
    hits = λ x i. BringBack.back-hit g e c₂ k₂ p w x (here x i) ∙ ap hash name₂ ∙ sym ((Change.filed-at g d c p f).hashes x i);
  }
