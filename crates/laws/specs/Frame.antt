-- What is read of an entry, and of a file, hangs only on the bytes of its entries
use Rattle.std.specs.Prelude.{◌≡◌, ◌⊎◌, Bool, true, false, cond, length, eqb}
use Rattle.std.proofs.Math.Path.{refl, ap}
use Rattle.std.proofs.Common.{◌∙◌, inl, inr, arith}
use mathlib.Core.List.{List, [], ◌∷◌}
use Prim.Native.Nat.{ℕ, zero, suc, ◌+◌, ◌*◌, ◌%◌, ◌≤◌, ◌<◌}
use Rattle.std.proofs.Math.Dec.{ltb}
use Rattle.meaning.specs.Lists.{count, all}
use Rattle.meaning.specs.Layout.{is_slot, slots, taken, field, hit, directory_granules, above_ten}
use Rattle.meaning.specs.Entries.{block, marker, link, runs, runs_from, run_granules, entry_granules, name_of}
use Rattle.meaning.specs.Chain.{chain, chain_from, owned}
use Rattle.meaning.specs.declared.Geometry.{Geometry}
use Rattle.lists.specs.Members
use Rattle.laws.specs.Facts.{IsFile}
use Rattle.laws.specs.Entry
use Rattle.laws.specs.Words.{words}

-- the entry at s is the same in both
abbrev pub Agree : Geometry → List ℕ → List ℕ → ℕ → Type 0
Agree g d d' s = (k : ℕ) → k < 32 → field g d' s k ≡ field g d s k

module _ (g : Geometry) (d d' : List ℕ) where
  runs_from-eq : (s k n : ℕ) → ((j : ℕ) → j < 4 → block g d' s j ≡ block g d s j) → k + n ≤ 4 → runs_from g d' s n k ≡ runs_from g d s n k
  unfolding runs_from
  runs_from-eq s k zero a h = refl
  runs_from-eq s k (suc n) a h = rw (a k (omega arith), runs_from-eq s (k + 1) n a (omega arith))

  pub runs-blocks : (s : ℕ) → ((j : ℕ) → j < 4 → block g d' s j ≡ block g d s j) → runs g d' s ≡ runs g d s
  unfolding runs
  runs-blocks s a = runs_from-eq s 0 4 a (omega arith)

  pub runs-eq : (s : ℕ) → Agree g d d' s → runs g d' s ≡ runs g d s
  runs-eq s a = runs-blocks s (λ j h. a (0x16 + 2 * j) (omega arith))

  -- the four pairs of an entry are the same
  abbrev pub Pairs : ℕ → Type 0
  Pairs s = (k : ℕ) → 0x16 ≤ k → k < 0x1e → field g d' s k ≡ field g d s k

  pub runs-pairs : (s : ℕ) → Pairs s → runs g d' s ≡ runs g d s
  runs-pairs s a = runs-blocks s (λ j h. a (0x16 + 2 * j) (omega arith) (omega arith))

  pub run_granules-pairs : (s k : ℕ) → Pairs s → k < 4 → run_granules g d' s k ≡ run_granules g d s k
  run_granules-pairs s k a h = rw (a (0x16 + 2 * k) (omega arith) (omega arith), a (0x17 + 2 * k) (omega arith) (omega arith))

  pub entry_granules-pairs : (s : ℕ) → Pairs s → entry_granules g d' s ≡ entry_granules g d s
  unfolding entry_granules
  entry_granules-pairs s a = rw (runs-pairs s a)
      (Members.each-eq (run_granules g d' s) (run_granules g d s) (count 0 (runs g d s))
      (λ k i. run_granules-pairs s k a (omega (arith, Members.count-in k 0 (runs g d s) i, Entry.runs-le g d s))))

  pub entry_granules-eq : (s : ℕ) → Agree g d d' s → entry_granules g d' s ≡ entry_granules g d s
  entry_granules-eq s a = entry_granules-pairs s (λ j b h. a j (omega arith))

  pub name_of-bytes : (s : ℕ) → ((k : ℕ) → 5 ≤ k → k < 16 → field g d' s k ≡ field g d s k) → name_of g d' s ≡ name_of g d s
  unfolding name_of
  name_of-bytes s a = Members.map-eq (field g d' s) (field g d s) (count 5 11) (λ k i. let r = Members.count-in k 5 11 i in a k r.0 (omega (arith, r)))

  pub name_of-eq : (s : ℕ) → Agree g d d' s → name_of g d' s ≡ name_of g d s
  name_of-eq s a = name_of-bytes s (λ k b h. a k (omega arith))

  cond-eq : (b : Bool) (xs ys : List ℕ) → (((x : ℕ) → Members.In x xs → Members.In x (cond b xs [])) → ys ≡ xs) → cond b ys [] ≡ cond b xs []
  cond-eq true xs ys f = f (λ x i. i)
  cond-eq false xs ys f = refl

  pub chain_from-eq : (n s : ℕ) → ((x : ℕ) → Members.In x (chain_from g d n s) → (marker g d' x ≡ marker g d x) × (link g d' x ≡ link g d x))
      → chain_from g d' n s ≡ chain_from g d n s
  unfolding chain_from
  chain_from-eq zero s a = refl
  chain_from-eq (suc n) s a =
      rw ((a s Members.In.here).0, (a s Members.In.here).1)
      (ap {B = List ℕ} (λ l. s ∷ l) (cond-eq (eqb (marker g d s) 0xfe) (chain_from g d n (link g d s)) _
      (λ f. chain_from-eq n (link g d s) (λ x i. a x (Members.In.there (f x i))))))

  -- of an extension, marker and link apart
  pub follows-low : (s x : ℕ) → is_slot g d' x ≡ is_slot g d x → ((k : ℕ) → k < 0x1e → field g d' x k ≡ field g d x k) → Entry.Follows g d s x → Entry.Follows g
      d' s x
  follows-low s x e a f = record {
    slot = rw e f.slot;
    flags = a 0 (omega arith) ∙ f.flags;
    before = a 1 (omega arith) ∙ f.before;
    some' = rw (runs-pairs x (λ k i. a k)) f.some';
  }

  pub follows-eq : (s x : ℕ) → is_slot g d' x ≡ is_slot g d x → Agree g d d' x → Entry.Follows g d s x → Entry.Follows g d' s x
  follows-eq s x e a f = follows-low s x e (λ k h. a k (omega arith)) f

  -- pairs, marker and link are the same
  abbrev pub Tail : ℕ → Type 0
  Tail s = (k : ℕ) → 0x16 ≤ k → k < 32 → field g d' s k ≡ field g d s k

  pub tail-pairs : (s : ℕ) → Tail s → Pairs s
  tail-pairs s a k b h = a k b (omega arith)

  pub runs-tail : (s : ℕ) → Tail s → runs g d' s ≡ runs g d s
  runs-tail s a = runs-pairs s (tail-pairs s a)

  pub granules-tail : (s : ℕ) → Tail s → entry_granules g d' s ≡ entry_granules g d s
  granules-tail s a = entry_granules-pairs s (tail-pairs s a)

  pub pairs_next : (s : ℕ) → Pairs s → ((k : ℕ) → k < 4 → runs g d s ≤ k → block g d s k ≡ 0xff) → (k : ℕ) → k < 4 → runs g d' s ≤ k → block g d' s k ≡ 0xff
  pairs_next s a h k b r = a (0x16 + 2 * k) (omega arith) (omega arith) ∙ h k b (rw (runs-pairs s a) at r)

  pub run-next : (s : ℕ) → Pairs s → ((k : ℕ) → k < runs g d s → Entry.OnDisk g d s k) → (k : ℕ) → k < runs g d' s → Entry.OnDisk g d' s k
  run-next s a h k r =
      let q = h k (rw (runs-pairs s a) at r) in
      let b : k < 4 = omega (arith, Entry.runs-le g d' s) in
      record {
        unit = rw (a (0x17 + 2 * k) (omega arith) (omega arith)) q.unit;
        inside = rw (a (0x16 + 2 * k) (omega arith) (omega arith), a (0x17 + 2 * k) (omega arith) (omega arith)) q.inside;
      }

  -- still followed, by an extension of the same flags or of others
  pub linked-next : (flags flags' s : ℕ) → Tail s → (Entry.LinkedBy g d flags s → Entry.FollowsBy g d' flags' s (link g d s))
      → (marker g d s ≡ 0xff) ⊎ Entry.LinkedBy g d flags s → (marker g d' s ≡ 0xff) ⊎ Entry.LinkedBy g d' flags' s
  linked-next flags flags' s a l (inl m) = inl (a 0x1e (omega arith) (omega arith) ∙ m)
  linked-next flags flags' s a l (inr m) =
      inr (record {
        marked = a 0x1e (omega arith) (omega arith) ∙ m.marked;
        next = rw (a 0x1f (omega arith) (omega arith)) (l m);
        full = runs-tail s a ∙ m.full;
      })

  -- an entry whose bytes and whose GAT bits are the same, and which is still followed
  pub entry_next : (s : ℕ) → Agree g d d' s → (Entry.Linked g d s → Entry.Follows g d' s (link g d s))
      → ((n : ℕ) → Members.In n (entry_granules g d s) → taken g d' n ≡ taken g d n) → Entry.Entry g d s → Entry.Entry g d' s
  entry_next s a l t h =
      let b : Tail s = λ k i j. a k j in
      record {
        pairs = pairs_next s (tail-pairs s b) h.pairs;
        linked = linked-next 0x90 0x90 s b l h.linked;
        run = run-next s (tail-pairs s b) h.run;
        gat = λ n i. let j = rw (entry_granules-eq s a) at i in rw (t n j) (h.gat n j);
      }

  pub entry-eq : (s : ℕ) → Agree g d d' s → (Entry.Linked g d s → is_slot g d' (link g d s) ≡ is_slot g d (link g d s))
      → (Entry.Linked g d s → Agree g d d' (link g d s)) → ((n : ℕ) → Members.In n (entry_granules g d s) → taken g d' n ≡ taken g d n)
      → Entry.Entry g d s → Entry.Entry g d' s
  entry-eq s a e l t h = entry_next s a (λ m. follows-eq s (link g d s) (e m) (l m) m.next) t h

  module _ (above : above_ten g d' ≡ above_ten g d) where
    pub slot-eq : (s : ℕ) → is_slot g d' s ≡ is_slot g d s
    unfolding words
    slot-eq s = ap (λ (x : ℕ). all (ltb s 256 ∷ ltb (s % 32 + 2) (10 + x) ∷ [])) above

    pub slots-eq : slots g d' ≡ slots g d
    unfolding slots
    slots-eq = Members.keep-eq (is_slot g d') (is_slot g d) (count 0 256) (λ s i. slot-eq s)

    pub directory-eq : directory_granules g d' ≡ directory_granules g d
    unfolding words
    directory-eq = rw above

    pub chain-links : (p : ℕ) → ((x : ℕ) → Members.In x (chain g d p) → (marker g d' x ≡ marker g d x) × (link g d' x ≡ link g d x)) → chain g d' p ≡ chain g
        d p
    unfolding chain
    chain-links p a = rw slots-eq (chain_from-eq (length (slots g d)) p a)

    pub chain-eq : (p : ℕ) → ((x : ℕ) → Members.In x (chain g d p) → Agree g d d' x) → chain g d' p ≡ chain g d p
    chain-eq p a = chain-links p (λ x i. (a x i 0x1e (omega arith), a x i 0x1f (omega arith)))

    pub owned-eq : (p : ℕ) → ((x : ℕ) → Members.In x (chain g d p) → Agree g d d' x) → owned g d' p ≡ owned g d p
    unfolding owned
    owned-eq p a = rw (chain-eq p a) (Members.each-eq (entry_granules g d') (entry_granules g d) (chain g d p) (λ x i. entry_granules-eq x (a x i)))

    pub file-eq : (p : ℕ) → Agree g d d' p → IsFile g d p → IsFile g d' p
    file-eq p a f = record { slot = rw (slot-eq p) f.slot; primary' = rw (a 0 (omega arith)) f.primary' }

    pub eq-file : (p : ℕ) → Agree g d d' p → IsFile g d' p → IsFile g d p
    eq-file p a f = record { slot = rw (slot-eq p) at f.slot; primary' = rw (a 0 (omega arith)) at f.primary' }

    pub filed-eq : (p : ℕ) → Agree g d d' p → ((x : ℕ) → Members.In x (chain g d p) → Agree g d d' x)
        → ((x : ℕ) → Members.In x (chain g d p) → hit g d' x ≡ hit g d x) → Entry.Filed g d p → Entry.Filed g d' p
    unfolding words
    filed-eq p b a h f = record {
      name = rw (name_of-eq p b) f.name;
      zero' = rw (b 0 (omega arith)) f.zero';
      hashes = λ s i. let j = rw (chain-eq p a) at i in rw (h s j, name_of-eq p b) (f.hashes s j);
      count' = rw (b 3 (omega arith), b 0x14 (omega arith), b 0x15 (omega arith)) f.count';
      fits = rw (b 3 (omega arith), b 0x14 (omega arith), b 0x15 (omega arith), owned-eq p a) f.fits;
      off = rw (b 0 (omega arith), owned-eq p a, above) f.off;
    }
