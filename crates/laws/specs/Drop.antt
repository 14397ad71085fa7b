-- One granule less in the last entry: the last run shorter by one, or gone
use Rattle.std.specs.Prelude.{◌≡◌, ◌≢◌, ◌⊎◌, cond, ℕ, zero, suc, ◌+◌, ◌-◌, ◌*◌, ◌/◌, ◌%◌, ◌≤◌, ◌<◌, length, get_or, eqb}
use Rattle.std.proofs.Math.Path.{ap, ap₂, subst}
use Rattle.std.proofs.Common.{sym, ◌∙◌, inl, inr}
use mathlib.Core.List.{List, [], ◌∷◌, ◌++◌, append_assoc}
use native.Mathlib.Omega.{arith}
use Rattle.std.proofs.Math.Decide.{ℕ_discrete}
use Rattle.std.proofs.Math.ListN.{length-set}
use Rattle.std.proofs.Math.Seq.{get_or-set_same, get_or-set_other}
use Rattle.meaning.specs.Lists.{count, each}
use Rattle.meaning.specs.Layout.{byte, free_granule, field, set_field, entry_at, granules, granule_bytes, slots}
use Rattle.meaning.specs.Chain
use Rattle.meaning.specs.Entries.{size_of, block, run_start, run_length, run_granules, runs, entry_granules}
use Rattle.meaning.specs.Chain.{chain, owned}
use Rattle.meaning.specs.Growth.{tail}
use Rattle.meaning.specs.Entries
use Rattle.meaning.specs.declared.Geometry.{Geometry}
use Rattle.lists.specs.Members
use Rattle.lists.specs.Members.{In}
use Rattle.laws.specs.Facts.{Sound, IsFile}
use Rattle.laws.specs.Entry
use Rattle.laws.specs.Frame
use Rattle.laws.specs.Places
use Rattle.laws.specs.Change
use Rattle.laws.specs.Shrink
use Rattle.laws.specs.Take
use Rattle.laws.specs.Others
use Rattle.laws.specs.Words.{words}

-- a file that owns something has a run in its last entry
module _ (g : Geometry) (d : List ℕ) (c : Sound g d) (p : ℕ) (f : IsFile g d p) where
  has-run : (x n : ℕ) → In n (entry_granules g d x) → 1 ≤ runs g d x
  unfolding entry_granules
  has-run x n i = let k = Members.each_in (run_granules g d x) n (count 0 (runs g d x)) i in omega (arith, Members.count-in k.0 0 (runs g d x) k.1)

  p-front : (z : ℕ) → In z (Members.front (chain g d p)) → In p (Members.front (chain g d p))
  unfolding chain Chain.chain_from Members.front Members.front_of
  p-front z i = go (length (slots g d)) i
    where
      cons : (xs : List ℕ) → In z (Members.front_of p xs) → In p (Members.front_of p xs)
      cons [] i = Members.none_in i
      cons (y ∷ ys) i = Members.In.here

      go : (n : ℕ) → In z (Members.front (Chain.chain_from g d n p)) → In p (Members.front (Chain.chain_from g d n p))
      go zero i = Members.none_in i
      go (suc n) i = cons (cond (eqb (Entries.marker g d p) 0xfe) (Chain.chain_from g d n (Entries.link g d p)) []) i

  pub tail-run : 1 ≤ length (owned g d p) → 1 ≤ runs g d (tail g p d)
  tail-run h = go (ℕ_discrete (tail g p d) p)
    where
      linked : (z : ℕ) → Entries.marker g d z ≡ 0xfe → Entries.link g d z ≡ tail g p d → (Entries.marker g d z ≡ 0xff) ⊎ Entry.Linked g d z → 1 ≤ runs g d
          (tail g p d)
      linked z m l (inl q) = absurd (omega arith)
      linked z m l (inr q) = rw l at q.next.some'

      later : tail g p d ≢ p → Entry.Pred g d p (tail g p d) (chain g d p) → 1 ≤ runs g d (tail g p d)
      later n (Entry.Pred.first q) = absurd (n q)
      later n (Entry.Pred.after z j m l) =
          let k = Change.members g d c p z f (Members.front-in p (Change.tail-in g d c p f) j) in
          linked z m l (Change.entry-at g d c z k.slot k.used).linked

      alone : tail g p d ≡ p → (x : ℕ) → Entry.Pred g d p x (chain g d p) → x ≡ tail g p d
      alone q x (Entry.Pred.first w) = w ∙ sym q
      alone q x (Entry.Pred.after z j m l) = absurd (Members.front-not-last p (c.once p f) (Change.tail-in g d c p f) (p-front z j) (sym q))

      go : Dec (tail g p d ≡ p) → 1 ≤ runs g d (tail g p d)
      go (no n) = later n (Entry.chain-pred g d p (tail g p d) (Change.tail-in g d c p f))
      go (yes q) =
          let i = Others.get_or-in (owned g d p) 0 h in
          let k = Members.each_in (entry_granules g d) (get_or (owned g d p) 0 0) (chain g d p) (unfold owned in i) in
          subst (λ (x : ℕ). 1 ≤ runs g d x) (alone q k.0 (Entry.chain-pred g d p k.0 k.1)) (has-run k.0 _ k.2)

-- Case 1: the last run is shorter by one
module _ (g : Geometry) (d : List ℕ) (c : Sound g d) (k : Places.Fits g d) (p : ℕ) (f : IsFile g d p) (some-run : 1 ≤ runs g d (tail g p d))
    (size : size_of g d p + granule_bytes g ≤ granule_bytes g * length (owned g d p)) where
  abbrev e : ℕ
  e = tail g p d

  abbrev r : ℕ
  r = runs g d e - 1

  abbrev m : ℕ
  m = run_start g d e r + run_length g d e r - 1

  abbrev second : ℕ
  second = field g d e (0x17 + 2 * r)

  member : Change.Member g d p e
  member = Change.members g d c p e f (Change.tail-in g d c p f)

  entry : Entry.Entry g d e
  entry = Change.entry-at g d c e member.slot member.used

  r-lt : r < 4
  r-lt = omega (arith, some-run, Entry.runs-le g d e)

  runs-r : runs g d e ≡ suc r
  runs-r = omega (arith, some-run)

  room : entry_at g e + 32 ≤ length d
  room = let a = Places.dir g d c.dir in let b = Places.slot g d e member.slot in omega (arith, k.long)

  m-lt : m < granules g
  m-lt = omega (arith, (entry.run r (omega (arith, some-run))).inside)

  module _ (long : 1 < run_length g d e r) where
    abbrev d₁ : List ℕ
    d₁ = set_field g d e (0x17 + 2 * r) (second - 1)

    d₁-length : length d₁ ≡ length d
    unfolding words
    d₁-length = length-set d (entry_at g e + (0x17 + 2 * r)) (second - 1)

    d₁-out : (i : ℕ) → i ≢ entry_at g e + (0x16 + 2 * r) → i ≢ entry_at g e + (0x17 + 2 * r) → byte d₁ i ≡ byte d i
    unfolding words
    d₁-out i a b = get_or-set_other d (entry_at g e + (0x17 + 2 * r)) i (second - 1) 0 b

    abbrev d₂ : List ℕ
    d₂ = free_granule g d₁ m

    fixed : (x : ℕ) → x ≢ 0x17 + 2 * r → field g d₂ e x ≡ field g d e x
    unfolding words
    fixed x n = Take.put-field 0 (omega arith) g d c k e member.slot r r-lt d₁ d₁-length d₁-out m m-lt e x
        ∙ get_or-set_other d (entry_at g e + (0x17 + 2 * r)) (entry_at g e + x) (second - 1) 0 (omega arith)

    changed : field g d₂ e (0x17 + 2 * r) ≡ second - 1
    unfolding words
    changed = Take.put-field 0 (omega arith) g d c k e member.slot r r-lt d₁ d₁-length d₁-out m m-lt e (0x17 + 2 * r)
        ∙ get_or-set_same d (entry_at g e + (0x17 + 2 * r)) (second - 1) 0 (omega (arith, room, r-lt))

    runs' : runs g d₂ e ≡ suc r
    runs' = Frame.runs-blocks g d d₂ e (λ x h. fixed (0x16 + 2 * x) (omega arith)) ∙ runs-r

    rg-early : (x : ℕ) → x < r → run_granules g d₂ e x ≡ run_granules g d e x
    rg-early x h = rw (fixed (0x16 + 2 * x) (omega arith), fixed (0x17 + 2 * x) (omega arith))

    start' : run_start g d₂ e r ≡ run_start g d e r
    start' = ap₂ (λ (a b : ℕ). a * g.units + b) (fixed (0x16 + 2 * r) (omega arith)) (ap (λ (y : ℕ). y / 32) changed ∙ omega (arith, long))

    length' : run_length g d e r ≡ suc (run_length g d₂ e r)
    length' = sym (ap suc (ap (λ (y : ℕ). 1 + y % 32) changed) ∙ omega (arith, long))

    rg-last : run_granules g d e r ≡ run_granules g d₂ e r ++ (m ∷ [])
    rg-last = ap₂ count (sym start') length' ∙ Members.count-snoc (run_start g d₂ e r) (run_length g d₂ e r)
        ∙ ap (λ (y : ℕ). run_granules g d₂ e r ++ (y ∷ [])) (omega (arith, start', length'))

    less : entry_granules g d e ≡ entry_granules g d₂ e ++ (m ∷ [])
    less =
        Take.granules-snoc g d e r runs-r
        ∙ ap₂ (λ (a b : List ℕ). a ++ b)
        (sym (Members.each-eq (run_granules g d₂ e) (run_granules g d e) (count 0 r) (λ x i. rg-early x (omega (arith, Members.count-in x 0 r i))))) rg-last
        ∙ sym (append_assoc (each (run_granules g d₂ e) (count 0 r)) (run_granules g d₂ e r) (m ∷ []))
        ∙ ap (λ (l : List ℕ). l ++ (m ∷ [])) (sym (Take.granules-snoc g d₂ e r runs'))

    run' : (x : ℕ) → x < runs g d₂ e → Entry.OnDisk g d₂ e x
    run' x h = go (ℕ_discrete x r)
      where
        go : Dec (x ≡ r) → Entry.OnDisk g d₂ e x
        go (yes q) = let w = entry.run r (omega (arith, some-run)) in
            rw q (record { unit = rw changed (omega (arith, long, w.unit)); inside = rw start' (omega (arith, length', w.inside)) })
        go (no q) =
            let b : x < r = omega (arith, runs') in
            let w = entry.run x (omega (arith, runs-r)) in
            record {
              unit = rw (fixed (0x17 + 2 * x) (omega arith)) w.unit;
              inside = rw (fixed (0x16 + 2 * x) (omega arith), fixed (0x17 + 2 * x) (omega arith)) w.inside;
            }

    pub shorter-shrinks : Shrink.Shrinks g d (free_granule g (set_field g d (tail g p d) (0x17 + 2 * (runs g d (tail g p d) - 1))
        (field g d (tail g p d) (0x17 + 2 * (runs g d (tail g p d) - 1)) - 1)) m) p m
    unfolding words
    shorter-shrinks = record {
      at = record {
        above = Take.put-above 0 (omega arith) g d c k e member.slot r r-lt d₁ d₁-length d₁-out m m-lt;
        agrees = Take.put-agrees 0 (omega arith) g d c k e member.slot r r-lt d₁ d₁-length d₁-out m m-lt;
        hits = Take.put-hits 0 (omega arith) g d c k e member.slot r r-lt d₁ d₁-length d₁-out m m-lt;
        fixed = λ x b o. fixed x (side x o);
        pairs = λ x b q. fixed (0x16 + 2 * x) (omega arith) ∙ entry.pairs x b (omega (arith, runs', runs-r));
        run = run';
        some' = λ n. omega (arith, runs');
      };
      less = less;
      freed = rw (Take.put-digit 0 (omega arith) g d c k e member.slot r r-lt d₁ d₁-length d₁-out m m-lt) (λ t. t);
      keeps = Take.put_keeps 0 (omega arith) g d c k e member.slot r r-lt d₁ d₁-length d₁-out m m-lt;
      same = Take.put_same 0 (omega arith) g d c k e member.slot r r-lt d₁ d₁-length d₁-out m m-lt;
      room = size;
    }
      where
        side : (x : ℕ) → (x < 0x16) ⊎ (0x1e ≤ x) → x ≢ 0x17 + 2 * r
        side x (inl h) = omega arith
        side x (inr h) = omega (arith, r-lt)

  -- Case 2: the last run is gone
  module _ (single : run_length g d e r ≡ 1) (kept : e ≢ p → 1 ≤ r) where
    abbrev q₁ : List ℕ
    q₁ = Take.paired g d e r 0xff 0xff

    q₁-length : length q₁ ≡ length d
    q₁-length = Take.paired-length g d e r 0xff 0xff

    q₁-out : (i : ℕ) → i ≢ entry_at g e + (0x16 + 2 * r) → i ≢ entry_at g e + (0x17 + 2 * r) → byte q₁ i ≡ byte d i
    q₁-out = Take.paired-out g d e r 0xff 0xff

    abbrev q₂ : List ℕ
    q₂ = free_granule g q₁ m

    fixed₂ : (x : ℕ) → x ≢ 0x16 + 2 * r → x ≢ 0x17 + 2 * r → field g q₂ e x ≡ field g d e x
    unfolding words
    fixed₂ = Take.put-fixed 0 (omega arith) g d c k e member.slot r r-lt q₁ q₁-length q₁-out m m-lt

    block₂ : field g q₂ e (0x16 + 2 * r) ≡ 0xff
    unfolding words
    block₂ = Take.put-field 0 (omega arith) g d c k e member.slot r r-lt q₁ q₁-length q₁-out m m-lt e (0x16 + 2 * r) ∙ Take.paired-first g d e r 0xff 0xff
        (omega (arith, room, r-lt))

    runs₂ : runs g q₂ e ≡ r
    runs₂ = Entry.runs-is g q₂ e r (omega (arith, r-lt))
        (λ x h. rw (fixed₂ (0x16 + 2 * x) (omega arith) (omega arith)) (Entry.runs-has g d e x (omega (arith, runs-r)))) (λ h. block₂)

    rg₂ : (x : ℕ) → x < r → run_granules g q₂ e x ≡ run_granules g d e x
    rg₂ x h = rw (fixed₂ (0x16 + 2 * x) (omega arith) (omega arith), fixed₂ (0x17 + 2 * x) (omega arith) (omega arith))

    last₂ : run_granules g d e r ≡ m ∷ []
    last₂ = ap₂ count (omega (arith, single)) single

    less₂ : entry_granules g d e ≡ entry_granules g q₂ e ++ (m ∷ [])
    unfolding entry_granules
    less₂ =
        Take.granules-snoc g d e r runs-r
        ∙ ap₂ (λ (a b : List ℕ). a ++ b)
        (sym (Members.each-eq (run_granules g q₂ e) (run_granules g d e) (count 0 r) (λ x i. rg₂ x (omega (arith, Members.count-in x 0 r i)))) ∙ ap
        (λ (y : ℕ). each (run_granules g q₂ e) (count 0 y)) (sym runs₂)) last₂

    run₂ : (x : ℕ) → x < runs g q₂ e → Entry.OnDisk g q₂ e x
    run₂ x h =
        let b : x < r = omega (arith, runs₂) in
        let w = entry.run x (omega (arith, runs-r)) in
        record {
          unit = rw (fixed₂ (0x17 + 2 * x) (omega arith) (omega arith)) w.unit;
          inside = rw (fixed₂ (0x16 + 2 * x) (omega arith) (omega arith), fixed₂ (0x17 + 2 * x) (omega arith) (omega arith)) w.inside;
        }

    pairs₂ : (x : ℕ) → x < 4 → runs g q₂ e ≤ x → block g q₂ e x ≡ 0xff
    pairs₂ x b h = go (ℕ_discrete x r)
      where
        go : Dec (x ≡ r) → block g q₂ e x ≡ 0xff
        go (yes q) = rw q block₂
        go (no q) = fixed₂ (0x16 + 2 * x) (omega arith) (omega arith) ∙ entry.pairs x b (omega (arith, runs₂, runs-r))

    pub emptied-shrinks : Shrink.Shrinks g d
        (free_granule g (set_field g (set_field g d (tail g p d) (0x16 + 2 * (runs g d (tail g p d) - 1)) 0xff) (tail g p d)
        (0x17 + 2 * (runs g d (tail g p d) - 1)) 0xff) m) p m
    unfolding words
    emptied-shrinks = record {
      at = record {
        above = Take.put-above 0 (omega arith) g d c k e member.slot r r-lt q₁ q₁-length q₁-out m m-lt;
        agrees = Take.put-agrees 0 (omega arith) g d c k e member.slot r r-lt q₁ q₁-length q₁-out m m-lt;
        hits = Take.put-hits 0 (omega arith) g d c k e member.slot r r-lt q₁ q₁-length q₁-out m m-lt;
        fixed = λ x b o. fixed₂ x (side x o) (side' x o);
        pairs = pairs₂;
        run = run₂;
        some' = λ n. omega (arith, runs₂, kept n);
      };
      less = less₂;
      freed = rw (Take.put-digit 0 (omega arith) g d c k e member.slot r r-lt q₁ q₁-length q₁-out m m-lt) (λ t. t);
      keeps = Take.put_keeps 0 (omega arith) g d c k e member.slot r r-lt q₁ q₁-length q₁-out m m-lt;
      same = Take.put_same 0 (omega arith) g d c k e member.slot r r-lt q₁ q₁-length q₁-out m m-lt;
      room = size;
    }
      where
        side : (x : ℕ) → (x < 0x16) ⊎ (0x1e ≤ x) → x ≢ 0x16 + 2 * r
        side x (inl h) = omega arith
        side x (inr h) = omega (arith, r-lt)

        side' : (x : ℕ) → (x < 0x16) ⊎ (0x1e ≤ x) → x ≢ 0x17 + 2 * r
        side' x (inl h) = omega arith
        side' x (inr h) = omega (arith, r-lt)
