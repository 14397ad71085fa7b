-- What the tests of one entry and of one file say, opened
use Rattle.std.specs.Prelude.{◌≡◌, ◌≢◌, ◌⊎◌, Bool, ◌||◌}
use Rattle.std.proofs.Math.Path.{refl}
use Rattle.std.proofs.Common.{ap, sym, ◌∙◌, subst, lt→ltb, nltb→le}
use Rattle.std.proofs.Math.Logic.{inl, inr}
use Rattle.std.proofs.Math.Bool.{true, false, not, cond}
use mathlib.Core.List.{List, [], ◌∷◌}
use Prim.Native.Nat.{ℕ, zero, suc, ◌+◌, ◌*◌, ◌≤◌, ◌<◌}
use native.Mathlib.Omega.{arith}
use Rattle.std.proofs.Math.Decide.{ℕ_discrete}
use Rattle.std.proofs.Math.ListN.{length}
use Rattle.std.proofs.Math.Dec.{T, eqb, leb, eqb→eq, T_not, not_T, ltb, ltb→lt, leb→le, le→leb}
use Rattle.meaning.specs.Lists.{count, every, has, all}
use Rattle.meaning.specs.Layout.{is_slot, taken, field, granules, hit, directory_granules, granule_bytes}
use Rattle.meaning.specs.Bits.{bit}
use Rattle.meaning.specs.Names.{hash, well_formed}
use Rattle.meaning.specs.Entries.{system, block, marker, link, runs, runs_from, first_unit, run_start, run_length, entry_granules, name_of, size_of}
use Rattle.meaning.specs.Entries.{sector_count}
use Rattle.meaning.specs.Entries.{end_byte}
use Rattle.meaning.specs.Chain.{chain, chain_from, owned}
use Rattle.meaning.specs.Consistent.{pairs_hold, follows_by, link_holds_by, runs_hold, gat_holds, entry_holds, hash_holds, off_directory, file_holds}
use Rattle.meaning.specs.declared.Geometry.{Geometry}
use Rattle.lists.specs.Members
use Rattle.laws.specs.Words.{words}

-- x follows s as an extension whose byte 00 is this
pub record FollowsBy (g : Geometry) (d : List ℕ) (byte00 s x : ℕ) : Type 0 where
  pub slot : T (is_slot g d x)
  pub flags : field g d x 0 ≡ byte00
  pub before : field g d x 1 ≡ s
  pub some' : 1 ≤ runs g d x

pub record LinkedBy (g : Geometry) (d : List ℕ) (byte00 s : ℕ) : Type 0 where
  pub marked : marker g d s ≡ 0xfe
  pub next : FollowsBy g d byte00 s (link g d s)
  pub full : runs g d s ≡ 4

-- in use: byte 00 of an extension is 90H
abbrev pub Follows : Geometry → List ℕ → ℕ → ℕ → Type 0
Follows g d s x = FollowsBy g d 0x90 s x

abbrev pub Linked : Geometry → List ℕ → ℕ → Type 0
Linked g d s = LinkedBy g d 0x90 s

pub record OnDisk (g : Geometry) (d : List ℕ) (s k : ℕ) : Type 0 where
  pub unit : first_unit g d s k < g.units
  pub inside : run_start g d s k + run_length g d s k ≤ granules g

pub record Entry (g : Geometry) (d : List ℕ) (s : ℕ) : Type 0 where
  pub pairs : (k : ℕ) → k < 4 → runs g d s ≤ k → block g d s k ≡ 0xff
  pub linked : (marker g d s ≡ 0xff) ⊎ Linked g d s
  pub run : (k : ℕ) → k < runs g d s → OnDisk g d s k
  pub gat : (n : ℕ) → Members.In n (entry_granules g d s) → T (taken g d n)

pub record Filed (g : Geometry) (d : List ℕ) (p : ℕ) : Type 0 where
  pub name : T (well_formed (name_of g d p))
  pub zero' : T (not (bit 5 (field g d p 0)))
  pub hashes : (s : ℕ) → Members.In s (chain g d p) → hit g d s ≡ hash (name_of g d p)
  pub count' : sector_count g d p ≡ 0 → end_byte g d p ≡ 0
  pub fits : size_of g d p ≤ granule_bytes g * length (owned g d p)
  pub off : T (not (system g d p)) → (n : ℕ) → Members.In n (owned g d p) → Members.In n (directory_granules g d) → ⊥

ruleset parts = (Members.and_l, Members.and_r)

module _ (g : Geometry) (d : List ℕ) where
  pub runs_from-le : (s k n : ℕ) → runs_from g d s n k ≤ k + n
  unfolding runs_from
  runs_from-le s k zero = omega arith
  runs_from-le s k (suc n) = go (eqb (block g d s k) 0xff) (runs_from-le s (k + 1) n)
    where
      go : (b : Bool) → runs_from g d s n (k + 1) ≤ k + 1 + n → cond b k (runs_from g d s n (k + 1)) ≤ k + suc n
      go true h = omega arith
      go false h = omega arith

  pub runs-le : (s : ℕ) → runs g d s ≤ 4
  unfolding runs
  runs-le s = runs_from-le s 0 4

  runs_from-is : (s k left r : ℕ) → k ≤ r → r ≤ k + left → ((j : ℕ) → k ≤ j → j < r → block g d s j ≢ 0xff) → (r < k + left → block g d s r ≡ 0xff) → runs_from
      g d s left k ≡ r
  unfolding runs_from
  runs_from-is s k zero r a b f e = omega arith
  runs_from-is s k (suc left) r a b f e = go (ℕ_discrete k r)
      (λ l. runs_from-is s (k + 1) left r l (omega arith) (λ j m. f j (omega arith)) (λ m. e (omega arith)))
    where
      go : Dec (k ≡ r) → (k + 1 ≤ r → runs_from g d s left (k + 1) ≡ r) → cond (eqb (block g d s k) 0xff) k (runs_from g d s left (k + 1)) ≡ r
      go (yes q) ih = rw (q, e (omega arith))
      go (no q) ih = rw (Members.no_false {b = eqb (block g d s k) 0xff} (λ t. f k (omega arith) (omega arith) (eqb→eq _ _ t))) (ih (omega arith))

  -- as many runs as there are blocks before the first FFH
  pub runs-is : (s r : ℕ) → r ≤ 4 → ((j : ℕ) → j < r → block g d s j ≢ 0xff) → (r < 4 → block g d s r ≡ 0xff) → runs g d s ≡ r
  unfolding runs
  runs-is s r b f e = runs_from-is s 0 4 r (omega arith) (omega arith) (λ j m. f j) (λ l. e (omega arith))

  runs_from-has : (s k left j : ℕ) → k ≤ j → j < runs_from g d s left k → block g d s j ≢ 0xff
  unfolding runs_from
  runs_from-has s k zero j a b = absurd (omega arith)
  runs_from-has s k (suc left) j a b = go (Members.decide (eqb (block g d s k) 0xff)) (ℕ_discrete k j) (runs_from-has s (k + 1) left j)
    where
      go : Members.Test (eqb (block g d s k) 0xff) → Dec (k ≡ j) → (k + 1 ≤ j → j < runs_from g d s left (k + 1) → block g d s j ≢ 0xff) → block g d s j ≢ 0xff
      go (Members.Test.holds t) q ih = absurd (omega (arith, rw (Members.T_true {b = eqb (block g d s k) 0xff} t) at b))
      go (Members.Test.fails t) (yes q) ih = rw (← q) (λ m. t (Members.eq-T m))
      go (Members.Test.fails t) (no q) ih = ih (omega arith) (rw (Members.no_false {b = eqb (block g d s k) 0xff} t) at b)

  pub runs-has : (s j : ℕ) → j < runs g d s → block g d s j ≢ 0xff
  unfolding runs
  runs-has s j b = runs_from-has s 0 4 j (omega arith) b

  -- what it is to follow
  pub follows-says : (flags s x : ℕ) → T (follows_by g d flags s x) → FollowsBy g d flags s x
  unfolding words
  follows-says flags s x t =
      let a : T (is_slot g d x) = search parts depth 5 in
      let b : T (eqb (field g d x 0) flags) = search parts depth 5 in
      let c : T (eqb (field g d x 1) s) = search parts depth 5 in
      let e : T (leb 1 (runs g d x)) = search parts depth 5 in
      record { slot = a; flags = eqb→eq _ _ b; before = eqb→eq _ _ c; some' = leb→le _ _ e }

  pub says-follows : (flags s x : ℕ) → FollowsBy g d flags s x → T (follows_by g d flags s x)
  unfolding words
  says-follows flags s x f =
      let a : T (is_slot g d x) = f.slot in
      let b : T (eqb (field g d x 0) flags) = Members.eq-T f.flags in
      let c : T (eqb (field g d x 1) s) = Members.eq-T f.before in
      let e : T (leb 1 (runs g d x)) = le→leb _ _ f.some' in
      search Members.and_i depth 5

  -- what a marker and its link say
  abbrev goes : ℕ → ℕ → Bool
  goes flags s = all (eqb (marker g d s) 0xfe ∷ follows_by g d flags s (link g d s) ∷ eqb (runs g d s) 4 ∷ [])

  pub links-say : (flags s : ℕ) → T (link_holds_by g d flags s) → (marker g d s ≡ 0xff) ⊎ LinkedBy g d flags s
  unfolding words
  links-say flags s ls = links (Members.any-e (eqb (marker g d s) 0xff) (goes flags s) ls)
    where
      links : T (eqb (marker g d s) 0xff) ⊎ T (goes flags s) → (marker g d s ≡ 0xff) ⊎ LinkedBy g d flags s
      links (inl t) = inl (eqb→eq _ _ t)
      links (inr t) =
          let m : T (eqb (marker g d s) 0xfe) = search parts depth 5 in
          let f : T (follows_by g d flags s (link g d s)) = search parts depth 5 in
          let r : T (eqb (runs g d s) 4) = search parts depth 5 in
          inr (record { marked = eqb→eq _ _ m; next = follows-says flags s (link g d s) f; full = eqb→eq _ _ r })

  pub say-links : (flags s : ℕ) → (marker g d s ≡ 0xff) ⊎ LinkedBy g d flags s → T (link_holds_by g d flags s)
  unfolding words
  say-links flags s (inl m) = Members.any-l (eqb (marker g d s) 0xff) (goes flags s) (Members.eq-T m)
  say-links flags s (inr l) =
      let m : T (eqb (marker g d s) 0xfe) = Members.eq-T l.marked in
      let f : T (follows_by g d flags s (link g d s)) = says-follows flags s (link g d s) l.next in
      let r : T (eqb (runs g d s) 4) = Members.eq-T l.full in
      let a : T (goes flags s) = search Members.and_i depth 5 in
      Members.any-r (eqb (marker g d s) 0xff) (goes flags s) a

  -- what the pairs say
  pub pairs-say : (s : ℕ) → T (pairs_hold g d s) → (k : ℕ) → k < 4 → runs g d s ≤ k → block g d s k ≡ 0xff
  unfolding words
  pairs-say s ps k h l = pair (Members.or-e (ltb k (runs g d s)) _
      (Members.every-all (λ k. ltb k (runs g d s) || eqb (block g d s k) 0xff) ps (Members.in_count k 0 4 (omega arith) (omega arith))))
    where
      pair : T (ltb k (runs g d s)) ⊎ T (eqb (block g d s k) 0xff) → block g d s k ≡ 0xff
      pair (inl t) = absurd (omega (arith, ltb→lt k (runs g d s) t))
      pair (inr t) = eqb→eq _ _ t

  pub say-pairs : (s : ℕ) → ((k : ℕ) → k < 4 → runs g d s ≤ k → block g d s k ≡ 0xff) → T (pairs_hold g d s)
  unfolding words
  say-pairs s f = Members.all-every (λ k. ltb k (runs g d s) || eqb (block g d s k) 0xff) (count 0 4)
      (λ k i. pair k (Members.count-in k 0 4 i).1 (Members.decide (ltb k (runs g d s))))
    where
      pair : (k : ℕ) → k < 0 + 4 → Members.Test (ltb k (runs g d s)) → T (ltb k (runs g d s) || eqb (block g d s k) 0xff)
      pair k h (Members.Test.holds t) = Members.or_l (ltb k (runs g d s)) _ t
      pair k h (Members.Test.fails e) = Members.or_r (ltb k (runs g d s)) _
          (Members.eq-T (f k (omega arith) (nltb→le k (runs g d s) (not_T (ltb k (runs g d s)) e))))

  -- what the runs say
  pub runs-say : (s : ℕ) → T (runs_hold g d s) → (k : ℕ) → k < runs g d s → OnDisk g d s k
  unfolding words
  runs-say s rs k h =
      let r = Members.every-all (λ k. all (ltb (first_unit g d s k) g.units ∷ leb (run_start g d s k + run_length g d s k) (granules g) ∷ [])) rs
      (Members.in_count k 0 (runs g d s) (omega arith) (omega arith)) in
      record {
        unit = ltb→lt _ _ (Members.and_l (ltb (first_unit g d s k) g.units) _ r);
        inside = leb→le _ _
            (Members.all-second (ltb (first_unit g d s k) g.units) (leb (run_start g d s k + run_length g d s k) (granules g)) r);
      }

  pub say-runs : (s : ℕ) → ((k : ℕ) → k < runs g d s → OnDisk g d s k) → T (runs_hold g d s)
  unfolding words
  say-runs s f = Members.all-every (λ k. all (ltb (first_unit g d s k) g.units ∷ leb (run_start g d s k + run_length g d s k) (granules g) ∷ []))
      (count 0 (runs g d s)) (λ k i.
      let r = f k (omega (arith, Members.count-in k 0 (runs g d s) i)) in
      Members.all_two (ltb (first_unit g d s k) g.units) (leb (run_start g d s k + run_length g d s k) (granules g)) (lt→ltb _ _ r.unit)
      (le→leb _ _ r.inside))

  pub entry : (s : ℕ) → T (entry_holds g d s) → Entry g d s
  unfolding words
  entry s t =
      let ps : T (pairs_hold g d s) = search parts depth 5 in
      let ls : T (link_holds_by g d 0x90 s) = search parts depth 5 in
      let rs : T (runs_hold g d s) = search parts depth 5 in
      let gs : T (gat_holds g d s) = search parts depth 5 in
      record { pairs = pairs-say s ps; linked = links-say 0x90 s ls; run = runs-say s rs; gat = λ n i. Members.every-all (taken g d) gs i }

  pub says-entry : (s : ℕ) → Entry g d s → T (entry_holds g d s)
  unfolding words
  says-entry s e =
      let ps : T (pairs_hold g d s) = say-pairs s e.pairs in
      let ls : T (link_holds_by g d 0x90 s) = say-links 0x90 s e.linked in
      let rs : T (runs_hold g d s) = say-runs s e.run in
      let gs : T (gat_holds g d s) = Members.all-every (taken g d) (entry_granules g d s) e.gat in
      search Members.and_i depth 5

  pub filed : (p : ℕ) → T (file_holds g d p) → Filed g d p
  unfolding words
  filed p t =
      let a : T (well_formed (name_of g d p)) = search parts depth 8 in
      let b : T (not (bit 5 (field g d p 0))) = search parts depth 8 in
      let c : T (hash_holds g d p) = search parts depth 8 in
      let e : T (not (eqb (sector_count g d p) 0) || eqb (end_byte g d p) 0) = search parts depth 8 in
      let f : T (leb (size_of g d p) (granule_bytes g * length (owned g d p))) = search parts depth 8 in
      let o : T (off_directory g d p) = search parts depth 8 in
      record {
        name = a;
        zero' = b;
        hashes = λ s i. eqb→eq _ _ (Members.every-all (λ s. eqb (hit g d s) (hash (name_of g d p))) c i);
        count' = λ q. eqb→eq _ _ (Members.if-or (eqb (sector_count g d p) 0) _ e (Members.eq-T q));
        fits = leb→le _ _ f;
        off = λ u n i j. away u (Members.any-e (system g d p) (every (λ n. not (has (directory_granules g d) n)) (owned g d p)) o) n i j;
      }
    where
      away : T (not (system g d p)) → T (system g d p) ⊎ T (every (λ n. not (has (directory_granules g d) n)) (owned g d p))
          → (n : ℕ) → Members.In n (owned g d p) → Members.In n (directory_granules g d) → ⊥
      away u (inl t) n i j = T_not (system g d p) u t
      away u (inr t) n i j = T_not (has (directory_granules g d) n) (Members.every-all (λ n. not (has (directory_granules g d) n)) t i) (Members.in-has j)

  pub says-filed : (p : ℕ) → Filed g d p → T (file_holds g d p)
  unfolding words
  says-filed p f =
      let a : T (well_formed (name_of g d p)) = f.name in
      let b : T (not (bit 5 (field g d p 0))) = f.zero' in
      let c : T (hash_holds g d p) = Members.all-every (λ s. eqb (hit g d s) (hash (name_of g d p))) (chain g d p) (λ s i. Members.eq-T (f.hashes s i)) in
      let e : T (not (eqb (sector_count g d p) 0) || eqb (end_byte g d p) 0) = Members.or-if (eqb (sector_count g d p) 0) _
      (λ t. Members.eq-T (f.count' (eqb→eq _ _ t))) in
      let h : T (leb (size_of g d p) (granule_bytes g * length (owned g d p))) = le→leb _ _ f.fits in
      let o : T (off_directory g d p) = away (Members.decide (system g d p)) in
      search Members.and_i depth 8
    where
      away : Members.Test (system g d p) → T (off_directory g d p)
      away (Members.Test.holds t) = Members.any-l (system g d p) (every (λ n. not (has (directory_granules g d) n)) (owned g d p)) t
      away (Members.Test.fails u) = Members.any-r (system g d p) (every (λ n. not (has (directory_granules g d) n)) (owned g d p))
          (Members.all-every (λ n. not (has (directory_granules g d) n)) (owned g d p)
          (λ n i. not_T (has (directory_granules g d) n) (λ t. f.off (not_T (system g d p) u) n i (Members.has_in n (directory_granules g d) t))))

  -- Chains: each entry but the first is linked to by one before it
  pub data Pred (p y : ℕ) (xs : List ℕ) : Type 0 where
    first : y ≡ p → Pred p y xs
    after : (x : ℕ) → Members.In x (Members.front xs) → marker g d x ≡ 0xfe → link g d x ≡ y → Pred p y xs

  pub chain_from-pred : (n p y : ℕ) → Members.In y (chain_from g d n p) → Pred p y (chain_from g d n p)
  unfolding chain_from Members.front
  chain_from-pred zero p y i = Members.none_in i
  chain_from-pred (suc n) p y i = go (Members.in-cons i) (chain_from-pred n (link g d p) y)
    where
      rest : List ℕ
      rest = chain_from g d n (link g d p)

      deeper : T (eqb (marker g d p) 0xfe) → Members.In y rest → Pred (link g d p) y rest → Pred p y (p ∷ cond (eqb (marker g d p) 0xfe) rest [])
      deeper t i (first e) = after p (rw (Members.T_true {b = eqb (marker g d p) 0xfe} t) (Members.front-here p i)) (eqb→eq _ _ t) (sym e)
      deeper t i (after x j m l) = after x (rw (Members.T_true {b = eqb (marker g d p) 0xfe} t) (Members.front-there p rest j)) m l

      into : (b : Bool) → eqb (marker g d p) 0xfe ≡ b → Members.In y (cond b rest []) → (Members.In y rest → Pred (link g d p) y rest) → Pred p y
          (p ∷ cond (eqb (marker g d p) 0xfe) rest [])
      into true e i r = deeper (Members.true-T e) i (r i)
      into false e i r = Members.none_in i

      go : (y ≡ p) ⊎ Members.In y (cond (eqb (marker g d p) 0xfe) rest []) → (Members.In y rest → Pred (link g d p) y rest) → Pred p y
          (p ∷ cond (eqb (marker g d p) 0xfe) rest [])
      go (inl e) r = first e
      go (inr i) r = into (eqb (marker g d p) 0xfe) refl i r

  pub chain-pred : (p y : ℕ) → Members.In y (chain g d p) → Pred p y (chain g d p)
  unfolding chain
  chain-pred p y i = chain_from-pred _ p y i

  -- The next of an entry is in the chain too, unless the walk ended by its bound.
  pub chain_from-next : (n p x : ℕ) → Members.In x (chain_from g d n p) → marker g d x ≡ 0xfe → Members.In (link g d x) (chain_from g d n p) ⊎
      (length (chain_from g d n p) ≡ n)
  unfolding chain_from
  chain_from-next zero p x i m = inr refl
  chain_from-next (suc n) p x i m = go (Members.in-cons i) (chain_from-next n (link g d p) x)
    where
      rest : List ℕ
      rest = chain_from g d n (link g d p)

      head : (n : ℕ) → Members.In (link g d p) (p ∷ chain_from g d n (link g d p)) ⊎ (length (p ∷ chain_from g d n (link g d p)) ≡ suc n)
      head zero = inr refl
      head (suc n) = inl (Members.In.there Members.In.here)

      deeper : Members.In (link g d x) rest ⊎ (length rest ≡ n) → Members.In (link g d x) (p ∷ rest) ⊎ (length (p ∷ rest) ≡ suc n)
      deeper (inl j) = inl (Members.In.there j)
      deeper (inr e) = inr (ap suc e)

      into : (b : Bool) → Members.In x (cond b rest []) → (Members.In x rest → marker g d x ≡ 0xfe → Members.In (link g d x) rest ⊎ (length rest ≡ n))
          → Members.In (link g d x) (p ∷ cond b rest []) ⊎ (length (p ∷ cond b rest []) ≡ suc n)
      into true j r = deeper (r j m)
      into false j r = Members.none_in j

      go : (x ≡ p) ⊎ Members.In x (cond (eqb (marker g d p) 0xfe) rest []) →
          (Members.In x rest → marker g d x ≡ 0xfe → Members.In (link g d x) rest ⊎ (length rest ≡ n))
          → Members.In (link g d x) (p ∷ cond (eqb (marker g d p) 0xfe) rest []) ⊎ (length (p ∷ cond (eqb (marker g d p) 0xfe) rest []) ≡ suc n)
      go (inl e) r = rw (e, Members.T_true {b = eqb (marker g d p) 0xfe} (Members.eq-T (sym (ap (marker g d) e) ∙ m))) (head n)
      go (inr j) r = into (eqb (marker g d p) 0xfe) j r

  -- A chain whose links hold, and whose first entry no link leads to, meets no entry twice: its extensions point back.
  once-from : (byte00 n s : ℕ) → ((x : ℕ) → Members.In x (chain_from g d n s) → (marker g d x ≡ 0xff) ⊎ LinkedBy g d byte00 x)
      → ((x : ℕ) → Members.In x (chain_from g d n s) → marker g d x ≡ 0xfe → link g d x ≢ s) → Members.Distinct (chain_from g d n s)
  unfolding chain_from
  once-from byte00 zero s h f = Members.Distinct.done
  once-from byte00 (suc n) s h f = go (Members.decide (eqb (marker g d s) 0xfe)) (once-from byte00 n (link g d s))
    where
      rest : List ℕ
      rest = chain_from g d n (link g d s)

      back : (x : ℕ) → marker g d x ≡ 0xfe → (marker g d x ≡ 0xff) ⊎ LinkedBy g d byte00 x → field g d (link g d x) 1 ≡ x
      back x m (inl e) = absurd (omega arith)
      back x m (inr l) = l.next.before

      go : Members.Test (eqb (marker g d s) 0xfe)
          → (((x : ℕ) → Members.In x rest → (marker g d x ≡ 0xff) ⊎ LinkedBy g d byte00 x) →
          ((x : ℕ) → Members.In x rest → marker g d x ≡ 0xfe → link g d x ≢ link g d s) → Members.Distinct rest)
          → Members.Distinct (s ∷ cond (eqb (marker g d s) 0xfe) rest [])
      go (Members.Test.fails t) r = rw (Members.no_false {b = eqb (marker g d s) 0xfe} t)
          (Members.Distinct.fresh (λ i. Members.none_in i) Members.Distinct.done)
      go (Members.Test.holds t) r =
          rw e (Members.Distinct.fresh not_in (r (λ x i. h x (later x i)) (λ x i m q.
          not_in (subst (λ (y : ℕ). Members.In y rest) (sym (back x m (h x (later x i))) ∙ ap (λ (y : ℕ). field g d y 1) q ∙ back s marked
          (h s Members.In.here)) i))))
        where
          e : eqb (marker g d s) 0xfe ≡ true
          e = Members.T_true t

          marked : marker g d s ≡ 0xfe
          marked = eqb→eq _ _ t

          later : (x : ℕ) → Members.In x rest → Members.In x (s ∷ cond (eqb (marker g d s) 0xfe) rest [])
          later x i = rw e (Members.In.there i)

          not_in : Members.In s rest → ⊥
          not_in i = twice (chain_from-pred n (link g d s) s i)
            where
              twice : Pred (link g d s) s rest → ⊥
              twice (first q) = f s Members.In.here marked (sym q)
              twice (after x j m l) = f x (later x (Members.front-in s i j)) m l

  pub links-once : (byte00 p : ℕ) → ((x : ℕ) → Members.In x (chain g d p) → (marker g d x ≡ 0xff) ⊎ LinkedBy g d byte00 x) → field g d p 0 ≢ byte00 →
      Members.Distinct (chain g d p)
  unfolding chain
  links-once byte00 p h n = once-from byte00 _ p h (λ x i m e. at x e m (h x i))
    where
      at : (x : ℕ) → link g d x ≡ p → marker g d x ≡ 0xfe → (marker g d x ≡ 0xff) ⊎ LinkedBy g d byte00 x → ⊥
      at x e m (inl q) = absurd (omega arith)
      at x e m (inr l) = n (ap (λ (y : ℕ). field g d y 0) (sym e) ∙ l.next.flags)
