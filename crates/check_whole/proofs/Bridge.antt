-- The check by maps answers what "A consistent disk" says.
use mathlib.Core.Path.{◌≡◌, refl, ap, ◌∙◌}
use mathlib.Core.Logic.{◌⊎◌, inl, inr}
use mathlib.Core.List.{List, [], ◌∷◌}
use mathlib.Core.Bool.{Bool, true, false, cond}
use Prim.Native.Nat.{ℕ, zero, suc, ◌≤◌, ◌<◌}
use native.Mathlib.Omega.{arith}
use lib.Dec.{T, eqb, eqb→eq}
use lib.ListN.{get_or}
use borrow.Author.Tests.{eq-eqb, ne_eqb, eqb-true, le-leb, not-true}
use Rattle.meaning.specs.Lists.{every, last_or, all, any}
use Rattle.meaning.specs.Layout.{granules, taken, hit, directory_granules}
use Rattle.meaning.specs.Entries.{block, marker, link, runs, runs_from}
use Rattle.meaning.specs.Chain.{chain_from}
use Rattle.meaning.specs.Consistent.{pairs_hold, follows_by, link_holds_by, runs_hold, gat_holds, entry_holds}
use Rattle.meaning.specs.declared.Geometry.{Geometry}
use Rattle.layout.specs.Room.{Room}
use Rattle.lists.specs.Tests.{all-at, all_yes, all_none, not-no}
use Rattle.check_map.specs.Owners.{shut, GatMap, weight, standing}
use Rattle.check_map.proofs.Standing.{weight-low, weight-in, weight-out, standing-open, open-if}
use Rattle.check_walk.specs.Walk.{goes_on, marker_holds, chain_holds}
use Rattle.check_walk.proofs.WalkSteps.{from-above}
use Rattle.lists.specs.Members
use Rattle.lists.specs.Members.{In}
use Rattle.laws.specs.Entry
use Rattle.check_file.proofs.Directory.{directory-lt}

-- The map ---------------------------------------------------------------------------------------------------------------------

-- what the map says before the first run is taken off it
pub record MapBefore (g : Geometry) (d m : List ℕ) : Type 0 where
  pub taken_in : (n : ℕ) → n < granules g → 1 ≤ get_or m n 0 → T (taken g d n)
  pub off-in : (n : ℕ) → 2 ≤ get_or m n 0 → In n (directory_granules g d) → ⊥
  pub open-one : (n : ℕ) → n < granules g → T (taken g d n) → 1 ≤ get_or m n 0
  pub open-two : (n : ℕ) → n < granules g → T (taken g d n) → (In n (directory_granules g d) → ⊥) → 2 ≤ get_or m n 0

module _ (g : Geometry) (d m : List ℕ) (room : Room g d) (w : GatMap g d m) where
  pub open-taken : (n : ℕ) → n < granules g → shut g.units m n ≡ 0 → T (taken g d n)
  open-taken n l h = go (taken g d n) refl
    where
      go : (b : Bool) → taken g d n ≡ b → T (taken g d n)
      go true e = Members.true-T e
      go false e = absurd (let z = w.shuts n l e in let q : ⊥ = omega arith in q)

  pub directory-taken : ((n : ℕ) → In n (directory_granules g d) → shut g.units m n ≡ 0) → every (taken g d) (directory_granules g d) ≡ true
  directory-taken f = Members.T_true (Members.all-every (taken g d) (directory_granules g d) (λ n i. open-taken n (directory-lt g d room n i) (f n i)))

  pub taken-directory : every (taken g d) (directory_granules g d) ≡ true → (n : ℕ) → In n (directory_granules g d) → shut g.units m n ≡ 0
  taken-directory e n i = w.opens n (directory-lt g d room n i) (Members.T_true {b = taken g d n} (Members.every-all (taken g d) (Members.true-T e) i))

  stands : (n : ℕ) → n < granules g → T (taken g d n) → get_or (standing g d m) n 0 ≡ weight g d n
  stands n l t = standing-open g d m n l (w.opens n l (Members.T_true {b = taken g d n} t))

  pub base : MapBefore g d (standing g d m)
  base =
      record {
        taken_in = λ n l h. open-taken n l (open-if g d m n l h);
        off-in =
            λ n h i.
            let l = directory-lt g d room n i in
            let e = standing-open g d m n l (open-if g d m n l (omega arith)) in let v = weight-in g d n i in omega arith;
        open-one = λ n l t. let e = stands n l t in let v = weight-low g d n in omega arith;
        open-two = λ n l t f. let e = stands n l t in let v = weight-out g d n f in omega arith;
      }

-- The chain -------------------------------------------------------------------------------------------------------------------

module _ (g : Geometry) (d : List ℕ) where
  -- what the walk tested of an entry x in the chain from s on
  pub record Held (h s x : ℕ) : Type 0 where
    pub pairs : pairs_hold g d x ≡ true
    pub runs-hold : runs_hold g d x ≡ true
    pub linked : link_holds_by g d 0x90 x ≡ true
    pub hits : (x ≡ s) ⊎ (hit g d x ≡ h)

  some-run : (t : ℕ) → eqb (block g d t 0) 0xff ≡ false → 1 ≤ runs g d t
  unfolding runs runs_from
  some-run t e = rw e (from-above g d t 3 1)

  goes-follows : (h s : ℕ) → goes_on g d h s ≡ true → follows_by g d 0x90 s (link g d s) ≡ true
  unfolding goes_on follows_by
  goes-follows h s e =
      all_yes (all-at _ e 2) _ ∙ all_yes (all-at _ e 3) _ ∙ all_yes (all-at _ e 4) _
      ∙ all_yes (le-leb _ _ (some-run (link g d s) (not-true (eqb (block g d (link g d s) 0) 0xff) (all-at _ e 5)))) _ ∙ all_none

  goes_first : (h s : ℕ) → goes_on g d h s ≡ true → eqb (marker g d s) 0xfe ≡ true
  unfolding goes_on
  goes_first h s e = all-at _ e 0

  goes-second : (h s : ℕ) → goes_on g d h s ≡ true → eqb (runs g d s) 4 ≡ true
  unfolding goes_on
  goes-second h s e = all-at _ e 1

  goes-hit : (h s : ℕ) → goes_on g d h s ≡ true → eqb (hit g d (link g d s)) h ≡ true
  unfolding goes_on
  goes-hit h s e = all-at _ e 6

  goes-links : (h s : ℕ) → goes_on g d h s ≡ true → all (eqb (marker g d s) 0xfe ∷ follows_by g d 0x90 s (link g d s) ∷ eqb (runs g d s) 4 ∷ []) ≡ true
  goes-links h s e = all_yes (goes_first h s e) _ ∙ all_yes (goes-follows h s e) _ ∙ all_yes (goes-second h s e) _ ∙ all_none

  open-marker : (h s : ℕ) (rest : Bool) → marker_holds g d h s rest ≡ true → T (eqb (marker g d s) 0xff) ⊎ T (all (goes_on g d h s ∷ rest ∷ []))
  unfolding marker_holds
  open-marker h s rest e = Members.any-e (eqb (marker g d s) 0xff) (all (goes_on g d h s ∷ rest ∷ [])) (Members.true-T e)

  marker-links : (h s : ℕ) (rest : Bool) → marker_holds g d h s rest ≡ true → link_holds_by g d 0x90 s ≡ true
  unfolding link_holds_by follows_by
  marker-links h s rest e = Members.T_true (go (open-marker h s rest e))
    where
      go : T (eqb (marker g d s) 0xff) ⊎ T (all (goes_on g d h s ∷ rest ∷ []))
          → T (any (eqb (marker g d s) 0xff ∷ all (eqb (marker g d s) 0xfe ∷ follows_by g d 0x90 s (link g d s) ∷ eqb (runs g d s) 4 ∷ []) ∷ []))
      go (inl t) = Members.any-l (eqb (marker g d s) 0xff) (all (eqb (marker g d s) 0xfe ∷ follows_by g d 0x90 s (link g d s) ∷ eqb (runs g d s) 4 ∷ [])) t
      go (inr t) =
          Members.any-r (eqb (marker g d s) 0xff) (all (eqb (marker g d s) 0xfe ∷ follows_by g d 0x90 s (link g d s) ∷ eqb (runs g d s) 4 ∷ []))
          (Members.true-T (goes-links h s (all-at _ (Members.T_true t) 0)))

  pub chain-says : (h left s x : ℕ) → chain_holds g d h left s ≡ true → In x (chain_from g d left s) → Held h s x
  unfolding chain_holds chain_from
  chain-says h zero s x e i = Members.none_in i
  chain-says h (suc left) s x e i = go (Members.in-cons i) (chain-says h left (link g d s) x)
    where
      rest : List ℕ
      rest = chain_from g d left (link g d s)

      marks : marker_holds g d h s (chain_holds g d h left (link g d s)) ≡ true
      marks = all-at _ e 2

      here : x ≡ s → Held h s x
      here q =
          record {
            pairs = ap (pairs_hold g d) q ∙ all-at _ e 0;
            runs-hold = ap (runs_hold g d) q ∙ all-at _ e 1;
            linked = ap (link_holds_by g d 0x90) q ∙ marker-links h s (chain_holds g d h left (link g d s)) marks;
            hits = inl q;
          }

      further : goes_on g d h s ≡ true → Held h (link g d s) x → Held h s x
      further q k = record { pairs = k.pairs; runs-hold = k.runs-hold; linked = k.linked; hits = inr (at k.hits) }
        where
          at : (x ≡ link g d s) ⊎ (hit g d x ≡ h) → hit g d x ≡ h
          at (inl z) = ap (hit g d) z ∙ eqb-true _ _ (goes-hit h s q)
          at (inr z) = z

      deeper : marker g d s ≡ 0xfe → T (eqb (marker g d s) 0xff) ⊎ T (all (goes_on g d h s ∷ chain_holds g d h left (link g d s) ∷ [])) → In x rest
          → (chain_holds g d h left (link g d s) ≡ true → In x rest → Held h (link g d s) x) → Held h s x
      deeper q (inl t) j r = absurd (let z = eqb→eq (marker g d s) 0xff t in let b : ⊥ = omega arith in b)
      deeper q (inr t) j r = let a = Members.T_true t in further (all-at _ a 0) (r (all-at _ a 1) j)

      into : (b : Bool) → eqb (marker g d s) 0xfe ≡ b → In x (cond b rest []) →
          (chain_holds g d h left (link g d s) ≡ true → In x rest → Held h (link g d s) x) → Held h s x
      into true q j r = deeper (eqb-true _ _ q) (open-marker h s (chain_holds g d h left (link g d s)) marks) j r
      into false q j r = Members.none_in j

      go : (x ≡ s) ⊎ In x (cond (eqb (marker g d s) 0xfe) rest []) → (chain_holds g d h left (link g d s) ≡ true → In x rest → Held h (link g d s) x) → Held h
          s x
      go (inl q) r = here q
      go (inr j) r = into (eqb (marker g d s) 0xfe) refl j r

  -- the other way: every entry is sound and has the file's HIT byte, and the last has no next
  pub record GoodEntry (h x : ℕ) : Type 0 where
    pub entry : Entry.Entry g d x
    pub hits : hit g d x ≡ h

  holds-part : (x k : ℕ) → Entry.Entry g d x → get_or (pairs_hold g d x ∷ link_holds_by g d 0x90 x ∷ runs_hold g d x ∷ gat_holds g d x ∷ []) k true ≡ true
  holds-part x k e = all-at _ (Members.T_true {b = entry_holds g d x} (Entry.says-entry g d x e)) k

  goes : (h s : ℕ) → Entry.Linked g d s → hit g d (link g d s) ≡ h → goes_on g d h s ≡ true
  unfolding goes_on
  goes h s l e =
      all_yes (eq-eqb _ _ l.marked) _ ∙ all_yes (eq-eqb _ _ l.full) _ ∙ all_yes (Members.T_true l.next.slot) _
      ∙ all_yes (eq-eqb _ _ l.next.flags) _ ∙ all_yes (eq-eqb _ _ l.next.before) _
      ∙ all_yes (not-no (ne_eqb _ _ (Entry.runs-has g d (link g d s) 0 l.next.some'))) _ ∙ all_yes (eq-eqb _ _ e) _ ∙ all_none

  marker-ends : (h s : ℕ) (rest : Bool) → marker g d s ≡ 0xff → marker_holds g d h s rest ≡ true
  unfolding marker_holds
  marker-ends h s rest m = Members.T_true (Members.any-l (eqb (marker g d s) 0xff) (all (goes_on g d h s ∷ rest ∷ [])) (Members.eq-T m))

  marker-goes : (h s : ℕ) (rest : Bool) → goes_on g d h s ≡ true → rest ≡ true → marker_holds g d h s rest ≡ true
  unfolding marker_holds
  marker-goes h s rest a b =
      Members.T_true (Members.any-r (eqb (marker g d s) 0xff) (all (goes_on g d h s ∷ rest ∷ [])) (Members.true-T (all_yes a _ ∙ all_yes b _ ∙ all_none)))

  pub says-chain : (h left s : ℕ) → 1 ≤ left → ((x : ℕ) → In x (chain_from g d left s) → GoodEntry h x) → marker g d (last_or s (chain_from g d left s)) ≡ 0xff
      → chain_holds g d h left s ≡ true
  unfolding chain_holds chain_from last_or
  says-chain h zero s l f m = absurd (let z : ⊥ = omega arith in z)
  says-chain h (suc left) s l f m =
      let e = (f s In.here).entry in
      all_yes (holds-part s 0 e) _ ∙ all_yes (holds-part s 2 e) _ ∙ all_yes (on left e.linked f m (says-chain h left (link g d s))) _ ∙ all_none
    where
      Rest : ℕ → Type 0
      Rest left = 1 ≤ left → ((x : ℕ) → In x (chain_from g d left (link g d s)) → GoodEntry h x) → marker g d
          (last_or (link g d s) (chain_from g d left (link g d s))) ≡ 0xff
          → chain_holds g d h left (link g d s) ≡ true

      -- the chain goes on at the link
      next : (left : ℕ) → Entry.Linked g d s → ((x : ℕ) → In x (s ∷ chain_from g d left (link g d s)) → GoodEntry h x) → marker g d
          (last_or s (chain_from g d left (link g d s))) ≡ 0xff → Rest left
          → marker_holds g d h s (chain_holds g d h left (link g d s)) ≡ true
      next zero k f m r = absurd (let q = k.marked in let z : ⊥ = omega arith in z)
      next (suc left) k f m r = marker-goes h s _ (goes h s k (f (link g d s) (In.there In.here)).hits) (r (omega arith) (λ x i. f x (In.there i)) m)

      on : (left : ℕ) → (marker g d s ≡ 0xff) ⊎ Entry.Linked g d s →
          ((x : ℕ) → In x (s ∷ cond (eqb (marker g d s) 0xfe) (chain_from g d left (link g d s)) []) → GoodEntry h x)
          → marker g d (last_or s (cond (eqb (marker g d s) 0xfe) (chain_from g d left (link g d s)) [])) ≡ 0xff → Rest left → marker_holds g d h s
          (chain_holds g d h left (link g d s)) ≡ true
      on left (inl q) f m r = marker-ends h s _ q
      on left (inr k) f m r = next left k (rw (eq-eqb _ _ k.marked) at f) (rw (eq-eqb _ _ k.marked) at m) r
