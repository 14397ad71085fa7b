-- Granules before and after one of them is taken, and runs in another order
use Rattle.std.specs.Prelude.{◌≡◌, refl, ◌⊎◌, List, [], ◌∷◌, ◌++◌, ℕ, suc, length}
use Rattle.std.proofs.Common.{ap, sym, ◌∙◌, inl, inr, arith, length-append}
use Rattle.std.proofs.Math.Decide.{ℕ_discrete}
use Rattle.meaning.specs.Lists.{count}
use Rattle.lists.specs.Members
use Rattle.lists.specs.Members.{In, Distinct}
use Rattle.laws_choice.specs.Parts
use Rattle.meaning.specs.Choice.{State, Run, granules_of, Sized, Free, Granules}
use Rattle.laws_choice.specs.Words.{Takes}

-- One granule taken ------------------------------------------------------------------------------------------------------

module _ (granules : ℕ) {v v' : State} {m : ℕ} (t : Takes granules v v' m) where
  pub free-before : (n : ℕ) → Free granules v' n → Free granules v n × (n ≡ m → ⊥)
  free-before n f = go (ℕ_discrete n m)
    where
      go : Dec (n ≡ m) → Free granules v n × (n ≡ m → ⊥)
      go (yes e) = absurd (let z : ◌≡◌ {A = ℕ} 0 1 = cc (ap v'.taken e, t.now, f.clear) in omega arith)
      go (no a) = (record { inside = f.inside; clear = sym (t.keeps n f.inside a) ∙ f.clear }, a)

  pub free-after : (n : ℕ) → Free granules v n → (n ≡ m → ⊥) → Free granules v' n
  free-after n f a = record { inside = f.inside; clear = t.keeps n f.inside a ∙ f.clear }

  -- free ones afterwards, and the one taken, were free before
  pub with_it : {ns : List ℕ} {k : ℕ} → Granules granules v' ns k → Granules granules v (m ∷ ns) (suc k)
  with_it {ns} g = record {
    free = λ n i. go n (Members.in-cons i);
    once = Members.Distinct.fresh (λ i. (free-before m (g.free m i)).1 refl) g.once;
    many = ap suc g.many;
  }
    where
      go : (n : ℕ) → (n ≡ m) ⊎ In n ns → Free granules v n
      go n (inl e) = rw e t.free
      go n (inr i) = (free-before n (g.free n i)).0

  -- free ones before, without the one taken, are free afterwards
  pub other : {ns : List ℕ} {k : ℕ} → (In m ns → ⊥) → Granules granules v ns k → Granules granules v' ns k
  other a g = record {
    free = λ n i. free-after n (g.free n i) (λ e. a (rw e at i));
    once = g.once;
    many = g.many;
  }

-- all but the first
pub rest_of : (granules : ℕ) {v : State} {n : ℕ} {ns : List ℕ} {k : ℕ} → Granules granules v (n ∷ ns) (suc k) → Granules granules v ns k
rest_of granules g = record {
  free = λ i j. g.free i (Members.In.there j);
  once = Parts.distinct_tail g.once;
  many = let e = g.many in omega arith;
}

pub without-it : (granules : ℕ) {v v' : State} {m : ℕ} → Takes granules v v' m → {ns : List ℕ} {k : ℕ} → Granules granules v (m ∷ ns) (suc k) → Granules
    granules v' ns k
without-it granules t g = other granules t (Parts.distinct_head g.once) (rest_of granules g)

-- One run in front -------------------------------------------------------------------------------------------------------

-- r is one of the runs, and these are the others
pub data Pick (r : Run) : List Run → List Run → Type 0 where
  here : {rs : List Run} → Pick r (r ∷ rs) rs
  there : {q : Run} {rs rest : List Run} → Pick r rs rest → Pick r (q ∷ rs) (q ∷ rest)

pub pick-length : {r : Run} {rs rest : List Run} → Pick r rs rest → length rs ≡ suc (length rest)
pick-length here = refl
pick-length (there p) = ap suc (pick-length p)

pub pick-sized : (limit : ℕ) {r : Run} {rs rest : List Run} → Pick r rs rest → Sized limit rs → Sized limit (r ∷ rest)
pick-sized limit here s = s
pick-sized limit (there p) s = let w = pick-sized limit p s.2 in (w.0, w.1, (s.0, s.1, w.2))

pub pick-in : {r : Run} {rs rest : List Run} → Pick r rs rest → (n : ℕ) → In n (granules_of (r ∷ rest)) → In n (granules_of rs)
pick-in here n i = i
pick-in {r} (there {q = q} {rs = rs} {rest = rest} p) n i = go (Members.append-in n (count r.first r.many) (granules_of (q ∷ rest)) i) (pick-in p n)
  where
    own : List ℕ
    own = count q.first q.many

    next : In n own ⊎ In n (granules_of rest) → (In n (granules_of (r ∷ rest)) → In n (granules_of rs)) → In n (own ++ granules_of rs)
    next (inl j) ih = Members.in-append-l (granules_of rs) j
    next (inr j) ih = Members.in-append-r own (ih (Members.in-append-r (count r.first r.many) j))

    go : In n (count r.first r.many) ⊎ In n (granules_of (q ∷ rest)) → (In n (granules_of (r ∷ rest)) → In n (granules_of rs)) → In n
        (own ++ granules_of rs)
    go (inl j) ih = Members.in-append-r own (ih (Members.in-append-l (granules_of rest) j))
    go (inr j) ih = next (Members.append-in n own (granules_of rest) j) ih

pub pick-long : {r : Run} {rs rest : List Run} → Pick r rs rest → length (granules_of (r ∷ rest)) ≡ length (granules_of rs)
pick-long here = refl
pick-long {r} (there {q = q} {rs = rs} {rest = rest} p) =
    let a = length-append (count r.first r.many) (granules_of (q ∷ rest)) in
    let b = length-append (count q.first q.many) (granules_of rest) in
    let c = length-append (count q.first q.many) (granules_of rs) in
    let d = length-append (count r.first r.many) (granules_of rest) in
    omega (arith, pick-long p)

pub pick-once : {r : Run} {rs rest : List Run} → Pick r rs rest → Distinct (granules_of rs) → Distinct (granules_of (r ∷ rest))
pick-once here d = d
pick-once {r} (there {q = q} {rs = rs} {rest = rest} p) d = go (pick-once p (Members.distinct-r own (granules_of rs) d))
  where
    mine : List ℕ
    mine = count r.first r.many

    own : List ℕ
    own = count q.first q.many

    apart : Distinct (mine ++ granules_of rest) → (n : ℕ) → In n mine → In n own ⊎ In n (granules_of rest) → ⊥
    apart later n i (inl j) = Members.distinct_apart (granules_of rs) d j (pick-in p n (Members.in-append-l (granules_of rest) i))
    apart later n i (inr j) = Members.distinct_apart (granules_of rest) later i j

    go : Distinct (mine ++ granules_of rest) → Distinct (mine ++ (own ++ granules_of rest))
    go later =
        Members.append-distinct (Members.distinct-l mine (granules_of rest) later)
        (Members.append-distinct (Members.distinct-l own (granules_of rs) d) (Members.distinct-r mine (granules_of rest) later)
        (λ n i j. Members.distinct_apart (granules_of rs) d i (pick-in p n (Members.in-append-r mine j))))
        (λ n i j. apart later n i (Members.append-in n own (granules_of rest) j))

pub pick-front : (granules : ℕ) {v : State} {k : ℕ} {r : Run} {rs rest : List Run} → Pick r rs rest → Granules granules v (granules_of rs) k
    → Granules granules v (granules_of (r ∷ rest)) k
pick-front granules p g = record {
  free = λ n i. g.free n (pick-in p n i);
  once = pick-once p g.once;
  many = pick-long p ∙ g.many;
}

-- the run that a granule is of
pub record RunHolding (n : ℕ) (rs : List Run) : Type 0 where
  pub run : Run
  pub rest : List Run
  pub pick : Pick run rs rest
  pub held : In n (count run.first run.many)

pub holds : (n : ℕ) (rs : List Run) → In n (granules_of rs) → RunHolding n rs
holds n [] i = Members.none_in i
holds n (r ∷ rs) i = go (Members.append-in n (count r.first r.many) (granules_of rs) i) (holds n rs)
  where
    go : In n (count r.first r.many) ⊎ In n (granules_of rs) → (In n (granules_of rs) → RunHolding n rs) → RunHolding n (r ∷ rs)
    go (inl j) ih = record { run = r; rest = rs; pick = here; held = j }
    go (inr j) ih = let h = ih j in record { run = h.run; rest = r ∷ h.rest; pick = there h.pick; held = h.held }
