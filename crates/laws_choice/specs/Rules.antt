-- 01's rule and the second rule as functions, and what the theorem says of them
use Rattle.std.specs.Prelude.{◌≡◌, refl, ◌↔◌, ◌⊎◌, Bool, true, false, not, cond, ◌&&◌, ◌||◌, ℕ, ◌+◌, ◌-◌, ◌≤◌, ◌<◌, eqb, ltb}
use Rattle.std.proofs.Common.{ap, subst, inl, inr, arith, ltb-true, ltb-false, lt-ltb, eq-eqb, ne_eqb}
use Rattle.std.proofs.lemmas.Bool.{not-true}
use Rattle.meaning.specs.Lists.{count, keep, first_or}
use Rattle.laws_choice.specs.Words
use Rattle.meaning.specs.Choice.{State, Run, Last, no_run, last_run, after, spare, Free, Choice}
use Rattle.laws_choice.specs.Words.{Takes, Lengthens, Starts, Step, CanLengthen, Stands, Second}
use Rattle.laws_choice.specs.Moves
use Rattle.laws_choice.specs.Stretches
use Rattle.laws_choice.specs.Stretches.{longest_low}
use Rattle.laws_choice.specs.Theorem
use Rattle.laws_choice.specs.Theorem.{Grown, grown, no_slot, grow, growth, AnyRule, SecondRule}

-- The rules --------------------------------------------------------------------------------------------------------------

-- granule m taken, too
abbrev pub also : (ℕ → Bool) → ℕ → ℕ → Bool
also taken m n = eqb n m || taken n

-- one granule longer
abbrev pub longer_last : Last → Last
longer_last no_run = no_run
longer_last (last_run r) = last_run (record { first = r.first; many = r.many + 1 })

module _ (limit granules : ℕ) where
  -- granule n exists and is free
  abbrev pub is_free : State → ℕ → Bool
  is_free v n = ltb n granules && not (v.taken n)

  -- the one just after the last run exists, is free and the run has fewer than limit (and there is a run at all)
  abbrev pub can_lengthen : State → Bool
  can_lengthen v = ltb 0 (spare limit v.last) && is_free v (after v.last)

  abbrev pub lengthened : State → State
  lengthened v = record { taken = also v.taken (after v.last); last = longer_last v.last; room = v.room }

  abbrev pub started : State → ℕ → State
  started v m = record { taken = also v.taken m; last = last_run (record { first = m; many = 1 }); room = v.room - 1 }

  -- one granule more: the one just after the last run; else the choice, as a new run
  unfoldable pub take_one : (State → ℕ) → State → Grown State
  take_one choice v =
      let m = choice v in
      cond (can_lengthen v) (grown (lengthened v)) (cond (ltb 0 v.room && is_free v m) (grown (started v m)) no_slot)

  -- 01's choice: the lowest free one
  abbrev pub lowest_free : State → ℕ
  lowest_free v = first_or 0 (keep (λ n. not (v.taken n)) (count 0 granules))

  -- 02's second choice: the lowest one of the longest free stretch, the lower of two as long (`longest_low`)
  abbrev pub first_rule : State → Grown State
  first_rule = take_one lowest_free

  abbrev pub second_rule : State → Grown State
  second_rule = take_one (longest_low granules)

-- Tests ------------------------------------------------------------------------------------------------------------------

pub both_l : (a b : Bool) → (a && b) ≡ true → a ≡ true
both_l true b e = refl
both_l false b e = e

pub both_r : (a b : Bool) → (a && b) ≡ true → b ≡ true
both_r true b e = e
both_r false b e = absurd (let z : ◌≡◌ {A = ℕ} 0 1 = cc in omega arith)

either-no : (a b : Bool) → (a && b) ≡ false → (a ≡ false) ⊎ (b ≡ false)
either-no true b e = inr e
either-no false b e = inl refl

module _ (limit granules : ℕ) (v : State) where
  pub free-says : (n : ℕ) → is_free limit granules v n ≡ true → Free granules v n
  free-says n e = record {
    inside = ltb-true n granules (both_l (ltb n granules) (not (v.taken n)) e);
    clear = not-true (v.taken n) (both_r (ltb n granules) (not (v.taken n)) e);
  }

  pub says-free : (n : ℕ) → Free granules v n → is_free limit granules v n ≡ true
  says-free n f = rw (lt-ltb n granules f.inside, f.clear) refl

  pub can-says : can_lengthen limit granules v ≡ true → CanLengthen limit granules v
  can-says e = record {
    fewer = ltb-true 0 (spare limit v.last) (both_l (ltb 0 (spare limit v.last)) (is_free limit granules v (after v.last)) e);
    free = free-says (after v.last) (both_r (ltb 0 (spare limit v.last)) (is_free limit granules v (after v.last)) e);
  }

  pub says-can : CanLengthen limit granules v → can_lengthen limit granules v ≡ true
  says-can c = rw (lt-ltb 0 (spare limit v.last) c.fewer, says-free (after v.last) c.free) refl

  takes : (m : ℕ) (l : Last) (r : ℕ) → Free granules v m → Takes granules v (record { taken = also v.taken m; last = l; room = r }) m
  takes m l r f = record {
    free = f;
    now = rw (eq-eqb m m refl) refl;
    keeps = λ n i a. rw (ne_eqb n m a) refl;
  }

  lengthens : CanLengthen limit granules v → Lengthens limit granules v (lengthened limit granules v)
  lengthens c = go v.last refl
    where
      go : (l : Last) → v.last ≡ l → Lengthens limit granules v (lengthened limit granules v)
      go no_run e = absurd (omega (arith, c.fewer, ap (spare limit) e))
      go (last_run r) e =
          let a : after v.last ≡ r.first + r.many = ap after e in
          let s : spare limit v.last ≡ limit - r.many = ap (spare limit) e in
          record {
            run = r;
            had = e;
            fewer = omega (arith, c.fewer);
            takes = subst (Takes granules v (lengthened limit granules v)) a (takes (after v.last) (longer_last v.last) v.room c.free);
            has = ap longer_last e;
            place = refl;
          }

  starts : (m : ℕ) → 0 < v.room → Free granules v m → Starts limit granules v (started limit granules v m) m
  starts m l f = record { takes = takes m (last_run (record { first = m; many = 1 })) (v.room - 1) f; has = refl; place = omega arith }

-- what one granule more is
pub data Took (limit granules : ℕ) (choice : State → ℕ) (v : State) : Grown State → Type 0 where
  longer : CanLengthen limit granules v → Took limit granules choice v (grown (lengthened limit granules v))
  starts' : (CanLengthen limit granules v → ⊥) → 0 < v.room → Free granules v (choice v) → Took limit granules choice v
      (grown (started limit granules v (choice v)))
  none : (CanLengthen limit granules v → ⊥) → (v.room ≡ 0) ⊎ (Free granules v (choice v) → ⊥) → Took limit granules choice v no_slot

differ : {b : Bool} → b ≡ true → b ≡ false → ⊥
differ p q = let z : ◌≡◌ {A = ℕ} 0 1 = cc in omega arith

pub took : (limit granules : ℕ) (choice : State → ℕ) (v : State) → Took limit granules choice v (take_one limit granules choice v)
unfolding take_one
took limit granules choice v = go (can_lengthen limit granules v) refl (ltb 0 v.room && is_free limit granules v (choice v)) refl
  where
    why : (ltb 0 v.room ≡ false) ⊎ (is_free limit granules v (choice v) ≡ false) → (v.room ≡ 0) ⊎ (Free granules v (choice v) → ⊥)
    why (inl e) = inl (omega (arith, ltb-false 0 v.room e))
    why (inr e) = inr (λ f. differ (says-free limit granules v (choice v) f) e)

    go : (a : Bool) → can_lengthen limit granules v ≡ a → (b : Bool) → (ltb 0 v.room && is_free limit granules v (choice v)) ≡ b
        → Took limit granules choice v (cond a (grown (lengthened limit granules v)) (cond b (grown (started limit granules v (choice v))) no_slot))
    go true p b q = longer (can-says limit granules v p)
    go false p true q =
        starts' (λ c. differ (says-can limit granules v c) p) (ltb-true 0 v.room (both_l (ltb 0 v.room) (is_free limit granules v (choice v)) q))
        (free-says limit granules v (choice v) (both_r (ltb 0 v.room) (is_free limit granules v (choice v)) q))
    go false p false q = none (λ c. differ (says-can limit granules v c) p) (why (either-no (ltb 0 v.room) (is_free limit granules v (choice v)) q))

-- The last run stays what it is on a consistent disk ---------------------------------------------------------------------

same-run : (l : Last) (r q : Run) → l ≡ last_run r → l ≡ last_run q → r ≡ q
same-run l r q a b = cc

module _ (limit granules : ℕ) {v v' : State} (s : Stands granules v) where
  stands-longer : Lengthens limit granules v v' → Stands granules v'
  stands-longer w = record {
    some' = λ r e. let q = ap (λ (x : Run). x.many) (new r e) in omega arith;
    own = λ r e n a b f.
        let p = ap (λ (x : Run). x.first) (new r e) in
        let q = ap (λ (x : Run). x.many) (new r e) in
        let g = Moves.free-before granules w.takes n f in
        let d = g.1 in
        s.own w.run w.had n (omega arith) (omega arith) g.0;
  }
    where
      new : (r : Run) → v'.last ≡ last_run r → r ≡ record { first = w.run.first; many = w.run.many + 1 }
      new r e = same-run v'.last r (record { first = w.run.first; many = w.run.many + 1 }) e w.has

  stands-starts : (m : ℕ) → Starts limit granules v v' m → Stands granules v'
  stands-starts m w = record {
    some' = λ r e. let q = ap (λ (x : Run). x.many) (new r e) in omega arith;
    own = λ r e n a b f.
        let p = ap (λ (x : Run). x.first) (new r e) in
        let q = ap (λ (x : Run). x.many) (new r e) in
        (Moves.free-before granules w.takes n f).1 (omega arith);
  }
    where
      new : (r : Run) → v'.last ≡ last_run r → r ≡ record { first = m; many = 1 }
      new r e = same-run v'.last r (record { first = m; many = 1 }) e w.has

  pub stands-kept : Step limit granules v v' → Stands granules v'
  stands-kept (Words.Step.longer w) = stands-longer w
  stands-kept (Words.Step.starts m w) = stands-starts m w

-- nothing is asked of a file without a run
pub stands-none : (granules : ℕ) (v : State) → v.last ≡ no_run → Stands granules v
stands-none granules v e = record { some' = λ r q. absurd (differs r q); own = λ r q n a b f. differs r q }
  where
    differs : (r : Run) → v.last ≡ last_run r → ⊥
    differs r q = let z : ◌≡◌ {A = ℕ} 0 1 = cc in omega arith

-- What the rules are -----------------------------------------------------------------------------------------------------

module _ (limit granules : ℕ) where
  abbrev pub Known : ℕ → State → Type 0
  Known k v = Stands granules v

  step : (choice : State → ℕ) (v v' : State) (t : Grown State) → t ≡ grown v' → Took limit granules choice v t → Step limit granules v v'
  step choice v v' t e (longer c) = let q : lengthened limit granules v ≡ v' = cc in Words.Step.longer (rw q at (lengthens limit granules v c))
  step choice v v' t e (starts' c l f) = let q : started limit granules v (choice v) ≡ v' = cc in
      Words.Step.starts (choice v) (rw q at (starts limit granules v (choice v) l f))
  step choice v v' t e (none c w) = absurd (let z : ◌≡◌ {A = ℕ} 0 1 = cc in omega arith)

  second : (v v' : State) (t : Grown State) → t ≡ grown v' → Took limit granules (longest_low granules) v t → Second limit granules v v'
  second v v' t e (longer c) = let q : lengthened limit granules v ≡ v' = cc in Words.Second.longer (rw q at (lengthens limit granules v c))
  second v v' t e (starts' c l f) =
      let q : started limit granules v (longest_low granules v) ≡ v' = cc in
      Words.Second.starts (longest_low granules v) c (Stretches.low-end granules v) (rw q at (starts limit granules v (longest_low granules v) l f))
  second v v' t e (none c w) = absurd (let z : ◌≡◌ {A = ℕ} 0 1 = cc in omega arith)

  stops : (v : State) (t : Grown State) → t ≡ no_slot → Took limit granules (longest_low granules) v t
      → (CanLengthen limit granules v → ⊥) × ((v.room ≡ 0) ⊎ ((n : ℕ) → Free granules v n → ⊥))
  stops v t e (longer c) = absurd (let z : ◌≡◌ {A = ℕ} 0 1 = cc in omega arith)
  stops v t e (starts' c l f) = absurd (let z : ◌≡◌ {A = ℕ} 0 1 = cc in omega arith)
  stops v t e (none c w) = (c, go w)
    where
      go : (v.room ≡ 0) ⊎ (Free granules v (longest_low granules v) → ⊥) → (v.room ≡ 0) ⊎ ((n : ℕ) → Free granules v n → ⊥)
      go (inl q) = inl q
      go (inr q) = inr (λ n f. q (Stretches.low_free granules v n f))

  -- whatever the choice, it is a rule
  pub is-rule : (choice : State → ℕ) → AnyRule limit granules (λ v. v) Known (take_one limit granules choice)
  is-rule choice = record {
    goes = λ k v v' s e. let x = step choice v v' (take_one limit granules choice v) e (took limit granules choice v) in (stands-kept limit granules s x, x);
  }

  pub is-second : SecondRule limit granules (λ v. v) Known (second_rule limit granules)
  is-second = record {
    stands = λ k v s. s;
    goes = λ k v v' s e.
        let x = second v v' (second_rule limit granules v) e (took limit granules (longest_low granules) v) in
        (stands-kept limit granules s (Theorem.is-step limit granules x), x);
    stops = λ k v s e. stops v (second_rule limit granules v) e (took limit granules (longest_low granules) v);
  }

-- The theorem, of these functions ----------------------------------------------------------------------------------------

module _ (limit granules : ℕ) (l : 1 ≤ limit) (v : State) (s : Stands granules v) (k : ℕ) where
  -- the second rule gets k granules exactly if a choice of k granules fits
  pub gets-iff : ((v' : State) × (grow (second_rule limit granules) k v ≡ grown v')) ↔ Choice limit granules v k
  gets-iff = Theorem.second-iff limit granules (λ v. v) (Known limit granules) (second_rule limit granules) l (is-second limit granules) k v s

  -- and is stuck exactly if none does
  pub stuck-iff : (grow (second_rule limit granules) k v ≡ no_slot) ↔ (Choice limit granules v k → ⊥)
  stuck-iff = Theorem.stuck-iff limit granules (λ v. v) (Known limit granules) (second_rule limit granules) l (is-second limit granules) k v s

  -- where 01's rule gets k granules the second does too
  pub second-too : (v' : State) → grow (first_rule limit granules) k v ≡ grown v' → (v'' : State) × (grow (second_rule limit granules) k v ≡ grown v'')
  second-too v' e = Theorem.second-too limit granules l (λ v. v) (Known limit granules) (first_rule limit granules) (second_rule limit granules)
      (is-rule limit granules (lowest_free limit granules)) (is-second limit granules) k v v' s e

  -- 01's choice where it fits, else the second: stuck exactly if no choice fits
  pub growth-stuck : (growth (first_rule limit granules) (second_rule limit granules) k v ≡ no_slot) ↔ (Choice limit granules v k → ⊥)
  growth-stuck = Theorem.growth-stuck limit granules l (λ v. v) (Known limit granules) (first_rule limit granules) (second_rule limit granules)
      (is-rule limit granules (lowest_free limit granules)) (is-second limit granules) k v s
