-- The second rule one granule at a time is 02's sentence: "lengthen the last run as far as free granules and the 32 allow, then take the longest
-- remaining stretch, at most 32 at a time from its low end, the lower on a tie"
use Rattle.std.specs.Prelude.{◌≡◌, Bool, true, false, cond, ◌&&◌}
use Rattle.std.proofs.Math.Path.{refl, ap, sym}
use Rattle.std.proofs.Common.{◌∙◌, subst, ltb-true, lt-ltb, le-ltb, ne_eqb}
use Prim.Native.Nat.{ℕ, zero, suc, ◌+◌, ◌-◌, ◌≤◌, ◌<◌, min}
use native.Mathlib.Omega.{arith}
use Rattle.std.proofs.Math.Decide.{dec_lt, ℕ_discrete}
use Rattle.std.proofs.Math.Dec.{ltb}
use Rattle.meaning.specs.Lists.{count}
use Rattle.meaning.specs.Choice.{State, Last, no_run, last_run, after, spare, Free}
use Rattle.laws_choice.specs.Stretches
use Rattle.meaning.specs.Stretch.{stretch, longest_in}
use Rattle.laws_choice.specs.Stretches.{longest_low}
use Rattle.laws_choice.specs.Theorem.{Grown, grown, no_slot, and_then, grow}
use Rattle.laws_choice.specs.Rules
use Rattle.laws_choice.specs.Rules.{also, longer_last, is_free, can_lengthen, lengthened, started, take_one, second_rule}

module _ (limit granules : ℕ) where
  -- how many free granules stand from a on, up to the first that is taken or the disk's end
  abbrev pub free_from : State → ℕ → ℕ
  free_from v a = stretch v.taken (count a (granules - a))

  -- how far the last run can be lengthened: as far as free granules and the limit allow
  abbrev pub reach : State → ℕ
  reach v = min (spare limit v.last) (free_from v (after v.last))

  -- the last run lengthened by x
  unfoldable pub lengthen_by : ℕ → State → State
  lengthen_by zero v = v
  lengthen_by (suc x) v = lengthen_by x (lengthened limit granules v)

  -- the longest free stretch
  abbrev pub longest : State → ℕ
  longest v = longest_in v.taken (count 0 granules)

  -- k granules more in new runs: the longest remaining stretch, at most limit at a time from its low end, and no more than are wanted
  -- (each run has one granule at least, so as many runs as granules are enough)
  unfoldable pub in_runs : ℕ → ℕ → State → Grown State
  in_runs zero zero v = grown v
  in_runs zero (suc k) v = no_slot
  in_runs (suc runs) zero v = grown v
  in_runs (suc runs) (suc k) v =
      let n = min (suc k) (min limit (longest v)) in
      cond (ltb 0 v.room && ltb 0 (longest v)) (in_runs runs (suc k - n) (lengthen_by (n - 1) (started limit granules v (longest_low granules v)))) no_slot

  -- 02's sentence
  unfoldable pub by_sentence : ℕ → State → Grown State
  by_sentence k v = let x = min k (reach v) in in_runs k (k - x) (lengthen_by x v)

-- Stretches --------------------------------------------------------------------------------------------------------------

also-other : (taken : ℕ → Bool) (m n : ℕ) → (n ≡ m → ⊥) → also taken m n ≡ taken n
also-other taken m n a = rw (ne_eqb n m a) refl

-- a granule taken before a stretch does not change it
stretch-also : (taken : ℕ → Bool) (m n a : ℕ) → m < a → stretch (also taken m) (count a n) ≡ stretch taken (count a n)
unfolding stretch
stretch-also taken m zero a h = refl
stretch-also taken m (suc n) a h = rw (also-other taken m a (omega arith), stretch-also taken m n (a + 1) (omega arith)) refl

-- a stretch of one or more starts at a free granule
stretch-first : (taken : ℕ → Bool) (n a : ℕ) → 1 ≤ stretch taken (count a n) → (1 ≤ n) × (taken a ≡ false)
stretch-first taken zero a h = absurd (omega (arith, Stretches.stretch-none taken))
stretch-first taken (suc n) a h = (omega arith, go (taken a) refl)
  where
    go : (b : Bool) → taken a ≡ b → taken a ≡ false
    go true e = absurd (omega (arith, Stretches.stretch-taken taken a (count (a + 1) n) e))
    go false e = e

-- n is the lower of k + 1 and q
record LowerOf (k q n : ℕ) : Type 0 where
  reached : n - 1 ≤ q - 1
  all : k ≡ n - 1 + (suc k - n)
  left : suc k - n ≤ k
  none : 1 ≤ suc k - n → q - 1 - (n - 1) ≡ 0

sums : (k q : ℕ) → 1 ≤ q → LowerOf k q (min (suc k) q)
sums k q h = record { reached = omega arith; all = omega arith; left = omega arith; none = λ u. omega arith }

lower : (a b : ℕ) → 1 ≤ a → 1 ≤ b → (min (a - 1) (b - 1) ≡ min a b - 1) × (1 ≤ min a b)
lower a b h l = (omega arith, omega arith)

module _ (limit granules : ℕ) where
  free-first : (v : State) (a : ℕ) → 1 ≤ free_from limit granules v a → Free granules v a
  free-first v a h = let x = stretch-first v.taken (granules - a) a h in record { inside = omega (arith, x); clear = x.1 }

  free-next : (v : State) (a : ℕ) → Free granules v a → free_from limit granules v a ≡ suc (stretch v.taken (count (a + 1) (granules - (a + 1))))
  free-next v a f =
      let e : granules - a ≡ suc (granules - (a + 1)) = omega (arith, f.inside) in
      ap (λ (n : ℕ). stretch v.taken (count a n)) e ∙ Stretches.stretch-free v.taken a (count (a + 1) (granules - (a + 1))) f.clear

  -- Lengthening ----------------------------------------------------------------------------------------------------------

  longer-after : (l : Last) → 0 < spare limit l → (after (longer_last l) ≡ after l + 1) × (spare limit (longer_last l) ≡ spare limit l - 1)
  longer-after no_run h = absurd (omega arith)
  longer-after (last_run r) h = (omega arith, omega arith)

  reach-can : (v : State) → 1 ≤ reach limit granules v → can_lengthen limit granules v ≡ true
  reach-can v h =
      let a : 0 < spare limit v.last = omega arith in
      let b : 1 ≤ free_from limit granules v (after v.last) = omega arith in
      Rules.says-can limit granules v (record { fewer = a; free = free-first v (after v.last) b })

  reach-cannot : (v : State) → reach limit granules v ≡ 0 → can_lengthen limit granules v ≡ false
  reach-cannot v h = go (can_lengthen limit granules v) refl
    where
      go : (b : Bool) → can_lengthen limit granules v ≡ b → b ≡ false
      go true e = absurd (let c = Rules.can-says limit granules v e in omega (arith, h, c.fewer, free-next v (after v.last) c.free))
      go false e = refl

  reach-next : (v : State) → 1 ≤ reach limit granules v → reach limit granules (lengthened limit granules v) ≡ reach limit granules v - 1
  reach-next v h =
      let a : 0 < spare limit v.last = omega arith in
      let b : 1 ≤ free_from limit granules v (after v.last) = omega arith in
      let f = free-first v (after v.last) b in
      let n = longer-after v.last a in
      let s : free_from limit granules (lengthened limit granules v) (after (longer_last v.last)) ≡ stretch v.taken
      (count (after v.last + 1) (granules - (after v.last + 1))) =
      ap (λ (i : ℕ). stretch (also v.taken (after v.last)) (count i (granules - i))) n.0 ∙ stretch-also v.taken (after v.last)
      (granules - (after v.last + 1)) (after v.last + 1) (omega arith) in
      let q = free-next v (after v.last) f in
      omega (arith, n.1, s, q)

  take-longer : (v : State) → can_lengthen limit granules v ≡ true → second_rule limit granules v ≡ grown (lengthened limit granules v)
  unfolding take_one
  take-longer v e = rw e refl

  take-else : (v : State) → can_lengthen limit granules v ≡ false
      → second_rule limit granules v ≡ cond (ltb 0 v.room && is_free limit granules v (longest_low granules v))
      (grown (started limit granules v (longest_low granules v))) no_slot
  unfolding take_one
  take-else v e = rw e refl

  grow-step : (v w : State) (k : ℕ) → second_rule limit granules v ≡ grown w → grow (second_rule limit granules) (suc k) v ≡ grow (second_rule limit granules) k
      w
  unfolding grow and_then
  grow-step v w k e = rw e refl

  grow-stop : (v : State) (k : ℕ) → second_rule limit granules v ≡ no_slot → grow (second_rule limit granules) (suc k) v ≡ no_slot
  unfolding grow and_then
  grow-stop v k e = rw e refl

  -- as far as the last run reaches, the rule lengthens it
  grow-longer : (x k : ℕ) (v : State) → x ≤ reach limit granules v → grow (second_rule limit granules) (x + k) v ≡ grow (second_rule limit granules) k
      (lengthen_by limit granules x v)
  unfolding lengthen_by
  grow-longer zero k v h = let e : 0 + k ≡ k = omega arith in ap (λ (n : ℕ). grow (second_rule limit granules) n v) e
  grow-longer (suc x) k v h =
      let e : suc x + k ≡ suc (x + k) = omega arith in
      ap (λ (n : ℕ). grow (second_rule limit granules) n v) e
      ∙ grow-step v (lengthened limit granules v) (x + k) (take-longer v (reach-can v (omega arith)))
      ∙ grow-longer x k (lengthened limit granules v) (let q = reach-next v (omega arith) in omega arith)

  reach-after : (x : ℕ) (v : State) → x ≤ reach limit granules v → reach limit granules (lengthen_by limit granules x v) ≡ reach limit granules v - x
  unfolding lengthen_by
  reach-after zero v h = omega arith
  reach-after (suc x) v h = let q = reach-next v (omega arith) in let z = reach-after x (lengthened limit granules v) (omega arith) in omega arith

  -- New runs -------------------------------------------------------------------------------------------------------------

  -- the longest stretch from its low end on
  long-there : (v : State) → free_from limit granules v (longest_low granules v) ≡ longest limit granules v
  long-there v =
      let l = Stretches.low-end granules v in
      let e = Stretches.low-long granules v in
      let m = longest_low granules v in
      let c = Stretches.stretch-clear v.taken (granules - m) m in
      let a : free_from limit granules v m ≤ l.long =
      l.longest m (free_from limit granules v m) (λ i x y. record { inside = omega (arith, c.0); clear = c.1 i x y }) in
      let b : longest limit granules v ≤ free_from limit granules v m = least v (ℕ_discrete (longest limit granules v) 0) in
      omega arith
    where
      least : (v : State) → Dec (longest limit granules v ≡ 0) → longest limit granules v ≤ free_from limit granules v (longest_low granules v)
      least v (yes e) = omega arith
      least v (no e) =
          let l = Stretches.low-end granules v in
          let o = Stretches.low-long granules v in
          let m = longest_low granules v in
          let z = l.free (m + longest limit granules v - 1) (omega arith) (omega arith) in
          Stretches.stretch-all v.taken (granules - m) m (longest limit granules v) (omega (arith, z.inside)) (λ i x y. (l.free i x (omega arith)).clear)

  low_clear : (v : State) → 1 ≤ longest limit granules v → Free granules v (longest_low granules v)
  low_clear v h = let e = Stretches.low-long granules v in (Stretches.low-end granules v).free (longest_low granules v) (omega arith) (omega arith)

  -- the low end is free exactly if there is a stretch
  low-test : (v : State) → is_free limit granules v (longest_low granules v) ≡ ltb 0 (longest limit granules v)
  low-test v = go (dec_lt 0 (longest limit granules v))
    where
      no-free : (b : Bool) → is_free limit granules v (longest_low granules v) ≡ b → longest limit granules v ≤ 0 → b ≡ false
      no-free true e h =
          absurd (let f = Rules.free-says limit granules v (longest_low granules v) e in
          let z = (Stretches.low-end granules v).longest (longest_low granules v) 1 (λ i x y. let q : i ≡ longest_low granules v = omega arith in rw q f) in
          omega (arith, Stretches.low-long granules v))
      no-free false e h = refl

      go : Dec (0 < longest limit granules v) → is_free limit granules v (longest_low granules v) ≡ ltb 0 (longest limit granules v)
      go (yes h) = Rules.says-free limit granules v (longest_low granules v) (low_clear v h) ∙ sym (lt-ltb 0 (longest limit granules v) h)
      go (no h) = no-free (is_free limit granules v (longest_low granules v)) refl (omega arith) ∙ sym (le-ltb 0 (longest limit granules v) (omega arith))

  -- a run that starts there reaches to the limit or the stretch's end
  start-reach : (v : State) → 1 ≤ longest limit granules v
      → reach limit granules (started limit granules v (longest_low granules v)) ≡ min (limit - 1) (longest limit granules v - 1)
  start-reach v h =
      let m = longest_low granules v in
      let a = long-there v in
      let b = free-next v m (low_clear v h) in
      let c = stretch-also v.taken m (granules - (m + 1)) (m + 1) (omega arith) in
      omega (arith, a, b, c)

  -- where nothing is left to lengthen, the rule takes whole runs
  runs-is : 1 ≤ limit → (runs k : ℕ) (v : State) → k ≤ runs → (1 ≤ k → reach limit granules v ≡ 0) → in_runs limit granules runs k v ≡ grow
      (second_rule limit granules) k v
  unfolding in_runs grow
  runs-is l zero zero v h r = refl
  runs-is l zero (suc k) v h r = absurd (omega arith)
  runs-is l (suc runs) zero v h r = refl
  runs-is l (suc runs) (suc k) v h r = go (ltb 0 v.room && ltb 0 (longest limit granules v)) refl (runs-is l runs)
    where
      s : State
      s = started limit granules v (longest_low granules v)

      n : ℕ
      n = min (suc k) (min limit (longest limit granules v))

      rule : second_rule limit granules v ≡ cond (ltb 0 v.room && ltb 0 (longest limit granules v)) (grown s) no_slot
      rule = take-else v (reach-cannot v (r (omega arith))) ∙ ap (λ (b : Bool). cond (ltb 0 v.room && b) (grown s) no_slot) (low-test v)

      under : {i : ℕ} → i ≤ k → i ≤ runs
      under j = omega arith

      go : (b : Bool) → (ltb 0 v.room && ltb 0 (longest limit granules v)) ≡ b
          → ((k : ℕ) (w : State) → k ≤ runs → (1 ≤ k → reach limit granules w ≡ 0) → in_runs limit granules runs k w ≡ grow (second_rule limit granules) k w)
          → cond b (in_runs limit granules runs (suc k - n) (lengthen_by limit granules (n - 1) s)) no_slot ≡ grow (second_rule limit granules) (suc k) v
      go true e ih =
          let o : 1 ≤ longest limit granules v = ltb-true 0 (longest limit granules v) (Rules.both_r (ltb 0 v.room) (ltb 0 (longest limit granules v)) e)
          in
          let u = lower limit (longest limit granules v) l o in
          let q : reach limit granules s ≡ min limit (longest limit granules v) - 1 = start-reach v o ∙ u.0 in
          let t = sums k (min limit (longest limit granules v)) u.1 in
          let x : n - 1 ≤ reach limit granules s = subst (λ (i : ℕ). n - 1 ≤ i) (sym q) t.reached in
          let y : reach limit granules (lengthen_by limit granules (n - 1) s) ≡ min limit (longest limit granules v) - 1 - (n - 1) = reach-after (n - 1) s x ∙
          ap (λ (i : ℕ). i - (n - 1)) q in
          ih (suc k - n) (lengthen_by limit granules (n - 1) s) (under t.left) (λ u. y ∙ t.none u)
          ∙ sym (grow-longer (n - 1) (suc k - n) s x) ∙ ap (λ (i : ℕ). grow (second_rule limit granules) i s) (sym t.all)
          ∙ sym (grow-step v s k (rule ∙ ap (λ (b : Bool). cond b (grown s) no_slot) e))
      go false e ih = sym (grow-stop v k (rule ∙ ap (λ (b : Bool). cond b (grown s) no_slot) e))

  -- the second rule is 02's sentence
  pub sentence-is : 1 ≤ limit → (k : ℕ) (v : State) → by_sentence limit granules k v ≡ grow (second_rule limit granules) k v
  unfolding by_sentence
  sentence-is l k v =
      let x = min k (reach limit granules v) in
      let a : x ≤ reach limit granules v = omega arith in
      let b : reach limit granules (lengthen_by limit granules x v) ≡ reach limit granules v - x = reach-after x v a in
      let c : x + (k - x) ≡ k = omega arith in
      runs-is l k (k - x) (lengthen_by limit granules x v) (omega arith) (λ u. omega arith)
      ∙ sym (grow-longer x (k - x) v a) ∙ ap (λ (n : ℕ). grow (second_rule limit granules) n v) c
