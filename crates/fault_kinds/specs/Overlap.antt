-- Granules in common, told from where runs start and end
use Rattle.std.specs.Prelude.{◌≡◌, ◌⊎◌, Bool, ◌&&◌, leb, ltb}
use Rattle.std.proofs.Common.{inl, inr, arith, leb→le, ltb→lt, lt→ltb, T_not}
use Rattle.std.proofs.Math.Bool.{not}
use mathlib.Core.List.{List}
use Prim.Native.Nat.{ℕ, ◌+◌, ◌≤◌, ◌<◌}
use Rattle.std.proofs.Math.Decide.{ℕ_discrete}
use Rattle.std.proofs.Math.Dec.{T, nleb→lt, not_T}
use Rattle.meaning.specs.Lists.{count, some, has, distinct}
use Rattle.meaning.specs.Entries.{runs, run_start, run_length, run_granules, entry_granules}
use Rattle.meaning.specs.declared.Geometry.{Geometry}
use Rattle.lists.specs.Members
use Rattle.lists.specs.Members.{In}
use Rattle.laws.specs.Kinds
use Rattle.laws.specs.FaultlessSound.{higher}

-- a number of both stretches: the start of the later one
pub between : (a n b m : ℕ) → 1 ≤ n → 1 ≤ m → a < b + m → b < a + n → (x : ℕ) × In x (count a n) × In x (count b m)
between a n b m u v l k = go (Members.decide (leb a b))
  where
    go : Members.Test (leb a b) → (x : ℕ) × In x (count a n) × In x (count b m)
    go (Members.Test.holds t) = (b, Members.in_count b a n (leb→le a b t) k, Members.in_count b b m (omega arith) (omega arith))
    go (Members.Test.fails t) =
        let h = nleb→lt a b (not_T (leb a b) t) in
        (a, Members.in_count a a n (omega arith) (omega arith), Members.in_count a b m (omega (arith, h)) l)

-- two stretches overlap
abbrev pub overlaps : ℕ → ℕ → ℕ → ℕ → Bool
overlaps a n b m = ltb a (b + m) && ltb b (a + n)

pub overlap-says : (a n b m : ℕ) → T (overlaps a n b m) → (a < b + m) × (b < a + n)
overlap-says a n b m t = (
  ltb→lt a (b + m) (Members.and_l (ltb a (b + m)) (ltb b (a + n)) t),
  ltb→lt b (a + n)
      (Members.and_r (ltb a (b + m)) (ltb b (a + n)) t),
)

pub common-overlap : (a n b m x : ℕ) → In x (count a n) → In x (count b m) → T (overlaps a n b m)
common-overlap a n b m x i j =
    let h = Members.count-in x a n i in let k = Members.count-in x b m j in
    Members.and_i (ltb a (b + m)) (ltb b (a + n)) (lt→ltb a (b + m) (omega (arith, h, k))) (lt→ltb b (a + n) (omega (arith, h, k)))

module _ (g : Geometry) (d : List ℕ) where
  -- run k of s and run l of t have a granule in common
  unfoldable pub runs_meet : ℕ → ℕ → ℕ → ℕ → Bool
  runs_meet s k t l = overlaps (run_start g d s k) (run_length g d s k) (run_start g d t l) (run_length g d t l)

  meet-says : (s k t l : ℕ) → T (runs_meet s k t l) → (x : ℕ) × In x (run_granules g d s k) × In x (run_granules g d t l)
  unfolding runs_meet
  meet-says s k t l v =
      let h = overlap-says (run_start g d s k) (run_length g d s k) (run_start g d t l) (run_length g d t l) v in
      between (run_start g d s k) (run_length g d s k) (run_start g d t l) (run_length g d t l) (omega arith) (omega arith) h.0 h.1

  says-meet : (s k t l x : ℕ) → In x (run_granules g d s k) → In x (run_granules g d t l) → T (runs_meet s k t l)
  unfolding runs_meet
  says-meet s k t l x i j = common-overlap (run_start g d s k) (run_length g d s k) (run_start g d t l) (run_length g d t l) x i j

  -- run k of s has a granule in common with some run of t
  unfoldable pub run_meets : ℕ → ℕ → ℕ → Bool
  run_meets s t k = some (runs_meet s k t) (count 0 (runs g d t))

  unfoldable pub entries_meet : ℕ → ℕ → Bool
  entries_meet s t = some (run_meets s t) (count 0 (runs g d s))

  -- two entries have a granule in common
  pub shared-is : (s t : ℕ) → some (has (entry_granules g d t)) (entry_granules g d s) ≡ entries_meet s t
  unfolding entry_granules entries_meet run_meets
  shared-is s t = Members.both-T {a = some (has (entry_granules g d t)) (entry_granules g d s)} {b = entries_meet s t} fore back
    where
      fore : T (some (has (entry_granules g d t)) (entry_granules g d s)) → T (entries_meet s t)
      fore v =
          let w = Kinds.some_in (has (entry_granules g d t)) (entry_granules g d s) v in
          let a = Members.each_in (run_granules g d s) w.0 (count 0 (runs g d s)) w.1 in
          let b = Members.each_in (run_granules g d t) w.0 (count 0 (runs g d t)) (Members.has_in w.0 (entry_granules g d t) w.2) in
          Kinds.in_some (run_meets s t) a.1 (Kinds.in_some (runs_meet s a.0 t) b.1 (says-meet s a.0 t b.0 w.0 a.2 b.2))

      back : T (entries_meet s t) → T (some (has (entry_granules g d t)) (entry_granules g d s))
      back v =
          let a = Kinds.some_in (run_meets s t) (count 0 (runs g d s)) v in
          let b = Kinds.some_in (runs_meet s a.0 t) (count 0 (runs g d t)) a.2 in
          let x = meet-says s a.0 t b.0 b.2 in
          Kinds.in_some (has (entry_granules g d t)) (Members.in-each (run_granules g d s) a.1 x.1)
          (Members.in-has (Members.in-each (run_granules g d t) b.1 x.2))

  -- run k of s has a granule in common with an earlier one
  unfoldable pub meets_earlier : ℕ → ℕ → Bool
  meets_earlier s k = some (λ l. ltb l k && runs_meet s k s l) (count 0 (runs g d s))

  -- no granule twice in one entry
  pub twice-is : (s : ℕ) → not (distinct (entry_granules g d s)) ≡ some (meets_earlier s) (count 0 (runs g d s))
  unfolding entry_granules meets_earlier
  twice-is s = Members.both-T {a = not (distinct (entry_granules g d s))} {b = some (meets_earlier s) (count 0 (runs g d s))} fore back
    where
      ks : List ℕ
      ks = count 0 (runs g d s)

      apart : (T (some (meets_earlier s) ks) → ⊥) → (k l x : ℕ) → In k ks → In l ks → In x (run_granules g d s k) → In x (run_granules g d s l) → k ≡ l
      apart n k l x i j u v = go (ℕ_discrete k l)
        where
          which : (k < l) ⊎ (l < k) → ⊥
          which (inl h) = n (Kinds.in_some (meets_earlier s) j (Kinds.in_some (λ m. ltb m l && runs_meet s l s m) i
              (Members.and_i (ltb k l) (runs_meet s l s k) (lt→ltb k l h) (says-meet s l s k x v u))))
          which (inr h) = n (Kinds.in_some (meets_earlier s) i (Kinds.in_some (λ m. ltb m k && runs_meet s k s m) j
              (Members.and_i (ltb l k) (runs_meet s k s l) (lt→ltb l k h) (says-meet s k s l x u v))))

          go : Dec (k ≡ l) → k ≡ l
          go (yes e) = e
          go (no e) = absurd (which (higher k l e))

      fore : T (not (distinct (entry_granules g d s))) → T (some (meets_earlier s) ks)
      fore t = go (Members.decide (some (meets_earlier s) ks))
        where
          go : Members.Test (some (meets_earlier s) ks) → T (some (meets_earlier s) ks)
          go (Members.Test.holds v) = v
          go (Members.Test.fails n) =
              absurd (T_not (distinct (entry_granules g d s)) t
              (Members.says-distinct (Members.each-distinct (run_granules g d s) (Members.count-distinct 0 (runs g d s))
              (λ k i. Members.count-distinct (run_start g d s k) (run_length g d s k)) (apart n))))

      back : T (some (meets_earlier s) ks) → T (not (distinct (entry_granules g d s)))
      back v =
          let a = Kinds.some_in (meets_earlier s) ks v in
          let b = Kinds.some_in (λ l. ltb l a.0 && runs_meet s a.0 s l) ks a.2 in
          let h = ltb→lt b.0 a.0 (Members.and_l (ltb b.0 a.0) (runs_meet s a.0 s b.0) b.2) in
          let x = meet-says s a.0 s b.0 (Members.and_r (ltb b.0 a.0) (runs_meet s a.0 s b.0) b.2) in
          not_T (distinct (entry_granules g d s)) (λ t.
          let e = Members.each-apart (run_granules g d s) (Members.distinct-says (entry_granules g d s) t) a.1 b.1 x.1 x.2 in omega (arith, h, e))
