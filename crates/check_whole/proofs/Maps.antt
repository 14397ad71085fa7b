-- Slots' places in a map, as a statement about lists.
use mathlib.Core.Path.{◌≡◌, refl, ap, ◌∙◌}
use mathlib.Core.Logic.{◌⊎◌, inl, inr}
use mathlib.Core.List.{List, [], ◌∷◌, ◌++◌}
use mathlib.Core.Bool.{Bool, true, false, cond, ◌&&◌}
use Prim.Native.Nat.{ℕ, ◌≤◌}
use native.Mathlib.Omega.{arith}
use lib.ListN.{get_or}
use Rattle.meaning.specs.Lists.{each, keep}
use Rattle.lists.specs.Tests.{and_l, and_r}
use Rattle.check_map.specs.Marks.{marked, allows}
pub use Rattle.check_map.proofs.Maps.{in-range, marked-out, marked-in, Open, allows-says, says-allows}
use Rattle.lists.specs.Members
use Rattle.lists.specs.Members.{In, Distinct}
use Rattle.check_file.specs.Slots.{opens}

-- Slot after slot
pub record Opens (m : List ℕ) (low : ℕ → ℕ) (f : ℕ → List ℕ) (ss : List ℕ) : Type 0 where
  pub high : (s n : ℕ) → In s ss → In n (f s) → low s ≤ get_or m n 0
  pub once : Distinct (each f ss)

pub opens-says : (low : ℕ → ℕ) (f : ℕ → List ℕ) → ((s : ℕ) → 1 ≤ low s) → (ss m : List ℕ) → opens m low f ss ≡ true → Opens m low f ss
unfolding opens
opens-says low f pos [] m e = record { high = λ s n i j. Members.none_in i; once = Distinct.done }
opens-says low f pos (s ∷ ss) m e =
    go (allows-says (low s) 0 (f s) m (pos s) (and_l (allows m (low s) 0 (f s)) (opens (marked m 0 (f s)) low f ss) e))
    (opens-says low f pos ss (marked m 0 (f s)) (and_r (allows m (low s) 0 (f s)) (opens (marked m 0 (f s)) low f ss) e))
  where
    go : Open m (low s) (f s) → Opens (marked m 0 (f s)) low f ss → Opens m low f (s ∷ ss)
    go o r =
        record {
          high = λ t n i j. up t n (Members.in-cons i) j;
          once = Members.append-distinct o.once r.once (λ n i j. let k = Members.each_in f n ss j in apart k.0 n k.1 k.2 i);
        }
      where
        apart : (t n : ℕ) → In t ss → In n (f t) → In n (f s) → ⊥
        apart t n i j k =
            let p = pos s in
            let q = pos t in
            let b = o.high n k in
            let z : ◌≡◌ {A = ℕ} (get_or (marked m 0 (f s)) n 0) 0 = marked-in 0 n (f s) m k (in-range m n (omega arith)) in
            let h = r.high t n i j in omega arith

        up : (t n : ℕ) → (t ≡ s) ⊎ In t ss → In n (f t) → low t ≤ get_or m n 0
        up t n (inl e) j = rw e (o.high n (rw e at j))
        up t n (inr i) j = rw (← marked-out 0 n (f s) m (λ k. apart t n i j k)) (r.high t n i j)

pub says-opens : (low : ℕ → ℕ) (f : ℕ → List ℕ) (ss m : List ℕ) → Opens m low f ss → opens m low f ss ≡ true
unfolding opens
says-opens low f [] m o = refl
says-opens low f (s ∷ ss) m o =
    ap (λ (b : Bool). b && opens (marked m 0 (f s)) low f ss)
    (says-allows (low s) 0 (f s) m (record { high = λ n i. o.high s n In.here i; once = Members.distinct-l (f s) (each f ss) o.once }))
    ∙ says-opens low f ss (marked m 0 (f s))
    (record {
      high =
          λ t n i j.
          rw (marked-out 0 n (f s) m (λ k. Members.distinct_apart (each f ss) o.once k (Members.in-each f i j))) (o.high t n (In.there i) j);
      once = Members.distinct-r (f s) (each f ss) o.once;
    })

-- what a condition keeps, in either order
pub each_keep : (p : ℕ → Bool) (f : ℕ → List ℕ) (xs : List ℕ) → each f (keep p xs) ≡ each (λ x. cond (p x) (f x) []) xs
each_keep p f [] = refl
each_keep p f (x ∷ xs) = go (p x) (each_keep p f xs)
  where
    go : (b : Bool) → each f (keep p xs) ≡ each (λ x. cond (p x) (f x) []) xs
        → each f (cond b (x ∷ keep p xs) (keep p xs)) ≡ cond b (f x) [] ++ each (λ x. cond (p x) (f x) []) xs
    go true e = ap (λ (l : List ℕ). f x ++ l) e
    go false e = e
