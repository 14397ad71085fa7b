-- The granule that each choice gives, and what is known with it.
use mathlib.Core.Path.{◌≡◌, refl, ap}
use mathlib.Core.Logic.{⊎_elim}
use mathlib.Core.Bool.{Bool, true, false, not}
use mathlib.Core.List.{List}
use Prim.Native.Nat.{ℕ, ◌≤◌, ◌<◌}
use native.Mathlib.Omega.{arith}
use lib.ListN.{length}
use Rattle.meaning.specs.Layout.{granules, taken}
use Rattle.meaning.specs.Free.{free_granules, longest_free}
use Rattle.meaning.specs.declared.Geometry.{Geometry}
use Rattle.lists.specs.Tests.{le-or-lt}
use Rattle.meaning.specs.Choice.{State}
use Rattle.laws_choice.specs.Words
use Rattle.laws_choice.specs.Stretches
use Rattle.laws_choice.specs.View.{view}
use Rattle.space.proofs.First.{NoneBelow}
use Rattle.growth_search.specs.Search.{Stretch, NextFree, LongestFrom}
use Rattle.growth_search.specs.declared.Found.{Found}
use Rattle.growth.specs.Choose.{Known, Picked}
use Rattle.growth.proofs.Step
use Rattle.growth.proofs.Known.{differ}
use Rattle.growth.proofs.Growing.{chooses}

module _ (g : Geometry) (d : List ℕ) (some : 1 ≤ length (free_granules g d)) where
  -- 01's: all below is taken, as far as was known and from there on
  pub picked_first : (b : Bool) {next most n : ℕ} → b ≡ true → Known g d b next most → NextFree g d next n → Picked g d b (record { at = n; most = most })
  picked_first false e k w = absurd (differ e refl)
  picked_first true {next = next} {most = most} {n = n} e k w = record {
    is = Step.lowest g d below inn (w.found inn);
    known = record { inside = w.high; none = λ _ m h. taken-below m h; longest = λ q. absurd (differ refl q); lower = λ q. absurd (differ refl q) };
  }
    where
      taken-below : (m : ℕ) → m < n → taken g d m ≡ true
      taken-below m h = ⊎_elim (λ (z : next ≤ m). w.passed m z h) (λ (z : m < next). k.none refl m z) (le-or-lt next m)

      below : NoneBelow (Step.free g d) n
      below m h = ap not (taken-below m h)

      inn : n < granules g
      inn = ⊎_elim
          (λ (z : granules g ≤ n). absurd (Step.some-free g d some (λ m h. below m (omega arith))))
          (λ (z : n < granules g). z) (le-or-lt (granules g) n)

  abbrev seen : State
  seen = view g 0 d

  back : (i n : ℕ) → Words.Stretch (granules g) seen i n → Stretch g d i n
  back i n s k a b = let q = s k a b in (q.inside, q.clear)

  -- The second: a free stretch, than which none is longer, and none as long lower, starts where the longest does
  module _ (s : Found) (free : Stretch g d s.low s.long) (top : (i n : ℕ) → Stretch g d i n → n ≤ s.long)
      (least : (i : ℕ) → Stretch g d i s.long → s.low ≤ i) where
    abbrev low : ℕ
    low = longest_free g d

    is-low : low ≡ s.low
    is-low =
        let w = Stretches.low-end (granules g) seen in
        let a = w.longest s.low s.long (λ k x y. let q = free k x y in record { inside = q.0; clear = q.1 }) in
        let b = top low w.long (back low w.long w.free) in
        let u = w.lower s.low (λ k x y. let q = free k x (omega arith) in record { inside = q.0; clear = q.1 }) in
        let v = least low (λ k x y. back low w.long w.free k x (omega arith)) in
        omega arith

    pub picked_low : (b : Bool) → b ≡ false → Picked g d b (record { at = s.low; most = s.long })
    picked_low true e = absurd (differ refl e)
    picked_low false e =
        let h = (chooses g 0 false d some).0 in
        record {
          is = is-low;
          known = record { inside = omega (arith, is-low); none = λ q. absurd (differ q refl); longest = λ _ i n t. top i n t; lower = λ _ i t. least i t };
        }

  module _ (b : Bool) (e : b ≡ false) {next most : ℕ} (k : Known g d b next most) {s : Found} where
    -- one as long as none before was longer, from where none as long starts lower
    pub picked_next : LongestFrom g d next most s → most ≤ s.long → Picked g d b (record { at = s.low; most = s.long })
    picked_next w h =
        let f = k.longest e s.low s.long w.free in
        picked_low s w.free (λ i n t. omega (arith, k.longest e i n t)) (λ i t. w.lower i (k.lower e i (λ j x y. t j x (omega arith))) t) b e

    -- the longest of all
    pub picked_all : LongestFrom g d 0 most s → Picked g d b (record { at = s.low; most = s.long })
    picked_all w =
        picked_low s w.free
        (λ i n t. ⊎_elim (λ (q : n ≤ s.long). q) (λ (q : most ≤ s.long). omega (arith, k.longest e i n t)) (w.longest i n (omega arith) t))
        (λ i t. w.lower i (omega arith) t) b e
