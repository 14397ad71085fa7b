-- What is known of free granules before a new run, at first and once granules are taken.
use mathlib.Core.Path.{◌≡◌, refl, ap, sym, ◌∙◌}
use mathlib.Core.Bool.{Bool, true, false, cond}
use mathlib.Core.List.{List}
use Prim.Native.Nat.{ℕ, zero, suc, ◌+◌, ◌≤◌, ◌<◌}
use native.Mathlib.Omega.{arith}
use Rattle.meaning.specs.Layout.{granules, taken, most_granules}
use Rattle.meaning.specs.declared.Geometry.{Geometry}
use Rattle.growth_search.specs.Search.{Stretch}
use Rattle.growth.specs.Choose.{Known}

pub differ : {b : Bool} → b ≡ true → b ≡ false → ⊥
differ e q = let z : ◌≡◌ {A = ℕ} 0 1 = ap (λ (b : Bool). cond b 0 1) (sym e ∙ q) in omega arith

-- nothing yet
pub known_start : (g : Geometry) (d : List ℕ) (lowest : Bool) → granules g ≤ most_granules → Known g d lowest 0 most_granules
known_start g d lowest h = record {
  inside = omega arith;
  none = λ e n l. absurd (let z : ⊥ = omega arith in z);
  longest = λ e i n s. go i n s;
  lower = λ e i s. omega arith;
}
  where
    go : (i n : ℕ) → Stretch g d i n → n ≤ most_granules
    go i zero s = omega arith
    go i (suc n) s = let q = (s (i + n) (omega arith) (omega arith)).0 in omega arith

-- of a disk on which no more is free
module _ (g : Geometry) (d d' : List ℕ) (was : (n : ℕ) → n < granules g → taken g d' n ≡ false → taken g d n ≡ false) where
  still : (n : ℕ) → n < granules g → taken g d n ≡ true → taken g d' n ≡ true
  still n h t = go (taken g d' n) refl
    where
      go : (b : Bool) → taken g d' n ≡ b → taken g d' n ≡ true
      go true e = e
      go false e = absurd (differ t (was n h e))

  stretch-was : (i n : ℕ) → Stretch g d' i n → Stretch g d i n
  stretch-was i n s k a b = let q = s k a b in (q.0, was k q.0 q.1)

  pub known-less : {lowest : Bool} {next most : ℕ} → Known g d lowest next most → Known g d' lowest next most
  known-less {next = next} {most = most} w = record {
    inside = w.inside;
    none = λ e n l. still n (omega (arith, w.inside)) (w.none e n l);
    longest = λ e i n s. w.longest e i n (stretch-was i n s);
    lower = λ e i s. w.lower e i (stretch-was i most s);
  }
