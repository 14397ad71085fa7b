-- Whatever rule takes granules one at a time, each just after the last run or as a new run: what it took is a choice
use Rattle.std.specs.Prelude.{◌≡◌, refl, List, [], ◌∷◌, ◌++◌, ℕ, suc, ◌+◌, ◌-◌, ◌≤◌}
use Rattle.std.proofs.Common.{ap, subst, arith}
use Rattle.meaning.specs.Lists.{count}
use Rattle.lists.specs.Members
use Rattle.laws_choice.specs.Words
use Rattle.meaning.specs.Choice.{State, Run, after, spare, granules_of, Granules, ChoiceFits, Choice}
use Rattle.laws_choice.specs.Words.{Lengthens, Starts, Step}
use Rattle.laws_choice.specs.Moves

module _ (limit granules : ℕ) {v v' : State} where
  -- where a lengthening starts and ends, and what is left to lengthen by
  pub record Moved (w : Lengthens limit granules v v') : Type 0 where
    pub old : after v.last ≡ w.run.first + w.run.many
    pub new : after v'.last ≡ w.run.first + w.run.many + 1
    pub spared : spare limit v.last ≡ spare limit v'.last + 1

  pub moved : (w : Lengthens limit granules v v') → Moved w
  moved w =
      let a : after v.last ≡ w.run.first + w.run.many = ap after w.had in
      let b : after v'.last ≡ w.run.first + (w.run.many + 1) = ap after w.has in
      let c : spare limit v.last ≡ limit - w.run.many = ap (spare limit) w.had in
      let d : spare limit v'.last ≡ limit - (w.run.many + 1) = ap (spare limit) w.has in
      record { old = a; new = omega (arith, b); spared = omega (arith, c, d, w.fewer) }

  -- and where a new run does
  pub record Begun {m : ℕ} (w : Starts limit granules v v' m) : Type 0 where
    pub new : after v'.last ≡ m + 1
    pub spared : spare limit v'.last ≡ limit - 1

  pub begun : {m : ℕ} (w : Starts limit granules v v' m) → Begun w
  begun w = record { new = ap after w.has; spared = ap (spare limit) w.has }

  back-longer : {k x : ℕ} {rs : List Run} → Lengthens limit granules v v' → ChoiceFits limit granules v' x rs k → ChoiceFits limit granules v (suc x) rs
      (suc k)
  back-longer {k} {x} {rs} w f =
      let h = moved w in
      let e : (w.run.first + w.run.many) ∷ (count (after v'.last) x ++ granules_of rs) ≡ count (after v.last) (suc x) ++ granules_of rs = rw
      (h.old, h.new) refl in
      record {
        within = omega (arith, f.within, h.spared);
        sized = f.sized;
        few = omega (arith, f.few, w.place);
        chosen = subst (λ (ns : List ℕ). Granules granules v ns (suc k)) e (Moves.with_it granules w.takes f.chosen);
      }

  back-starts : {k x : ℕ} {rs : List Run} (m : ℕ) → 1 ≤ limit → Starts limit granules v v' m → ChoiceFits limit granules v' x rs k
      → ChoiceFits limit granules v 0 (record { first = m; many = suc x } ∷ rs) (suc k)
  back-starts {k} {x} {rs} m l w f =
      let h = begun w in
      let e : m ∷ (count (after v'.last) x ++ granules_of rs) ≡ count m (suc x) ++ granules_of rs = rw h.new refl in
      record {
        within = omega arith;
        sized = (omega arith, omega (arith, f.within, h.spared), f.sized);
        few = omega (arith, f.few, w.place);
        chosen = subst (λ (ns : List ℕ). Granules granules v ns (suc k)) e (Moves.with_it granules w.takes f.chosen);
      }

  -- a choice after a step, and the granule of the step, are a choice before it
  pub back : {k : ℕ} → 1 ≤ limit → Step limit granules v v' → Choice limit granules v' k → Choice limit granules v (suc k)
  back l (Words.Step.longer w) c = record { longer = suc c.longer; runs = c.runs; fits = back-longer w c.fits }
  back l (Words.Step.starts m w) c = record { longer = 0; runs = record { first = m; many = suc c.longer } ∷ c.runs; fits = back-starts m l w c.fits }

-- of no granules there is always a choice
pub nothing : (limit granules : ℕ) (v : State) → Choice limit granules v 0
nothing limit granules v = record {
  longer = 0;
  runs = [];
  fits = record {
    within = omega arith;
    sized = tt;
    few = omega arith;
    chosen = record { free = λ n i. Members.none_in i; once = Members.Distinct.done; many = refl };
  };
}

module _ (limit granules : ℕ) where
  -- k granules one at a time, by whatever rule
  pub data Steps : ℕ → State → State → Type 0 where
    done : {v : State} → Steps 0 v v
    more : {k : ℕ} {v v' v'' : State} → Step limit granules v v' → Steps k v' v'' → Steps (suc k) v v''

  -- are a choice
  pub steps-choice : {k : ℕ} {v v' : State} → 1 ≤ limit → Steps k v v' → Choice limit granules v k
  steps-choice {v = v} l done = nothing limit granules v
  steps-choice l (more s t) = back limit granules l s (steps-choice l t)
