-- Two lists, interleaved: where a list's file and handles stand at the end hangs on that list alone
use Rattle.std.specs.Prelude.{◌≡◌, refl, ◌≢◌, List, [], ◌∷◌, ℕ}
use Rattle.std.proofs.Common.{ap, ◌∙◌}
use Rattle.meaning.specs.Names.{fold}
use Rattle.meaning.specs.declared.Geometry.{Geometry}
use Rattle.together.specs.Statement.{Name, Step, Turn, one, two, Interleaving, none, left, right, World, start, next, after, Taken, Accepted}
use Rattle.together.specs.State.{FileState, state_of, stands, effect, effects, Held, Good}
use Rattle.together.proofs.Effects
use Rattle.together.proofs.Effects.{Effect}

-- The lists change places: what is shown of the first list holds of the second -----------------------------------------------

abbrev pub swap : World → World
swap w = record { disk = w.disk; first = w.second; second = w.first }

abbrev pub swapped : List Turn → List Turn
swapped [] = []
swapped (one c ∷ zs) = two c ∷ swapped zs
swapped (two c ∷ zs) = one c ∷ swapped zs

pub swap-lists : {xs ys : List Step} {zs : List Turn} → Interleaving xs ys zs → Interleaving ys xs (swapped zs)
swap-lists none = none
swap-lists (left i) = right (swap-lists i)
swap-lists (right i) = left (swap-lists i)

module _ (g : Geometry) (a b : Name) where
  pub swap-after : (zs : List Turn) (w : World) → after g b a (swap w) (swapped zs) ≡ swap (after g a b w zs)
  swap-after [] w = refl
  swap-after (one c ∷ zs) w = swap-after zs (next g a b w (one c))
  swap-after (two c ∷ zs) w = swap-after zs (next g a b w (two c))

  pub swap-accepted : (zs : List Turn) (w : World) → Accepted g a b w zs → Accepted g b a (swap w) (swapped zs)
  swap-accepted [] w k = tt
  swap-accepted (one c ∷ zs) w k = (k.0, swap-accepted zs (next g a b w (one c)) k.1)
  swap-accepted (two c ∷ zs) w k = (k.0, swap-accepted zs (next g a b w (two c)) k.1)

-- One turn -------------------------------------------------------------------------------------------------------------------

-- the disk is consistent, and each list's handles carry its name
pub record Fine (g : Geometry) (a b : Name) (w : World) : Type 0 where
  pub good : Good g w.disk
  pub first' : Held (fold a) w.first.handles
  pub second' : Held (fold b) w.second.handles

pub start_fine : (g : Geometry) (a b : Name) (d : List ℕ) → Good g d → Fine g a b (start d)
unfolding Held
start_fine g a b d k = record { good = k; first' = tt; second' = tt }

pub swap-fine : (g : Geometry) (a b : Name) (w : World) → Fine g a b w → Fine g b a (swap w)
swap-fine g a b w k = record { good = k.good; first' = k.second'; second' = k.first' }

-- the first list's file and handles
abbrev pub state_in : Geometry → Name → World → FileState
state_in g a w = state_of g (fold a) w.disk w.first.handles

-- a turn, by the list whose it is
by_first : (g : Geometry) (a b : Name) (w : World) (c : Step) → Fine g a b w → Taken g a b w (one c)
    → Effect g (fold a) w.disk w.first.handles c (next g a b w (one c)).disk (next g a b w (one c)).first.handles
by_first g a b w c k t = Effects.has-effect g a w.disk w.first c k.good k.first' t.0 t.1

by-second : (g : Geometry) (a b : Name) (w : World) (c : Step) → Fine g a b w → Taken g a b w (two c)
    → Effect g (fold b) w.disk w.second.handles c (next g a b w (two c)).disk (next g a b w (two c)).second.handles
by-second g a b w c k t = by_first g b a (swap w) c (swap-fine g a b w k) t

module _ (g : Geometry) (a b : Name) where
  pub fine-next : (w : World) (t : Turn) → Fine g a b w → Taken g a b w t → Fine g a b (next g a b w t)
  fine-next w (one c) k t = let e = by_first g a b w c k t in record { good = e.good; first' = e.held; second' = k.second' }
  fine-next w (two c) k t = let e = by-second g a b w c k t in record { good = e.good; first' = k.first'; second' = e.held }

  pub own_turn : (w : World) (c : Step) → Fine g a b w → Taken g a b w (one c) → state_in g a (next g a b w (one c)) ≡ effect g (fold a) c (state_in g a w)
  own_turn w c k t = let e = by_first g a b w c k t in λ i. record { file = e.file i; grips = e.grips i }

  pub other-turn : fold a ≢ fold b → (w : World) (c : Step) → Fine g a b w → Taken g a b w (two c) → state_in g a (next g a b w (two c)) ≡ state_in g a w
  other-turn ab w c k t = let e = by-second g a b w c k t in λ i. record { file = e.spares (fold a) ab i; grips = (state_in g a w).grips }

  third-turn : (n : Name) → n ≢ fold a → n ≢ fold b → (w : World) (t : Turn) → Fine g a b w → Taken g a b w t → stands g (next g a b w t).disk n ≡ stands g
      w.disk n
  third-turn n na nb w (one c) k t = (by_first g a b w c k t).spares n na
  third-turn n na nb w (two c) k t = (by-second g a b w c k t).spares n nb

  -- A whole interleaving -------------------------------------------------------------------------------------------------------

  pub end-fine : (zs : List Turn) (w : World) → Fine g a b w → Accepted g a b w zs → Fine g a b (after g a b w zs)
  end-fine [] w k t = k
  end-fine (z ∷ zs) w k t = end-fine zs (next g a b w z) (fine-next w z k t.0) t.1

  -- by its own list alone
  pub end-first : fold a ≢ fold b → {xs ys : List Step} {zs : List Turn} → Interleaving xs ys zs → (w : World) → Fine g a b w → Accepted g a b w zs
      → state_in g a (after g a b w zs) ≡ effects g (fold a) xs (state_in g a w)
  end-first ab none w k t = refl
  end-first ab (left {x = c} {xs = xs} i) w k t = end-first ab i (next g a b w (one c)) (fine-next w (one c) k t.0) t.1 ∙ ap (effects g (fold a) xs)
      (own_turn w c k t.0)
  end-first ab (right {y = c} {xs = xs} i) w k t = end-first ab i (next g a b w (two c)) (fine-next w (two c) k t.0) t.1 ∙ ap (effects g (fold a) xs)
      (other-turn ab w c k t.0)

  pub end-third : (n : Name) → n ≢ fold a → n ≢ fold b → (zs : List Turn) (w : World) → Fine g a b w → Accepted g a b w zs → stands g (after g a b w zs).disk
      n ≡ stands g w.disk n
  end-third n na nb [] w k t = refl
  end-third n na nb (z ∷ zs) w k t = end-third n na nb zs (next g a b w z) (fine-next w z k t.0) t.1 ∙ third-turn n na nb w z k t.0
