-- 8, and no other answer, exactly where no choice fits: for any disks and any function `one` on them that takes one granule by the second rule
use Rattle.std.specs.Prelude.{◌≡◌, ◌↔◌, ◌⊎◌, List, [], ◌∷◌, length}
use Rattle.std.proofs.Math.Path.{refl}
use Rattle.std.proofs.Common.{sym, ◌∙◌, inl, inr, arith}
use Prim.Native.Nat.{ℕ, zero, suc, ◌+◌, ◌≤◌}
use Rattle.lists.specs.Members
use Rattle.lists.specs.Members.{In}
use Rattle.laws_choice.specs.Words
use Rattle.meaning.specs.Choice.{State, Run, Free, ChoiceFits, Choice}
use Rattle.laws_choice.specs.Words.{Step, CanLengthen, Stands, Second}
use Rattle.laws_choice.specs.Back
use Rattle.laws_choice.specs.Ahead

-- One step ---------------------------------------------------------------------------------------------------------------

module _ (limit granules : ℕ) {v v' : State} where
  -- a step of the second rule is a step
  pub is-step : Second limit granules v v' → Step limit granules v v'
  is-step (Words.Second.longer w) = Words.Step.longer w
  is-step (Words.Second.starts m n l w) = Words.Step.starts m w

  -- a choice of one granule more before it leaves a choice after it
  pub ahead : {k : ℕ} → Stands granules v → Second limit granules v v' → Choice limit granules v (suc k) → Choice limit granules v' k
  ahead {k} s (Words.Second.longer w) c = Ahead.ahead-longer limit granules w before k c.longer c.runs c.fits
    where
      before : (i : ℕ) → i + 1 ≡ w.run.first + w.run.many → Free granules v i → ⊥
      before i e f = s.own w.run w.had i (omega (arith, s.some' w.run w.had)) (omega arith) f
  ahead {k} s (Words.Second.starts m n l w) c = Ahead.ahead-starts limit granules n l w k c.longer c.runs c.fits

-- a choice of one granule or more has a free one
pub some-free : (limit granules : ℕ) {v : State} {k : ℕ} → Choice limit granules v (suc k) → (n : ℕ) × Free granules v n
some-free limit granules {v} c = first _ c.fits.chosen.many c.fits.chosen.free
  where
    first : {k : ℕ} (ns : List ℕ) → length ns ≡ suc k → ((n : ℕ) → In n ns → Free granules v n) → (n : ℕ) × Free granules v n
    first [] e f = absurd (omega arith)
    first (n ∷ ns) e f = (n, f n Members.In.here)

-- without place for a further run, and nothing to lengthen, there is none of one granule or more
pub no_room : (limit granules : ℕ) {v : State} {k : ℕ} → (CanLengthen limit granules v → ⊥) → v.room ≡ 0 → Choice limit granules v (suc k) → ⊥
no_room limit granules {v} {k} a e c = go c.longer c.runs c.fits
  where
    go : (x : ℕ) (rs : List Run) → ChoiceFits limit granules v x rs (suc k) → ⊥
    go zero [] f = let z = f.chosen.many in omega arith
    go zero (r ∷ rs) f = omega (arith, f.few)
    go (suc y) rs f = Ahead.never-longer limit granules y a f

-- So many steps ----------------------------------------------------------------------------------------------------------

-- what a growth leaves: a disk, or the word that a run found no place
pub data Grown (D : Type 0) : Type 0 where
  grown : D → Grown D
  no_slot : Grown D

module _ {D : Type 0} where
  -- one growth, then another
  unfoldable pub and_then : Grown D → (D → Grown D) → Grown D
  and_then (grown d) f = f d
  and_then no_slot f = no_slot

  -- the one growth, or the other where it found no place
  unfoldable pub or_else : Grown D → Grown D → Grown D
  or_else (grown d) e = grown d
  or_else no_slot e = e

  -- k granules more, each by `one`
  unfoldable pub grow : (D → Grown D) → ℕ → D → Grown D
  grow one zero d = grown d
  grow one (suc k) d = and_then (one d) (grow one k)

apart : {D : Type 0} (d : D) → grown d ≡ no_slot → ⊥
apart d e = let z : ◌≡◌ {A = ℕ} 0 1 = cc in omega arith

module _ (limit granules : ℕ) {D : Type 0} (view : D → State) (Ok : ℕ → D → Type 0) (one : D → Grown D) where
  -- `one` takes a granule just after the last run, or as a new run. Ok k d says what is known of d while k granules more are wanted.
  pub record AnyRule : Type 0 where
    pub goes : (k : ℕ) (d d' : D) → Ok (suc k) d → one d ≡ grown d' → Ok k d' × Step limit granules (view d) (view d')

  -- `one` is the second rule
  pub record SecondRule : Type 0 where
    pub stands : (k : ℕ) (d : D) → Ok k d → Stands granules (view d)
    pub goes : (k : ℕ) (d d' : D) → Ok (suc k) d → one d ≡ grown d' → Ok k d' × Second limit granules (view d) (view d')
    pub stops : (k : ℕ) (d : D) → Ok (suc k) d → one d ≡ no_slot
        → (CanLengthen limit granules (view d) → ⊥) × (((view d).room ≡ 0) ⊎ ((n : ℕ) → Free granules (view d) n → ⊥))

  pub any-rule : SecondRule → AnyRule
  any-rule r = record { goes = λ k d d' o e. let x = r.goes k d d' o e in (x.0, is-step limit granules x.1) }

  -- what any rule took is a choice
  pub any-choice : 1 ≤ limit → AnyRule → (k : ℕ) (d d' : D) → Ok k d → grow one k d ≡ grown d' → Choice limit granules (view d) k
  unfolding grow and_then
  any-choice l r zero d d' o e = Back.nothing limit granules (view d)
  any-choice l r (suc k) d d' o e = go (one d) refl e (any-choice l r k)
    where
      go : (t : Grown D) → one d ≡ t → and_then t (grow one k) ≡ grown d' →
          ((d₁ d₂ : D) → Ok k d₁ → grow one k d₁ ≡ grown d₂ → Choice limit granules (view d₁) k)
          → Choice limit granules (view d) (suc k)
      go (grown d₁) q e ih = let x = r.goes k d d₁ o q in Back.back limit granules l x.1 (ih d₁ d' x.0 e)
      go no_slot q e ih = absurd (apart d' (sym e))

  -- the second rule gets k granules wherever a choice of k fits
  pub second-gets : SecondRule → (k : ℕ) (d : D) → Ok k d → Choice limit granules (view d) k → (d' : D) × (grow one k d ≡ grown d')
  unfolding grow and_then
  second-gets r zero d o c = (d, refl)
  second-gets r (suc k) d o c = go (one d) refl (second-gets r k)
    where
      stuck : ((view d).room ≡ 0) ⊎ ((n : ℕ) → Free granules (view d) n → ⊥) → (CanLengthen limit granules (view d) → ⊥) → ⊥
      stuck (inl e) a = no_room limit granules a e c
      stuck (inr f) a = let x = some-free limit granules c in f x.0 x.1

      go : (t : Grown D) → one d ≡ t → ((d₁ : D) → Ok k d₁ → Choice limit granules (view d₁) k → (d' : D) × (grow one k d₁ ≡ grown d'))
          → (d' : D) × (and_then t (grow one k) ≡ grown d')
      go (grown d₁) q ih = let x = r.goes k d d₁ o q in ih d₁ x.0 (ahead limit granules (r.stands (suc k) d o) x.1 c)
      go no_slot q ih = let x = r.stops k d o q in absurd (stuck x.1 x.0)

  -- THE THEOREM. The second rule gets k granules exactly if a choice of k granules fits ...
  pub second-iff : 1 ≤ limit → SecondRule → (k : ℕ) (d : D) → Ok k d → ((d' : D) × (grow one k d ≡ grown d')) ↔ Choice limit granules (view d) k
  second-iff l r k d o = ((λ g. any-choice l (any-rule r) k d g.0 o g.1), second-gets r k d o)

  -- ... and finds no place exactly if none fits
  pub stuck-iff : 1 ≤ limit → SecondRule → (k : ℕ) (d : D) → Ok k d → (grow one k d ≡ no_slot) ↔ (Choice limit granules (view d) k → ⊥)
  stuck-iff l r k d o = (fore, λ n. go (grow one k d) refl n)
    where
      fore : grow one k d ≡ no_slot → Choice limit granules (view d) k → ⊥
      fore e c = let x = second-gets r k d o c in apart x.0 (sym x.1 ∙ e)

      go : (t : Grown D) → grow one k d ≡ t → (Choice limit granules (view d) k → ⊥) → grow one k d ≡ no_slot
      go (grown d') q n = absurd (n (any-choice l (any-rule r) k d d' o q))
      go no_slot q n = q

-- Two rules --------------------------------------------------------------------------------------------------------------

module _ {D : Type 0} (first second : D → Grown D) where
  -- "Keep 01's choice where it fits", judged for the whole growth: else it starts again by the second rule
  unfoldable pub growth : ℕ → D → Grown D
  growth k d = or_else (grow first k d) (grow second k d)

  pub keeps-first : (k : ℕ) (d d' : D) → grow first k d ≡ grown d' → growth k d ≡ grown d'
  unfolding growth or_else
  keeps-first k d d' e = rw e

  pub else-second : (k : ℕ) (d : D) → grow first k d ≡ no_slot → growth k d ≡ grow second k d
  unfolding growth or_else
  else-second k d e = rw e

-- `first` is 01's rule, or any other; `second` the second rule
module _ (limit granules : ℕ) (l : 1 ≤ limit) {D : Type 0} (view : D → State) (Ok : ℕ → D → Type 0) (first second : D → Grown D)
    (a : AnyRule limit granules view Ok first) (b : SecondRule limit granules view Ok second) where
  -- where any rule succeeds the second does not fail
  pub second-too : (k : ℕ) (d d' : D) → Ok k d → grow first k d ≡ grown d' → (d'' : D) × (grow second k d ≡ grown d'')
  second-too k d d' o e = second-gets limit granules view Ok second b k d o (any-choice limit granules view Ok first l a k d d' o e)

  -- 8 means that no choice fits
  pub growth-stuck : (k : ℕ) (d : D) → Ok k d → (growth first second k d ≡ no_slot) ↔ (Choice limit granules (view d) k → ⊥)
  growth-stuck k d o = (λ e. fore (grow first k d) refl e, λ n. back (grow first k d) refl n)
    where
      fore : (t : Grown D) → grow first k d ≡ t → growth first second k d ≡ no_slot → Choice limit granules (view d) k → ⊥
      fore (grown d') q e = absurd (apart d' (sym (keeps-first first second k d d' q) ∙ e))
      fore no_slot q e = (stuck-iff limit granules view Ok second l b k d o).0 (sym (else-second first second k d q) ∙ e)

      back : (t : Grown D) → grow first k d ≡ t → (Choice limit granules (view d) k → ⊥) → growth first second k d ≡ no_slot
      back (grown d') q n = absurd (n (any-choice limit granules view Ok first l a k d d' o q))
      back no_slot q n = else-second first second k d q ∙ (stuck-iff limit granules view Ok second l b k d o).1 n

  -- and where it is not 8, what was taken is a choice
  pub growth-choice : (k : ℕ) (d d' : D) → Ok k d → growth first second k d ≡ grown d' → Choice limit granules (view d) k
  growth-choice k d d' o e = go (grow first k d) refl
    where
      go : (t : Grown D) → grow first k d ≡ t → Choice limit granules (view d) k
      go (grown d₁) q = any-choice limit granules view Ok first l a k d d₁ o q
      go no_slot q = any-choice limit granules view Ok second l (any-rule limit granules view Ok second b) k d d' o (sym (else-second first second k d q) ∙ e)
