-- A step of the second rule loses nothing: where a choice of k + 1 granules fits before it, one of k fits after it
use Rattle.std.specs.Prelude.{◌≡◌, ◌⊎◌, List, [], ◌∷◌, ◌++◌, ℕ, zero, suc, ◌+◌, ◌-◌, ◌≤◌, ◌<◌, length}
use Rattle.std.proofs.Common.{ap, ◌∙◌, subst, inl, inr, append_assoc, arith, length-append}
use Rattle.std.proofs.Math.Decide.{dec_lt, dec_le, ℕ_discrete}
use Rattle.meaning.specs.Lists.{count}
use Rattle.lists.specs.Members
use Rattle.lists.specs.Members.{In, length-count}
use Rattle.laws_choice.specs.Parts
use Rattle.meaning.specs.Choice.{State, Run, spare, granules_of, Sized, Free, Granules, ChoiceFits, Choice}
use Rattle.laws_choice.specs.Words.{Lengthens, Starts, CanLengthen, LowEnd}
use Rattle.laws_choice.specs.Moves
use Rattle.laws_choice.specs.Moves.{Pick}
use Rattle.laws_choice.specs.Back

-- The last run is lengthened ---------------------------------------------------------------------------------------------

module _ (limit granules : ℕ) {v v' : State} (w : Lengthens limit granules v v')
    (before : (i : ℕ) → i + 1 ≡ w.run.first + w.run.many → Free granules v i → ⊥) (k : ℕ) where
  abbrev e : ℕ
  e = w.run.first + w.run.many

  h : Back.Moved limit granules w
  h = Back.moved limit granules w

  make : (y : ℕ) (rs : List Run) → y ≤ spare limit v'.last → Sized limit rs → length rs ≤ v.room
      → Granules granules v' (count (e + 1) y ++ granules_of rs) k → Choice limit granules v' k
  make y rs l s m g = record {
    longer = y;
    runs = rs;
    fits = record { within = l; sized = s; few = omega (arith, w.place); chosen = rw h.new g };
  }

  -- the choice lengthens too
  both : (y : ℕ) (rs : List Run) → ChoiceFits limit granules v (suc y) rs (suc k) → Choice limit granules v' k
  both y rs f =
      let g : Granules granules v (e ∷ (count (e + 1) y ++ granules_of rs)) (suc k) = rw h.old at f.chosen in
      make y rs (omega (arith, f.within, h.spared)) f.sized f.few (Moves.without-it granules w.takes g)

  -- the choice has the granule at the front of a run: the run goes to the lengthening, as far as that may go
  cut : (n : ℕ) (rest : List Run) → suc n ≤ limit → Sized limit rest → suc (length rest) ≤ v.room
      → Granules granules v (count e (suc n) ++ granules_of rest) (suc k) → Choice limit granules v' k
  cut n rest l s m g = go (dec_le n (spare limit v'.last)) (Moves.without-it granules w.takes g)
    where
      p : ℕ
      p = spare limit v'.last

      go : Dec (n ≤ spare limit v'.last) → Granules granules v' (count (e + 1) n ++ granules_of rest) k → Choice limit granules v' k
      go (yes q) g' = make n rest q s (omega arith) g'
      go (no q) g' =
          let z = n - p in
          let u : n ≡ p + z = omega arith in
          let c : count (e + 1) n ++ granules_of rest ≡ count (e + 1) p ++ (count (e + 1 + p) z ++ granules_of rest) =
          ap (λ (i : ℕ). count (e + 1) i ++ granules_of rest) u ∙ ap (λ (l : List ℕ). l ++ granules_of rest) (Parts.count-parts (e + 1) p z) ∙ append_assoc
          (count (e + 1) p) (count (e + 1 + p) z) (granules_of rest) in
          make p (record { first = e + 1 + p; many = z } ∷ rest) (omega arith) (omega arith, omega arith, s) m
          (subst (λ (ns : List ℕ). Granules granules v' ns k) c g')

  -- no free granule stands before it, so it is at the front
  at_front : (b n : ℕ) (rest : List Run) → In e (count b n) → n ≤ limit → Sized limit rest → suc (length rest) ≤ v.room
      → Granules granules v (count b n ++ granules_of rest) (suc k) → Choice limit granules v' k
  at_front b zero rest i l s m g = Members.none_in i
  at_front b (suc n) rest i l s m g = go (ℕ_discrete b e)
    where
      c : (b ≤ e) × (e < b + suc n)
      c = Members.count-in e b (suc n) i

      go : Dec (b ≡ e) → Choice limit granules v' k
      go (yes q) = cut n rest l s m (rw q at g)
      go (no q) =
          absurd (before (e - 1) (omega (arith, c))
          (g.free (e - 1) (Members.in-append-l (granules_of rest) (Members.in_count (e - 1) b (suc n) (omega (arith, c)) (omega (arith, c))))))

  -- the choice has not the granule: any one of its own is left out
  less : (b n : ℕ) (rest : List Run) → n ≤ limit → Sized limit rest → suc (length rest) ≤ v.room
      → Granules granules v' (count b n ++ granules_of rest) (suc k) → 1 ≤ n → Choice limit granules v' k
  less b zero rest l s m g o = absurd (omega arith)
  less b (suc zero) rest l s m g o = make 0 rest (omega arith) s (omega arith) (Moves.rest_of granules g)
  less b (suc (suc n)) rest l s m g o =
      make 0 (record { first = b + 1; many = suc n } ∷ rest) (omega arith) (omega arith, omega arith, s) m (Moves.rest_of granules g)

  left_out : (rs : List Run) → Sized limit rs → length rs ≤ v.room → Granules granules v' (granules_of rs) (suc k) → Choice limit granules v' k
  left_out [] s m g = let z = g.many in absurd (omega arith)
  left_out (r ∷ rs) s m g = less r.first r.many rs s.1 s.2 m g s.0

  alone : (rs : List Run) → ChoiceFits limit granules v 0 rs (suc k) → Choice limit granules v' k
  alone rs f = go (Members.in? e (granules_of rs))
    where
      go : In e (granules_of rs) ⊎ (In e (granules_of rs) → ⊥) → Choice limit granules v' k
      go (inl i) =
          let x = Moves.holds e rs i in
          let s = Moves.pick-sized limit x.pick f.sized in
          at_front x.run.first x.run.many x.rest x.held s.1 s.2 (omega (arith, Moves.pick-length x.pick, f.few))
          (Moves.pick-front granules x.pick f.chosen)
      go (inr a) = left_out rs f.sized f.few (Moves.other granules w.takes a f.chosen)

  pub ahead-longer : (x : ℕ) (rs : List Run) → ChoiceFits limit granules v x rs (suc k) → Choice limit granules v' k
  ahead-longer zero rs f = alone rs f
  ahead-longer (suc y) rs f = both y rs f

-- A new run starts -------------------------------------------------------------------------------------------------------

-- of the runs that start at a or behind it, none starts before b; and where there is such a run, b is not before a
abbrev Behind : ℕ → ℕ → List Run → Type 0
Behind a b [] = Unit {0}
Behind a b (q ∷ rest) = (a ≤ q.first → (a ≤ b) × (b ≤ q.first)) × Behind a b rest

-- the run that is given up: the lowest of those that start at a or behind it; any one, where there is none
record Lowest (a : ℕ) (rs : List Run) : Type 0 where
  run : Run
  rest : List Run
  pick : Pick run rs rest
  behind : Behind a run.first rest

behind-back : (a b : ℕ) {p : Run} {rs rest : List Run} → Pick p rs rest → (a ≤ p.first → (a ≤ b) × (b ≤ p.first)) → Behind a b rest → Behind a b rs
behind-back a b Moves.Pick.here u s = (u, s)
behind-back a b (Moves.Pick.there x) u s = (s.0, behind-back a b x u s.1)

behind-lower : (a b c : ℕ) (rest : List Run) → a ≤ b → (a ≤ c → b ≤ c) → Behind a c rest → Behind a b rest
behind-lower a b c [] l u s = tt
behind-lower a b c (q ∷ rest) l u s = ((λ h. let x = s.0 h in (l, omega (arith, x, u x.0))), behind-lower a b c rest l u s.1)

lowest : (a : ℕ) (r : Run) (rs : List Run) → Lowest a (r ∷ rs)
lowest a r [] = record { run = r; rest = []; pick = Moves.Pick.here; behind = tt }
lowest a r (q ∷ rs) = go (lowest a q rs)
  where
    other : (x : Lowest a (q ∷ rs)) → (a ≤ r.first → (a ≤ x.run.first) × (x.run.first ≤ r.first)) → Lowest a (r ∷ q ∷ rs)
    other x u = record { run = x.run; rest = r ∷ x.rest; pick = Moves.Pick.there x.pick; behind = (u, x.behind) }

    own : (x : Lowest a (q ∷ rs)) → a ≤ r.first → (a ≤ x.run.first → r.first ≤ x.run.first) → Lowest a (r ∷ q ∷ rs)
    own x l u = record {
      run = r;
      rest = q ∷ rs;
      pick = Moves.Pick.here;
      behind = behind-back a r.first x.pick (λ h. (l, u h)) (behind-lower a r.first x.run.first x.rest l u x.behind);
    }

    choose : (x : Lowest a (q ∷ rs)) → a ≤ r.first → Dec (a ≤ x.run.first) → Dec (x.run.first ≤ r.first) → Lowest a (r ∷ q ∷ rs)
    choose x l (yes m) (yes n) = other x (λ h. (m, n))
    choose x l (yes m) (no n) = own x l (λ h. omega arith)
    choose x l (no m) d = own x l (λ h. absurd (m h))

    which : (x : Lowest a (q ∷ rs)) → Dec (a ≤ r.first) → Lowest a (r ∷ q ∷ rs)
    which x (yes l) = choose x l (dec_le a x.run.first) (dec_le x.run.first r.first)
    which x (no l) = other x (λ h. absurd (l h))

    go : Lowest a (q ∷ rs) → Lowest a (r ∷ q ∷ rs)
    go x = which x (dec_le a r.first)

module _ (granules : ℕ) {v : State} {a : ℕ} (low : LowEnd granules v a) where
  -- a free run that starts before a does not reach it: it would be part of a longer stretch
  short : (b n : ℕ) → ((i : ℕ) → In i (count b n) → Free granules v i) → b < a → b + n ≤ a
  short b n f l = go (dec_le (b + n) a)
    where
      one : a ≤ b + n → (i : ℕ) → b ≤ i → i < b + (a + low.long - b) → Dec (i < b + n) → Free granules v i
      one m i p q (yes u) = f i (Members.in_count i b n p u)
      one m i p q (no u) = low.free i (omega arith) (omega arith)

      go : Dec (b + n ≤ a) → b + n ≤ a
      go (yes m) = m
      go (no m) = absurd (let z = low.longest b (a + low.long - b) (λ i p q. one (omega arith) i p q (dec_lt i (b + n))) in omega arith)

  -- with n granules from a on in place of the run given up, no other run is met
  clear_of : (b n : ℕ) (q : Run) → 1 ≤ q.many → (a ≤ q.first → (a ≤ b) × (b ≤ q.first)) → ((i : ℕ) → In i (count q.first q.many) → Free granules v i)
      → ((i : ℕ) → In i (count b n) → In i (count q.first q.many) → ⊥) → (i : ℕ) → In i (count a n) → In i (count q.first q.many) → ⊥
  clear_of b n q o u f apart i j m = go (dec_le a q.first)
    where
      x : (a ≤ i) × (i < a + n)
      x = Members.count-in i a n j

      y : (q.first ≤ i) × (i < q.first + q.many)
      y = Members.count-in i q.first q.many m

      front : (a ≤ b) × (b ≤ q.first) → Dec (q.first < b + n) → ⊥
      front h (yes l) = apart q.first (Members.in_count q.first b n h.1 l)
          (Members.in_count q.first q.first q.many (omega arith) (omega arith))
      front h (no l) = omega (arith, x, y, h)

      go : Dec (a ≤ q.first) → ⊥
      go (yes l) = front (u l) (dec_lt q.first (b + n))
      go (no l) = let z = short q.first q.many f (omega arith) in omega (arith, x, y)

  clear-of-all : (limit b n : ℕ) (rest : List Run) → Sized limit rest → Behind a b rest → ((i : ℕ) → In i (granules_of rest) → Free granules v i)
      → ((i : ℕ) → In i (count b n) → In i (granules_of rest) → ⊥) → (i : ℕ) → In i (count a n) → In i (granules_of rest) → ⊥
  clear-of-all limit b n [] s u f apart i j m = Members.none_in m
  clear-of-all limit b n (q ∷ rest) s u f apart i j m =
      go (Members.append-in i own (granules_of rest) m)
      (clear-of-all limit b n rest s.2 u.1 (λ z t. f z (Members.in-append-r own t)) (λ z t r. apart z t (Members.in-append-r own r)) i j)
    where
      own : List ℕ
      own = count q.first q.many

      go : In i own ⊎ In i (granules_of rest) → (In i (granules_of rest) → ⊥) → ⊥
      go (inl t) ih = clear_of b n q s.0 u.0 (λ z r. f z (Members.in-append-l (granules_of rest) r))
          (λ z r t'. apart z r (Members.in-append-l (granules_of rest) t')) i j t
      go (inr t) ih = ih t

  -- the run given up moves down to a
  slide : (limit b n k : ℕ) (rest : List Run) → Sized limit rest → Behind a b rest → Granules granules v (count b n ++ granules_of rest) k
      → Granules granules v (count a n ++ granules_of rest) k
  slide limit b n k rest s u g = record {
    free = λ i m. go i (Members.append-in i (count a n) (granules_of rest) m);
    once = Members.append-distinct (Members.count-distinct a n) (Members.distinct-r (count b n) (granules_of rest) g.once)
        (clear-of-all limit b n rest s u (λ i m. g.free i (Members.in-append-r (count b n) m))
        (λ i m t. Members.distinct_apart (granules_of rest) g.once m t));
    many = omega (
      arith,
      length-append (count a n) (granules_of rest),
      length-append (count b n) (granules_of rest),
      length-count a n,
      length-count b n,
      g.many,
    );
  }
    where
      long : n ≤ low.long
      long = low.longest b n (λ i p q. g.free i (Members.in-append-l (granules_of rest) (Members.in_count i b n p q)))

      go : (i : ℕ) → In i (count a n) ⊎ In i (granules_of rest) → Free granules v i
      go i (inl m) = let x = Members.count-in i a n m in low.free i x.0 (omega (arith, x, long))
      go i (inr m) = g.free i (Members.in-append-r (count b n) m)

-- where the last run cannot be lengthened, no choice lengthens it
pub never-longer : (limit granules : ℕ) {v : State} (y : ℕ) {rs : List Run} {k : ℕ} → (CanLengthen limit granules v → ⊥) → ChoiceFits limit granules v (suc y)
    rs k → ⊥
never-longer limit granules y a f = a (record { fewer = omega (arith, f.within); free = f.chosen.free _ Members.In.here })

module _ (limit granules : ℕ) {v v' : State} {m : ℕ} (not-longer : CanLengthen limit granules v → ⊥) (low : LowEnd granules v m)
    (w : Starts limit granules v v' m) (k : ℕ) where
  given-up : (b n : ℕ) (rest : List Run) → 1 ≤ n → n ≤ limit → Sized limit rest → length rest ≤ v'.room → Behind m b rest
      → Granules granules v (count b n ++ granules_of rest) (suc k) → Choice limit granules v' k
  given-up b zero rest o l s f u g = absurd (omega arith)
  given-up b (suc n) rest o l s f u g =
      let h = Back.begun limit granules w in
      let g' : Granules granules v (m ∷ (count (m + 1) n ++ granules_of rest)) (suc k) = slide granules low limit b (suc n) (suc k) rest s u g in
      record {
        longer = n;
        runs = rest;
        fits = record { within = omega (arith, h.spared); sized = s; few = f; chosen = rw h.new (Moves.without-it granules w.takes g') };
      }

  alone' : (rs : List Run) → ChoiceFits limit granules v 0 rs (suc k) → Choice limit granules v' k
  alone' [] f = let z = f.chosen.many in absurd (omega arith)
  alone' (r ∷ rs) f =
      let x = lowest m r rs in
      let s = Moves.pick-sized limit x.pick f.sized in
      given-up x.run.first x.run.many x.rest s.0 s.1 s.2 (omega (arith, Moves.pick-length x.pick, f.few, w.place)) x.behind
      (Moves.pick-front granules x.pick f.chosen)

  pub ahead-starts : (x : ℕ) (rs : List Run) → ChoiceFits limit granules v x rs (suc k) → Choice limit granules v' k
  ahead-starts zero rs f = alone' rs f
  ahead-starts (suc y) rs f = absurd (never-longer limit granules y not-longer f)
