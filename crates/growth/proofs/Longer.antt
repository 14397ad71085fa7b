-- Several granules that lengthen the last run, taken at once, are so many turns of the growth.
use mathlib.Core.Path.{◌≡◌, refl, sym, ap, ◌∙◌, subst}
use mathlib.Core.Logic.{inl, inr, ◌≢◌}
use mathlib.Core.List.{List, [], ◌∷◌}
use mathlib.Core.Bool.{Bool, true, false, cond}
use Prim.Native.Nat.{ℕ, zero, suc, ◌+◌, ◌-◌, ◌*◌, ◌%◌, ◌≤◌, ◌<◌}
use native.Mathlib.Omega.{arith}
use native.Mathlib.Nat.{add-zero, sub-zero}
use lib.ListN.{length, get_or, set}
use lib.Seq.{get_or-set_same, get_or-set_other, set-set, set_comm, set-get_or}
use Rattle.meaning.specs.Lists.{count, through}
use Rattle.meaning.specs.Bits.{bit, with_bit}
use Rattle.meaning.specs.Layout.{granules, gat_at, byte, taken, take_granule, entry_at, field, set_field}
use Rattle.meaning.specs.declared.Geometry.{Geometry}
use Rattle.lists.specs.Members
use Rattle.laws.specs.Places
use Rattle.laws.specs.Words.{words}
use Rattle.layout.specs.Room.{Room}
use Rattle.layout.proofs.OneStep.{gat-low}
use Rattle.space.proofs.Folds.{through-append}
use Rattle.space.proofs.Marks.{marks-long}
use Rattle.growth_search.specs.Search.{ClearFrom}
use Rattle.growth.specs.Longer.{longer, Further}
use Rattle.growth.proofs.Turns.{TurningOn, turn-longer, at_last}

module _ (g : Geometry) where
  -- Granules taken, and what else is read ----------------------------------------------------------------------------------------

  takes-snoc : (d : List ℕ) (a m : ℕ) → take_granule g (through (take_granule g) d (count a m)) (a + m) ≡ through (take_granule g) d (count a (suc m))
  takes-snoc d a m = sym (ap (through (take_granule g) d) (Members.count-snoc a m) ∙ through-append (take_granule g) d (count a m) ((a + m) ∷ []))

  take-other : (d : List ℕ) (m n : ℕ) → n ≢ m → taken g (take_granule g d m) n ≡ taken g d n
  unfolding words
  take-other d m n q = Places.marked_other g 1 (omega arith) d m n q

  takes-other : (d : List ℕ) (a m n : ℕ) → a + m ≤ n → taken g (through (take_granule g) d (count a m)) n ≡ taken g d n
  takes-other d a zero n h = refl
  takes-other d a (suc m) n h = takes-other (take_granule g d a) (a + 1) m n (omega arith) ∙ take-other d a n (λ z. omega arith)

  module _ {d₀ : List ℕ} (r : Room g d₀) where
    before-hit : (n : ℕ) → n < granules g → gat_at g n < 256 * (g.start + 1)
    before-hit n h = let l = gat-low g n h r.units-low in omega (arith, r.blocks-high)

    -- a field is no GAT byte
    field_apart : (d : List ℕ) (e i v n : ℕ) → n < granules g → take_granule g (set_field g d e i v) n ≡ set_field g (take_granule g d n) e i v
    unfolding take_granule set_field
    field_apart d e i v n h =
        let b = before-hit n h in
        ap (λ (y : ℕ). set (set d (entry_at g e + i) v) (gat_at g n) (with_bit (n % g.units) y))
        (get_or-set_other d (entry_at g e + i) (gat_at g n) v 0 (λ z. omega arith))
        ∙ set_comm d (entry_at g e + i) (gat_at g n) v (with_bit (n % g.units) (byte d (gat_at g n))) (λ z. omega arith)

    field-taken : (d : List ℕ) (e i v n : ℕ) → n < granules g → taken g (set_field g d e i v) n ≡ taken g d n
    unfolding taken set_field
    field-taken d e i v n h =
        let b = before-hit n h in
        ap (bit (n % g.units)) (get_or-set_other d (entry_at g e + i) (gat_at g n) v 0 (λ z. omega arith))

    module _ (e i a : ℕ) (d : List ℕ) (fits : entry_at g e + i < length d) where
      longer-taken : (b : Bool) (m : ℕ) → a + m < granules g → taken g (longer g b e i a m d) (a + m) ≡ taken g d (a + m)
      longer-taken true m h =
          field-taken (through (take_granule g) d (count a m)) e i (field g d e i + m) (a + m) h ∙ takes-other d a m (a + m) (omega arith)
      longer-taken false m h = takes-other d a m (a + m) (omega arith)

      longer-none : (b : Bool) → longer g b e i a 0 d ≡ d
      longer-none true = unfold set_field field in ap (set d (entry_at g e + i)) (add-zero (get_or d (entry_at g e + i) 0)) ∙ set-get_or d (entry_at g e + i) 0
      longer-none false = refl

      -- one granule more
      longer-more : (b : Bool) (m : ℕ) → a + m < granules g
          → longer g b e i a (suc m) d ≡ take_granule g (cond b (set_field g (longer g b e i a m d) e i (field g (longer g b e i a m d) e i + 1))
          (longer g b e i a m d)) (a + m)
      longer-more false m h = sym (takes-snoc d a m)
      longer-more true m h =
          let t : List ℕ = through (take_granule g) d (count a m) in
          let v : ℕ = field g d e i in
          let l : length t ≡ length d = marks-long g true d a m in
          let s : field g (set_field g t e i (v + m)) e i ≡ v + m = here t (v + m) (omega arith) in
          let q : v + m + 1 ≡ v + suc m = omega arith in
          sym (ap (λ (y : ℕ). take_granule g (set_field g (set_field g t e i (v + m)) e i (y + 1)) (a + m)) s
          ∙ ap (λ (y : ℕ). take_granule g (set_field g (set_field g t e i (v + m)) e i y) (a + m)) q
          ∙ ap (λ (z : List ℕ). take_granule g z (a + m)) (over t (v + m) (v + suc m))
          ∙ field_apart t e i (v + suc m) (a + m) h
          ∙ ap (λ (z : List ℕ). set_field g z e i (v + suc m)) (takes-snoc d a m))
        where
          here : (t : List ℕ) (w : ℕ) → entry_at g e + i < length t → field g (set_field g t e i w) e i ≡ w
          here t w k = unfold set_field field in get_or-set_same t (entry_at g e + i) w 0 k

          over : (t : List ℕ) (u w : ℕ) → set_field g (set_field g t e i u) e i w ≡ set_field g t e i w
          over t u w = unfold set_field in set-set t (entry_at g e + i) u w

-- How many at once --------------------------------------------------------------------------------------------------------------------

module _ (g : Geometry) (d : List ℕ) (after long left : ℕ) where
  pub none-full : 32 ≤ long → Further g d after long left 0
  none-full h =
      record {
        few = omega arith;
        short = λ z. absurd (let y : ⊥ = omega arith in y);
        inside = λ z. absurd (let y : ⊥ = omega arith in y);
        clear = λ k z. absurd (let y : ⊥ = omega arith in y);
        none = λ _ _. inl h;
      }

  pub none-past : granules g ≤ after → Further g d after long left 0
  none-past h =
      record {
        few = omega arith;
        short = λ z. absurd (let y : ⊥ = omega arith in y);
        inside = λ z. absurd (let y : ⊥ = omega arith in y);
        clear = λ k z. absurd (let y : ⊥ = omega arith in y);
        none = λ _ _. inr (inl h);
      }

  pub some-clear : {most r : ℕ} → long < 32 → after < granules g → most ≤ 32 - long → most ≤ left → most ≤ granules g - after → (0 < left → 0 < most)
      → ClearFrom g d after most r → Further g d after long left r
  some-clear {most} {r} h i a b c o f =
      let q = f.few in
      record {
        few = omega arith;
        short = λ z. omega arith;
        inside = λ z. omega arith;
        clear = f.clear;
        none = λ z e. let w = o z in inr (inr (ap (taken g d) (let y : after ≡ after + r = omega arith in y) ∙ f.ends (omega arith)));
      }

-- The turns ---------------------------------------------------------------------------------------------------------------------------

module _ (g : Geometry) (p : ℕ) (lowest : Bool) {writes : Bool} {k : ℕ} {d₀ : List ℕ} {last r next most slot : ℕ} where
  moved : {d d' : List ℕ} {a a' l l' n n' : ℕ} → d ≡ d' → a ≡ a' → l ≡ l' → n ≡ n'
      → TurningOn g p lowest writes k d₀ d last r a l next most slot n → TurningOn g p lowest writes k d₀ d' last r a' l' next most slot n'
  moved {d} {d'} {a} {a'} {l} {l'} {n} {n'} e f h q c =
      subst (λ (y : List ℕ). TurningOn g p lowest writes k d₀ y last r a' l' next most slot n') e
      (subst (λ (y : ℕ). TurningOn g p lowest writes k d₀ d last r y l' next most slot n') f
      (subst (λ (y : ℕ). TurningOn g p lowest writes k d₀ d last r a y next most slot n') h
      (subst (λ (y : ℕ). TurningOn g p lowest writes k d₀ d last r a l next most slot y) q c)))

  module _ {d : List ℕ} {a l left : ℕ} (c : TurningOn g p lowest writes k d₀ d last r a l next most slot left) where
    abbrev i : ℕ
    i = 0x17 + 2 * (r - 1)

    turns : (m : ℕ) → entry_at g last + i < length d → m ≤ left → l + m ≤ 32 → a + m ≤ granules g → ((j : ℕ) → j < m → taken g d (a + j) ≡ false)
        → TurningOn g p lowest writes k d₀ (longer g writes last i a m d) last r (a + m) (l + m) next most slot (left - m)
    turns zero t x y z f = moved (sym (longer-none g c.room last i a d t writes)) (sym (add-zero a)) (sym (add-zero l)) (sym (sub-zero left)) c
    turns (suc m) t x y z f =
        let w = turns m t (omega arith) (omega arith) (omega arith) (λ j h. f j (omega arith)) in
        moved refl (omega arith) (omega arith) (omega arith)
        (turn-longer g p lowest w (omega arith) (omega arith) (omega arith)
        (longer-taken g c.room last i a d t writes m (omega arith) ∙ f m (omega arith))
        (longer-more g c.room last i a d t writes m (omega arith)))

    pub turn-further : {m : ℕ} {d' : List ℕ} → r - 1 < 4 → 0 < m → Further g d a l left m → d' ≡ longer g writes last i a m d
        → TurningOn g p lowest writes k d₀ d' last r (a + m) (l + m) next most slot (left - m)
    turn-further {m} {d'} four some f e =
        let y = f.inside some in
        let t = (at_last g p lowest c (let z : a < granules g = omega arith in z)).entry in
        moved (sym e) refl refl refl (turns m (omega arith) f.few (f.short some) y f.clear)
