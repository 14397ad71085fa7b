-- A growth turn by turn.
use mathlib.Core.Path.{◌≡◌, refl, ap, sym, ◌∙◌, subst}
use mathlib.Core.Logic.{◌≢◌, ⊎_elim}
use mathlib.Core.Bool.{Bool, true, false}
use mathlib.Core.List.{List}
use Prim.Native.Nat.{ℕ, zero, suc, ◌+◌, ◌-◌, ◌*◌, ◌≤◌, ◌<◌}
use native.Mathlib.Omega.{arith}
use native.Mathlib.Decide.{ℕ_discrete}
use lib.ListN.{length}
use Rattle.meaning.specs.Layout.{taken, take_granule, field, set_field, granules, most_granules}
use Rattle.meaning.specs.Growth.{tail, lengthens, with_pair, with_extension, take_at, grown, no_slot, grow_by, and_then, fails}
use Rattle.meaning.specs.Free.{free_granules, lowest_free, free_slot}
use Rattle.meaning.specs.declared.Geometry.{Geometry}
use Rattle.lists.specs.Members
use Rattle.laws.specs.Steps.{Ready}
use Rattle.laws.specs.TakeOne
use Rattle.laws_choice.specs.Stretches
use Rattle.laws_choice.specs.View.{view}
use Rattle.layout.specs.Room.{Room, Slot}
use Rattle.lists.specs.Tests.{le-or-lt}
use Rattle.layout.proofs.HasRoom.{slot-of}
use Rattle.passed.proofs.Ready.{walks}
use Rattle.space.proofs.First.{NoneBelow}
use Rattle.growth.specs.Choose.{choice_by, Known, Picked}
use Rattle.growth.specs.declared.Chosen.{Chosen}
use Rattle.growth.proofs.Known.{differ, known_start, known-less}
use Rattle.growth.proofs.Stand.{Stand}
use Rattle.growth_search.specs.Search.{Ends}
use Rattle.growth_search.specs.declared.Ending.{Ending}
use Rattle.growth.proofs.Step

-- each choice gives a free granule where there is one
pub chooses : (g : Geometry) (p : ℕ) (lowest : Bool) (d : List ℕ) → 1 ≤ length (free_granules g d) → Step.Free' g p (choice_by g lowest) d
chooses g p true d h = TakeOne.first-free g d h
chooses g p false d h =
    let a = TakeOne.first-free g d h in
    let b = Stretches.low_free (granules g) (view g 0 d) (lowest_free g d) (record { inside = a.0; clear = Members.no_false a.1 }) in
    (b.inside, λ t. Members.false-no b.clear t)

module _ (g : Geometry) (p : ℕ) (lowest : Bool) where
  abbrev choice : List ℕ → ℕ
  choice = choice_by g lowest

  -- one turn of the growth
  pub grow-more : (left : ℕ) (d d' : List ℕ) → 0 < left → take_at g p (choice d) d ≡ grown d' → grow_by g p choice left d ≡ grow_by g p choice (left - 1) d'
  unfolding grow_by and_then
  grow-more zero d d' h e = absurd (let z : ⊥ = omega arith in z)
  grow-more (suc left) d d' h e = let q : suc left - 1 ≡ left = omega arith in rw (e, q)

  pub grow-stuck : (left : ℕ) (d : List ℕ) → 0 < left → take_at g p (choice d) d ≡ no_slot → fails (grow_by g p choice left d) ≡ true
  unfolding grow_by and_then fails
  grow-stuck zero d h e = absurd (let z : ⊥ = omega arith in z)
  grow-stuck (suc left) d h e = rw e

  pub grow-done : (left : ℕ) (d : List ℕ) → left ≤ 0 → grow_by g p choice left d ≡ grown d
  unfolding grow_by
  grow-done zero d h = refl
  grow-done (suc left) d h = absurd (let z : ⊥ = omega arith in z)

  pub not_stuck : (d : List ℕ) → fails (grown d) ≡ false
  unfolding fails
  not_stuck d = refl

  -- `left` granules are to come on disk d; `next` and `most` say what is known of free ones, and no slot below `slot` is free
  pub record Growing (k : ℕ) (d₀ d : List ℕ) (e runs after long next most slot left : ℕ) : Type 0 where
    pub rest : grow_by g p choice k d₀ ≡ grow_by g p choice left d
    pub stand : Stand g p d e runs after long
    pub room : left ≤ length (free_granules g d)
    pub known : Known g d lowest next most
    pub slots : NoneBelow (free_slot g d) slot
    pub slot-low : slot ≤ 256
    pub few : runs ≤ 4
    pub short : long ≤ 32
    pub same-long : length d ≡ length d₀

  -- what the code asks of the disk at each turn
  pub stand-room : {d : List ℕ} {e r a l : ℕ} → Stand g p d e r a l → Room g d
  stand-room {d} s = (walks g d p s.ready).0.room

  pub stand-slot : {d : List ℕ} {e r a l : ℕ} → Stand g p d e r a l → Slot g d e
  stand-slot {d} {e} s = slot-of g d e (Members.T_true (Step.member' g d p s.ready s.last).slot)

  pub ready-slot : {d : List ℕ} → Ready g d p → Slot g d p
  ready-slot {d} y = slot-of g d p y.slot

  pub tail-slot : {d : List ℕ} {e : ℕ} → Ready g d p → e ≡ tail g p d → Slot g d e
  tail-slot {d} {e} y q = slot-of g d e (Members.T_true (Step.member' g d p y (sym q)).slot)

  pub stand-start : {d : List ℕ} {e : ℕ} {r : Ending} → Ready g d p → e ≡ tail g p d → Ends g d e r → Stand g p d e r.runs r.after r.long
  stand-start {d} {e} {r} y q w = ⊎_elim
      (λ (h : r.runs ≤ 0). Step.stand-none g p choice y (sym q) w.many (omega arith) (w.none (omega arith)))
      (λ (h : 0 < r.runs). Step.stand-run g p choice y (sym q) w.many h (w.after h).0 (w.after h).1) (le-or-lt r.runs 0)

  pub growing-start : {k : ℕ} {d : List ℕ} {e : ℕ} {r : Ending} → Ready g d p → e ≡ tail g p d → k ≤ length (free_granules g d) → Ends g d e r
      → Growing k d d e r.runs r.after r.long 0 most_granules 0 k
  growing-start {d = d} y q h w = record {
    rest = refl;
    stand = stand-start y q w;
    room = h;
    known = known_start g d lowest (walks g d p y).0.room.most;
    slots = λ n l. absurd (let z : ⊥ = omega arith in z);
    slot-low = omega arith;
    few = w.few;
    short = w.small;
    same-long = refl;
  }

  -- a granule taken: no more is free
  known-after : {d d' : List ℕ} {m next most : ℕ} → Step.Taken g p choice d d' m → Known g d lowest next most → Known g d' lowest next most
  known-after {d} {d'} {m} t = known-less g d d' (λ n h e. was n h e (ℕ_discrete n m))
    where
      was : (n : ℕ) → n < granules g → taken g d' n ≡ false → Dec (n ≡ m) → taken g d n ≡ false
      was n h e (yes q) = absurd (differ (ap (taken g d') q ∙ t.set') e)
      was n h e (no q) = sym (t.keeps n h q) ∙ e

  module _ {k : ℕ} {d₀ d : List ℕ} {e r a l next most slot left : ℕ} (c : Growing k d₀ d e r a l next most slot left) (h : 0 < left) where
    some-room : Step.Free' g p choice d
    some-room = chooses g p lowest d (omega (arith, c.room))

    -- 1. the last run grows
    pub growing-longer : l < 32 → (i : a < granules g) → taken g d a ≡ false → {d' : List ℕ}
        → d' ≡ take_granule g (set_field g d e (0x17 + 2 * (r - 1)) (field g d e (0x17 + 2 * (r - 1)) + 1)) a
        → Step.Taken g p choice d d' a × ((x : ℕ) → free_slot g d' x ≡ free_slot g d x) × Growing k d₀ d' e r (a + 1) (l + 1) next most slot (left - 1)
    unfolding Step.d₁
    growing-longer u i f {d'} q =
        let t : Step.Taken g p choice d d' a = rw q (Step.longer-taken g p choice c.stand u i f) in
        let s : (x : ℕ) → free_slot g d' x ≡ free_slot g d x = rw q (Step.longer-slots g p choice c.stand u i f) in (
          t,
          s,
          record {
            rest = c.rest ∙ grow-more left d d' h t.one;
            stand = rw q (Step.longer-stand g p choice c.stand u i f some-room);
            room = omega (arith, c.room, t.fewer);
            known = known-after t c.known;
            slots = λ x y. s x ∙ c.slots x y;
            slot-low = c.slot-low;
            few = c.few;
            short = omega arith;
            same-long = t.long ∙ c.same-long;
          },
        )

    -- the granule picked, and what is known with it
    pub record Pick (n most' : ℕ) : Type 0 where
      pub is : choice d ≡ n
      pub inside : n < granules g
      pub free : taken g d n ≡ false
      pub known : Known g d lowest n most'

    pub picked : {q : Chosen} → Picked g d lowest q → Pick q.at q.most
    picked {q} w =
        let h : Step.Free' g p choice d = some-room in
        record {
          is = w.is;
          inside = subst (λ (n : ℕ). n < granules g) w.is h.0;
          free = subst (λ (n : ℕ). taken g d n ≡ false) w.is (Members.no_false h.1);
          known = w.known;
        }

    -- 2. a new run in the last entry
    pub growing-pair : lengthens g p d ≡ false → r < 4 → {n most' : ℕ} → Pick n most' → {d' : List ℕ} → d' ≡ with_pair g d e r n
        → Step.Taken g p choice d d' n × ((x : ℕ) → free_slot g d' x ≡ free_slot g d x) × Growing k d₀ d' e (r + 1) (n + 1) 1 n most' slot (left - 1)
    unfolding Step.d₂
    growing-pair u v {n} o {d'} q =
        let i = o.inside in
        let t : Step.Taken g p choice d d' n = rw q (Step.pair-taken g p choice c.stand u v o.is i o.free) in
        let s : (x : ℕ) → free_slot g d' x ≡ free_slot g d x = rw q (Step.pair-slots g p choice c.stand u v o.is i o.free) in (
          t,
          s,
          record {
            rest = c.rest ∙ grow-more left d d' h t.one;
            stand = rw q (Step.pair-stand g p choice c.stand u v o.is i o.free some-room);
            room = omega (arith, c.room, t.fewer);
            known = known-after t o.known;
            slots = λ x y. s x ∙ c.slots x y;
            slot-low = c.slot-low;
            few = omega arith;
            short = omega arith;
            same-long = t.long ∙ c.same-long;
          },
        )

    -- 3. a run in a new extension
    pub growing-new : lengthens g p d ≡ false → 4 ≤ r → {n x most' : ℕ} → Pick n most' → x < 256 → NoneBelow (free_slot g d) x → free_slot g d x ≡ true
        → {d' : List ℕ} → d' ≡ with_pair g (with_extension g p d e x) x 0 n
        → Step.Taken g p choice d d' n × ((y : ℕ) → y ≢ x → free_slot g d' y ≡ free_slot g d y) × Growing k d₀ d' x 1 (n + 1) 1 n most' (x + 1) (left - 1)
    unfolding Step.d₃
    growing-new u v {n} {x} pk b slots o {d'} q =
        let i = pk.inside in
        let t : Step.Taken g p choice d d' n = rw q (Step.new-taken g p choice c.stand u v pk.is i pk.free b slots o) in
        let s : (y : ℕ) → y ≢ x → free_slot g d' y ≡ free_slot g d y = rw q (Step.new-slots g p choice c.stand u v pk.is i pk.free b slots o) in
        let z : free_slot g d' x ≡ false = rw q (Step.new-slot g p choice c.stand u v pk.is i pk.free b slots o) in (
          t,
          s,
          record {
            rest = c.rest ∙ grow-more left d d' h t.one;
            stand = rw q (Step.new-stand g p choice c.stand u v pk.is i pk.free b slots o some-room);
            room = omega (arith, c.room, t.fewer);
            known = known-after t pk.known;
            slots = λ y w. last s z y w (ℕ_discrete y x);
            slot-low = omega arith;
            few = omega arith;
            short = omega arith;
            same-long = t.long ∙ c.same-long;
          },
        )
      where
        last : ((y : ℕ) → y ≢ x → free_slot g d' y ≡ free_slot g d y) → free_slot g d' x ≡ false → (y : ℕ) → y < x + 1 → Dec (y ≡ x) → free_slot g d' y ≡ false
        last s z y w (yes e) = rw e z
        last s z y w (no e) = s y e ∙ slots y (omega arith)

    -- no slot is left
    pub growing-stuck : lengthens g p d ≡ false → 4 ≤ r → NoneBelow (free_slot g d) 256 → fails (grow_by g p choice k d₀) ≡ true
    growing-stuck u v none =
        ap fails c.rest ∙ grow-stuck left d h (Step.one_none g p choice d u (rw (c.stand.last, c.stand.many) v) none)

  pub growing-end : {k : ℕ} {d₀ d : List ℕ} {e r a l next most slot left : ℕ} → Growing k d₀ d e r a l next most slot left → left ≤ 0 → grown d ≡ grow_by g p
      choice k d₀
  growing-end {left = left} c h = sym (c.rest ∙ grow-done left _ h)
