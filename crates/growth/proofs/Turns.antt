-- The one loop of a growth, on paper and on the disk, by either choice: what it may ask and store at each turn, and what a turn leaves.
use mathlib.Core.Path.{◌≡◌, refl, ap, ap₂, sym, ◌∙◌, subst}
use mathlib.Core.Logic.{◌≢◌, ◌⊎◌, inl, inr, ⊎_elim}
use mathlib.Core.Bool.{Bool, true, false, cond, not}
use mathlib.Core.List.{List, [], ◌∷◌}
use Prim.Native.Nat.{ℕ, ◌+◌, ◌-◌, ◌*◌, ◌/◌, ◌%◌, ◌≤◌, ◌<◌, max}
use native.Mathlib.Omega.{arith}
use native.Mathlib.Decide.{ℕ_discrete}
use lib.ListN.{length, length-set, get_or}
use lib.Dec.{eqb}
use lib.Seq.{get_or-set_other, take-set-le, drop-set-lt}
use Rattle.meaning.specs.Lists.{count, first_or}
use Rattle.meaning.specs.Stretch.{stretch, longest_in, low_end}
use Rattle.meaning.specs.Layout.{taken, take_granule, field, set_field, granules, gat_at, entry_at, is_slot, directory_sectors, most_blocks}
use Rattle.meaning.specs.Layout.{most_granules}
use Rattle.meaning.specs.Growth.{tail, lengthens, grow_by, fails, disk_or, with_extension}
use Rattle.meaning.specs.Free.{free_granules, free_slot, permitted}
use Rattle.meaning.specs.declared.Geometry.{Geometry}
use Rattle.lists.specs.Members
use Rattle.lists.specs.Members.{In}
use Rattle.laws.specs.Places
use Rattle.laws.specs.Steps.{Ready}
use Rattle.laws.specs.Words.{words}
use Rattle.layout.specs.Room.{Room, Slot}
use Rattle.layout.proofs.OneStep.{gat-low}
use Rattle.lists.specs.Tests.{le-or-lt}
use Rattle.layout.proofs.HasRoom.{slot-of}
use Rattle.passed.proofs.Ready.{walks}
use Rattle.space.proofs.First.{NoneBelow}
use Rattle.growth_search.specs.Search.{Ends, NextSlot}
use Rattle.growth_search.specs.declared.Ending.{Ending}
use Rattle.growth.specs.Inside.{Inside}
use Rattle.growth.specs.Choose.{choice_by, OnlyGat, Leaves, Known, Picked}
use Rattle.growth.specs.declared.Chosen.{Chosen}
use Rattle.growth.proofs.Known.{known-less}
use Rattle.growth.proofs.Step
use Rattle.growth.proofs.Growing.{Growing, growing-start, growing-longer, growing-pair, growing-new, growing-stuck, growing-end, Pick, picked}
use Rattle.growth.proofs.Growing.{stand-room, stand-slot, ready-slot, not_stuck}
use Rattle.growth.proofs.Put.{extended-long}

-- A granule marked in the GAT of any disk: what else is read stays --------------------------------------------------------------------

module _ (g : Geometry) (d : List ℕ) (r : Room g d) (m : ℕ) (i : m < granules g) where
  low : m / g.units < most_blocks
  low = let a = gat-low g m i r.units-low in let b = r.blocks-high in omega arith

  gat-in : gat_at g m < length d
  gat-in = let a = low in let b = r.directory in let c = r.ten in let e = r.long in omega arith

  mark-long : length (take_granule g d m) ≡ length d
  unfolding words
  mark-long = length-set d (gat_at g m) _

  mark-same : taken g (take_granule g d m) m ≡ true
  unfolding words
  mark-same = ap (λ (x : ℕ). eqb x 1) (Places.marked-same g 1 (omega arith) d m gat-in)

  mark-other : (n : ℕ) → n ≢ m → taken g (take_granule g d m) n ≡ taken g d n
  unfolding words
  mark-other n q = Places.marked_other g 1 (omega arith) d m n q

  mark-byte : (at : ℕ) → 256 * g.start + most_blocks ≤ at → get_or (take_granule g d m) at 0 ≡ get_or d at 0
  unfolding words
  mark-byte at h = let a = low in get_or-set_other d (gat_at g m) at _ 0 (λ q. omega arith)

  mark-slots : (x : ℕ) → free_slot g (take_granule g d m) x ≡ free_slot g d x
  unfolding words
  mark-slots x = rw (mark-byte (256 * (g.start + 1) + 0x1f) (omega arith), mark-byte (256 * (g.start + 1) + x) (omega arith))

  mark-room : Room g (take_granule g d m)
  mark-room =
      let e : directory_sectors g (take_granule g d m) ≡ directory_sectors g d = unfold words in
      ap (λ (k : ℕ). 10 + k) (mark-byte (256 * (g.start + 1) + 0x1f) (omega arith)) in
      let l = mark-long in
      record {
        blocks-low = r.blocks-low;
        blocks-high = r.blocks-high;
        units-low = r.units-low;
        units-high = r.units-high;
        most = r.most;
        whole = l ∙ r.whole;
        long = l ∙ r.long;
        far = r.far;
        ten = rw e r.ten;
        thirty = rw e r.thirty;
        directory = rw e r.directory;
      }

  mark-gat : {d₀ : List ℕ} → OnlyGat g d₀ d → OnlyGat g d₀ (take_granule g d m)
  unfolding words
  mark-gat o =
      let a = low in
      record {
        long = mark-long ∙ o.long;
        below = take-set-le (256 * g.start) d (gat_at g m) _ (omega arith) ∙ o.below;
        behind = drop-set-lt (256 * g.start + most_blocks) d (gat_at g m) _ (omega arith) ∙ o.behind;
      }

-- Two disks with the same granules taken have the same low end
module _ (t u : ℕ → Bool) where
  stretch-eq : (ns : List ℕ) → ((n : ℕ) → In n ns → t n ≡ u n) → stretch t ns ≡ stretch u ns
  unfolding stretch
  stretch-eq [] h = refl
  stretch-eq (n ∷ ns) h = rw (h n Members.In.here, stretch-eq ns (λ m i. h m (Members.In.there i)))

  longest-eq : (ns : List ℕ) → ((n : ℕ) → In n ns → t n ≡ u n) → longest_in t ns ≡ longest_in u ns
  unfolding longest_in
  longest-eq [] h = refl
  longest-eq (n ∷ ns) h = ap₂ max (stretch-eq (n ∷ ns) h) (longest-eq ns (λ m i. h m (Members.In.there i)))

  low-eq : (ns : List ℕ) → ((n : ℕ) → In n ns → t n ≡ u n) → low_end t ns ≡ low_end u ns
  unfolding low_end
  low-eq [] h = refl
  low-eq (n ∷ ns) h = rw (stretch-eq (n ∷ ns) h, longest-eq ns (λ m i. h m (Members.In.there i)), low-eq ns (λ m i. h m (Members.In.there i)))

-- and the same choice
module _ (g : Geometry) (d d' : List ℕ) where
  free-eq : ((n : ℕ) → n < granules g → taken g d n ≡ taken g d' n) → free_granules g d ≡ free_granules g d'
  unfolding free_granules
  free-eq h = Members.keep-eq _ _ (count 0 (granules g)) (λ n i. ap not (h n (omega (arith, Members.count-in n 0 (granules g) i))))

  choice-eq : (lowest : Bool) → ((n : ℕ) → n < granules g → taken g d n ≡ taken g d' n) → choice_by g lowest d ≡ choice_by g lowest d'
  choice-eq true h = ap (first_or 0) (free-eq h)
  choice-eq false h = low-eq (taken g d) (taken g d') (count 0 (granules g)) (λ n i. h n (omega (arith, Members.count-in n 0 (granules g) i)))

module _ (g : Geometry) (p : ℕ) (lowest : Bool) where
  -- the disk d by then: the growth's where the loop writes, else only the GAT is
  pub record TurningOn (writes : Bool) (k : ℕ) (d₀ d : List ℕ) (last r a l next most slot left : ℕ) : Type 0 where
    pub now : List ℕ
    pub growing : Growing g p lowest k d₀ now last r a l next most slot left
    pub alike : (n : ℕ) → n < granules g → taken g d n ≡ taken g now n
    pub beyond : (x : ℕ) → slot ≤ x → free_slot g d x ≡ free_slot g now x
    pub room : Room g d
    pub same-long : length d ≡ length d₀
    pub wrote : writes ≡ true → d ≡ now
    pub marked : writes ≡ false → OnlyGat g d₀ d

  pub turning-start : {writes : Bool} {k : ℕ} {d : List ℕ} {e : ℕ} {r : Ending} → Ready g d p → e ≡ tail g p d → k ≤ length (free_granules g d) → Ends g d e r
      → TurningOn writes k d d e r.runs r.after r.long 0 most_granules 0 k
  turning-start {d = d} y q h w = record {
    now = d;
    growing = growing-start g p lowest y q h w;
    alike = λ n i. refl;
    beyond = λ x i. refl;
    room = (walks g d p y).0.room;
    same-long = refl;
    wrote = λ _. refl;
    marked = λ _. record { long = refl; below = refl; behind = refl };
  }

  -- a turn that takes granule m, and stores f in the entries
  turned : (b : Bool) {k : ℕ} {d₀ d d' now' : List ℕ} {last r a l next most slot left last' r' a' l' next' most' slot' left' m : ℕ}
      (c : TurningOn b k d₀ d last r a l next most slot left) → Growing g p lowest k d₀ now' last' r' a' l' next' most' slot' left'
      → Step.Taken g p (choice_by g lowest) c.now now' m → m < granules g
      → ((x : ℕ) → slot' ≤ x → free_slot g now' x ≡ free_slot g c.now x) → slot ≤ slot' → (f : List ℕ → List ℕ) → now' ≡ take_granule g (f c.now) m
      → d' ≡ take_granule g (cond b (f d) d) m → TurningOn b k d₀ d' last' r' a' l' next' most' slot' left'
  turned true {d' = d'} {now' = now'} {m = m} c y t i s o f e q =
      let z : d' ≡ now' = q ∙ ap (λ (x : List ℕ). take_granule g (f x) m) (c.wrote refl) ∙ sym e in
      record {
        now = now';
        growing = y;
        alike = λ n h. ap (λ (x : List ℕ). taken g x n) z;
        beyond = λ x h. ap (λ (w : List ℕ). free_slot g w x) z;
        room = subst (Room g) (sym z) (stand-room g p lowest y.stand);
        same-long = ap (λ (x : List ℕ). length x) z ∙ y.same-long;
        wrote = λ _. z;
        marked = λ b. absurd (Members.false-no b (Members.true-T {b = true} refl));
      }
  turned false {d₀ = d₀} {d = d} {d' = d'} {now' = now'} {slot' = slot'} {m = m} c y t i s o f e q = rw q (record {
    now = now';
    growing = y;
    alike = λ n h. both n h (ℕ_discrete n m);
    beyond = λ x h. mark-slots g d c.room m i x ∙ c.beyond x (omega arith) ∙ sym (s x h);
    room = mark-room g d c.room m i;
    same-long = mark-long g d c.room m i ∙ c.same-long;
    wrote = λ b. absurd (Members.false-no (sym b) (Members.true-T {b = true} refl));
    marked = λ b. mark-gat g d c.room m i (c.marked b);
  })
    where
      both : (n : ℕ) → n < granules g → Dec (n ≡ m) → taken g (take_granule g d m) n ≡ taken g now' n
      both n h (yes z) = ap (taken g (take_granule g d m)) z ∙ mark-same g d c.room m i ∙ sym t.set' ∙ ap (taken g now') (sym z)
      both n h (no z) = mark-other g d c.room m i n z ∙ c.alike n h ∙ sym (t.keeps n h z)

  -- two stores in one turn
  twice : (b : Bool) (d : List ℕ) {d₁ d₂ : List ℕ} (m : ℕ) (f h : List ℕ → List ℕ) → d₁ ≡ cond b (f d) d → d₂ ≡ take_granule g (cond b (h d₁) d₁) m
      → d₂ ≡ take_granule g (cond b (h (f d)) d) m
  twice true d m f h u v = v ∙ ap (λ (x : List ℕ). take_granule g (h x) m) u
  twice false d m f h u v = v ∙ ap (λ (x : List ℕ). take_granule g x m) u

  -- What the stores ask for --------------------------------------------------------------------------------------------------

  inside : {d : List ℕ} {e n : ℕ} → Room g d → Slot g d e → n < granules g → Inside g (length d) e n
  inside {d} {e} {n} r s h =
      let a = r.directory in let b = r.long in let c = s.low in let q = s.held in let w = gat-low g n h r.units-low in let v = r.blocks-high in
      record { entry = omega arith; units-low = r.units-low; units-high = r.units-high; block = omega arith }

  free-slot-is : {d : List ℕ} (x : ℕ) → free_slot g d x ≡ true → Slot g d x
  unfolding words
  free-slot-is {d} x q =
      slot-of g d x (Members.T_true (Members.and_l (is_slot g d x) _ (Members.and_l (permitted g d x) _ (Members.true-T {b = free_slot g d x} q))))

  module _ {writes : Bool} {k : ℕ} {d₀ d : List ℕ} {last r a l next most slot left : ℕ} (c : TurningOn writes k d₀ d last r a l next most slot left) where
    as_long : length c.now ≡ length d
    as_long = c.growing.same-long ∙ sym c.same-long

    pub at_last : {n : ℕ} → n < granules g → Inside g (length d) last n
    at_last {n} h =
        subst (λ (m : ℕ). Inside g m last n) as_long (inside (stand-room g p lowest c.growing.stand) (stand-slot g p lowest c.growing.stand) h)

    pub longer-fits : {m : ℕ} → 0 < m → l + m ≤ 32 → writes ≡ true → field g d last (0x17 + 2 * (r - 1)) % 32 + m < 32
    longer-fits {m} o h b =
        let w = (c.growing.stand.after (omega arith)).2 in
        subst (λ (z : List ℕ). field g z last (0x17 + 2 * (r - 1)) % 32 + m < 32) (sym (c.wrote b)) (omega arith)

    pub some_runs : l < 32 → (1 ≤ r) × (r - 1 < 4)
    some_runs h = let a = c.growing.few in let b = (c.growing.stand.after h).0 in (b, omega arith)

    new-slot : {x : ℕ} → NextSlot g d slot x → (x ≡ 256 → ⊥) → Slot g d x
    new-slot {x} s o = free-slot-is {d = d} x (s.found (let h = s.high in omega arith))

    pub new-places : {x : ℕ} → NextSlot g d slot x → (x ≡ 256 → ⊥)
        → (entry_at g last + 32 ≤ length d) × (entry_at g x + 32 ≤ length d) × (p < 256) × (last < 256) × (x < 256)
    new-places {x} s o =
        let rm = c.room in let a = rm.directory in let b = rm.long in
        let u = stand-slot g p lowest c.growing.stand in let u₀ = u.low in
        let rn = stand-room g p lowest c.growing.stand in let a' = rn.directory in let b' = rn.long in let u₁ = u.held in
        let t = new-slot s o in let t₀ = t.low in let t₁ = t.held in
        (omega arith, omega arith, (ready-slot g p lowest c.growing.stand.ready).low, u₀, t₀)

    pub at_new : {x n : ℕ} {d' : List ℕ} → NextSlot g d slot x → (x ≡ 256 → ⊥) → n < granules g → d' ≡ cond writes (with_extension g p d last x) d
        → Inside g (length d') x n
    at_new {x} {n} {d'} s o h q = subst (λ (m : ℕ). Inside g m x n) (sym (ap (λ (l : List ℕ). length l) q ∙ long writes)) (inside c.room (new-slot s o) h)
      where
        long : (b : Bool) → length (cond b (with_extension g p d last x) d) ≡ length d
        long true = extended-long g p d last x
        long false = refl

    -- A turn -------------------------------------------------------------------------------------------------------------------

    pub turn-shut : (32 ≤ l) ⊎ ((granules g ≤ a) ⊎ (taken g d a ≡ true)) → lengthens g p c.now ≡ false
    turn-shut (inl z) = c.growing.stand.full z
    turn-shut (inr (inl z)) = Step.shut-past g p (choice_by g lowest) c.growing.stand z
    turn-shut (inr (inr z)) = ⊎_elim
        (λ (y : granules g ≤ a). Step.shut-past g p (choice_by g lowest) c.growing.stand y)
        (λ (y : a < granules g). Step.shut-taken g p (choice_by g lowest) c.growing.stand (sym (c.alike a y) ∙ z)) (le-or-lt (granules g) a)

    module _ (h : 0 < left) where
      pub turn-picked : {q : Chosen} → Picked g d lowest q → Pick g p lowest c.growing h q.at q.most
      turn-picked w = picked g p lowest c.growing h (record {
        is = sym (choice-eq g d c.now lowest c.alike) ∙ w.is;
        known = known-less g d c.now (λ n i e. c.alike n i ∙ e) w.known;
      })

      pub turn-asks : (1 ≤ length (free_granules g d)) × Known g d lowest next most
      turn-asks = (
        omega (arith, c.growing.room, ap {B = ℕ} length (free-eq g d c.now c.alike)),
        known-less g c.now d (λ n i e. sym (c.alike n i) ∙ e) c.growing.known,
      )

      pub turn-longer : l < 32 → a < granules g → taken g d a ≡ false → {d' : List ℕ}
          → d' ≡ take_granule g (cond writes (set_field g d last (0x17 + 2 * (r - 1)) (field g d last (0x17 + 2 * (r - 1)) + 1)) d) a
          → TurningOn writes k d₀ d' last r (a + 1) (l + 1) next most slot (left - 1)
      turn-longer u i f q =
          let w = growing-longer g p lowest c.growing h u i (sym (c.alike a i) ∙ f) refl in
          turned writes c w.2 w.0 i (λ x y. w.1 x) (omega arith)
          (λ x. set_field g x last (0x17 + 2 * (r - 1)) (field g x last (0x17 + 2 * (r - 1)) + 1)) refl q

      pub turn-pair : lengthens g p c.now ≡ false → r < 4 → {n most' : ℕ} → Pick g p lowest c.growing h n most' → {d' : List ℕ}
          → d' ≡ take_granule g (cond writes (set_field g (set_field g d last (0x16 + 2 * r) (n / g.units)) last (0x17 + 2 * r) (n % g.units * 32)) d) n
          → TurningOn writes k d₀ d' last (r + 1) (n + 1) 1 n most' slot (left - 1)
      turn-pair u v {n} o q =
          let w = growing-pair g p lowest c.growing h u v o refl in
          turned writes c w.2 w.0 o.inside (λ x y. w.1 x) (omega arith)
          (λ x. set_field g (set_field g x last (0x16 + 2 * r) (n / g.units)) last (0x17 + 2 * r) (n % g.units * 32)) refl q

      slots-below : {x : ℕ} → NextSlot g d slot x → NoneBelow (free_slot g c.now) x
      slots-below w m b = ⊎_elim (λ (z : slot ≤ m). sym (c.beyond m z) ∙ w.passed m z b) (λ (z : m < slot). c.growing.slots m z) (le-or-lt slot m)

      pub turn-new : lengthens g p c.now ≡ false → 4 ≤ r → {n most' x : ℕ} → Pick g p lowest c.growing h n most' → NextSlot g d slot x → (x ≡ 256 → ⊥)
          → {d₁ d₂ : List ℕ} → d₁ ≡ cond writes (with_extension g p d last x) d
          → d₂ ≡ take_granule g (cond writes (set_field g (set_field g d₁ x (0x16 + 2 * 0) (n / g.units)) x (0x17 + 2 * 0) (n % g.units * 32)) d₁) n
          → TurningOn writes k d₀ d₂ x 1 (n + 1) 1 n most' (x + 1) (left - 1)
      turn-new u v {n} {most'} {x} o s ne q₁ q₂ =
          let hx = s.high in let lx = s.low in
          let i : x < 256 = omega arith in
          let w = growing-new g p lowest c.growing h u v o i (slots-below s) (sym (c.beyond x s.low) ∙ s.found i) refl in
          let F : List ℕ → List ℕ = λ y. set_field g (set_field g y x (0x16 + 2 * 0) (n / g.units)) x (0x17 + 2 * 0) (n % g.units * 32) in
          turned writes c w.2 w.0 o.inside (λ y z. w.1 y (λ e. omega arith)) (omega arith)
          (λ y. F (with_extension g p y last x)) refl (twice writes d n (λ y. with_extension g p y last x) F q₁ q₂)

      pub turn-stuck : (writes ≡ true → fails (grow_by g p (choice_by g lowest) k d₀) ≡ false) → lengthens g p c.now ≡ false → 4 ≤ r → {x : ℕ} → NextSlot g d
          slot x → x ≡ 256
          → Leaves g p k lowest writes d₀ true d
      turn-stuck fine u v s o =
          let e = growing-stuck g p lowest c.growing h u v (λ m b. slots-below s m (omega arith)) in
          record { number = sym e; wrote = λ b. absurd (Members.false-no (fine b) (Members.true-T e)); marked = c.marked }

    pub turn_end : left ≤ 0 → Leaves g p k lowest writes d₀ false d
    unfolding disk_or
    turn_end h =
        let e = growing-end g p lowest c.growing h in
        record {
          number = sym (ap fails (sym e) ∙ not_stuck g p lowest c.now);
          wrote = λ b. c.wrote b ∙ ap (disk_or d₀) e;
          marked = c.marked;
        }
