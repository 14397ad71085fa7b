-- The order in which slots are visited does not matter: two lists with the same slots, each once, have the same answer.
use mathlib.Core.Path.{◌≡◌, sym, ap, ◌∙◌}
use mathlib.Core.Logic.{◌⊎◌, inl, inr}
use mathlib.Core.List.{List, ◌∷◌}
use mathlib.Core.Bool.{Bool, true}
use Prim.Native.Nat.{ℕ, zero, suc, ◌+◌, ◌-◌, ◌*◌, ◌%◌, ◌≤◌, ◌<◌}
use native.Mathlib.Omega.{arith}
use lib.Dec.{T}
use lib.ListN.{length, get_or}
use Rattle.meaning.specs.Lists.{count, every, each}
use Rattle.meaning.specs.Layout.{slots, is_slot, directory_sectors}
use Rattle.meaning.specs.declared.Geometry.{Geometry}
use Rattle.layout.specs.Room.{Room}
use Rattle.lists.specs.Tests.{all-at, all_yes, all_none, le-or-lt}
use Rattle.layout.proofs.HasRoom.{slot-yes, slot-of}
use Rattle.check_map.specs.Marks.{marked}
use Rattle.lists.specs.Members
use Rattle.lists.specs.Members.{In, Distinct}
use Rattle.laws.specs.Facts
use Rattle.check_file.specs.Slots.{least_of, slot_fits, chain_of, owned_of, opens, one, slots_fit}
use Rattle.check_whole.specs.Slots.{by32, sector_slots, disk_slots}
use Rattle.check_whole.proofs.Maps

-- the same slots, each of them once
pub record SameSlots (xs ys : List ℕ) : Type 0 where
  pub there : (s : ℕ) → In s xs → In s ys
  pub back : (s : ℕ) → In s ys → In s xs
  pub once : Distinct xs
  pub once' : Distinct ys

pub turned : {xs ys : List ℕ} → SameSlots xs ys → SameSlots ys xs
turned a = record { there = a.back; back = a.there; once = a.once'; once' = a.once }

every-alike : (p : ℕ → Bool) {xs ys : List ℕ} → SameSlots xs ys → every p xs ≡ true → every p ys ≡ true
every-alike p {xs} {ys} a e = Members.T_true (Members.all-every p ys (λ s i. Members.every-all p (Members.true-T e) (a.back s i)))

opens-alike : (m : List ℕ) (low : ℕ → ℕ) (f : ℕ → List ℕ) {xs ys : List ℕ} → ((s : ℕ) → 1 ≤ low s) → SameSlots xs ys → opens m low f xs ≡ true → opens m low f
    ys
    ≡ true
opens-alike m low f {xs} {ys} pos a e =
    let o = Maps.opens-says low f pos xs m e in
    Maps.says-opens low f ys m (record {
      high = λ s n i j. o.high s n (a.back s i) j;
      once = Members.each-distinct f a.once' (λ s i. Members.distinct-each f o.once (a.back s i))
          (λ s t n i j p q. Members.each-apart f o.once (a.back s i) (a.back t j) p q);
    })

module _ (g : Geometry) (d : List ℕ) (least-low : (s : ℕ) → 1 ≤ least_of g d s) where
  fit-there : (m met : List ℕ) {xs ys : List ℕ} → SameSlots xs ys → slots_fit g d m met xs ≡ true → slots_fit g d m met ys ≡ true
  unfolding slots_fit
  fit-there m met a e =
      all_yes (every-alike (slot_fits g d) a (all-at _ e 0)) _ ∙ all_yes (opens-alike m (least_of g d) (owned_of g d) least-low a (all-at _ e 1)) _
      ∙ all_yes (opens-alike met one (chain_of g d) (λ s. omega arith) a (all-at _ e 2)) _ ∙ all_none

  pub fit-alike : (m met : List ℕ) {xs ys : List ℕ} → SameSlots xs ys → slots_fit g d m met xs ≡ slots_fit g d m met ys
  fit-alike m met a =
      Members.both-T (λ t. Members.true-T (fit-there m met a (Members.T_true t))) (λ t. Members.true-T (fit-there m met (turned a) (Members.T_true t)))

-- what is marked does not hang on the order
pub marked-alike : (met : List ℕ) (f : ℕ → List ℕ) {xs ys : List ℕ} → SameSlots xs ys → (n : ℕ) → n < length met
    → get_or (marked met 0 (each f xs)) n 0 ≡ get_or
    (marked met 0 (each f ys)) n 0
marked-alike met f {xs} {ys} a n l = go (Members.in? n (each f xs))
  where
    go : In n (each f xs) ⊎ (In n (each f xs) → ⊥) → get_or (marked met 0 (each f xs)) n 0 ≡ get_or (marked met 0 (each f ys)) n 0
    go (inl i) =
        let k = Members.each_in f n xs i in
        Maps.marked-in 0 n (each f xs) met i l ∙ sym (Maps.marked-in 0 n (each f ys) met (Members.in-each f (a.there k.0 k.1) k.2) l)
    go (inr i) =
        Maps.marked-out 0 n (each f xs) met i
        ∙ sym (Maps.marked-out 0 n (each f ys) met (λ j. let k = Members.each_in f n ys j in i (Members.in-each f (a.back k.0 k.1) k.2)))

-- The order on the disk -----------------------------------------------------------------------------------------------------

by32-in : (x n s : ℕ) → In x (by32 n s) → (s ≤ x) × (x < s + 32 * n) × (x % 32 ≡ s % 32)
unfolding by32
by32-in x zero s i = Members.none_in i
by32-in x (suc n) s i = go (Members.in-cons i) (by32-in x n (s + 32))
  where
    go : (x ≡ s) ⊎ In x (by32 n (s + 32)) → (In x (by32 n (s + 32)) → (s + 32 ≤ x) × (x < s + 32 + 32 * n) × (x % 32 ≡ (s + 32) % 32)) → (s ≤ x) ×
        (x < s + 32 * suc n) × (x % 32 ≡ s % 32)
    go (inl e) r = (omega arith, omega arith, ap (λ (y : ℕ). y % 32) e)
    go (inr j) r = let k = r j in (omega arith, omega arith, omega arith)

in-by32 : (x n s : ℕ) → s ≤ x → x < s + 32 * n → x % 32 ≡ s % 32 → In x (by32 n s)
unfolding by32
in-by32 x zero s a b e = absurd (let z : ⊥ = omega arith in z)
in-by32 x (suc n) s a b e = go (le-or-lt (s + 32) x) (in-by32 x n (s + 32))
  where
    go : (s + 32 ≤ x) ⊎ (x < s + 32) → (s + 32 ≤ x → x < s + 32 + 32 * n → x % 32 ≡ (s + 32) % 32 → In x (by32 n (s + 32))) → In x (s ∷ by32 n (s + 32))
    go (inl l) r = In.there (r l (omega arith) (omega arith))
    go (inr l) r = Members.head_in (by32 n (s + 32)) (omega arith)

by32-once : (n s : ℕ) → Distinct (by32 n s)
unfolding by32
by32-once zero s = Distinct.done
by32-once (suc n) s = Distinct.fresh (λ i. let k = by32-in s n (s + 32) i in let l = k.0 in omega arith) (by32-once n (s + 32))

pub disk-order : (g : Geometry) (d : List ℕ) → Room g d → SameSlots (disk_slots g d) (slots g d)
unfolding disk_slots sector_slots
disk-order g d room =
    record {
      there = λ s i.
          let k = Members.each_in sector_slots s (count 0 (directory_sectors g d - 2)) i in
          let c = Members.count-in k.0 0 (directory_sectors g d - 2) k.1 in
          let b = by32-in s 8 k.0 k.2 in
          let t = room.thirty in
          let u = b.1 in let v = b.2 in
          Facts.in-slots g d s (Members.true-T (slot-yes g d s (omega arith) (omega arith)));
      back = λ s i.
          let k = Facts.slots-in g d s i in
          Members.in-each sector_slots (Members.in_count (s % 32) 0 (directory_sectors g d - 2) (omega arith) (held s k))
          (in-by32 s 8 (s % 32) (omega arith) (let l = Facts.slot_lt g d s k in omega arith) (omega arith));
      once = Members.each-distinct sector_slots (Members.count-distinct 0 (directory_sectors g d - 2)) (λ x i. by32-once 8 x)
          (λ x y n i j a b.
          let p = Members.count-in x 0 (directory_sectors g d - 2) i in
          let q = Members.count-in y 0 (directory_sectors g d - 2) j in
          let u = (by32-in n 8 x a).2 in
          let v = (by32-in n 8 y b).2 in
          let t = room.thirty in omega arith);
      once' = Facts.slots-distinct g d;
    }
  where
    held : (s : ℕ) → T (is_slot g d s) → s % 32 < 0 + (directory_sectors g d - 2)
    held s t = let h = (slot-of g d s (Members.T_true t)).held in omega arith
