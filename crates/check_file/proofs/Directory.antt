-- The directory's granules in the owner map, and one file against them.
use mathlib.Core.Path.{◌≡◌, refl, sym, ap, ◌∙◌, subst}
use mathlib.Core.Logic.{◌⊎◌, inl, inr}
use mathlib.Core.List.{List, [], ◌∷◌}
use mathlib.Core.Bool.{Bool, true, false, cond}
use Prim.Native.Nat.{ℕ, ◌+◌, ◌/◌, ◌≤◌, ◌<◌}
use native.Mathlib.Omega.{arith}
use lib.Dec.{eqb}
use lib.ListN.{get_or}
use borrow.Author.Tests.{eq-eqb, eqb-true}
use Rattle.meaning.specs.Lists.{all}
use Rattle.meaning.specs.Bits.{bit}
use Rattle.meaning.specs.Layout.{granules, field, directory_granules, directory_sectors, granule_sectors, round_up}
use Rattle.lists.specs.Sizes
use Rattle.meaning.specs.Chain.{chain, owned}
use Rattle.meaning.specs.declared.Geometry.{Geometry}
use Rattle.layout.specs.Room.{Room}
use Rattle.lists.specs.Tests.{le-or-lt, all-at, all_yes, all_none, not-both}
use Rattle.lists.specs.Members
use Rattle.lists.specs.Members.{In}
use Rattle.check_map.specs.Marks.{marked, allows}
use Rattle.check_map.specs.Owners.{shut, standing}
use Rattle.check_map.specs.Eight.{Among}
use Rattle.check_map.proofs.Maps
use Rattle.check_map.proofs.Standing.{shut-lt, weight-low, weight-in, weight-out, standing-long, standing-open, standing-shut, open-if, shut-if}
use Rattle.check_map.proofs.Window.{none-shut, shut_none, same-shut, shut-same}
use Rattle.check_file.specs.Slots.{least, least_of, file_fits, FileSeen, Directory}

pub directory-lt : (g : Geometry) (d : List ℕ) → Room g d → (n : ℕ) → In n (directory_granules g d) → n < granules g
directory-lt g d room n i = let k = Members.count-in n (g.start / granule_sectors g) (round_up (directory_sectors g d) (granule_sectors g)) i in
    let e = Sizes.touched-inside (Sizes.sectors-pos g) g.start (directory_sectors g d) (granules g) room.directory in omega (arith, k, e)

module _ (g : Geometry) (d : List ℕ) (room : Room g d) {from bits : ℕ} (w : Directory g d from bits) where
  within : {n : ℕ} → In n (directory_granules g d) → (g.start / granule_sectors g ≤ n) ×
      (n < g.start / granule_sectors g + round_up (directory_sectors g d) (granule_sectors g))
  within {n} i = Members.count-in n (g.start / granule_sectors g) (round_up (directory_sectors g d) (granule_sectors g)) i

  inside : (n : ℕ) → g.start / granule_sectors g ≤ n → n < g.start / granule_sectors g + round_up (directory_sectors g d) (granule_sectors g) → In n
      (directory_granules g d)
  inside n h l = Members.in_count n (g.start / granule_sectors g) (round_up (directory_sectors g d) (granule_sectors g)) h l

  pub all-open : {m : List ℕ} {r : ℕ} → Among m from bits r → r ≡ 0 → (n : ℕ) → In n (directory_granules g d) → shut g.units m n ≡ 0
  all-open {m} a e n i = none-shut m w.spans room.units-low room.units-high w.window a.bytes (sym a.is ∙ e) n (within i).0 (within i).1

  pub open-all : {m : List ℕ} {r : ℕ} → Among m from bits r → ((n : ℕ) → In n (directory_granules g d) → shut g.units m n ≡ 0) → r ≡ 0
  open-all {m} a f = a.is ∙ shut_none m w.spans room.units-low room.units-high w.window a.bytes (λ n h l. f n (inside n h l))

  module _ {m m' : List ℕ} {r r' : ℕ} (a : Among m from bits r) (b : Among m' from bits r') where
    same : r' ≡ r → (n : ℕ) → In n (directory_granules g d) → shut g.units m n ≡ shut g.units m' n
    same e n i =
        same-shut m m' w.spans room.units-low room.units-high w.window a.bytes b.bytes (sym a.is ∙ sym e ∙ b.is) n (within i).0
        (within i).1

    same' : ((n : ℕ) → In n (directory_granules g d) → shut g.units m n ≡ shut g.units m' n) → r' ≡ r
    same' f = b.is ∙ sym (shut-same m m' w.spans room.units-low room.units-high w.window a.bytes b.bytes (λ n h l. f n (inside n h l))) ∙
        sym a.is

    -- The granules xs were open and have been taken. The directory's bits are as they were exactly if none of xs lies in the directory.
    module _ (xs : List ℕ) (o : allows (standing g d m) 1 0 xs ≡ true) (e : standing g d m' ≡ marked (standing g d m) 0 xs) where
      open' : Maps.Open (standing g d m) 1 xs
      open' = Maps.allows-says 1 0 xs (standing g d m) (omega arith) o

      low : (n : ℕ) → In n xs → n < granules g
      low n i = rw (standing-long g d m) at (Maps.in-range (standing g d m) n (open'.high n i))

      off : r' ≡ r → (n : ℕ) → In n xs → In n (directory_granules g d) → ⊥
      off q n i j =
          let l = low n i in
          let x = open-if g d m n l (open'.high n i) in
          let z : ◌≡◌ {A = ℕ} (get_or (standing g d m') n 0) 0 = ap (λ (y : List ℕ). get_or y n 0) e ∙ Maps.marked-in 0 n xs (standing g d m) i
          (rw (standing-long g d m) l) in
          let y = shut-if g d m' n l z in
          let s = same q n j in omega arith

      pub off-says : r' ≡ r → allows (standing g d m) 2 0 xs ≡ true
      off-says q =
          Maps.says-allows 2 0 xs (standing g d m) (record {
            high =
                λ n i.
                let l = low n i in
                let x = standing-open g d m n l (open-if g d m n l (open'.high n i)) in
                let v = weight-out g d n (off q n i) in omega arith;
            once = open'.once;
          })

      pub says-off : allows (standing g d m) 2 0 xs ≡ true → r' ≡ r
      says-off q = same' (λ n i. alike n i (out n i))
        where
          two : Maps.Open (standing g d m) 2 xs
          two = Maps.allows-says 2 0 xs (standing g d m) (omega arith) q

          out : (n : ℕ) → In n (directory_granules g d) → In n xs → ⊥
          out n i j =
              let l = low n j in
              let x = standing-open g d m n l (open-if g d m n l (open'.high n j)) in
              let v = weight-in g d n i in
              let h = two.high n j in omega arith

          alike : (n : ℕ) → In n (directory_granules g d) → (In n xs → ⊥) → shut g.units m n ≡ shut g.units m' n
          alike n i f = go (le-or-lt 1 (shut g.units m n))
            where
              l : n < granules g
              l = directory-lt g d room n i

              kept : get_or (standing g d m') n 0 ≡ get_or (standing g d m) n 0
              kept = ap (λ (y : List ℕ). get_or y n 0) e ∙ Maps.marked-out 0 n xs (standing g d m) f

              go : (1 ≤ shut g.units m n) ⊎ (shut g.units m n < 1) → shut g.units m n ≡ shut g.units m' n
              go (inl h) =
                  let k = shut-lt g.units m n in
                  let z = standing-shut g d m n l (omega arith) in
                  let y = shut-if g d m' n l (kept ∙ z) in omega arith
              go (inr h) =
                  let z = standing-open g d m n l (omega arith) in
                  let v = weight-low g d n in
                  let c = kept in
                  let y = open-if g d m' n l (omega arith) in omega arith

-- One file ------------------------------------------------------------------------------------------------------------------

-- what is open at a higher number is open at 1
allows-less : (low : ℕ) (xs m : List ℕ) → 1 ≤ low → allows m low 0 xs ≡ true → allows m 1 0 xs ≡ true
allows-less low xs m h e =
    let o = Maps.allows-says low 0 xs m h e in
    Maps.says-allows 1 0 xs m (record { high = λ n i. let z = o.high n i in omega arith; once = o.once })

module _ (g : Geometry) (d : List ℕ) (s : ℕ) where
  one-or-two : (low : ℕ) → low ≡ least_of g d s → 1 ≤ low
  unfolding least
  one-or-two low e = rw e (go (bit 6 (field g d s 0)))
    where
      go : (b : Bool) → 1 ≤ cond b 1 2
      go true = omega arith
      go false = omega arith

  -- the walk refused the file
  pub file-refused : {m m' m'' met met' met'' : List ℕ} {r : Bool} → FileSeen g d s 1 m m' met met' r → r ≡ false
      → FileSeen g d s (least_of g d s) m m'' met met''
      false
  file-refused {m} {m'} {m''} {met} {met'} {met''} {r} f e =
      record {
        answer =
            sym (Members.no_false {b = all (file_fits g d s ∷ allows m (least_of g d s) 0 (owned g d s) ∷ allows met 1 0 (chain g d s) ∷ [])} (λ t.
            not-both (whole (Members.T_true t)) (sym f.answer ∙ e)));
        map = λ q. not-both q refl;
        meets = λ q. not-both q refl;
      }
    where
      whole : all (file_fits g d s ∷ allows m (least_of g d s) 0 (owned g d s) ∷ allows met 1 0 (chain g d s) ∷ []) ≡ true
          → all (file_fits g d s ∷ allows m 1 0 (owned g d s) ∷ allows met 1 0 (chain g d s) ∷ []) ≡ true
      whole t = all_yes (all-at _ t 0) _ ∙ all_yes (allows-less (least_of g d s) (owned g d s) m (one-or-two _ refl) (all-at _ t 1)) _ ∙ all_yes (all-at _ t 2)
          _ ∙ all_none

  -- a system file
  pub file-system : {m m' met met' : List ℕ} {f : ℕ} {b r : Bool} → f ≡ field g d s 0 → b ≡ bit 6 f → b ≡ true
      → FileSeen g d s 1 m m' met met' r → r ≡ true → FileSeen g d s (least_of g d s) m m' met met' b
  unfolding least
  file-system {m} {m'} {met} {met'} {b = b} e q y w t =
      let l : ◌≡◌ {A = ℕ} (least_of g d s) 1 = ap {B = ℕ} (λ (b : Bool). cond b 1 2) (ap (bit 6) (sym e) ∙ sym q ∙ y) in
      subst (λ (low : ℕ). FileSeen g d s low m m' met met' b) (sym l) (subst (λ (r : Bool). FileSeen g d s 1 m m' met met' r) (t ∙ sym y) w)

  -- any other
  pub file-other : {m m' met met' : List ℕ} {f from bits x y : ℕ} {r : Bool} → Room g d → Directory g d from bits → f ≡ field g d s 0
      → bit 6 f ≡ false
      → FileSeen g d s 1 (standing g d m) (standing g d m') met met' r → r ≡ true → Among m from bits x → Among m' from bits y
      → FileSeen g d s (least_of g d s) (standing g d m) (standing g d m') met met' (eqb y x)
  unfolding least
  file-other {m} {m'} {met} {met'} {f} {from} {bits} {x} {y} {r} room k e b w t a c =
      let l : ◌≡◌ {A = ℕ} (least_of g d s) 2 = ap {B = ℕ} (λ (b : Bool). cond b 1 2) (ap (bit 6) (sym e) ∙ b) in
      record {
        answer =
            Members.both-T
            (λ q. Members.true-T (all_yes (all-at _ held 0) _ ∙ all_yes
            (ap (λ (low : ℕ). allows (standing g d m) low 0 (owned g d s)) l ∙ off-says g d room k a c (owned g d s) (all-at _ held 1) (w.map t)
            (eqb-true _ _ (Members.T_true q))) _
            ∙ all_yes (all-at _ held 2) _ ∙ all_none))
            (λ q. Members.true-T (eq-eqb _ _ (says-off g d room k a c (owned g d s) (all-at _ held 1) (w.map t)
            (sym (ap (λ (low : ℕ). allows (standing g d m) low 0 (owned g d s)) l) ∙ all-at
            (file_fits g d s ∷ allows (standing g d m) (least_of g d s) 0 (owned g d s) ∷ allows met 1 0 (chain g d s) ∷ []) (Members.T_true q) 1))));
        map = λ q. w.map t;
        meets = λ q. w.meets t;
      }
    where
      held : all (file_fits g d s ∷ allows (standing g d m) 1 0 (owned g d s) ∷ allows met 1 0 (chain g d s) ∷ []) ≡ true
      held = sym w.answer ∙ t
