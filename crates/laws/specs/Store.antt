-- Bytes stored at places one after the other, and the places of a file
use Rattle.std.specs.Prelude.{◌≡◌, refl, ◌≢◌, List, [], ◌∷◌, ◌++◌, ℕ, zero, suc, ◌+◌, ◌-◌, ◌*◌, ◌/◌, ◌≤◌, ◌<◌, length, get_or, set}
use Rattle.std.proofs.Math.Path.{ap}
use Rattle.std.proofs.Common.{sym, ◌∙◌, arith, add-zero, length-set, get_or-set_same, get_or-set_other}
use Rattle.std.proofs.Math.Decide.{ℕ_discrete}
use Rattle.meaning.specs.Layout.{byte, granules, granule_bytes}
use Rattle.lists.specs.Sizes
use Rattle.meaning.specs.Chain.{owned, place}
use Rattle.meaning.specs.Write.{store}
use Rattle.meaning.specs.declared.Geometry.{Geometry}
use Rattle.lists.specs.Members
use Rattle.lists.specs.Members.{Distinct}
use Rattle.laws.specs.Facts.{Sound, IsFile}
use Rattle.laws.specs.Places
use Rattle.laws.specs.Change
use Rattle.laws.specs.Others

pub store_length : (F : ℕ → ℕ) (bs d : List ℕ) (i : ℕ) → length (store F d i bs) ≡ length d
unfolding store
store_length F [] d i = refl
store_length F (b ∷ bs) d i = store_length F bs (set d (F i) b) (i + 1) ∙ length-set d (F i) b

pub store_other : (F : ℕ → ℕ) (bs d : List ℕ) (i j : ℕ) → ((k : ℕ) → i ≤ k → k < i + length bs → j ≢ F k) → byte (store F d i bs) j ≡ byte d j
unfolding store
store_other F [] d i j n = refl
store_other F (b ∷ bs) d i j n =
    store_other F bs (set d (F i) b) (i + 1) j (λ k a e. n k (omega arith) (omega arith)) ∙ get_or-set_other d (F i) j b 0 (n i (omega arith) (omega arith))

-- a store by parts
pub store-append : (f : ℕ → ℕ) (d : List ℕ) (i : ℕ) (xs ys : List ℕ) → store f d i (xs ++ ys) ≡ store f (store f d i xs) (i + length xs) ys
unfolding store
store-append f d i [] ys = ap (λ (k : ℕ). store f d k ys) (sym (add-zero i))
store-append f d i (x ∷ xs) ys =
    let e : i + 1 + length xs ≡ i + suc (length xs) = omega arith in
    store-append f (set d (f i) x) (i + 1) xs ys ∙ ap (λ (k : ℕ). store f (store f (set d (f i) x) (i + 1) xs) k ys) e

pub store_at : (F : ℕ → ℕ) (bs d : List ℕ) (i k : ℕ) → i ≤ k → k < i + length bs
    → ((a b : ℕ) → i ≤ a → a < i + length bs → i ≤ b → b < i + length bs → F a ≡ F b → a ≡ b)
    → ((a : ℕ) → i ≤ a → a < i + length bs → F a < length d) → byte (store F d i bs) (F k) ≡ get_or bs (k - i) 0
unfolding store
store_at F [] d i k a b inj l = absurd (omega arith)
store_at F (x ∷ bs) d i k a b inj l = go (ℕ_discrete k i) (λ q. store_at F bs (set d (F i) x) (i + 1) k q (omega arith)
    (λ u v s t y z. inj u v (omega arith) (omega arith) (omega arith) (omega arith)) (λ u s t. rw length-set (l u (omega arith) (omega arith))))
  where
    go : Dec (k ≡ i) → (i + 1 ≤ k → byte (store F (set d (F i) x) (i + 1) bs) (F k) ≡ get_or bs (k - (i + 1)) 0) → byte (store F (set d (F i) x) (i + 1) bs)
        (F k) ≡ get_or (x ∷ bs) (k - i) 0
    go (yes q) ih =
        let z : k - i ≡ 0 = omega arith in
        rw z (rw q (store_other F bs (set d (F i) x) (i + 1) (F i) (λ j s t w. away j s t (inj i j (omega arith) (omega arith) (omega arith) (omega arith) w))
        ∙ get_or-set_same d (F i) x 0 (l i (omega arith) (omega arith))))
      where
        away : (j : ℕ) → i + 1 ≤ j → j < i + 1 + length bs → i ≡ j → ⊥
        away j s t w = omega arith
    go (no q) ih =
        let z : k - i ≡ suc (k - (i + 1)) = omega arith in
        rw z (ih (omega arith))

pub get_or-inj : {xs : List ℕ} → Distinct xs → (a b : ℕ) → a < length xs → b < length xs → get_or xs a 0 ≡ get_or xs b 0 → a ≡ b
get_or-inj Members.Distinct.done a b h l e = absurd (omega arith)
get_or-inj (Members.Distinct.fresh n r) zero zero h l e = refl
get_or-inj (Members.Distinct.fresh {xs = xs} n r) zero (suc b) h l e = absurd (n (rw e (Others.get_or-in xs b (omega arith))))
get_or-inj (Members.Distinct.fresh {xs = xs} n r) (suc a) zero h l e = absurd (n (rw (← e) (Others.get_or-in xs a (omega arith))))
get_or-inj (Members.Distinct.fresh n r) (suc a) (suc b) h l e = ap suc (get_or-inj r a b (omega arith) (omega arith) e)

module _ (g : Geometry) (d : List ℕ) (c : Sound g d) (k : Places.Fits g d) (p : ℕ) (f : IsFile g d p) where
  pub place-inj : (a b : ℕ) → a < granule_bytes g * length (owned g d p) → b < granule_bytes g * length (owned g d p) → place g d p a ≡ place g d p b → a ≡ b
  unfolding place
  place-inj a b h l e =
      let s = Sizes.same_width _ _ _ _ (Sizes.split k.wide a).rest (Sizes.split k.wide b).rest e in
      let q = get_or-inj (c.single p f) (a / granule_bytes g) (b / granule_bytes g) (Sizes.width-lt k.wide a _ h) (Sizes.width-lt k.wide b _ l) s.0 in
      omega (arith, Sizes.split k.wide a, Sizes.split k.wide b, s.1, ap (granule_bytes g *◌) q)

  pub place-lt : (a : ℕ) → a < granule_bytes g * length (owned g d p) → place g d p a < length d
  place-lt a h =
      let q = Change.owned-lt g d c p (place g d p a / granule_bytes g) f (Others.place_in g d p a h) in
      omega (arith, k.size, Sizes.lt-width k.wide (place g d p a) (granules g) q)
