-- A store by parts.
use mathlib.Core.Path.{◌≡◌, refl, sym, ap, ◌∙◌}
use mathlib.Core.List.{List, [], ◌∷◌, ◌++◌}
use Prim.Native.Nat.{ℕ, suc, ◌+◌, ◌-◌, ◌*◌, ◌/◌, ◌≤◌, ◌<◌}
use native.Mathlib.Omega.{arith}
use native.Mathlib.Numerals.{add-one}
use lib.ListN.{length, take, drop, set, length-drop, replicate, length-replicate, replicate-append-replicate}
use lib.Seq.{sets, take-add, length-take-le}
use Rattle.meaning.specs.Chain.{place}
use Rattle.meaning.specs.Write.{store}
use Rattle.meaning.specs.declared.Geometry.{Geometry}
use Rattle.laws.specs.Store.{store-append}
use mathlib.Core.Logic.{⊎_elim, ◌⊎◌, inl, inr}
use Rattle.meaning.specs.Layout.{directory_sectors, granule_bytes}
use Rattle.lists.specs.Sizes
use Rattle.meaning.specs.Chain.{owned}
use Rattle.layout.specs.Room.{Room}
use Rattle.seek.proofs.Frame.{Same, same_refl, same-trans, same-before, same-behind, same-sectors, same_place, same-room, same-sound, same-used, same-owned}
use Rattle.write.specs.Apart.{Apart}
use Rattle.read.specs.Part.{Readable, Within, Owned, InGranule}
use Rattle.read.proofs.ReadParts.{place-next}

-- places that follow one another
pub store-run : (f : ℕ → ℕ) (d : List ℕ) (i : ℕ) (bs : List ℕ) → ((t : ℕ) → t < length bs → f (i + t) ≡ f i + t) → store f d i bs ≡ sets d (f i) bs
unfolding store
store-run f d i [] h = refl
store-run f d i (b ∷ []) h = refl
store-run f d i (b ∷ b' ∷ bs) h =
    let e : f (i + 1) ≡ suc (f i) = h 1 (omega arith) ∙ add-one (f i) in
    store-run f (set d (f i) b) (i + 1) (b' ∷ bs)
    (λ t l. let u : i + 1 + t ≡ i + (1 + t) = omega arith in let v : f i + (1 + t) ≡ suc (f i) + t = omega arith in
    ap f u ∙ h (1 + t) (omega arith) ∙ v ∙ ap (λ (k : ℕ). k + t) (sym e))
    ∙ ap (λ (k : ℕ). sets (set d (f i) b) k (b' ∷ bs)) e

module _ (g : Geometry) (d : List ℕ) where
  -- a part in one granule, put into whatever the image is by then
  pub stored-part : (s i : ℕ) (d' bs : List ℕ) → InGranule g i (length bs) → store (place g d s) d' i bs ≡ sets d' (place g d s i) bs
  stored-part s i d' bs x = let y = x.inside in store-run (place g d s) d' i bs (λ t l. place-next g d s i t (omega arith))

-- bytes stored before the directory, or behind it
sets-before : (g : Geometry) (d : List ℕ) (i : ℕ) (bs : List ℕ) → Room g d → i + length bs ≤ 256 * g.start → Same g d (sets d i bs)
sets-before g d i [] r h = same_refl g d
sets-before g d i (b ∷ bs) r h =
    let e = same-before g d i b (omega arith) in
    same-trans g d (set d i b) (sets (set d i b) (suc i) bs) r e (sets-before g (set d i b) (suc i) bs (same-room g d (set d i b) r e) (omega arith))

sets_behind : (g : Geometry) (d : List ℕ) (i : ℕ) (bs : List ℕ) → Room g d → 256 * (g.start + directory_sectors g d) ≤ i → Same g d (sets d i bs)
sets_behind g d i [] r h = same_refl g d
sets_behind g d i (b ∷ bs) r h =
    let e = same-behind g d i b h in
    let q = same-sectors g d (set d i b) r e in
    same-trans g d (set d i b) (sets (set d i b) (suc i) bs) r e (sets_behind g (set d i b) (suc i) bs (same-room g d (set d i b) r e) (rw q (omega arith)))

module _ (g : Geometry) (d : List ℕ) where
  -- the image with the bytes xs of the file, from byte i on
  abbrev pub stored : (s i : ℕ) → List ℕ → List ℕ
  stored s i xs = store (place g d s) d i xs

  -- the bytes xs are stored, from byte i on
  pub record Storing (s i : ℕ) (xs d' : List ℕ) : Type 0 where
    pub is : d' ≡ stored s i xs
    pub same : Same g d d'

  pub storing-start : (s i : ℕ) → Storing s i [] d
  unfolding store
  storing-start s i = record { is = refl; same = same_refl g d }

  pub apart-at : (s i m : ℕ) → Apart g d s → Owned g d s i m → InGranule g i m
      → (place g d s i + m ≤ 256 * g.start) ⊎ (256 * (g.start + directory_sectors g d) ≤ place g d s i)
  unfolding place
  apart-at s i m a o x =
      let y = x.inside in let z = o.owned in let w = o.some in
      ⊎_elim (λ h. inl (omega arith)) (λ h. inr (omega arith)) (a.apart (i / granule_bytes g) (Sizes.width-lt (Sizes.bytes_pos g) i _ (omega arith)))

  pub storing-step : {s i p : ℕ} (xs ys : List ℕ) {d' d'' : List ℕ} → Readable g d s → Apart g d s → Storing s i xs d' → Owned g d s (i + length xs)
      (length ys)
      → InGranule g (i + length xs) (length ys) → p ≡ place g d s (i + length xs) → d'' ≡ sets d' p ys → Storing s i (xs ++ ys) d''
  storing-step {s} {i} {p} xs ys {d'} {d''} f a z o x e q =
      let at = i + length xs in
      let w : d'' ≡ sets d' (place g d s at) ys = q ∙ ap (λ (k : ℕ). sets d' k ys) e in
      let rm = f.sound.room in
      let v = same-sectors g d d' rm z.same in
      record {
        is =
            w ∙ sym (stored-part g d s at d' ys x) ∙ ap (λ (u : List ℕ). store (place g d s) u at ys) z.is
            ∙ sym (store-append (place g d s) d i xs ys);
        same =
            rw w (same-trans g d d' (sets d' (place g d s at) ys) rm z.same
            (⊎_elim
            (λ h. sets-before g d' (place g d s at) ys (same-room g d d' rm z.same) h)
            (λ h. sets_behind g d' (place g d s at) ys (same-room g d d' rm z.same) (rw v h))
            (apart-at s at (length ys) a o x)));
      }

  -- m bytes more of those that a function takes from its source, or m zeros more: `done` of them are stored
  module _ {s i p : ℕ} (done m : ℕ) {d' d'' : List ℕ} (f : Readable g d s) (a : Apart g d s) (o : Owned g d s (i + done) m) (x : InGranule g (i + done) m)
      (e : p ≡ place g d s (i + done)) where
    more : (xs ys : List ℕ) → length xs ≡ done → length ys ≡ m → Storing s i xs d' → d'' ≡ sets d' p ys → Storing s i (xs ++ ys) d''
    more xs ys u v z q =
        storing-step xs ys f a z (rw (u, v) o) (rw (u, v) x) (e ∙ ap (λ (k : ℕ). place g d s (i + k)) (sym u)) q

    pub bytes-step : (src : List ℕ) → done + m ≤ length src → Storing s i (take done src) d'
        → d'' ≡ sets d' p (take m (drop done src)) → Storing s i (take (done + m) src) d''
    bytes-step src l z q =
        rw take-add (more (take done src) (take m (drop done src)) (length-take-le done src (omega arith))
        (length-take-le m (drop done src) (simp length-drop (omega arith))) z q)

    pub zeros-step : Storing s i (replicate done 0) d' → d'' ≡ sets d' p (replicate m 0) → Storing s i (replicate (done + m) 0) d''
    zeros-step z q =
        rw (← replicate-append-replicate {A = ℕ} done m 0) (more (replicate done 0) (replicate m 0) (length-replicate done 0) (length-replicate m 0) z q)

-- the same places, told by another function
store-place : (f f' : ℕ → ℕ) (d : List ℕ) (i : ℕ) (bs : List ℕ) → ((j : ℕ) → f j ≡ f' j) → store f d i bs ≡ store f' d i bs
unfolding store
store-place f f' d i [] e = refl
store-place f f' d i (b ∷ bs) e = ap (λ (k : ℕ). store f (set d k b) (i + 1) bs) (e i) ∙ store-place f f' (set d (f' i) b) (i + 1) bs e

module _ (g : Geometry) (d : List ℕ) (s : ℕ) (f : Readable g d s) (a : Apart g d s) where
  -- bytes of the file stored: HIT and entries are as they were
  store_same : (bs : List ℕ) (i : ℕ) (d' : List ℕ) → i + length bs ≤ granule_bytes g * length (owned g d s) → i + length bs ≤ 16777215
      → Same g d d' → Same g d (store (place g d s) d' i bs)
  unfolding store
  store_same [] i d' h l e = e
  store_same (b ∷ bs) i d' h l e =
      let rm = f.sound.room in
      store_same bs (i + 1) (set d' (place g d s i) b) (omega arith) (omega arith)
      (same-trans g d d' (set d' (place g d s i) b) rm e
      (⊎_elim
      (λ w. same-before g d' (place g d s i) b (omega arith))
      (λ w. same-behind g d' (place g d s i) b (rw (same-sectors g d d' rm e) w))
      (apart-at g d s i 1 a (record { some = omega arith; owned = omega arith; high = omega arith })
      (record { inside = omega (arith, (Sizes.split (Sizes.bytes_pos g) i).rest) }))))

  -- the zeros, then the record
  module _ {old at n zeros : ℕ} {d' : List ℕ} (o : Within g d s at n) (h : old ≤ granule_bytes g * length (owned g d s)) (l : old < 16777216)
      (z : zeros ≡ at - old)
      (e : d' ≡ store (place g d s) d old (replicate zeros 0)) where
    pub gap_within : Within g d s old zeros
    gap_within = let u = o.owned in let v = o.high in record { owned = omega arith; high = omega arith }

    pub gap_same : Same g d d'
    gap_same = rw e (store_same (replicate zeros 0) old d (rw length-replicate gap_within.owned) (rw length-replicate gap_within.high) (same_refl g d))

    pub gap-file : Readable g d' s
    gap-file = record { sound = same-sound g d d' f.sound gap_same; used = same-used g d d' f.sound.room gap_same f.used }

    pub gap-apart : Apart g d' s
    gap-apart = record { apart = rw (same-owned g d d' f.sound gap_same s f.used, same-sectors g d d' f.sound.room gap_same) a.apart }

    pub gap-then : Within g d' s at n
    gap-then = record { owned = rw (same-owned g d d' f.sound gap_same s f.used) o.owned; high = o.high }

    pub recorded : (bs : List ℕ) {d'' : List ℕ} → d'' ≡ store (place g d' s) d' at bs
        → d'' ≡ store (place g d s) (store (place g d s) d old (replicate (at - old) 0)) at bs
    recorded bs {d''} q =
        q ∙ store-place (place g d' s) (place g d s) d' at bs (λ j. same_place g d d' f.sound gap_same s j f.used)
        ∙ ap (λ (x : List ℕ). store (place g d s) x at bs) (e ∙ ap (λ (k : ℕ). store (place g d s) d old (replicate k 0)) z)
