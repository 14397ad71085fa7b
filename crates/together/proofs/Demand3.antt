-- Demand 3, proved; it is stated in Statement.antt
use Rattle.std.specs.Prelude.{◌≡◌, ◌≢◌, ℕ}
use Rattle.std.proofs.Math.Path.{refl, subst}
use Rattle.std.proofs.Common.{ap, sym, ◌∙◌}
use mathlib.Core.List.{List, [], ◌∷◌, List-discrete}
use Rattle.std.proofs.Math.Decide.{ℕ_discrete}
use Rattle.meaning.specs.Names.{fold}
use Rattle.meaning.specs.Plain.{Found, found, nothing, plain}
use Rattle.promises_words.specs.Untouched.{hush}
use Rattle.promises_words.specs.Given.{AreBytes}
use Rattle.meaning.specs.declared.Geometry.{Geometry}
use Rattle.laws.specs.Facts
use Rattle.together.specs.Statement.{Name, Step, Turn, one, two, Interleaving, none, left, right, AllBring, World, start, next, after, Taken, Accepted}
use Rattle.together.specs.Statement.{Quiet, AllQuiet, Same, Demand3}
use Rattle.together.specs.State.{FileState, stands, effect, Good}
use Rattle.together.proofs.Interleavings
use Rattle.together.proofs.Interleavings.{Fine, swap, state_in}
use Rattle.together.proofs.Heard
use Rattle.together.specs.SameFiles.{hushed-same, same_whole}
use Rattle.together.specs.Quiet
use Rattle.together.specs.Quiet.{Even, tally}
use Rattle.together.proofs.Bytes
use Rattle.together.proofs.Bytes.{Evenly}

-- Whether a call takes or gives back something hangs on its own list alone ---------------------------------------------------

-- no call of the list, from that state on, changes whether there is a file and how many granules it owns
unfoldable Evens : Geometry → Name → List Step → FileState → Type 0
Evens g n [] o = Unit {0}
Evens g n (c ∷ cs) o = (tally (effect g n c o).file ≡ tally o.file) × Evens g n cs (effect g n c o)

tally-stands : (g : Geometry) (d : List ℕ) (n : Name) → tally (stands g d n) ≡ tally (plain g d n)
unfolding stands
tally-stands g d n = go (plain g d n)
  where
    go : (x : Found) → tally (hush x) ≡ tally x
    go nothing = unfold hush in refl
    go (found f) = unfold hush tally in refl

even-stands : (g : Geometry) (n : Name) (d d' : List ℕ) (x : Found) → stands g d' n ≡ x → Even g n d d' → tally x ≡ tally (stands g d n)
even-stands g n d d' x e q = sym (ap tally e) ∙ tally-stands g d' n ∙ q ∙ sym (tally-stands g d n)

stands-even : (g : Geometry) (n : Name) (d d' : List ℕ) (x : Found) → stands g d' n ≡ x → tally x ≡ tally (stands g d n) → Even g n d d'
stands-even g n d d' x e q = sym (tally-stands g d' n) ∙ ap tally e ∙ q ∙ tally-stands g d n

fine-sound : (g : Geometry) (a b : Name) (w : World) → Fine g a b w → Facts.Sound g w.disk
unfolding Good
fine-sound g a b w k = Facts.sound g w.disk k.good.1

module _ (g : Geometry) (a b : Name) where
  quiet-evenly : (zs : List Turn) (w : World) → Fine g a b w → Accepted g a b w zs → AllQuiet g a b w zs → Evenly g a b w zs
  quiet-evenly [] w k t q = tt
  quiet-evenly (one c ∷ zs) w k t q =
      let v = next g a b w (one c) in let h = Interleavings.fine-next g a b w (one c) k t.0 in
      ((t.0, Quiet.quiet-even g (fold a) w.disk v.disk (fine-sound g a b w k) (fine-sound g a b v h) q.0), quiet-evenly zs v h t.1 q.1)
  quiet-evenly (two c ∷ zs) w k t q =
      let v = next g a b w (two c) in let h = Interleavings.fine-next g a b w (two c) k t.0 in
      ((t.0, Quiet.quiet-even g (fold b) w.disk v.disk (fine-sound g a b w k) (fine-sound g a b v h) q.0), quiet-evenly zs v h t.1 q.1)

  evenly-list : fold a ≢ fold b → {xs ys : List Step} {zs : List Turn} → Interleaving xs ys zs → (w : World) → Fine g a b w → Evenly g a b w zs → Evens g
      (fold a) xs (state_in g a w)
  unfolding Evens
  evenly-list ab none w k t = tt
  evenly-list ab (left {x = c} {xs = xs} i) w k t =
      let v = next g a b w (one c) in let e = Interleavings.own_turn g a b w c k t.0.0 in (
        even-stands g (fold a) w.disk v.disk (effect g (fold a) c (state_in g a w)).file (ap (λ (o : FileState). o.file) e) t.0.1,
        subst (Evens g (fold a) xs) e (evenly-list ab i v (Interleavings.fine-next g a b w (one c) k t.0.0) t.1),
      )
  evenly-list ab (right {y = c} {xs = xs} i) w k t =
      subst (Evens g (fold a) xs) (Interleavings.other-turn g a b ab w c k t.0.0)
      (evenly-list ab i (next g a b w (two c)) (Interleavings.fine-next g a b w (two c) k t.0.0) t.1)

-- a turn of the first list is even if its list is from here on
list-turn : (g : Geometry) (a b : Name) (w : World) (c : Step) (xs : List Step) → Fine g a b w → Taken g a b w (one c) → Evens g (fold a) (c ∷ xs)
    (state_in g a w)
    → Even g (fold a) w.disk (next g a b w (one c)).disk × Evens g (fold a) xs (state_in g a (next g a b w (one c)))
unfolding Evens
list-turn g a b w c xs k t x =
    let e = Interleavings.own_turn g a b w c k t in (
      stands-even g (fold a) w.disk (next g a b w (one c)).disk (effect g (fold a) c (state_in g a w)).file (ap (λ (o : FileState). o.file) e) x.0,
      subst
          (Evens g (fold a) xs) (sym e) x.1,
    )

lists-evenly : (g : Geometry) (a b : Name) → fold a ≢ fold b → {xs ys : List Step} {zs : List Turn} → Interleaving xs ys zs → (w : World) → Fine g a b w →
    Accepted g a b w zs
    → Evens g (fold a) xs (state_in g a w) → Evens g (fold b) ys (state_in g b (swap w)) → Evenly g a b w zs
lists-evenly g a b ab none w k t x y = tt
lists-evenly g a b ab (left {x = c} {xs = xs} {ys = ys} i) w k t x y =
    let v = next g a b w (one c) in let p = list-turn g a b w c xs k t.0 x in (
      (t.0, p.0),
      lists-evenly g a b ab i v (Interleavings.fine-next g a b w (one c) k t.0) t.1 p.1
          (subst (Evens g (fold b) ys) (sym (Interleavings.other-turn g b a (λ q. ab (sym q)) (swap w) c (Interleavings.swap-fine g a b w k) t.0)) y),
    )
lists-evenly g a b ab (right {y = c} {xs = xs} {ys = ys} i) w k t x y =
    let v = next g a b w (two c) in let p = list-turn g b a (swap w) c ys (Interleavings.swap-fine g a b w k) t.0 y in (
      (t.0, p.0),
      lists-evenly g a b ab i v (Interleavings.fine-next g a b w (two c) k t.0) t.1
          (subst (Evens g (fold a) xs) (sym (Interleavings.other-turn g a b ab w c k t.0)) x) p.1,
    )

-- Demand 3 ---------------------------------------------------------------------------------------------------------------

module _ (g : Geometry) (a b : Name) (ab : fold a ≢ fold b) (d : List ℕ) (k : Good g d) {xs ys : List Step} {zs zs' : List Turn}
    (i : Interleaving xs ys zs) (i' : Interleaving xs ys zs') (t : Accepted g a b (start d) zs) (t' : Accepted g a b (start d) zs') where
  abbrev w : World
  w = after g a b (start d) zs

  abbrev w' : World
  w' = after g a b (start d) zs'

  fine : Fine g a b (start d)
  fine = Interleavings.start_fine g a b d k

  first-same : state_in g a w ≡ state_in g a w'
  first-same = Interleavings.end-first g a b ab i (start d) fine t ∙ sym (Interleavings.end-first g a b ab i' (start d) fine t')

  third-same : (n : Name) → n ≢ fold a → n ≢ fold b → (vs : List Turn) → Accepted g a b (start d) vs → stands g (after g a b (start d) vs).disk n ≡ stands g
      d n
  third-same n na nb vs s = Interleavings.end-third g a b n na nb vs (start d) fine s

  image-same : AllQuiet g a b (start d) zs → w.disk ≡ w'.disk
  image-same q =
      let e = quiet-evenly g a b zs (start d) fine t q in
      let x = evenly-list g a b ab i (start d) fine e in
      let y = evenly-list g b a (λ p. ab (sym p)) (Interleavings.swap-lists i) (start d) (Interleavings.start_fine g b a d k)
      (Bytes.swap-evenly g a b zs (start d) e) in
      Bytes.same-disks g a b ab d k i i' e (lists-evenly g a b ab i' (start d) fine t' x y)

second-same : (g : Geometry) (a b : Name) → fold a ≢ fold b → (d : List ℕ) → Good g d → {xs ys : List Step} {zs zs' : List Turn} → Interleaving xs ys zs →
    Interleaving xs ys zs'
    → Accepted g a b (start d) zs → Accepted g a b (start d) zs' → state_in g b (swap (after g a b (start d) zs)) ≡ state_in g b
    (swap (after g a b (start d) zs'))
second-same g a b ab d k {zs = zs} {zs' = zs'} i i' t t' =
    ap (state_in g b) (sym (Interleavings.swap-after g a b zs (start d)))
    ∙ first-same g b a (λ q. ab (sym q)) d k (Interleavings.swap-lists i) (Interleavings.swap-lists i') (Interleavings.swap-accepted g a b zs (start d) t)
    (Interleavings.swap-accepted g a b zs' (start d) t')
    ∙ ap (state_in g b) (Interleavings.swap-after g a b zs' (start d))

first-heard : (g : Geometry) (a b : Name) → fold a ≢ fold b → (d : List ℕ) → Good g d → {xs ys : List Step} {zs zs' : List Turn} → Interleaving xs ys zs →
    Interleaving xs ys zs'
    → Accepted g a b (start d) zs → Accepted g a b (start d) zs' → AreBytes d → AllBring xs → AllBring ys → (after g a b (start d) zs).first.heard ≡ (after g a
    b (start d) zs').first.heard
first-heard g a b ab d k i i' t t' u p q =
    let f = Interleavings.start_fine g a b d k in
    Heard.end-heard g a b ab i (start d) f t u p q ∙ sym (Heard.end-heard g a b ab i' (start d) f t' u p q)

second-heard : (g : Geometry) (a b : Name) → fold a ≢ fold b → (d : List ℕ) → Good g d → {xs ys : List Step} {zs zs' : List Turn} → Interleaving xs ys zs →
    Interleaving xs ys zs'
    → Accepted g a b (start d) zs → Accepted g a b (start d) zs' → AreBytes d → AllBring xs → AllBring ys → (after g a b (start d) zs).second.heard ≡ (after g
    a b (start d) zs').second.heard
second-heard g a b ab d k {zs = zs} {zs' = zs'} i i' t t' u p q =
    ap (λ (w : World). w.first.heard) (sym (Interleavings.swap-after g a b zs (start d)))
    ∙ first-heard g b a (λ e. ab (sym e)) d k (Interleavings.swap-lists i) (Interleavings.swap-lists i') (Interleavings.swap-accepted g a b zs (start d) t)
    (Interleavings.swap-accepted g a b zs' (start d) t') u q p
    ∙ ap (λ (w : World). w.first.heard) (Interleavings.swap-after g a b zs' (start d))

pub demand3 : Demand3
unfolding Good stands
demand3 g a b ab d fit con xs ys zs zs' i i' t t' =
    let k : Good g d = (fit, con) in
    let w = after g a b (start d) zs in let w' = after g a b (start d) zs' in
    let first' = first-same g a b ab d k i i' t t' in
    let second' = second-same g a b ab d k i i' t t' in
    let third' : (n : Name) → n ≢ fold a → n ≢ fold b → Same (plain g d n) (plain g w.disk n) =
    λ n na nb. hushed-same _ _ (sym (third-same g a b ab d k i i' t t' n na nb zs t)) in
    record {
      files = λ n. hushed-same _ _ (everywhere first' second' n (List-discrete ℕ_discrete n (fold a)) (List-discrete ℕ_discrete n (fold b)));
      third = λ n na nb. (same_whole _ _ (third' n na nb), third' n na nb);
      image = image-same g a b ab d k i i' t t';
      consistent' = (
        (Interleavings.end-fine g a b zs (start d) (fine g a b ab d k i i' t t') t).good.1,
        (Interleavings.end-fine g a b zs' (start d)
            (fine g a b ab d k i i' t t') t').good.1,
      );
      heard = λ u p q. (first-heard g a b ab d k i i' t t' u p q, second-heard g a b ab d k i i' t t' u p q);
      handles = (ap (λ (o : FileState). o.grips) first', ap (λ (o : FileState). o.grips) second');
    }
  where
    everywhere : state_in g a (after g a b (start d) zs) ≡ state_in g a (after g a b (start d) zs')
        → state_in g b (swap (after g a b (start d) zs)) ≡ state_in g b (swap (after g a b (start d) zs'))
        → (n : Name) → Dec (n ≡ fold a) → Dec (n ≡ fold b) → stands g (after g a b (start d) zs).disk n ≡ stands g (after g a b (start d) zs').disk n
    everywhere p q n (yes e) r = rw e (ap (λ (o : FileState). o.file) p)
    everywhere p q n (no e) (yes r) = rw r (ap (λ (o : FileState). o.file) q)
    everywhere p q n (no e) (no r) = third-same g a b ab d (fit, con) i i' t t' n e r zs t ∙ sym (third-same g a b ab d (fit, con) i i' t t' n e r zs' t')
