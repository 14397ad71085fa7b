-- Demand 3 over two drives, proved; it is stated in Interleaved.antt. Lists on one drive run as they do on its disk alone, so they agree as demand 3 of
-- one disk says (together: Demand3); lists on two drives run each as it does alone.
use Rattle.std.specs.Prelude.{ℕ, ◌≡◌, refl, ◌≢◌, true, List, [], ◌∷◌, map, T}
use Rattle.std.proofs.Common.{sym, ap, subst, ◌∙◌, arith}
use Rattle.meaning.specs.Layout.{fits_geometry}
use Rattle.meaning.specs.Names.{fold}
use Rattle.meaning.specs.Consistent.{consistent}
use Rattle.meaning.specs.Plain.{Found, plain}
use Rattle.meaning.specs.declared.Geometry.{Geometry}
use Rattle.meaning.specs.declared.Handle.{Handle}
use Rattle.together.specs.Statement as disk
use Rattle.together.specs.Statement.{Name, Step, known, Side, Turn, one, two, Interleaving, none, left, right, Quiet, Same, SameFiles, AsItWas, Grip, grip}
use Rattle.together.specs.State.{Good, stands}
use Rattle.together.proofs.Interleavings
use Rattle.together.proofs.Interleavings.{Fine}
use Rattle.together.specs.SameFiles.{hushed-same, same_whole}
use Rattle.together.proofs.Demand3 as one-disk
use Rattle.drives.specs.Pair.{Pair, pair, geometry, image, handle_on}
use Rattle.drives.specs.declared.DriveHandle.{DriveHandle}
use Rattle.promises_drives.specs.Statement.{IsDrive, zeroth, first}
use Rattle.promises_drives.specs.Interleaved.{DriveSide, DriveAnswered, answer, DriveWorld, start, next, after, Taken, Accepted, AllQuiet, bare}
use Rattle.promises_drives.specs.Interleaved.{DriveGrip, drive_grip, DrivesAgree, Demand3, Apart}
use Rattle.promises_drives.specs.Turns.{lift, bare-lift, number_is, drives-is, side-is}

-- One step, with the drives as a function of the list's own disk ------------------------------------------------------------------------

-- the drives as they are with the disk d in drive k, whose geometry is g
pub record InDrive (k : ℕ) (g : Geometry) (put : List ℕ → Pair) : Type 0 where
  pub image' : (d : List ℕ) → image (put d) k ≡ d
  pub geometry' : (d : List ℕ) → geometry (put d) k ≡ g
  pub number : (d : List ℕ) (n : Name) (s : Side) (c : Step) → (answer (put d) k n (lift k s) c).number ≡ (disk.answer g n d s c).number
  pub drives : (d : List ℕ) (n : Name) (s : Side) (c : Step) → (answer (put d) k n (lift k s) c).drives ≡ put (disk.answer g n d s c).disk
  pub side : (d : List ℕ) (n : Name) (s : Side) (c : Step) → (disk.answer g n d s c).number ≡ 0
      → (answer (put d) k n (lift k s) c).side ≡ lift k (disk.answer g n d s c).side

pub on-0 : (g g' : Geometry) (e : List ℕ) → InDrive 0 g (λ d. pair g d g' e)
on-0 g g' e =
    record {
      image' = λ d. refl;
      geometry' = λ d. refl;
      number = λ d n s c. number_is (pair g d g' e) 0 zeroth n s c;
      drives = λ d n s c. drives-is (pair g d g' e) 0 zeroth n s c;
      side = λ d n s c. side-is (pair g d g' e) 0 zeroth n s c;
    }

pub on-1 : (g g' : Geometry) (e : List ℕ) → InDrive 1 g' (λ d. pair g e g' d)
on-1 g g' e =
    record {
      image' = λ d. refl;
      geometry' = λ d. refl;
      number = λ d n s c. number_is (pair g e g' d) 1 first n s c;
      drives = λ d n s c. drives-is (pair g e g' d) 1 first n s c;
      side = λ d n s c. side-is (pair g e g' d) 1 first n s c;
    }

-- a step that is accepted on the drive is accepted on its disk, and leaves what it leaves there
module _ (k : ℕ) (g : Geometry) (put : List ℕ → Pair) (holds : InDrive k g put) (d : List ℕ) (n : Name) (s : Side) (c : Step)
    (t : T (known (bare (lift k s).handles) c) × ((answer (put d) k n (lift k s) c).number ≡ 0)) where
  step-taken : T (known s.handles c) × ((disk.answer g n d s c).number ≡ 0)
  step-taken = (subst (λ (hs : List Handle). T (known hs c)) (bare-lift k s.handles) t.0, sym (holds.number d n s c) ∙ t.1)

  step-drives : (answer (put d) k n (lift k s) c).drives ≡ put (disk.answer g n d s c).disk
  step-drives = holds.drives d n s c

  step-side : (answer (put d) k n (lift k s) c).side ≡ lift k (disk.answer g n d s c).side
  step-side = holds.side d n s c step-taken.1

-- Both lists on one drive ------------------------------------------------------------------------------------------------------------------

module _ (k : ℕ) (g : Geometry) (put : List ℕ → Pair) (holds : InDrive k g put) (a b : Name) where
  -- the world of one disk, as the world of the drives
  abbrev pub both : disk.World → DriveWorld
  both w = record { drives = put w.disk; first = lift k w.first; second = lift k w.second }

  turn-taken : (w : disk.World) (t : Turn) → Taken k k a b (both w) t → disk.Taken g a b w t
  turn-taken w (one c) t = step-taken k g put holds w.disk a w.first c t
  turn-taken w (two c) t = step-taken k g put holds w.disk b w.second c t

  pub turn-next : (w : disk.World) (t : Turn) → Taken k k a b (both w) t → next k k a b (both w) t ≡ both (disk.next g a b w t)
  turn-next w (one c) t =
      λ i. record {
        drives = step-drives k g put holds w.disk a w.first c t i;
        first = step-side k g put holds w.disk a w.first c t i;
        second = lift k w.second;
      }
  turn-next w (two c) t =
      λ i. record {
        drives = step-drives k g put holds w.disk b w.second c t i;
        first = lift k w.first;
        second = step-side k g put holds w.disk b w.second c t i;
      }

  pub all-taken : (zs : List Turn) (w : disk.World) → Accepted k k a b (both w) zs → disk.Accepted g a b w zs
  all-taken [] w t = tt
  all-taken (z ∷ zs) w t =
      (turn-taken w z t.0, all-taken zs (disk.next g a b w z) (subst (λ (v : DriveWorld). Accepted k k a b v zs) (turn-next w z t.0) t.1))

  all_after : (zs : List Turn) (w : disk.World) → Accepted k k a b (both w) zs → after k k a b (both w) zs ≡ both (disk.after g a b w zs)
  all_after [] w t = refl
  all_after (z ∷ zs) w t =
      ap (λ (v : DriveWorld). after k k a b v zs) (turn-next w z t.0)
      ∙ all_after zs (disk.next g a b w z) (subst (λ (v : DriveWorld). Accepted k k a b v zs) (turn-next w z t.0) t.1)

  -- a quiet turn on the drive is quiet on its disk
  quiet_is : (n : Name) (d : List ℕ) (p : Pair) (d' : List ℕ) → p ≡ put d' → Quiet (geometry (put d) k) n (image (put d) k) (image p k) → Quiet g n d d'
  quiet_is n d p d' e q =
      subst (λ (h : Geometry). Quiet h n d d') (holds.geometry' d)
      (subst (λ (x : List ℕ). Quiet (geometry (put d) k) n x d') (holds.image' d)
      (subst (λ (x : List ℕ). Quiet (geometry (put d) k) n (image (put d) k) x) (ap (λ (x : Pair). image x k) e ∙ holds.image' d') q))

  all_quiet : (zs : List Turn) (w : disk.World) → Accepted k k a b (both w) zs → AllQuiet k k a b (both w) zs → disk.AllQuiet g a b w zs
  all_quiet [] w t q = tt
  all_quiet (one c ∷ zs) w t q = (
    quiet_is (fold a) w.disk _ _ (step-drives k g put holds w.disk a w.first c t.0) q.0,
    all_quiet zs (disk.next g a b w (one c)) (subst (λ (v : DriveWorld). Accepted k k a b v zs) (turn-next w (one c) t.0) t.1)
        (subst (λ (v : DriveWorld). AllQuiet k k a b v zs) (turn-next w (one c) t.0) q.1),
  )
  all_quiet (two c ∷ zs) w t q = (
    quiet_is (fold b) w.disk _ _ (step-drives k g put holds w.disk b w.second c t.0) q.0,
    all_quiet zs (disk.next g a b w (two c)) (subst (λ (v : DriveWorld). Accepted k k a b v zs) (turn-next w (two c) t.0) t.1)
        (subst (λ (v : DriveWorld). AllQuiet k k a b v zs) (turn-next w (two c) t.0) q.1),
  )

-- handles that are alike on a disk are alike on a drive
abbrev grip_on : ℕ → Grip → DriveGrip
grip_on k x = record { drive = k; grip = x }

grips : (k : ℕ) (hs : List Handle) → map drive_grip (map (handle_on k) hs) ≡ map (grip_on k) (map grip hs)
grips k [] = refl
grips k (h ∷ hs) = ap (λ (l : List DriveGrip). drive_grip (handle_on k h) ∷ l) (grips k hs)

same-grips : (k : ℕ) (hs hs' : List Handle) → map grip hs ≡ map grip hs' → map drive_grip (map (handle_on k) hs) ≡ map drive_grip (map (handle_on k) hs')
same-grips k hs hs' e = grips k hs ∙ ap (map (grip_on k)) e ∙ sym (grips k hs')

-- Lists on two drives ----------------------------------------------------------------------------------------------------------------------

-- a list by itself, as turns of its own disk alone
abbrev pub alone : List Step → List Turn
alone [] = []
alone (c ∷ cs) = one c ∷ alone cs

module _ (k l : ℕ) (g h : Geometry) (put : List ℕ → List ℕ → Pair) (on-k : (e : List ℕ) → InDrive k g (λ d. put d e))
    (on-l : (d : List ℕ) → InDrive l h (put d)) (a b : Name) where
  -- the world of each list's disk, as the world of the drives
  abbrev pub beside : disk.World → disk.World → DriveWorld
  beside u v = record { drives = put u.disk v.disk; first = lift k u.first; second = lift l v.first }

  abbrev pub first_next : disk.World → Step → disk.World
  first_next u c = disk.next g a a u (one c)

  abbrev pub second-next : disk.World → Step → disk.World
  second-next v c = disk.next h b b v (one c)

  pub first-turn : (u v : disk.World) (c : Step) → Taken k l a b (beside u v) (one c) → next k l a b (beside u v) (one c) ≡ beside (first_next u c) v
  first-turn u v c t =
      λ i. record {
        drives = step-drives k g (λ d. put d v.disk) (on-k v.disk) u.disk a u.first c t i;
        first = step-side k g (λ d. put d v.disk) (on-k v.disk) u.disk a u.first c t i;
        second = lift l v.first;
      }

  pub second-turn : (u v : disk.World) (c : Step) → Taken k l a b (beside u v) (two c) → next k l a b (beside u v) (two c) ≡ beside u (second-next v c)
  second-turn u v c t =
      λ i. record {
        drives = step-drives l h (put u.disk) (on-l u.disk) v.disk b v.first c t i;
        first = lift k u.first;
        second = step-side l h (put u.disk) (on-l u.disk) v.disk b v.first c t i;
      }

  -- each list runs as it does alone
  pub record RunsBeside (u v : disk.World) (xs ys : List Step) (zs : List Turn) : Type 0 where
    pub taken : disk.Accepted g a a u (alone xs)
    pub taken' : disk.Accepted h b b v (alone ys)
    pub ends : after k l a b (beside u v) zs ≡ beside (disk.after g a a u (alone xs)) (disk.after h b b v (alone ys))

  pub runs : {xs ys : List Step} {zs : List Turn} → Interleaving xs ys zs → (u v : disk.World) → Accepted k l a b (beside u v) zs → RunsBeside u v xs ys zs
  runs none u v t = record { taken = tt; taken' = tt; ends = refl }
  runs (left {x = c} {zs = zs} i) u v t =
      let e = first-turn u v c t.0 in
      let r = runs i (first_next u c) v (subst (λ (w : DriveWorld). Accepted k l a b w zs) e t.1) in
      record {
        taken = (step-taken k g (λ d. put d v.disk) (on-k v.disk) u.disk a u.first c t.0, r.taken);
        taken' = r.taken';
        ends = ap (λ (w : DriveWorld). after k l a b w zs) e ∙ r.ends;
      }
  runs (right {y = c} {zs = zs} i) u v t =
      let e = second-turn u v c t.0 in
      let r = runs i u (second-next v c) (subst (λ (w : DriveWorld). Accepted k l a b w zs) e t.1) in
      record {
        taken = r.taken;
        taken' = (step-taken l h (put u.disk) (on-l u.disk) v.disk b v.first c t.0, r.taken');
        ends = ap (λ (w : DriveWorld). after k l a b w zs) e ∙ r.ends;
      }

-- what holds of both drives
each : (P : ℕ → Type 0) → P 0 → P 1 → (j : ℕ) → IsDrive j → P j
each P x y j zeroth = x
each P x y j first = y

-- What a list alone leaves -------------------------------------------------------------------------------------------------------------------

module _ (g : Geometry) (a : Name) (d : List ℕ) (good : Good g d) (xs : List Step) (t : disk.Accepted g a a (disk.start d) (alone xs)) where
  abbrev end : List ℕ
  end = (disk.after g a a (disk.start d) (alone xs)).disk

  fine : Fine g a a (disk.start d)
  fine = Interleavings.start_fine g a a d good

  alone-good : Good g end
  alone-good = (Interleavings.end-fine g a a (alone xs) (disk.start d) fine t).good

  alone-third : (n : Name) → n ≢ fold a → AsItWas g n d end × Same (plain g d n) (plain g end n)
  unfolding stands
  alone-third n z =
      let s : Same (plain g d n) (plain g end n) = hushed-same _ _ (sym (Interleavings.end-third g a a n z z (alone xs) (disk.start d) fine t)) in
      (same_whole _ _ s, s)

same-as-itself : (g : Geometry) (d : List ℕ) → SameFiles g d d
same-as-itself g d n = hushed-same _ _ refl

untouched : (g : Geometry) (d : List ℕ) (n : Name) → AsItWas g n d d × Same (plain g d n) (plain g d n)
untouched g d n = (λ f e u. e, same-as-itself g d n)

-- Demand 3 -------------------------------------------------------------------------------------------------------------------------------------

-- both lists on drive k: what demand 3 of one disk gives
module _ (k : ℕ) (g : Geometry) (put : List ℕ → Pair) (holds : InDrive k g put) (a b : Name) (ab : fold a ≢ fold b) (d : List ℕ)
    (fit : fits_geometry g d ≡ true) (con : consistent g d ≡ true) {xs ys : List Step} {zs zs' : List Turn}
    (i : Interleaving xs ys zs) (i' : Interleaving xs ys zs')
    (t : Accepted k k a b (start (put d)) zs) (t' : Accepted k k a b (start (put d)) zs') where
  abbrev w : disk.World
  w = disk.after g a b (disk.start d) zs

  abbrev w' : disk.World
  w' = disk.after g a b (disk.start d) zs'

  on-disk : disk.Agree g a b d xs ys zs w w'
  on-disk =
      one-disk.demand3 g a b ab d fit con xs ys zs zs' i i' (all-taken k g put holds a b zs (disk.start d) t)
      (all-taken k g put holds a b zs' (disk.start d) t')

  -- it is enough that the worlds of that disk agree
  from-disk : (p : Pair) → DrivesAgree p k k a b xs ys zs (both k g put holds a b w) (both k g put holds a b w')
      → DrivesAgree p k k a b xs ys zs (after k k a b (start (put d)) zs) (after k k a b (start (put d)) zs')
  from-disk p x =
      subst (λ (v : DriveWorld). DrivesAgree p k k a b xs ys zs v (after k k a b (start (put d)) zs')) (sym (all_after k g put holds a b zs (disk.start d) t))
      (subst (λ (v : DriveWorld). DrivesAgree p k k a b xs ys zs (both k g put holds a b w) v) (sym (all_after k g put holds a b zs' (disk.start d) t')) x)

-- lists on two drives: each by itself
module _ (k l : ℕ) (g h : Geometry) (put : List ℕ → List ℕ → Pair) (on-k : (e : List ℕ) → InDrive k g (λ d. put d e))
    (on-l : (d : List ℕ) → InDrive l h (put d))
    (a b : Name) (d e : List ℕ) {xs ys : List Step} {zs zs' : List Turn} (i : Interleaving xs ys zs) (i' : Interleaving xs ys zs')
    (t : Accepted k l a b (start (put d e)) zs) (t' : Accepted k l a b (start (put d e)) zs') where
  both_run : RunsBeside k l g h put on-k on-l a b (disk.start d) (disk.start e) xs ys zs
  both_run = runs k l g h put on-k on-l a b i (disk.start d) (disk.start e) t

  ends-alike : after k l a b (start (put d e)) zs ≡ after k l a b (start (put d e)) zs'
  ends-alike = both_run.ends ∙ sym (runs k l g h put on-k on-l a b i' (disk.start d) (disk.start e) t').ends

  abbrev u : DriveWorld
  u = beside k l g h put on-k on-l a b (disk.after g a a (disk.start d) (alone xs)) (disk.after h b b (disk.start e) (alone ys))

  -- it is enough that the world where each list ran alone agrees with itself
  from_each : (p : Pair) → DrivesAgree p k l a b xs ys zs u u → DrivesAgree p k l a b xs ys zs (after k l a b (start (put d e)) zs)
      (after k l a b (start (put d e)) zs')
  from_each p x =
      subst (λ (v : DriveWorld). DrivesAgree p k l a b xs ys zs (after k l a b (start (put d e)) zs) v) ends-alike
      (subst (λ (v : DriveWorld). DrivesAgree p k l a b xs ys zs v v) (sym both_run.ends) x)

pub apart : Apart
apart p k l zeroth zeroth kl a b xs ys zs zs' i i' t t' = absurd (kl refl)
apart p k l first first kl a b xs ys zs zs' i i' t t' = absurd (kl refl)
apart p k l zeroth first kl a b xs ys zs zs' i i' t t' =
    ends-alike 0 1 p.geometry0 p.geometry1 (λ d e. pair p.geometry0 d p.geometry1 e) (λ e. on-0 p.geometry0 p.geometry1 e)
    (λ d. on-1 p.geometry0 p.geometry1 d) a b p.image0 p.image1 i i' t t'
apart p k l first zeroth kl a b xs ys zs zs' i i' t t' =
    ends-alike 1 0 p.geometry1 p.geometry0 (λ d e. pair p.geometry0 e p.geometry1 d) (λ e. on-1 p.geometry0 p.geometry1 e)
    (λ d. on-0 p.geometry0 p.geometry1 d) a b p.image1 p.image0 i i' t t'

abbrev Sound : Pair → Type 0
Sound p = (j : ℕ) → IsDrive j → (fits_geometry (geometry p j) (image p j) ≡ true) × (consistent (geometry p j) (image p j) ≡ true)

on-zeroth : (p : Pair) (a b : Name) → fold a ≢ fold b → Sound p → {xs ys : List Step} {zs zs' : List Turn} → Interleaving xs ys zs → Interleaving xs ys zs'
    → Accepted 0 0 a b (start p) zs → Accepted 0 0 a b (start p) zs'
    → DrivesAgree p 0 0 a b xs ys zs (after 0 0 a b (start p) zs) (after 0 0 a b (start p) zs')
on-zeroth p a b ab sound {zs = zs} {zs' = zs'} i i' t t' =
    let put : (List ℕ → Pair) = λ d. pair p.geometry0 d p.geometry1 p.image1 in let holds = on-0 p.geometry0 p.geometry1 p.image1 in
    let g = p.geometry0 in let d = p.image0 in let s = sound 0 zeroth in
    let x = on-disk 0 g put holds a b ab d s.0 s.1 i i' t t' in
    let w = disk.after g a b (disk.start d) zs in let w' = disk.after g a b (disk.start d) zs' in let e = w.disk in let e' = w'.disk in
    from-disk 0 g put holds a b ab d s.0 s.1 i i' t t' p (record {
      files = each (λ j. SameFiles (geometry p j) (image (put e) j) (image (put e') j)) x.files (same-as-itself _ _);
      third = each (λ j. (n : Name) → (j ≡ 0 → n ≢ fold a) → (j ≡ 0 → n ≢ fold b)
          → AsItWas (geometry p j) n (image p j) (image (put e) j) × Same (plain (geometry p j) (image p j) n) (plain (geometry p j) (image (put e) j) n))
          (λ n na nb. x.third n (na refl) (nb refl)) (λ n na nb. untouched _ _ n);
      images = λ q. each (λ j. image (put e) j ≡ image (put e') j) (x.image (all_quiet 0 g put holds a b zs (disk.start d) t q)) (refl);
      consistent' = each (λ j. (consistent (geometry p j) (image (put e) j) ≡ true) × (consistent (geometry p j) (image (put e') j) ≡ true))
          x.consistent' (((sound 1 first).1, (sound 1 first).1));
      handles = (
        same-grips 0 w.first.handles w'.first.handles x.handles.0,
        same-grips 0 w.second.handles w'.second.handles x.handles.1,
      );
      heard = λ y y' r r'. x.heard y r r';
    })

on-first : (p : Pair) (a b : Name) → fold a ≢ fold b → Sound p → {xs ys : List Step} {zs zs' : List Turn} → Interleaving xs ys zs → Interleaving xs ys zs'
    → Accepted 1 1 a b (start p) zs → Accepted 1 1 a b (start p) zs'
    → DrivesAgree p 1 1 a b xs ys zs (after 1 1 a b (start p) zs) (after 1 1 a b (start p) zs')
on-first p a b ab sound {zs = zs} {zs' = zs'} i i' t t' =
    let put : (List ℕ → Pair) = λ d. pair p.geometry0 p.image0 p.geometry1 d in let holds = on-1 p.geometry0 p.geometry1 p.image0 in
    let g = p.geometry1 in let d = p.image1 in let s = sound 1 first in
    let x = on-disk 1 g put holds a b ab d s.0 s.1 i i' t t' in
    let w = disk.after g a b (disk.start d) zs in let w' = disk.after g a b (disk.start d) zs' in let e = w.disk in let e' = w'.disk in
    from-disk 1 g put holds a b ab d s.0 s.1 i i' t t' p (record {
      files = each (λ j. SameFiles (geometry p j) (image (put e) j) (image (put e') j)) (same-as-itself _ _) x.files;
      third = each (λ j. (n : Name) → (j ≡ 1 → n ≢ fold a) → (j ≡ 1 → n ≢ fold b)
          → AsItWas (geometry p j) n (image p j) (image (put e) j) × Same (plain (geometry p j) (image p j) n) (plain (geometry p j) (image (put e) j) n))
          (λ n na nb. untouched _ _ n) (λ n na nb. x.third n (na refl) (nb refl));
      images = λ q. each (λ j. image (put e) j ≡ image (put e') j) (refl) (x.image (all_quiet 1 g put holds a b zs (disk.start d) t q));
      consistent' = each (λ j. (consistent (geometry p j) (image (put e) j) ≡ true) × (consistent (geometry p j) (image (put e') j) ≡ true))
          (((sound 0 zeroth).1, (sound 0 zeroth).1)) x.consistent';
      handles = (
        same-grips 1 w.first.handles w'.first.handles x.handles.0,
        same-grips 1 w.second.handles w'.second.handles x.handles.1,
      );
      heard = λ y y' r r'. x.heard y' r r';
    })

apart-01 : (p : Pair) (a b : Name) → Sound p → {xs ys : List Step} {zs zs' : List Turn} → Interleaving xs ys zs → Interleaving xs ys zs'
    → Accepted 0 1 a b (start p) zs → Accepted 0 1 a b (start p) zs'
    → DrivesAgree p 0 1 a b xs ys zs (after 0 1 a b (start p) zs) (after 0 1 a b (start p) zs')
unfolding Good
apart-01 p a b sound {xs = xs} {ys = ys} i i' t t' =
    let put : (List ℕ → List ℕ → Pair) = λ d e. pair p.geometry0 d p.geometry1 e in
    let on-k : ((e : List ℕ) → InDrive 0 p.geometry0 (λ d. pair p.geometry0 d p.geometry1 e)) = λ e. on-0 p.geometry0 p.geometry1 e in
    let on-l : ((d : List ℕ) → InDrive 1 p.geometry1 (λ e. pair p.geometry0 d p.geometry1 e)) = λ d. on-1 p.geometry0 p.geometry1 d in
    let g = p.geometry0 in let h = p.geometry1 in let d = p.image0 in let e = p.image1 in
    let r = both_run 0 1 g h put on-k on-l a b d e i i' t t' in
    let u = (disk.after g a a (disk.start d) (alone xs)).disk in let v = (disk.after h b b (disk.start e) (alone ys)).disk in
    from_each 0 1 g h put on-k on-l a b d e i i' t t' p (record {
      files = each (λ j. SameFiles (geometry p j) (image (put u v) j) (image (put u v) j)) (same-as-itself _ _) (same-as-itself _ _);
      third = each (λ j. (n : Name) → (j ≡ 0 → n ≢ fold a) → (j ≡ 1 → n ≢ fold b)
          → AsItWas (geometry p j) n (image p j) (image (put u v) j) × Same (plain (geometry p j) (image p j) n) (plain (geometry p j) (image (put u v) j) n))
          (λ n na nb. alone-third g a d (sound 0 zeroth) xs r.taken n (na refl)) (λ n na nb. alone-third h b e (sound 1 first) ys r.taken' n (nb refl));
      images = λ q. each (λ j. image (put u v) j ≡ image (put u v) j) refl refl;
      consistent' = each (λ j. (consistent (geometry p j) (image (put u v) j) ≡ true) × (consistent (geometry p j) (image (put u v) j) ≡ true))
          (let c = alone-good g a d (sound 0 zeroth) xs r.taken in (c.1, c.1))
          (let c = alone-good h b e (sound 1 first) ys r.taken' in (c.1, c.1));
      handles = (refl, refl);
      heard = λ y y' x x'. (refl, refl);
    })

apart-10 : (p : Pair) (a b : Name) → Sound p → {xs ys : List Step} {zs zs' : List Turn} → Interleaving xs ys zs → Interleaving xs ys zs'
    → Accepted 1 0 a b (start p) zs → Accepted 1 0 a b (start p) zs'
    → DrivesAgree p 1 0 a b xs ys zs (after 1 0 a b (start p) zs) (after 1 0 a b (start p) zs')
unfolding Good
apart-10 p a b sound {xs = xs} {ys = ys} i i' t t' =
    let put : (List ℕ → List ℕ → Pair) = λ d e. pair p.geometry0 e p.geometry1 d in
    let on-k : ((e : List ℕ) → InDrive 1 p.geometry1 (λ d. pair p.geometry0 e p.geometry1 d)) = λ e. on-1 p.geometry0 p.geometry1 e in
    let on-l : ((d : List ℕ) → InDrive 0 p.geometry0 (λ e. pair p.geometry0 e p.geometry1 d)) = λ d. on-0 p.geometry0 p.geometry1 d in
    let g = p.geometry1 in let h = p.geometry0 in let d = p.image1 in let e = p.image0 in
    let r = both_run 1 0 g h put on-k on-l a b d e i i' t t' in
    let u = (disk.after g a a (disk.start d) (alone xs)).disk in let v = (disk.after h b b (disk.start e) (alone ys)).disk in
    from_each 1 0 g h put on-k on-l a b d e i i' t t' p (record {
      files = each (λ j. SameFiles (geometry p j) (image (put u v) j) (image (put u v) j)) (same-as-itself _ _) (same-as-itself _ _);
      third = each (λ j. (n : Name) → (j ≡ 1 → n ≢ fold a) → (j ≡ 0 → n ≢ fold b)
          → AsItWas (geometry p j) n (image p j) (image (put u v) j) × Same (plain (geometry p j) (image p j) n) (plain (geometry p j) (image (put u v) j) n))
          (λ n na nb. alone-third h b e (sound 0 zeroth) ys r.taken' n (nb refl)) (λ n na nb. alone-third g a d (sound 1 first) xs r.taken n (na refl));
      images = λ q. each (λ j. image (put u v) j ≡ image (put u v) j) refl refl;
      consistent' = each (λ j. (consistent (geometry p j) (image (put u v) j) ≡ true) × (consistent (geometry p j) (image (put u v) j) ≡ true))
          (let c = alone-good h b e (sound 0 zeroth) ys r.taken' in (c.1, c.1))
          (let c = alone-good g a d (sound 1 first) xs r.taken in (c.1, c.1));
      handles = (refl, refl);
      heard = λ y y' x x'. (refl, refl);
    })

pub demand3 : Demand3
demand3 p k l zeroth zeroth a b ab sound xs ys zs zs' i i' t t' = on-zeroth p a b (ab refl) sound i i' t t'
demand3 p k l first first a b ab sound xs ys zs zs' i i' t t' = on-first p a b (ab refl) sound i i' t t'
demand3 p k l zeroth first a b ab sound xs ys zs zs' i i' t t' = apart-01 p a b sound i i' t t'
demand3 p k l first zeroth a b ab sound xs ys zs zs' i i' t t' = apart-10 p a b sound i i' t t'
