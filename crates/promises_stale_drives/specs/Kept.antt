-- The theorem to the type of `Statement`: lists on one drive run as they do on its disk alone, of which `promises_stale` says it; of lists on two drives the
-- first runs as it does alone.
use Rattle.std.specs.Prelude.{◌≡◌, ◌≢◌, List, [], ◌∷◌, ◌++◌, ℕ, length}
use Rattle.std.proofs.Math.Path.{refl, ap}
use Rattle.std.proofs.Common.{sym, subst, ◌∙◌, arith}
use Rattle.std.proofs.Math.ListN.{take}
use Rattle.std.proofs.Math.Seq.{slice}
use Rattle.meaning.specs.Names.{fold}
use Rattle.meaning.specs.Amount.{how_many}
use Rattle.meaning.specs.Read
use Rattle.meaning.specs.Calls as calls
use Rattle.meaning.specs.Plain.{nothing, plain}
use Rattle.meaning.specs.declared.Geometry.{Geometry}
use Rattle.meaning.specs.declared.Handle.{Handle}
use Rattle.laws.specs.Spelling.{fold-length}
use Rattle.promises.specs.Promises.{Good}
use Rattle.together.specs.Statement as disk
use Rattle.together.specs.Statement.{Name, Step, looks_up, opens, creates, moves, reads, reads_sector, writes, allots, trims, kills, Side}
use Rattle.together.specs.Statement.{Turn, one, two, Interleaving, none, left, right, AllBring}
use Rattle.drives.specs.Pair.{Pair, pair, geometry, image}
use Rattle.promises_drives.specs.Statement.{IsDrive, zeroth, first}
use Rattle.promises_drives.specs.Interleaved.{answer, DriveWorld, start, next, Accepted, bare}
use Rattle.promises_drives.specs.Turns.{lift, bare-lift, drive-told, at-is, read_is, sector-is, number_is}
use Rattle.promises_drives.specs.Demand3.{InDrive, on-0, on-1, both, turn-next, all-taken}
use Rattle.promises_drives.specs.Demand3.{alone, beside, first_next, second-next, first-turn, second-turn, runs}
use Rattle.promises_stale.specs.Statement as stale
use Rattle.promises_stale.specs.Statement.{puts, Own}
use Rattle.promises_stale.specs.Kept.{nothing-stale}
use Rattle.promises_stale_drives.specs.Statement.{handed_back, NoneStaleOn, NothingStaleOn}

-- What an accepted step of a list on drive k hands back is what it hands back on that drive's disk.
module _ (p : Pair) (k : ℕ) (is : IsDrive k) (n : Name) (s : Side) where
  hand-is : (c : Step) → (answer p k n (lift k s) c).number ≡ 0
      → handed_back p k (lift k s).handles c ≡ stale.handed_back (geometry p k) (image p k) s.handles c
  unfolding disk.answer calls.number
  hand-is looks_up z = refl
  hand-is (opens len checking code) z = refl
  hand-is (creates f checking) z = refl
  hand-is (moves i at) z = refl
  hand-is (reads a i b) z = λ j. take (how_many a (at-is p k is n s i j).handle.len b) (read_is p k is n s a i b j).1
  hand-is (reads_sector i m) z =
      let x = Read.read_sector (geometry p k) (image p k) (disk.handle_at s.handles i) m in
      (λ j. let r = sector-is p k is n s i m j in slice r.from r.to (image p r.drive))
      ∙ ap (λ (y : ℕ). slice x.from x.to (image p y)) (drive-told k x.refusal (sym (number_is p k is n s (reads_sector i m)) ∙ z))
  hand-is (writes a m i b) z = refl
  hand-is (allots i j) z = refl
  hand-is (trims i) z = refl
  hand-is (kills i) z = refl

-- One step, with the drives as a function of the list's own disk ------------------------------------------------------------------------

module _ (k : ℕ) (is : IsDrive k) (g : Geometry) (put : List ℕ → Pair) (holds : InDrive k g put) (d : List ℕ) (n : Name) (s : Side) (c : Step)
    (z : (answer (put d) k n (lift k s) c).number ≡ 0) (ws : List ℕ) where
  own_on : Own ws (stale.handed_back g d s.handles c) → Own ws (handed_back (put d) k (lift k s).handles c)
  own_on q =
      subst (Own ws) (sym (hand-is (put d) k is n s c z ∙ (λ i. stale.handed_back (holds.geometry' d i) (holds.image' d i) s.handles c))) q

  puts-on : ws ++ puts s.handles c ≡ ws ++ puts (bare (lift k s).handles) c
  puts-on = ap (λ (hs : List Handle). ws ++ puts hs c) (sym (bare-lift k s.handles))

-- Both lists on one drive ------------------------------------------------------------------------------------------------------------------

module _ (k : ℕ) (is : IsDrive k) (g : Geometry) (put : List ℕ → Pair) (holds : InDrive k g put) (a b : Name) where
  on_one : (zs : List Turn) (w : disk.World) (ws : List ℕ) → Accepted k k a b (both k g put holds a b w) zs → stale.NoneStale g a b ws w zs
      → NoneStaleOn k k a b ws (both k g put holds a b w) zs
  on_one [] w ws t q = tt
  on_one (one c ∷ zs) w ws t q =
      let e = turn-next k g put holds a b w (one c) t.0 in
      let v = disk.next g a b w (one c) in (
        own_on k is g put holds w.disk a w.first c t.0.1 ws q.1,
        subst (λ (l : List ℕ). NoneStaleOn k k a b l (next k k a b (both k g put holds a b w) (one c)) zs)
            (puts-on k is g put holds w.disk a w.first c t.0.1 ws)
            (subst (λ (x : DriveWorld). NoneStaleOn k k a b (ws ++ puts w.first.handles c) x zs) (sym e)
            (on_one zs v (ws ++ puts w.first.handles c) (subst (λ (x : DriveWorld). Accepted k k a b x zs) e t.1) q.2)),
      )
  on_one (two c ∷ zs) w ws t q =
      let e = turn-next k g put holds a b w (two c) t.0 in
      subst (λ (x : DriveWorld). NoneStaleOn k k a b ws x zs) (sym e)
      (on_one zs (disk.next g a b w (two c)) ws (subst (λ (x : DriveWorld). Accepted k k a b x zs) e t.1) q.1)

  one-drive : fold a ≢ fold b → (d : List ℕ) → Good g d → plain g d (fold a) ≡ nothing → {xs ys : List Step} {zs : List Turn} → Interleaving xs ys zs
      → AllBring xs → AllBring ys → Accepted k k a b (start (put d)) zs → NoneStaleOn k k a b [] (start (put d)) zs
  one-drive ab d good free {xs = xs} {ys = ys} {zs = zs} i p q t =
      on_one zs (disk.start d) [] t (nothing-stale g a b ab d good free xs ys zs i p q (all-taken k g put holds a b zs (disk.start d) t))

-- Lists on two drives ----------------------------------------------------------------------------------------------------------------------

by_itself : (xs : List Step) → Interleaving xs [] (alone xs)
by_itself [] = none
by_itself (c ∷ xs) = left (by_itself xs)

module _ (k l : ℕ) (is : IsDrive k) (g h : Geometry) (put : List ℕ → List ℕ → Pair) (on-k : (e : List ℕ) → InDrive k g (λ d. put d e))
    (on-l : (d : List ℕ) → InDrive l h (put d)) (a b : Name) where
  abbrev side : disk.World → disk.World → DriveWorld
  side u v = beside k l g h put on-k on-l a b u v

  -- a name that is not the list's, for a second list without calls
  abbrev other : Name
  other = 0 ∷ a

  differ : fold a ≢ fold other
  differ e = let z = ap (λ (n : Name). length n) e in omega (arith, z, fold-length a, fold-length other)

  -- the second list's name is asked by its calls alone
  any-other : (xs : List Step) (u : disk.World) → disk.Accepted g a a u (alone xs) → disk.Accepted g a other u (alone xs)
  any-other [] u t = tt
  any-other (c ∷ xs) u t = (t.0, any-other xs (disk.next g a a u (one c)) t.1)

  beside-stale : {xs ys : List Step} {zs : List Turn} → Interleaving xs ys zs → (u v : disk.World) (ws : List ℕ) → Accepted k l a b (side u v) zs
      → stale.NoneStale g a other ws u (alone xs) → NoneStaleOn k l a b ws (side u v) zs
  beside-stale none u v ws t q = tt
  beside-stale (left {x = c} {zs = zs} i) u v ws t q =
      let e = first-turn k l g h put on-k on-l a b u v c t.0 in
      let on : (List ℕ → Pair) = λ d. put d v.disk in (
        own_on k is g on (on-k v.disk) u.disk a u.first c t.0.1 ws q.1,
        subst (λ (m : List ℕ). NoneStaleOn k l a b m (next k l a b (side u v) (one c)) zs)
            (puts-on k is g on (on-k v.disk) u.disk a u.first c t.0.1 ws)
            (subst (λ (x : DriveWorld). NoneStaleOn k l a b (ws ++ puts u.first.handles c) x zs) (sym e)
            (beside-stale i (first_next k l g h put on-k on-l a b u c) v (ws ++ puts u.first.handles c)
            (subst (λ (x : DriveWorld). Accepted k l a b x zs) e t.1) q.2)),
      )
  beside-stale (right {y = c} {zs = zs} i) u v ws t q =
      let e = second-turn k l g h put on-k on-l a b u v c t.0 in
      subst (λ (x : DriveWorld). NoneStaleOn k l a b ws x zs) (sym e)
      (beside-stale i u (second-next k l g h put on-k on-l a b v c) ws (subst (λ (x : DriveWorld). Accepted k l a b x zs) e t.1) q)

  two-drives : (d e : List ℕ) → Good g d → plain g d (fold a) ≡ nothing → {xs ys : List Step} {zs : List Turn} → Interleaving xs ys zs → AllBring xs
      → Accepted k l a b (start (put d e)) zs → NoneStaleOn k l a b [] (start (put d e)) zs
  two-drives d e good free {xs = xs} i p t =
      let r = runs k l g h put on-k on-l a b i (disk.start d) (disk.start e) t in
      beside-stale i (disk.start d) (disk.start e) [] t
      (nothing-stale g a other differ d good free xs [] (alone xs) (by_itself xs) p tt (any-other xs (disk.start d) r.taken))

pub nothing-stale-on : NothingStaleOn
nothing-stale-on p k l zeroth zeroth a b ab good free xs ys zs i x y t =
    one-drive 0 zeroth p.geometry0 (λ d. pair p.geometry0 d p.geometry1 p.image1) (on-0 p.geometry0 p.geometry1 p.image1) a b (ab refl)
    p.image0 good free i x y t
nothing-stale-on p k l first first a b ab good free xs ys zs i x y t =
    one-drive 1 first p.geometry1 (λ d. pair p.geometry0 p.image0 p.geometry1 d) (on-1 p.geometry0 p.geometry1 p.image0) a b (ab refl)
    p.image1 good free i x y t
nothing-stale-on p k l zeroth first a b ab good free xs ys zs i x y t =
    two-drives 0 1 zeroth p.geometry0 p.geometry1 (λ d e. pair p.geometry0 d p.geometry1 e) (λ e. on-0 p.geometry0 p.geometry1 e)
    (λ d. on-1 p.geometry0 p.geometry1 d) a b p.image0 p.image1 good free i x t
nothing-stale-on p k l first zeroth a b ab good free xs ys zs i x y t =
    two-drives 1 0 first p.geometry1 p.geometry0 (λ d e. pair p.geometry0 e p.geometry1 d) (λ e. on-1 p.geometry0 p.geometry1 e)
    (λ d. on-0 p.geometry0 p.geometry1 d) a b p.image1 p.image0 good free i x t
