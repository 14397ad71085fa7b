-- An accepted call that changes a file: the plain list of named files afterwards is the one before with that file changed
use Rattle.std.specs.Prelude.{◌≡◌, refl, ◌≢◌, Bool, true, false, cond, ◌&&◌, ℕ, ◌+◌, ◌*◌, ◌/◌, ◌≤◌, ◌<◌, length, take, leb, ltb}
use Rattle.std.proofs.Common.{ap, sym, ◌∙◌, arith, leb→le}
use Rattle.std.proofs.Math.Path.{subst}
use mathlib.Core.List.{List, [], ◌∷◌, ◌++◌}
use Rattle.std.proofs.Math.Dec.{T}
use Rattle.meaning.specs.Lists.{same, all}
use Rattle.meaning.specs.Layout.{byte, granule_bytes, directory_granules, highest, sector_numbers}
use Rattle.meaning.specs.Entries.{name_of}
use Rattle.meaning.specs.Bits.{digit}
use Rattle.meaning.specs.Chain.{chain, owned}
use Rattle.meaning.specs.Free.{free_granules}
use Rattle.meaning.specs.LookUp.{named}
use Rattle.meaning.specs.Refusals.{protected, cannot_grow, first}
use Rattle.meaning.specs.Handles.{moved_to, in_range}
use Rattle.meaning.specs.Names.{fold}
use Rattle.meaning.specs.Create.{create, new_slot}
use Rattle.meaning.specs.Write.{write_of, to_write}
use Rattle.meaning.specs.Allot.{allot, to_allot}
use Rattle.meaning.specs.Trim.{trim}
use Rattle.meaning.specs.Kill.{kill}
use Rattle.meaning.specs.Calls.{Call}
use Rattle.meaning.specs.Plain.{File, Found, found, nothing, file_at, plain, with', born_as, written_to, allotted_to, trimmed}
use Rattle.promises_words.specs.Untouched.{hush, beyond, Aside}
use Rattle.meaning.specs.declared.Geometry.{Geometry}
use Rattle.meaning.specs.declared.Handle.{Handle}
use Rattle.meaning.specs.declared.NewFile.{NewFile}
use Rattle.meaning.specs.declared.Mode.{Mode}
use Rattle.lists.specs.Members
use Rattle.lists.specs.Members.{In}
use Rattle.laws.specs.Facts
use Rattle.laws.specs.Places
use Rattle.laws.specs.Named
use Rattle.laws.specs.Touch
use Rattle.laws.specs.Touch.{Touch}
use Rattle.laws.specs.Words.{words}
use Rattle.laws.specs.Passed
use Rattle.laws.specs.Passed.{Holds}
use Rattle.promises.specs.KillMeans
use Rattle.promises.specs.CreateMeans
use Rattle.promises.specs.Promises
use Rattle.promises.specs.Promises.{Becomes, Live, InRange, Changes, Writes}
use Rattle.promises.specs.Refusing
use Rattle.promises.specs.Passing
use Rattle.promises.specs.Grow
use Rattle.promises.specs.Trim
use Rattle.promises.specs.Write
use Rattle.promises.specs.WriteMeans

module _ (g : Geometry) (d d' n : List ℕ) (is : Found) where
  -- from "this name, and any other" to one equation over all names
  pub one_list : plain g d' n ≡ is → ((m : List ℕ) → m ≢ n → hush (plain g d' m) ≡ hush (plain g d m)) → (m : List ℕ) → hush (plain g d' m) ≡ hush
      (with' (plain g d) n is m)
  unfolding with'
  one_list o f m = go (Members.decide (same m n))
    where
      go : Members.Test (same m n) → hush (plain g d' m) ≡ hush (cond (same m n) is (plain g d m))
      go (Members.Test.holds t) = rw (Members.T_true {b = same m n} t) (ap hush (ap (plain g d') (Members.same-eq m n t) ∙ o))
      go (Members.Test.fails t) = rw (Members.no_false {b = same m n} t) (f m (λ e. t (subst (λ (l : List ℕ). T (same m l)) e (Members.same_refl m))))

-- stores to the file's own entries and granules, and to the GAT
module _ (g : Geometry) (d d' n : List ℕ) where
  abbrev mine : List ℕ
  mine = Promises.own_entries g d n ++ Promises.own_entries g d' n

  pub record Left : Type 0 where
    pub untouched : (i : ℕ) → Aside g (Promises.own_entries g d n ++ Promises.own_entries g d' n) (Promises.own_granules g d' n) i → byte d' i ≡ byte d i
    pub spare : (b u : ℕ) → b < g.blocks → g.units ≤ u → digit (byte d' (256 * g.start + b)) u ≡ digit (byte d (256 * g.start + b)) u

  left : Places.Fits g d → (xs ns : List ℕ) → Touch g xs ns d d' → ((x : ℕ) → In x xs → In x (Promises.own_entries g d n ++ Promises.own_entries g d' n))
      → ((m : ℕ) → In m ns → In m (Promises.own_granules g d' n)) → ((b : ℕ) → b < g.blocks → In ((256 * g.start + b) / granule_bytes g) ns → ⊥) → Left
  left k xs ns t a b o = record {
    untouched = Touch.touch-aside g d k (Touch.touch-more mine (Promises.own_granules g d' n) a b t);
    spare = λ e u h l. Touch.touch-spare g d k t e u h l (o e h);
  }

  entries-before : (p x : ℕ) → named g d n ≡ p ∷ [] → In x (chain g d p) → In x (Promises.own_entries g d n ++ Promises.own_entries g d' n)
  entries-before p x e i = let j : In x (Promises.own_entries g d n) = rw e (Members.in-append-l [] i) in Members.in-append-l (Promises.own_entries g d' n) j

  entries-after : (p x : ℕ) → named g d' n ≡ p ∷ [] → In x (chain g d' p) → In x (Promises.own_entries g d n ++ Promises.own_entries g d' n)
  entries-after p x e i = Members.in-append-r (Promises.own_entries g d n) (rw e (Members.in-append-l [] i))

  -- no byte of data
  left-before : Places.Fits g d → (p : ℕ) → named g d n ≡ p ∷ [] → Touch g (chain g d p) [] d d' → Left
  left-before k p e t = left k (chain g d p) [] t (λ x i. entries-before p x e i) (λ m i. Members.none_in i) (λ b h i. Members.none_in i)

  pub left_after : Places.Fits g d → (p : ℕ) → named g d' n ≡ p ∷ [] → Touch g (chain g d' p) [] d d' → Left
  left_after k p e t = left k (chain g d' p) [] t (λ x i. entries-after p x e i) (λ m i. Members.none_in i) (λ b h i. Members.none_in i)

-- a call by a handle: what is said of the file at its slot is said of the file of its name
module _ (g : Geometry) (d d' : List ℕ) (h : Handle) (w : Holds g d h) (is : Found) where
  by-handle : plain g d' (name_of g d h.slot) ≡ is
      → ((m : List ℕ) → m ≢ name_of g d h.slot → hush (plain g d' m) ≡ hush (plain g d m))
      → ((m : List ℕ) → m ≢ name_of g d h.slot → beyond g d' m ≡ beyond g d m)
      → ((m : List ℕ) → m ≢ name_of g d h.slot → named g d' m ≡ named g d m)
      → Left g d d' (name_of g d h.slot)
      → length (free_granules g d) + length (owned g d h.slot) ≡ length (free_granules g d') + Promises.granules_in is
      → Becomes g d d' h.name (found (file_at g d h.slot)) is
  unfolding file_at
  by-handle own others beyond' names l free = subst (λ (n : List ℕ). Becomes g d d' n (found (file_at g d h.slot)) is) w.name' (record {
    before = Named.plain-is g d w.sound h.slot (name_of g d h.slot) w.file refl;
    after = own;
    list = one_list g d d' (name_of g d h.slot) is own others;
    others = beyond';
    slots' = names;
    untouched = l.untouched;
    spare = l.spare;
    free = free;
  })

  named_here : named g d (name_of g d h.slot) ≡ h.slot ∷ []
  named_here = Named.named-is g d w.sound h.slot w.file

-- the handle of a file that is still there
alive : (g : Geometry) (d d' : List ℕ) (h h' : Handle) → Holds g d h → Facts.IsFile g d' h.slot → name_of g d' h.slot ≡ name_of g d h.slot → h'.slot ≡
    h.slot → h'.name ≡ h.name
    → Live g d' h'
alive g d d' h h' w f n s m = record {
  slot = rw s f.slot;
  used = rw s (Facts.file-in-use g d' h.slot f);
  first = rw s (Facts.file-first g d' h.slot f);
  name' = ap (name_of g d') s ∙ n ∙ w.name' ∙ sym m;
}

owns : (g : Geometry) (d : List ℕ) (p : ℕ) → length (owned g d p) ≡ (file_at g d p).granules
unfolding file_at
owns g d p = refl

pub kill-serves : (g : Geometry) (d : List ℕ) (h : Handle) → (kill g d h).0.refusal.number ≡ 0
    → Changes g d (kill g d h).1 h (kill g d h).0.handle (λ f. nothing) h
unfolding kill
kill-serves g d h e =
    let w = (Passed.holds g d h _ 1 [] e).0 in let x = KillMeans.kill-means g d h e in
    record {
      file = file_at g d h.slot;
      mine = refl;
      becomes = by-handle g d (kill g d h).1 h w nothing x.gone x.others x.beyond' x.names'
          (left-before g d (kill g d h).1 (name_of g d h.slot) w.fits h.slot (named_here g d (kill g d h).1 h w nothing) x.touch)
          (omega (arith, x.free));
      handle' = refl;
      live = λ f q. absurd (let z : ◌≡◌ {A = ℕ} 0 1 = cc in omega arith);
      ranged = (Refusing.range-iff g h).0 (Passing.handle-passed g d h (in_range g h) (protected g d 1 h ∷ []) e).1;
    }

pub allot-serves : (g : Geometry) (d : List ℕ) (h : Handle) (k : ℕ) → (allot g d h k).0.refusal.number ≡ 0
    → Changes g d (allot g d h k).1 h (allot g d h k).0.handle (λ f. found (allotted_to g k f)) h
unfolding allot allotted_to file_at
allot-serves g d h k e =
    let w = (Passed.holds g d h _ 4 _ e).0 in let x = Grow.allot-means g d h k e in
    record {
      file = file_at g d h.slot;
      mine = refl;
      becomes = by-handle g d (allot g d h k).1 h w (found (allotted_to g k (file_at g d h.slot))) x.own x.others x.beyond' x.names'
          (left_after g d (allot g d h k).1 (name_of g d h.slot) w.fits h.slot
          (Named.named-at g (allot g d h k).1 (Facts.sound g (allot g d h k).1 x.consistent') h.slot (name_of g d h.slot) x.file' x.name')
          x.touch) (omega (arith, x.free));
      handle' = refl;
      live = λ f q. alive g d (allot g d h k).1 h h w x.file' x.name' refl refl;
      ranged = (Refusing.range-iff g h).0 (Passing.first_of (in_range g h) (ltb k (sector_numbers g) ∷ [])
          (Passing.handle-passed g d h (all (in_range g h ∷ ltb k (sector_numbers g) ∷ [])) (protected g d 4 h ∷ cannot_grow g d h.slot (to_allot g d h k)) e
          ).1);
    }

pub trim-serves : (g : Geometry) (d : List ℕ) (h : Handle) → (trim g d h).0.refusal.number ≡ 0
    → Changes g d (trim g d h).1 h (trim g d h).0.handle (λ f. found (trimmed g f)) h
unfolding trim
trim-serves g d h e =
    let w = (Passed.holds g d h _ 4 [] e).0 in let x = Trim.trim-means g d h e in
    let many : length (owned g (trim g d h).1 h.slot) ≡ (trimmed g (file_at g d h.slot)).granules = owns g (trim g d h).1 h.slot ∙ ap
    (λ (f : File). f.granules) x.told in
    record {
      file = file_at g d h.slot;
      mine = refl;
      becomes = by-handle g d (trim g d h).1 h w (found (trimmed g (file_at g d h.slot))) x.own x.others x.beyond' x.names'
          (left-before g d (trim g d h).1 (name_of g d h.slot) w.fits h.slot (named_here g d (trim g d h).1 h w nothing) x.touch)
          (x.free ∙ ap (λ (n : ℕ). length (free_granules g (trim g d h).1) + n) many);
      handle' = refl;
      live = λ f q. alive g d (trim g d h).1 h h w x.file' x.name' refl refl;
      ranged = (Refusing.range-iff g h).0 (Passing.handle-passed g d h (in_range g h) (protected g d 4 h ∷ []) e).1;
    }

-- a GAT byte of a block lies in the directory
gat-in : (g : Geometry) (d : List ℕ) → Facts.Sound g d → Places.Fits g d → (b : ℕ) → b < g.blocks → In ((256 * g.start + b) / granule_bytes g)
    (directory_granules g d)
unfolding words
gat-in g d c k b h = Write.in-directory g d (256 * g.start + b) k.start-at (Places.dir g d c.dir) (omega arith) (omega (arith, k.blocks-hi))

write-range : (g : Geometry) (d : List ℕ) (m : Mode) (h : Handle) (n : ℕ) (b : List ℕ) → (write_of g d m h n b).0.refusal.number ≡ 0 → InRange g
    (moved_to h (h.at + n))
unfolding write_of all
write-range g d m h n b e =
    let far = leb (h.at + n) (highest g) in let room = leb n (length b) in
    let t = (Passing.handle-passed g d h (all (in_range g h ∷ far ∷ room ∷ [])) (protected g d 4 h ∷ cannot_grow g d h.slot (to_write g d m h n)) e).1 in
    let u = Members.and_r (in_range g h) (far && (room && true)) t in
    Passing.further g h (h.at + n) ((Refusing.range-iff g h).0 (Members.and_l (in_range g h) (far && (room && true)) t))
    (leb→le (h.at + n) (highest g) (Members.and_l far (room && true) u))

pub write-serves : (g : Geometry) (d : List ℕ) (m : Mode) (h : Handle) (n : ℕ) (b : List ℕ) → (write_of g d m h n b).0.refusal.number ≡ 0
    → Writes g d m h n b (write_of g d m h n b).0.handle (write_of g d m h n b).1
write-serves g d m h n b e =
    let w = (WriteMeans.write-wrote g d m h n b e).0 in let x = (WriteMeans.write-wrote g d m h n b e).1 in
    let d' = (write_of g d m h n b).1 in let p = h.slot in
    let many : length (owned g d' p) ≡ (written_to g m h.at (take n b) (file_at g d p)).granules = owns g d' p ∙ ap (λ (f : File). f.granules) x.told in
    let c' = Facts.sound g d' x.consistent' in
    let at : named g d' (name_of g d p) ≡ p ∷ [] = Named.named-at g d' c' p (name_of g d p) x.file' x.name' in
    record {
      file = file_at g d p;
      mine = refl;
      becomes = by-handle g d d' h w (found (written_to g m h.at (take n b) (file_at g d p))) x.own x.others x.beyond' x.names'
          (left g d d' (name_of g d p) w.fits (chain g d' p) (owned g d' p) x.touch (λ y i. entries-after g d d' (name_of g d p) p y at i)
          (λ n i. rw at (Members.in-append-l [] i))
          (λ b l i. x.apart ((256 * g.start + b) / granule_bytes g) i (gat-in g d' c' (WriteMeans.fits_after g d d' w.fits x.long) b l)))
          (x.free ∙ ap (λ (n : ℕ). length (free_granules g d') + n) many);
      handle' = moved e;
      live = λ f q. alive g d d' h (write_of g d m h n b).0.handle w x.file' x.name' (ap (λ (k : Handle). k.slot) (moved e))
          (ap (λ (k : Handle). k.name) (moved e));
      ranged = subst (InRange g) (sym (moved e)) (write-range g d m h n b e);
    }
  where
    moved : (write_of g d m h n b).0.refusal.number ≡ 0 → (write_of g d m h n b).0.handle ≡ moved_to h (h.at + n)
    moved e = unfold write_of in rw e

-- a file born
pub create-becomes : (g : Geometry) (d n : List ℕ) (f : NewFile) (checking : Bool) → (create g d n f checking).0.refusal.number ≡ 0 → (create g d n f checking
    ).0.old ≡ false
    → Becomes g d (create g d n f checking).1 (fold n) nothing (found (born_as f))
unfolding born_as
create-becomes g d n f checking e o =
    let x = CreateMeans.create-means g d n f checking e o in let z = CreateMeans.create-placed g d n f checking e o in
    let d' = (create g d n f checking).1 in
    let l = left_after g d d' (fold n) (CreateMeans.create-fits g d n f checking e) (new_slot g d)
    (Named.named-at g d' (Facts.sound g d' x.consistent') (new_slot g d) (fold n) z.file z.name') z.touch in
    record {
      before = x.was;
      after = x.born;
      list = one_list g d (create g d n f checking).1 (fold n) (found (born_as f)) x.born x.others;
      others = x.beyond';
      slots' = x.names';
      untouched = l.untouched;
      spare = l.spare;
      free = ap (λ (l : List ℕ). length l + 0) (sym x.free');
    }
