-- What each accepted call of a list does, from demand 2 of the calls
use Rattle.std.specs.Prelude.{◌≡◌, refl, ◌≢◌, Bool, true, false, not, cond, ℕ, zero, suc, ◌+◌, ◌<◌, length, get_or, take, T, eqb, ltb}
use Rattle.std.proofs.Math.Path.{ap, sym}
use Rattle.std.proofs.Common.{◌∙◌, arith, eqb→eq, T_not, ltb→lt}
use mathlib.Core.List.{List, [], ◌∷◌, ◌++◌, map}
use Rattle.std.proofs.Math.ListN.{set, get_or-map}
use Rattle.meaning.specs.Layout.{fits_geometry}
use Rattle.meaning.specs.Entries.{system, name_of, access_level}
use Rattle.meaning.specs.Consistent.{consistent}
use Rattle.meaning.specs.Lists.{first_or}
use Rattle.meaning.specs.Free.{free_slots}
use Rattle.meaning.specs.Handles.{moved_to, no_handle}
use Rattle.meaning.specs.Names.{fold}
use Rattle.meaning.specs.LookUp.{look_up, named, missing}
use Rattle.meaning.specs.Open.{open', full, opened_at}
use Rattle.meaning.specs.Create.{create}
use Rattle.meaning.specs.Amount.{Amount, how_many}
use Rattle.meaning.specs.Read.{read_of}
use Rattle.meaning.specs.Write.{write_of}
use Rattle.meaning.specs.Allot.{allot}
use Rattle.meaning.specs.Trim.{trim}
use Rattle.meaning.specs.Kill.{kill}
use Rattle.meaning.specs.Calls.{number, leaves}
use Rattle.meaning.specs.Plain.{File, Found, found, nothing, file_at, found_in, plain, born_as, written_to, allotted_to, trimmed}
use Rattle.promises_words.specs.Untouched.{hush}
use Rattle.meaning.specs.declared.Geometry.{Geometry}
use Rattle.meaning.specs.declared.Handle.{Handle}
use Rattle.meaning.specs.declared.NewFile.{NewFile}
use Rattle.meaning.specs.declared.Mode.{Mode}
use Rattle.lists.specs.Members
use Rattle.laws.specs.Passed
use Rattle.promises.specs.KillMeans
use Rattle.laws.specs.Passed.{Holds}
use Rattle.laws.specs.Named
use Rattle.promises.specs.CreateMeans
use Rattle.promises.specs.Grow
use Rattle.promises.specs.Trim
use Rattle.promises.specs.WriteMeans
use Rattle.together.specs.Statement.{Name, Step, looks_up, opens, creates, moves, reads, reads_sector, writes, allots, trims, kills, Side, known, answer}
use Rattle.together.specs.Statement.{handle_at, many_by, Grip, grip}
use Rattle.together.specs.State.{state_of, stands, changed, born, level_of, effect, Held, Good, at_place}

-- Lists of handles -------------------------------------------------------------------------------------------------------

map_snoc : (hs : List Handle) (h : Handle) → map grip (hs ++ (h ∷ [])) ≡ map grip hs ++ (grip h ∷ [])
map_snoc [] h = refl
map_snoc (x ∷ hs) h = ap (λ (l : List Grip). grip x ∷ l) (map_snoc hs h)

map-set : (hs : List Handle) (i : ℕ) (h : Handle) → map grip (set hs i h) ≡ set (map grip hs) i (grip h)
map-set [] i h = refl
map-set (x ∷ hs) zero h = refl
map-set (x ∷ hs) (suc i) h = ap (λ (l : List Grip). grip x ∷ l) (map-set hs i h)

held-snoc : (n : Name) (hs : List Handle) (h : Handle) → Held n hs → h.name ≡ n → Held n (hs ++ (h ∷ []))
unfolding Held
held-snoc n [] h k e = (e, tt)
held-snoc n (x ∷ hs) h k e = (k.0, held-snoc n hs h k.1 e)

held-set : (n : Name) (hs : List Handle) (i : ℕ) (h : Handle) → Held n hs → h.name ≡ n → Held n (set hs i h)
unfolding Held
held-set n [] i h k e = tt
held-set n (x ∷ hs) zero h k e = (e, k.1)
held-set n (x ∷ hs) (suc i) h k e = (k.0, held-set n hs i h k.1 e)

pub held_at : (n : Name) (hs : List Handle) (i : ℕ) → Held n hs → T (ltb i (length hs)) → (handle_at hs i).name ≡ n
unfolding Held
held_at n hs i k t = go hs i k (ltb→lt i (length hs) t)
  where
    go : (hs : List Handle) (i : ℕ) → Held n hs → i < length hs → (handle_at hs i).name ≡ n
    go [] i k h = absurd (omega arith)
    go (x ∷ hs) zero k h = k.0
    go (x ∷ hs) (suc i) k h = go hs i k.1 (omega arith)

-- Files ------------------------------------------------------------------------------------------------------------------

-- a file that is no system file is told whole
user-whole : (g : Geometry) (d : List ℕ) (p : ℕ) → T (not (system g d p)) → hush (found (file_at g d p)) ≡ found (file_at g d p)
unfolding hush file_at
user-whole g d p u = rw (Members.no_false {b = system g d p} (T_not (system g d p) u))

module _ (g : Geometry) (d : List ℕ) (n : Name) (h : Handle) (w : Holds g d h) (e : h.name ≡ n) where
  called : name_of g d h.slot ≡ n
  called = w.name' ∙ e

  stands-own : stands g d n ≡ found (file_at g d h.slot)
  unfolding stands
  stands-own = ap hush (Named.plain-is g d w.sound h.slot n w.file called) ∙ user-whole g d h.slot w.user

  stands-changed : (d' : List ℕ) (u : File → File) → plain g d' (name_of g d h.slot) ≡ found (u (file_at g d h.slot)) → stands g d' n ≡ changed u
      (stands g d n)
  unfolding changed
  stands-changed d' u o = go ∙ sym (ap (changed u) stands-own)
    where
      go : stands g d' n ≡ hush (found (u (file_at g d h.slot)))
      go = unfold stands in (ap (λ (m : Name). hush (plain g d' m)) (sym called) ∙ ap hush o)

  stands-gone : (d' : List ℕ) → plain g d' (name_of g d h.slot) ≡ nothing → stands g d' n ≡ nothing
  unfolding stands hush
  stands-gone d' o = ap (λ (m : Name). hush (plain g d' m)) (sym called) ∙ ap hush o

  stands-others : (d' : List ℕ) → ((m : Name) → m ≢ name_of g d h.slot → hush (plain g d' m) ≡ hush (plain g d m)) → (m : Name) → m ≢ n → stands g d' m ≡
      stands g d m
  unfolding stands
  stands-others d' o m q = o m (λ z. q (z ∙ called))

good-after : (g : Geometry) (d d' : List ℕ) → Good g d → length d' ≡ length d → consistent g d' ≡ true → Good g d'
unfolding Good fits_geometry
good-after g d d' k l c = (rw l k.0, c)

-- the level that open gives
open-level : (g : Geometry) (d : List ℕ) (n : Name) (checking : Bool) (code : ℕ) → (T (missing g d n) → ⊥)
    → cond (full g d (first_or 0 (named g d n)) checking code) 0 (access_level g d (first_or 0 (named g d n))) ≡ level_of g checking code (stands g d n)
unfolding stands plain first_or found_in hush level_of file_at full
open-level g d n checking code h = go (named g d n) h
  where
    go : (xs : List ℕ) → (T (eqb (length xs) 0) → ⊥) → cond (full g d (first_or 0 xs) checking code) 0 (access_level g d (first_or 0 xs)) ≡ level_of g checking
        code (hush (found_in g d xs))
    go [] h = absurd (h tt)
    go (x ∷ xs) h = refl

-- a name that is not found has no file, and one that is found has one
stands-missing : (g : Geometry) (d : List ℕ) (n : Name) → T (missing g d n) → stands g d n ≡ nothing
unfolding stands plain found_in hush
stands-missing g d n t = go (named g d n) t
  where
    go : (xs : List ℕ) → T (eqb (length xs) 0) → hush (found_in g d xs) ≡ nothing
    go [] t = refl
    go (x ∷ xs) t = let e = eqb→eq (length (x ∷ xs)) 0 t in absurd (omega arith)

new-level : (g : Geometry) (checking : Bool) (code : ℕ) (x : Found) → x ≡ nothing → 0 ≡ level_of g checking code x
unfolding level_of
new-level g checking code x e = sym (ap (level_of g checking code) e)

stands-old : (g : Geometry) (d : List ℕ) (n : Name) (f : NewFile) → (T (missing g d n) → ⊥) → stands g d n ≡ born f (stands g d n)
unfolding stands plain found_in hush born
stands-old g d n f t = go (named g d n) t
  where
    go : (xs : List ℕ) → (T (eqb (length xs) 0) → ⊥) → hush (found_in g d xs) ≡ born f (hush (found_in g d xs))
    go [] t = absurd (t tt)
    go (x ∷ xs) t = refl

-- Each call --------------------------------------------------------------------------------------------------------------

pub record Effect (g : Geometry) (n : Name) (d : List ℕ) (hs : List Handle) (c : Step) (d' : List ℕ) (hs' : List Handle) : Type 0 where
  pub good : Good g d'
  pub held : Held n hs'
  pub file : stands g d' n ≡ (effect g n c (state_of g n d hs)).file
  pub grips : map grip hs' ≡ (effect g n c (state_of g n d hs)).grips
  pub spares : (m : Name) → m ≢ n → stands g d' m ≡ stands g d m

module _ (g : Geometry) (n : Name) (d : List ℕ) (hs : List Handle) (k : Good g d) (held : Held n hs) where
  grip-at : (i : ℕ) → get_or (map grip hs) i (grip no_handle) ≡ grip (handle_at hs i)
  grip-at i = get_or-map grip hs i no_handle

  stands_same : (m : Name) → m ≢ n → stands g d m ≡ stands g d m
  stands_same m q = refl

  place-effect : (i at : ℕ) → T (ltb i (length hs)) → Effect g n d hs (moves i at) d (set hs i (moved_to (handle_at hs i) at))
  unfolding effect
  place-effect i at t = record {
    good = k;
    held = held-set n hs i _ held (held_at n hs i held t);
    file = refl;
    grips = map-set hs i _ ∙ ap (λ (x : Grip). set (map grip hs) i (at_place x at)) (sym (grip-at i));
    spares = stands_same;
  }

  abbrev grip_of : ℕ → Grip
  grip_of i = get_or (map grip hs) i (grip no_handle)

  moved : (a : Amount) (i : ℕ) (b : List ℕ) → map grip (set hs i (moved_to (handle_at hs i) ((handle_at hs i).at + many_by hs a i b)))
      ≡ set (map grip hs) i (at_place (grip_of i) ((grip_of i).at + how_many a (grip_of i).len b))
  moved a i b = map-set hs i _ ∙ ap (λ (x : Grip). set (map grip hs) i (at_place x (x.at + how_many a x.len b))) (sym (grip-at i))

  read-effect : (a : Amount) (i : ℕ) (b : List ℕ) → T (ltb i (length hs)) → (read_of g d (handle_at hs i) (many_by hs a i b) b).0.refusal.number ≡ 0
      → Effect g n d hs (reads a i b) d (set hs i (read_of g d (handle_at hs i) (many_by hs a i b) b).0.handle)
  unfolding effect read_of
  read-effect a i b t e = rw e (record {
    good = k;
    held = held-set n hs i _ held (held_at n hs i held t);
    file = refl;
    grips = moved a i b;
    spares = stands_same;
  })

  sector-effect : (i j : ℕ) → Effect g n d hs (reads_sector i j) d hs
  unfolding effect
  sector-effect i j = record { good = k; held = held; file = refl; grips = refl; spares = stands_same }

  write-effect : (a : Amount) (m : Mode) (i : ℕ) (b : List ℕ) → T (ltb i (length hs))
      → (write_of g d m (handle_at hs i) (many_by hs a i b) b).0.refusal.number ≡ 0
      → Effect g n d hs (writes a m i b) (write_of g d m (handle_at hs i) (many_by hs a i b) b).1
      (set hs i (write_of g d m (handle_at hs i) (many_by hs a i b) b).0.handle)
  unfolding effect
  write-effect a m i b t e =
      let h = handle_at hs i in
      let q = held_at n hs i held t in
      let w = WriteMeans.write-wrote g d m h (many_by hs a i b) b e in
      let d' = (write_of g d m h (many_by hs a i b) b).1 in
      record {
        good = good-after g d d' k w.1.long w.1.consistent';
        held = held-set n hs i _ held (name-kept q);
        file = stands-changed g d n h w.0 q d' (written_to g m h.at (take (many_by hs a i b) b)) w.1.own
            ∙ ap (λ (x : Grip). changed (written_to g m x.at (take (how_many a x.len b) b)) (stands g d n)) (sym (grip-at i));
        grips = handle-moved;
        spares = stands-others g d n h w.0 q d' w.1.others;
      }
    where
      name-kept : (handle_at hs i).name ≡ n → (write_of g d m (handle_at hs i) (many_by hs a i b) b).0.handle.name ≡ n
      name-kept q = unfold write_of in rw e q

      handle-moved : map grip (set hs i (write_of g d m (handle_at hs i) (many_by hs a i b) b).0.handle)
          ≡ set (map grip hs) i (at_place (grip_of i) ((grip_of i).at + how_many a (grip_of i).len b))
      handle-moved = unfold write_of in rw e (moved a i b)

  allot-effect : (i j : ℕ) → T (ltb i (length hs)) → (allot g d (handle_at hs i) j).0.refusal.number ≡ 0
      → Effect g n d hs (allots i j) (allot g d (handle_at hs i) j).1 hs
  unfolding effect
  allot-effect i j t e =
      let h = handle_at hs i in
      let q = held_at n hs i held t in
      let x = Grow.allot-means g d h j e in
      let d' = (allot g d h j).1 in
      let w : Holds g d h = unfold allot in (Passed.holds g d h _ 4 _ e).0 in
      record {
        good = good-after g d d' k x.long x.consistent';
        held = held;
        file = stands-changed g d n h w q d' (allotted_to g j) x.own;
        grips = refl;
        spares = stands-others g d n h w q d' x.others;
      }

  trim-effect : (i : ℕ) → T (ltb i (length hs)) → (trim g d (handle_at hs i)).0.refusal.number ≡ 0
      → Effect g n d hs (trims i) (trim g d (handle_at hs i)).1 hs
  unfolding effect
  trim-effect i t e =
      let h = handle_at hs i in
      let q = held_at n hs i held t in
      let x = Trim.trim-means g d h e in
      let d' = (trim g d h).1 in
      let w : Holds g d h = unfold trim in (Passed.holds g d h _ 4 [] e).0 in
      record {
        good = good-after g d d' k x.long x.consistent';
        held = held;
        file = stands-changed g d n h w q d' (trimmed g) x.own;
        grips = refl;
        spares = stands-others g d n h w q d' x.others;
      }

  kill-effect : (i : ℕ) → T (ltb i (length hs)) → (kill g d (handle_at hs i)).0.refusal.number ≡ 0
      → Effect g n d hs (kills i) (kill g d (handle_at hs i)).1 hs
  unfolding effect
  kill-effect i t e =
      let h = handle_at hs i in
      let q = held_at n hs i held t in
      let x = KillMeans.kill-means g d h e in
      let d' = (kill g d h).1 in
      let w : Holds g d h = unfold kill in (Passed.holds g d h _ 1 [] e).0 in
      record {
        good = good-after g d d' k x.long x.consistent';
        held = held;
        file = stands-gone g d n h w q d' x.gone;
        grips = refl;
        spares = stands-others g d n h w q d' x.others;
      }

-- by name: n is the name as the caller gives it
module _ (g : Geometry) (n : Name) (d : List ℕ) (hs : List Handle) (k : Good g d) (held : Held (fold n) hs) where
  look-effect : (look_up g d n).refusal.number ≡ 0 → Effect g (fold n) d hs looks_up d hs
  unfolding effect
  look-effect e = record { good = k; held = held; file = refl; grips = refl; spares = stands_same g (fold n) d hs k held }

  open-effect : (len : ℕ) (checking : Bool) (code : ℕ) → (open' g d n len checking code).refusal.number ≡ 0
      → Effect g (fold n) d hs (opens len checking code) d (hs ++ ((open' g d n len checking code).handle ∷ []))
  unfolding effect open'
  open-effect len checking code e =
      let p₂ = Passed.disk-passed g d _ e in
      let p₃ = Passed.passed 12 _ _ (omega arith) p₂.1 in
      let p₄ = Passed.passed 3 _ _ (omega arith) p₃.1 in
      let p₅ = Passed.passed 4 _ _ (omega arith) p₄.1 in
      rw e (record {
        good = k;
        held = held-snoc (fold n) hs (opened_at g d (first_or 0 (named g d (fold n))) (fold n) len checking code) held refl;
        file = refl;
        grips = map_snoc hs _ ∙ ap (λ (l : ℕ). map grip hs ++ (record { name = fold n; at = 0; len = len; level = l } ∷ []))
            (open-level g d (fold n) checking code p₅.0);
        spares = stands_same g (fold n) d hs k held;
      })

  create-old : (f : NewFile) (checking : Bool) → (create g d n f checking).0.refusal.number ≡ 0 → (T (missing g d (fold n)) → ⊥)
      → Effect g (fold n) d hs (creates f checking) (create g d n f checking).1 (hs ++ ((create g d n f checking).0.handle ∷ []))
  unfolding create effect
  create-old f checking e t = rw (e, Members.no_false {b = missing g d (fold n)} t) (record {
    good = k;
    held = held-snoc (fold n) hs (opened_at g d (first_or 0 (named g d (fold n))) (fold n) f.len checking f.main) held refl;
    file = stands-old g d (fold n) f t;
    grips = map_snoc hs _ ∙ ap (λ (l : ℕ). map grip hs ++ (record { name = fold n; at = 0; len = f.len; level = l } ∷ []))
        (open-level g d (fold n) checking f.main t);
    spares = stands_same g (fold n) d hs k held;
  })

  new-handle : (f : NewFile) (checking : Bool) → (create g d n f checking).0.refusal.number ≡ 0 → T (missing g d (fold n))
      → ((create g d n f checking).0.old ≡ false) ×
      ((create g d n f checking).0.handle ≡ record { slot = first_or 0 (free_slots g d); name = fold n; at = 0; len = f.len; level = 0 })
  unfolding create
  new-handle f checking e t = rw (e, Members.T_true {b = missing g d (fold n)} t) (refl, refl)

  new-file : (f : NewFile) (d' : List ℕ) → T (missing g d (fold n)) → plain g d' (fold n) ≡ found (born_as f) → stands g d' (fold n) ≡ born f
      (stands g d (fold n))
  unfolding born
  new-file f d' t e = told ∙ sym (ap (born f) (stands-missing g d (fold n) t))
    where
      told : stands g d' (fold n) ≡ hush (found (born_as f))
      told = unfold stands in ap hush e

  create-new : (f : NewFile) (checking : Bool) → (create g d n f checking).0.refusal.number ≡ 0 → T (missing g d (fold n))
      → Effect g (fold n) d hs (creates f checking) (create g d n f checking).1 (hs ++ ((create g d n f checking).0.handle ∷ []))
  unfolding effect stands
  create-new f checking e t =
      let h = new-handle f checking e t in
      let x = CreateMeans.create-means g d n f checking e h.0 in
      let d' = (create g d n f checking).1 in
      record {
        good = good-after g d d' k x.long x.consistent';
        held = held-snoc (fold n) hs _ held (ap (λ (y : Handle). y.name) h.1);
        file = new-file f d' t x.born;
        grips = map_snoc hs _ ∙ ap (λ (y : Handle). map grip hs ++ (grip y ∷ [])) h.1
            ∙ ap (λ (l : ℕ). map grip hs ++ (record { name = fold n; at = 0; len = f.len; level = l } ∷ []))
            (new-level g checking f.main (stands g d (fold n)) (stands-missing g d (fold n) t));
        spares = x.others;
      }

  create-effect : (f : NewFile) (checking : Bool) → (create g d n f checking).0.refusal.number ≡ 0
      → Effect g (fold n) d hs (creates f checking) (create g d n f checking).1 (hs ++ ((create g d n f checking).0.handle ∷ []))
  create-effect f checking e = go (Members.decide (missing g d (fold n)))
    where
      go : Members.Test (missing g d (fold n)) → Effect g (fold n) d hs (creates f checking) (create g d n f checking).1
          (hs ++ ((create g d n f checking).0.handle ∷ []))
      go (Members.Test.fails t) = create-old f checking e t
      go (Members.Test.holds t) = create-new f checking e t

-- the call as one of the list
pub has-effect : (g : Geometry) (n : Name) (d : List ℕ) (s : Side) (c : Step) → Good g d → Held (fold n) s.handles → T (known s.handles c) → (answer g n
    d s c).number ≡ 0
    → Effect g (fold n) d s.handles c (answer g n d s c).disk (answer g n d s c).side.handles
unfolding answer number leaves known
has-effect g n d s looks_up k h t e = look-effect g n d s.handles k h e
has-effect g n d s (opens len checking code) k h t e = open-effect g n d s.handles k h len checking code e
has-effect g n d s (creates f checking) k h t e = create-effect g n d s.handles k h f checking e
has-effect g n d s (moves i at) k h t e = place-effect g (fold n) d s.handles k h i at t
has-effect g n d s (reads a i b) k h t e = read-effect g (fold n) d s.handles k h a i b t e
has-effect g n d s (reads_sector i j) k h t e = sector-effect g (fold n) d s.handles k h i j
has-effect g n d s (writes a m i b) k h t e = write-effect g (fold n) d s.handles k h a m i b t e
has-effect g n d s (allots i j) k h t e = allot-effect g (fold n) d s.handles k h i j t e
has-effect g n d s (trims i) k h t e = trim-effect g (fold n) d s.handles k h i t e
has-effect g n d s (kills i) k h t e = kill-effect g (fold n) d s.handles k h i t e
