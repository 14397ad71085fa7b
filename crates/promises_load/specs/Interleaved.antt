-- Demand 3 with load reads among the calls, proved; it is stated in Mixed.antt. A load read is shown to run as a setting of its handle's position;
-- demand 3 then is cited.
use Rattle.std.specs.Prelude.{◌≡◌, ◌≢◌, Bool, true, false, not, cond, ℕ, T, leb, length, get_or, set, replicate}
use Rattle.std.proofs.Math.Path.{refl, ap, ap₂}
use Rattle.std.proofs.Common.{sym, subst, ◌∙◌, T_not}
use mathlib.Core.List.{List, [], ◌∷◌, ◌++◌, map, append_assoc, append-nil}
use Rattle.std.proofs.Math.ListN.{take, drop, get_or-map}
use Rattle.meaning.specs.Lists.{all}
use Rattle.meaning.specs.Names.{fold}
use Rattle.meaning.specs.Refusals.{first, not_for_reading, by_number}
use Rattle.meaning.specs.Handles.{no_handle, moved_to, in_range}
use Rattle.meaning.specs.Plain.{File, Found, found, nothing, plain, file_at, is_system}
use Rattle.promises_words.specs.Untouched.{hush}
use Rattle.meaning.specs.declared.Geometry.{Geometry}
use Rattle.meaning.specs.declared.Handle.{Handle}
use Rattle.lists.specs.Members
use Rattle.laws.specs.Named
use Rattle.promises.specs.Passing
use Rattle.together.specs.Statement.{Name, Step, Side, handle_at, with_moved, Grip, grip, Turn, Interleaving, World, start, next, after, Taken, Accepted, known}
use Rattle.together.specs.Statement.{answer, Agree}
use Rattle.together.specs.State.{FileState, state_of, grip_at, stands, effect, Held, Good}
use Rattle.together.proofs.Effects
use Rattle.together.proofs.Interleavings
use Rattle.together.proofs.Interleavings.{Fine, state_in, swap}
use Rattle.together.proofs.Demand3
use Rattle.load.specs.Load.{most_bytes, load_numbers, asked, bytes_of, load_refusals, load_record}
use Rattle.load.specs.declared.NextRecord.{NextRecord}
use Rattle.load.specs.declared.Loaded.{Loaded}
use Rattle.promises_load.specs.Mixed

abbrev bytes_in : Found → List ℕ
bytes_in nothing = []
bytes_in (found f) = f.bytes

-- what a load read tells of what stands under a name
abbrev tale_in : Found → Grip → List ℕ → Mixed.Tale
tale_in x k b =
    let r = Mixed.next_in x k in
    record { kind = r.kind; address = r.address; buffer = take r.count (drop r.from (bytes_in x)) ++ drop r.count b }

-- what the load reads of a list tell, one after another
abbrev tells_one : FileState → Mixed.Asks → List Mixed.Tale
tells_one o (Mixed.calls c) = []
tells_one o (Mixed.loads i b) = tale_in o.file (grip_at o i) b ∷ []

abbrev tells_all : Geometry → Name → List Mixed.Asks → FileState → List Mixed.Tale
tells_all g n [] o = []
tells_all g n (x ∷ xs) o = tells_one o x ++ tells_all g n xs (effect g (fold n) (Mixed.without o x) o)

hush-user : (f : File) → T (not (is_system f)) → hush (found f) ≡ found f
unfolding hush
hush-user f t = rw (Members.no_false {b = is_system f} (λ u. T_not (is_system f) t u)) refl

-- One load read --------------------------------------------------------------------------------------------------------------

module _ (g : Geometry) (n : Name) (d : List ℕ) (s : Side) (held : Held (fold n) s.handles) (i : ℕ) (b : List ℕ) (l : Mixed.Loads g n d s i b) where
  abbrev h : Handle
  h = handle_at s.handles i

  passes : first (load_refusals g d h (length b)) ≡ 0
  passes = unfold load_record in l.1

  pub called : plain g d (fold n) ≡ found (file_at g d h.slot)
  called =
      let own = not_for_reading h ∷ by_number (asked g d h).number load_numbers in
      let w = (Passing.handle-passed g d h (all (in_range g h ∷ leb most_bytes (length b) ∷ [])) own passes).0 in
      ap (plain g d) (sym (Effects.held_at (fold n) s.handles i held l.0))
      ∙ Named.plain-is g d w.sound h.slot h.name (Passing.live-file g d h w.live) w.live.name'

  file-is : stands g d (fold n) ≡ found (file_at g d h.slot)
  unfolding stands
  file-is = ap hush called ∙ hush-user (file_at g d h.slot) (l.2 (file_at g d h.slot) called)

  grip-is : grip_at (state_of g (fold n) d s.handles) i ≡ grip h
  grip-is = get_or-map grip s.handles i no_handle

  next-is : Mixed.next_in (stands g d (fold n)) (grip_at (state_of g (fold n) d s.handles) i) ≡ asked g d h
  next-is = ap₂ Mixed.next_in file-is grip-is ∙ (unfold Mixed.next_in in refl)

  pub moved-is : (Mixed.loading g d s i b).0.handle ≡ moved_to h (Mixed.next_in (stands g d (fold n)) (grip_at (state_of g (fold n) d s.handles) i)).next
  moved-is = told ∙ ap (λ (r : NextRecord). moved_to h r.next) (sym next-is)
    where
      told : (Mixed.loading g d s i b).0.handle ≡ moved_to h (asked g d h).next
      told = unfold load_record in rw passes refl

  pub tale-is : Mixed.tale_of (Mixed.loading g d s i b) ≡ tale_in (stands g d (fold n)) (grip_at (state_of g (fold n) d s.handles) i) b
  tale-is = told ∙ sym (ap₂ (λ (x : Found) (k : Grip). tale_in x k b) file-is grip-is ∙ (unfold Mixed.next_in in refl))
    where
      told : Mixed.tale_of (Mixed.loading g d s i b)
          ≡ record {
            kind = (asked g d h).kind;
            address = (asked g d h).address;
            buffer = take (asked g d h).count (drop (asked g d h).from (bytes_of g d h.slot)) ++ drop (asked g d h).count b;
          }
      told = unfold load_record in rw passes refl

-- One turn -------------------------------------------------------------------------------------------------------------------

abbrev reading : World → List Mixed.Tale → List Mixed.Tale → Mixed.ReadingWorld
reading w p q = record { world = w; first = p; second = q }

module _ (g : Geometry) (a b : Name) (w : World) (p q : List Mixed.Tale) (k : Fine g a b w) where
  first-turn : (x : Mixed.Asks) → Mixed.Admits g a b (reading w p q) (Mixed.Move.one x)
      → Taken g a b w (Mixed.turn_of g a b w (Mixed.Move.one x))
      × (Mixed.onward g a b (reading w p q) (Mixed.Move.one x)
      ≡ reading (next g a b w (Mixed.turn_of g a b w (Mixed.Move.one x))) (p ++ tells_one (state_in g a w) x) q)
  unfolding answer known
  first-turn (Mixed.calls c) t = (t, ap (λ (l : List Mixed.Tale). reading (next g a b w (Turn.one c)) l q) (sym (append-nil p)))
  first-turn (Mixed.loads i x) t = (
    (t.0, refl),
    ap₂ (λ (y : Handle) (l : Mixed.Tale). reading (record { disk = w.disk; first = with_moved w.first i y; second = w.second }) (p ++ (l ∷ [])) q)
        (moved-is g a w.disk w.first k.first' i x t) (tale-is g a w.disk w.first k.first' i x t),
  )

  second-turn : (x : Mixed.Asks) → Mixed.Admits g a b (reading w p q) (Mixed.Move.two x)
      → Taken g a b w (Mixed.turn_of g a b w (Mixed.Move.two x))
      × (Mixed.onward g a b (reading w p q) (Mixed.Move.two x)
      ≡ reading (next g a b w (Mixed.turn_of g a b w (Mixed.Move.two x))) p (q ++ tells_one (state_in g b (swap w)) x))
  unfolding answer known
  second-turn (Mixed.calls c) t = (t, ap (λ (l : List Mixed.Tale). reading (next g a b w (Turn.two c)) p l) (sym (append-nil q)))
  second-turn (Mixed.loads i x) t = (
    (t.0, refl),
    ap₂ (λ (y : Handle) (l : Mixed.Tale). reading (record { disk = w.disk; first = w.first; second = with_moved w.second i y }) p (q ++ (l ∷ [])))
        (moved-is g b w.disk w.second k.second' i x t) (tale-is g b w.disk w.second k.second' i x t),
  )

-- A whole interleaving -------------------------------------------------------------------------------------------------------

-- it runs as it does without its load reads, and each list is told what hangs on it alone
record Runs (g : Geometry) (a b : Name) (w : World) (p q : List Mixed.Tale) (xs ys : List Mixed.Asks) (zs : List Mixed.Move) : Type 0 where
  pub laid : Interleaving (Mixed.stripped g a xs (state_in g a w)) (Mixed.stripped g b ys (state_in g b (swap w))) (Mixed.stripped_all g a b w zs)
  pub accepted : Accepted g a b w (Mixed.stripped_all g a b w zs)
  pub world : (Mixed.at_end g a b (reading w p q) zs).world ≡ after g a b w (Mixed.stripped_all g a b w zs)
  pub first' : (Mixed.at_end g a b (reading w p q) zs).first ≡ p ++ tells_all g a xs (state_in g a w)
  pub second' : (Mixed.at_end g a b (reading w p q) zs).second ≡ q ++ tells_all g b ys (state_in g b (swap w))

runs : (g : Geometry) (a b : Name) → fold a ≢ fold b → {xs ys : List Mixed.Asks} {zs : List Mixed.Move} → Mixed.Mixed xs ys zs
    → (w : World) (p q : List Mixed.Tale) → Fine g a b w → Mixed.AllAdmitted g a b (reading w p q) zs → Runs g a b w p q xs ys zs
runs g a b ab Mixed.Mixed.none w p q k t =
    record { laid = Interleaving.none; accepted = tt; world = refl; first' = sym (append-nil p); second' = sym (append-nil q) }
runs g a b ab (Mixed.Mixed.left {x} {xs} {ys} {zs} m) w p q k t =
    let u = first-turn g a b w p q k x t.0 in
    let c = Mixed.without (state_in g a w) x in
    let v = next g a b w (Turn.one c) in
    let e = Interleavings.own_turn g a b w c k u.0 in
    let o = Interleavings.other-turn g b a (λ z. ab (sym z)) (swap w) c (Interleavings.swap-fine g a b w k) u.0 in
    let r = runs g a b ab m v (p ++ tells_one (state_in g a w) x) q (Interleavings.fine-next g a b w (Turn.one c) k u.0)
    (subst (λ (y : Mixed.ReadingWorld). Mixed.AllAdmitted g a b y zs) u.1 t.1) in
    record {
      laid =
          Interleaving.left (subst (λ (y : FileState). Interleaving (Mixed.stripped g a xs y) (Mixed.stripped g b ys (state_in g b (swap w)))
          (Mixed.stripped_all g a b v zs)) e
          (subst (λ (y : FileState). Interleaving (Mixed.stripped g a xs (state_in g a v)) (Mixed.stripped g b ys y) (Mixed.stripped_all g a b v zs)) o
          r.laid));
      accepted = (u.0, r.accepted);
      world = ap (λ (y : Mixed.ReadingWorld). (Mixed.at_end g a b y zs).world) u.1 ∙ r.world;
      first' =
          ap (λ (y : Mixed.ReadingWorld). (Mixed.at_end g a b y zs).first) u.1 ∙ r.first'
          ∙ append_assoc p (tells_one (state_in g a w) x) (tells_all g a xs (state_in g a v))
          ∙ ap (λ (y : FileState). p ++ (tells_one (state_in g a w) x ++ tells_all g a xs y)) e;
      second' = ap (λ (y : Mixed.ReadingWorld). (Mixed.at_end g a b y zs).second) u.1 ∙ r.second' ∙ ap (λ (y : FileState). q ++ tells_all g b ys y) o;
    }
runs g a b ab (Mixed.Mixed.right {x} {xs} {ys} {zs} m) w p q k t =
    let u = second-turn g a b w p q k x t.0 in
    let c = Mixed.without (state_in g b (swap w)) x in
    let v = next g a b w (Turn.two c) in
    let e = Interleavings.own_turn g b a (swap w) c (Interleavings.swap-fine g a b w k) u.0 in
    let o = Interleavings.other-turn g a b ab w c k u.0 in
    let r = runs g a b ab m v p (q ++ tells_one (state_in g b (swap w)) x) (Interleavings.fine-next g a b w (Turn.two c) k u.0)
    (subst (λ (y : Mixed.ReadingWorld). Mixed.AllAdmitted g a b y zs) u.1 t.1) in
    record {
      laid =
          Interleaving.right (subst (λ (y : FileState). Interleaving (Mixed.stripped g a xs (state_in g a w)) (Mixed.stripped g b ys y)
          (Mixed.stripped_all g a b v zs)) e
          (subst (λ (y : FileState). Interleaving (Mixed.stripped g a xs y) (Mixed.stripped g b ys (state_in g b (swap v))) (Mixed.stripped_all g a b v zs)) o
          r.laid));
      accepted = (u.0, r.accepted);
      world = ap (λ (y : Mixed.ReadingWorld). (Mixed.at_end g a b y zs).world) u.1 ∙ r.world;
      first' = ap (λ (y : Mixed.ReadingWorld). (Mixed.at_end g a b y zs).first) u.1 ∙ r.first' ∙ ap (λ (y : FileState). p ++ tells_all g a xs y) o;
      second' =
          ap (λ (y : Mixed.ReadingWorld). (Mixed.at_end g a b y zs).second) u.1 ∙ r.second'
          ∙ append_assoc q (tells_one (state_in g b (swap w)) x) (tells_all g b ys (state_in g b (swap v)))
          ∙ ap (λ (y : FileState). q ++ (tells_one (state_in g b (swap w)) x ++ tells_all g b ys y)) e;
    }

pub demand3-loading : Mixed.Demand3Loading
unfolding Good
demand3-loading g a b ab d fit con xs ys zs zs' m m' t t' =
    let k = Interleavings.start_fine g a b d (fit, con) in
    let r = runs g a b ab m (start d) [] [] k t in
    let r' = runs g a b ab m' (start d) [] [] k t' in
    let x = Mixed.stripped g a xs (state_in g a (start d)) in
    let y = Mixed.stripped g b ys (state_in g b (swap (start d))) in
    let z = Mixed.stripped_all g a b (start d) zs in
    let z' = Mixed.stripped_all g a b (start d) zs' in
    record {
      agree =
          subst (λ (v : World). Agree g a b d x y z v (Mixed.at_end g a b (Mixed.begin d) zs').world) (sym r.world)
          (subst (λ (v : World). Agree g a b d x y z (after g a b (start d) z) v) (sym r'.world)
          (Demand3.demand3 g a b ab d fit con x y z z' r.laid r'.laid r.accepted r'.accepted));
      told = (r.first' ∙ sym r'.first', r.second' ∙ sym r'.second');
    }
