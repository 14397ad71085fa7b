-- Lists of exported calls run as `together`'s lists do, so demand 3 holds of them.
use Rattle.std.specs.Prelude.{ℕ, zero, suc, ◌+◌, ◌%◌, ◌≤◌, ◌≡◌, length, set, replicate}
use Rattle.std.proofs.Math.Path.{refl, ap, ap₂}
use Rattle.std.proofs.Common.{sym, subst, ◌∙◌, arith, ltb-false}
use mathlib.Core.List.{List, [], ◌∷◌, ◌++◌, map, map-append}
use Rattle.std.proofs.Math.ListN.{get_or-map}
use Rattle.std.proofs.Math.Seq.{slice}
use Rattle.meaning.specs.Names.{fold}
use Rattle.meaning.specs.Amount.{how_many}
use Rattle.meaning.specs.Handles.{moved_to}
use Rattle.meaning.specs.Read.{read_of, read_sector}
use Rattle.meaning.specs.Write.{write_of}
use Rattle.meaning.specs.Calls.{Call, number, leaves}
use Rattle.meaning.specs.Plain.{plain}
use Rattle.meaning.specs.declared.Geometry.{Geometry}
use Rattle.meaning.specs.declared.Handle.{Handle}
use Rattle.together.specs.Statement as together
use Rattle.together.specs.Statement.{Name, Side, World, Agree, handle_at, kept}
use Rattle.together.proofs.Demand3.{demand3}
use Rattle.genie_codec.specs.Codec.{handle_bytes, handle_of, stored, HandleFits}
use Rattle.genie_codec.specs.Words.{mode_of}
use Rattle.genie_codec.proofs.Fitting.{open-fits, create-fits, read_fits, write-fits}
use Rattle.promises_handles.specs.HandleBytes.{stored_back, stored-length, set_position, positions, position-set, position-length}
use Rattle.promises_exports.specs.Host.{HostCall, left_by, call_of, lent_handle}
use Rattle.promises_exports.specs.Proved.{number_is, image-is, long-enough, handle-length, handed-over}
use Rattle.promises_exports.specs.HostLists.{HostStep, looks_up, opens, creates, moves, reads, reads_sector, writes, allots, trims, kills}
use Rattle.promises_exports.specs.HostLists.{HostSide, slice_at, answer, step_of, side_of, HostTurn, one, two, turn_of, HostWorld}
use Rattle.promises_exports.specs.HostLists.{world_of}
use Rattle.promises_exports.specs.HostLists.{start, next, after, Accepted, EveryRun, HostDemand3}

-- Slices that hold handles ---------------------------------------------------------------------------------------------------------------------

-- long enough, and the numbers fit
pub record HoldsHandle (b : List ℕ) : Type 0 where
  pub long : handle_bytes ≤ length b
  pub fits : HandleFits (handle_of b)

pub data AllHold : List (List ℕ) → Type 0 where
  none : AllHold []
  more : {b : List ℕ} {bs : List (List ℕ)} → HoldsHandle b → AllHold bs → AllHold (b ∷ bs)

zeros-fine : HoldsHandle (replicate handle_bytes 0)
unfolding handle_of
zeros-fine = record { long = omega arith; fits = record { slot = omega arith; level = omega arith; len = omega arith; at = omega arith; name = refl } }

held_at : {bs : List (List ℕ)} → AllHold bs → (i : ℕ) → HoldsHandle (slice_at bs i)
held_at none i = zeros-fine
held_at (more f h) zero = f
held_at (more f h) (suc i) = held_at h i

held-set : {bs : List (List ℕ)} → AllHold bs → (i : ℕ) {b : List ℕ} → HoldsHandle b → AllHold (set bs i b)
held-set none i x = none
held-set (more f h) zero x = more x h
held-set (more f h) (suc i) x = more f (held-set h i x)

held-add : {bs : List (List ℕ)} → AllHold bs → {b : List ℕ} → HoldsHandle b → AllHold (bs ++ (b ∷ []))
held-add none x = more x none
held-add (more f h) x = more f (held-add h x)

map-set : (bs : List (List ℕ)) (i : ℕ) (b : List ℕ) → map handle_of (set bs i b) ≡ set (map handle_of bs) i (handle_of b)
map-set [] i b = refl
map-set (x ∷ bs) zero b = refl
map-set (x ∷ bs) (suc i) b = ap (λ (l : List Handle). handle_of x ∷ l) (map-set bs i b)

at-is : (bs : List (List ℕ)) (i : ℕ) → handle_at (map handle_of bs) i ≡ handle_of (slice_at bs i)
unfolding handle_of
at-is bs i = get_or-map handle_of bs i (replicate handle_bytes 0)

stored-fine : (b : List ℕ) (h : Handle) → handle_bytes ≤ length b → HandleFits h → HoldsHandle (stored b h)
stored-fine b h l f = record { long = subst (λ (n : ℕ). handle_bytes ≤ n) (sym (stored-length b h)) l; fits = subst HandleFits (sym (stored_back b h f l)) f }

moved-fine : (b : List ℕ) (at : ℕ) → HoldsHandle b → HoldsHandle (set_position b at)
moved-fine b at f =
    let k = f.fits in
    record {
      long = subst (λ (n : ℕ). handle_bytes ≤ n) (sym (position-length b at)) f.long;
      fits = subst HandleFits (sym (position-set b at f.long))
          (record { slot = k.slot; level = k.level; len = k.len; at = omega arith; name = k.name });
    }

-- One accepted step ------------------------------------------------------------------------------------------------------------------------------

-- the same step of `together`, its handles those of the slices
pub record StepAs (g : Geometry) (n : Name) (d : List ℕ) (s : HostSide) (c : HostStep) : Type 0 where
  pub number : (together.answer g n d (side_of s) (step_of c)).number ≡ (answer g n d s c).number
  pub disk : (together.answer g n d (side_of s) (step_of c)).disk ≡ (answer g n d s c).disk
  pub side : (together.answer g n d (side_of s) (step_of c)).side ≡ side_of (answer g n d s c).side
  pub held : AllHold (answer g n d s c).side.handles

module _ (g : Geometry) (n : Name) (d : List ℕ) (s : HostSide) (h : AllHold s.handles) where
  abbrev hs : List Handle
  hs = map handle_of s.handles

  -- the call of demand 2 that a step asks for is that of the exported call
  number_by : (c : HostCall) {x : Call} → x ≡ call_of c → (left_by g d c).number ≡ 0 → number g d x ≡ (left_by g d c).number
  number_by c e z = ap (number g d) e ∙ sym (number_is g d c (long-enough g d c z))

  disk-by : (c : HostCall) {x : Call} → x ≡ call_of c → (left_by g d c).number ≡ 0 → leaves g d x ≡ (left_by g d c).image
  disk-by c e z = ap (leaves g d) e ∙ sym (image-is g d c (long-enough g d c z))

  -- the slice of an accepted call: as long as it was lent, and the handle in it fits
  fine-by : (c : HostCall) {x : Handle} → (left_by g d c).number ≡ 0 → handle_bytes ≤ length (lent_handle c) → handle_of (left_by g d c).handle ≡ x
      → HandleFits x
      → HoldsHandle (left_by g d c).handle
  fine-by c z l q f =
      let e = long-enough g d c z in
      record { long = subst (λ (k : ℕ). handle_bytes ≤ k) (sym (handle-length g d c e (sym (number_is g d c e) ∙ z))) l; fits = subst HandleFits (sym q) f }

  abbrev held-slice : ℕ → List ℕ
  held-slice i = slice_at s.handles i

  new-handle : (b : List ℕ) {x : Handle} → handle_of b ≡ x → hs ++ (x ∷ []) ≡ map handle_of (s.handles ++ (b ∷ []))
  new-handle b q = ap (λ (x : Handle). hs ++ (x ∷ [])) (sym q) ∙ sym (map-append handle_of s.handles (b ∷ []))

  set-handle : (i : ℕ) (b : List ℕ) {x : Handle} → handle_of b ≡ x → set hs i x ≡ map handle_of (set s.handles i b)
  set-handle i b q = ap (set hs i) (sym q) ∙ sym (map-set s.handles i b)

  with-handles : List Handle → Side
  with-handles ks = record { handles = ks; heard = s.heard }

  step : (c : HostStep) → (answer g n d s c).number ≡ 0 → StepAs g n d s c
  unfolding together.answer with-handles
  step looks_up z = let k = HostCall.looks_up n in record { number = number_by k refl z; disk = disk-by k refl z; side = refl; held = h }
  step (opens len checking code b) z =
      let k = HostCall.opens n len checking code b in
      let q = handed-over g d k z in
      record {
        number = number_by k refl z;
        disk = disk-by k refl z;
        side = ap with-handles (new-handle (left_by g d k).handle q);
        held = held-add h (fine-by k z (ltb-false _ _ (long-enough g d k z)) q (open-fits g d n len checking code));
      }
  step (creates f checking b) z =
      let k = HostCall.creates n f checking b in
      let q = (handed-over g d k z).0 in
      record {
        number = number_by k refl z;
        disk = disk-by k refl z;
        side = ap with-handles (new-handle (left_by g d k).handle q);
        held = held-add h (fine-by k z (ltb-false _ _ (long-enough g d k z)) q (create-fits g d n f checking));
      }
  step (moves i at) z =
      let o = held_at h i in
      record {
        number = refl;
        disk = refl;
        side = ap (λ (x : Handle). with-handles (set hs i (moved_to x (at % positions)))) (at-is s.handles i)
            ∙ ap with-handles (set-handle i (set_position (held-slice i) at) (position-set (held-slice i) at o.long));
        held = held-set h i (moved-fine (held-slice i) at o);
      }
  step (reads a i x) z =
      let k = HostCall.reads a (held-slice i) x in
      let o = held_at h i in
      let q = handed-over g d k z in
      let e : handle_at hs i ≡ handle_of (held-slice i) = at-is s.handles i in
      record {
        number = number_by k (ap (λ (y : Handle). Call.reads a y x) e) z;
        disk = disk-by k (ap (λ (y : Handle). Call.reads a y x) e) z;
        side =
            ap (λ (y : Handle). let r = read_of g d y (how_many a y.len x) x in
            together.hearing (with-handles (set hs i r.0.handle)) (kept (plain g d (fold n)) r.1)) e
            ∙ ap₂ (λ (ks : List Handle) (w : List ℕ). together.hearing (with-handles ks) (kept (plain g d (fold n)) w))
            (set-handle i (left_by g d k).handle (q.0 o.fits)) (sym q.1);
        held = held-set h i (fine-by k z o.long (q.0 o.fits) (read_fits g d (handle_of (held-slice i)) _ x o.fits));
      }
  step (reads_sector i j) z =
      let k = HostCall.reads_sector (held-slice i) j in
      let q = handed-over g d k z in
      let e : handle_at hs i ≡ handle_of (held-slice i) = at-is s.handles i in
      record {
        number = number_by k (ap (λ (y : Handle). Call.reads_sector y j) e) z;
        disk = disk-by k (ap (λ (y : Handle). Call.reads_sector y j) e) z;
        side =
            ap (λ (y : Handle). let r = read_sector g d y j in
            together.hearing (side_of s) (kept (plain g d (fold n)) (slice r.from r.to d))) e
            ∙ ap₂ (λ (u v : ℕ). together.hearing (side_of s) (kept (plain g d (fold n)) (slice u v d))) (sym q.0) (sym q.1);
        held = h;
      }
  step (writes a m i x) z =
      let k = HostCall.writes a m (held-slice i) x in
      let o = held_at h i in
      let q = handed-over g d k z in
      let e : handle_at hs i ≡ handle_of (held-slice i) = at-is s.handles i in
      record {
        number = number_by k (ap (λ (y : Handle). Call.writes a (mode_of m) y x) e) z;
        disk = disk-by k (ap (λ (y : Handle). Call.writes a (mode_of m) y x) e) z;
        side =
            ap (λ (y : Handle). with-handles (set hs i (write_of g d (mode_of m) y (how_many a y.len x) x).0.handle)) e
            ∙ ap with-handles (set-handle i (left_by g d k).handle (q.0 o.fits));
        held = held-set h i (fine-by k z o.long (q.0 o.fits) (write-fits g d (mode_of m) (handle_of (held-slice i)) _ x o.fits));
      }
  step (allots i j) z =
      let k = HostCall.allots (held-slice i) j in
      let e = ap (λ (y : Handle). Call.allots y j) (at-is s.handles i) in
      record { number = number_by k e z; disk = disk-by k e z; side = refl; held = h }
  step (trims i) z =
      let k = HostCall.trims (held-slice i) in
      let e = ap Call.trims (at-is s.handles i) in record { number = number_by k e z; disk = disk-by k e z; side = refl; held = h }
  step (kills i) z =
      let k = HostCall.kills (held-slice i) in
      let e = ap Call.kills (at-is s.handles i) in record { number = number_by k e z; disk = disk-by k e z; side = refl; held = h }

-- All steps -------------------------------------------------------------------------------------------------------------------------------------------

module _ (g : Geometry) (a b : Name) where
  abbrev Same : HostWorld → List HostTurn → Type 0
  Same w zs =
      together.Accepted g a b (world_of w) (map turn_of zs) × (together.after g a b (world_of w) (map turn_of zs) ≡ world_of (after g a b w zs))

  run : (zs : List HostTurn) (w : HostWorld) → AllHold w.first.handles → AllHold w.second.handles → Accepted g a b w zs → Same w zs
  run [] w p q t = (tt, refl)
  run (one c ∷ zs) w p q t =
      let r = step g a w.disk w.first p c t.0.1 in
      let e : together.next g a b (world_of w) (turn_of (one c)) ≡ world_of (next g a b w (one c))
      = λ j. record { disk = r.disk j; first = r.side j; second = side_of w.second } in
      let more = run zs (next g a b w (one c)) r.held q t.1 in (
        ((t.0.0, r.number ∙ t.0.1), subst (λ (v : World). together.Accepted g a b v (map turn_of zs)) (sym e) more.0),
        ap (λ (v : World). together.after g a b v (map turn_of zs)) e ∙ more.1,
      )
  run (two c ∷ zs) w p q t =
      let r = step g b w.disk w.second q c t.0.1 in
      let e : together.next g a b (world_of w) (turn_of (two c)) ≡ world_of (next g a b w (two c))
      = λ j. record { disk = r.disk j; first = side_of w.first; second = r.side j } in
      let more = run zs (next g a b w (two c)) p r.held t.1 in (
        ((t.0.0, r.number ∙ t.0.1), subst (λ (v : World). together.Accepted g a b v (map turn_of zs)) (sym e) more.0),
        ap (λ (v : World). together.after g a b v (map turn_of zs)) e ∙ more.1,
      )

pub every-run : EveryRun
every-run g a b d zs t = let r = run g a b zs (start d) none none t in record { accepted = r.0; world = r.1 }

-- demand 3, of a host's bytes
pub host-demand3 : HostDemand3
host-demand3 g a b apart d fits sound xs ys zs zs' i i' t t' =
    let r = every-run g a b d zs t in
    let r' = every-run g a b d zs' t' in
    subst (λ (w : World). Agree g a b d xs ys (map turn_of zs) w (world_of (after g a b (start d) zs'))) r.world
    (subst (Agree g a b d xs ys (map turn_of zs) (together.after g a b (together.start d) (map turn_of zs))) r'.world
    (demand3 g a b apart d fits sound xs ys (map turn_of zs) (map turn_of zs') i i' r.accepted r'.accepted))
