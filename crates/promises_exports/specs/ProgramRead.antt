-- Load record, asked again and again with the bytes of a handle that the last call left, reads as by the handle that they hold; so what is promised of
-- a program file (promises_load) is so at the export.
use Prim.Native.Nat.{ℕ, zero, suc, ◌+◌, ◌≤◌, ◌<◌}
use Rattle.std.specs.Prelude.{◌≡◌, Bool, true, false, cond, List, [], ◌∷◌, ◌++◌, eqb, leb, length, take, drop}
use Rattle.std.proofs.Math.Path.{refl}
use Rattle.std.proofs.Common.{sym, ap, subst, ◌∙◌, arith, length-take, length-drop, length-append, le-ltb, eqb-true}
use Rattle.meaning.specs.Layout.{highest}
use Rattle.meaning.specs.Refusals.{first, accepted, not_for_reading}
use Rattle.meaning.specs.Handles.{in_range, moved_to}
use Rattle.meaning.specs.Lists.{all}
use Rattle.meaning.specs.declared.Geometry.{Geometry}
use Rattle.meaning.specs.declared.Handle.{Handle}
use Rattle.lists.specs.Sizes
use Rattle.load.specs.Records.{data_code}
use Rattle.load.specs.Load.{asked, bytes_of, load_refusals, load_record, most_bytes}
use Rattle.load.specs.Cut.{onto}
use Rattle.load.specs.declared.NextRecord.{NextRecord}
use Rattle.load.specs.declared.Loaded.{Loaded}
use Rattle.promises.specs.Passing
use Rattle.promises.specs.Refusing
use Rattle.promises_load.specs.Statement.{read_from, Admitted}
use Rattle.promises_load.specs.Reading.{next-is, again, every-program}
use Rattle.genie_codec.specs.Codec.{handle_bytes, handle_of, stored, HandleFits}
use Rattle.genie.specs.Program.{tells_record}
use Rattle.promises_handles.specs.HandleBytes.{bytes_fit, stored_back, stored-length}
use Rattle.promises_exports.specs.Others.{loaded_from, EveryHostProgram}

module _ (g : Geometry) (d : List ℕ) where
  -- where a data record is told, the handle stands behind it, and its bytes are in the buffer
  pub record RecordTold (h : Handle) (x : List ℕ) : Type 0 where
    pub next : (asked g d h).next ≤ length (bytes_of g d h.slot)
    pub handle : (load_record g d h x).0.handle ≡ moved_to h (asked g d h).next
    pub room : length x ≤ length (load_record g d h x).1

  told : (h : Handle) (x : List ℕ) → (load_record g d h x).0.kind ≡ data_code → RecordTold h x
  unfolding load_record
  told h x e = by (eqb (first (load_refusals g d h (length x))) 0) refl
    where
      r : NextRecord
      r = asked g d h

      bs : List ℕ
      bs = bytes_of g d h.slot

      by : (t : Bool) → eqb (first (load_refusals g d h (length x))) 0 ≡ t → RecordTold h x
      by true q =
          let k : r.kind ≡ data_code = rw q at e in
          let n = next-is bs h.at in
          record {
            next = n.ahead k;
            handle = rw q refl;
            room = rw q (omega (
              arith,
              n.inside k,
              length-append (take r.count (drop r.from bs)) (drop r.count x),
              length-take r.count (drop r.from bs),
              length-drop r.from bs,
              length-drop r.count x,
            ));
          }
      by false q = absurd (let z : ◌≡◌ {A = ℕ} 0 1 = rw q at e in let w : ⊥ = omega arith in w)

  -- a handle that is admitted fits its bytes wherever its place is a good one
  fits : (h : Handle) (at : ℕ) (x : List ℕ) → HandleFits h → Admitted g d (moved_to h at) x → HandleFits (moved_to h at)
  fits h at x f e =
      let w = Passing.handle-passed g d (moved_to h at) (all (in_range g (moved_to h at) ∷ leb most_bytes (length x) ∷ []))
      (not_for_reading (moved_to h at) ∷ []) e in
      let i = (Refusing.range-iff g (moved_to h at)).0 (Passing.first_of (in_range g (moved_to h at)) (leb most_bytes (length x) ∷ []) w.1) in
      record { slot = f.slot; level = f.level; len = f.len; at = omega (arith, i.at, Sizes.bytes-are g, Sizes.sectors-most g); name = f.name }

  loaded-is : (n : ℕ) (b x : List ℕ) → handle_bytes ≤ length b → HandleFits (handle_of b) → Admitted g d (handle_of b) x
      → loaded_from g d n b x ≡ read_from g d n (handle_of b) x
  unfolding loaded_from read_from tells_record
  loaded-is zero b x l f e = refl
  loaded-is (suc n) b x l f e = by (λ b' x' l' f' e'. loaded-is n b' x' l' f' e') (eqb (load_record g d (handle_of b) x).0.kind data_code) refl
    where
      h : Handle
      h = handle_of b

      r : Loaded × List ℕ
      r = load_record g d h x

      by : ((b' x' : List ℕ) → handle_bytes ≤ length b' → HandleFits (handle_of b') → Admitted g d (handle_of b') x'
          → loaded_from g d n b' x' ≡ read_from g d n (handle_of b') x')
          → (t : Bool) → eqb r.0.kind data_code ≡ t → loaded_from g d (suc n) b x ≡ read_from g d (suc n) h x
      by ih true q =
          let w = told h x (eqb-true r.0.kind data_code q) in
          let a = again g d h x e (asked g d h).next r.1 w.next w.room in
          let f' : HandleFits r.0.handle = subst HandleFits (sym w.handle) (fits h (asked g d h).next r.1 f a) in
          let s = stored_back b r.0.handle f' l in
          rw (le-ltb _ _ l) (rw q (ap (onto (record { address = r.0.address; bytes = take r.0.count r.1 }))
          (ih (stored b r.0.handle) r.1 (subst (λ (k : ℕ). handle_bytes ≤ k) (sym (stored-length b r.0.handle)) l)
          (subst HandleFits (sym s) f') (subst (λ (k : Handle). Admitted g d k r.1) (sym (s ∙ w.handle)) a)
          ∙ ap (λ (k : Handle). read_from g d n k r.1) s)))
      by ih false q = rw (le-ltb _ _ l) (rw q refl)

-- The records of the plain file, cut, and then its end.
pub every-host-program : EveryHostProgram
every-host-program g d b x f a l e z q =
    loaded-is g d (suc (length f.bytes)) b x l (bytes_fit b a l) e ∙ every-program g d (handle_of b) x f e z q
