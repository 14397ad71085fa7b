-- What the reader tells, call after call, is what its file is told record by record.
use Rattle.std.specs.Prelude.{◌≡◌, ◌⊎◌, Bool, false, not, cond, eqb, ltb}
use Rattle.std.proofs.Math.Path.{refl, sym, ap}
use Rattle.std.proofs.Common.{ap₂, subst, ◌∙◌, inl, inr, arith, length-take, length-drop, length-append, take_at}
use mathlib.Core.List.{List, [], ◌∷◌, ◌++◌}
use Rattle.std.proofs.Math.Bool.{true}
use Prim.Native.Nat.{ℕ, zero, suc, ◌+◌, ◌-◌, ◌≤◌, ◌<◌, min}
use Rattle.std.proofs.Math.Decide.{ℕ_discrete}
use Rattle.std.proofs.Math.ListN.{length, take, drop}
use Rattle.std.proofs.Math.Dec.{T, leb, le→leb, leb→le}
use borrow.Author.Tests.{eq-eqb, ne_eqb}
use Rattle.meaning.specs.Lists.{all, has}
use Rattle.meaning.specs.Layout.{highest}
use Rattle.meaning.specs.Entries.{size_of}
use Rattle.meaning.specs.Refusals.{first, handle_refusals, stale, not_for_reading, by_number, refusal}
use Rattle.meaning.specs.Handles.{in_range, moved_to, fresh}
use Rattle.meaning.specs.Plain.{File, Found, found, nothing, plain, file_at}
use Rattle.meaning.specs.declared.Geometry.{Geometry}
use Rattle.meaning.specs.declared.Handle.{Handle}
use Rattle.lists.specs.Members
use Rattle.lists.specs.First
use Rattle.laws.specs.Facts
use Rattle.laws.specs.Places
use Rattle.laws.specs.Named
use Rattle.laws.specs.Others
use Rattle.laws.specs.Tally
use Rattle.laws.specs.Passed.{disk-passes, passed}
use Rattle.promises.specs.Promises.{InRange}
use Rattle.promises.specs.Passing
use Rattle.promises.specs.Passing.{Has}
use Rattle.promises.specs.Refusing
use Rattle.load.specs.Records.{data_code, address_at, record_from, told_at, past, item_at}
use Rattle.load.specs.Cut.{Pieces, onto, cut}
use Rattle.load.specs.Load.{bytes_of, most_bytes, load_numbers, asked, load_refusals, load_record}
use Rattle.load.specs.declared.NextRecord.{NextRecord}
use Rattle.load.specs.declared.Item.{Item}
use Rattle.promises_load.specs.Statement.{record_of, end_by, asked_from, read_from, Admitted, EveryProgram}
use Rattle.promises_load.specs.Cutting
use Rattle.promises_load.specs.Cutting.{Seen}
use Rattle.promises_load.specs.Asking

-- what the next record is, from place i on
pub record Next (bs : List ℕ) (r : NextRecord) : Type 0 where
  pub number : (r.number ≡ 0) ⊎ T (has load_numbers r.number)
  pub none : (r.number ≡ 0 → ⊥) → r.kind ≡ 0
  pub inside : r.kind ≡ data_code → r.from + r.count ≤ length bs
  pub ahead : r.kind ≡ data_code → r.next ≤ length bs

next-told : (bs : List ℕ) (i p : ℕ) → Next bs (told_at bs i p)
unfolding told_at
next-told bs i p = by (Cutting.seen bs p) (cond (eqb (item_at bs p).number 0) (address_at bs p) 0)
  where
    by : {x : Item} → Seen bs p x → (a : ℕ)
        → Next bs (record {
          number = x.number;
          position = x.position;
          kind = x.code;
          address = a;
          from = p + 4;
          count = x.rest - 2;
          next = cond (eqb x.code data_code) (p + 2 + x.rest) i;
        })
    by (Seen.broken t n) a =
        record { number = inr t; none = λ z. refl; inside = λ e. absurd (let z : ⊥ = omega arith in z); ahead = λ e. absurd (let z : ⊥ = omega arith in z) }
    by (Seen.stands {c} {r} k o t) a =
        record {
          number = inl refl;
          none = λ z. absurd (z refl);
          inside = λ e. let w = t e in omega arith;
          ahead = λ e. rw (eq-eqb c data_code e) o;
        }

pub next-is : (bs : List ℕ) (i : ℕ) → Next bs (record_from bs i)
unfolding record_from
next-is bs i = next-told bs i (past bs (length bs) i)

-- the bytes that are handed out stand at the buffer's start, and it is no shorter than before
front : (xs b : List ℕ) (n : ℕ) → length xs ≡ n → take n (xs ++ drop n b) ≡ xs
front xs b n e = take_at xs (drop n b) n e

room-left : (xs b : List ℕ) (n : ℕ) → length xs ≡ n → length b ≤ length (xs ++ drop n b)
room-left xs b n e = rw (length-append xs (drop n b), length-drop n b) (omega arith)

taken : (bs : List ℕ) (i n : ℕ) → i + n ≤ length bs → length (take n (drop i bs)) ≡ n
taken bs i n l = length-take n (drop i bs) ∙ ap (min n) (length-drop i bs) ∙ omega arith

-- three rows that do not apply
three : (a f l : Bool) (cs : List (ℕ × Bool)) → a ≡ true → f ≡ true → l ≡ false → first ((12, not a) ∷ (7, not f) ∷ (6, l) ∷ cs) ≡ first cs
unfolding first
three a f l cs p q r = rw (p, q, r) refl

no_row : (n : ℕ) → n ≡ 0 → first (by_number n load_numbers) ≡ n
unfolding first
no_row n z = rw z refl

module _ (g : Geometry) (d : List ℕ) where
  abbrev ranged : Handle → List ℕ → Bool
  ranged h b = all (in_range g h ∷ leb most_bytes (length b) ∷ [])

  module _ (h : Handle) (b : List ℕ) (e : Admitted g d h b) where
    has' : Has g d h × T (ranged h b) × (first (not_for_reading h ∷ []) ≡ 0)
    has' = Passing.handle-passed g d h (ranged h b) (not_for_reading h ∷ []) e

    -- what every reading call tests is passed
    passes : (cs : List (ℕ × Bool)) → first (handle_refusals g d h (ranged h b) (not_for_reading h ∷ cs)) ≡ first cs
    passes cs =
        let w = has' in
        let p₆ = passed 6 _ _ (omega arith) w.2 in
        disk-passes g d _ (Members.T_true w.0.fits) (Facts.back g d w.0.sound)
        ∙ three (ranged h b) (fresh g d h) (ltb 5 h.level) cs (Members.T_true w.1)
        (Members.T_true ((Refusing.live-iff g d h).1 w.0.live)) (Members.no_false p₆.0)

    -- the number is the file's own
    own : first (load_refusals g d h (length b)) ≡ (asked g d h).number
    own = rows (next-is (bytes_of g d h.slot) h.at).number
      where
        rows : ((asked g d h).number ≡ 0) ⊎ T (has load_numbers (asked g d h).number) → first (load_refusals g d h (length b)) ≡ (asked g d h).number
        rows (inl z) = passes (by_number (asked g d h).number load_numbers) ∙ no_row (asked g d h).number z
        rows (inr t) =
            passes (by_number (asked g d h).number load_numbers)
            ∙ First.number-hit (asked g d h).number load_numbers [] (Members.has_in (asked g d h).number load_numbers t)

    -- so the call tells what its file is told
    refused : ((asked g d h).number ≡ 0 → ⊥)
        → load_record g d h b
        ≡ (record { refusal = refusal g d (asked g d h).number; kind = 0; address = 0; count = 0; position = (asked g d h).position; handle = h }, b)
    unfolding load_record
    refused z = rw (own, ne_eqb (asked g d h).number 0 z, eq-eqb (asked g d h).number (asked g d h).number refl) refl

    accepted' : (asked g d h).number ≡ 0
        → load_record g d h b
        ≡ (
          record {
            refusal = refusal g d 0;
            kind = (asked g d h).kind;
            address = (asked g d h).address;
            count = (asked g d h).count;
            position = (asked g d h).position;
            handle = moved_to h (asked g d h).next;
          },
          take (asked g d h).count (drop (asked g d h).from (bytes_of g d h.slot)) ++ drop (asked g d h).count b,
        )
    unfolding load_record
    accepted' z = rw (own, z) refl

    -- the handle behind a data record, and the buffer with its bytes, are as good as before
    pub again : (at : ℕ) (b' : List ℕ) → at ≤ length (bytes_of g d h.slot) → length b ≤ length b' → Admitted g d (moved_to h at) b'
    unfolding fresh
    again at b' l m =
        let w = has' in
        let top = Tally.size-le g d w.0.sound (Places.fits g d w.0.fits) h.slot (Passing.live-file g d h w.0.live) in
        let r = (Refusing.range-iff g h).0 (Passing.first_of (in_range g h) (leb most_bytes (length b) ∷ []) w.1) in
        let f = Passing.further g h at r (omega (arith, top, Others.file-length g d h.slot)) in
        let x : T (in_range g (moved_to h at)) = (Refusing.range-iff g (moved_to h at)).1 f in
        let n : most_bytes ≤ length b = leb→le most_bytes (length b) (Members.all-second (in_range g h) (leb most_bytes (length b)) w.1) in
        let y : T (leb most_bytes (length b')) = le→leb most_bytes (length b') (omega arith) in
        let q : ranged (moved_to h at) b' ≡ ranged h b = both x y ∙ sym (Members.T_true {b = ranged h b} w.1) in
        ap (λ (t : Bool). first (handle_refusals g d h t (not_for_reading h ∷ []))) q ∙ e
      where
        both : T (in_range g (moved_to h at)) → T (leb most_bytes (length b')) → ranged (moved_to h at) b' ≡ true
        both x y = unfold all in rw (Members.T_true {b = in_range g (moved_to h at)} x, Members.T_true {b = leb most_bytes (length b')} y) refl

  same : (n : ℕ) (h : Handle) (b : List ℕ) → Admitted g d h b → read_from g d n h b ≡ asked_from (bytes_of g d h.slot) n h.at
  unfolding read_from asked_from
  same zero h b e = refl
  same (suc n) h b e = by (λ h' b' e'. same n h' b' e') (ℕ_discrete (asked g d h).number 0) (ℕ_discrete (asked g d h).kind data_code)
    where
      by : ((h' : Handle) (b' : List ℕ) → Admitted g d h' b' → read_from g d n h' b' ≡ asked_from (bytes_of g d h'.slot) n h'.at)
          → Dec ((asked g d h).number ≡ 0) → Dec ((asked g d h).kind ≡ data_code)
          → read_from g d (suc n) h b ≡ asked_from (bytes_of g d h.slot) (suc n) h.at
      by ih (no z) q = rw (refused h b e z, (next-is (bytes_of g d h.slot) h.at).none z) refl
      by ih (yes z) (no k) = rw (accepted' h b e z, ne_eqb _ _ k, z) refl
      by ih (yes z) (yes k) =
          let l = taken (bytes_of g d h.slot) (asked g d h).from (asked g d h).count ((next-is (bytes_of g d h.slot) h.at).inside k) in
          let xs : List ℕ = take (asked g d h).count (drop (asked g d h).from (bytes_of g d h.slot)) in
          rw (accepted' h b e z, eq-eqb _ _ k, front xs b (asked g d h).count l)
          (ap (onto (record_of (bytes_of g d h.slot) (asked g d h)))
          (ih (moved_to h (asked g d h).next) (xs ++ drop (asked g d h).count b)
          (again h b e (asked g d h).next (xs ++ drop (asked g d h).count b) ((next-is (bytes_of g d h.slot) h.at).ahead k)
          (room-left xs b (asked g d h).count l))))

pub every-program : EveryProgram
every-program g d h b f e z q =
    let w = Passing.handle-passed g d h (ranged g d h b) (not_for_reading h ∷ []) e in
    let c = Named.plain-is g d w.0.sound h.slot h.name (Passing.live-file g d h w.0.live) w.0.live.name' in
    let s : file_at g d h.slot ≡ f = alike (sym c ∙ q) in
    same g d (suc (length f.bytes)) h b e
    ∙ ap₂ (λ (bs : List ℕ) (i : ℕ). asked_from bs (suc (length f.bytes)) i) (ap (λ (x : File). x.bytes) s) z
    ∙ Asking.union f.bytes
  where
    alike : {x y : File} → found x ≡ found y → x ≡ y
    alike {x} {y} e = ap (λ (t : Found). inside t) e
      where
        inside : Found → File
        inside (found v) = v
        inside nothing = x
