-- Write, then read: the record comes back, and what lies outside the record and the gap is as it was
use Rattle.std.specs.Prelude.{◌≡◌, ◌⊎◌, List, ◌++◌, ℕ, ◌+◌, ◌-◌, ◌≤◌, ◌<◌, min, length, get_or, take, drop}
use Rattle.std.proofs.Math.Path.{ap}
use Rattle.std.proofs.Common.{sym, ◌∙◌, subst, inl, inr, arith, length-take, length-drop, get_or-drop, ext_get_or}
use Rattle.std.proofs.Math.Decide.{dec_le}
use Rattle.std.proofs.Math.Seq.{get_or-take}
use Rattle.meaning.specs.Read.{read_of}
use Rattle.meaning.specs.Write.{write_of, size_after}
use Rattle.meaning.specs.Plain
use Rattle.meaning.specs.Plain.{file_at, written_to, overwritten}
use Rattle.meaning.specs.declared.Geometry.{Geometry}
use Rattle.meaning.specs.declared.Handle.{Handle}
use Rattle.meaning.specs.declared.Mode.{Mode}
use Rattle.laws.specs.Facts
use Rattle.laws.specs.Rewrite
use Rattle.promises.specs.Promises.{ReadsBack, Rows, read_table, write_table, FitsGeometry, Live}
use Rattle.promises.specs.Refusing
use Rattle.promises.specs.Over
use Rattle.promises.specs.Read
use Rattle.promises.specs.WriteMeans

-- a list of bytes overwritten, byte by byte
module _ (m : Mode) (O : List ℕ) (at : ℕ) (r : List ℕ) where
  abbrev S : ℕ
  S = size_after m (length O) (at + length r)

  over-at : (j : ℕ) → j < S → get_or (overwritten m O at r) j 0 ≡ get_or (Over.whole O r at) j 0
  unfolding overwritten
  over-at j h = get_or-take S (Over.whole O r at) j 0 h

  over-record : take (length r) (drop at (overwritten m O at r)) ≡ r
  over-record = ext_get_or 0 (take (length r) (drop at (overwritten m O at r))) r long (λ j h. point j (omega (arith, long)))
    where
      long : length (take (length r) (drop at (overwritten m O at r))) ≡ length r
      long = length-take (length r) (drop at (overwritten m O at r)) ∙ ap (min (length r))
          (length-drop at (overwritten m O at r) ∙ ap (λ (x : ℕ). x - at) (Over.overwritten-length m O at r))
          ∙ omega (arith, Rewrite.after-end m (length O) (at + length r))

      point : (j : ℕ) → j < length r → get_or (take (length r) (drop at (overwritten m O at r))) j 0 ≡ get_or r j 0
      point j h =
          get_or-take (length r) (drop at (overwritten m O at r)) j 0 h ∙ get_or-drop at (overwritten m O at r) j 0
          ∙ over-at (at + j) (omega (arith, Rewrite.after-end m (length O) (at + length r))) ∙ Over.whole-new O r at (at + j) (omega arith) (omega arith)
          ∙ ap (λ (x : ℕ). get_or r x 0) (omega arith)

  over-kept : (j : ℕ) → j < length O → j < S → (j < at) ⊎ (at + length r ≤ j) → get_or (overwritten m O at r) j 0 ≡ get_or O j 0
  over-kept j h l (inl a) = over-at j l ∙ Over.whole-old O r at j a h
  over-kept j h l (inr a) = over-at j l ∙ Over.whole-rest O r at j a

  over-gap : (j : ℕ) → length O ≤ j → j < at → get_or (overwritten m O at r) j 0 ≡ 0
  over-gap j a b = over-at j (omega (arith, Rewrite.after-end m (length O) (at + length r))) ∙ Over.whole-zero O r at j a b

module _ (g : Geometry) (d : List ℕ) (m : Mode) (h : Handle) (n : ℕ) (b : List ℕ) (e : (write_of g d m h n b).0.refusal.number ≡ 0) where
  abbrev d' : List ℕ
  d' = (write_of g d m h n b).1

  abbrev p : ℕ
  p = h.slot

  abbrev r : List ℕ
  r = take n b

  abbrev O : List ℕ
  O = (file_at g d h.slot).bytes

  wrote : WriteMeans.Wrote g d (write_of g d m h n b).1 h.slot (written_to g m h.at (take n b) (file_at g d h.slot))
  wrote = (WriteMeans.write-wrote g d m h n b e).1

  new : (file_at g (write_of g d m h n b).1 h.slot).bytes ≡ overwritten m (file_at g d h.slot).bytes h.at (take n b)
  unfolding written_to
  new = ap (λ (f : Plain.File). f.bytes) wrote.told

  -- no case of the write's table holds
  written : Rows (write_of g d m h n b).0.refusal.number (Refusing.Checked g d) (Refusing.own_cases (write_table g d m h n b))
  written = Refusing.own-rows g d (Refusing.own_cases (write_table g d m h n b)) (write_of g d m h n b).0.refusal.number (Refusing.write-numbers g d m h n b)

  short : n ≤ length b
  short = go (dec_le n (length b))
    where
      go : Dec (n ≤ length b) → n ≤ length b
      go (yes q) = q
      go (no q) = absurd ((written.1.1.1.1.1.1.0 e).0.0.0.0.0.1 (λ t. q t.2))

  long : length (take n b) ≡ n
  long = length-take n b ∙ omega (arith, short)

  size : length (file_at g (write_of g d m h n b).1 h.slot).bytes ≡ size_after m (length (file_at g d h.slot).bytes) (h.at + n)
  size = ap length new ∙ Over.overwritten-length m O h.at r ∙ ap (λ (k : ℕ). size_after m (length O) (h.at + k)) long

  live : Live g (write_of g d m h n b).1 h
  live =
      let x = wrote in
      record {
        slot = x.file'.slot;
        used = Facts.file-in-use g d' p x.file';
        first = Facts.file-first g d' p x.file';
        name' = x.name' ∙ (WriteMeans.write-wrote g d m h n b e).0.name';
      }

  fits' : FitsGeometry g d → FitsGeometry g (write_of g d m h n b).1
  fits' k = record {
    blocks-lo = k.blocks-lo;
    blocks-hi = k.blocks-hi;
    units-lo = k.units-lo;
    units-hi = k.units-hi;
    start-at = k.start-at;
    long = wrote.long ∙ k.long;
    ten = k.ten;
    sized = k.sized;
  }

  -- none of the read's table does either
  accepted : (b' : List ℕ) → n ≤ length b' → (read_of g (write_of g d m h n b).1 h n b').0.refusal.number ≡ 0
  accepted b' room =
      let w = written.1.1.1.1.1.1.0 e in
      let number = (read_of g d' h n b').0.refusal.number in
      let read : Rows number (Refusing.Checked g d') (Refusing.own_cases (read_table g d' h n b')) =
      Refusing.own-rows g d' (Refusing.own_cases (read_table g d' h n b')) number (Refusing.read-numbers g d' h n b') in
      read.1.1.1.1.1 (
        (
          (
            (
              Refusing.checked-of g d' (λ q. Refusing.checked-fits g d w.0.0.0.0.0.0 (λ k. q (fits' k))) wrote.consistent',
              λ q. w.0.0.0.0.0.1 (λ t. let far = t.1 in q (t.0, omega arith, room)),
            ),
            λ q. q live,
          ),
          λ l. w.0.0.0.1 (inl (omega arith)),
        ),
        λ l. omega (arith, size, Rewrite.after-end m (length O) (h.at + n)),
      )

  back : take n (drop h.at (file_at g (write_of g d m h n b).1 h.slot).bytes) ≡ take n b
  back = ap (λ (l : List ℕ). take n (drop h.at l)) new ∙ subst (λ (k : ℕ). take k (drop h.at (overwritten m O h.at r)) ≡ r) long
      (over-record m O h.at r)

  outside : (j : ℕ) → (j < h.at) ⊎ (h.at + n ≤ j) → (j < h.at) ⊎ (h.at + length (take n b) ≤ j)
  outside j o = subst (λ (k : ℕ). (j < h.at) ⊎ (h.at + k ≤ j)) (sym long) o

  pub reads-back : ReadsBack g d m h n b
  reads-back = record {
    accepted' = accepted;
    bytes' = λ b' room. Read.read-means g d' h n b' (accepted b' room) ∙ ap (λ (l : List ℕ). l ++ drop n b') back;
    kept = λ j a l o. ap (λ (x : List ℕ). get_or x j 0) new ∙ over-kept m O h.at r j a
        (omega (arith, size, ap (λ (k : ℕ). size_after m (length O) (h.at + k)) long)) (outside j o);
    gap = λ j a l. ap (λ (x : List ℕ). get_or x j 0) new ∙ over-gap m O h.at r j a l;
    size = size;
  }
