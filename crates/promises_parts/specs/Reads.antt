-- A read of many bytes is the reads of fewer that make it up
use Rattle.std.specs.Prelude.{◌≡◌, refl, Bool, not, List, [], ◌∷◌, ◌++◌, ℕ, zero, suc, ◌+◌, ◌≤◌, T, eqb, length, take, drop, replicate}
use Rattle.std.proofs.Common.{ap, ap₂, sym, ◌∙◌, append-nil, take-add, drop-drop}
use Rattle.std.proofs.Math.Bool.{true, false}
use native.Mathlib.Omega.{arith}
use Rattle.std.proofs.Math.Dec.{leb, ltb, ltb→lt}
use Rattle.std.proofs.lemmas.List.{length-replicate}
use Rattle.meaning.specs.Lists.{all, first}
use Rattle.meaning.specs.Layout.{highest}
use Rattle.meaning.specs.Entries.{size_of}
use Rattle.meaning.specs.Handles.{in_range, fresh, moved_to}
use Rattle.meaning.specs.Read.{read_of}
use Rattle.meaning.specs.Plain.{file_at}
use Rattle.meaning.specs.declared.Geometry.{Geometry}
use Rattle.meaning.specs.declared.Handle.{Handle}
use Rattle.lists.specs.Members
use Rattle.laws.specs.Facts
use Rattle.laws.specs.Places
use Rattle.laws.specs.Passed
use Rattle.laws.specs.Tally
use Rattle.promises.specs.Promises.{InRange}
use Rattle.promises_parts.specs.Statement.{sum, read_for, AllRead, handed_out, read_to, ReadInParts}
use Rattle.promises.specs.Refusing
use Rattle.promises.specs.Passing
use Rattle.promises.specs.Passing.{Has}
use Rattle.promises.specs.Read
use Rattle.promises.specs.Sector

-- no row of a read holds
none : (a b c d : Bool) → a ≡ true → b ≡ true → c ≡ false → d ≡ false → first ((12, not a) ∷ (7, not b) ∷ (6, c) ∷ (10, d) ∷ []) ≡ 0
unfolding first
none a b c d p q r s = rw (p, q, r, s)

none_left : (n : ℕ) → drop n (replicate {A = ℕ} n 0) ≡ []
none_left zero = refl
none_left (suc n) = none_left n

-- what a reader may do: read that far
record MayRead (g : Geometry) (d : List ℕ) (h : Handle) (n : ℕ) : Type 0 where
  has : Has g d h
  ranged : InRange g h
  level : h.level ≤ 5
  inside : h.at + n ≤ size_of g d h.slot

module _ (g : Geometry) (d : List ℕ) where
  size-high : (h : Handle) → Has g d h → size_of g d h.slot ≤ highest g
  size-high h w = Tally.size-le g d w.sound (Places.fits g d w.fits) h.slot (Passing.live-file g d h w.live)

  read-passes : (h : Handle) (n : ℕ) (b : List ℕ) → MayRead g d h n → n ≤ length b → (read_of g d h n b).0.refusal.number ≡ 0
  unfolding read_of
  read-passes h n b w l =
      let i = w.inside in let top = size-high h w.has in
      let test = all (in_range g h ∷ leb n (highest g) ∷ leb n (length b) ∷ []) in
      let ranged : test ≡ true = Members.T_true ((Refusing.three-iff g d (in_range g h) (leb n (highest g)) (leb n (length b))
      (Refusing.range-iff g h) (Refusing.le_iff n (highest g)) (Refusing.le_iff n (length b))).1 (w.ranged, omega arith, l)) in
      let live : fresh g d h ≡ true = Members.T_true ((Refusing.live-iff g d h).1 w.has.live) in
      let level : ltb 5 h.level ≡ false = Members.no_false (λ t. let k = ltb→lt 5 h.level t in let m = w.level in omega arith) in
      let inside : ltb (size_of g d h.slot) (h.at + n) ≡ false =
      Members.no_false (λ t. let k = ltb→lt (size_of g d h.slot) (h.at + n) t in omega arith) in
      Passed.disk-passes g d _ (Members.T_true w.has.fits) (Facts.back g d w.has.sound) ∙ none test (fresh g d h) _ _ ranged live level inside

  -- the handle where a read of n bytes leaves it
  moved-live : (h : Handle) (at : ℕ) → Has g d h → Has g d (moved_to h at)
  moved-live h at w = record {
    fits = w.fits;
    sound = w.sound;
    live = let l = w.live in record { slot = l.slot; used = l.used; first = l.first; name' = l.name' };
  }

  first_part : (h : Handle) (n k : ℕ) → MayRead g d h (n + k) → MayRead g d h n
  first_part h n k w = let i = w.inside in record { has = w.has; ranged = w.ranged; level = w.level; inside = omega arith }

  next-part : (h : Handle) (n k : ℕ) → MayRead g d h (n + k) → MayRead g d (moved_to h (h.at + n)) k
  next-part h n k w =
      let i = w.inside in let top = size-high h w.has in
      record {
        has = moved-live h (h.at + n) w.has;
        ranged = Passing.further g h (h.at + n) w.ranged (omega arith);
        level = w.level;
        inside = omega arith;
      }

  abbrev bytes_of : Handle → List ℕ
  bytes_of h = (file_at g d h.slot).bytes

  in_parts : (ns : List ℕ) (h : Handle) → MayRead g d h (sum ns)
      → AllRead g d h ns × (handed_out g d h ns ≡ take (sum ns) (drop h.at (bytes_of h))) × (read_to g d h ns ≡ moved_to h (h.at + sum ns))
  in_parts [] h w = (tt, refl, ap (moved_to h) (let e : h.at ≡ h.at + 0 = omega arith in e))
  in_parts (n ∷ ns) h w =
      let l : length {A = ℕ} (replicate n 0) ≡ n = length-replicate n 0 in
      let part = read-passes h n (replicate n 0) (first_part h n (sum ns) w) (omega arith) in
      let told = Sector.read-serves g d h n (replicate n 0) part in
      let q : (read_for g d h n).0.handle ≡ moved_to h (h.at + n) = told.handle' in
      let ih = in_parts ns (moved_to h (h.at + n)) (next-part h n (sum ns) w) in
      let mine : (read_for g d h n).1 ≡ take n (drop h.at (bytes_of h)) =
      Read.read-means g d h n (replicate n 0) part ∙ ap (λ (l : List ℕ). take n (drop h.at (bytes_of h)) ++ l) (none_left n)
      ∙ append-nil (take n (drop h.at (bytes_of h))) in
      let rest : take (sum ns) (drop n (drop h.at (bytes_of h))) ≡ take (sum ns) (drop (h.at + n) (bytes_of h))
      = ap (take (sum ns)) (drop-drop n h.at (bytes_of h)) in (
        (part, rw q ih.0),
        rw q (ap₂ (λ (x y : List ℕ). x ++ y) mine (ih.1 ∙ sym rest) ∙ sym (take-add n (sum ns) (drop h.at (bytes_of h)))),
        rw q (ih.2 ∙ ap (moved_to h) (let e : h.at + n + sum ns ≡ h.at + (n + sum ns) = omega arith in e)),
      )

pub read-in-parts : (g : Geometry) (d : List ℕ) (h : Handle) (ns b : List ℕ) → (read_of g d h (sum ns) b).0.refusal.number ≡ 0 → ReadInParts g d h ns b
read-in-parts g d h ns b e =
    let w = Sector.read_has g d h (sum ns) b e in
    let x = in_parts g d ns h (record { has = w.0; inside = w.1; ranged = w.2; level = w.3 }) in
    record {
      accepted' = x.0;
      bytes' = Read.read-means g d h (sum ns) b e ∙ ap (λ (l : List ℕ). l ++ drop (sum ns) b) (sym x.1);
      handle' = (Sector.read-serves g d h (sum ns) b e).handle' ∙ sym x.2;
    }
