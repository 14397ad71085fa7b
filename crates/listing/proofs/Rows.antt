-- The rows of a table, file by file.
use mathlib.Core.Path.{◌≡◌, refl, sym, ap, ◌∙◌}
use mathlib.Core.List.{List, [], ◌∷◌, ◌++◌, append-nil, append_assoc}
use Prim.Native.Nat.{ℕ, zero, suc, ◌+◌, ◌-◌, ◌*◌, ◌/◌, ◌≤◌, ◌<◌, ◌%◌}
use native.Mathlib.Omega.{arith}
use Rattle.std.specs.Int.{byte_at, to_le_bytes}
use Rattle.std.proofs.Common.{w64}
use lib.ListN.{length, get_or, take, drop, length-append}
use lib.Seq.{sets, length-sets, take_all, take-append_seam, drop-nil}
use lib.Dec.{ltb}
use borrow.Author.Tests.{ne_eqb, lt-ltb, le-ltb}
use Rattle.meaning.specs.Lists.{each}
use Rattle.meaning.specs.Entries.{name_of, size_of}
use Rattle.meaning.specs.Chain.{owned}
use Rattle.meaning.specs.Refusal.{unplaced}
use Rattle.meaning.specs.Refusals.{check, refusal, first}
use Rattle.meaning.specs.Listing.{listed, tell_first}
use Rattle.meaning.specs.declared.Geometry.{Geometry}
use Rattle.meaning.specs.declared.Refusal.{Refusal}
use Rattle.list_rows.specs.Rows.{low_first, row, told_from, rows_from, rows_refusals, list_from}
use Rattle.list_rows.specs.Lengths.{rows-length}
use Rattle.laws.specs.Carried.{carried_other}
use Rattle.lists.specs.Tests.{first-hit, first-skip, first-none}
use Rattle.copy.proofs.OneByOne.{sets-append}
use Rattle.passed.proofs.Checked.{check-stop, check-then, handed-on}
use Rattle.listing.specs.From.{listed_from, NextListed}
use Rattle.listing.proofs.Files.{from-start}

-- the numbers of a row, low bytes first
pub numbers-are : (s size granules : ℕ) {z o : List ℕ} → s < 256 → z ≡ to_le_bytes w64 size → o ≡ to_le_bytes w64 granules
    → (s ∷ get_or z 0 0 ∷ get_or z 1 0 ∷ get_or z 2 0 ∷ get_or z 3 0 ∷ get_or o 0 0 ∷ get_or o 1 0 ∷ 0 ∷ 0 ∷ [])
    ≡ low_first 1 s ++ (low_first 4 size ++ (low_first 2 granules ++ (0 ∷ 0 ∷ [])))
numbers-are s size granules h e f =
    let a : s ≡ s % 256 = omega arith in
    let b : byte_at 0 size ≡ size % 256 = omega arith in
    let b' : byte_at 1 size ≡ size / 256 % 256 = omega arith in
    let b'' : byte_at 2 size ≡ size / 256 / 256 % 256 = omega arith in
    let b₃ : byte_at 3 size ≡ size / 256 / 256 / 256 % 256 = omega arith in
    let c : byte_at 0 granules ≡ granules % 256 = omega arith in
    let c' : byte_at 1 granules ≡ granules / 256 % 256 = omega arith in
    rw (e, f) (λ i. a i ∷ b i ∷ b' i ∷ b'' i ∷ b₃ i ∷ c i ∷ c' i ∷ 0 ∷ 0 ∷ [])

module _ (g : Geometry) (d : List ℕ) where
  -- a row in two parts: the name, then the numbers
  pub row_put : (t : List ℕ) (to s : ℕ) {t₁ t₂ name : List ℕ} {size granules : ℕ} → name ≡ name_of g d s → size ≡ size_of g d s → granules ≡ length
      (owned g d s)
      → t₁ ≡ sets t to name → t₂ ≡ sets t₁ (to + 11) (low_first 1 s ++ (low_first 4 size ++ (low_first 2 granules ++ (0 ∷ 0 ∷ []))))
      → t₂ ≡ sets t to (row g d s)
  unfolding row tell_first name_of
  row_put t to s {t₁} {t₂} {name} {size} {granules} n z o e f =
      f ∙ ap (λ (r : List ℕ). sets r (to + 11) (low_first 1 s ++ (low_first 4 size ++ (low_first 2 granules ++ (0 ∷ 0 ∷ []))))) (e ∙ ap (sets t to) n)
      ∙ ap (λ (x : ℕ). sets (sets t to (name_of g d s)) (to + 11) (low_first 1 s ++ (low_first 4 x ++ (low_first 2 granules ++ (0 ∷ 0 ∷ []))))) z
      ∙ ap (λ (x : ℕ). sets (sets t to (name_of g d s)) (to + 11) (low_first 1 s ++ (low_first 4 (size_of g d s) ++ (low_first 2 x ++ (0 ∷ 0 ∷ []))))) o
      ∙ sym (sets-append t to (name_of g d s) (low_first 1 s ++ (low_first 4 (size_of g d s) ++ (low_first 2 (length (owned g d s)) ++ (0 ∷ 0 ∷ [])))))

  rows_last : (ps : List ℕ) (p : ℕ) → each (row g d) (ps ++ (p ∷ [])) ≡ each (row g d) ps ++ row g d p
  rows_last [] p = append-nil (row g d p)
  rows_last (x ∷ ps) p = ap (λ (r : List ℕ). row g d x ++ r) (rows_last ps p) ∙ sym (append_assoc (row g d x) (each (row g d) ps) (row g d p))

  -- of the files from number i on, `done` have their rows in the table, n of them, and `left` are to be passed over from slot s on
  pub record Rowing (t₀ : List ℕ) (i left n s : ℕ) (t : List ℕ) : Type 0 where
    pub done : List ℕ
    pub ahead : drop i (listed g d) ≡ done ++ drop left (listed_from g d s)
    pub many : n ≡ length done
    pub here : t ≡ sets t₀ 0 (each (row g d) done)
    pub fits : 20 * n ≤ length t₀

  pub rowing_start : (t : List ℕ) (i : ℕ) → Rowing t i i 0 0 t
  rowing_start t i = record { done = []; ahead = ap (drop i) (from-start g d); many = refl; here = refl; fits = omega arith }

  pub rowing-room : {t₀ t : List ℕ} {i left n s : ℕ} → Rowing t₀ i left n s t → length t ≡ length t₀
  rowing-room {t₀} r = ap length r.here ∙ length-sets t₀ 0 (each (row g d) r.done)

  pub rowing-same : {t₀ t t' : List ℕ} {i left left' n n' s : ℕ} → left' ≡ left → n' ≡ n → t' ≡ t → Rowing t₀ i left n s t → Rowing t₀ i left' n' s t'
  rowing-same a b e r = rw (a, b, e) r

  -- the rows are those that are told
  rowing-told : {t₀ t : List ℕ} {i left n s : ℕ} (r : Rowing t₀ i left n s t) → told_from g d i (length t₀) ≡ r.done → (n, t) ≡ rows_from g d i t₀
  unfolding rows_from
  rowing-told {t₀} {t} {n = n} r e =
      ap (λ (k : ℕ). (k, t)) r.many ∙ ap (λ (x : List ℕ). (length r.done, x)) r.here
      ∙ ap (λ (ps : List ℕ). (length ps, sets t₀ 0 (each (row g d) ps))) (sym e)

  -- no slot is left
  pub rowing-end : {t₀ t : List ℕ} {i left n s : ℕ} → listed_from g d s ≡ [] → Rowing t₀ i left n s t → (n, t) ≡ rows_from g d i t₀
  unfolding told_from
  rowing-end {t₀} {left = left} h r =
      let m = r.many in let f = r.fits in
      rowing-told r (
      ap (take (length t₀ / 20)) (r.ahead ∙ ap (λ (x : List ℕ). r.done ++ x) (ap (drop left) h ∙ drop-nil left) ∙ append-nil r.done)
      ∙ take_all (length t₀ / 20) r.done (omega arith))

  -- no row more fits
  pub rowing-full : {t₀ t : List ℕ} {i left n s : ℕ} → length t₀ < 20 * n + 20 → Rowing t₀ i left n s t → (n, t) ≡ rows_from g d i t₀
  unfolding told_from
  rowing-full {t₀} {t} {i} {left} {n} {s} f r =
      let m = r.many in let w = r.fits in
      let q : length t₀ / 20 ≡ length r.done = omega arith in
      rowing-told r (
      ap (λ (k : ℕ). take k (drop i (listed g d))) q ∙ ap (take (length r.done)) r.ahead ∙ take-append_seam r.done (drop left (listed_from g d s)))

  module _ {from s : ℕ} (x : NextListed g d from s) where
    -- a file before the number asked for
    pub rowing-over : {t₀ t : List ℕ} {i : ℕ} (left : ℕ) {n : ℕ} → (left ≡ 0 → ⊥) → Rowing t₀ i left n from t → Rowing t₀ i (left - 1) n (s + 1) t
    rowing-over zero z r = absurd (z refl)
    rowing-over (suc left) z r =
        let q : left ≡ suc left - 1 = omega arith in
        record {
          done = r.done;
          ahead = r.ahead ∙ ap (λ (y : List ℕ). r.done ++ drop (suc left) y) x.ahead ∙ ap (λ (j : ℕ). r.done ++ drop j (listed_from g d (s + 1))) q;
          many = r.many;
          here = r.here;
          fits = r.fits;
        }

    -- a file whose row goes into the table
    pub rowing-put : {t₀ t t' : List ℕ} {i left n : ℕ} → left ≡ 0 → 20 * n + 20 ≤ length t₀ → t' ≡ sets t (20 * n) (row g d s) → Rowing t₀ i left n from t
        → Rowing t₀ i left (n + 1) (s + 1) t'
    rowing-put {t₀} {t} {t'} {i} {left} {n} z f p r =
        let m = r.many in
        let w : 20 * n ≡ 0 + length (each (row g d) r.done) = omega (arith, rows-length g d r.done) in
        record {
          done = r.done ++ (s ∷ []);
          ahead =
              r.ahead ∙ ap (λ (j : ℕ). r.done ++ drop j (listed_from g d from)) z ∙ ap (λ (y : List ℕ). r.done ++ y) x.ahead
              ∙ sym (append_assoc r.done (s ∷ []) (listed_from g d (s + 1))) ∙ ap (λ (j : ℕ). (r.done ++ (s ∷ [])) ++ drop j (listed_from g d (s + 1))) (sym z);
          many = omega (arith, length-append r.done (s ∷ []));
          here =
              p ∙ ap (λ (y : List ℕ). sets y (20 * n) (row g d s)) r.here ∙ ap (λ (j : ℕ). sets (sets t₀ 0 (each (row g d) r.done)) j (row g d s)) w
              ∙ sym (sets-append t₀ 0 (each (row g d) r.done) (row g d s)) ∙ ap (sets t₀ 0) (sym (rows_last r.done s));
          fits = omega arith;
        }

  -- refused and accepted
  pub rows-refused : (i : ℕ) (t : List ℕ) {c : Refusal} → c ≡ check g d → (c.number ≡ 0 → ⊥) → (record { refusal = c; told = 0 }, t) ≡ list_from g d i t
  unfolding list_from
  rows-refused i t {c} e z =
      let n = check-stop g d ((12, ltb (length t) 20) ∷ []) e z in
      rw (← n, ne_eqb c.number 0 z) (ap (λ (x : Refusal). (record { refusal = x; told = 0 }, t)) (handed-on g d e))

  pub rows_short : (i : ℕ) (t : List ℕ) {c r : Refusal} → c ≡ check g d → c.number ≡ 0 → length t < 20 → r ≡ unplaced 12
      → (record { refusal = r; told = 0 }, t) ≡ list_from g d i t
  unfolding list_from
  rows_short i t {c} {r} e z f h =
      let n : first (rows_refusals g d (length t)) ≡ 12 = check-then g d ((12, ltb (length t) 20) ∷ []) e z ∙ first-hit (lt-ltb _ _ f) 12 [] in
      let y : (check g d).number ≡ 0 = ap {B = ℕ} (λ (x : Refusal). x.number) (sym e) ∙ z in
      rw n (ap (λ (x : Refusal). (record { refusal = x; told = 0 }, t)) (h ∙ sym (carried_other (check g d) (λ q. omega (arith, q, y)))))

  pub rows-accepted : (i : ℕ) (t : List ℕ) {c : Refusal} {k : ℕ} {t' : List ℕ} → c ≡ check g d → c.number ≡ 0 → 20 ≤ length t → (k, t') ≡ rows_from g d i t
      → (record { refusal = c; told = k }, t') ≡ list_from g d i t
  unfolding list_from
  rows-accepted i t {c} e z f h =
      let n : first (rows_refusals g d (length t)) ≡ 0 = check-then g d ((12, ltb (length t) 20) ∷ []) e z ∙ first-skip (le-ltb _ _ f) 12 [] ∙ first-none in
      rw n (
      ap (λ (p : ℕ × List ℕ). (record { refusal = c; told = p.0 }, p.1)) h
      ∙ ap (λ (x : Refusal). (record { refusal = x; told = (rows_from g d i t).0 }, (rows_from g d i t).1)) (handed-on g d e ∙ ap (refusal g d) z))
