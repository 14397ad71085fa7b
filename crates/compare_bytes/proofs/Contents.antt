-- Two contents held against each other, byte by byte and run by run.
use mathlib.Core.Path.{◌≡◌, refl, sym, ap, ◌∙◌}
use mathlib.Core.Logic.{⊎_elim}
use mathlib.Core.Bool.{Bool, true, ◌&&◌, and_assoc, and-true, not, cond}
use mathlib.Core.List.{List, [], ◌∷◌, ◌++◌}
use Rattle.std.specs.Prelude.{Option, Some, None, min, nat_eq}
use Rattle.std.specs.List.{zip, position_or_len}
use Rattle.std.specs.Option.{unwrap_or}
use Rattle.std.proofs.lemmas.Bool.Decides.{nat_tests}
use Rattle.std.proofs.lemmas.Slice.Zip.{length-zip}
use lib.Dec.{eqb, ltb}
use Prim.Native.Nat.{ℕ, suc, ◌+◌, ◌-◌, ◌*◌, ◌≤◌, ◌<◌}
use native.Mathlib.Omega.{arith}
use native.Mathlib.Nat.{zero-add, add-zero}
use native.Mathlib.Numerals.{add-one}
use lib.ListN.{length, get_or, take, drop, drop_of_length-le}
use lib.Seq.{drop-cons}
use borrow.Author.Tests.{eqb-true}
use Rattle.meaning.specs.Lists.{same}
use Rattle.meaning.specs.Layout.{granule_bytes}
use Rattle.meaning.specs.Entries.{size_of, in_use}
use Rattle.meaning.specs.Chain.{owned, place}
use Rattle.meaning.specs.Read.{fetch}
use Rattle.meaning.specs.declared.Geometry.{Geometry}
use Rattle.lists.specs.Tests.{and_l, all-at, le-or-lt}
use Rattle.seek.specs.Seek.{Used}
use Rattle.read.proofs.ReadParts.{map-run, fetch-append, length-fetch}
use Rattle.file_runs.specs.Along.{Along}
use Rattle.file_runs.specs.declared.FileRun.{FileRun}
use Rattle.differences.specs.Compare.{parting}
use Rattle.differences.proofs.Parting.{same-parting, parting-none, parting-nothing, parting-past, parting-in}
use Rattle.compare_order.specs.Whole.{WholeDisk, StartsFile}

-- two bytes held against each other, one of either part
abbrev pub apart : ℕ × ℕ → Bool
apart p = not (nat_eq p.0 p.1)

parting-le : (a b : List ℕ) → parting a b ≤ length a
unfolding parting
parting-le [] b = omega arith
parting-le (x ∷ a) [] = omega arith
parting-le (x ∷ a) (y ∷ b) = let h = parting-le a b in grind (arith, nat_tests)

first-apart : (a b : List ℕ) → length a ≡ length b → position_or_len apart (zip a b) ≡ parting a b
unfolding parting
first-apart [] b e = refl
first-apart (x ∷ a) [] e = refl
first-apart (x ∷ a) (y ∷ b) e = let h = first-apart a b (omega arith) in grind (arith, nat_tests)

or-end : (n m k : ℕ) → n ≤ m → k ≡ m → unwrap_or (cond (ltb n k) (Some n) None) m ≡ n
or-end n m k h e = grind (arith, nat_tests)

-- the first place where two parts of one length have other bytes, or their end
pub found-apart : (a b : List ℕ) {r : Option ℕ} {n : ℕ} → length a ≡ length b
    → r ≡ cond (ltb (position_or_len apart (zip a b)) (length (zip a b))) (Some (position_or_len apart (zip a b))) None → n ≡ unwrap_or r (length a)
    → (n ≡ parting a b) × (n ≤ length a)
found-apart a b {r} {n} e f q =
    let l = parting-le a b in
    let h = first-apart a b e in
    let y : n ≡ parting a b
    = q ∙ ap (λ (o : Option ℕ). unwrap_or o (length a)) (f ∙ (λ i. cond (ltb (h i) (length (zip a b))) (Some (h i)) None))
    ∙ or-end (parting a b) (length a) (length (zip a b)) l (omega (arith, length-zip {A = ℕ} {B = ℕ} a b)) in
    (y, omega arith)

-- Whether two parts are the same, i bytes of them compared ------------------------------------------------------------------

module _ (a b : List ℕ) where
  pub record SameSoFar (i : ℕ) (r : Bool) : Type 0 where
    pub low : i ≤ length a
    pub rest : same a b ≡ (r && same (drop i a) (drop i b))

  pub same_start : SameSoFar 0 true
  same_start = record { low = omega arith; rest = refl }

  pub same-on : {i : ℕ} {r : Bool} → length a ≡ length b → i < length a → SameSoFar i r → SameSoFar (i + 1) (r && eqb (get_or a i 0) (get_or b i 0))
  same-on {i} {r} l h k =
      let p = drop-cons a i 0 h in let q = drop-cons b i 0 (omega arith) in
      record {
        low = omega arith;
        rest = k.rest ∙ (λ j. r && same (p j) (q j)) ∙ sym (and_assoc r (eqb (get_or a i 0) (get_or b i 0)) (same (drop (suc i) a) (drop (suc i) b)))
            ∙ ap (λ (x : ℕ). (r && eqb (get_or a i 0) (get_or b i 0)) && same (drop x a) (drop x b)) (sym (add-one i));
      }

  pub same_end : {i : ℕ} {r : Bool} → length a ≡ length b → length a ≤ i → SameSoFar i r → r ≡ same a b
  same_end {i} {r} l h k =
      let p = drop_of_length-le a {i = i} h in let q = drop_of_length-le b {i = i} (omega arith) in
      sym (k.rest ∙ (λ j. r && same (p j) (q j)) ∙ and-true r)

  -- parts that are the same are alike to their end
  pub same_alike : {n : ℕ} {r : Bool} → n ≡ length a → r ≡ same a b → r ≡ true → (n ≡ parting a b) × (n ≤ length a)
  same_alike {n} e f h =
      let q = eqb-true (parting a b) (length a) (all-at _ (sym (same-parting a b) ∙ sym f ∙ h) 1) in
      (omega arith, omega arith)

-- the smaller of two numbers
module _ (n m : ℕ) {r : ℕ} (e : r ≡ min n m) where
  pub least-first : r ≤ n
  least-first = omega arith

  pub least-second : r ≤ m
  least-second = omega arith

  pub least-other : r < n → r ≡ m
  least-other l = omega arith

-- a file of a disk that passed
module _ (g : Geometry) (d : List ℕ) (s : ℕ) where
  pub used : StartsFile g d s → Used g d s
  used st = record { slot = st.slot; used = and_l (in_use g d s) _ st.first' }

  -- a byte below the size lies in a granule of the file
  pub owned-byte : (i n : ℕ) → WholeDisk g d → StartsFile g d s → n ≡ size_of g d s → i < n → i < granule_bytes g * length (owned g d s)
  owned-byte i n w st e h = omega (arith, w.sound.size s st.slot st.first')

  -- len bytes from byte i on lie in the run c: they are a part of the image, which is lent on
  module _ (i len : ℕ) {c : FileRun} (o : Along g d s c) (l : c.from ≤ i) (h : i + len ≤ c.to) where
    pub run_fits : c.at + (i - c.from) + len ≤ length d
    run_fits = omega (arith, o.inside)

    pub run_is : take (c.at + (i - c.from) + len - (c.at + (i - c.from))) (drop (c.at + (i - c.from)) d) ≡ fetch g d s i len
    unfolding fetch
    run_is =
        let q : c.at + (i - c.from) + len - (c.at + (i - c.from)) ≡ len = omega arith in
        ap (λ (k : ℕ). take k (drop (c.at + (i - c.from)) d)) q
        ∙ sym (map-run d (place g d s) i (c.at + (i - c.from)) len
        (λ t p. o.here (i + t) (omega arith) (omega arith) ∙ (let z : c.at + (i + t - c.from) ≡ c.at + (i - c.from) + t = omega arith in z)) run_fits)

-- two files are alike in the first i bytes
module _ (g : Geometry) (d : List ℕ) (h : Geometry) (e : List ℕ) (s t n m end : ℕ) where
  pub record Matches (i : ℕ) : Type 0 where
    pub low : i ≤ end
    pub rest : parting (fetch g d s 0 n) (fetch h e t 0 m) ≡ i + parting (fetch g d s i (n - i)) (fetch h e t i (m - i))

  pub matches-start : Matches 0
  matches-start =
      let x : n ≡ n - 0 = omega arith in let y : m ≡ m - 0 = omega arith in
      record {
        low = omega arith;
        rest = sym (zero-add (parting (fetch g d s 0 n) (fetch h e t 0 m))) ∙
            (λ u. 0 + parting (fetch g d s 0 (x u)) (fetch h e t 0 (y u)));
      }

  module _ (i len : ℕ) (f : end ≤ n) (k : end ≤ m) (l : i + len ≤ end) {a b : List ℕ} (p : a ≡ fetch g d s i len) (q : b ≡ fetch h e t i len) where
    sized : length a ≡ len
    sized = ap length p ∙ length-fetch g d s i len

    sized' : length b ≡ len
    sized' = ap length q ∙ length-fetch h e t i len

    cut_off : parting (fetch g d s i (n - i)) (fetch h e t i (m - i)) ≡ parting (a ++ fetch g d s (i + len) (n - (i + len)))
        (b ++ fetch h e t (i + len) (m - (i + len)))
    cut_off =
        let x : n - i ≡ len + (n - (i + len)) = omega arith in let y : m - i ≡ len + (m - (i + len)) = omega arith in
        let u : fetch g d s i (n - i) ≡ a ++ fetch g d s (i + len) (n - (i + len))
        = ap (fetch g d s i) x ∙ fetch-append g d s i len (n - (i + len)) ∙ ap (λ (z : List ℕ). z ++ fetch g d s (i + len) (n - (i + len))) (sym p) in
        let v : fetch h e t i (m - i) ≡ b ++ fetch h e t (i + len) (m - (i + len))
        = ap (fetch h e t i) y ∙ fetch-append h e t i len (m - (i + len)) ∙ ap (λ (z : List ℕ). z ++ fetch h e t (i + len) (m - (i + len))) (sym q) in
        λ j. parting (u j) (v j)

    pub matches-on : {c : ℕ} → c ≡ parting a b → c ≡ len → Matches i → Matches (i + len)
    matches-on r z k' =
        let y : i + (length a + parting (fetch g d s (i + len) (n - (i + len))) (fetch h e t (i + len) (m - (i + len)))) ≡ i + len + parting
        (fetch g d s (i + len) (n - (i + len))) (fetch h e t (i + len) (m - (i + len)))
        = let v = sized in omega arith in
        record {
          low = l;
          rest = k'.rest
              ∙ ap (λ (x : ℕ). i + x) (cut_off ∙ parting-past a b (fetch g d s (i + len) (n - (i + len))) (fetch h e t (i + len) (m - (i + len)))
              (sized ∙ sym sized') (sym r ∙ z ∙ sym sized))
              ∙ y;
        }

    pub matches-stop : {c : ℕ} → c ≡ parting a b → (c ≡ len → ⊥) → Matches i → i + c ≡ parting (fetch g d s 0 n) (fetch h e t 0 m)
    matches-stop r z k' =
        ap (λ (x : ℕ). i + x) r
        ∙ sym (k'.rest ∙ ap (λ (x : ℕ). i + x) (cut_off ∙ parting-in a b (fetch g d s (i + len) (n - (i + len))) (fetch h e t (i + len) (m - (i + len)))
        (sized ∙ sym sized') (λ y. z (r ∙ y ∙ sized))))

  pub matches-end : {i : ℕ} → end ≤ n → end ≤ m → (end < n → end ≡ m) → end ≤ i → Matches i → i ≡ parting (fetch g d s 0 n) (fetch h e t 0 m)
  unfolding fetch
  matches-end {i} f k x y z =
      let l = z.low in
      sym (z.rest ∙ ap (λ (u : ℕ). i + u) (⊎_elim
      (λ u. let v : n - i ≡ 0 = omega arith in ap (λ (a : ℕ). parting (fetch g d s i a) (fetch h e t i (m - i))) v ∙ parting-nothing (fetch h e t i (m - i)))
      (λ u. let o = x u in let v : m - i ≡ 0 = omega arith in ap (λ (a : ℕ). parting (fetch g d s i (n - i)) (fetch h e t i a)) v ∙ parting-none
      (fetch g d s i (n - i))) (le-or-lt n end)) ∙ add-zero i)
