-- What a read hands out is the plain file's bytes
use Rattle.std.specs.Prelude.{◌≡◌, List, ◌++◌, map, ℕ, ◌+◌, ◌-◌, ◌≤◌, ◌<◌, min, length, get_or, take, drop, ltb}
use Rattle.std.proofs.Common.{ap, sym, ◌∙◌, arith, length-take, length-drop, get_or-take, get_or-drop, ext_get_or, nltb→le}
use Rattle.std.proofs.lemmas.List.{length-map}
use Rattle.std.proofs.Math.Dec.{not_T}
use Rattle.meaning.specs.Lists.{count}
use Rattle.lists.specs.Members.{length-count}
use Rattle.meaning.specs.Layout.{byte}
use Rattle.meaning.specs.Chain.{place}
use Rattle.meaning.specs.Entries.{size_of}
use Rattle.meaning.specs.Read.{read_of}
use Rattle.meaning.specs.Plain.{file_at}
use Rattle.meaning.specs.declared.Geometry.{Geometry}
use Rattle.meaning.specs.declared.Handle.{Handle}
use Rattle.lists.specs.Members
use Rattle.laws.specs.Passed
use Rattle.laws.specs.Words.{words}

part_of : (G : ℕ → ℕ) (i n s : ℕ) → i + n ≤ s → map G (count i n) ≡ take n (drop i (map G (count 0 s)))
part_of G i n s h = ext_get_or 0 (map G (count i n)) (take n (drop i (map G (count 0 s)))) (left ∙ sym right) (λ j b. point j (omega (arith, left)))
  where
    left : length (map G (count i n)) ≡ n
    left = length-map (count i n) G ∙ length-count i n

    right : length (take n (drop i (map G (count 0 s)))) ≡ n
    right = length-take n (drop i (map G (count 0 s))) ∙ ap (min n)
        (length-drop i (map G (count 0 s)) ∙ ap (λ (x : ℕ). x - i) (length-map (count 0 s) G ∙ length-count 0 s)) ∙ omega arith

    point : (j : ℕ) → j < n → get_or (map G (count i n)) j 0 ≡ get_or (take n (drop i (map G (count 0 s)))) j 0
    point j b = Members.map-count G i n j b ∙ sym
        (get_or-take n (drop i (map G (count 0 s))) j 0 b ∙ get_or-drop i (map G (count 0 s)) j 0 ∙ Members.map-count G 0 s (i + j) (omega arith) ∙ ap G
        (omega arith))

pub read-means : (g : Geometry) (d : List ℕ) (h : Handle) (n : ℕ) (b : List ℕ) → (read_of g d h n b).0.refusal.number ≡ 0
    → (read_of g d h n b).1 ≡ take n (drop h.at (file_at g d h.slot).bytes) ++ drop n b
unfolding read_of file_at words
read-means g d h n b e =
    let p₂ = Passed.disk-passed g d _ e in
    let p₃ = Passed.passed 12 _ _ (omega arith) p₂.1 in
    let p₄ = Passed.passed 7 _ _ (omega arith) p₃.1 in
    let p₅ = Passed.passed 6 _ _ (omega arith) p₄.1 in
    let p₆ = Passed.passed 10 _ _ (omega arith) p₅.1 in
    let in' = nltb→le (size_of g d h.slot) (h.at + n) (not_T (ltb (size_of g d h.slot) (h.at + n)) p₆.0) in
    rw e (ap (λ (l : List ℕ). l ++ drop n b) (part_of (λ j. byte d (place g d h.slot j)) h.at n (size_of g d h.slot) in'))
