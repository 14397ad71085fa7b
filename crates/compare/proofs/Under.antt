-- What stands under one name, of all tests.
use mathlib.Core.Path.{◌≡◌, refl, sym, ap, subst, ◌∙◌}
use mathlib.Core.List.{List, [], ◌∷◌}
use mathlib.Core.Bool.{Bool, true, false, not, cond, ◌||◌}
use Prim.Native.Nat.{ℕ}
use lib.ListN.{length}
use lib.Dec.{eqb}
use Rattle.meaning.specs.Refusal.{unplaced}
use Rattle.meaning.specs.declared.Refusal.{Refusal}
use Rattle.meaning.specs.Lists.{same, all, any}
use Rattle.meaning.specs.Entries.{name_of, size_of, system}
use Rattle.meaning.specs.Read.{fetch}
use Rattle.meaning.specs.Plain.{file_at}
use Rattle.meaning.specs.declared.Geometry.{Geometry}
use Rattle.std.proofs.Math.Bool.{or-false}
use Rattle.read.proofs.ReadParts.{length-fetch}
use Rattle.differences.specs.Compare.{parting, name_only, unlike, difference}
use Rattle.differences.proofs.Parting.{same-parting}
use Rattle.differences.specs.declared.Difference.{Difference}
use Rattle.compare_order.specs.declared.Pair.TheVariants.{First, Second, Both}
use Rattle.compare_order.specs.Walk.{name_at, on_first, on_second}
use Rattle.compare_attributes.specs.Attributes.{dates_differ, others_differ}
use Rattle.compare.specs.Kind.{contents_differ, kind_of}
use Rattle.compare_order.specs.declared.Pair.{Pair}

any-two : (a b : Bool) → any (a ∷ b ∷ []) ≡ (a || b)
unfolding any
any-two a b = ap (λ (x : Bool). a || x) (or-false b)

module _ (g : Geometry) (d : List ℕ) (h : Geometry) (e : List ℕ) where
  module _ (s t : ℕ) where
    -- two files, all tests made
    pub unlike-is : {name : List ℕ} {n m at kind : ℕ} {contents size date other : Bool} {r : Refusal} → r ≡ unplaced 0 → name ≡ name_of g d s → n ≡ size_of g d
        s → m ≡ size_of h e t
        → at ≡ parting (fetch g d s 0 n) (fetch h e t 0 m) → contents ≡ contents_differ at n m → size ≡ not (eqb n m) → date ≡ dates_differ g d h e s t → other
        ≡ others_differ g d h e s t
        → kind ≡ kind_of contents size date other
        → ◌≡◌ {A = Difference} (record { refusal = r; kind = kind; name = name; at = at; contents = contents; size = size; date = date; other = other })
        (unlike (name_of g d s) (file_at g d s) (file_at h e t))
    unfolding unlike file_at dates_differ others_differ kind_of contents_differ
    unlike-is {name} {n} {m} {at} {kind} {contents} {size} {date} {other} y a b c k f i j l o =
        let xs : List ℕ = fetch g d s 0 (size_of g d s) in let ys : List ℕ = fetch h e t 0 (size_of h e t) in
        let p : length xs ≡ size_of g d s = length-fetch g d s 0 (size_of g d s) in
        let q : length ys ≡ size_of h e t = length-fetch h e t 0 (size_of h e t) in
        let at' : at ≡ parting xs ys = k ∙ (λ u. parting (fetch g d s 0 (b u)) (fetch h e t 0 (c u))) in
        let n' : n ≡ length xs = b ∙ sym p in let m' : m ≡ length ys = c ∙ sym q in
        let contents' : contents ≡ not (same xs ys) = f ∙ (λ u. not (all (eqb (n' u) (m' u) ∷ eqb (at' u) (n' u) ∷ []))) ∙ ap not (sym (same-parting xs ys))
        in
        let size' : size ≡ not (eqb (length xs) (length ys)) = i ∙ (λ u. not (eqb (n' u) (m' u))) in
        λ u. record {
          refusal = y u;
          kind = (o ∙ (λ v. cond (any (contents' v ∷ size' v ∷ j v ∷ l v ∷ [])) 3 0)) u;
          name = a u;
          at = at' u;
          contents = contents' u;
          size = size' u;
          date = j u;
          other = l u;
        }

  -- what stands under a name, case by case
  pub diff-first : (s : ℕ) → name_only (name_of g d s) 1 ≡ difference (name_at g d h e (First s)) (on_first g d h e (First s)) (on_second g d h e (First s))
  unfolding difference name_at on_first on_second
  diff-first s = refl

  pub diff-second : (t : ℕ) → name_only (name_of h e t) 2 ≡ difference (name_at g d h e (Second t)) (on_first g d h e (Second t)) (on_second g d h e (Second t))
  unfolding difference name_at on_first on_second
  diff-second t = refl

  module _ (s t : ℕ) where
    on_both : difference (name_at g d h e (Both s t)) (on_first g d h e (Both s t)) (on_second g d h e (Both s t))
        ≡ cond (any (system g d s ∷ system h e t ∷ [])) (name_only (name_of g d s) 0) (unlike (name_of g d s) (file_at g d s) (file_at h e t))
    unfolding difference name_at on_first on_second file_at
    on_both = refl

    pub diff-system : {x : Difference} → (system g d s || system h e t) ≡ true → x ≡ name_only (name_of g d s) 0
        → x ≡ difference (name_at g d h e (Both s t)) (on_first g d h e (Both s t)) (on_second g d h e (Both s t))
    diff-system u q = q ∙ sym (on_both ∙ ap (λ (b : Bool). cond b (name_only (name_of g d s) 0)
        (unlike (name_of g d s) (file_at g d s) (file_at h e t))) (any-two _ _ ∙ u))

    pub diff-unlike : {x : Difference} → (system g d s || system h e t) ≡ false → x ≡ unlike (name_of g d s) (file_at g d s) (file_at h e t)
        → x ≡ difference (name_at g d h e (Both s t)) (on_first g d h e (Both s t)) (on_second g d h e (Both s t))
    diff-unlike u q = q ∙ sym (on_both ∙ ap (λ (b : Bool). cond b (name_only (name_of g d s) 0)
        (unlike (name_of g d s) (file_at g d s) (file_at h e t))) (any-two _ _ ∙ u))

  -- the same of a pair that is known to be that one
  pub diff-at : {x : Difference} {p q : Pair} → p ≡ q → x ≡ difference (name_at g d h e q) (on_first g d h e q) (on_second g d h e q)
      → x ≡ difference (name_at g d h e p) (on_first g d h e p) (on_second g d h e p)
  diff-at {x} z f = subst (λ (r : Pair). x ≡ difference (name_at g d h e r) (on_first g d h e r) (on_second g d h e r)) (sym z) f
