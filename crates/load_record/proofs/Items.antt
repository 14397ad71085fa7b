-- What stands at a place of a load file: the tests in file order, and what a whole record or comment has.
use mathlib.Core.Path.{◌≡◌, refl, sym, ap, ◌∙◌}
use mathlib.Core.List.{List}
use mathlib.Core.Bool.{Bool, true, false, not}
use Prim.Native.Nat.{ℕ, ◌+◌, ◌≤◌, ◌<◌}
use native.Mathlib.Omega.{arith}
use native.Mathlib.Decide.{ℕ_discrete}
use lib.ListN.{length, get_or}
use lib.Dec.{eqb, leb}
use borrow.Author.Tests.{le-leb, lt-leb, lt-ltb, le-ltb, eq-eqb, ne_eqb, ltb-false, not-false}
use Rattle.meaning.specs.Refusals.{first}
use Rattle.lists.specs.Tests.{first-hit, first-skip, first-none, first-at, not_yes, not-no, is-yes, is-no, any-skip, any-one, not-both}
use Rattle.load.specs.Records.{data_code, start_code, comment_code, is_code, follows, bad_count, code_at, count_at, end_of, item_refusals}
use Rattle.load.specs.Records.{item_at, position_of}
use Rattle.load.specs.declared.Item.{Item}
use Rattle.load_record.specs.Program.{broken, Looked}

rest-start : (c n : ℕ) → (c ≡ data_code → ⊥) → c ≡ start_code → 2 ≡ follows c n
unfolding follows
rest-start c n z e = rw (ne_eqb c data_code z, eq-eqb c start_code e)

-- behind every code but a comment's stand two bytes at the least
code-five : (c : ℕ) → is_code c ≡ true → (c ≡ data_code → ⊥) → (c ≡ start_code → ⊥) → eqb c comment_code ≡ true
unfolding is_code
code-five c k z y = sym (any-skip (ne_eqb c data_code z) _ ∙ any-skip (ne_eqb c start_code y) _ ∙ any-one _) ∙ k

two-more : (c n : ℕ) → is_code c ≡ true → (c ≡ comment_code → ⊥) → 2 ≤ follows c n
two-more c n k f = by (ℕ_discrete c data_code) (ℕ_discrete c start_code)
  where
    by : Dec (c ≡ data_code) → Dec (c ≡ start_code) → 2 ≤ follows c n
    by (yes e) q = unfold follows in rw (eq-eqb c data_code e) (omega arith)
    by (no z) (yes e) = rw (← rest-start c n z e) (omega arith)
    by (no z) (no y) = not-both (code-five c k z y) (ne_eqb c comment_code f)

module _ (bs : List ℕ) (i : ℕ) where
  stopped : {r : Item} {n at : ℕ} → first (item_refusals bs i) ≡ n → (n ≡ 0 → ⊥) → at ≡ position_of bs i n → r ≡ broken n at → Looked bs i r
  stopped {n = n} {at = at} e z q f = record { is = f ∙ same; few = rw f (omega arith) }
    where
      same : broken n at ≡ item_at bs i
      same = unfold item_at in rw (e, ne_eqb n 0 z, q)

  -- the file ends before a code; the code is unknown; the count is not there; it is bad; the rest is not there
  module _ {size : ℕ} (e : size ≡ length bs) where
    pub no_code : {r : Item} → size ≤ i → r ≡ broken 32 size → Looked bs i r
    unfolding position_of
    no_code h f = let l : length bs ≤ i = omega arith in stopped (first-hit (le-leb _ _ l) _ _) (λ q. omega arith) e f

    module _ {c : ℕ} (h : i < size) (p : c ≡ code_at bs i) where
      here : leb (length bs) i ≡ false
      here = let l : i < length bs = omega arith in lt-leb _ _ l

      pub unknown : {b : Bool} {r : Item} → b ≡ is_code c → not b ≡ true → r ≡ broken 31 i → Looked bs i r
      unfolding position_of
      unknown k y f = stopped (first-skip here _ _ ∙ first-hit (not-no (sym (ap is_code p) ∙ is-no k y)) _ _) (λ q. omega arith) refl f

      module _ {b : Bool} (k : b ≡ is_code c) (y : not b ≡ false) where
        known-code : not (is_code (code_at bs i)) ≡ false
        known-code = not_yes (sym (ap is_code p) ∙ is-yes k y)

        pub no-count : {r : Item} → size ≤ i + 1 → r ≡ broken 32 size → Looked bs i r
        unfolding position_of
        no-count l f =
            let m : length bs ≤ i + 1 = omega arith in
            stopped (first-skip here _ _ ∙ first-skip known-code _ _ ∙ first-hit (le-leb _ _ m) _ _) (λ q. omega arith) e f

        module _ {n : ℕ} (l : i + 1 < size) (q : n ≡ count_at bs i) where
          counted : leb (length bs) (i + 1) ≡ false
          counted = let m : i + 1 < length bs = omega arith in lt-leb _ _ m

          judged : {t : Bool} {u : Bool} → t ≡ bad_count c n → t ≡ u → bad_count (code_at bs i) (count_at bs i) ≡ u
          judged {t} {u} v w = ap (λ (x : ℕ). bad_count x (count_at bs i)) (sym p) ∙ ap (bad_count c) (sym q) ∙ sym v ∙ w

          pub bad-one : {t : Bool} {r : Item} → t ≡ bad_count c n → t ≡ true → r ≡ broken 33 (i + 1) → Looked bs i r
          unfolding position_of
          bad-one v w f =
              stopped (first-skip here _ _ ∙ first-skip known-code _ _ ∙ first-skip counted _ _ ∙ first-hit (judged v w) _ _) (λ z. omega arith) refl f

          module _ {t : Bool} {rest : ℕ} (v : t ≡ bad_count c n) (w : t ≡ false) (f : rest ≡ follows c n) where
            rest-is : rest ≡ follows (code_at bs i) (count_at bs i)
            rest-is = f ∙ ap (λ (x : ℕ). follows x n) p ∙ ap (follows (code_at bs i)) q

            pub cut_off : {r : Item} → size < i + 2 + rest → r ≡ broken 32 size → Looked bs i r
            unfolding position_of
            cut_off m o =
                let x : length bs < end_of bs i = omega (arith, rest-is, e, m) in
                stopped (first-skip here _ _ ∙ first-skip known-code _ _ ∙ first-skip counted _ _ ∙ first-skip (judged v w) _ _ ∙ first-hit (lt-ltb _ _ x) _
                _)
                (λ z. omega arith) e o

            pub there : i + 2 + rest ≤ size → rest ≤ 257 → Looked bs i (record { number = 0; position = 0; code = c; rest = rest })
            there m o = record { is = same; few = o }
              where
                whole-one : first (item_refusals bs i) ≡ 0
                whole-one =
                    let x : end_of bs i ≤ length bs = omega (arith, rest-is, e, m) in
                    first-skip here _ _ ∙ first-skip known-code _ _ ∙ first-skip counted _ _ ∙ first-skip (judged v w) _ _ ∙ first-skip (le-ltb _ _ x) _ _
                    ∙ first-none

                same : record { number = 0; position = 0; code = c; rest = rest } ≡ item_at bs i
                same = unfold item_at position_of in rw (whole-one, p, rest-is)

  -- what stands there is whole
  pub record WholeItem (x : Item) : Type 0 where
    pub inside : i + 2 + x.rest ≤ length bs
    pub code_is : x.code ≡ code_at bs i
    pub known : is_code x.code ≡ true
    pub two : (x.code ≡ comment_code → ⊥) → 2 ≤ x.rest

  whole_item : first (item_refusals bs i) ≡ 0 → WholeItem (item_at bs i)
  unfolding item_at
  whole_item e =
      let t : (k : ℕ) → (get_or (item_refusals bs i) k (0, false)).1 ≡ false = λ k. first-at (item_refusals bs i) e refl k in
      let m = ltb-false _ _ (t 4) in let k = not-false _ (t 1) in
      rw e (record { inside = m; code_is = refl; known = k; two = λ f. two-more _ _ k f })

  pub whole : {x : Item} → Looked bs i x → x.number ≡ 0 → WholeItem x
  whole {x} l z = rw l.is (whole_item (numbered ∙ z))
    where
      numbered : first (item_refusals bs i) ≡ x.number
      numbered = unfold item_at in sym (ap (λ (y : Item). y.number) l.is)

  -- under a number there is neither code nor rest
  pub none-there : {x : Item} → Looked bs i x → (x.number ≡ 0 → ⊥) → (x.code ≡ 0) × (x.rest ≡ 0)
  none-there {x} l z = rw l.is (gone (λ e. z (named ∙ e)))
    where
      named : x.number ≡ first (item_refusals bs i)
      named = unfold item_at in ap (λ (y : Item). y.number) l.is

      gone : (first (item_refusals bs i) ≡ 0 → ⊥) → ((item_at bs i).code ≡ 0) × ((item_at bs i).rest ≡ 0)
      gone n = unfold item_at in rw (ne_eqb _ 0 n) (refl, refl)

  -- so where there is a code, it is whole
  pub coded : {x : Item} → Looked bs i x → (x.code ≡ 0 → ⊥) → x.number ≡ 0
  coded {x} l n = by (ℕ_discrete x.number 0)
    where
      by : Dec (x.number ≡ 0) → x.number ≡ 0
      by (yes e) = e
      by (no z) = absurd (n (none-there l z).0)
