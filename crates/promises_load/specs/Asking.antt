-- The records told one after the other are those of the file cut.
use Rattle.std.specs.Prelude.{◌≡◌, List, [], ◌∷◌, Bool, get_or, take, drop, eqb}
use Rattle.std.proofs.Math.Path.{refl, sym, ap}
use Rattle.std.proofs.Common.{ap₂, ◌∙◌}
use Rattle.std.proofs.Math.Bool.{true, false, cond}
use Prim.Native.Nat.{ℕ, zero, suc, ◌+◌, ◌-◌, ◌*◌, ◌≤◌, ◌<◌}
use native.Mathlib.Omega.{arith}
use Rattle.std.proofs.Math.Decide.{ℕ_discrete}
use Rattle.std.proofs.Math.ListN.{length}
use borrow.Author.Tests.{eq-eqb, ne_eqb, eqb-true}
use Rattle.meaning.specs.Lists.{any}
use Rattle.meaning.specs.Refusals.{accepted}
use Rattle.load.specs.Records.{data_code, start_code, comment_code, is_code, address_at, item_at, past, told_at, record_from}
use Rattle.load.specs.Cut.{Pieces, ending, onto, cut_from, cut}
use Rattle.load.specs.declared.Item.{Item}
use Rattle.promises_load.specs.Statement.{record_of, end_by, asked_from, Union}
use Rattle.promises_load.specs.Cutting
use Rattle.promises_load.specs.Cutting.{Seen, stepped, ahead}

-- the three codes
data Code : ℕ → Type 0 where
  one : Code 1
  two : Code 2
  five : Code 5

codes : (c : ℕ) → is_code c ≡ true → Code c
unfolding is_code any
codes c k = by (ℕ_discrete c data_code) (ℕ_discrete c start_code) (ℕ_discrete c comment_code)
  where
    by : Dec (c ≡ data_code) → Dec (c ≡ start_code) → Dec (c ≡ comment_code) → Code c
    by (yes e) q r = rw e one
    by (no x) (yes e) r = rw e two
    by (no x) (no y) (yes e) = rw e five
    by (no x) (no y) (no z) =
        let w : false ≡ true = rw (ne_eqb c data_code x, ne_eqb c start_code y, ne_eqb c comment_code z) at k in
        let v : ◌≡◌ {A = ℕ} 0 1 = cc in absurd (let u : ⊥ = omega arith in u)

module _ (bs : List ℕ) where
  -- no more comments are passed than there are
  over : (m i : ℕ) → length bs ≤ i → past bs m i ≡ i
  unfolding past
  over zero i h = refl
  over (suc m) i h = by (Cutting.seen bs i)
    where
      by : {x : Item} → Seen bs i x → cond (eqb x.code comment_code) (past bs m (i + 2 + x.rest)) i ≡ i
      by (Seen.broken t n) = refl
      by (Seen.stands k o t) = absurd (let z : ⊥ = omega arith in z)

  past_same : (n m i : ℕ) → length bs ≤ n + i → length bs ≤ m + i → past bs n i ≡ past bs m i
  unfolding past
  past_same zero m i h l = sym (over m i (omega arith))
  past_same (suc n) zero i h l = over (suc n) i (omega arith)
  past_same (suc n) (suc m) i h l =
      ap (λ (p : ℕ). cond (eqb (item_at bs i).code comment_code) p i) (past_same n m (i + 2 + (item_at bs i).rest) (omega arith) (omega arith))

  -- what is told hangs on the place behind the comments
  abbrev tells_at : ℕ → ℕ → ℕ → Pieces
  tells_at n i p =
      let r = told_at bs i p in cond (eqb r.kind data_code) (onto (record_of bs r) (asked_from bs n r.next)) (ending (end_by r))

  moved : (n i j p : ℕ) → tells_at n i p ≡ tells_at n j p
  unfolding told_at
  moved n i j p = by (eqb (item_at bs p).code data_code)
    where
      by : (b : Bool)
          → cond b (onto (record_of bs (told_at bs i p)) (asked_from bs n (cond b (p + 2 + (item_at bs p).rest) i))) (ending (end_by (told_at bs i p)))
          ≡ cond b (onto (record_of bs (told_at bs i p)) (asked_from bs n (cond b (p + 2 + (item_at bs p).rest) j))) (ending (end_by (told_at bs i p)))
      by true = refl
      by false = refl

  asked_is : (n i : ℕ) → asked_from bs (suc n) i ≡ tells_at n i (past bs (length bs) i)
  unfolding asked_from record_from
  asked_is n i = refl

  module _ (m : ℕ) (more : (k i : ℕ) → i ≤ length bs → length bs < m + i → length bs < k + i → asked_from bs k i ≡ ahead bs m i) where
    one_more : (k i : ℕ) → i ≤ length bs → length bs < suc m + i → length bs < suc k + i → asked_from bs (suc k) i ≡ stepped bs (ahead bs m) i (item_at bs i)
    one_more k i a b u = by refl (Cutting.seen bs i)
      where
        -- no comment stands there
        here : {x : Item} → item_at bs i ≡ x → (x.code ≡ comment_code → ⊥) → past bs (length bs) i ≡ i
        here {x} e n = go (length bs)
          where
            go : (f : ℕ) → past bs f i ≡ i
            go zero = unfold past in refl
            go (suc f) = unfold past in rw (e, ne_eqb x.code comment_code n)

        told : {x : Item} → item_at bs i ≡ x → (x.code ≡ comment_code → ⊥) → asked_from bs (suc k) i ≡ tells_at k i i
        told e n = asked_is k i ∙ ap (tells_at k i) (here e n)

        by : {x : Item} → item_at bs i ≡ x → Seen bs i x → asked_from bs (suc k) i ≡ stepped bs (ahead bs m) i x
        by e (Seen.broken {n} {p} t z) = told e (λ q. omega arith) ∙ (unfold told_at in rw (e, ne_eqb n 0 z) refl)
        by e (Seen.stands {c} {r} q o t) = coded (codes c q) e o
          where
            coded : {co : ℕ} → Code co → item_at bs i ≡ record { number = 0; position = 0; code = co; rest = r } → i + 2 + r ≤ length bs
                → asked_from bs (suc k) i ≡ stepped bs (ahead bs m) i (record { number = 0; position = 0; code = co; rest = r })
            coded one e o =
                told e (λ q. omega arith) ∙ (unfold told_at in rw e (ap (onto _) (more k (i + 2 + r) o (omega arith) (omega arith))))
            coded two e o = told e (λ q. omega arith) ∙ (unfold told_at in rw e refl)
            coded five e o =
                asked_is k i ∙ ap (tells_at k i) passed ∙ moved k i (i + 2 + r) (past bs (length bs) (i + 2 + r)) ∙ sym (asked_is k (i + 2 + r))
                ∙ more (suc k) (i + 2 + r) o (omega arith) (omega arith)
              where
                passed : past bs (length bs) i ≡ past bs (length bs) (i + 2 + r)
                passed =
                    past_same (length bs) (suc (length bs)) i (omega arith) (omega arith)
                    ∙ (unfold past in rw e refl)

  asked-cut : (m k i : ℕ) → i ≤ length bs → length bs < m + i → length bs < k + i → asked_from bs k i ≡ ahead bs m i
  asked-cut zero k i a b c = absurd (let z : ⊥ = omega arith in z)
  asked-cut (suc m) zero i a b c = absurd (let z : ⊥ = omega arith in z)
  asked-cut (suc m) (suc k) i a b c = one_more m (asked-cut m) k i a b c ∙ sym (Cutting.cut_step bs m i a)

-- The union of records equals reading the file whole and cutting it.
pub union : Union
unfolding cut
union bs = asked-cut bs (suc (length bs)) (suc (length bs)) 0 (omega arith) (omega arith) (omega arith)
