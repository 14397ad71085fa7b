-- Comments are passed over, and what stands behind them is told.
use mathlib.Core.Path.{◌≡◌, refl, ◌∙◌}
use mathlib.Core.List.{List}
use mathlib.Core.Bool.{cond}
use Prim.Native.Nat.{ℕ, zero, suc, ◌+◌, ◌-◌, ◌*◌, ◌≤◌, ◌<◌}
use native.Mathlib.Omega.{arith}
use lib.ListN.{length, get_or}
use lib.Dec.{eqb}
use borrow.Author.Tests.{eq-eqb, ne_eqb}
use Rattle.load.specs.Records.{data_code, comment_code, past, told_at, record_from}
use Rattle.load.specs.declared.Item.{Item}
use Rattle.load.specs.declared.NextRecord.{NextRecord}
use Rattle.load_record.specs.Program.{Looked, Found}
use Rattle.load_record.proofs.Items.{whole, none-there, coded}

-- a comment is whole; a record has its address
pub comment-whole : (bs : List ℕ) {p : ℕ} {x : Item} → Looked bs p x → x.code ≡ comment_code → p + 2 + x.rest ≤ length bs
comment-whole bs {p} l c = (whole bs p l (coded bs p l (λ z. omega arith))).inside

pub record Address (x : Item) (p size : ℕ) : Type 0 where
  pub low : p + 2 < size
  pub high : p + 3 < size
  pub two : 2 ≤ x.rest

pub address-there : (bs : List ℕ) {p size : ℕ} {x : Item} → size ≡ length bs → Looked bs p x → x.number ≡ 0 → (x.code ≡ comment_code → ⊥) → Address x p size
address-there bs {p} e l z c =
    let w = whole bs p l z in let m = w.inside in let t = w.two c in record { low = omega arith; high = omega arith; two = t }

module _ (bs : List ℕ) (i : ℕ) where
  -- the comments up to place p are passed; what is left of their greatest number is enough for the rest of the file
  pub record PassingRecords (p : ℕ) : Type 0 where
    pub left : ℕ
    pub enough : length bs ≤ left + p
    pub rest : past bs (length bs) i ≡ past bs left p

  pub passing-start : PassingRecords i
  passing-start = record { left = length bs; enough = omega arith; rest = refl }

  pub passing_step : {p t : ℕ} {x : Item} → t ≡ p + 2 + x.rest → PassingRecords p → Looked bs p x → x.code ≡ comment_code → PassingRecords t
  passing_step {p} {t} {x} a q l c = rw a (by q.left q.enough q.rest)
    where
      by : (n : ℕ) → length bs ≤ n + p → past bs (length bs) i ≡ past bs n p → PassingRecords (p + 2 + x.rest)
      by zero h e = let w = comment-whole bs l c in absurd (let z : ⊥ = omega arith in z)
      by (suc n) h e = record { left = n; enough = omega arith; rest = e ∙ step }
        where
          step : past bs (suc n) p ≡ past bs n (p + 2 + x.rest)
          step = unfold past in rw (← l.is, eq-eqb x.code comment_code c)

  pub passing-end : {p : ℕ} {x : Item} → PassingRecords p → Looked bs p x → (x.code ≡ comment_code → ⊥) → past bs (length bs) i ≡ p
  passing-end {p} {x} q l c = q.rest ∙ by q.left
    where
      by : (n : ℕ) → past bs n p ≡ p
      by zero = unfold past in refl
      by (suc n) = unfold past in rw (← l.is, ne_eqb x.code comment_code c)

  -- what is told of the file from place i on
  pub told-whole : {p : ℕ} {r : NextRecord} → past bs (length bs) i ≡ p → Found bs (told_at bs i p) r → Found bs (record_from bs i) r
  unfolding record_from
  told-whole e f = rw e f

  module _ (p : ℕ) {x : Item} (l : Looked bs p x) where
    pub told_none : (x.number ≡ 0 → ⊥)
        → Found bs (told_at bs i p) (record { number = x.number; position = x.position; kind = 0; address = 0; from = p + 4; count = 0; next = i })
    told_none z =
        let n = none-there bs p l z in
        record { is = same n.0 n.1; few = omega arith; inside = λ e. absurd (z e) }
      where
        same : x.code ≡ 0 → x.rest ≡ 0 → record { number = x.number; position = x.position; kind = 0; address = 0; from = p + 4; count = 0; next = i } ≡
            told_at bs i p
        same c r = unfold told_at in rw (← l.is, ne_eqb x.number 0 z, c, r)

    pub told-one : {address next : ℕ} → x.number ≡ 0 → (x.code ≡ comment_code → ⊥) → address ≡ get_or bs (p + 2) 0 + 256 * get_or bs (p + 3) 0
        → next ≡ cond (eqb x.code data_code) (p + 2 + x.rest) i
        → Found bs (told_at bs i p)
        (record { number = x.number; position = x.position; kind = x.code; address = address; from = p + 4; count = x.rest - 2; next = next })
    told-one {address} {next} z c a n =
        let w = whole bs p l z in let m = w.inside in let t = w.two c in let f = l.few in
        record { is = same; few = omega arith; inside = λ e. omega arith }
      where
        same : record { number = x.number; position = x.position; kind = x.code; address = address; from = p + 4; count = x.rest - 2; next = next } ≡
            told_at bs i p
        same = unfold told_at in rw (← l.is, z, a, n)
