use native.Mathlib.Omega.{arith}
use Prim.Native.Nat.{ℕ, ◌+◌, ◌*◌}
use mathlib.Core.Path.{ap₂}
use Rattle.load_record.proofs.Bytes.{long}
use Rattle.load_record.proofs.Passing.{address-there, told_none, told-one}
use Rattle.load_record.proofs.told.Goals as goal

pub overflow_add-result : goal.overflow_add-result
overflow_add-result c = omega (arith, c.requires.1)

pub returns-then-x-ne0 : goal.returns-then-x-ne0
returns-then-x-ne0 c = told_none _ _ _ c.requires.2 c.if-x-ne0.true

pub overflow_add-p : goal.overflow_add-p
overflow_add-p c = omega (arith, c.requires.1)

pub byte_at-low-requires : goal.byte_at-low-requires
byte_at-low-requires c = (
  c.requires.0,
  (address-there _ (long _ _ _ c.requires.0)
      c.requires.2 c.if-x-ne0.false c.requires.3).low,
)

pub overflow_add-p-2 : goal.overflow_add-p-2
overflow_add-p-2 c = omega (arith, c.requires.1)

pub byte_at-high-requires : goal.byte_at-high-requires
byte_at-high-requires c = let p = c.requires in (p.0, (address-there _ (long _ _ _ p.0) p.2 c.if-x-ne0.false p.3).high)

pub overflow_add-p-3 : goal.overflow_add-p-3
overflow_add-p-3 c = omega (arith, c.requires.1)

pub overflow_add-p-4 : goal.overflow_add-p-4
overflow_add-p-4 c = omega (arith, c.requires.1, c.requires.2.few)

pub overflow_mul-result : goal.overflow_mul-result
overflow_mul-result c = omega (arith, c.byte_at-high.ensures.small)

pub overflow_add-result-2 : goal.overflow_add-result-2
overflow_add-result-2 c = omega (arith, c.byte_at-high.ensures.small, c.byte_at-low.ensures.small)

pub overflow_add-result-3 : goal.overflow_add-result-3
overflow_add-result-3 c = omega (arith, c.requires.1)

pub overflow_sub-result : goal.overflow_sub-result
overflow_sub-result c = let if1 = c.if-x-ne0 in let p = c.requires in (address-there _ (long _ _ _ p.0) p.2 if1.false p.3).two

pub returns : goal.returns
returns c = let byte-at2 = c.byte_at-high in let byte_at = c.byte_at-low in let if1 = c.if-x-ne0 in let p = c.requires in
    told-one _ _ _ p.2 if1.false p.3 (ap₂ (λ (x y : ℕ). x + 256 * y) byte_at.ensures.is byte-at2.ensures.is) c.place_after-next.ensures
