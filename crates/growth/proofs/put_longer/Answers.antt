use Rattle.growth.proofs.Put.{stored, not-stored, writes-yes}
use Rattle.space.proofs.Marks.{marks-long}
use Rattle.meaning.specs.Layout.{take_granule, set_field}
use Rattle.meaning.specs.Lists.{count, through}
use native.Mathlib.Omega.{arith}
use Prim.Native.Nat.{ℕ, ◌+◌, ◌*◌}
use lib.ListN.{length}
use mathlib.Core.Bool.{true}
use mathlib.Core.List.{List}
use mathlib.Core.Path.{◌≡◌, ap, ◌∙◌}
use mathlib.Core.Bool.{not}
use Rattle.growth.proofs.put_longer.Goals as goal

pub returns-then-not-writes : goal.returns-then-not-writes
returns-then-not-writes c = let take-run = c.take_run in let a = c.args in
    not-stored (λ (l : List ℕ). l) a.writes _ _ _ (ap not c.if-not-writes.true) take-run.ensures

pub set_field-requires : goal.set_field-requires
set_field-requires c = let a = c.args in let s = c.entry_byte-second.ensures.is in let t = c.entry_byte-second.ensures.small in
    let e = c.requires.1 in let p = c.requires.4 (writes-yes _ (ap not c.if-not-writes.false)) in
    let z : length c.take_run.new.image ≡ length a.image.now = ap length
    c.take_run.ensures ∙ marks-long a.g true a.image.now a.a a.m in
    (omega arith, omega arith, omega arith)

pub returns : goal.returns
returns c = let a = c.args in stored (λ (l : List ℕ). l) a.writes _ _ _ (ap not c.if-not-writes.false)
    (c.set_field.ensures ∙ ap (λ (z : List ℕ). set_field a.g z a.e (0x17 + 2 * a.k)
    (c.entry_byte-second.result + a.m))
    c.take_run.ensures
    ∙ ap (λ (v : ℕ). set_field a.g (through (take_granule a.g) a.image.now (count a.a a.m)) a.e (0x17 + 2 * a.k) (v + a.m))
    c.entry_byte-second.ensures.is)
