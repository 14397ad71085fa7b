use native.Mathlib.Omega.{arith}
use Rattle.back_chain.proofs.File.{nothing-whole, by-extension, by-name, by_size, lined, by-line, lined-own, is_whole}
use Rattle.lists.specs.Tests.{is-false, is-true}
use mathlib.Core.Path.{sym, ◌∙◌}
use Rattle.back_chain.proofs.whole.Goals as goal

pub returns-then-flag : goal.returns-then-flag
returns-then-flag c = nothing-whole _ _ _ (by-extension _ _ _ (sym c.flag.ensures ∙ c.if-flag.true))

pub returns-then-not-name_holds : goal.returns-then-not-name_holds
returns-then-not-name_holds c = nothing-whole _ _ _ (by-name _ _ _ (is-false c.name_holds.ensures c.if-not-name_holds.true))

pub line-requires : goal.line-requires
line-requires c = (c.requires.0, (let q = c.slots.ensures.small in omega arith), c.requires.1)

pub returns-in_err-l : goal.returns-in_err-l
returns-in_err-l c = rw c.from_residual.ensures
    (nothing-whole _ _ _ (by-line _ _ _ (lined _ _ _ c.args.disk.now.room c.slots.ensures.is c.in_err-l.ensures)))

pub size_holds-requires : goal.size_holds-requires
size_holds-requires c = (
  c.requires.0,
  (let m = c.in_ok-l.ensures.few in omega arith),
  lined-own _ _ _ (lined _ _ _ c.args.disk.now.room c.slots.ensures.is c.in_ok-l.ensures),
)

pub returns-then-not-size_holds : goal.returns-then-not-size_holds
returns-then-not-size_holds c = nothing-whole _ _ _ (by_size _ _ _ (is-false c.size_holds.ensures c.if-not-size_holds.true))

pub returns : goal.returns
returns c = is_whole _ _ _ (sym c.flag.ensures ∙ c.if-flag.false) (is-true c.name_holds.ensures c.if-not-name_holds.false)
    (lined _ _ _ c.args.disk.now.room c.slots.ensures.is c.in_ok-l.ensures) (is-true c.size_holds.ensures c.if-not-size_holds.false)
