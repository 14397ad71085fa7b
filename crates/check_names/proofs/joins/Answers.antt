use Rattle.check_names.proofs.Buckets.{first-list, joined-no, joined-yes, next_low, keyed}
use native.Mathlib.Omega.{arith}
use borrow.Author.Rules.{rules}
use Rattle.check_names.proofs.joins.Goals as goal

pub alone-requires : goal.alone-requires
alone-requires c = let k = c.key-b.ensures.small in (
  c.requires.0,
  c.requires.1,
  first-list _ _ _ _ _ c.requires.3 (keyed _ _ _ _ _ c.args.disk.now.room c.requires.0 (omega arith) c.requires.1 c.key-b.ensures.is) (omega arith)
      c.from-first.ensures,
  c.requires.3.nexts,
  c.requires.3.falls,
)

pub returns-then-not-alone : goal.returns-then-not-alone
returns-then-not-alone c = joined-no _ _ _ _ _ c.alone.ensures c.if-not-alone.true

pub overflow_cast-head : goal.overflow_cast-head
overflow_cast-head c = let h = next_low _ _ _ c.args.disk.now.room c.requires.0 in search rules

pub returns : goal.returns
returns c = let k = c.key-b.ensures.small in
    joined-yes _ _ _ _ _ c.requires.3 c.requires.0 c.requires.2
    (keyed _ _ _ _ _ c.args.disk.now.room c.requires.0 (omega arith) c.requires.1 c.key-b.ensures.is) (omega arith) c.from-first.ensures c.alone.ensures
    c.if-not-alone.false
