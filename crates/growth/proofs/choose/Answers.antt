use Rattle.growth.proofs.Choosing.{picked_first, picked_next, picked_all}
use native.Mathlib.Omega.{arith}
use Rattle.growth.proofs.choose.Goals as goal

pub next_free-requires : goal.next_free-requires
next_free-requires c = c.requires.1.inside

pub returns-then-lowest : goal.returns-then-lowest
returns-then-lowest c = picked_first _ _ c.requires.0 c.args.lowest c.if-lowest.true
    c.requires.1 c.next_free.ensures

pub longest_from-s-requires : goal.longest_from-s-requires
longest_from-s-requires c = c.requires.1.inside

pub returns-then-most-s : goal.returns-then-most-s
returns-then-most-s c = let if1 = c.if-lowest in let a = c.args in let p = c.requires in
    picked_next _ _ p.0 a.lowest if1.false p.1 c.longest_from-s.ensures c.if-most-s.true

pub longest_from-t-requires : goal.longest_from-t-requires
longest_from-t-requires c = omega arith

pub returns : goal.returns
returns c = let if1 = c.if-lowest in let a = c.args in let p = c.requires in picked_all _ _ p.0 a.lowest if1.false p.1 c.longest_from-t.ensures
