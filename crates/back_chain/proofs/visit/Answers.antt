use native.Mathlib.Omega.{arith}
use Rattle.back_chain.proofs.Entry.{visits-met, visits-pairs, visits-astray, visits-link}
use Rattle.lists.specs.Tests.{is-false, is-true}
use Rattle.back_chain.proofs.visit.Goals as goal

pub returns-then-met-s-eq0 : goal.returns-then-met-s-eq0
returns-then-met-s-eq0 c = visits-met _ _ _ c.if-met-s-eq0.true

pub returns-in_err-p : goal.returns-in_err-p
returns-in_err-p c = rw c.from_residual.ensures (visits-pairs _ _ _ c.in_err-p.ensures)

pub link_holds-requires : goal.link_holds-requires
link_holds-requires c = (c.requires, c.in_ok-p.ensures.taken.runs-is)

pub returns-then-not-link_holds : goal.returns-then-not-link_holds
returns-then-not-link_holds c = visits-astray _ _ _ (is-false c.link_holds.ensures c.if-not-link_holds.true)

pub returns : goal.returns
returns c = visits-link _ _ _ c.in_ok-p.ensures (let q = c.if-met-s-eq0.false in omega arith) (is-true c.link_holds.ensures c.if-not-link_holds.false)
