use Rattle.std.proofs.Common.{rules, tests, refl}
use Rattle.std.proofs.lemmas.Iterator.{YieldsList-from_slice, YieldsList-from_zip}
use Rattle.std.proofs.lemmas.Iterator.Search.{position_from_yields_List}
use Rattle.compare_bytes.proofs.Contents.{same_alike, apart, found-apart}
use Rattle.compare_bytes.proofs.alike.Goals as goal

pub equal-requires : goal.equal-requires
equal-requires c = c.requires

pub returns-then-equal : goal.returns-then-equal
returns-then-equal c = same_alike _ _ refl c.equal.ensures c.if-equal.true

pub returns : goal.returns
returns c =
    found-apart _ _ c.requires
    (position_from_yields_List apart c.position.new.self _ c.position.result c.position.ensures.ran
    (YieldsList-from_zip (YieldsList-from_slice c.args.a.now cc) (YieldsList-from_slice c.args.b.now cc)) (λ x b q k. search (rules, tests)))
    c.unwrap_or.ensures
