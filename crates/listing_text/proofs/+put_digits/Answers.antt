use native.Mathlib.Omega.{arith}
use Rattle.listing_text.proofs.PutBytes.{put-none, put_as, put_both, digits-none, digits-one, digits_more}
use Rattle.listing_text.proofs.+put_digits.Goals as goal

pub returns-then-most-eq0 : goal.returns-then-most-eq0
returns-then-most-eq0 t c =
    let a = c.args in
    put-none a.most a.to.now a.at (digits-none a.most a.n c.if-most-eq0.true)

pub returns-then-n-lt10 : goal.returns-then-n-lt10
returns-then-n-lt10 t c =
    let a = c.args in
    put_as c.put_byte.ensures (digits-one a.most a.n _ c.if-most-eq0.false c.if-n-lt10.true c.digit.ensures)
    (omega (arith, c.if-most-eq0.false))

pub returns : goal.returns
returns t c =
    let a = c.args in
    put_both c.put_digits-last.ensures c.put_byte-2.ensures
    (digits_more a.most a.n _ c.if-most-eq0.false c.if-n-lt10.false c.digit-2.ensures)
    (omega (arith, c.if-most-eq0.false))
