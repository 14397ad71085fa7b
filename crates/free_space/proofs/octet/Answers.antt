use Rattle.free_space.proofs.Octets.{octet-is}
use native.Mathlib.Omega.{arith}
use Rattle.free_space.proofs.octet.Goals as goal

pub returns : goal.returns
returns c = let if2 = c.if-g-b in let if1 = c.if-g-ne8 in let image = c.type_inv.image in let p = c.requires in
    let at = c.gat_at.ensures in octet-is _ _ _ _ at c.eight.ensures.is (omega (arith, p.0.inside, if2.false)) (λ i. omega (arith, image i))
    (let q = if1.false in omega arith) (omega (arith, if2.false))
