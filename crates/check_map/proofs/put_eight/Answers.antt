use Prim.Native.Nat.{◌+◌, ◌-◌}
use Rattle.check_map.proofs.Window.{eight-stored}
use native.Mathlib.Omega.{arith}
use mathlib.Core.Path.{◌∙◌}
use Rattle.check_map.proofs.put_eight.Goals as goal

pub returns : goal.returns
returns c = let a = c.args in
    eight-stored a.map.now a.at (a.at + 8 - a.at) a.x (omega arith) (omega arith) (c.copy_from_slice.ensures.after ∙ c.to_le_bytes.ensures)
