use native.Mathlib.Omega.{arith}
use Prim.Native.Nat.{ℕ}
use mathlib.Core.Path.{ap, ◌∙◌}
use Rattle.lists.specs.Sizes.{touched-few}
use Rattle.meaning.specs.Layout.{round_up, granule_sectors}
use Rattle.layout.proofs.Disk.directory_granules.Goals as goal

pub returns : goal.returns
returns c = let e = c.directory_sectors.ensures in let w = c.granule_sectors-w.ensures in
    let q = ap (round_up c.directory_sectors.result) w.is ∙ ap (λ (n : ℕ). round_up n (granule_sectors c.args.self.now.g)) e in
    record { is = q; small = omega (arith, q, touched-few c.args.self.now.g _ c.args.self.now.room.thirty) }
