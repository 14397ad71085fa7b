use Prim.Native.Nat.{ℕ, ◌+◌, ◌*◌, ◌/◌, ◌%◌, ◌^◌, ◌<◌, ◌≤◌}
use Rattle.meaning.specs.declared.Geometry.{Geometry}
use Rattle.layout.specs.Granule.{Bytes}
use native.Mathlib.Nat.{mul-le-mul, mod-lt}
use native.Mathlib.Omega.{arith}
use lib.ListN.{get_or}
use mathlib.Core.Path.{ap, ◌∙◌}
use Rattle.lists.specs.Sizes.{width-lt}
use Rattle.meaning.specs.Chain.{owned, place}
use Rattle.seek.proofs.place.Goals as goal

-- a position below 2²⁴ lies in one of 2¹⁶ granules, whatever a granule's size
in-granule : {g : Geometry} {w i : ℕ} → Bytes g w → i < 16777216 → i / w < 65536
in-granule {g} {w} {i} b h = width-lt (omega (arith, b.some)) i 65536 (omega (arith, b.some))

in_image : {g : Geometry} {w i r : ℕ} → Bytes g w → i < 16777216 → r ≤ i / w + 2080 → w * r + i % w < 2 ^ 32
in_image {g} {w} {i} {r} b h k =
    let q : r ≤ 67615 = omega (arith, in-granule b h) in
    let p : 0 < w = omega (arith, b.some) in
    omega (arith, b.few, mod-lt i p, mul-le-mul b.few q)

pub overflow_mul-result : goal.overflow_mul-result
overflow_mul-result c = omega (arith, in_image c.granule_bytes-w.ensures c.requires.2 c.owned_at.ensures.1)

pub overflow_add-result : goal.overflow_add-result
overflow_add-result c = omega (arith, in_image c.granule_bytes-w.ensures c.requires.2 c.owned_at.ensures.1)

pub returns : goal.returns
unfolding place
returns c = let a = c.args in let w = c.granule_bytes-w in ap (λ (n : ℕ). w.result * n + a.i % w.result) c.owned_at.ensures.0 ∙ ap
    (λ (v : ℕ). v * get_or (owned a.disk.now.g a.disk.now.image.now a.s) (a.i / v) 0 + a.i % v) w.ensures.is
