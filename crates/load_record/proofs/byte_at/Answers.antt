use Rattle.load_record.proofs.Bytes.{byte_fits, byte-is}
use Rattle.meaning.specs.Layout.{byte}
use mathlib.Core.Path.{ap, ◌∙◌}
use Prim.Native.Nat.{ℕ}
use native.Mathlib.Omega.{arith}
use Rattle.load_record.proofs.byte_at.Goals as goal

pub bounds-disk-place : goal.bounds-disk-place
bounds-disk-place c = let q = byte_fits _ _ _ c.requires.0 _ c.requires.1 in
    omega (arith, q, c.place.ensures)

pub returns : goal.returns
returns c = let a = c.args in record {
  is = c.from.ensures ∙ ap (λ (k : ℕ). byte a.disk.now.image.now k) c.place.ensures ∙ byte-is _ _ _
      c.requires.0 _ c.requires.1;
  small = omega (arith, c.from.ensures);
}
