use Rattle.meaning.specs.Layout.{set_field}
use Rattle.meaning.specs.Bits.{with_bit}
use Prim.Native.Nat.{ℕ, ◌+◌, ◌/◌, ◌%◌}
use mathlib.Core.Path.{ap, ◌∙◌}
use mathlib.Core.List.{List}
use Rattle.write.proofs.put_size.Goals as goal

pub returns : goal.returns
returns c = let set-field3 = c.set_field-3 in let set-field2 = c.set_field-2 in let set-field = c.set_field in let with-bit = c.with_bit-worked in
    let a = c.args in let n = (a.size + 255) / 256 in
    c.set_field-4.ensures
    ∙ ap (λ (d : List ℕ). set_field a.g d a.s 1
    with-bit.result)
    (set-field3.ensures
    ∙ ap (λ (d : List ℕ). set_field a.g d a.s 0x15 (n / 256))
    (set-field2.ensures
    ∙ ap (λ (d : List ℕ). set_field a.g d a.s 0x14 (n % 256))
    set-field.ensures))
    ∙ ap (λ (v : ℕ). set_field a.g (set_field a.g (set_field a.g (set_field a.g a.image.now a.s 3 (a.size % 256)) a.s 0x14 (n % 256))
    a.s 0x15 (n / 256)) a.s 1 v)
    (with-bit.ensures.is
    ∙ ap (with_bit 5) c.entry_byte.ensures.is)
