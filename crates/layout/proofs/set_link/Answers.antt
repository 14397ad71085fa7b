use mathlib.Core.List.{List}
use mathlib.Core.Path.{ap, ◌∙◌}
use Prim.Native.Nat.{ℕ}
use Rattle.meaning.specs.Layout.{set_field}
use Rattle.layout.proofs.set_link.Goals as goal

pub returns : goal.returns
returns c = let a = c.args in c.set_field-2.ensures
    ∙ ap (λ (d : List ℕ). set_field a.g d a.s 0x1f a.link) c.set_field.ensures
