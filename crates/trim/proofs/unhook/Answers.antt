use Rattle.meaning.specs.Layout.{hit_at}
use Rattle.meaning.specs.Entries.{set_link}
use Rattle.meaning.specs.Drop.{unhooked}
use Prim.Native.Nat.{ℕ}
use mathlib.Core.Path.{ap, ◌∙◌}
use mathlib.Core.List.{List}
use lib.ListN.{set}
use Rattle.trim.proofs.unhook.Goals as goal

pub returns : goal.returns
unfolding unhooked
returns c = let set-link = c.set_link in let set-hit = c.set_hit in let set-field = c.set_field in let a = c.args in c.set_link-2.ensures
    ∙ ap (λ (d : List ℕ). set_link a.g d a.before 0xff 0xff)
    (set-link.ensures
    ∙ ap (λ (d : List ℕ). set_link a.g d a.e 0xff 0xff)
    (set-hit.ensures ∙ ap (λ (d : List ℕ). set d (hit_at a.g a.e) 0)
    set-field.ensures))
