use mathlib.Core.Path.{refl, ap, ◌∙◌}
use Rattle.meaning.specs.Layout.{byte}
use Rattle.growth.proofs.Put.{extension-put, stored, not-stored}
use mathlib.Core.Bool.{not}
use Rattle.growth.proofs.put_extension.Goals as goal

pub returns-then-not-writes : goal.returns-then-not-writes
returns-then-not-writes c = not-stored (λ l. l) c.args.writes _ _ _ (ap not c.if-not-writes.true) refl

pub returns : goal.returns
returns c = let a = c.args in let link = c.set_link.ensures in stored (λ l. l) a.writes _ _ _ (ap not c.if-not-writes.false)
    (extension-put a.g a.p a.image.now a.e a.x
    (c.from-hash.ensures
    ∙ ap (byte a.image.now) c.hit_at.ensures) link
    c.put.ensures)
