use mathlib.Core.Path.{refl}
use Rattle.compare.proofs.Under.{unlike-is}
use Rattle.compare.proofs.unlike.Goals as goal

pub parting_at-at-requires : goal.parting_at-at-requires
parting_at-at-requires c =
    let p = c.requires in
    (p.0, p.1, p.2, p.3, c.size_of-n.ensures.is, c.size_of-m.ensures.is, c.size_of-n.ensures.small, c.size_of-m.ensures.small)

pub returns : goal.returns
returns c = let a = c.args in unlike-is a.first.now.g a.first.now.image.now a.second.now.g a.second.now.image.now a.s a.t c.none.ensures
    c.name_of.ensures
    c.size_of-n.ensures.is
    c.size_of-m.ensures.is
    c.parting_at-at.ensures
    c.contents_differ-contents.ensures refl c.dates_differ-date.ensures
    c.others_differ-other.ensures c.kind_of-kind.ensures
