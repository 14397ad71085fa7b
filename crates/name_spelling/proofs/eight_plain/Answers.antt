use Rattle.name_spelling.proofs.Padded.{eight-each}
use Rattle.name_spelling.specs.Plain.{plain}
use mathlib.Core.Path.{sym}
use Rattle.name_spelling.proofs.eight_plain.Goals as goal

pub returns : goal.returns
returns c = let plain6 = c.plain-6 in let plain5 = c.plain-5 in let plain4 = c.plain-4 in let plain3 = c.plain-3 in let plain2 = c.plain-2 in
    let plain' = c.plain in let a = c.args in let p = c.requires in rw (
      plain'.ensures,
      plain2.ensures,
      plain3.ensures,
      plain4.ensures,
      plain5.ensures,
      plain6.ensures,
      c.plain-7.ensures,
      c.plain-8.ensures,
    ) (sym (eight-each plain a.name.now p))
