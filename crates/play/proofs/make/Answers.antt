use Rattle.play_session.specs.Playing.{made}
use mathlib.Core.Path.{sym, ap, ◌∙◌}
use Rattle.play.proofs.make.Goals as goal

pub returns-in-Create : goal.returns-in-Create
unfolding made
returns-in-Create c = let a = c.args in c.create_file.ensures ∙ sym (ap (made a.g a.image.now a.name) c.in-Create.is)

pub returns-in-SequentialWrite : goal.returns-in-SequentialWrite
unfolding made
returns-in-SequentialWrite c = let a = c.args in c.write_fill.ensures ∙ sym (ap (made a.g a.image.now a.name) c.in-SequentialWrite.is)

pub returns-in-RandomWrite : goal.returns-in-RandomWrite
unfolding made
returns-in-RandomWrite c = let a = c.args in c.write_fill-in-RandomWrite.ensures ∙ sym (ap (made a.g a.image.now a.name) c.in-RandomWrite.is)

pub returns-in-Allot : goal.returns-in-Allot
unfolding made
returns-in-Allot c = let a = c.args in c.allot_to.ensures ∙ sym (ap (made a.g a.image.now a.name) c.in-Allot.is)

pub returns-in-Trim : goal.returns-in-Trim
unfolding made
returns-in-Trim c = let a = c.args in c.trim_file.ensures ∙ sym (ap (made a.g a.image.now a.name) c.in-Trim.is)

pub returns-in-Kill : goal.returns-in-Kill
unfolding made
returns-in-Kill c = let a = c.args in c.kill_file.ensures ∙ sym (ap (made a.g a.image.now a.name) c.in-Kill.is)

pub returns-in-Read : goal.returns-in-Read
unfolding made
returns-in-Read c = let a = c.args in c.read_through.ensures ∙ sym (ap (made a.g a.image.now a.name) c.in-Read.is)
