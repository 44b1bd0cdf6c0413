use Rattle.std.proofs.Common.{◌++◌, ap, subst, ◌∙◌}
use Rattle.std.proofs.lemmas.Result.{on_ok_weaker}
use Rattle.outside.specs.Streams.{AppendsPart}
use Rattle.dossier.proofs.writing.write_unserved.Goals as goal

pub returns-clause-whole : goal.returns-clause-whole
returns-clause-whole g c = λ told.
    on_ok_weaker c.write_text.result
    (λ is. is ∙ ap (λ t. g.K.Sink.written c.args.sink.now ++ t) (c.deref.ensures ∙ c.in-Ok.ensures)) (c.write_text.ensures.whole told)

pub returns-clause-part : goal.returns-clause-part
returns-clause-part g c = λ told failed.
    subst (AppendsPart (g.K.Sink.written c.args.sink.now) (g.K.Sink.written c.write_text.new.sink)) (c.deref.ensures ∙ c.in-Ok.ensures)
    (c.write_text.ensures.part told failed)

pub returns-clause-nothing : goal.returns-clause-nothing
returns-clause-nothing g c = λ is. absurd (c.write_text.ensures.never is)
