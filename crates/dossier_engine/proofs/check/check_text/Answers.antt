use Rattle.std.proofs.Common.{string_bytes, sym, subst, ◌∙◌}
use Rattle.cqe_base.specs.History.{profile_of}
use Rattle.dossier_engine.specs.Said.{EndsText, JudgesText}
use Rattle.dossier_engine.proofs.Checking.{said_so, refused_so, accepted_so, judged_so, no_read, no_write}
use Rattle.dossier_engine.proofs.check.check_text.Goals as goal

pub returns-in-Ok-clause-ends : goal.returns-in-Ok-clause-ends
returns-in-Ok-clause-ends g c = λ told.
    said_so c.args.schema.now c.args.world.now (string_bytes c.args.user.now.name) (profile_of c.args.user.now) c.args.text.now c.in-Ok.count
    c.in-Ok.ensures.accepted c.say_sound.result (g.K.Sink.written c.args.sink.now) (g.K.Sink.written c.say_sound.new.sink) (c.say_sound.ensures.said told)

pub returns-in-Ok-clause-judged : goal.returns-in-Ok-clause-judged
returns-in-Ok-clause-judged g c =
    accepted_so c.args.schema.now c.args.world.now (string_bytes c.args.user.now.name) (profile_of c.args.user.now) c.args.text.now c.in-Ok.count
    c.in-Ok.ensures.accepted c.say_sound.result c.say_sound.ensures.silent

pub returns-in-Err-clause-judged : goal.returns-in-Err-clause-judged
returns-in-Err-clause-judged g c =
    subst (λ end. JudgesText c.args.schema.now c.args.world.now (string_bytes c.args.user.now.name) (profile_of c.args.user.now) c.args.text.now end)
    (sym c.refused_end.ensures)
    (judged_so c.args.schema.now c.args.world.now (string_bytes c.args.user.now.name) (profile_of c.args.user.now) c.args.text.now c.in-Err.why
    c.in-Err.ensures.check)

pub returns-in-Ok-clause-silent : goal.returns-in-Ok-clause-silent
returns-in-Ok-clause-silent g c = λ is. absurd (c.say_sound.ensures.silent is)

pub returns-in-Err-clause-ends : goal.returns-in-Err-clause-ends
returns-in-Err-clause-ends g c = λ told.
    let old = g.K.Sink.written c.args.sink.now in
    subst (λ end. EndsText c.args.schema.now c.args.world.now (string_bytes c.args.user.now.name) (profile_of c.args.user.now) c.args.text.now end old old)
    (sym c.refused_end.ensures)
    (refused_so c.args.schema.now c.args.world.now (string_bytes c.args.user.now.name) (profile_of c.args.user.now) c.args.text.now c.in-Err.why
    c.in-Err.ensures.check old)

pub returns-in-Err-clause-no_read : goal.returns-in-Err-clause-no_read
returns-in-Err-clause-no_read g c = λ is. no_read c.in-Err.why (sym c.refused_end.ensures ∙ is)

pub returns-in-Err-clause-write_cause : goal.returns-in-Err-clause-write_cause
returns-in-Err-clause-write_cause g c = λ is. no_write c.in-Err.why (sym c.refused_end.ensures ∙ is)
