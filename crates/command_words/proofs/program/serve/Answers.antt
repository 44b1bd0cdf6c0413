use Rattle.std.proofs.Common.{ap₂, ◌∙◌}
use Rattle.clap.specs.Words.{with_rule}
use Rattle.command_words.proofs.program.serve.Goals as goal

pub returns-clause-shape : goal.returns-clause-shape
returns-clause-shape c =
    let listen = c.in_ok-arg.ensures.shape c.needed-listen.ensures.plain ∙ ap₂ with_rule c.in_ok-files.ensures.shape c.needed-listen.ensures.rule in
    let workers = c.in_ok-arg-2.ensures.shape c.optional-workers.ensures.plain ∙ ap₂ with_rule listen c.optional-workers.ensures.rule in
    let sessions = c.in_ok-arg-3.ensures.shape c.optional-sessions.ensures.plain ∙ ap₂ with_rule workers c.optional-sessions.ensures.rule in
    c.in_ok-command.ensures.shape c.optional-standby.ensures.plain ∙ ap₂ with_rule sessions c.optional-standby.ensures.rule
