use Rattle.std.proofs.Common.{ap, ap₂, ◌∙◌}
use Rattle.clap.specs.Words.{App, app_of, with_subcommand}
use Rattle.command_words.proofs.program.with_last.Goals as goal

pub returns : goal.returns
returns c =
    let dossier =
    c.in_ok-subcommand.ensures.shape c.in_ok-dossier.ensures.plain
    ∙ ap (with_subcommand (app_of c.args.first)) (ap (λ (a : App). a.top) c.in_ok-dossier.ensures.shape) in
    let check =
    c.in_ok-subcommand-2.ensures.shape c.in_ok-check.ensures.plain ∙ ap₂ with_subcommand dossier (ap (λ (a : App). a.top) c.in_ok-check.ensures.shape) in
    c.in_ok-all.ensures.shape c.in_ok-standby.ensures.plain ∙ ap₂ with_subcommand check (ap (λ (a : App). a.top) c.in_ok-standby.ensures.shape)
