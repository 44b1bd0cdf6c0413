use Rattle.std.proofs.Common.{true, ap, ap₂, ◌∙◌}
use Rattle.clap.specs.Words.{App, with_subcommand}
use Rattle.clap.specs.Simple.{app_of_fields, on_top}
use Rattle.clap.specs.declared.builder.command.Command.{Command}
use Rattle.clap.specs.declared.builder.command.Command.TheOpen.{Command-F}
use Rattle.command_words.specs.Matched.{with_last, with_settings}
use Rattle.command_words.proofs.program.program.Goals as goal

pub returns : goal.returns
returns c =
    let one = ap (λ (f : Command-F Command). record f { disable_help_flag = true }) c.no_binary_name.ensures in
    let two = ap (λ (f : Command-F Command). record f { disable_help_subcommand = true }) (c.disable_help_flag.ensures ∙ one) in
    let three = ap (λ (f : Command-F Command). record f { subcommand_required = true }) (c.disable_help_subcommand.ensures ∙ two) in
    let bare = ap app_of_fields (c.subcommand_required-program.ensures ∙ three) ∙ ap (on_top with_settings) c.new.ensures.app in
    let case = c.in_ok-subcommand.ensures.shape c.new-case.ensures.local ∙ ap₂ with_subcommand bare (ap (λ (a : App). a.top) c.new-case.ensures.app) in
    let init = c.in_ok-subcommand-2.ensures.shape c.in_ok-init.ensures.plain ∙ ap₂ with_subcommand case (ap (λ (a : App). a.top) c.in_ok-init.ensures.shape) in
    let batch =
    c.in_ok-subcommand-3.ensures.shape c.in_ok-batch.ensures.plain ∙ ap₂ with_subcommand init (ap (λ (a : App). a.top) c.in_ok-batch.ensures.shape) in
    let audit =
    c.in_ok-subcommand-4.ensures.shape c.in_ok-audit.ensures.plain ∙ ap₂ with_subcommand batch (ap (λ (a : App). a.top) c.in_ok-audit.ensures.shape) in
    let selfrun =
    c.in_ok-subcommand-5.ensures.shape c.in_ok-selfrun.ensures.plain ∙ ap₂ with_subcommand audit (ap (λ (a : App). a.top) c.in_ok-selfrun.ensures.shape) in
    let serve =
    c.in_ok-subcommand-6.ensures.shape c.in_ok-serve.ensures.plain ∙ ap₂ with_subcommand selfrun (ap (λ (a : App). a.top) c.in_ok-serve.ensures.shape) in
    let migrate =
    c.in_ok-first.ensures.shape c.in_ok-migrate.ensures.plain ∙ ap₂ with_subcommand serve (ap (λ (a : App). a.top) c.in_ok-migrate.ensures.shape) in
    c.in_ok-all.ensures ∙ ap with_last migrate
