use Rattle.std.proofs.Common.{codes, ◌∙◌}
use Rattle.clap.proofs.WalkLemmas.{first_value-rows}
use Rattle.clap.specs.Words.{found_of}
use Rattle.command_words.specs.Readings.{dossier_said}
use Rattle.command_words.proofs.command.dossier_in.Goals as goal

pub returns : goal.returns
returns c =
    let f = found_of c.args.given.now in
    let user = c.get_str.ensures ∙ first_value-rows f (codes "user") in
    c.dossier_with.ensures ∙ (λ i. dossier_said (c.files_in.ensures i) (user i))
