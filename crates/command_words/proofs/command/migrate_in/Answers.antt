use Rattle.std.proofs.Common.{codes, ◌∙◌}
use Rattle.clap.proofs.WalkLemmas.{first_value-rows}
use Rattle.clap.specs.Words.{found_of}
use Rattle.command_words.specs.Readings.{migrate_said}
use Rattle.command_words.proofs.command.migrate_in.Goals as goal

pub returns : goal.returns
returns c =
    let f = found_of c.args.given.now in
    let to = c.get_str.ensures ∙ first_value-rows f (codes "to") in
    c.migrate_with.ensures ∙ (λ i. migrate_said (c.files_in.ensures i) (to i))
