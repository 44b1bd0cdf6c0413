use Rattle.std.proofs.Common.{codes, ap, ◌∙◌}
use Rattle.clap.proofs.WalkLemmas.{first_value-rows}
use Rattle.clap.specs.Words.{found_of}
use Rattle.command_words.specs.Numbers.{number_or}
use Rattle.command_words.specs.Readings.{batch_said}
use Rattle.command_words.proofs.command.batch_in.Goals as goal

pub returns : goal.returns
returns c =
    let f = found_of c.args.given.now in
    let workers = c.small_number_or.ensures ∙ ap (number_or 4 1 64) (c.get_str.ensures ∙ first_value-rows f (codes "workers")) in
    let standby = c.get_str-2.ensures ∙ first_value-rows f (codes "standby") in
    c.batch_with.ensures ∙ (λ i. batch_said (c.files_in.ensures i) (workers i) (standby i))
