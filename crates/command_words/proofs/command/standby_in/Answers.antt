use Rattle.std.proofs.Common.{codes, ap, ◌∙◌}
use Rattle.clap.proofs.WalkLemmas.{first_value-rows}
use Rattle.clap.specs.Words.{found_of}
use Rattle.command_words.specs.Numbers.{number_or}
use Rattle.command_words.specs.Readings.{standby_said}
use Rattle.command_words.proofs.command.standby_in.Goals as goal

pub returns : goal.returns
returns c =
    let f = found_of c.args.given.now in
    let listen = c.get_str.ensures ∙ first_value-rows f (codes "listen") in
    let sessions = c.number_or.ensures ∙ ap (number_or 1073741824 1 1000000) (c.get_str-2.ensures ∙ first_value-rows f (codes "sessions")) in
    c.standby_with.ensures ∙ (λ i. standby_said (c.files_in.ensures i) (listen i) (sessions i))
