use Rattle.std.proofs.Common.{codes, ap, ◌∙◌}
use Rattle.clap.proofs.WalkLemmas.{first_value-rows}
use Rattle.clap.specs.Words.{found_of}
use Rattle.command_words.specs.Numbers.{number_from}
use Rattle.command_words.specs.Readings.{selfrun_said}
use Rattle.command_words.proofs.command.selfrun_in.Goals as goal

pub returns : goal.returns
returns c =
    let f = found_of c.args.given.now in
    let seed = c.number_from.ensures ∙ ap (number_from 0 4294967295) (c.get_str.ensures ∙ first_value-rows f (codes "seed")) in
    let users = c.small_number_from.ensures ∙ ap (number_from 1 256) (c.get_str-2.ensures ∙ first_value-rows f (codes "users")) in
    let asks = c.small_number_from-2.ensures ∙ ap (number_from 1 10000) (c.get_str-3.ensures ∙ first_value-rows f (codes "asks")) in
    c.selfrun_with.ensures ∙ (λ i. selfrun_said (seed i) (users i) (asks i))
