use Rattle.std.proofs.Common.{codes, ◌∙◌}
use Rattle.clap.proofs.WalkLemmas.{first_value-rows}
use Rattle.clap.specs.Words.{found_of}
use Rattle.command_words.specs.Readings.{check_said}
use Rattle.command_words.proofs.command.check_in.Goals as goal

pub returns : goal.returns
returns c =
    let f = found_of c.args.given.now in
    let policy = c.get_str.ensures ∙ first_value-rows f (codes "policy") in
    let facts = c.get_str-2.ensures ∙ first_value-rows f (codes "facts") in
    let user = c.get_str-3.ensures ∙ first_value-rows f (codes "user") in
    c.check_with.ensures ∙ (λ i. check_said (policy i) (facts i) (user i))
