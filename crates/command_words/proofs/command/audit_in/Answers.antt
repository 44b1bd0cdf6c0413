use Rattle.std.proofs.Common.{codes, ap, ◌∙◌}
use Rattle.clap.proofs.WalkLemmas.{first_value-rows}
use Rattle.clap.specs.Words.{found_of}
use Rattle.command_words.specs.Readings.{audit_said}
use Rattle.command_words.specs.Matched.{says_true}
use Rattle.command_words.proofs.command.audit_in.Goals as goal

pub returns : goal.returns
returns c =
    let f = found_of c.args.given.now in
    let user = c.get_str.ensures ∙ first_value-rows f (codes "user") in
    let json = c.get_str-2.ensures ∙ first_value-rows f (codes "json") in
    let is_json = c.says_true.ensures in
    c.audit_with.ensures ∙ (λ i. audit_said (c.files_in.ensures i) (user i) (is_json i)) ∙ ap (audit_said _ _) (ap says_true json)
