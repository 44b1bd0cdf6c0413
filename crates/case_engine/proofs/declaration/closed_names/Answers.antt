use Rattle.std.proofs.Common.{◌≡◌, ◌-◌, length, take, map, sym, ◌∙◌, arith}
use Rattle.std.specs.Prelude.{option_map}
use Rattle.std.proofs.lemmas.Grind.{common_steps}
use Rattle.sentence_text.specs.Upcoming.{token_of}
use Rattle.case_engine.specs.Statements.{names_or_none}
use Rattle.case_engine.specs.Memory.{names_in}
use Rattle.case_engine.proofs.Closing.{closed_names-in}
use Rattle.case_engine.proofs.declaration.closed_names.Goals as goal

pub returns-in_ok-names : goal.returns-in_ok-names
returns-in_ok-names c =
    let tokens = c.args.tokens.now in
    let found : option_map names_in c.in_ok-names.names ≡ names_or_none (map token_of (take (length tokens - 1) tokens)) =
    grind (arith, common_steps, c.in_ok-names.ensures) in
    closed_names-in tokens _ (sym c.is_closed.ensures ∙ c.if-is_closed.true) found
