use Rattle.std.proofs.Common.{◌≤◌, length, sym, ap, ◌∙◌, arith}
use Rattle.std.proofs.lemmas.Bool.Decides.{nat_tests}
use Rattle.cqe_base.specs.Formula.{formula_of}
use Rattle.user_desk.specs.Causes.{is_beyond}
use Rattle.dossier.specs.Logs.{past_schema, past_user, past_history}
use Rattle.dossier.proofs.Asks.{too-long, beyond, within}
use Rattle.dossier.proofs.past.Past.sentence_in.Goals as goal

pub returns-then-is_long : goal.returns-then-is_long
returns-then-is_long c =
    let self = c.args.self.now in
    too-long (past_schema self) (past_user self) (past_history self) c.args.purpose c.args.text.now (sym c.is_long.ensures ∙ c.if-is_long.true)

pub returns-then-is_beyond : goal.returns-then-is_beyond
returns-then-is_beyond c =
    let self = c.args.self.now in
    let query = formula_of c.in-Ok.sentence in
    let short : length c.args.text.now ≤ 4096 = grind (arith, nat_tests) in
    beyond (past_schema self) (past_user self) (past_history self) c.args.purpose c.args.text.now short query c.in-Ok.ensures.read
    (ap (λ n. is_beyond (past_schema self) (past_user self) (past_history self) c.args.purpose n query) (sym c.size_of-length.ensures)
    ∙ sym c.is_beyond.ensures ∙ c.if-is_beyond.true)

pub returns : goal.returns
returns c =
    let self = c.args.self.now in
    let query = formula_of c.in-Ok.sentence in
    let short : length c.args.text.now ≤ 4096 = grind (arith, nat_tests) in
    within (past_schema self) (past_user self) (past_history self) c.args.purpose c.args.text.now short query c.in-Ok.ensures.read
    (ap (λ n. is_beyond (past_schema self) (past_user self) (past_history self) c.args.purpose n query) (sym c.size_of-length.ensures)
    ∙ sym c.is_beyond.ensures ∙ c.if-is_beyond.false)
