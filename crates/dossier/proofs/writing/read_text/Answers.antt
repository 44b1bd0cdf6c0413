use Rattle.std.proofs.Common.{◌≡◌}
use Rattle.std.specs.Prelude.{Some, None}
use Rattle.cqe_base.specs.Formula.{formula_of}
use Rattle.dossier.specs.Checked.{sentence_in}
use Rattle.dossier.specs.Logs.{past_schema, past_user, past_history}
use Rattle.dossier.proofs.Asks.{some-within, none-within}
use Rattle.dossier.proofs.writing.read_text.Goals as goal

pub returns : goal.returns
returns c =
    let past = c.args.past.now in
    let read : Some (formula_of c.in-Some.sentence)
    ≡ sentence_in (past_schema past) (past_user past) (past_history past) c.args.purpose c.args.said.now =
    rw c.in-Some.is at c.in_ok-sentence.ensures in
    (some-within (past_schema past) (past_user past) (past_history past) c.args.purpose c.args.said.now
    (formula_of c.in-Some.sentence) read).1

pub unreachable-requires : goal.unreachable-requires
unreachable-requires c =
    let past = c.args.past.now in
    let none : None ≡ sentence_in (past_schema past) (past_user past) (past_history past) c.args.purpose c.args.said.now =
    rw c.in-None.is at c.in_ok-sentence.ensures in
    none-within (past_schema past) (past_user past) (past_history past) c.args.purpose c.args.said.now c.args.mark c.requires.within none
