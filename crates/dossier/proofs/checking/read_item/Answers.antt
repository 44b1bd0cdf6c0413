use Rattle.std.proofs.Common.{ap, rules, tests}
use Rattle.std.proofs.lemmas.Slice.Eq.{bytes_eq-Decides}
use Rattle.dossier.specs.Logs.{past_schema, past_user, past_history}
use Rattle.dossier.specs.Reading.{answer, field_said}
use Rattle.dossier.proofs.ItemLines.{item-other}
use Rattle.dossier.proofs.checking.read_item.Goals as goal

-- the line says that it is an ask's
pub read_ask-requires-clause-ask : goal.read_ask-requires-clause-ask
read_ask-requires-clause-ask c = (bytes_eq-Decides _ _).0 (search (rules, tests))

-- or an addition's
pub read_protect-requires-clause-protect : goal.read_protect-requires-clause-protect
read_protect-requires-clause-protect c = (bytes_eq-Decides _ _).0 (search (rules, tests))

pub returns-then-adds-clause-reads : goal.returns-then-adds-clause-reads
returns-then-adds-clause-reads c name = c.read_protect.ensures.reads c.args.world.now name

-- or none's
pub returns-else-adds-clause-reads : goal.returns-else-adds-clause-reads
returns-else-adds-clause-reads c name =
    ap (λ x. answer (past_schema c.args.past.now) c.args.world.now name (past_user c.args.past.now) x c.args.lines.now)
    (item-other (past_schema c.args.past.now) c.args.world.now name (past_user c.args.past.now) (field_said c.args.field.now)
    (past_history c.args.past.now) (search (rules, tests)) (search (rules, tests)) c.requires.not_done)
