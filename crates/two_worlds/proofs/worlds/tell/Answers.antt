use Rattle.std.proofs.Common.{true, false, arith}
use Rattle.std.proofs.lemmas.Result.{on_ok_weaker}
use Rattle.cqe_base.specs.Formula.{formula_of}
use Rattle.entailment.specs.Views.{schema_of, log_of}
use Rattle.two_worlds.proofs.Told.{nodes_added}
use Rattle.two_worlds.proofs.worlds.tell.Goals as goal

pub returns-in-Yes-clause-nodes : goal.returns-in-Yes-clause-nodes
returns-in-Yes-clause-nodes c =
    let view = c.args.view.now in
    let room = c.requires.room in
    on_ok_weaker c.add.result
    (λ grown. nodes_added (schema_of view) (schema_of c.add.new.self) (log_of view) (log_of c.add.new.self)
    (formula_of c.args.entry.now.query, true) c.add.ensures.schema grown (omega (arith, room)))
    c.add.ensures.added

pub returns-in-No-clause-nodes : goal.returns-in-No-clause-nodes
returns-in-No-clause-nodes c =
    let view = c.args.view.now in
    on_ok_weaker c.add-in-No.result
    (λ grown. nodes_added (schema_of view) (schema_of c.add-in-No.new.self) (log_of view) (log_of c.add-in-No.new.self)
    (formula_of c.args.entry.now.query, false) c.add-in-No.ensures.schema grown c.requires.room)
    c.add-in-No.ensures.added
