use Rattle.std.proofs.Common.{◌≡◌, true, sym, subst}
use Rattle.cqe_base.specs.Formula.{formula_of, is_sentence_of}
use Rattle.open_queries.specs.Memory.{open_query}
use Rattle.open_queries.proofs.Filled.{says_of}
use Rattle.open_queries.proofs.Printed.{instance_is_sentence, reads_back}
use Rattle.open_queries.proofs.list.OpenList.instance.Goals as goal

pub returns-in_err-instance-clause-truth : goal.returns-in_err-instance-clause-truth
returns-in_err-instance-clause-truth c = says_of c.args.schema.now _ (formula_of c.args.self.now.body)

pub print_sentence-requires : goal.print_sentence-requires
print_sentence-requires c =
    subst (λ a. is_sentence_of c.args.schema.now a ≡ true) (sym c.in_ok-instance.ensures)
    (instance_is_sentence c.args.schema.now (open_query c.args.self.now) c.args.number c.requires.of_schema c.requires.number)

pub returns-clause-read_back : goal.returns-clause-read_back
returns-clause-read_back c = reads_back c.args.schema.now _ _ c.print_sentence.result c.in_ok-instance.ensures c.print_sentence.ensures.read_back

pub returns-clause-truth : goal.returns-clause-truth
returns-clause-truth c = says_of c.args.schema.now _ (formula_of c.args.self.now.body)
