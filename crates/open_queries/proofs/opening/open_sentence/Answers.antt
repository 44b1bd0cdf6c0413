use Rattle.std.proofs.Common.{◌≡◌, ◌∙◌, ap, arith}
use Rattle.cqe_base.specs.Formula.{formula_of}
use Rattle.open_queries.specs.Instances.{combinations, instances}
use Rattle.open_queries.specs.Opening.{no_quantifiers, too_many, not_asked}
use Rattle.open_queries.specs.Memory.{open_query}
use Rattle.open_queries.proofs.Quantifiers.{opened_of_schema}
use Rattle.open_queries.proofs.opening.open_sentence.Goals as goal

pub returns-in_default-clause-refused : goal.returns-in_default-clause-refused
returns-in_default-clause-refused c = no_quantifiers (rw c.in_default.is at c.in_ok-list.ensures.none)

pub returns-then-combinations-gt-GREATEST_INSTANCES-clause-refused : goal.returns-then-combinations-gt-GREATEST_INSTANCES-clause-refused
returns-then-combinations-gt-GREATEST_INSTANCES-clause-refused c =
    let ways : c.combinations.result ≡ instances c.args.schema.now (open_query c.in-Some.list) =
    c.combinations.ensures.ways ∙ ap (combinations c.args.schema.now) c.as_slice.ensures.value in
    too_many (open_query c.in-Some.list) (rw c.in-Some.is at c.in_ok-list.ensures.opens) (omega arith)

pub can_be_asked-requires : goal.can_be_asked-requires
can_be_asked-requires c =
    let ways : c.combinations.result ≡ instances c.args.schema.now (open_query c.in-Some.list) =
    c.combinations.ensures.ways ∙ ap (combinations c.args.schema.now) c.as_slice.ensures.value in
    opened_of_schema c.args.schema.now c.args.count (formula_of c.args.sentence.now) (open_query c.in-Some.list) c.requires.some c.requires.few
    c.requires.of_schema (rw c.in-Some.is at c.in_ok-list.ensures.opens) (omega arith)

pub returns-then-not-branch-clause-refused : goal.returns-then-not-branch-clause-refused
returns-then-not-branch-clause-refused c =
    let ways : c.combinations.result ≡ instances c.args.schema.now (open_query c.in-Some.list) =
    c.combinations.ensures.ways ∙ ap (combinations c.args.schema.now) c.as_slice.ensures.value in
    let one = c.in_ok-can_be_asked.ensures.one c.if-not-branch.true in
    not_asked (open_query c.in-Some.list) (rw c.in-Some.is at c.in_ok-list.ensures.opens) (omega arith) one.0 one.1 one.2

pub returns-clause-list : goal.returns-clause-list
returns-clause-list c =
    let ways : c.combinations.result ≡ instances c.args.schema.now (open_query c.in-Some.list) =
    c.combinations.ensures.ways ∙ ap (combinations c.args.schema.now) c.as_slice.ensures.value in
    opened_of_schema c.args.schema.now c.args.count (formula_of c.args.sentence.now) (open_query c.in-Some.list) c.requires.some c.requires.few
    c.requires.of_schema (rw c.in-Some.is at c.in_ok-list.ensures.opens) (omega arith)
