use Rattle.sentence_text.proofs.Clauses.{is_read, is_derived, is_of_schema, is_refused, is_of_table, isnt_refused}
use Rattle.sentence_text.proofs.parser.read_sentence.Goals as goal

pub returns-clause-read : goal.returns-clause-read
returns-clause-read c = is_read c.args.schema.now c.args.text.now c.read_exactly.result c.read_exactly.ensures

pub returns-clause-derived : goal.returns-clause-derived
returns-clause-derived c = is_derived c.args.schema.now c.args.text.now c.read_exactly.result c.read_exactly.ensures c.law_reading.ensures.derived

pub returns-clause-of_schema : goal.returns-clause-of_schema
returns-clause-of_schema c = is_of_schema c.args.schema.now c.args.text.now c.read_exactly.result c.read_exactly.ensures c.law_reading.ensures.of_schema

pub returns-clause-refused : goal.returns-clause-refused
returns-clause-refused c = is_refused c.args.schema.now c.args.text.now c.read_exactly.result c.read_exactly.ensures

pub returns-clause-complete : goal.returns-clause-complete
returns-clause-complete c = λ a is. isnt_refused c.args.schema.now c.args.text.now c.read_exactly.result c.read_exactly.ensures a is

pub returns-clause-table : goal.returns-clause-table
returns-clause-table c = is_of_table c.args.schema.now c.args.text.now c.read_exactly.result c.read_exactly.ensures c.law_refusals.ensures
