use Rattle.sentence_text.proofs.ByNumber.{no_columns}
use Rattle.sentence_text.proofs.names.column_domains.Goals as goal

pub returns-in-None : goal.returns-in-None
returns-in-None c = no_columns c.relations.result.now c.args.schema.now c.args.relation c.relations.ensures c.in-None.ensures.lookup.3
