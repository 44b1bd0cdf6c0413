use Rattle.std.proofs.Common.{◌∙◌, inr}
use Rattle.policy_files.proofs.WorldsKept.{file_of_utf8, file_of_others}
use Rattle.policy_files.proofs.facts.read_facts.Goals as goal

pub returns-in_default-clause-refused : goal.returns-in_default-clause-refused
returns-in_default-clause-refused c = inr (file_of_others c.args.schema.now c.args.bytes.now c.in_default.ensures.cases.0)

pub returns-in-Ok-world_of_lines-clause-read : goal.returns-in-Ok-world_of_lines-clause-read
returns-in-Ok-world_of_lines-clause-read c = file_of_utf8 c.args.schema.now c.args.bytes.now c.in-Ok.ensures.cases.1 ∙ c.in-Ok-world_of_lines.ensures.read

pub returns-in-Ok-world_of_lines-clause-world : goal.returns-in-Ok-world_of_lines-clause-world
returns-in-Ok-world_of_lines-clause-world c =
    c.law_facts_are_worlds.ensures c.args.schema.now c.args.bytes.now c.in-Ok-world_of_lines.world c.known.ensures
    (file_of_utf8 c.args.schema.now c.args.bytes.now c.in-Ok.ensures.cases.1 ∙ c.in-Ok-world_of_lines.ensures.read)

pub returns-in-Err-clause-refused : goal.returns-in-Err-clause-refused
returns-in-Err-clause-refused c = rw (file_of_utf8 c.args.schema.now c.args.bytes.now c.in-Ok.ensures.cases.1) c.in-Err.ensures.refused
