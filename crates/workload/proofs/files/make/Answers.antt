use Rattle.std.proofs.Common.{◌≡◌, ◌∙◌, ◌+◌, ◌*◌, arith, ap, sym, subst, IsUtf8, string_bytes, rules}
use Rattle.std.proofs.lemmas.Str.{IsUtf8-string_bytes}
use Rattle.workload.specs.Statements.{facts_text, statements}
use Rattle.workload.specs.Stated.{stated_facts}
use Rattle.workload.proofs.Lining.{lines_state, within}
use Rattle.workload.proofs.Worlds.{file_reads}
use Rattle.batch_engine.specs.BatchLines.{batch_of}
use Rattle.workload.specs.Questions.{script_lines}
use Rattle.workload.proofs.Asks.{script_reads}
use Rattle.workload.proofs.files.make.Goals as goal

pub returns-clause-stated : goal.returns-clause-stated
returns-clause-stated c =
    let same : c.into_bytes-2.result.items ≡ facts_text (statements c.args.seed) = search rules in
    ap stated_facts same ∙ lines_state c.law_canonical_forms_read.ensures (statements c.args.seed) (within c.args.seed)

pub returns-clause-read : goal.returns-clause-read
returns-clause-read c =
    let same : c.into_bytes-2.result.items ≡ facts_text (statements c.args.seed) = search rules in
    let text : c.into_bytes-2.result.items ≡ string_bytes c.in_ok-facts.facts = search rules in
    file_reads c.law_canonical_forms_read.ensures c.args.seed c.into_bytes-2.result.items same
    (subst (λ b. IsUtf8 b) (sym text) (IsUtf8-string_bytes c.in_ok-facts.facts))

pub returns-clause-asks : goal.returns-clause-asks
returns-clause-asks c =
    let same : c.into_bytes-3.result.items ≡ script_lines c.args.seed (620 + 3 * c.args.users) c.args.users c.args.asks = search rules in
    ap batch_of same ∙ script_reads c.args.seed c.args.users (omega (arith, c.requires.some_user)) c.requires.few_users c.args.asks c.requires.few_asks
