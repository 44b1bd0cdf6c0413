use Rattle.std.proofs.Common.{length, sym, ap, arith, subst}
use Rattle.std.specs.Prelude.{IsUtf8}
use Rattle.policy_files.specs.LinesRead.{line_of}
use Rattle.policy_files.proofs.WorldsKept.{no_fact}
use Rattle.policy_files.proofs.facts.fact_of_line.Goals as goal

pub returns-in_default-clause-found : goal.returns-in_default-clause-found
returns-in_default-clause-found c =
    sym (no_fact c.law_sentences_are_ascii.ensures c.args.schema.now (line_of c.args.line.now)
    (λ good. c.in_default.ensures.cases.0 (subst IsUtf8 (sym c.content.ensures.content) good)))

pub stated_fact-requires : goal.stated_fact-requires
stated_fact-requires c = omega (arith, ap length c.in-Ok.ensures.cases.0, c.content.ensures.short, c.if-line-gt-LINE.false)
