use Rattle.std.proofs.Common.{◌≡◌, ◌++◌, false, ◌∙◌, sym, ap, rules, tests, length}
use Rattle.std.specs.Prelude.{codes, nat_lt}
use Rattle.dossier.specs.Words.{short_fact}
use Rattle.dossier.proofs.Listings.{fact-long, fact-short}
use Rattle.dossier.proofs.listed.fact_in.Goals as goal

pub returns-then-is_long-clause-fact : goal.returns-then-is_long-clause-fact
returns-then-is_long-clause-fact c =
    let text : c.deref.result.now ≡ c.args.part.now ++ codes ")" = search (rules, tests) in
    fact-long c.args.schema.now c.deref.result.now (sym c.is_long.ensures ∙ c.if-is_long.true) ∙ ap (short_fact c.args.schema.now) text

pub returns-clause-fact : goal.returns-clause-fact
returns-clause-fact c =
    let text : c.deref-2.result.now ≡ c.args.part.now ++ codes ")" = search (rules, tests) in
    let same : c.deref-2.result.now ≡ c.deref.result.now = search (rules, tests) in
    let short : nat_lt 4096 (length c.deref-2.result.now) ≡ false = ap (λ t. nat_lt 4096 (length t)) same ∙ sym c.is_long.ensures ∙ c.if-is_long.false in
    c.in_ok-fact.ensures.found ∙ fact-short c.args.schema.now c.deref-2.result.now short ∙ ap (short_fact c.args.schema.now) text
