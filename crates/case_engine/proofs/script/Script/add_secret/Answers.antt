use Rattle.std.proofs.Common.{arith}
use Rattle.std.proofs.lemmas.Grind.{common_steps}
use Rattle.cqe_base.specs.Formula.{formula_of}
use Rattle.case_engine.specs.ScriptsRead.{script_is}
use Rattle.case_engine.proofs.Refusing.{secret_refused}
use Rattle.case_engine.proofs.script.Script.add_secret.Goals as goal

pub returns-then-not-keeps_limits-clause-refused : goal.returns-then-not-keeps_limits-clause-refused
returns-then-not-keeps_limits-clause-refused c =
    let counted = c.nodes-count.ensures in
    let summed = c.saturating_add-view_nodes.ensures in
    secret_refused (script_is c.args.self.now) c.args.self.now.schema c.args.self.now.view_nodes c.nodes-count.result c.saturating_add-view_nodes.result
    (formula_of c.in_ok-sentence.sentence) c.args.self.now.sound (λ few. omega (arith, counted, few))
    (λ many. omega (arith, counted, many)) c.law_views_without_entries.ensures
    _ c.in_ok-sentence.ensures.read (grind (arith, common_steps, summed, counted, c.saturating_add.ensures))
    (grind (arith, common_steps, c.keeps_limits.ensures, c.secret_count.ensures.count, c.if-not-keeps_limits.true))
