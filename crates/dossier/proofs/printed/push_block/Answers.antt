use Rattle.std.proofs.Common.{◌≡◌, ◌++◌, true, Some, inl, inr, refl, sym, subst}
use Rattle.std.specs.List.{list_all}
use Rattle.std.proofs.lemmas.Result.{on_ok_weaker}
use Rattle.cqe_base.specs.Facts.{IsWorldOf}
use Rattle.cqe_base.specs.Refutation.{is_refutation}
use Rattle.cqe_base.specs.Entailment.{IsCountermodel}
use Rattle.cqe_base.specs.Machine.{Refuted}
use Rattle.clause_store.specs.PlainLines.{lines_of}
use Rattle.entailment.specs.Views.{schema_of, log_of}
use Rattle.entailment.specs.Probes.{premise_of, goal_of}
use Rattle.entailment.specs.Small.{is_small_line}
use Rattle.entailment.specs.Certificates.{clauses_of_probe}
use Rattle.entailment.specs.Verdicts.{end_of_probe, verdict_of_probe}
use Rattle.entailment.specs.declared.probes.Verdict.TheVariants.{Open}
use Rattle.dossier.specs.Written.{follows_text}
use Rattle.dossier.proofs.Opened.{end-shown, world-shown, found-few, open-listed}
use Rattle.dossier.proofs.printed.push_block.Goals as goal

-- a refutation
pub returns-in-Follows-clause-block : goal.returns-in-Follows-clause-block
returns-in-Follows-clause-block c =
    let view = c.args.view.now in
    let probe = c.args.probe.now in
    let premises = log_of view ++ premise_of probe in
    let lines = lines_of c.in-Follows.refutation in
    let right : is_refutation (clauses_of_probe (schema_of view) premises (goal_of probe)) lines ≡ true =
    rw c.in-Follows.is at c.in_ok-refutation.ensures.right in
    let here : is_refutation (clauses_of_probe c.args.schema.now premises (goal_of probe)) lines ≡ true =
    subst (λ s. is_refutation (clauses_of_probe s premises (goal_of probe)) lines ≡ true) c.requires.schema right in
    let found : end_of_probe (schema_of view) premises (goal_of probe) c.args.budget ≡ Some (Refuted lines) =
    rw c.in-Follows.is at c.in_ok-refutation.ensures.lines in
    let machines : end_of_probe c.args.schema.now premises (goal_of probe) c.args.budget ≡ Some (Refuted lines) =
    subst (λ s. end_of_probe s premises (goal_of probe) c.args.budget ≡ Some (Refuted lines)) c.requires.schema found in
    let shown = end-shown c.law_budget_is_whole_cost.ensures c.args.schema.now premises (goal_of probe) c.args.budget (Refuted lines) (follows_text lines)
    machines refl in
    let small : list_all is_small_line lines ≡ true = rw c.in-Follows.is at c.in_ok-refutation.ensures.small in
    on_ok_weaker c.push_follows.result (λ is. (follows_text lines, (inr (lines, here, small, refl), shown), is)) c.push_follows.ensures

-- a world
pub push_world-requires : goal.push_world-requires
push_world-requires c =
    let view = c.args.view.now in
    let probe = c.args.probe.now in
    let counter : IsCountermodel (schema_of view) (log_of view ++ premise_of probe) (goal_of probe) c.in-Open.world =
    rw c.in-Open.is at c.in_ok-refutation.ensures.sound in
    subst (λ s. IsWorldOf s c.in-Open.world) c.requires.schema counter.of_schema

pub returns-in-Open-clause-block : goal.returns-in-Open-clause-block
returns-in-Open-clause-block c =
    let view = c.args.view.now in
    let probe = c.args.probe.now in
    let premises = log_of view ++ premise_of probe in
    let world = c.in-Open.world in
    let counter : IsCountermodel (schema_of view) premises (goal_of probe) world = rw c.in-Open.is at c.in_ok-refutation.ensures.sound in
    let here : IsCountermodel c.args.schema.now premises (goal_of probe) world =
    subst (λ s. IsCountermodel s premises (goal_of probe) world) c.requires.schema counter in
    let verdict : Open world ≡ verdict_of_probe (schema_of view) premises (goal_of probe) c.args.budget =
    rw c.in-Open.is at c.in_ok-refutation.ensures.end in
    let machines : Open world ≡ verdict_of_probe c.args.schema.now premises (goal_of probe) c.args.budget =
    subst (λ s. Open world ≡ verdict_of_probe s premises (goal_of probe) c.args.budget) c.requires.schema verdict in
    let few = found-few (schema_of view) (log_of view) (premise_of probe) (goal_of probe) c.law_grounded_nodes.ensures c.law_variables_are_few.ensures
    c.law_numbered_facts_are_few.ensures c.requires.all_nodes c.args.budget world verdict in
    on_ok_weaker c.push_world.result
    (λ grows. (
      grows.0,
      (
        inl (open-listed c.args.schema.now premises (goal_of probe) world grows.0 here few grows.1),
        world-shown c.law_budget_is_whole_cost.ensures c.args.schema.now premises (goal_of probe) c.args.budget world grows.0 machines grows.1,
      ),
      grows.2,
    )) c.push_world.ensures

-- it isn't spent
pub unreachable-requires : goal.unreachable-requires
unreachable-requires c = c.requires.unspent (sym (rw c.in-Spent.is at c.in_ok-refutation.ensures.outcome))
