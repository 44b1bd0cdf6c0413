use Rattle.std.proofs.Common.{◌≤◌, Some, nat_le, sym, subst, ap, ◌∙◌}
use Rattle.std.proofs.lemmas.Bool.{leb-true}
use Rattle.cqe_base.specs.Formula.{formula_of, nodes, is_sentence_of}
use Rattle.entailment.specs.Logs.{log_nodes}
use Rattle.entailment.specs.Views.{schema_of, log_of}
use Rattle.censors.specs.Admitting.{probe_objection}
use Rattle.censors.proofs.Probing.{each_passes}
use Rattle.censors.proofs.Objections.{objection_here, silent_before-more}
use Rattle.censors.proofs.admittance.first_objection.Goals as goal

pub probe_objection-requires-clause-sentence : goal.probe_objection-requires-clause-sentence
probe_objection-requires-clause-sentence c =
    ap (is_sentence_of c.args.schema.now) c.in_ok-goal.ensures
    ∙ each_passes formula_of (is_sentence_of c.args.schema.now) c.args.secrets.now c.loop-number.number c.index-secrets-number.result
    c.index-secrets-number.is c.loop-number-test.true c.requires.sentences

pub probe_objection-requires-clause-goal_nodes : goal.probe_objection-requires-clause-goal_nodes
probe_objection-requires-clause-goal_nodes c =
    subst (λ goal. nodes c.args.schema.now goal ≤ 40000) (sym c.in_ok-goal.ensures)
    (leb-true _ 40000
    (each_passes formula_of (λ goal. nat_le (nodes c.args.schema.now goal) 40000) c.args.secrets.now c.loop-number.number
    c.index-secrets-number.result c.index-secrets-number.is c.loop-number-test.true c.requires.secret_nodes))

pub probe_objection-requires-clause-log_nodes : goal.probe_objection-requires-clause-log_nodes
probe_objection-requires-clause-log_nodes c =
    subst (λ view. log_nodes c.args.schema.now (log_of view) ≤ 40000) (sym c.loop-number.invariant.same) c.requires.log_nodes

pub probe_objection-requires-clause-schema : goal.probe_objection-requires-clause-schema
probe_objection-requires-clause-schema c = ap schema_of c.loop-number.invariant.same ∙ c.requires.schema

pub returns-then-is_some : goal.returns-then-is_some
returns-then-is_some c =
    let says =
    (λ k. probe_objection c.args.schema.now (log_of (sym c.loop-number.invariant.same k)) (sym c.in_ok-goal.ensures k) (Some c.loop-number.number))
    ∙ sym c.in_ok-found.ensures.found in
    sym (objection_here c.args.schema.now
    (log_of c.args.view.now) c.args.secrets.now c.loop-number.number c.index-secrets-number.result c.index-secrets-number.is c.loop-number-test.true
    c.loop-number.invariant.so_far c.in_ok-found.found says (sym c.is_some.ensures ∙ c.if-is_some.true))

pub loop-number-preserved : goal.loop-number-preserved
loop-number-preserved c =
    let says =
    (λ k. probe_objection c.args.schema.now (log_of (sym c.loop-number.invariant.same k)) (sym c.in_ok-goal.ensures k) (Some c.loop-number.number))
    ∙ sym c.in_ok-found.ensures.found in
    record {
      same = c.in_ok-found.ensures.same ∙ c.loop-number.invariant.same;
      so_far = silent_before-more c.args.schema.now
          (log_of c.args.view.now) c.args.secrets.now c.loop-number.number c.index-secrets-number.result c.index-secrets-number.is
          c.loop-number-test.true
          c.loop-number.invariant.so_far c.in_ok-found.found says
          (sym c.is_some.ensures ∙ c.if-is_some.false);
    }
