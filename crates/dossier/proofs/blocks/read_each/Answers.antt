use Rattle.std.proofs.Common.{◌≡◌, ◌≤◌, ◌||◌, ◌++◌, length, map, refl, sym, ap, subst, ◌∙◌, arith}
use Rattle.std.specs.Prelude.{nat_le}
use Rattle.std.proofs.lemmas.Bool.{leb-true}
use Rattle.std.proofs.lemmas.List.Elements.{All-get_or}
use Rattle.std.proofs.lemmas.Result.{err_from_is_err_and}
use Rattle.cqe_base.specs.Formula.{nodes, is_sentence_of}
use Rattle.cqe_base.specs.History.{profile_of, answered_query_of, log}
use Rattle.entailment.specs.GroundSentences.{sentence_of, IsGroundOver}
use Rattle.entailment.specs.Probes.{premise_list}
use Rattle.entailment.specs.Views.{IsViewOf}
use Rattle.dossier.specs.Checked.{awaited_for}
use Rattle.dossier.proofs.Each.{none-read, one-more, one-refused, all-read, showing_at, passes-at}
use Rattle.dossier.proofs.blocks.read_each.Goals as goal
use Rattle.dossier.proofs.blocks.read_each.Goals.{then-some, else-some}

pub loop-goal-init : goal.loop-goal-init
loop-goal-init c = record {
  reads = λ world name user entries task more shown of.
      none-read c.args.told.schema.now world name user entries task
      (log (profile_of c.args.told.user.now) (map answered_query_of c.args.told.entries.now) ++ premise_list c.args.premise) more shown sentence_of
      c.args.goals.now c.args.lines.now _ refl;
  less = omega arith;
  same = refl;
}

-- ---- what a block is read with

pub read_block-requires-clause-view : goal.read_block-requires-clause-view
read_block-requires-clause-view c =
    subst (IsViewOf c.args.told.schema.now (log (profile_of c.args.told.user.now) (map answered_query_of c.args.told.entries.now)))
    (sym c.loop-goal.invariant.same) c.requires.view

pub read_block-requires-clause-goal : goal.read_block-requires-clause-goal
read_block-requires-clause-goal c =
    passes-at sentence_of c.args.goals.now c.loop-goal.goal-index c.goal-item.result c.goal-item.is c.loop-goal-test.true
    (is_sentence_of c.args.told.schema.now) c.requires.goals

pub read_block-requires-clause-all_nodes : goal.read_block-requires-clause-all_nodes
read_block-requires-clause-all_nodes c =
    let schema = c.args.told.schema.now in
    let small : nodes schema (sentence_of c.goal-item.result) ≤ 40000 =
    leb-true _ 40000 (passes-at sentence_of c.args.goals.now c.loop-goal.goal-index c.goal-item.result c.goal-item.is c.loop-goal-test.true
    (λ goal. nat_le (nodes schema goal) 40000) c.requires.goal_nodes) in
    omega (arith, c.requires.all_nodes)

pub read_block-requires-clause-grounded_goal : goal.read_block-requires-clause-grounded_goal
read_block-requires-clause-grounded_goal c =
    subst (IsGroundOver c.args.told.schema.now) (sym c.goal-item.is)
    (All-get_or (IsGroundOver c.args.told.schema.now) c.args.goals.now c.loop-goal.goal-index c.goal-item.result c.loop-goal-test.true
    c.requires.grounded_goals)

-- ---- what is read

pub returns-in_err-follows-clause-reads : goal.returns-in_err-follows-clause-reads
returns-in_err-follows-clause-reads c world name user entries task more shown of =
    let p = err_from_is_err_and c.from_residual.result c.from_residual.ensures.1 in
    let schema = c.args.told.schema.now in
    let premises = log (profile_of c.args.told.user.now) (map answered_query_of c.args.told.entries.now) ++ premise_list c.args.premise in
    rw (p.1, p.2)
    (one-refused schema world name user entries task premises more shown sentence_of c.args.goals.now c.loop-goal.goal-index c.goal-item.result
    c.goal-item.is c.loop-goal-test.true c.loop-goal.some c.args.lines.now c.loop-goal.lines c.read_block.new.lines (length c.args.goals.now)
    (λ verdicts. awaited_for schema world name user entries task more (shown ++ verdicts)) _
    (c.loop-goal.invariant.reads world name user entries task more shown of)
    (λ verdicts. c.in_err-follows.ensures.reads world name user
    (showing_at schema world name user entries task premises more shown sentence_of c.args.goals.now c.loop-goal.goal-index c.goal-item.result verdicts)
    refl of))

pub loop-goal-preserved : goal.loop-goal-preserved
loop-goal-preserved c =
    let schema = c.args.told.schema.now in
    let premises = log (profile_of c.args.told.user.now) (map answered_query_of c.args.told.entries.now) ++ premise_list c.args.premise in
    let either : c.if-some.some ≡ (c.loop-goal.some || c.in_ok-follows.follows) = elim c.if-some.branch [
      | then-some w ↦ w.some-is ∙ w.if-some.true ∙ sym (ap (λ some. some || c.in_ok-follows.follows) w.if-some.true)
      | else-some w ↦ w.some-is ∙ sym (ap (λ some. some || c.in_ok-follows.follows) w.if-some.false)
    ] in
    record {
      reads = λ world name user entries task more shown of. rw either (
          one-more schema world name user entries task premises more shown sentence_of c.args.goals.now c.loop-goal.goal-index c.goal-item.result
          c.goal-item.is c.loop-goal-test.true c.loop-goal.some c.in_ok-follows.follows c.args.lines.now c.loop-goal.lines c.read_block.new.lines
          (c.loop-goal.invariant.reads world name user entries task more shown of)
          (λ verdicts. c.in_ok-follows.ensures.reads world name user
          (showing_at schema world name user entries task premises more shown sentence_of c.args.goals.now c.loop-goal.goal-index c.goal-item.result
          verdicts) refl of));
      less = omega (arith, c.read_block.ensures.less, c.loop-goal.invariant.less);
      same = c.read_block.ensures.same ∙ c.loop-goal.invariant.same;
    }

pub returns-clause-reads : goal.returns-clause-reads
returns-clause-reads c world name user entries task more shown of =
    let premises = log (profile_of c.args.told.user.now) (map answered_query_of c.args.told.entries.now) ++ premise_list c.args.premise in
    all-read c.args.told.schema.now world name user entries task premises more shown sentence_of c.args.goals.now c.loop-goal.goal-index
    c.loop-goal.some c.args.lines.now c.loop-goal.lines c.loop-goal.auto.goal-index-end (omega (arith, c.loop-goal-test.false))
    (c.loop-goal.invariant.reads world name user entries task more shown of)
