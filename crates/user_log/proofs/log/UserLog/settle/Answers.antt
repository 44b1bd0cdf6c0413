use Rattle.std.proofs.Common.{◌++◌, ◌∷◌, [], length, sym, ap, subst, ◌∙◌}
use Rattle.cqe_base.specs.declared.user.Purpose.TheVariants.{Asking}
use Rattle.cqe_base.specs.Formula.{formula_of}
use Rattle.cqe_base.specs.History.{AnsweredQuery}
use Rattle.user_log.specs.Asked.{IsSomeAnswer, IsAsked, wanted}
use Rattle.user_log.specs.Replies.{reply_of}
use Rattle.user_log.specs.UserLogs.{kept_schema, kept_world, kept_user, kept_history}
use Rattle.user_log.specs.declared.log.UserLog.{UserLog}
use Rattle.user_log.proofs.Asking.{code_asked, mark_asked}
use Rattle.user_log.proofs.Costs.{code_by_cost, answer_by_cost}
use Rattle.user_log.proofs.log.UserLog.settle.Goals as goal

pub add-requires-clause-answer : goal.add-requires-clause-answer
add-requires-clause-answer c =
    subst (λ (l : UserLog). IsSomeAnswer (kept_schema l) (kept_world l) (kept_user l) (kept_history l) c.args.text.now
    (formula_of c.in-Ok-Answer.query) c.in-Ok-Answer.mark)
    (sym c.weigh.ensures.same) (Asking, rw c.in-Ok-Answer.field-0-is at c.in-Ok-Answer.ensures.weighed)

pub returns-in-Ok-Code-clause-asked : goal.returns-in-Ok-Code-clause-asked
returns-in-Ok-Code-clause-asked c =
    let old = c.args.self.now in
    subst (λ (l : UserLog). IsAsked (kept_schema old) (kept_world old) (kept_user old) (kept_history old) (kept_history l) Asking c.args.text.now
    (reply_of c.in-Ok-Code.code))
    (sym c.weigh.ensures.same) (code_asked _ _ _ _ _ _ _ (rw c.in-Ok-Code.field-0-is at c.in-Ok-Code.ensures.weighed))

pub returns-in-Ok-clause-asked : goal.returns-in-Ok-clause-asked
returns-in-Ok-clause-asked c =
    let entry : AnsweredQuery = record { query = formula_of c.in-Ok-Answer.query; mark = c.in-Ok-Answer.mark; length = length c.args.text.now } in
    mark_asked _ _ _ _ _ _ _ _ _ (rw c.in-Ok-Answer.field-0-is at c.in-Ok-Answer.ensures.weighed)
    (c.in-Ok.ensures.added ∙ ap (λ (l : UserLog). kept_history l ++ entry ∷ []) c.weigh.ensures.same)

pub returns-in-Err-add-clause-asked : goal.returns-in-Err-add-clause-asked
returns-in-Err-add-clause-asked c = wanted (c.in-Err-add.ensures.refused ∙ ap kept_history c.weigh.ensures.same)

pub returns-in-Err-clause-asked : goal.returns-in-Err-clause-asked
returns-in-Err-clause-asked c = wanted (ap kept_history c.weigh.ensures.same)

pub returns-in-Ok-Code-clause-undecided : goal.returns-in-Ok-Code-clause-undecided
returns-in-Ok-Code-clause-undecided c =
    code_by_cost _ _ _ _ _ _ (rw c.in-Ok-Code.field-0-is at c.in-Ok-Code.ensures.weighed)

pub returns-in-Ok-clause-undecided : goal.returns-in-Ok-clause-undecided
returns-in-Ok-clause-undecided c =
    answer_by_cost _ _ _ _ _ _ _
    (rw c.in-Ok-Answer.field-0-is at c.in-Ok-Answer.ensures.weighed)
    (rw c.in-Ok-Answer.field-0-is at c.in-Ok-Answer.ensures.undecided)
