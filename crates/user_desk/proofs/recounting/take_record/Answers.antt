use Rattle.std.proofs.Common.{◌∙◌, arith, sym, subst, length}
use Rattle.std.proofs.lemmas.Bool.{both_ways}
use Rattle.user_log.specs.UserLogs.{kept_schema, kept_world, kept_user, kept_history}
use Rattle.cqe_base.specs.Formula.{formula_of}
use Rattle.user_log.specs.Asked.{IsSomeAnswer, IsWeighed}
use Rattle.user_log.specs.declared.log.UserLog.{UserLog}
use Rattle.user_log.specs.declared.reply.Weighed.TheVariants.{Code}
use Rattle.user_desk.specs.Causes.{RefusesRecord}
use Rattle.user_desk.specs.Replays.{refused_by}
use Rattle.user_desk.proofs.Refusing.{few}
use Rattle.user_desk.proofs.Taking.{count_of, no_text, code_refuses, mark_refuses}
use Rattle.user_desk.specs.declared.standing.DeskError.TheVariants.{Unlawful}
use Rattle.user_desk.proofs.recounting.take_record.Goals as goal

pub overflow_cast-number : goal.overflow_cast-number
overflow_cast-number c =
    let at_most = few (kept_schema c.args.log.now) (kept_world c.args.log.now) (kept_user c.args.log.now) (kept_history c.args.log.now) c.known.ensures.sizes in
    let count = count_of c.entries.result.now (kept_history c.args.log.now) c.entries.ensures in
    omega arith

pub returns-in_default-clause-taken : goal.returns-in_default-clause-taken
returns-in_default-clause-taken c =
    let count = count_of c.entries.result.now (kept_history c.args.log.now) c.entries.ensures in
    let why = no_text
    (kept_schema c.args.log.now) c.args.next.now.text.items c.deref.result.now c.law_sentences_are_ascii.ensures c.deref.ensures.value
    c.in_default.ensures.cases.0 in
    (count, why.0, why.1)

pub returns-in-Code-clause-taken : goal.returns-in-Code-clause-taken
returns-in-Code-clause-taken c =
    let schema = kept_schema c.args.log.now in
    let world = kept_world c.args.log.now in
    let user = kept_user c.args.log.now in
    let history = kept_history c.args.log.now in
    let kind = c.args.next.now.kind in
    let count = count_of c.entries.result.now history c.entries.ensures in
    let purpose = c.purpose_by.ensures in
    let refused = code_refuses schema world user history kind c.in-Ok.text.now c.mark_of-stored.result c.mark_of-stored.ensures c.in-Code.code _ count
    (subst (λ p. IsWeighed schema world user history p c.in-Ok.text.now (Code c.in-Code.code)) purpose (rw c.in-Code.is at c.in_ok-code.ensures.weighed)) in
    subst (λ why. RefusesRecord schema world user history (kind, c.args.next.now.text.items) why) (sym c.refused_by.ensures)
    (subst (λ t. RefusesRecord schema world user history (kind, t) (refused_by c.in-Code.code (length c.entries.result.now)))
    (c.in-Ok.ensures.cases.0 ∙ c.deref.ensures.value) refused)

pub add-requires-clause-answer : goal.add-requires-clause-answer
add-requires-clause-answer c =
    subst (λ (l : UserLog). IsSomeAnswer (kept_schema l) (kept_world l) (kept_user l) (kept_history l) c.in-Ok.text.now
    (formula_of c.in-Answer.query) c.in-Answer.computed)
    (sym c.weigh.ensures.same) (c.purpose_by.result, rw c.in-Answer.is at c.in_ok-code.ensures.weighed)

pub returns-then-not-is_same-clause-taken : goal.returns-then-not-is_same-clause-taken
returns-then-not-is_same-clause-taken c =
    let schema = kept_schema c.args.log.now in
    let world = kept_world c.args.log.now in
    let user = kept_user c.args.log.now in
    let history = kept_history c.args.log.now in
    let kind = c.args.next.now.kind in
    let stored = c.mark_of-stored.result in
    let computed = c.in-Answer.computed in
    let number = length c.entries.result.now in
    let count = count_of c.entries.result.now history c.entries.ensures in
    let refused = mark_refuses schema world user history kind c.in-Ok.text.now c.purpose_by.result (formula_of c.in-Answer.query) stored computed number
    count c.purpose_by.ensures (rw c.in-Answer.is at c.in_ok-code.ensures.weighed) c.mark_of-stored.ensures
    (λ same. both_ways _ c.if-not-is_same.true (c.is_same.ensures.1 same)) in
    subst (λ t. RefusesRecord schema world user history (kind, t) (Unlawful number stored computed))
    (c.in-Ok.ensures.cases.0 ∙ c.deref.ensures.value) refused
