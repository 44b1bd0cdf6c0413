use Rattle.std.proofs.Common.{sym, ◌∙◌}
use Rattle.std.specs.Prelude.{string_bytes}
use Rattle.std.proofs.lemmas.Result.{on_ok_weaker}
use Rattle.cqe_base.specs.declared.user.Purpose.TheVariants.{Asking}
use Rattle.dossier.specs.Logs.{past_schema, past_user, past_history}
use Rattle.dossier.proofs.Sayings.{added-within, asking-by, reads-said, within-of, safe-of, unspent-of, adds-item, adds-secret}
use Rattle.dossier.proofs.writing.push_item.Goals as goal

pub said_in-said-requires : goal.said_in-said-requires
said_in-said-requires c =
    let past = c.args.past.now in
    (c.law_sentences_are_ascii.ensures (past_schema past) c.args.record.now.text.items _
    (reads-said (past_schema past) c.args.record.now.kind c.args.record.now.text.items _ c.mark_of-mark.ensures c.args.world.now (past_user past)
    (past_history past) c.args.record.now.text.items (λ i. c.args.record.now.text.items) c.requires.legal).1).1

-- ---- an addition

pub push_secret-requires-clause-within : goal.push_secret-requires-clause-within
push_secret-requires-clause-within c =
    let past = c.args.past.now in
    added-within (past_schema past) c.args.record.now.kind c.args.record.now.text.items c.mark_of-mark.result c.mark_of-mark.ensures c.args.world.now
    (past_user past) (past_history past) c.said_in-said.result.now c.said_in-said.ensures c.requires.legal c.requires.record.short
    (sym c.is_addition.ensures ∙ c.if-is_addition.true)

pub push_secret-requires-clause-safe : goal.push_secret-requires-clause-safe
push_secret-requires-clause-safe c =
    let past = c.args.past.now in
    safe-of (past_schema past) c.args.record.now.kind c.args.record.now.text.items c.mark_of-mark.result c.mark_of-mark.ensures c.args.world.now
    (past_user past) (past_history past) c.said_in-said.result.now c.said_in-said.ensures c.requires.legal
    (sym c.is_addition.ensures ∙ c.if-is_addition.true)

pub returns-then-is_addition-clause-item : goal.returns-then-is_addition-clause-item
returns-then-is_addition-clause-item c =
    on_ok_weaker c.push_secret.result
    (adds-secret c.args.past.now c.push_secret.new.past c.args.record.now.kind c.args.record.now.text.items c.mark_of-mark.result
    c.said_in-said.result.now (string_bytes c.args.text.now) (string_bytes c.push_secret.new.text) c.mark_of-mark.ensures c.said_in-said.ensures
    (sym c.is_addition.ensures ∙ c.if-is_addition.true)) c.push_secret.ensures.item

-- ---- an ask

pub push_asked-requires-clause-within : goal.push_asked-requires-clause-within
push_asked-requires-clause-within c =
    let past = c.args.past.now in
    within-of (past_schema past) c.args.record.now.kind c.args.record.now.text.items c.mark_of-mark.result c.mark_of-mark.ensures c.args.world.now
    (past_user past) (past_history past) c.said_in-said.result.now c.said_in-said.ensures c.requires.legal c.requires.record.short Asking
    (asking-by c.mark_of-mark.result (sym c.is_addition.ensures ∙ c.if-is_addition.false))

pub push_asked-requires-clause-unspent : goal.push_asked-requires-clause-unspent
push_asked-requires-clause-unspent c =
    let past = c.args.past.now in
    unspent-of (past_schema past) c.args.record.now.kind c.args.record.now.text.items c.mark_of-mark.result c.mark_of-mark.ensures c.args.world.now
    (past_user past) (past_history past) c.said_in-said.result.now c.said_in-said.ensures c.requires.legal
    (sym c.is_addition.ensures ∙ c.if-is_addition.false)

pub returns-else-is_addition-clause-item : goal.returns-else-is_addition-clause-item
returns-else-is_addition-clause-item c =
    on_ok_weaker c.push_asked.result
    (adds-item c.args.past.now c.push_asked.new.past c.args.record.now.kind c.args.record.now.text.items c.mark_of-mark.result
    c.said_in-said.result.now (string_bytes c.args.text.now) (string_bytes c.push_asked.new.text) c.mark_of-mark.ensures c.said_in-said.ensures)
    c.push_asked.ensures.item
