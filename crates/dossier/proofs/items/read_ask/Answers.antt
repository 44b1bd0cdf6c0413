use Rattle.std.proofs.Common.{◌≡◌, Some, None, Ok, length, ap, ◌∙◌, arith}
use Rattle.std.proofs.lemmas.Bool.Decides.{nat_tests}
use Rattle.std.proofs.lemmas.List.{nil_from_length}
use Rattle.std.proofs.lemmas.Result.{err_from_is_err_and}
use Rattle.cqe_base.specs.declared.user.Purpose.TheVariants.{Asking}
use Rattle.cqe_base.specs.Formula.{formula_of}
use Rattle.dossier.specs.Checked.{item, asked, sentence_in}
use Rattle.dossier.specs.Reading.{field_said, answer}
use Rattle.dossier.specs.Logs.{past_schema, past_user, past_history}
use Rattle.dossier.proofs.ReadLines.{reads-refused}
use Rattle.dossier.proofs.Asks.{named-asked, ask-unmarked, ask-textless, ask-unread, ask-read, some-within, asked-within}
use Rattle.dossier.proofs.Added.{asked-fits, fits-at, one-behind}
use Rattle.dossier.proofs.items.read_ask.Goals as goal

-- ---- the line

-- no mark
pub returns-in_default-clause-reads : goal.returns-in_default-clause-reads
returns-in_default-clause-reads c name =
    let past = c.args.past.now in
    ap (λ x. answer (past_schema past) c.args.world.now name (past_user past) x c.args.lines.now)
    (ask-unmarked (past_schema past) c.args.world.now name (past_user past) (past_history past) (field_said c.args.field.now) c.requires.ask
    c.first_word.result.0.now c.first_word.result.1.now c.first_word.ensures.word c.first_word.ensures.rest c.in_default.ensures)

-- no text
pub returns-then-is_empty-clause-reads : goal.returns-then-is_empty-clause-reads
returns-then-is_empty-clause-reads c name =
    let past = c.args.past.now in
    ap (λ x. answer (past_schema past) c.args.world.now name (past_user past) x c.args.lines.now)
    (ask-textless (past_schema past) c.args.world.now name (past_user past) (past_history past) (field_said c.args.field.now) c.requires.ask
    c.first_word.result.0.now c.first_word.result.1.now c.first_word.ensures.word c.first_word.ensures.rest c.in-Some.mark c.in-Some.ensures
    (nil_from_length c.first_word.result.1.now (grind (arith, nat_tests))))

-- a text that is no sentence within the limits
pub returns-in_default-2-clause-reads : goal.returns-in_default-2-clause-reads
returns-in_default-2-clause-reads c name =
    let past = c.args.past.now in
    let none : None ≡ sentence_in (past_schema past) (past_user past) (past_history past) Asking c.first_word.result.1.now =
    rw c.in_default-2.is at c.in_ok-asked.ensures in
    ap (λ x. answer (past_schema past) c.args.world.now name (past_user past) x c.args.lines.now)
    (ask-unread (past_schema past) c.args.world.now name (past_user past) (past_history past) (field_said c.args.field.now) c.requires.ask
    c.first_word.result.0.now c.first_word.result.1.now c.first_word.ensures.word c.first_word.ensures.rest c.in-Some.mark c.in-Some.ensures
    (grind (arith, nat_tests)) none)

-- ---- the query

pub shown_query-requires-clause-sentence : goal.shown_query-requires-clause-sentence
shown_query-requires-clause-sentence c =
    let past = c.args.past.now in
    let text = c.first_word.result.1.now in
    let query = formula_of c.in-Some-2.asked in
    let read : Some query ≡ sentence_in (past_schema past) (past_user past) (past_history past) Asking text =
    rw c.in-Some-2.is at c.in_ok-asked.ensures in
    let stands = some-within (past_schema past) (past_user past) (past_history past) Asking text query read in
    c.law_reading.ensures.of_schema (past_schema past) text query stands.1

pub shown_query-requires-clause-fits : goal.shown_query-requires-clause-fits
shown_query-requires-clause-fits c =
    let past = c.args.past.now in
    let text = c.first_word.result.1.now in
    let query = formula_of c.in-Some-2.asked in
    let read : Some query ≡ sentence_in (past_schema past) (past_user past) (past_history past) Asking text =
    rw c.in-Some-2.is at c.in_ok-asked.ensures in
    let stands = some-within (past_schema past) (past_user past) (past_history past) Asking text query read in
    let within = asked-within (past_schema past) (past_user past) (past_history past) (length text) query stands.2 in
    c.law_limits.ensures.queries (past_schema past) (past_user past) (past_history past) query c.requires.kept.limits within.1

-- its blocks are refused
pub returns-in_err-query-clause-reads : goal.returns-in_err-query-clause-reads
returns-in_err-query-clause-reads c name =
    let p = err_from_is_err_and c.from_residual-in_err-query.result c.from_residual-in_err-query.ensures.1 in
    let past = c.args.past.now in
    let schema = past_schema past in
    let world = c.args.world.now in
    let user = past_user past in
    let before = past_history past in
    let text = c.first_word.result.1.now in
    let query = formula_of c.in-Some-2.asked in
    let read : Some query ≡ sentence_in schema user before Asking text = rw c.in-Some-2.is at c.in_ok-asked.ensures in
    let asks = ap (λ x. answer schema world name user x c.args.lines.now)
    (ask-read schema world name user before (field_said c.args.field.now) c.requires.ask
    c.first_word.result.0.now text c.first_word.ensures.word c.first_word.ensures.rest c.in-Some.mark c.in-Some.ensures
    (grind (arith, nat_tests)) query read) in
    rw (p.1, p.2)
    (reads-refused schema world name user {X = Unit {0}} _ c.args.lines.now c.shown_query.new.lines (λ _. Ok (item (past_history c.shown_query.new.past)))
    {Y = Unit {0}} c.args.lines.now (asked schema world name user c.args.field.now.line before c.in-Some.mark (length text) (Some query))
    (λ _. Ok (item before)) _ asks
    (c.in_err-query.ensures.reads name (length text)))

-- ---- the item

pub size_of-length-requires : goal.size_of-length-requires
size_of-length-requires c =
    let past = c.args.past.now in
    let text = c.first_word.result.1.now in
    let query = formula_of c.in-Some-2.asked in
    let read : Some query ≡ sentence_in (past_schema past) (past_user past) (past_history past) Asking text =
    rw c.in-Some-2.is at c.in_ok-asked.ensures in
    (some-within (past_schema past) (past_user past) (past_history past) Asking text query read).0

pub add_answered-requires-clause-asked : goal.add_answered-requires-clause-asked
add_answered-requires-clause-asked c = named-asked c.first_word.result.0.now c.in-Some.mark c.in-Some.ensures

pub add_answered-requires-clause-fits : goal.add_answered-requires-clause-fits
add_answered-requires-clause-fits c =
    let past = c.args.past.now in
    let text = c.first_word.result.1.now in
    let query = formula_of c.in-Some-2.asked in
    let mark = c.in-Some.mark in
    let read : Some query ≡ sentence_in (past_schema past) (past_user past) (past_history past) Asking text =
    rw c.in-Some-2.is at c.in_ok-asked.ensures in
    let stands = some-within (past_schema past) (past_user past) (past_history past) Asking text query read in
    let within = asked-within (past_schema past) (past_user past) (past_history past) (length text) query stands.2 in
    fits-at (past_schema past) _ (past_user past) _ (past_history past) _ (record { query = query; mark = mark; length = length text }) _
    c.shown_query.ensures.same.0.schema c.shown_query.ensures.same.0.user c.shown_query.ensures.same.1
    (λ i. record { query = formula_of (c.in_ok-query.ensures.query i); mark = mark; length = c.size_of-length.ensures i })
    (asked-fits (past_schema past) (past_user past) (past_history past) query mark (length text)
    (c.law_reading.ensures.of_schema (past_schema past) text query stands.1)
    (named-asked c.first_word.result.0.now mark c.in-Some.ensures) within)

pub returns-clause-reads : goal.returns-clause-reads
returns-clause-reads c name =
    let past = c.args.past.now in
    let schema = past_schema past in
    let world = c.args.world.now in
    let user = past_user past in
    let before = past_history past in
    let text = c.first_word.result.1.now in
    let query = formula_of c.in-Some-2.asked in
    let read : Some query ≡ sentence_in schema user before Asking text = rw c.in-Some-2.is at c.in_ok-asked.ensures in
    let asks = ap (λ x. answer schema world name user x c.args.lines.now)
    (ask-read schema world name user before (field_said c.args.field.now) c.requires.ask
    c.first_word.result.0.now text c.first_word.ensures.word c.first_word.ensures.rest c.in-Some.mark c.in-Some.ensures
    (grind (arith, nat_tests)) query read) in
    asks ∙ c.in_ok-query.ensures.reads name (length text)
    ∙ ap (λ h. answer schema world name user (Ok (item h)) c.shown_query.new.lines)
    (one-behind before (past_history c.shown_query.new.past) (past_history c.add_answered.new.self) query (formula_of c.in_ok-query.query)
    c.in-Some.mark (length text) c.size_of-length.result c.in_ok-add_answered.ensures.added.1 c.shown_query.ensures.same.1
    (ap formula_of c.in_ok-query.ensures.query) c.size_of-length.ensures)

-- ---- the user

pub returns-in_err-add_answered-clause-same : goal.returns-in_err-add_answered-clause-same
returns-in_err-add_answered-clause-same c = record {
  schema = c.add_answered.ensures.same.schema ∙ c.shown_query.ensures.same.0.schema;
  user = c.add_answered.ensures.same.user ∙ c.shown_query.ensures.same.0.user;
}

pub returns-clause-same : goal.returns-clause-same
returns-clause-same c = record {
  schema = c.add_answered.ensures.same.schema ∙ c.shown_query.ensures.same.0.schema;
  user = c.add_answered.ensures.same.user ∙ c.shown_query.ensures.same.0.user;
}

-- ---- want of memory says nothing

pub returns-in_err-asked-clause-reads : goal.returns-in_err-asked-clause-reads
returns-in_err-asked-clause-reads c name =
    let p = err_from_is_err_and c.from_residual.result c.from_residual.ensures.1 in
    rw (p.1, p.2) tt

pub returns-in_err-add_answered-clause-reads : goal.returns-in_err-add_answered-clause-reads
returns-in_err-add_answered-clause-reads c name =
    let p = err_from_is_err_and c.from_residual-in_err-add_answered.result c.from_residual-in_err-add_answered.ensures.1 in
    rw (p.1, p.2) tt
