use Rattle.std.proofs.Common.{◌≡◌, ◌≤◌, [], ◌∷◌, true, Some, None, Ok, length, map, refl, sym, ap, subst, ◌∙◌, arith}
use Rattle.std.proofs.lemmas.Bool.{or_parts}
use Rattle.std.proofs.lemmas.Bool.Decides.{nat_tests}
use Rattle.std.proofs.lemmas.List.{nil_from_length}
use Rattle.std.proofs.lemmas.Result.{err_from_is_err_and}
use Rattle.cqe_base.specs.declared.user.Mark.TheVariants.{Protected}
use Rattle.cqe_base.specs.declared.user.Purpose.TheVariants.{Protecting}
use Rattle.cqe_base.specs.Formula.{formula_of, nodes, is_sentence_of}
use Rattle.cqe_base.specs.History.{answered_query_of, log, is_history_of}
use Rattle.cqe_base.specs.Run.{is_too_large}
use Rattle.entailment.specs.Logs.{log_nodes}
use Rattle.entailment.specs.GroundSentences.{sentence_of}
use Rattle.dossier.specs.Checked.{item, adding, sentence_in, addition_probe, awaited_for}
use Rattle.dossier.specs.Reading.{field_said, answer}
use Rattle.dossier.specs.Logs.{past_schema, past_user, past_history}
use Rattle.dossier.proofs.ReadLines.{reads-refused}
use Rattle.dossier.proofs.Asks.{protect-textless, protect-unread, protect-read, some-within, added-within}
use Rattle.dossier.proofs.Added.{added-fits, fits-at, one-behind, guard-at, addition-shown}
use Rattle.dossier.proofs.items.read_protect.Goals as goal

-- ---- the line

-- no text
pub returns-then-is_empty-clause-reads : goal.returns-then-is_empty-clause-reads
returns-then-is_empty-clause-reads c world name =
    let past = c.args.past.now in
    ap (λ x. answer (past_schema past) world name (past_user past) x c.args.lines.now)
    (protect-textless (past_schema past) world name (past_user past) (past_history past) (field_said c.args.field.now) c.requires.protect
    (nil_from_length c.args.field.now.rest.now (grind (arith, nat_tests))))

-- a text that is no sentence within the limits
pub returns-in_default-clause-reads : goal.returns-in_default-clause-reads
returns-in_default-clause-reads c world name =
    let past = c.args.past.now in
    let none : None ≡ sentence_in (past_schema past) (past_user past) (past_history past) Protecting c.args.field.now.rest.now =
    rw c.in_default.is at c.in_ok-secret.ensures in
    ap (λ x. answer (past_schema past) world name (past_user past) x c.args.lines.now)
    (protect-unread (past_schema past) world name (past_user past) (past_history past) (field_said c.args.field.now) c.requires.protect
    (grind (arith, nat_tests)) none)

-- ---- the sentence, and what is guarded with it

pub new-requires-clause-sentence : goal.new-requires-clause-sentence
new-requires-clause-sentence c =
    let past = c.args.past.now in
    let schema = past_schema past in
    let user = past_user past in
    let before = past_history past in
    let text = c.args.field.now.rest.now in
    let secret = formula_of c.in-Some.secret in
    let read : Some secret ≡ sentence_in schema user before Protecting text = rw c.in-Some.is at c.in_ok-secret.ensures in
    let stands = some-within schema user before Protecting text secret read in
    let within = added-within schema user before (length text) secret stands.2 in
    let fits = c.law_amended_limits.ensures.additions schema user before secret c.requires.kept.limits c.requires.kept.sizes
    (c.law_reading.ensures.of_schema schema text secret stands.1) within.1 in
    ap (is_sentence_of schema) (guard-at _ user before secret (formula_of c.in_ok-guarded.guarded) c.requires.kept.current c.in_ok-guarded.ensures)
    ∙ fits.goal_sentence

pub new-requires-clause-small : goal.new-requires-clause-small
new-requires-clause-small c =
    let past = c.args.past.now in
    let schema = past_schema past in
    let user = past_user past in
    let before = past_history past in
    let text = c.args.field.now.rest.now in
    let secret = formula_of c.in-Some.secret in
    let read : Some secret ≡ sentence_in schema user before Protecting text = rw c.in-Some.is at c.in_ok-secret.ensures in
    let stands = some-within schema user before Protecting text secret read in
    let within = added-within schema user before (length text) secret stands.2 in
    let fits = c.law_amended_limits.ensures.additions schema user before secret c.requires.kept.limits c.requires.kept.sizes
    (c.law_reading.ensures.of_schema schema text secret stands.1) within.1 in
    subst (λ goal. nodes schema goal ≤ 40000)
    (sym (guard-at _ user before secret (formula_of c.in_ok-guarded.guarded) c.requires.kept.current c.in_ok-guarded.ensures)) fits.goal_nodes

-- ---- what the block is read with

pub read_block-requires-clause-user : goal.read_block-requires-clause-user
read_block-requires-clause-user c = c.requires.kept.limits.sentences

pub read_block-requires-clause-history : goal.read_block-requires-clause-history
read_block-requires-clause-history c =
    let past = c.args.past.now in
    ap (λ es. is_history_of (past_schema past) (map answered_query_of es)) c.as_slice.ensures.value
    ∙ c.law_sizes.ensures.of_schema (past_schema past) (past_user past) (past_history past) c.requires.kept.sizes

pub read_block-requires-clause-view : goal.read_block-requires-clause-view
read_block-requires-clause-view c = (
  c.requires.kept.view.0,
  c.requires.kept.view.1 ∙ sym (ap (λ es. log (past_user c.args.past.now) (map answered_query_of es)) c.as_slice.ensures.value),
)

pub read_block-requires-clause-goal : goal.read_block-requires-clause-goal
read_block-requires-clause-goal c =
    let past = c.args.past.now in
    let schema = past_schema past in
    let user = past_user past in
    let before = past_history past in
    let text = c.args.field.now.rest.now in
    let secret = formula_of c.in-Some.secret in
    let read : Some secret ≡ sentence_in schema user before Protecting text = rw c.in-Some.is at c.in_ok-secret.ensures in
    let stands = some-within schema user before Protecting text secret read in
    let within = added-within schema user before (length text) secret stands.2 in
    let fits = c.law_amended_limits.ensures.additions schema user before secret c.requires.kept.limits c.requires.kept.sizes
    (c.law_reading.ensures.of_schema schema text secret stands.1) within.1 in
    ap (λ s. is_sentence_of schema (formula_of s)) c.in_ok-goal.ensures.same
    ∙ ap (is_sentence_of schema) (guard-at _ user before secret (formula_of c.in_ok-guarded.guarded) c.requires.kept.current c.in_ok-guarded.ensures)
    ∙ fits.goal_sentence

pub read_block-requires-clause-all_nodes : goal.read_block-requires-clause-all_nodes
read_block-requires-clause-all_nodes c =
    let past = c.args.past.now in
    let schema = past_schema past in
    let user = past_user past in
    let before = past_history past in
    let text = c.args.field.now.rest.now in
    let secret = formula_of c.in-Some.secret in
    let read : Some secret ≡ sentence_in schema user before Protecting text = rw c.in-Some.is at c.in_ok-secret.ensures in
    let stands = some-within schema user before Protecting text secret read in
    let within = added-within schema user before (length text) secret stands.2 in
    let fits = c.law_amended_limits.ensures.additions schema user before secret c.requires.kept.limits c.requires.kept.sizes
    (c.law_reading.ensures.of_schema schema text secret stands.1) within.1 in
    let small = (or_parts (is_too_large schema user before secret) _ within.1).0 in
    let room = (c.law_limits.ensures.queries schema user before secret c.requires.kept.limits small).log_nodes true in
    let same : log_nodes schema (log user (map answered_query_of c.as_slice.result.now)) ≡ log_nodes schema (log user before) =
    ap (λ es. log_nodes schema (log user (map answered_query_of es))) c.as_slice.ensures.value in
    let told : log_nodes schema (log user before) ≤ 60000 = omega (arith, room) in
    let guarded : nodes schema (sentence_of c.in_ok-goal.goal) ≤ 40000 =
    subst (λ goal. nodes schema goal ≤ 40000)
    (sym (ap formula_of c.in_ok-goal.ensures.same
    ∙ guard-at _ user before secret (formula_of c.in_ok-guarded.guarded) c.requires.kept.current c.in_ok-guarded.ensures)) fits.goal_nodes in
    omega arith

-- ---- the block

-- it is refused
pub returns-in_err-read_block-clause-reads : goal.returns-in_err-read_block-clause-reads
returns-in_err-read_block-clause-reads c world name =
    let p = err_from_is_err_and c.from_residual-in_err-read_block.result c.from_residual-in_err-read_block.ensures.1 in
    let past = c.args.past.now in
    let schema = past_schema past in
    let user = past_user past in
    let before = past_history past in
    let text = c.args.field.now.rest.now in
    let secret = formula_of c.in-Some.secret in
    let read : Some secret ≡ sentence_in schema user before Protecting text = rw c.in-Some.is at c.in_ok-secret.ensures in
    let asks = ap (λ x. answer schema world name user x c.args.lines.now)
    (protect-read schema world name user before (field_said c.args.field.now) c.requires.protect (grind (arith, nat_tests)) secret read) in
    rw (p.1, p.2)
    (reads-refused schema world name user {X = Unit {0}} _ c.args.lines.now c.read_block.new.lines (λ _. Ok (item before))
    {Y = Unit {0}} c.args.lines.now
    (awaited_for schema world name user before (adding secret (length text)) (addition_probe user before secret ∷ []) [])
    (λ _. Ok (item before)) _ asks
    (c.in_err-read_block.ensures.reads world name user
    (record {
      entries = before;
      task = adding secret (length text);
      probe = addition_probe user before secret;
      more = [];
      shown = [];
    })
    (addition-shown user before secret (sentence_of c.in_ok-goal.goal) (log user (map answered_query_of c.as_slice.result.now))
    (ap (λ es. log user (map answered_query_of es)) c.as_slice.ensures.value)
    (ap formula_of c.in_ok-goal.ensures.same
    ∙ guard-at _ user before secret (formula_of c.in_ok-guarded.guarded) c.requires.kept.current c.in_ok-guarded.ensures))
    refl))

-- ---- the item

pub size_of-length-requires : goal.size_of-length-requires
size_of-length-requires c =
    let past = c.args.past.now in
    let text = c.args.field.now.rest.now in
    let secret = formula_of c.in-Some.secret in
    let read : Some secret ≡ sentence_in (past_schema past) (past_user past) (past_history past) Protecting text =
    rw c.in-Some.is at c.in_ok-secret.ensures in
    (some-within (past_schema past) (past_user past) (past_history past) Protecting text secret read).0

-- the view is as it was
pub add_secret-requires-clause-kept : goal.add_secret-requires-clause-kept
add_secret-requires-clause-kept c = rw c.read_block.ensures.same c.requires.kept

pub add_secret-requires-clause-fits : goal.add_secret-requires-clause-fits
add_secret-requires-clause-fits c =
    let past = c.args.past.now in
    let schema = past_schema past in
    let user = past_user past in
    let before = past_history past in
    let text = c.args.field.now.rest.now in
    let secret = formula_of c.in-Some.secret in
    let read : Some secret ≡ sentence_in schema user before Protecting text = rw c.in-Some.is at c.in_ok-secret.ensures in
    let stands = some-within schema user before Protecting text secret read in
    let within = added-within schema user before (length text) secret stands.2 in
    let small = (or_parts (is_too_large schema user before secret) _ within.1).0 in
    fits-at schema _ user _ before _ (record { query = secret; mark = Protected; length = length text }) _ refl refl refl
    (λ i. record { query = secret; mark = Protected; length = c.size_of-length.ensures i })
    (added-fits schema user before secret (length text) (c.law_reading.ensures.of_schema schema text secret stands.1) small within)

pub returns-clause-reads : goal.returns-clause-reads
returns-clause-reads c world name =
    let past = c.args.past.now in
    let schema = past_schema past in
    let user = past_user past in
    let before = past_history past in
    let text = c.args.field.now.rest.now in
    let secret = formula_of c.in-Some.secret in
    let read : Some secret ≡ sentence_in schema user before Protecting text = rw c.in-Some.is at c.in_ok-secret.ensures in
    let asks = ap (λ x. answer schema world name user x c.args.lines.now)
    (protect-read schema world name user before (field_said c.args.field.now) c.requires.protect (grind (arith, nat_tests)) secret read) in
    asks
    ∙ c.in_ok-read_block.ensures.reads world name user
    (record {
      entries = before;
      task = adding secret (length text);
      probe = addition_probe user before secret;
      more = [];
      shown = [];
    })
    (addition-shown user before secret (sentence_of c.in_ok-goal.goal) (log user (map answered_query_of c.as_slice.result.now))
    (ap (λ es. log user (map answered_query_of es)) c.as_slice.ensures.value)
    (ap formula_of c.in_ok-goal.ensures.same
    ∙ guard-at _ user before secret (formula_of c.in_ok-guarded.guarded) c.requires.kept.current c.in_ok-guarded.ensures))
    refl
    ∙ ap (λ h. answer schema world name user (Ok (item h)) c.read_block.new.lines)
    (one-behind before before (past_history c.add_secret.new.self) secret secret Protected (length text) c.size_of-length.result
    c.in_ok-add_secret.ensures.added.1 refl refl c.size_of-length.ensures)

pub returns-in_err-add_secret-clause-same : goal.returns-in_err-add_secret-clause-same
returns-in_err-add_secret-clause-same c = record { schema = c.add_secret.ensures.same.schema; user = c.add_secret.ensures.same.user }

pub returns-clause-same : goal.returns-clause-same
returns-clause-same c = record { schema = c.add_secret.ensures.same.schema; user = c.add_secret.ensures.same.user }

-- ---- want of memory says nothing

pub returns-in_err-secret-clause-reads : goal.returns-in_err-secret-clause-reads
returns-in_err-secret-clause-reads c world name =
    let p = err_from_is_err_and c.from_residual.result c.from_residual.ensures.1 in
    rw (p.1, p.2) tt

pub returns-in_err-guarded-clause-reads : goal.returns-in_err-guarded-clause-reads
returns-in_err-guarded-clause-reads c world name =
    let p = err_from_is_err_and c.from_residual-in_err-guarded.result c.from_residual-in_err-guarded.ensures.1 in
    rw (p.1, p.2) tt

pub returns-in_err-goal-clause-reads : goal.returns-in_err-goal-clause-reads
returns-in_err-goal-clause-reads c world name =
    let p = err_from_is_err_and c.from_residual-in_err-goal.result c.from_residual-in_err-goal.ensures.1 in
    rw (p.1, p.2) tt

pub returns-in_err-add_secret-clause-reads : goal.returns-in_err-add_secret-clause-reads
returns-in_err-add_secret-clause-reads c world name =
    let p = err_from_is_err_and c.from_residual-in_err-add_secret.result c.from_residual-in_err-add_secret.ensures.1 in
    rw (p.1, p.2) tt
