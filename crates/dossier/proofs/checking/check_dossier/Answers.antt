use Rattle.std.proofs.Common.{◌≡◌, [], length, Ok, Err, refl, ap, ◌∙◌, arith}
use Rattle.std.specs.Prelude.{string_bytes}
use Rattle.std.proofs.lemmas.List.{length-map}
use Rattle.std.proofs.lemmas.Result.{err_from_is_err_and}
use Rattle.cqe_base.specs.History.{profile_of, answered_query_of}
use Rattle.dossier.specs.Checked.{head, admission, item, nothing}
use Rattle.dossier.specs.Logs.{past_schema, past_user, past_history}
use Rattle.dossier.proofs.Few.{few-items}
use Rattle.dossier.proofs.Whole.{reads-at, items-at, exact-check, refused-check, whole-check, whole-accepted}
use Rattle.dossier.proofs.checking.check_dossier.Goals as goal

pub fields-lines-requires : goal.fields-lines-requires
fields-lines-requires c = omega (arith, c.requires.bytes)

pub read_admission-requires-clause-none : goal.read_admission-requires-clause-none
read_admission-requires-clause-none c = c.in_ok-past.ensures.none

pub returns-in_err-read_head-clause-check : goal.returns-in_err-read_head-clause-check
returns-in_err-read_head-clause-check c =
    let p = err_from_is_err_and c.from_residual.result c.from_residual.ensures.1 in
    rw (p.1, p.2)
    (refused-check c.args.schema.now c.args.world.now (string_bytes c.args.user.now.name) (profile_of c.args.user.now) c.args.text.now
    c.fields-lines.result c.fields-lines.ensures.first c.fields-lines.ensures.fields {X = Unit {0}} (Ok head) c.fields-lines.result c.read_head.new.lines
    (λ _. Ok admission) _ refl (c.in_err-read_head.ensures.reads c.args.schema.now c.args.world.now))

-- want of memory says nothing
pub returns-in_err-past-clause-check : goal.returns-in_err-past-clause-check
returns-in_err-past-clause-check c isnt =
    let p = err_from_is_err_and c.from_residual-in_err-past.result c.from_residual-in_err-past.ensures.1 in
    absurd (isnt (p.1 ∙ ap Err p.2))

pub returns-in_err-read_admission-clause-check : goal.returns-in_err-read_admission-clause-check
returns-in_err-read_admission-clause-check c =
    let p = err_from_is_err_and c.from_residual-in_err-read_admission.result c.from_residual-in_err-read_admission.ensures.1 in
    let head_read = c.in_ok-read_head.ensures.reads c.args.schema.now c.args.world.now in
    rw (p.1, p.2)
    (refused-check c.args.schema.now c.args.world.now (string_bytes c.args.user.now.name) (profile_of c.args.user.now) c.args.text.now
    c.fields-lines.result c.fields-lines.ensures.first c.fields-lines.ensures.fields {X = Unit {0}} (Ok admission) c.read_head.new.lines
    c.read_admission.new.lines (λ _. Ok (item [])) _ head_read
    (reads-at {X = Unit {0}} c.args.schema.now (past_schema c.in_ok-past.past) c.args.world.now
    (string_bytes c.args.user.now.name) (profile_of c.args.user.now) (past_user c.in_ok-past.past) (Ok admission) c.read_head.new.lines
    c.read_admission.new.lines (λ _. Ok (item [])) (Err _) c.in_ok-past.ensures.schema c.in_ok-past.ensures.user
    (c.in_err-read_admission.ensures.reads (string_bytes c.args.user.now.name))))

pub returns-in_err-read_items-clause-check : goal.returns-in_err-read_items-clause-check
returns-in_err-read_items-clause-check c =
    let p = err_from_is_err_and c.from_residual-in_err-read_items.result c.from_residual-in_err-read_items.ensures.1 in
    let head_read = c.in_ok-read_head.ensures.reads c.args.schema.now c.args.world.now in
    let admission_read = head_read ∙ reads-at {X = Unit {0}} c.args.schema.now (past_schema c.in_ok-past.past) c.args.world.now
    (string_bytes c.args.user.now.name) (profile_of c.args.user.now) (past_user c.in_ok-past.past) (Ok admission) c.read_head.new.lines
    c.read_admission.new.lines (λ _. Ok (item [])) (Ok tt) c.in_ok-past.ensures.schema c.in_ok-past.ensures.user
    (c.in_ok-read_admission.ensures.reads (string_bytes c.args.user.now.name)) in
    rw (p.1, p.2)
    (refused-check c.args.schema.now c.args.world.now (string_bytes c.args.user.now.name) (profile_of c.args.user.now) c.args.text.now
    c.fields-lines.result c.fields-lines.ensures.first c.fields-lines.ensures.fields {X = Unit {0}} (Ok (item [])) c.read_admission.new.lines
    c.read_items.new.lines (λ _. Ok (nothing (past_history c.read_items.new.past))) _ admission_read
    (items-at c.args.schema.now (past_schema c.read_admission.new.past) c.args.world.now (string_bytes c.args.user.now.name)
    (profile_of c.args.user.now) (past_user c.read_admission.new.past) [] (past_history c.read_admission.new.past)
    (past_history c.read_items.new.past) c.read_admission.new.lines c.read_items.new.lines (Err _)
    (c.read_admission.ensures.same.0.schema ∙ c.in_ok-past.ensures.schema) (c.read_admission.ensures.same.0.user ∙ c.in_ok-past.ensures.user)
    (c.read_admission.ensures.same.1 ∙ c.in_ok-past.ensures.none) (c.in_err-read_items.ensures.reads (string_bytes c.args.user.now.name))))

pub returns-in_err-read_end-clause-check : goal.returns-in_err-read_end-clause-check
returns-in_err-read_end-clause-check c =
    let p = err_from_is_err_and c.from_residual-in_err-read_end.result c.from_residual-in_err-read_end.ensures.1 in
    let head_read = c.in_ok-read_head.ensures.reads c.args.schema.now c.args.world.now in
    let admission_read = head_read ∙ reads-at {X = Unit {0}} c.args.schema.now (past_schema c.in_ok-past.past) c.args.world.now
    (string_bytes c.args.user.now.name) (profile_of c.args.user.now) (past_user c.in_ok-past.past) (Ok admission) c.read_head.new.lines
    c.read_admission.new.lines (λ _. Ok (item [])) (Ok tt) c.in_ok-past.ensures.schema c.in_ok-past.ensures.user
    (c.in_ok-read_admission.ensures.reads (string_bytes c.args.user.now.name)) in
    let items_read = admission_read ∙ items-at c.args.schema.now (past_schema c.read_admission.new.past) c.args.world.now (string_bytes c.args.user.now.name)
    (profile_of c.args.user.now) (past_user c.read_admission.new.past) [] (past_history c.read_admission.new.past)
    (past_history c.read_items.new.past) c.read_admission.new.lines c.read_items.new.lines (Ok tt)
    (c.read_admission.ensures.same.0.schema ∙ c.in_ok-past.ensures.schema) (c.read_admission.ensures.same.0.user ∙ c.in_ok-past.ensures.user)
    (c.read_admission.ensures.same.1 ∙ c.in_ok-past.ensures.none) (c.in_ok-read_items.ensures.reads (string_bytes c.args.user.now.name)) in
    rw (p.1, p.2)
    (exact-check c.args.schema.now c.args.world.now (string_bytes c.args.user.now.name) (profile_of c.args.user.now) c.args.text.now
    c.fields-lines.result c.fields-lines.ensures.first c.fields-lines.ensures.fields (Ok (nothing (past_history c.read_items.new.past)))
    c.read_items.new.lines _ items_read
    (c.in_err-read_end.ensures c.args.schema.now c.args.world.now (string_bytes c.args.user.now.name) (profile_of c.args.user.now)
    (past_history c.read_items.new.past)))

-- a history has at most 4,096 items
pub overflow_cast-result : goal.overflow_cast-result
overflow_cast-result c =
    let past = c.read_items.new.past in
    let sized = length-map past.entries.items answered_query_of in
    let few = few-items (past_schema past) (past_user past) (past_history past) c.in_ok-read_items.ensures.kept.sizes in
    omega (arith, sized, few, past.entries.ok.0, c.len.ensures)

pub returns-clause-check : goal.returns-clause-check
returns-clause-check c =
    let head_read = c.in_ok-read_head.ensures.reads c.args.schema.now c.args.world.now in
    let admission_read = head_read ∙ reads-at {X = Unit {0}} c.args.schema.now (past_schema c.in_ok-past.past) c.args.world.now
    (string_bytes c.args.user.now.name) (profile_of c.args.user.now) (past_user c.in_ok-past.past) (Ok admission) c.read_head.new.lines
    c.read_admission.new.lines (λ _. Ok (item [])) (Ok tt) c.in_ok-past.ensures.schema c.in_ok-past.ensures.user
    (c.in_ok-read_admission.ensures.reads (string_bytes c.args.user.now.name)) in
    let items_read = admission_read ∙ items-at c.args.schema.now (past_schema c.read_admission.new.past) c.args.world.now (string_bytes c.args.user.now.name)
    (profile_of c.args.user.now) (past_user c.read_admission.new.past) [] (past_history c.read_admission.new.past)
    (past_history c.read_items.new.past) c.read_admission.new.lines c.read_items.new.lines (Ok tt)
    (c.read_admission.ensures.same.0.schema ∙ c.in_ok-past.ensures.schema) (c.read_admission.ensures.same.0.user ∙ c.in_ok-past.ensures.user)
    (c.read_admission.ensures.same.1 ∙ c.in_ok-past.ensures.none) (c.in_ok-read_items.ensures.reads (string_bytes c.args.user.now.name)) in
    let ends = c.in_ok-read_end.ensures c.args.schema.now c.args.world.now (string_bytes c.args.user.now.name) (profile_of c.args.user.now)
    (past_history c.read_items.new.past) in
    let sized = length-map c.read_items.new.past.entries.items answered_query_of in
    let counted : length (past_history c.read_items.new.past) ≡ c.len.result =
    omega (arith, sized, c.read_items.new.past.entries.ok.0, c.len.ensures) in
    whole-check c.args.schema.now c.args.world.now (string_bytes c.args.user.now.name) (profile_of c.args.user.now) c.args.text.now
    c.fields-lines.result c.fields-lines.ensures.first c.fields-lines.ensures.fields (past_history c.read_items.new.past) (items_read ∙ ends)
    c.len.result counted

pub returns-clause-accepted : goal.returns-clause-accepted
returns-clause-accepted c =
    let head_read = c.in_ok-read_head.ensures.reads c.args.schema.now c.args.world.now in
    let admission_read = head_read ∙ reads-at {X = Unit {0}} c.args.schema.now (past_schema c.in_ok-past.past) c.args.world.now
    (string_bytes c.args.user.now.name) (profile_of c.args.user.now) (past_user c.in_ok-past.past) (Ok admission) c.read_head.new.lines
    c.read_admission.new.lines (λ _. Ok (item [])) (Ok tt) c.in_ok-past.ensures.schema c.in_ok-past.ensures.user
    (c.in_ok-read_admission.ensures.reads (string_bytes c.args.user.now.name)) in
    let items_read = admission_read ∙ items-at c.args.schema.now (past_schema c.read_admission.new.past) c.args.world.now (string_bytes c.args.user.now.name)
    (profile_of c.args.user.now) (past_user c.read_admission.new.past) [] (past_history c.read_admission.new.past)
    (past_history c.read_items.new.past) c.read_admission.new.lines c.read_items.new.lines (Ok tt)
    (c.read_admission.ensures.same.0.schema ∙ c.in_ok-past.ensures.schema) (c.read_admission.ensures.same.0.user ∙ c.in_ok-past.ensures.user)
    (c.read_admission.ensures.same.1 ∙ c.in_ok-past.ensures.none) (c.in_ok-read_items.ensures.reads (string_bytes c.args.user.now.name)) in
    let ends = c.in_ok-read_end.ensures c.args.schema.now c.args.world.now (string_bytes c.args.user.now.name) (profile_of c.args.user.now)
    (past_history c.read_items.new.past) in
    let sized = length-map c.read_items.new.past.entries.items answered_query_of in
    let counted : length (past_history c.read_items.new.past) ≡ c.len.result =
    omega (arith, sized, c.read_items.new.past.entries.ok.0, c.len.ensures) in
    whole-accepted c.args.schema.now c.args.world.now (string_bytes c.args.user.now.name) (profile_of c.args.user.now) c.args.text.now
    c.fields-lines.result c.fields-lines.ensures.first c.fields-lines.ensures.fields (past_history c.read_items.new.past) (items_read ∙ ends)
    c.law_checked_is_sound.ensures c.law_sound.ensures c.len.result counted
