use Rattle.std.proofs.Common.{◌≡◌, [], ◌++◌, length, map, sym, ap, subst, ◌∙◌}
use Rattle.std.specs.Prelude.{codes, string_bytes}
use Rattle.std.proofs.lemmas.List.{length-map}
use Rattle.std.proofs.lemmas.Str.{IsUtf8-string_bytes}
use Rattle.cqe_base.specs.History.{profile_of}
use Rattle.cqe_base.specs.Censor.{admitted}
use Rattle.log_journal.specs.Opening.{recorded}
use Rattle.dossier.specs.Logs.{past_schema, past_user}
use Rattle.dossier.specs.Written.{IsAdmission, AreItems, AreLegal, done_text, head_text}
use Rattle.dossier.specs.Adding.{Grows}
use Rattle.dossier.proofs.writing.dossier_text.Goals as goal

pub push_admission-requires-clause-admitted : goal.push_admission-requires-clause-admitted
push_admission-requires-clause-admitted c =
    (λ i. admitted (c.in_ok-past.ensures.schema i) c.args.world.now (c.in_ok-past.ensures.user i)) ∙ c.requires.admitted

pub push_items-requires-clause-none : goal.push_items-requires-clause-none
push_items-requires-clause-none c = c.push_admission.ensures.same.1 ∙ c.in_ok-past.ensures.none

pub push_items-requires-clause-legal : goal.push_items-requires-clause-legal
push_items-requires-clause-legal c =
    let schema = c.push_admission.ensures.same.0.schema ∙ c.in_ok-past.ensures.schema in
    let user = c.push_admission.ensures.same.0.user ∙ c.in_ok-past.ensures.user in
    subst (λ s. AreLegal s c.args.world.now (past_user c.push_admission.new.past) (map recorded c.args.records.now)) (sym schema)
    (subst (λ u. AreLegal c.args.schema.now c.args.world.now u (map recorded c.args.records.now)) (sym user) c.requires.legal)

pub returns : goal.returns
returns c =
    let schema = c.push_admission.ensures.same.0.schema ∙ c.in_ok-past.ensures.schema in
    let user = c.push_admission.ensures.same.0.user ∙ c.in_ok-past.ensures.user in
    let (admission, is_admission, admission_grown) =
    subst (λ s. Grows (IsAdmission s (profile_of c.args.user.now)) (string_bytes c.in_ok-text.text) (string_bytes c.push_admission.new.text))
    c.in_ok-past.ensures.schema
    (subst (λ u. Grows (IsAdmission (past_schema c.in_ok-past.past) u) (string_bytes c.in_ok-text.text) (string_bytes c.push_admission.new.text))
    c.in_ok-past.ensures.user c.in_ok-push_admission.ensures.blocks) in
    let (items, are_items, items_grown) =
    subst (λ s. Grows (AreItems s (profile_of c.args.user.now) [] (map recorded c.args.records.now))
    (string_bytes c.push_admission.new.text) (string_bytes c.push_items.new.text)) schema
    (subst (λ u. Grows (AreItems (past_schema c.push_admission.new.past) u [] (map recorded c.args.records.now))
    (string_bytes c.push_admission.new.text) (string_bytes c.push_items.new.text)) user c.in_ok-push_items.ensures) in
    let done : done_text (length c.args.records.now) ≡ done_text (length (map recorded c.args.records.now)) =
    ap done_text (sym (length-map c.args.records.now recorded)) in (
      admission,
      items,
      is_admission,
      are_items,
      c.in_ok-push_done.ensures ∙ ap (λ t. t ++ done_text (length c.args.records.now)) items_grown
          ∙ ap (λ t. t ++ items ++ done_text (length c.args.records.now)) admission_grown
          ∙ ap (λ t. t ++ admission ++ items ++ done_text (length c.args.records.now)) c.in_ok-text.ensures
          ∙ ap (λ t. head_text (string_bytes c.args.user.now.name) (profile_of c.args.user.now) (codes "open") ++ admission ++ items ++ t) done,
      IsUtf8-string_bytes c.push_done.new.text,
    )
