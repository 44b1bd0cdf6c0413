-- Each world in which the log of a legal history is true and a guarded sentence false is alike, and there is one.
use Rattle.std.proofs.Common.{◌≡◌, true, false, [], refl, sym, subst, ◌∙◌}
use Rattle.std.specs.Prelude.{Contains}
use Rattle.cqe_base.specs.declared.user.Method.{Method}
use Rattle.cqe_base.specs.declared.user.Method.TheVariants.{Lying, Refusal, Combined}
use Rattle.cqe_base.specs.Schema.{DatabaseSchema}
use Rattle.cqe_base.specs.Facts.{FactSet}
use Rattle.cqe_base.specs.Formula.{Formula}
use Rattle.cqe_base.specs.Entailment.{all_hold_in, entails}
use Rattle.cqe_base.specs.History.{UserProfile, known, log, user_at}
use Rattle.cqe_base.specs.Censor.{guarded, knows_truth_by, admitted, IsLegal}
use Rattle.cqe_base.specs.OtherWorlds.{LogsKeepSecrets, CountermodelsAreAlike, LegalEntriesReplyAlike}
use Rattle.cqe_base.proofs.Truths.{true_is_not_false, false_if_not_true, and_second, and_both, list_any-false, none_passes}
use Rattle.cqe_base.proofs.Logs.{log-nil, user_at-nil, known_holds}
use Rattle.cqe_base.proofs.Worlds.{entails-true, entails-false}
use Rattle.cqe_base.proofs.Shielding.{HasCountermodel}
use Rattle.cqe_base.proofs.Secrets.{legal_shields, legal_again}
use Rattle.cqe_base.proofs.Runs.{replies_alike}

-- an admitted user is admitted in each world in which what he knows is true
admitted_again : (schema : DatabaseSchema) (world : FactSet) (user : UserProfile) (other : FactSet) → admitted schema world user ≡ true
    → all_hold_in schema other (known user) ≡ true → admitted schema other user ≡ true
unfolding admitted
admitted_again schema world user other admits holds = and_both _ _ (by user.method) (and_second (knows_truth_by user.method schema world (known user)) _ admits)
  where
    by : (m : Method) → knows_truth_by m schema other (known user) ≡ true
    by Lying = refl
    by Refusal = holds
    by Combined = refl

pub legal_entries_reply_alike : LegalEntriesReplyAlike
legal_entries_reply_alike schema user entries world other admits legal = replies_alike schema user world other entries legal admits

pub countermodel_alike : CountermodelsAreAlike
countermodel_alike schema world user entries goal other admits legal guards is =
    let knows : all_hold_in schema other (known user) ≡ true = known_holds schema other user entries is.premises_true in
    let admits_there : admitted schema other user ≡ true = admitted_again schema world user other admits knows in
    let legal_there : IsLegal schema other user entries = legal_again schema user goal world other entries legal guards is in
    record {
      of_schema = is.of_schema;
      knowledge_true = knows;
      admits = admits_there;
      legal = legal_there;
      same_replies = replies_alike schema user world other entries legal_there (admits_there ∙ sym admits);
    }

pub logs_keep_secrets : LogsKeepSecrets
logs_keep_secrets schema world user entries valid of_schema sentences admissible legal =
    none_passes (λ goal. entails schema (log user entries) (goal, true)) (guarded (user_at user entries)) kept
  where
    begin : (goal : Formula) → Contains (guarded (user_at user [])) goal → HasCountermodel schema (log user []) goal
    begin goal guards =
        let first : Contains (guarded user) goal = subst (λ u. Contains (guarded u) goal) (user_at-nil user) guards in
        subst (λ premises. HasCountermodel schema premises goal) (sym (log-nil user))
        (entails-false schema (known user) (goal, true) (list_any-false _ (guarded user) admissible.knows_no_secret goal first))

    kept : (goal : Formula) → Contains (guarded (user_at user entries)) goal → entails schema (log user entries) (goal, true) ≡ false
    kept goal guards =
        let final : HasCountermodel schema (log user entries) goal =
        legal_shields schema world user valid of_schema entries legal sentences [] entries refl begin goal guards in
        false_if_not_true _ (λ e.
        true_is_not_false (sym (entails-true schema (log user entries) (goal, true) e final.0 final.1.of_schema final.1.premises_true)
        ∙ final.1.goal_false))
