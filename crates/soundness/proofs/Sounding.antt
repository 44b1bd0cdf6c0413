-- Along a sound history the log never entails a guarded sentence, and a world in which the log is true and the sentence false has the history sound.
use Rattle.std.proofs.Common.{◌≡◌, Bool, true, false, List, [], ◌∷◌, ◌++◌, refl, sym, ap, subst, ◌∙◌, ◌⊎◌, inl, inr, append_assoc, append-nil, arith}
use Rattle.std.specs.Prelude.{Contains, Option}
use Rattle.cqe_base.specs.declared.user.Method.{Method}
use Rattle.cqe_base.specs.declared.user.Method.TheVariants.{Lying, Refusal, Combined}
use Rattle.cqe_base.specs.declared.user.Mark.{Mark}
use Rattle.cqe_base.specs.declared.user.Mark.TheVariants.{Yes, No, Refused, Undecided, Protected}
use Rattle.cqe_base.specs.Schema.{DatabaseSchema, is_valid_schema}
use Rattle.cqe_base.specs.Facts.{FactSet}
use Rattle.cqe_base.specs.Formula.{Formula, is_sentence_of}
use Rattle.cqe_base.specs.Truth.{true_in}
use Rattle.cqe_base.specs.Entailment.{Signed, all_hold_in, IsCountermodel}
use Rattle.cqe_base.specs.History.{UserProfile, AnsweredQuery, History, disjunction_of, told_by, is_added, secrets_by, user_at, known, log, is_user_of}
use Rattle.cqe_base.specs.History.{is_history_of}
use Rattle.cqe_base.specs.Censor.{guarded, guarded_by, guarded_with, mark_by, rule, safe_after, knows_truth_by, IsAdmissible, IsLegal}
use Rattle.cqe_base.proofs.Truths.{true_is_not_false, false_if_not_true, list_any-false, and_first}
use Rattle.cqe_base.proofs.Logs.{log-nil, log-push, user_at-nil, secrets-push, known_holds, history-first, history-second}
use Rattle.cqe_base.proofs.Disjunctions.{disjunction_false}
use Rattle.cqe_base.proofs.Worlds.{entails-true, entails-false}
use Rattle.cqe_base.proofs.Legal.{each-push}
use Rattle.cqe_base.proofs.Guarding.{guarded-push}
use Rattle.cqe_base.proofs.Shielding.{HasCountermodel, table_shields}
use Rattle.cqe_base.proofs.MarksAgain.{table_again, told_true, disjunction_then}
use Rattle.cqe_base.proofs.Secrets.{safe_shields}
use Rattle.soundness.specs.Sound.{is_settled, unspent_mark, entails_with, IsSoundItem, IsSound, IsSoundThere, SoundHistoriesHide, EmptyHistoryIsSound}
use Rattle.soundness.specs.Sound.{SoundHistoriesGrow, LegalHistoriesAreSound}

module _ (schema : DatabaseSchema) (world : FactSet) (user : UserProfile) where
  -- each sentence that is guarded where these are the secrets is false in some world in which the premises are true
  abbrev AllShielded : List Formula → List Signed → Type 0
  AllShielded secrets premises = (g : Formula) → Contains (guarded_by user.method secrets) g → HasCountermodel schema premises g

  -- the mark of an ask that was settled shields
  settled_shields : (before : History) (query : Formula) (mark : Mark) → mark ≡ unspent_mark schema world user before query
      → AllShielded (user_at user before).secrets (log user before)
      → AllShielded ((user_at user before).secrets ++ []) (log user before ++ told_by mark query)
  settled_shields before query mark is all =
      subst (λ secrets. AllShielded secrets (log user before ++ told_by mark query)) (sym (append-nil (user_at user before).secrets))
      (λ g guards. subst (λ m. HasCountermodel schema (log user before ++ told_by m query) g) (sym is)
      (table_shields schema (user_at user before) g guards (log user before) query false (true_in schema world query) (all g guards)))

  -- an undecided ask tells nothing
  undecided_shields : (before : History) → AllShielded (user_at user before).secrets (log user before)
      → AllShielded ((user_at user before).secrets ++ []) (log user before ++ [])
  undecided_shields before all =
      subst (λ secrets. AllShielded secrets (log user before ++ [])) (sym (append-nil (user_at user before).secrets))
      (subst (AllShielded (user_at user before).secrets) (sym (append-nil (log user before))) all)

  -- what is guarded with one more secret wasn't entailed, or was guarded before
  added_shields : (before : History) (s : Formula) → entails_with schema user before s ≡ false
      → AllShielded (user_at user before).secrets (log user before)
      → AllShielded ((user_at user before).secrets ++ s ∷ []) (log user before ++ [])
  added_shields before s unentailed all g guards =
      subst (λ premises. HasCountermodel schema premises g) (sym (append-nil (log user before)))
      (by (guarded-push user.method (user_at user before).secrets s g guards))
    where
      by : Contains (guarded_by user.method (user_at user before).secrets) g ⊎ (g ≡ guarded_with (user_at user before) s)
          → HasCountermodel schema (log user before) g
      by (inl old) = all g old
      by (inr e) =
          subst (HasCountermodel schema (log user before)) (sym e)
          (entails-false schema (log user before) (guarded_with (user_at user before) s, true) unentailed)

  item_shields : (before : History) (item : AnsweredQuery) → IsSoundItem schema world user before item
      → AllShielded (user_at user before).secrets (log user before)
      → AllShielded ((user_at user before).secrets ++ secrets_by item.mark item.query) (log user before ++ told_by item.mark item.query)
  item_shields before item sound all = by item.mark sound.has_mark sound.is_unentailed
    where
      by : (mark : Mark) → (is_settled mark ≡ true → mark ≡ unspent_mark schema world user before item.query)
          → (is_added mark ≡ true → entails_with schema user before item.query ≡ false)
          → AllShielded ((user_at user before).secrets ++ secrets_by mark item.query) (log user before ++ told_by mark item.query)
      by Yes ruled fine = settled_shields before item.query Yes (ruled refl) all
      by No ruled fine = settled_shields before item.query No (ruled refl) all
      by Refused ruled fine = settled_shields before item.query Refused (ruled refl) all
      by Undecided ruled fine = undecided_shields before all
      by Protected ruled fine = added_shields before item.query (fine refl) all

  -- along a sound history the log never entails what is guarded then
  sound_shields : (entries : History) → IsSound schema world user entries → (before after : History) → entries ≡ before ++ after
      → AllShielded (user_at user before).secrets (log user before) → AllShielded (user_at user entries).secrets (log user entries)
  sound_shields entries sound before [] is all =
      subst (λ es. AllShielded (user_at user es).secrets (log user es)) (sym (is ∙ append-nil before)) all
  sound_shields entries sound before (item ∷ after) is all =
      let next : AllShielded ((user_at user before).secrets ++ secrets_by item.mark item.query) (log user before ++ told_by item.mark item.query) =
      item_shields before item (sound before item after is) all in
      sound_shields entries sound (before ++ item ∷ []) after (is ∙ sym (append_assoc before (item ∷ []) after))
      (subst (λ secrets. AllShielded secrets (log user (before ++ item ∷ []))) (sym (secrets-push user before item))
      (subst (AllShielded ((user_at user before).secrets ++ secrets_by item.mark item.query)) (sym (log-push user before item)) next))

-- what a countermodel of the end has true and false at the items before gives each settled mark again
sound_again : (schema : DatabaseSchema) (user : UserProfile) (g : Formula) (world other : FactSet) (entries : History) → IsSound schema world user entries
    → Contains (guarded (user_at user entries)) g → IsCountermodel schema (log user entries) (g, true) other → IsSound schema other user entries
sound_again schema user g world other entries sound guards is_counter before item after is = record {
  has_mark = λ settled.
      table_again schema (user_at user before) world other is_counter.of_schema
      (disjunction_then schema user g other entries guards is_counter before (item ∷ after) is) false (log user before) item.query item.mark
      (told_true schema user g other entries guards is_counter before item after is) ((sound before item after is).has_mark settled);
  is_unentailed = (sound before item after is).is_unentailed;
}

-- an admissible user is admissible in each world in which what he knows is true
admissible_again : (schema : DatabaseSchema) (world other : FactSet) (user : UserProfile) → IsAdmissible schema world user
    → all_hold_in schema other (known user) ≡ true → IsAdmissible schema other user
admissible_again schema world other user admissible holds =
    record { knows_truth = by user.method; knows_no_secret = admissible.knows_no_secret }
  where
    by : (m : Method) → knows_truth_by m schema other (known user) ≡ true
    by Lying = refl
    by Refusal = holds
    by Combined = refl

module _ (schema : DatabaseSchema) (world : FactSet) (user : UserProfile) (admissible : IsAdmissible schema world user) (entries : History)
    (sound : IsSound schema world user entries) where
  -- a world of the schema for which the user is admissible and the history sound, with this false
  abbrev FalseThere : Formula → Type 0
  FalseThere g = (other : FactSet) × IsSoundThere schema user entries other × (true_in schema other g ≡ false)

  begin : (goal : Formula) → Contains (guarded (user_at user [])) goal → HasCountermodel schema (log user []) goal
  begin goal within =
      subst (λ premises. HasCountermodel schema premises goal) (sym (log-nil user))
      (entails-false schema (known user) (goal, true)
      (list_any-false _ (guarded user) admissible.knows_no_secret goal (subst (λ u. Contains (guarded u) goal) (user_at-nil user) within)))

  -- for each sentence that is guarded in the end there is such a world in which it is false
  there : (g : Formula) → Contains (guarded (user_at user entries)) g → FalseThere g
  there g guards = (
    final.0,
    record {
      of_schema = final.1.of_schema;
      knowledge_true = knows;
      admissible = admissible_again schema world final.0 user admissible knows;
      sound = sound_again schema user g world final.0 entries sound guards final.1;
    },
    final.1.goal_false,
  )
    where
      final : HasCountermodel schema (log user entries) g
      final = sound_shields schema world user entries sound [] entries refl begin g guards

      knows : all_hold_in schema final.0 (known user) ≡ true
      knows = known_holds schema final.0 user entries final.1.premises_true

  -- lying guards the disjunction of the secrets
  there_for_all : user.method ≡ Lying
      → (other : FactSet) × IsSoundThere schema user entries other
      × ((secret : Formula) → Contains (user_at user entries).secrets secret → true_in schema other secret ≡ false)
  there_for_all lies =
      let secrets = (user_at user entries).secrets in
      let r : FalseThere (disjunction_of secrets) =
      there (disjunction_of secrets) (subst (λ m. Contains (guarded_by m secrets) (disjunction_of secrets)) (sym lies) (0, omega arith, refl)) in
      (r.0, r.1, disjunction_false schema r.0 secrets r.2)

  there_for_each : (m : Method) → user.method ≡ m → (secret : Formula) → Contains (user_at user entries).secrets secret → FalseThere secret
  there_for_each Lying is secret within =
      let r : (other : FactSet) × IsSoundThere schema user entries other
      × ((secret : Formula) → Contains (user_at user entries).secrets secret → true_in schema other secret ≡ false) = there_for_all is in
      (r.0, r.1, r.2 secret within)
  there_for_each Refusal is secret within = there secret (subst (λ m. Contains (guarded_by m (user_at user entries).secrets) secret) (sym is) within)
  there_for_each Combined is secret within = there secret (subst (λ m. Contains (guarded_by m (user_at user entries).secrets) secret) (sym is) within)

pub sound_histories_hide : SoundHistoriesHide
sound_histories_hide schema world user entries admissible sound = record {
  each_secret = there_for_each schema world user admissible entries sound user.method refl;
  one_world = there_for_all schema world user admissible entries sound;
}

-- ---- growing, and legal histories

pub empty_history_is_sound : EmptyHistoryIsSound
empty_history_is_sound schema world user [] item after is = absurd cc
empty_history_is_sound schema world user (b ∷ before) item after is = absurd cc

pub sound_histories_grow : SoundHistoriesGrow
sound_histories_grow schema world user entries item sound next = each-push (IsSoundItem schema world user) entries item sound next

-- a mark of the table that is settled is that without a spent probe
unspent : (m : Method) (s : Bool) (i : Option Bool) (y n t : Bool) (mark : Mark) → is_settled mark ≡ true → mark ≡ mark_by m s i y n t
    → mark ≡ mark_by m false i y n t
unspent m false i y n t mark settled e = e
unspent Lying true i y n t mark settled e = absurd (true_is_not_false (sym settled ∙ ap is_settled e))
unspent Refusal true i y n t mark settled e = absurd (true_is_not_false (sym settled ∙ ap is_settled e))
unspent Combined true i y n t mark settled e = absurd (true_is_not_false (sym settled ∙ ap is_settled e))

settled_asked : (mark : Mark) → is_settled mark ≡ true → is_added mark ≡ false
settled_asked Yes e = refl
settled_asked No e = refl
settled_asked Refused e = refl
settled_asked Undecided e = refl
settled_asked Protected e = absurd (true_is_not_false (sym e))

module _ (schema : DatabaseSchema) (world : FactSet) (user : UserProfile) (valid : is_valid_schema schema ≡ true)
    (of_schema : is_user_of schema user ≡ true) where
  -- the probe of the log against what is guarded with a safe sentence was open, so that isn't entailed
  safe_unentailed : (before : History) (s : Formula) → is_history_of schema before ≡ true → is_sentence_of schema s ≡ true
      → safe_after schema user before s ≡ true → entails_with schema user before s ≡ false
  safe_unentailed before s sentences one safe =
      let shield : HasCountermodel schema (log user before) (guarded_with (user_at user before) s) =
      safe_shields schema world user valid of_schema before s sentences one safe in
      false_if_not_true _
      (λ e. true_is_not_false
      (sym (entails-true schema (log user before) (guarded_with (user_at user before) s, true) e shield.0 shield.1.of_schema shield.1.premises_true)
      ∙ shield.1.goal_false))

  module _ (entries : History) (sentences : is_history_of schema entries ≡ true) (legal : IsLegal schema world user entries) (before : History)
      (item : AnsweredQuery) (after : History) (is : entries ≡ before ++ item ∷ after) where
    legal_mark : is_settled item.mark ≡ true → item.mark ≡ unspent_mark schema world user before item.query
    unfolding rule
    legal_mark settled = unspent user.method _ _ _ _ _ item.mark settled ((legal before item after is).has_mark (settled_asked item.mark settled))

    legal_unentailed : is_added item.mark ≡ true → entails_with schema user before item.query ≡ false
    legal_unentailed added =
        let cut : is_history_of schema (before ++ item ∷ after) ≡ true = ap (is_history_of schema) (sym is) ∙ sentences in
        safe_unentailed before item.query (history-first schema before (item ∷ after) cut)
        (and_first _ _ (history-second schema before (item ∷ after) cut)) ((legal before item after is).is_safe added)

pub legal_histories_are_sound : LegalHistoriesAreSound
legal_histories_are_sound schema world user entries valid of_schema sentences legal before item after is = record {
  has_mark = legal_mark schema world user valid of_schema entries sentences legal before item after is;
  is_unentailed = legal_unentailed schema world user valid of_schema entries sentences legal before item after is;
}
