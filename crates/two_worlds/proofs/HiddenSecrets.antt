-- Each countermodel of the log against what is guarded for a secret hides it.
use Rattle.std.proofs.Common.{◌≡◌, ℕ, ◌<◌, Bool, true, false, List, length, refl, sym, ap, subst, ◌∙◌, arith}
use Rattle.std.specs.Prelude.{Contains, Option, Some, None, Result, Ok, Err, IfOk, IfSome}
use Rattle.std.specs.List.{list_any, list_all}
use Rattle.std.proofs.lemmas.Bool.{both_ways}
use Rattle.std.proofs.lemmas.List.Elements.{Contains-get_or}
use Rattle.std.proofs.lemmas.List.Folds.{list_any_at}
use Rattle.std.proofs.lemmas.List.Sums.{AllPass-from_list_all}
use Rattle.cqe_base.specs.declared.user.Method.{Method}
use Rattle.cqe_base.specs.declared.user.Method.TheVariants.{Lying, Refusal, Combined}
use Rattle.cqe_base.specs.Schema.{DatabaseSchema, is_valid_schema}
use Rattle.cqe_base.specs.Facts.{FactSet}
use Rattle.cqe_base.specs.Formula.{Formula, falsum}
use Rattle.cqe_base.specs.Truth.{true_in}
use Rattle.cqe_base.specs.Entailment.{entails, IsCountermodel}
use Rattle.cqe_base.specs.History.{UserProfile, History, secret_at, log, user_at, is_user_of, is_history_of}
use Rattle.cqe_base.specs.Censor.{guarded, guarded_by, guard_by}
use Rattle.cqe_base.specs.Hiding.{IsAlike, AdmittedAreAdmissible}
use Rattle.cqe_base.specs.OtherWorlds.{guard_at, IsLegalSomewhere, LogsKeepSecrets, CountermodelsAreAlike, LegalEntriesReplyAlike}
use Rattle.cqe_base.specs.OtherWorlds.{FalseDisjunctions}
use Rattle.cqe_base.specs.Censor.{admission_budget}
use Rattle.entailment.specs.Verdicts.{verdict_of_probe}
use Rattle.two_worlds.specs.Others.{HidesSecret}
use Rattle.two_worlds.specs.OtherWorld.{world_in, other_world_of, IsOneForLies}

-- what is guarded for a secret is one of the guarded sentences
guards : (m : Method) (secrets : List Formula) (k : ℕ) (s : Formula) → Contains secrets s → Contains (guarded_by m secrets) (guard_by m secrets s)
guards Lying secrets k s within = (0, omega arith, refl)
guards Refusal secrets k s within = within
guards Combined secrets k s within = within

-- an element of a list in which none passes doesn't pass
none_of : (p : Formula → Bool) (xs : List Formula) (x : Formula) → list_any p xs ≡ false → Contains xs x → p x ≡ false
none_of p xs x none (k, low, is) = by (p x) refl
  where
    by : (b : Bool) → p x ≡ b → b ≡ false
    by true e = absurd (both_ways _ none (list_any_at p xs k x low (ap p is ∙ e)))
    by false e = refl

module _ (user : UserProfile) (secret : ℕ) (low : secret < length user.secrets) where
  is_secret : Contains user.secrets (secret_at user secret)
  is_secret = Contains-get_or user.secrets secret falsum low

  is_guarded : Contains (guarded user) (guard_at user secret)
  is_guarded = guards user.method user.secrets secret (secret_at user secret) is_secret

  -- what is guarded for it passes each test that all guarded sentences pass
  pub guard_passes : (p : Formula → Bool) → list_all p (guarded user) ≡ true → p (guard_at user secret) ≡ true
  guard_passes p all =
      let within = is_guarded in
      ap p (sym within.2) ∙ AllPass-from_list_all p (guarded user) all within.0 (guard_at user secret) within.1

module _ (schema : DatabaseSchema) (user : UserProfile) (entries : History) (secret : ℕ) (low : secret < length (user_at user entries).secrets) where
  -- the log doesn't entail what is guarded for the secret
  pub unknown : AdmittedAreAdmissible → LogsKeepSecrets → is_valid_schema schema ≡ true → is_user_of schema user ≡ true
      → is_history_of schema entries ≡ true → IsLegalSomewhere schema user entries
      → entails schema (log user entries) (guard_at (user_at user entries) secret, true) ≡ false
  unknown admissible kept valid of_schema sentences somewhere =
      none_of (λ goal. entails schema (log user entries) (goal, true)) (guarded (user_at user entries)) (guard_at (user_at user entries) secret)
      (kept schema somewhere.world user entries valid of_schema sentences
      (admissible schema somewhere.world user valid of_schema somewhere.admits) somewhere.legal)
      (is_guarded (user_at user entries) secret low)

  module _ (other : FactSet) (disjunctions : FalseDisjunctions) where
    -- where it is false the secret is
    secret_is_false : (m : Method) → true_in schema other (guard_by m (user_at user entries).secrets (secret_at (user_at user entries) secret)) ≡ false
        → true_in schema other (secret_at (user_at user entries) secret) ≡ false
    secret_is_false Lying e =
        disjunctions schema other (user_at user entries).secrets e (secret_at (user_at user entries) secret) (is_secret (user_at user entries) secret low)
    secret_is_false Refusal e = e
    secret_is_false Combined e = e

    pub hidden : CountermodelsAreAlike → LegalEntriesReplyAlike → IsLegalSomewhere schema user entries
        → IsCountermodel schema (log user entries) (guard_at (user_at user entries) secret, true) other
        → HidesSecret schema user entries secret other
    hidden alike replies somewhere is =
        let same : IsAlike schema user entries somewhere.world other =
        alike schema somewhere.world user entries (guard_at (user_at user entries) secret) other somewhere.admits somewhere.legal
        (is_guarded (user_at user entries) secret low) is in
        record {
          of_schema = same.of_schema;
          knowledge_true = same.knowledge_true;
          secret_false = secret_is_false user.method is.goal_false;
          all_false = λ lies.
              disjunctions schema other (user_at user entries).secrets
              (subst (λ m. true_in schema other (guard_by m (user_at user entries).secrets (secret_at (user_at user entries) secret)) ≡ false) lies
              is.goal_false);
          admits = same.admits;
          legal = same.legal;
          same_replies = λ world admits. replies schema user entries world other (same.admits ∙ sym admits) same.legal;
        }

-- what holds of each world that is found
pub of_found : {E : Type 0} (P Q : FactSet → Type 0) → ((world : FactSet) → P world → Q world) → (result : Result (Option FactSet) E)
    → IfOk result (λ found. IfSome found P) → IfOk result (λ found. IfSome found Q)
of_found P Q more (Ok (Some world)) holds = more world holds
of_found P Q more (Ok None) holds = holds
of_found P Q more (Err e) holds = holds

-- what is guarded from a liar is the same for each of his secrets, and so is his other world
pub one-for-lies : (schema : DatabaseSchema) (user : UserProfile) (entries : History) (secret : ℕ)
    (found : Option FactSet) → found ≡ other_world_of schema user entries secret
    → IsOneForLies schema user entries found
one-for-lies schema user entries secret found is lies other =
    let now = user_at user entries in
    let guards_one : guard_at now secret ≡ guard_at now other =
    ap (λ m. guard_by m now.secrets (secret_at now secret)) lies
    ∙ ap (λ m. guard_by m now.secrets (secret_at now other)) (sym lies) in
    let found_for : Formula → Option FactSet =
    λ goal. world_in (verdict_of_probe schema (log user entries) (goal, true) admission_budget) in
    is ∙ ap found_for guards_one
