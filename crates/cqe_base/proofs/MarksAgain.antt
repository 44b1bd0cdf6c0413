-- A world in which what was told is true, and for lying the disjunction of the secrets false, gives the marks of the table again.
use Rattle.std.proofs.Common.{◌≡◌, Bool, true, false, List, [], ◌∷◌, ◌++◌, refl, sym, ap, subst, ◌∙◌, append_assoc, arith}
use Rattle.std.specs.Prelude.{Contains}
use Rattle.std.proofs.lemmas.Bool.{not-true}
use Rattle.cqe_base.specs.declared.user.Method.{Method}
use Rattle.cqe_base.specs.declared.user.Method.TheVariants.{Lying, Refusal, Combined}
use Rattle.cqe_base.specs.declared.user.Mark.{Mark}
use Rattle.cqe_base.specs.declared.user.Mark.TheVariants.{Yes, No}
use Rattle.cqe_base.specs.Schema.{DatabaseSchema}
use Rattle.cqe_base.specs.Facts.{FactSet, IsWorldOf}
use Rattle.cqe_base.specs.Formula.{Formula}
use Rattle.cqe_base.specs.Truth.{true_in}
use Rattle.cqe_base.specs.Entailment.{Signed, all_hold_in, IsCountermodel}
use Rattle.cqe_base.specs.History.{UserProfile, AnsweredQuery, History, told_by, added_secrets, user_at, log, disjunction_of}
use Rattle.cqe_base.specs.Censor.{guarded, guarded_by, entails_some, yes_harm, no_harm, implied, mark_by}
use Rattle.cqe_base.proofs.Truths.{true_is_not_false}
use Rattle.cqe_base.proofs.Logs.{all_hold_in-second, holds_in-one, log-push, log_prefix_holds, secrets-append}
use Rattle.cqe_base.proofs.Disjunctions.{first_disjunction_false}
use Rattle.cqe_base.proofs.Marks.{lying_again, refusal_again, combined_again}
use Rattle.cqe_base.proofs.Worlds.{entails-true}
use Rattle.cqe_base.proofs.Guarding.{lying_guards_one, the_one}

module _ (schema : DatabaseSchema) (user : UserProfile) where
  -- the mark that the table gives where a probe counts as spent or not and the query has this truth value
  abbrev table : Bool → List Signed → Formula → Method → Bool → Mark
  table some_spent before query m truth =
      mark_by m some_spent (implied schema user before query) (yes_harm schema user before query) (no_harm schema user before query) truth

  module _ (world other : FactSet) (of_schema : IsWorldOf schema other)
      (all_false : user.method ≡ Lying → true_in schema other (disjunction_of user.secrets) ≡ false) where
    told_yes : (before : List Signed) (query : Formula) (mark : Mark) → all_hold_in schema other (before ++ told_by mark query) ≡ true → mark ≡ Yes
        → true_in schema other query ≡ true
    told_yes before query mark all e =
        holds_in-one schema other (query, true)
        (all_hold_in-second schema other before ((query, true) ∷ []) (subst (λ m. all_hold_in schema other (before ++ told_by m query) ≡ true) e all))

    told_no : (before : List Signed) (query : Formula) (mark : Mark) → all_hold_in schema other (before ++ told_by mark query) ≡ true → mark ≡ No
        → true_in schema other query ≡ false
    told_no before query mark all e =
        not-true (true_in schema other query)
        (holds_in-one schema other (query, false)
        (all_hold_in-second schema other before ((query, false) ∷ []) (subst (λ m. all_hold_in schema other (before ++ told_by m query) ≡ true) e all)))

    -- lying: the answer that was given isn't harmful, since in the other world it is true and the disjunction of the secrets is false
    given_harmless : user.method ≡ Lying → (before : List Signed) (query : Formula) (b : Bool)
        → entails_some schema (before ++ (query, b) ∷ []) (guarded user) ≡ true → all_hold_in schema other (before ++ (query, b) ∷ []) ≡ true → ⊥
    given_harmless lies before query b some all =
        true_is_not_false
        (sym (entails-true schema (before ++ (query, b) ∷ []) (disjunction_of user.secrets, true)
        (lying_guards_one schema (before ++ (query, b) ∷ []) user.secrets user.method lies (disjunction_of user.secrets) guards some) other of_schema all)
        ∙ all_false lies)
      where
        guards : Contains (guarded user) (disjunction_of user.secrets)
        guards = subst (λ m. Contains (guarded_by m user.secrets) (disjunction_of user.secrets)) (sym lies) (0, omega arith, refl)

    -- the table gives the mark again
    pub table_again : (some_spent : Bool) (before : List Signed) (query : Formula) (mark : Mark)
        → all_hold_in schema other (before ++ told_by mark query) ≡ true
        → mark ≡ table some_spent before query user.method (true_in schema world query)
        → mark ≡ table some_spent before query user.method (true_in schema other query)
    unfolding yes_harm no_harm
    table_again some_spent before query mark all is = by user.method refl is
      where
        yes : mark ≡ Yes → true_in schema other query ≡ true
        yes = told_yes before query mark all

        no' : mark ≡ No → true_in schema other query ≡ false
        no' = told_no before query mark all

        not_harmful_yes : user.method ≡ Lying → mark ≡ Yes → (b : Bool) → yes_harm schema user before query ≡ b → b ≡ false
        not_harmful_yes lies e true h =
            absurd (given_harmless lies before query true h (subst (λ m. all_hold_in schema other (before ++ told_by m query) ≡ true) e all))
        not_harmful_yes lies e false h = refl

        not_harmful_no : user.method ≡ Lying → mark ≡ No → (b : Bool) → no_harm schema user before query ≡ b → b ≡ false
        not_harmful_no lies e true h =
            absurd (given_harmless lies before query false h (subst (λ m. all_hold_in schema other (before ++ told_by m query) ≡ true) e all))
        not_harmful_no lies e false h = refl

        by : (m : Method) → user.method ≡ m → mark ≡ table some_spent before query m (true_in schema world query)
            → mark ≡ table some_spent before query m (true_in schema other query)
        by Lying lies e =
            e ∙ lying_again _ _ _ _ _ _ (λ p. yes (e ∙ p)) (λ p. no' (e ∙ p)) (λ p. not_harmful_yes lies (e ∙ p) _ refl)
            (λ p. not_harmful_no lies (e ∙ p) _ refl)
        by Refusal refuses e = e ∙ refusal_again _ _ _ _ _ _ (λ p. yes (e ∙ p)) (λ p. no' (e ∙ p))
        by Combined combines e = e ∙ combined_again _ _ _ _ _ _ (λ p. yes (e ∙ p)) (λ p. no' (e ∙ p))

-- ---- along a history, in a world in which its log is true and a guarded sentence false

module _ (schema : DatabaseSchema) (user : UserProfile) (g : Formula) (other : FactSet) (entries : History)
    (guards : Contains (guarded (user_at user entries)) g) (is_counter : IsCountermodel schema (log user entries) (g, true) other) where
  -- what an item tells is true
  pub told_true : (before : History) (item : AnsweredQuery) (after : History) → entries ≡ before ++ item ∷ after
      → all_hold_in schema other (log user before ++ told_by item.mark item.query) ≡ true
  told_true before item after is =
      subst (λ premises. all_hold_in schema other premises ≡ true) (log-push user before item)
      (log_prefix_holds schema other user entries (before ++ item ∷ []) after (is ∙ sym (append_assoc before (item ∷ []) after)) is_counter.premises_true)

  -- for lying the guarded sentence is the disjunction of the secrets
  disjunction_now : (m : Method) → m ≡ Lying → Contains (guarded_by m (user_at user entries).secrets) g
      → true_in schema other (disjunction_of (user_at user entries).secrets) ≡ false
  disjunction_now Lying lies within =
      ap (true_in schema other) (sym (the_one (disjunction_of (user_at user entries).secrets) g within)) ∙ is_counter.goal_false
  disjunction_now Refusal lies within = absurd cc
  disjunction_now Combined lies within = absurd cc

  -- where it is false, so is that of the secrets that were there before
  pub disjunction_then : (before after : History) → entries ≡ before ++ after → user.method ≡ Lying
      → true_in schema other (disjunction_of (user_at user before).secrets) ≡ false
  disjunction_then before after is lies =
      first_disjunction_false schema other (user_at user before).secrets (added_secrets after)
      (ap (λ secrets. true_in schema other (disjunction_of secrets)) (sym (secrets-append user before after) ∙ ap (λ es. (user_at user es).secrets) (sym is))
      ∙ disjunction_now user.method lies guards)
