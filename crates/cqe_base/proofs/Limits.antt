-- What the limits of a user bound.
use Rattle.std.proofs.Common.{◌≡◌, ℕ, ◌+◌, ◌≤◌, Bool, true, false, ltb, List, [], ◌∷◌, ◌++◌, length, refl, sym, subst, ◌∙◌, append_assoc, append-nil}
use Rattle.std.proofs.Common.{length-append, arith}
use Rattle.std.specs.Prelude.{nat_le, sum_by, fold}
use Rattle.std.specs.List.{list_all}
use Rattle.std.proofs.lemmas.Bool.{ltb-false}
use Rattle.std.proofs.lemmas.Bool.Decides.{nat_tests}
use Rattle.std.proofs.lemmas.List.Sums.{sum_by-cons}
use Rattle.cqe_base.specs.declared.user.Method.{Method}
use Rattle.cqe_base.specs.declared.user.Method.TheVariants.{Lying, Refusal, Combined}
use Rattle.cqe_base.specs.declared.user.Mark.{Mark}
use Rattle.cqe_base.specs.declared.user.Mark.TheVariants.{Yes, No, Refused, Undecided, Protected}
use Rattle.cqe_base.specs.Schema.{DatabaseSchema}
use Rattle.cqe_base.specs.Formula.{Formula, disjunction, nodes, is_sentence_of}
use Rattle.cqe_base.specs.History.{UserProfile, AnsweredQuery, History, is_added, secrets_by, added_secrets, user_at, known, signed_nodes, view_size}
use Rattle.cqe_base.specs.History.{disjunction_of, is_history_of}
use Rattle.cqe_base.specs.Censor.{guarded_by, guard_by}
use Rattle.cqe_base.specs.Run.{is_too_large, is_too_large_secret, has_all_secrets}
use Rattle.cqe_base.specs.Limits.{is_small, KeepsLimits, KeepsSizesAt, KeepsSizes, SizesAreOfSchema, SecretsStayFew, LimitsFitProbes, AmendedFitProbes}
use Rattle.cqe_base.specs.Limits.{SmallSecretsFit, SmallQueriesFit}
use Rattle.cqe_base.proofs.Truths.{list_all-map, list_all-append, and_first, and_second, and_both, or_first, or_second}
use Rattle.cqe_base.proofs.Logs.{user_at-nil, secrets-push, known_sentences}
use Rattle.cqe_base.proofs.ViewSizes.{size-known, view_size-empty}
use Rattle.cqe_base.proofs.Disjunctions.{guarded_sentences, guard_sentence}

-- the nodes of the negations of the secrets
abbrev negated_nodes : DatabaseSchema → List Formula → ℕ
negated_nodes schema secrets = sum_by (λ s. 1 + nodes schema s) secrets

-- the nodes of a list of sentences and negations
abbrev log_nodes : DatabaseSchema → List (Formula × Bool) → ℕ
log_nodes schema signed = sum_by (λ s. signed_nodes schema s.0 s.1) signed

negated_nodes-cons : (schema : DatabaseSchema) (s : Formula) (secrets : List Formula)
    → negated_nodes schema (s ∷ secrets) ≡ 1 + nodes schema s + negated_nodes schema secrets
negated_nodes-cons schema s secrets = sum_by-cons (λ s. 1 + nodes schema s) s secrets

nodes-fold : (schema : DatabaseSchema) (s : Formula) (secrets : List Formula)
    → nodes schema (fold disjunction s secrets) ≡ nodes schema s + negated_nodes schema secrets
nodes-fold schema s [] = omega arith
nodes-fold schema s (t ∷ secrets) = nodes-fold schema (disjunction s t) secrets ∙ omega (arith, negated_nodes-cons schema t secrets)

-- a disjunction has fewer nodes than the negations of its sentences
nodes-disjunction : (schema : DatabaseSchema) (secrets : List Formula) → 1 ≤ length secrets
    → nodes schema (disjunction_of secrets) + 1 ≡ negated_nodes schema secrets
nodes-disjunction schema [] some = absurd (omega arith)
nodes-disjunction schema (s ∷ secrets) some = omega (arith, nodes-fold schema s secrets, negated_nodes-cons schema s secrets)

-- small sentences are smaller than a goal may be
small_goals : (schema : DatabaseSchema) (secrets : List Formula) → list_all (is_small schema) secrets ≡ true
    → list_all (λ goal. nat_le (nodes schema goal) 40000) secrets ≡ true
small_goals schema [] small = refl
small_goals schema (s ∷ secrets) small = and_both _ _ (larger (nodes schema s) (and_first _ _ small)) (small_goals schema secrets (and_second _ _ small))
  where
    larger : (n : ℕ) → nat_le n 20000 ≡ true → nat_le n 40000 ≡ true
    larger n low = grind (arith, nat_tests)

within : (n : ℕ) → n ≤ 40000 → nat_le n 40000 ≡ true
within n low = grind (arith, nat_tests)

-- some secret has nodes with its negation
some_nodes : (schema : DatabaseSchema) (secrets : List Formula) → 1 ≤ length secrets → 1 ≤ negated_nodes schema secrets
some_nodes schema [] some = absurd (omega arith)
some_nodes schema (s ∷ secrets) some = omega (arith, negated_nodes-cons schema s secrets)

-- ---- secrets within the limits

-- these secrets are within the limits of a user
record SecretLimits (schema : DatabaseSchema) (secrets : List Formula) : Type 0 where
  sentences : list_all (is_sentence_of schema) secrets ≡ true
  small : list_all (is_small schema) secrets ≡ true
  some : 1 ≤ length secrets
  few : length secrets ≤ 16
  sum : negated_nodes schema secrets ≤ 40000

-- one more sentence is
record IsSmallSecret (schema : DatabaseSchema) (secrets : List Formula) (secret : Formula) : Type 0 where
  own : nodes schema secret ≤ 20000
  sum : negated_nodes schema (secrets ++ secret ∷ []) ≤ 40000

small_secret : (schema : DatabaseSchema) (user : UserProfile) (entries : History) (secret : Formula)
    → is_too_large_secret schema user entries secret ≡ false → IsSmallSecret schema (user_at user entries).secrets secret
small_secret schema user entries secret small =
    let query = or_first (is_too_large schema user entries secret) _ small in
    let sums = or_second (is_too_large schema user entries secret) _ small in
    record {
      own = ltb-false 20000 (nodes schema secret) (or_first _ _ query);
      sum = ltb-false 40000 (negated_nodes schema ((user_at user entries).secrets ++ secret ∷ [])) (or_first _ _ sums);
    }

one_more : (schema : DatabaseSchema) (secrets : List Formula) (secret : Formula) → SecretLimits schema secrets → is_sentence_of schema secret ≡ true
    → IsSmallSecret schema secrets secret → nat_le 16 (length secrets) ≡ false → SecretLimits schema (secrets ++ secret ∷ [])
one_more schema secrets secret limits sentence small room = record {
  sentences = list_all-append (is_sentence_of schema) secrets (secret ∷ []) ∙ and_both _ _ limits.sentences (and_both _ _ sentence refl);
  small = list_all-append (is_small schema) secrets (secret ∷ []) ∙ and_both _ _ limits.small (and_both _ _ (is_low (nodes schema secret) small.own) refl);
  some = omega (arith, length-append secrets (secret ∷ []));
  few = let last = has_room (length secrets) room in omega (arith, length-append secrets (secret ∷ []));
  sum = small.sum;
}
  where
    is_low : (n : ℕ) → n ≤ 20000 → nat_le n 20000 ≡ true
    is_low n low = grind (arith, nat_tests)

    has_room : (n : ℕ) → nat_le 16 n ≡ false → n + 1 ≤ 16
    has_room n low = grind (arith, nat_tests)

sentences_of : (schema : DatabaseSchema) (user : UserProfile) (entries : History) → KeepsSizes schema user entries → (before after : History)
    → entries ≡ before ++ after → is_history_of schema after ≡ true
sentences_of schema user entries sizes before [] is = refl
sentences_of schema user entries sizes before (item ∷ after) is =
    and_both _ _ (sizes before item after is).sentence
    (sentences_of schema user entries sizes (before ++ item ∷ []) after (is ∙ sym (append_assoc before (item ∷ []) after)))

pub sizes_are_of_schema : SizesAreOfSchema
sizes_are_of_schema schema user entries sizes = sentences_of schema user entries sizes [] entries refl

module _ (schema : DatabaseSchema) (user : UserProfile) (limits : KeepsLimits schema user) where
  view_of_user : sum_by (nodes schema) user.know + negated_nodes schema user.secrets ≤ 40000
  view_of_user = subst (λ n. n ≤ 40000) (view_size-empty schema user) limits.view

  known_are_small : list_all (λ signed. is_small schema signed.0) (known user) ≡ true
  unfolding known
  known_are_small = list_all-map (λ signed. is_small schema signed.0) (λ sentence. (sentence, true)) user.know ∙ limits.small_known

  known_are_few : log_nodes schema (known user) ≤ 40000
  unfolding known
  known_are_few =
      let view = view_of_user in
      let low : sum_by (nodes schema) user.know ≤ 40000 = omega arith in
      subst (λ n. n ≤ 40000) (sym (size-known schema user.know)) low

  -- the user's own secrets are within the limits
  own_within : SecretLimits schema user.secrets
  own_within = record {
    sentences = and_second (list_all (is_sentence_of schema) user.know) _ limits.sentences;
    small = limits.small_secrets;
    some = limits.some_secret;
    few = limits.few_secrets;
    sum = let view = view_of_user in omega arith;
  }

  item_within : (before : History) (item : AnsweredQuery) → KeepsSizesAt schema user before item → SecretLimits schema (user_at user before).secrets
      → SecretLimits schema ((user_at user before).secrets ++ secrets_by item.mark item.query)
  item_within before item sizes old = by item.mark sizes.small_secret sizes.secret_room
    where
      same : SecretLimits schema ((user_at user before).secrets ++ [])
      same = subst (SecretLimits schema) (sym (append-nil (user_at user before).secrets)) old

      by : (mark : Mark) → (is_added mark ≡ true → is_too_large_secret schema user before item.query ≡ false)
          → (is_added mark ≡ true → has_all_secrets user before ≡ false) → SecretLimits schema ((user_at user before).secrets ++ secrets_by mark item.query)
      by Yes small room = same
      by No small room = same
      by Refused small room = same
      by Undecided small room = same
      by Protected small room =
          one_more schema (user_at user before).secrets item.query old sizes.sentence (small_secret schema user before item.query (small refl)) (room refl)

  all_within : (entries : History) → KeepsSizes schema user entries → (before after : History) → entries ≡ before ++ after
      → SecretLimits schema (user_at user before).secrets → SecretLimits schema (user_at user entries).secrets
  all_within entries sizes before [] is old = subst (λ es. SecretLimits schema (user_at user es).secrets) (sym (is ∙ append-nil before)) old
  all_within entries sizes before (item ∷ after) is old =
      all_within entries sizes (before ++ item ∷ []) after (is ∙ sym (append_assoc before (item ∷ []) after))
      (subst (SecretLimits schema) (sym (secrets-push user before item)) (item_within before item (sizes before item after is) old))

  -- and so are those at the end of a history within the limits
  secrets_within : (entries : History) → KeepsSizes schema user entries → SecretLimits schema (user_at user entries).secrets
  secrets_within entries sizes =
      all_within entries sizes [] entries refl (subst (λ u. SecretLimits schema u.secrets) (sym (user_at-nil user)) own_within)

pub secrets_stay_few : SecretsStayFew
secrets_stay_few schema user entries limits sizes = let all = secrets_within schema user limits entries sizes in all.few

-- ---- what fits the probes

guarded_are_small : (schema : DatabaseSchema) (secrets : List Formula) → SecretLimits schema secrets → (m : Method)
    → list_all (λ goal. nat_le (nodes schema goal) 40000) (guarded_by m secrets) ≡ true
guarded_are_small schema secrets limits Lying =
    let one = nodes-disjunction schema secrets limits.some in
    let all = limits.sum in
    and_both _ _ (within (nodes schema (disjunction_of secrets)) (omega arith)) refl
guarded_are_small schema secrets limits Refusal = small_goals schema secrets limits.small
guarded_are_small schema secrets limits Combined = small_goals schema secrets limits.small

pub amended_fit_probes : AmendedFitProbes
unfolding known
amended_fit_probes schema user entries limits sizes =
    let all = secrets_within schema user limits entries sizes in
    let sentences = and_first _ (list_all (is_sentence_of schema) user.secrets) limits.sentences in
    record {
      known_sentences = known_sentences schema (user_at user entries) (and_both _ _ sentences all.sentences);
      known_small = known_are_small schema user limits;
      known_nodes = known_are_few schema user limits;
      secret_sentences = all.sentences;
      secret_nodes = small_goals schema (user_at user entries).secrets all.small;
      few_secrets = all.few;
      guarded_sentences = guarded_sentences schema user.method (user_at user entries).secrets all.sentences;
      guarded_nodes = guarded_are_small schema (user_at user entries).secrets all user.method;
      budget = limits.budget;
    }

pub limits_fit_probes : LimitsFitProbes
limits_fit_probes schema user limits =
    let own = own_within schema user limits in
    record {
      known_sentences = known_sentences schema user limits.sentences;
      known_small = known_are_small schema user limits;
      known_nodes = known_are_few schema user limits;
      secret_sentences = own.sentences;
      secret_nodes = small_goals schema user.secrets own.small;
      few_secrets = own.few;
      guarded_sentences = guarded_sentences schema user.method user.secrets own.sentences;
      guarded_nodes = guarded_are_small schema user.secrets own user.method;
      budget = limits.budget;
    }

pub small_secrets_fit : SmallSecretsFit
small_secrets_fit schema user entries secret limits sizes sentence is_small =
    let all = secrets_within schema user limits entries sizes in
    let small = small_secret schema user entries secret is_small in
    record {
      goal_sentence = guard_sentence schema user.method (user_at user entries).secrets secret all.sentences sentence;
      goal_nodes = by user.method small;
    }
  where
    by : (m : Method) → IsSmallSecret schema (user_at user entries).secrets secret
        → nodes schema (guard_by m ((user_at user entries).secrets ++ secret ∷ []) secret) ≤ 40000
    by Lying small =
        let sum = small.sum in
        let one = nodes-disjunction schema ((user_at user entries).secrets ++ secret ∷ [])
        (omega (arith, length-append (user_at user entries).secrets (secret ∷ []))) in
        omega arith
    by Refusal small = let own = small.own in omega arith
    by Combined small = let own = small.own in omega arith

-- ---- what fits the log

-- a negation has at most one node more
signed_nodes-le : (schema : DatabaseSchema) (query : Formula) (yes : Bool) → signed_nodes schema query yes ≤ 1 + nodes schema query
signed_nodes-le schema query true = omega arith
signed_nodes-le schema query false = omega arith

pub small_queries_fit : SmallQueriesFit
unfolding view_size
small_queries_fit schema user entries query limits small =
    let size : nodes schema query ≤ 20000 = ltb-false 20000 (nodes schema query) (or_first _ _ small) in
    let view : view_size schema user entries + nodes schema query ≤ 60000 =
    ltb-false 60000 (view_size schema user entries + nodes schema query) (or_second (ltb 20000 (nodes schema query)) _ small) in
    let own = limits.some_secret in
    let secrets = some_nodes schema (user_at user entries).secrets (omega (arith, length-append user.secrets (added_secrets entries))) in
    record {
      query_nodes = size;
      log_nodes = λ yes. let one = signed_nodes-le schema query yes in omega arith;
    }
