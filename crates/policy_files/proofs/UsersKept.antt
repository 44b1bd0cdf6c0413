-- The users of a policy keep the limits, and their names differ.
use Rattle.std.proofs.Common.{◌≡◌, ℕ, ◌+◌, ◌≤◌, true, false, List, [], ◌∷◌, ◌++◌, length, length-append, map, Ok, Err, Option, Some, None, refl, sym, ap, ◌∙◌}
use Rattle.std.proofs.Common.{subst, All, lit≤, arith}
use Rattle.std.specs.Prelude.{nat_le, codes, bytes_eq, if◌then◌else◌}
use Rattle.std.specs.List.{list_all, list_any}
use Rattle.std.proofs.lemmas.Bool.{or_parts, and_parts, and_from}
use Rattle.std.proofs.lemmas.Bool.Decides.{nat_tests}
use Rattle.std.proofs.lemmas.List.{map-append}
use Rattle.std.proofs.lemmas.List.Elements.{All-push, All-nil}
use Rattle.std.proofs.lemmas.List.Folds.{list_any-append}
use Rattle.toml.specs.Data.{Data, get, as_str, as_integer}
use Rattle.cqe_base.specs.Schema.{Text, DatabaseSchema, contains_text, has_duplicate, is_schema_name}
use Rattle.cqe_base.specs.History.{UserProfile, view_size}
use Rattle.cqe_base.specs.Reading.{ReadingsAreSentences}
use Rattle.cqe_base.specs.Formula.{Formula, nodes, negation, is_sentence_of}
use Rattle.cqe_base.specs.Limits.{is_small, KeepsLimits}
use Rattle.cqe_base.specs.Secrecies.{with_secrecies, SecretsHaveSecrecies, SecretsAllPass}
use Rattle.cqe_base.proofs.Lists.{other_text}
use Rattle.policy_files.specs.declared.keys.PolicyVersion.{PolicyVersion}
use Rattle.policy_files.specs.declared.error.KeyPlace.{KeyPlace}
use Rattle.policy_files.specs.declared.error.PolicyError.TheVariants.{WrongKind, DuplicateUser, Limit}
use Rattle.policy_files.specs.Tree.{natural}
use Rattle.policy_files.specs.Policies.{PolicyUser}
use Rattle.policy_files.specs.Keys.{only_keys, required, of_kind, within}
use Rattle.policy_files.specs.Users.{user_place, new_name, name_of, method_of, known_of, secrets_of, secrecies_of, all_secrets, fit_budget, budget_of, token_of}
use Rattle.policy_files.specs.Users.{with_small_view, user_of, users_behind, names_of}
use Rattle.policy_files.proofs.OkSteps.{first_ok, unless_ok, when_ok, same_ok, within_ok}
use Rattle.policy_files.proofs.SentencesKept.{all_more, AreSmallSentences, AreSomeSentences, known_ok, secrets_ok, secrecies_ok}

-- a name that is of the form, and no earlier one
pub record IsNewName (earlier : List Text) (name : Text) : Type 0 where
  pub proper : is_schema_name name ≡ true
  pub new : contains_text earlier name ≡ false

new_name_ok : (place : KeyPlace) (earlier : List Text) (text name : Text) → new_name place earlier text ≡ Ok name → IsNewName earlier name
new_name_ok place earlier text name e =
    let proper = when_ok (is_schema_name text) (WrongKind place) (if contains_text earlier text then Err (DuplicateUser place) else Ok text) name e in
    let new = unless_ok (contains_text earlier text) (DuplicateUser place) (Ok text) name proper.1 in
    let same : text ≡ name = same_ok text name new.1 in
    record { proper = subst (λ t. is_schema_name t ≡ true) same proper.0; new = subst (λ t. contains_text earlier t ≡ false) same new.0 }

name_ok : (earlier : List Text) (user : ℕ) (value : Option Data) (name : Text) → name_of earlier user value ≡ Ok name → IsNewName earlier name
name_ok earlier user value name e =
    first_ok (required as_str (user_place user (codes "name")) value) (new_name (user_place user (codes "name")) earlier) name e (λ text here rest.
    new_name_ok (user_place user (codes "name")) earlier text name rest)

-- ---- names that differ

differ_more : (names : List Text) (name : Text) → has_duplicate names ≡ false → contains_text names name ≡ false → has_duplicate (names ++ name ∷ []) ≡ false
differ_more [] name differ new = refl
differ_more (first ∷ names) name differ new =
    let before = or_parts (contains_text names first) (has_duplicate names) differ in
    let others = or_parts (bytes_eq name first) (contains_text names name) new in
    let here : contains_text (names ++ name ∷ []) first ≡ false =
    list_any-append (bytes_eq first) names (name ∷ []) ∙ rw (before.0, other_text name first others.0) refl in
    rw (here, differ_more names name before.1 others.1) refl

-- ---- the budget

fit_ok : (user : ℕ) (number : Option ℕ) (budget : ℕ) → fit_budget user number ≡ Ok budget → (1 ≤ budget) × (budget ≤ 4000000)
fit_ok user None budget e = absurd (cc)
fit_ok user (Some n) budget e =
    let h = within_ok 1 4000000 (user_place user (codes "budget")) n budget e in
    let same : n ≡ budget = h.2 in
    (subst (λ b. 1 ≤ b) same h.0, subst (λ b. b ≤ 4000000) same h.1)

budget_ok : (user : ℕ) (value : Option Data) (budget : ℕ) → budget_of user value ≡ Ok budget → (1 ≤ budget) × (budget ≤ 4000000)
budget_ok user None budget e =
    let same : 1000000 ≡ budget = same_ok 1000000 budget e in
    (subst (λ b. 1 ≤ b) same (lit≤ tt), subst (λ b. b ≤ 4000000) same (lit≤ tt))
budget_ok user (Some value) budget e =
    first_ok (of_kind (user_place user (codes "budget")) (as_integer value)) (λ number. fit_budget user (natural number)) budget e (λ number here rest.
    fit_ok user (natural number) budget rest)

-- ---- whole users

-- a user keeps the limits, and has a name that is new
pub record IsKeptUser (schema : DatabaseSchema) (earlier : List Text) (user : PolicyUser) : Type 0 where
  pub limits : KeepsLimits schema user.profile
  pub name : IsNewName earlier user.name

-- what the definitions of cqe_base say of secrecies and of readings
pub record Laws : Type 0 where
  pub sentences : ReadingsAreSentences
  pub pairs : SecretsHaveSecrecies
  pub pass : SecretsAllPass

-- a secrecy has room for its negation
module _ (schema : DatabaseSchema) where
  fewer : (n : ℕ) → nat_le n 19999 ≡ true → nat_le n 20000 ≡ true
  fewer n e = grind (arith, nat_tests, e)

  more : (n : ℕ) → nat_le n 19999 ≡ true → nat_le (1 + n) 20000 ≡ true
  more n e = grind (arith, nat_tests, e)

  small_stated : (secrecies : List Formula) → list_all (λ s. nat_le (nodes schema s) 19999) secrecies ≡ true → list_all (is_small schema) secrecies ≡ true
  small_stated [] all = refl
  small_stated (q ∷ secrecies) all =
      let each = and_parts (nat_le (nodes schema q) 19999) (list_all (λ s. nat_le (nodes schema s) 19999) secrecies) all in
      and_from (is_small schema q) (list_all (is_small schema) secrecies) (fewer (nodes schema q) each.0) (small_stated secrecies each.1)

  small_negated : (secrecies : List Formula) → list_all (λ s. nat_le (nodes schema s) 19999) secrecies ≡ true
      → list_all (λ s. is_small schema (negation s)) secrecies ≡ true
  small_negated [] all = refl
  small_negated (q ∷ secrecies) all =
      let each = and_parts (nat_le (nodes schema q) 19999) (list_all (λ s. nat_le (nodes schema s) 19999) secrecies) all in
      and_from (is_small schema (negation q)) (list_all (λ s. is_small schema (negation s)) secrecies) (more (nodes schema q) each.0)
      (small_negated secrecies each.1)

limits_kept : Laws → (schema : DatabaseSchema) (user : UserProfile) (secrecies others : List Formula)
    → user.secrets ≡ with_secrecies secrecies others → user.pairs ≡ length secrecies
    → AreSomeSentences schema (record { least = 0; greatest = 256; nodes = 20000 }) user.know → AreSmallSentences schema 19999 secrecies
    → AreSmallSentences schema 20000 others → (1 ≤ length user.secrets) × (length user.secrets ≤ 16)
    → (1 ≤ user.budget) × (user.budget ≤ 4000000) → view_size schema user [] ≤ 40000 → KeepsLimits schema user
limits_kept laws schema user secrecies others is count know pairs rest some budget view = record {
  sentences = rw (know.good.of_schema, secrets_of_schema) refl;
  small_known = know.good.small;
  small_secrets =
      ap (list_all (is_small schema)) is
      ∙ laws.pass (is_small schema) secrecies others (small_stated schema secrecies pairs.small) (small_negated schema secrecies pairs.small) rest.small;
  few_known = know.few;
  some_secret = some.0;
  few_secrets = some.1;
  pairs = (laws.pairs user secrecies others is count).pairs;
  view = view;
  some_budget = budget.0;
  budget = budget.1;
}
  where
    secrets_of_schema : list_all (is_sentence_of schema) user.secrets ≡ true
    secrets_of_schema =
        ap (list_all (is_sentence_of schema)) is
        ∙ laws.pass (is_sentence_of schema) secrecies others pairs.of_schema pairs.of_schema rest.of_schema

-- the secrets that were made, and how many they are
secrets_made : (user : ℕ) (secrecies others secrets : List Formula) → all_secrets user secrecies others ≡ Ok secrets
    → (secrets ≡ with_secrecies secrecies others) × (1 ≤ length secrets) × (length secrets ≤ 16)
secrets_made user secrecies others secrets e =
    first_ok (within 1 16 (user_place user (codes "secrecies")) (length (with_secrecies secrecies others))) _ secrets e (λ count here rest.
    let fits = within_ok 1 16 (user_place user (codes "secrecies")) (length (with_secrecies secrecies others)) count here in
    let same : with_secrecies secrecies others ≡ secrets = same_ok (with_secrecies secrecies others) secrets rest in
    (sym same, subst (λ s. 1 ≤ length s) same fits.0, subst (λ s. length s ≤ 16) same fits.1))

view_ok : (schema : DatabaseSchema) (user : ℕ) (named out : PolicyUser) → with_small_view schema user named ≡ Ok out
    → (view_size schema named.profile [] ≤ 40000) × (named ≡ out)
view_ok schema user named out e =
    let h = when_ok (nat_le (view_size schema named.profile []) 40000) (Limit (user_place user (codes "secrets"))) (Ok named) out e in
    let test : nat_le (view_size schema named.profile []) 40000 ≡ true = h.0 in
    (grind (arith, nat_tests), same_ok named out h.1)

user_ok : Laws → (version : PolicyVersion) (schema : DatabaseSchema) (earlier : List Text) (user : ℕ) (keys : Data) (named : PolicyUser)
    → user_of version schema earlier user keys ≡ Ok named → IsKeptUser schema earlier named
unfolding user_of
user_ok laws version schema earlier user keys named e =
    first_ok (only_keys version (Some user) keys) _ named e (λ none none_is e.
    first_ok (name_of earlier user (get (codes "name") keys)) _ named e (λ name name_is e.
    first_ok (method_of user (get (codes "method") keys)) _ named e (λ method method_is e.
    first_ok (known_of schema user (get (codes "know") keys)) _ named e (λ know know_is e.
    first_ok (secrets_of version schema user (get (codes "secrets") keys)) _ named e (λ others others_is e.
    first_ok (secrecies_of schema user (get (codes "secrecies") keys)) _ named e (λ secrecies secrecies_is e.
    first_ok (all_secrets user secrecies others) _ named e (λ secrets secrets_is e.
    first_ok (budget_of user (get (codes "budget") keys)) _ named e (λ budget budget_is e.
    first_ok (token_of user (get (codes "token") keys)) _ named e (λ token token_is e.
    let made : PolicyUser = record {
      name = name;
      profile = record { method = method; know = know; secrets = secrets; pairs = length secrecies; budget = budget };
      token = token;
    } in
    let secret = secrets_made user secrecies others secrets secrets_is in
    let view = view_ok schema user made named e in
    let kept : IsKeptUser schema earlier made = record {
      limits = limits_kept laws schema made.profile secrecies others secret.0 refl (known_ok schema laws.sentences user (get (codes "know") keys) know know_is)
          (secrecies_ok schema laws.sentences user (get (codes "secrecies") keys) secrecies secrecies_is)
          (secrets_ok schema laws.sentences version user (get (codes "secrets") keys) others others_is) (secret.1, secret.2)
          (budget_ok user (get (codes "budget") keys) budget budget_is) view.0;
      name = name_ok earlier user (get (codes "name") keys) name name_is;
    } in
    subst (IsKeptUser schema earlier) view.1 kept)))))))))

-- users who keep the limits, and whose names differ
pub record AreKept (schema : DatabaseSchema) (users : List PolicyUser) : Type 0 where
  pub limits : All (λ user. KeepsLimits schema user.profile) users
  pub proper : list_all is_schema_name (names_of users) ≡ true
  pub differ : has_duplicate (names_of users) ≡ false

pub no_users_kept : (schema : DatabaseSchema) → AreKept schema []
no_users_kept schema = record { limits = All-nil (λ (user : PolicyUser). KeepsLimits schema user.profile); proper = refl; differ = refl }

kept_more : (schema : DatabaseSchema) (read : List PolicyUser) (user : PolicyUser) → AreKept schema read → IsKeptUser schema (names_of read) user
    → AreKept schema (read ++ user ∷ [])
kept_more schema read user kept one =
    let names : names_of (read ++ user ∷ []) ≡ names_of read ++ user.name ∷ [] = map-append (λ (u : PolicyUser). u.name) read (user ∷ []) in
    record {
      limits = All-push (λ (user : PolicyUser). KeepsLimits schema user.profile) read user kept.limits one.limits;
      proper = ap (list_all is_schema_name) names ∙ all_more is_schema_name (names_of read) user.name kept.proper one.name.proper;
      differ = ap has_duplicate names ∙ differ_more (names_of read) user.name kept.differ one.name.new;
    }

pub users_ok : Laws → (version : PolicyVersion) (schema : DatabaseSchema) (read : List PolicyUser) (tables : List Data) (all : List PolicyUser)
    → AreKept schema read → users_behind version schema read tables ≡ Ok all → AreKept schema all × (length all ≡ length read + length tables)
users_ok laws version schema read [] all kept e =
    let same : read ≡ all = same_ok read all e in
    (subst (AreKept schema) same kept, omega (arith, ap length same))
users_ok laws version schema read (keys ∷ tables) all kept e =
    first_ok (user_of version schema (names_of read) (length read) keys) (λ user. users_behind version schema (read ++ user ∷ []) tables) all e
    (λ user here rest.
    let one = user_ok laws version schema (names_of read) (length read) keys user here in
    let more = users_ok laws version schema (read ++ user ∷ []) tables all (kept_more schema read user kept one) rest in
    (more.0, omega (arith, more.1, length-append read (user ∷ []))))
