-- The limits within which users are served.
use Rattle.std.specs.Prelude.{◌≡◌, ◌≤◌, ◌+◌, Bool, true, false, nat_le, [], ◌∷◌, ◌++◌, length}
use Rattle.std.specs.Prelude.{sum_by}
use Rattle.std.specs.List.{list_all}
use Rattle.cqe_base.specs.Schema.{DatabaseSchema}
use Rattle.cqe_base.specs.Formula.{Formula, nodes, is_sentence_of}
use Rattle.cqe_base.specs.Entailment.{are_sentences_of}
use Rattle.cqe_base.specs.History.{UserProfile, AnsweredQuery, History, known, log, signed_nodes}
use Rattle.cqe_base.specs.History.{view_size, is_user_of, is_history_of, is_added, user_at}
use Rattle.cqe_base.specs.Censor.{guarded, guarded_with}
use Rattle.cqe_base.specs.Secrecies.{HasPairs}
use Rattle.cqe_base.specs.Run.{is_full, is_too_large, is_too_large_secret, has_all_secrets}

-- whether a sentence has at most 20,000 nodes
abbrev pub is_small : DatabaseSchema → Formula → Bool
is_small schema sentence = nat_le (nodes schema sentence) 20000

-- a user keeps the limits: what he knows and his secrets are sentences of the schema of at most
-- 20,000 nodes; they are at most 256 and 1 to 16; his secrets begin with his pairs;
-- his view without items has at most 40,000 nodes; and his budget is 1 to 4,000,000
pub record KeepsLimits (schema : DatabaseSchema) (user : UserProfile) : Type 0 where
  pub sentences : is_user_of schema user ≡ true
  pub small_known : list_all (is_small schema) user.know ≡ true
  pub small_secrets : list_all (is_small schema) user.secrets ≡ true
  pub few_known : length user.know ≤ 256
  pub some_secret : 1 ≤ length user.secrets
  pub few_secrets : length user.secrets ≤ 16
  pub pairs : HasPairs user
  pub view : view_size schema user [] ≤ 40000
  pub some_budget : 1 ≤ user.budget
  pub budget : user.budget ≤ 4000000

-- an item came within the limits: its query is a sentence of the schema, and when it came the
-- history wasn't full and the view not too large for it; and where it was added, it wasn't too
-- large for a secret, and there was room for one
pub record KeepsSizesAt (schema : DatabaseSchema) (user : UserProfile) (before : History)
    (entry : AnsweredQuery) : Type 0 where
  pub sentence : is_sentence_of schema entry.query ≡ true
  pub room : is_full before entry.length ≡ false
  pub small : is_too_large schema user before entry.query ≡ false
  pub small_secret : is_added entry.mark ≡ true
      → is_too_large_secret schema user before entry.query ≡ false
  pub secret_room : is_added entry.mark ≡ true → has_all_secrets user before ≡ false

-- each item of a history came within the limits
abbrev pub KeepsSizes : DatabaseSchema → UserProfile → History → Type 0
KeepsSizes schema user entries =
    (before : History) (entry : AnsweredQuery) (after : History) → entries ≡ before ++ entry ∷ after
    → KeepsSizesAt schema user before entry

-- a history within the limits is of sentences of the schema
abbrev pub SizesAreOfSchema : Type 0
SizesAreOfSchema =
    (schema : DatabaseSchema) (user : UserProfile) (entries : History)
    → KeepsSizes schema user entries → is_history_of schema entries ≡ true

-- at its end a user who keeps the limits has at most 16 secrets
abbrev pub SecretsStayFew : Type 0
SecretsStayFew =
    (schema : DatabaseSchema) (user : UserProfile) (entries : History)
    → KeepsLimits schema user → KeepsSizes schema user entries
    → length (user_at user entries).secrets ≤ 16

-- what a user knows, his secrets and what is guarded from him are small enough for his probes, and
-- the secrets few enough
pub record FitsProbes (schema : DatabaseSchema) (user : UserProfile) : Type 0 where
  pub known_sentences : are_sentences_of schema (known user) ≡ true
  pub known_small : list_all (λ signed. is_small schema signed.0) (known user) ≡ true
  pub known_nodes : sum_by (λ signed. signed_nodes schema signed.0 signed.1) (known user) ≤ 40000
  pub secret_sentences : list_all (is_sentence_of schema) user.secrets ≡ true
  pub secret_nodes : list_all (λ secret. nat_le (nodes schema secret) 40000) user.secrets ≡ true
  pub few_secrets : length user.secrets ≤ 16
  pub guarded_sentences : list_all (is_sentence_of schema) (guarded user) ≡ true
  pub guarded_nodes : list_all (λ goal. nat_le (nodes schema goal) 40000) (guarded user) ≡ true
  pub budget : user.budget ≤ 4000000

-- a user who keeps the limits fits his probes
abbrev pub LimitsFitProbes : Type 0
LimitsFitProbes = (schema : DatabaseSchema) (user : UserProfile) → KeepsLimits schema user
    → FitsProbes schema user

-- a user who keeps the limits fits his probes at the end of a history within the limits, too, with
-- what it adds to his secrets
abbrev pub AmendedFitProbes : Type 0
AmendedFitProbes =
    (schema : DatabaseSchema) (user : UserProfile) (entries : History)
    → KeepsLimits schema user → KeepsSizes schema user entries
    → FitsProbes schema (user_at user entries)

-- what the log is probed against for one more secret is a sentence of the schema of at most 40,000
-- nodes
pub record FitsAddition (schema : DatabaseSchema) (user : UserProfile) (secret : Formula) :
    Type 0 where
  pub goal_sentence : is_sentence_of schema (guarded_with user secret) ≡ true
  pub goal_nodes : nodes schema (guarded_with user secret) ≤ 40000

-- a sentence that isn't too large for a secret fits what the log is probed against with it
abbrev pub SmallSecretsFit : Type 0
SmallSecretsFit =
    (schema : DatabaseSchema) (user : UserProfile) (entries : History) (secret : Formula)
    → KeepsLimits schema user → KeepsSizes schema user entries
    → is_sentence_of schema secret ≡ true
    → is_too_large_secret schema user entries secret ≡ false
    → FitsAddition schema (user_at user entries) secret

-- where the view isn't too large for a query, the query has at most 20,000 nodes, and the log with
-- it or with its negation at most 60,000
pub record FitsLog (schema : DatabaseSchema) (user : UserProfile) (entries : History)
    (query : Formula) : Type 0 where
  pub query_nodes : nodes schema query ≤ 20000
  pub log_nodes : (yes : Bool)
      → sum_by (λ signed. signed_nodes schema signed.0 signed.1) (log user entries)
      + signed_nodes schema query yes ≤ 60000

-- the log of a user who keeps the limits fits a query that isn't too large
abbrev pub SmallQueriesFit : Type 0
SmallQueriesFit =
    (schema : DatabaseSchema) (user : UserProfile) (entries : History) (query : Formula)
    → KeepsLimits schema user → is_too_large schema user entries query ≡ false
    → FitsLog schema user entries query
