-- Secrecies: sentences of which a user must conclude neither that they are true nor that they are
-- false.
use Rattle.std.specs.Prelude.{◌≡◌, ◌≤◌, ◌<◌, ℕ, ◌+◌, ◌*◌, true, false, List, [], ◌∷◌, ◌++◌, length}
use Rattle.std.specs.Prelude.{Bool, Contains}
use Rattle.std.specs.List.{flat_map, list_all}
use Rattle.cqe_base.specs.declared.user.Method.TheVariants.{Lying}
use Rattle.cqe_base.specs.Schema.{DatabaseSchema, is_valid_schema}
use Rattle.cqe_base.specs.Facts.{FactSet}
use Rattle.cqe_base.specs.Formula.{Formula, negation}
use Rattle.cqe_base.specs.History.{UserProfile, History, is_user_of, secret_at, user_at}
use Rattle.cqe_base.specs.Censor.{admitted}

-- the secrets that secrecies and other secrets make: each secrecy and its negation, and then the
-- others
abbrev pub with_secrecies : List Formula → List Formula → List Formula
with_secrecies secrecies others = flat_map (λ q. q ∷ negation q ∷ []) secrecies ++ others

-- secrecies make two secrets each
abbrev pub SecretsAreCounted : Type 0
SecretsAreCounted =
    (secrecies others : List Formula)
    → length (with_secrecies secrecies others) ≡ 2 * length secrecies + length others

-- what passes for each secrecy, for its negation and for each other secret passes for all
abbrev pub SecretsAllPass : Type 0
SecretsAllPass =
    (test : Formula → Bool) (secrecies others : List Formula)
    → list_all test secrecies ≡ true → list_all (λ q. test (negation q)) secrecies ≡ true
    → list_all test others ≡ true → list_all test (with_secrecies secrecies others) ≡ true

-- the secrecy with this number: the first sentence of the pair
abbrev pub secrecy_at : UserProfile → ℕ → Formula
secrecy_at user k = secret_at user (2 * k)

-- a user's secrets begin with his pairs: each is a secrecy, and its negation behind it
pub record HasPairs (user : UserProfile) : Type 0 where
  pub enough : 2 * user.pairs ≤ length user.secrets
  pub negated : (k : ℕ) → k < user.pairs → secret_at user (2 * k + 1) ≡ negation (secrecy_at user k)

-- a sentence is protected both ways where it and its negation are secrets
pub record IsProtectedBothWays (user : UserProfile) (sentence : Formula) : Type 0 where
  pub sentence_secret : Contains user.secrets sentence
  pub negation_secret : Contains user.secrets (negation sentence)

-- what a user with these secrecies and other secrets has: as many pairs as secrecies, in their
-- order, and each secrecy protected both ways
pub record HasSecrecies (user : UserProfile) (secrecies : List Formula) : Type 0 where
  pub pairs : HasPairs user
  pub protected : (q : Formula) → Contains secrecies q → IsProtectedBothWays user q

-- a user whose secrets these are has his secrecies
abbrev pub SecretsHaveSecrecies : Type 0
SecretsHaveSecrecies =
    (user : UserProfile) (secrecies others : List Formula)
    → user.secrets ≡ with_secrecies secrecies others → user.pairs ≡ length secrecies
    → HasSecrecies user secrecies

-- each sentence of a pair is protected both ways
abbrev pub PairsAreProtected : Type 0
PairsAreProtected =
    (user : UserProfile) (k : ℕ) → HasPairs user → k < user.pairs
    → IsProtectedBothWays user (secrecy_at user k)

-- what a history adds stands behind the pairs
abbrev pub PairsStay : Type 0
PairsStay =
    (user : UserProfile) (entries : History) → HasPairs user → HasPairs (user_at user entries)

-- a lying user with a secrecy is never admitted
abbrev pub LiarsKeepNoSecrecy : Type 0
LiarsKeepNoSecrecy =
    (schema : DatabaseSchema) (world : FactSet) (user : UserProfile)
    → is_valid_schema schema ≡ true → is_user_of schema user ≡ true
    → HasPairs user → user.method ≡ Lying → 1 ≤ user.pairs → admitted schema world user ≡ false
