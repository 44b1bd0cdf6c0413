-- What is kept by every policy and every world that is read.
use Rattle.std.specs.Prelude.{◌≡◌, ◌≤◌, ℕ, true, false, List, length, All, Ok}
use Rattle.std.specs.List.{list_all}
use Rattle.std.specs.FinSet as set
use Rattle.toml.specs.Data.{Data}
use Rattle.cqe_base.specs.Schema.{DatabaseSchema, has_duplicate, is_schema_name, is_valid_schema}
use Rattle.cqe_base.specs.Facts.{FactSet, IsWorldOf}
use Rattle.cqe_base.specs.Limits.{KeepsLimits}
use Rattle.policy_files.specs.Policies.{PolicyValue}
use Rattle.policy_files.specs.Users.{names_of}
use Rattle.policy_files.specs.Policy.{policy_of}
use Rattle.policy_files.specs.Facts.{facts_of}

-- the schema is valid, there are 1 to 256 users, each of whom keeps the limits, and their names are
-- names of the form of a constant's that differ
pub record IsKeptPolicy (policy : PolicyValue) : Type 0 where
  pub schema : is_valid_schema policy.schema ≡ true
  pub some_user : 1 ≤ length policy.users
  pub few_users : length policy.users ≤ 256
  pub limits : All (λ user. KeepsLimits policy.schema user.profile) policy.users
  pub proper : list_all is_schema_name (names_of policy.users) ≡ true
  pub differ : has_duplicate (names_of policy.users) ≡ false

-- a policy that a tree means is kept
abbrev pub PoliciesAreKept : Type 0
PoliciesAreKept =
    (root : Data) (policy : PolicyValue) → policy_of root ≡ Ok policy → IsKeptPolicy policy

-- a world of the schema with at most 100,000 facts
pub record IsSmallWorldOf (schema : DatabaseSchema) (world : FactSet) : Type 0 where
  pub of_schema : IsWorldOf schema world
  pub few : set.len world ≤ 100000

-- the world that a facts file is
abbrev pub FactsAreWorlds : Type 0
FactsAreWorlds =
    (schema : DatabaseSchema) (bytes : List ℕ) (world : FactSet)
    → is_valid_schema schema ≡ true → facts_of schema bytes ≡ Ok world → IsSmallWorldOf schema world
