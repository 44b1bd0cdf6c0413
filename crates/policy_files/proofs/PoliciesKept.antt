-- A policy that a tree means is kept.
use Rattle.std.proofs.Common.{◌≡◌, true, ℕ, ◌+◌, ◌≤◌, List, [], length, Ok, Option, Some, None, refl, subst, arith, All, map}
use Rattle.std.specs.Prelude.{codes}
use Rattle.toml.specs.Data.{get, as_table}
use Rattle.std.proofs.lemmas.List.{get_or-map, length-map}
use Rattle.cqe_base.specs.declared.schema.SchemaError.{SchemaError}
use Rattle.cqe_base.specs.declared.user.User.{User}
use Rattle.cqe_base.specs.History.{profile_of}
use Rattle.cqe_base.specs.Limits.{KeepsLimits}
use Rattle.cqe_base.specs.Schema.{Declaration, DatabaseSchema, AcceptedIsValid, schema_refusal, schema_of, is_valid_schema}
use Rattle.policy_files.specs.Policies.{PolicyUser, PolicyValue}
use Rattle.policy_files.specs.Memory.{policy_user_of}
use Rattle.policy_files.specs.Tree.{tables_in}
use Rattle.policy_files.specs.Keys.{key_place, only_keys, required, within}
use Rattle.policy_files.specs.Users.{users_behind}
use Rattle.policy_files.specs.Policy.{version_of, declared_at, unless_refused, schema_in, tree_in, policy_of, policy_in}
use Rattle.policy_files.specs.Laws.{IsKeptPolicy, PoliciesAreKept}
use Rattle.policy_files.proofs.OkSteps.{first_ok, same_ok, within_ok}
use Rattle.policy_files.proofs.UsersKept.{Laws, users_ok, no_users_kept}

accepted_ok : (refusal : Option SchemaError) (made schema : DatabaseSchema) → unless_refused refusal made ≡ Ok schema → (refusal ≡ None) × (made ≡ schema)
accepted_ok None made schema e = (refl, same_ok made schema e)
accepted_ok (Some why) made schema e = absurd (cc)

schema_ok : AcceptedIsValid → (domains relations : List Declaration) (schema : DatabaseSchema) → schema_in domains relations ≡ Ok schema
    → is_valid_schema schema ≡ true
schema_ok law domains relations schema e =
    let h = accepted_ok (schema_refusal domains relations) (schema_of domains relations) schema e in
    subst (λ s. is_valid_schema s ≡ true) h.1 (law domains relations h.0)

pub policies_kept : AcceptedIsValid → Laws → PoliciesAreKept
unfolding policy_of
policies_kept accepted laws root policy e =
    first_ok (version_of (get (codes "version") root)) _ policy e (λ version version_is e.
    first_ok (only_keys version None root) _ policy e (λ none none_is e.
    first_ok (required as_table (key_place None (codes "domains")) (get (codes "domains") root)) _ policy e (λ domain_table domain_table_is e.
    first_ok (required as_table (key_place None (codes "relations")) (get (codes "relations") root)) _ policy e (λ relation_table relation_table_is e.
    first_ok (required tables_in (key_place None (codes "users")) (get (codes "users") root)) _ policy e (λ tables tables_is e.
    first_ok (declared_at (codes "domains") domain_table) _ policy e (λ domains domains_is e.
    first_ok (declared_at (codes "relations") relation_table) _ policy e (λ relations relations_is e.
    first_ok (schema_in domains relations) _ policy e (λ schema schema_is e.
    first_ok (within 1 256 (key_place None (codes "users")) (length tables)) _ policy e (λ count count_is e.
    first_ok (users_behind version schema [] tables) _ policy e (λ users users_is e.
    let made : PolicyValue = record { schema = schema; users = users } in
    let kept = users_ok laws version schema [] tables users (no_users_kept schema) users_is in
    let fits = within_ok 1 256 (key_place None (codes "users")) (length tables) count count_is in
    let size : length users ≡ 0 + length tables = kept.1 in
    let low : 1 ≤ length tables = fits.0 in
    let high : length tables ≤ 256 = fits.1 in
    let is_kept : IsKeptPolicy made = record {
      schema = schema_ok accepted domains relations schema schema_is;
      some_user = omega arith;
      few_users = omega arith;
      limits = kept.0.limits;
      proper = kept.0.proper;
      differ = kept.0.differ;
    } in
    subst IsKeptPolicy (same_ok made policy e) is_kept))))))))))

-- the policy that bytes are
pub read_kept : PoliciesAreKept → (bytes : List ℕ) (policy : PolicyValue) → policy_in bytes ≡ Ok policy → IsKeptPolicy policy
unfolding policy_in
read_kept law bytes policy e = first_ok (tree_in bytes) policy_of policy e (λ root root_is e. law root policy e)

-- its users in memory
pub users_keep : (schema : DatabaseSchema) (users : List User) → All (λ named. KeepsLimits schema named.profile) (map policy_user_of users)
    → All (λ user. KeepsLimits schema (profile_of user)) users
users_keep schema users all = λ k d below.
    let at = all k (policy_user_of d) (rw (length-map users policy_user_of) below) in
    subst (λ (named : PolicyUser). KeepsLimits schema named.profile) (get_or-map policy_user_of users k d (policy_user_of d) below) at
