-- A script's user keeps the limits where he asks anything.
use Rattle.std.proofs.Common.{◌≡◌, ◌≤◌, ℕ, Bool, true, false, List, length, map, refl, sym, ap, subst, ◌∙◌, arith}
use Rattle.std.specs.Prelude.{Option, Some, None, is_none, nat_le, unwrap_or, ◌&&◌, string_bytes}
use Rattle.std.proofs.lemmas.Bool.{and_parts}
use Rattle.std.proofs.lemmas.Bool.Decides.{nat_tests}
use Rattle.cqe_base.specs.Schema.{DatabaseSchema}
use Rattle.cqe_base.specs.History.{UserProfile, profile_of, is_user_of}
use Rattle.cqe_base.specs.Limits.{KeepsLimits}
use Rattle.cqe_base.specs.Secrecies.{SecretsHaveSecrecies}
use Rattle.cqe_base.proofs.Truths.{or_second}
use Rattle.case_engine.specs.Script.{Script, script_schema, script_user, all_secrets}
use Rattle.case_engine.specs.Sound.{IsSound, is_fit_budget}
use Rattle.case_engine.specs.Answering.{ArePartsOf}
use Rattle.case_engine.specs.declared.parts.Parts.{Parts}

fit : (budget : Option ℕ) → is_fit_budget budget ≡ true → (1 ≤ unwrap_or budget 1000000) × (unwrap_or budget 1000000 ≤ 4000000)
fit None e = (omega arith, omega arith)
fit (Some n) e =
    let parts = and_parts (nat_le 1 n) (nat_le n 4000000) e in
    let low : nat_le 1 n ≡ true = parts.0 in
    let high : nat_le n 4000000 ≡ true = parts.1 in
    (grind (arith, nat_tests), grind (arith, nat_tests))

some : (n : ℕ) → nat_le n 0 ≡ false → 1 ≤ n
some n e = grind (arith, nat_tests)

module _ (law : SecretsHaveSecrecies) (script : Script) (schema : DatabaseSchema) (n : ℕ) (sound : IsSound script schema n) where
  of_schema : is_user_of schema (script_user script) ≡ true
  of_schema = rw (sound.known, sound.secret) refl

  keeps : nat_le 1 (length script.asks) ≡ true → KeepsLimits schema (script_user script)
  keeps asks = record {
    sentences = of_schema;
    small_known = sound.small_known;
    small_secrets = sound.small_secrets;
    few_known = sound.few_known;
    some_secret = some (length (all_secrets script)) (or_second (is_none script.method) _ (sound.ready asks));
    few_secrets = sound.few_secrets;
    pairs = (law (script_user script) script.secrecies script.secrets refl refl).pairs;
    view = subst (λ m. m ≤ 40000) sound.nodes_are sound.view;
    some_budget = (fit script.budget sound.budget).0;
    budget = (fit script.budget sound.budget).1;
  }

  pub are_parts : (parts : Parts) → parts.schema ≡ schema → parts.facts ≡ script.facts → profile_of parts.user ≡ script_user script
      → map string_bytes parts.asks.items ≡ script.asks → ArePartsOf script parts
  are_parts parts same_schema facts user asks = record {
    schema = same_schema ∙ sound.schema_is;
    facts = facts;
    user = user;
    asks = asks;
    sentences = (λ i. is_user_of (same_schema i) (user i)) ∙ of_schema;
    short = sound.short;
    limits = λ some_ask. subst (λ s. KeepsLimits s (profile_of parts.user)) (sym same_schema) (subst (KeepsLimits schema) (sym user) (keeps some_ask));
  }
