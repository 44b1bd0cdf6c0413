-- What a script keeps while its lines are read.
use Rattle.std.specs.Prelude.{◌≡◌, ◌≤◌, ℕ, Bool, true, false, ◌&&◌, ◌||◌, nat_le, [], length}
use Rattle.std.specs.Prelude.{Option, Some, None, is_none}
use Rattle.std.specs.List.{list_all}
use Rattle.std.proofs.Props.{props}
use Rattle.cqe_base.specs.Schema.{Text, DatabaseSchema, schema_refusal}
use Rattle.cqe_base.specs.Formula.{is_sentence_of}
use Rattle.cqe_base.specs.FormulaCode.{formula_set}
use Rattle.cqe_base.specs.History.{view_size}
use Rattle.cqe_base.specs.Limits.{is_small}
use Rattle.case_engine.specs.Script.{Script, script_schema, script_user, all_secrets}

-- whether a budget that was said is from 1 to 4,000,000
abbrev pub is_fit_budget : Option ℕ → Bool
is_fit_budget None = true
is_fit_budget (Some budget) = nat_le 1 budget && nat_le budget 4000000

-- whether a text has at most 4,096 bytes
abbrev pub is_short : Text → Bool
is_short text = nat_le (length text) 4096

-- the declarations are a schema, the user's sentences are of it and keep the limits, and asks stand
-- behind a method and a secret
pub record IsSound (script : Script) (schema : DatabaseSchema) (view_nodes : ℕ) : Type 0 where
  pub schema_is : schema ≡ script_schema script
  pub accepted : schema_refusal script.domains script.relations ≡ None
  pub known : list_all (is_sentence_of schema) script.know ≡ true
  pub secret : list_all (is_sentence_of schema) (all_secrets script) ≡ true
  pub small_known : list_all (is_small schema) script.know ≡ true
  pub small_secrets : list_all (is_small schema) (all_secrets script) ≡ true
  pub few_known : length script.know ≤ 256
  pub few_secrets : length (all_secrets script) ≤ 16
  pub nodes_are : view_nodes ≡ view_size schema (script_user script) []
  pub view : view_nodes ≤ 40000
  pub budget : is_fit_budget script.budget ≡ true
  pub ready : nat_le 1 (length script.asks) ≡ true
      → (is_none script.method || nat_le (length (all_secrets script)) 0) ≡ false
  pub short : list_all is_short script.asks ≡ true

pub IsSound-prop : (script : Script) (schema : DatabaseSchema) (view_nodes : ℕ)
    → IsProp (IsSound script schema view_nodes)
IsSound-prop script schema view_nodes = hlevel (props, formula_set)
