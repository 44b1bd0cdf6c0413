-- What a script means, and where it is refused.
use Rattle.std.specs.Prelude.{ℕ, not, ◌&&◌, ◌||◌, nat_le, List, [], ◌∷◌, ◌++◌, length, Option, Some}
use Rattle.std.specs.Prelude.{None, is_some, is_none, unwrap_or, Result, Ok, Err, if◌then◌else◌}
use Rattle.std.specs.FinSet as set
use Rattle.cqe_base.specs.declared.user.Method.{Method}
use Rattle.cqe_base.specs.declared.user.Method.TheVariants.{Lying}
use Rattle.cqe_base.specs.declared.text.ScriptKind.{ScriptKind}
use Rattle.cqe_base.specs.declared.text.ScriptKind.TheVariants.{NotALine, Schema, Fact, Sentence}
use Rattle.cqe_base.specs.declared.text.ScriptKind.TheVariants.{Limit, Order}
use Rattle.cqe_base.specs.declared.text.ScriptError.{ScriptError}
use Rattle.cqe_base.specs.declared.world.Fact.{Fact as GroundFact}
use Rattle.cqe_base.specs.Schema.{Text, Declaration, DatabaseSchema, schema_refusal, schema_of}
use Rattle.cqe_base.specs.Facts.{FactSet}
use Rattle.cqe_base.specs.Formula.{Formula, negation, nodes}
use Rattle.cqe_base.specs.Reading.{Refusal, reading}
use Rattle.cqe_base.specs.FactText.{stated_fact}
use Rattle.script_lines.specs.Scripts.{script_from}
use Rattle.cqe_base.specs.History.{UserProfile, view_size}
use Rattle.cqe_base.specs.Secrecies.{with_secrecies}
use Rattle.case_engine.specs.Statements.{Statement, silence, domain_is, relation_is, fact_is}
use Rattle.case_engine.specs.Statements.{method_is, user_knows, secrecy_is, secret_is, budget_is}
use Rattle.case_engine.specs.Statements.{user_asks, statement_of}

-- what the lines of a script have said
pub record Script : Type 0 where
  pub domains : List Declaration
  pub relations : List Declaration
  pub facts : FactSet
  pub method : Option Method
  pub know : List Formula
  pub secrecies : List Formula
  pub secrets : List Formula
  pub budget : Option ℕ
  pub asks : List Text

-- no line has said anything
abbrev pub empty_script : Script
empty_script = record {
  domains = [];
  relations = [];
  facts = set.empty;
  method = None;
  know = [];
  secrecies = [];
  secrets = [];
  budget = None;
  asks = [];
}

-- the schema of the declarations of a script
abbrev pub script_schema : Script → DatabaseSchema
script_schema script = schema_of script.domains script.relations

-- all secrets of a script: those that its secrecies make, and the others
abbrev pub all_secrets : Script → List Formula
all_secrets script = with_secrecies script.secrecies script.secrets

-- the user of a script; one without a method or a secret asks nothing, since an ask stands behind
-- both
abbrev pub script_user : Script → UserProfile
script_user script = record {
  method = unwrap_or script.method Lying;
  know = script.know;
  secrets = all_secrets script;
  pairs = length script.secrecies;
  budget = unwrap_or script.budget 1000000;
}

-- ---- what one more statement says

-- one more domain
abbrev pub with_domain : Script → Declaration → Script
with_domain script declared = record script { domains = script.domains ++ declared ∷ [] }

-- one more relation
abbrev pub with_relation : Script → Declaration → Script
with_relation script declared = record script { relations = script.relations ++ declared ∷ [] }

-- one more sentence that the user knows
abbrev pub with_known : Script → Formula → Script
with_known script sentence = record script { know = script.know ++ sentence ∷ [] }

-- one more secrecy
abbrev pub with_secrecy : Script → Formula → Script
with_secrecy script sentence = record script { secrecies = script.secrecies ++ sentence ∷ [] }

-- one more secret
abbrev pub with_secret : Script → Formula → Script
with_secret script sentence = record script { secrets = script.secrets ++ sentence ∷ [] }

-- a script, or the kind of its refusal
abbrev pub Step : Type 0
Step = Result Script ScriptKind

-- the schema with the new declaration is one
abbrev pub declare : Script → Step
declare script =
    if is_some (schema_refusal script.domains script.relations) then Err Schema else Ok script

-- one more fact, of which there are at most 100,000
abbrev pub state : Script → Option GroundFact → Step
state script None = Err Fact
state script (Some fact) =
    if nat_le 100000 (set.len script.facts) && not (set.contains script.facts fact) then Err Fact
    else Ok (record script { facts = set.insert script.facts fact })

-- at most 256 sentences are known and 16 secret, the new one has at most 20,000 nodes, and the view
-- of the empty history at most 40,000
abbrev pub limit : Script → Formula → Step
limit script sentence =
    if nat_le (nodes (script_schema script) sentence) 20000
    && (nat_le (length script.know) 256 && nat_le (length (all_secrets script)) 16)
    && nat_le (view_size (script_schema script) (script_user script) []) 40000
    then Ok script else Err Limit

-- one more sentence of the user's, with what it makes of the script
abbrev pub say : (Formula → Script) → Result Formula Refusal → Step
say with_sentence (Err refusal) = Err Sentence
say with_sentence (Ok sentence) = limit (with_sentence sentence) sentence

-- one more secrecy, of which the negation is a secret too
abbrev pub say_secrecy : Script → Result Formula Refusal → Step
say_secrecy script (Err refusal) = Err Sentence
say_secrecy script (Ok sentence) = limit (with_secrecy script sentence) (negation sentence)

-- the method is said once
abbrev pub choose : Script → Method → Step
choose script method =
    if is_some script.method then Err Order else Ok (record script { method = Some method })

-- the budget is said once, and is from 1 to 4,000,000
abbrev pub allow : Script → ℕ → Step
allow script budget =
    if is_some script.budget then Err Order
    else if nat_le 1 budget && nat_le budget 4000000 then Ok (record script {
      budget =
          Some budget;
    })
    else Err Limit

-- an ask stands behind a method and a secret or a secrecy
abbrev pub ask_next : Script → Text → Step
ask_next script text =
    if is_none script.method || nat_le (length (all_secrets script)) 0 then Err Order
    else Ok (record script { asks = script.asks ++ text ∷ [] })

-- a declaration stands before the first ask
abbrev pub before_asks : Script → Step → Step
before_asks script step = if nat_le 1 (length script.asks) then Err Order else step

-- the script with one more statement
abbrev pub with_statement : Script → Statement → Step
with_statement script silence = Ok script
with_statement script (domain_is declared) =
    before_asks script (declare (with_domain script declared))
with_statement script (relation_is declared) =
    before_asks script (declare (with_relation script declared))
with_statement script (fact_is text) =
    before_asks script (state script (stated_fact (script_schema script) text))
with_statement script (method_is method) = before_asks script (choose script method)
with_statement script (user_knows text) =
    before_asks script (say (with_known script) (reading (script_schema script) text))
with_statement script (secrecy_is text) =
    before_asks script (say_secrecy script (reading (script_schema script) text))
with_statement script (secret_is text) =
    before_asks script (say (with_secret script) (reading (script_schema script) text))
with_statement script (budget_is budget) = before_asks script (allow script budget)
with_statement script (user_asks text) = ask_next script text

-- ---- whole scripts

-- the script with one more line that says this, or that has none of the shapes
abbrev pub with_spoken : Script → Option Statement → Step
with_spoken script None = Err NotALine
with_spoken script (Some statement) = with_statement script statement

-- the script with one more line
abbrev pub with_line : Script → Text → Step
with_line script line = with_spoken script (statement_of line)

-- the script that bytes are, or the first line that is refused, with its kind
unfoldable pub script_of : List ℕ → Result Script ScriptError
script_of bytes = script_from with_line empty_script bytes
