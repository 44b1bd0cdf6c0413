-- The probes of a query in parts, which are made side by side.
use Rattle.std.specs.Prelude.{◌≡◌, ◌≤◌, ◌+◌, ◌*◌, ◌/◌, ◌||◌, ℕ, zero, suc, true, nat_le, List, []}
use Rattle.std.specs.Prelude.{◌∷◌, All, map, Option, Some, None, fold, IfSome}
use Rattle.std.specs.List.{list_all, between}
use Rattle.cqe_base.specs.declared.user.User.{User}
use Rattle.cqe_base.specs.declared.user.Method.{Method}
use Rattle.cqe_base.specs.Schema.{DatabaseSchema}
use Rattle.cqe_base.specs.Formula.{Formula, nodes, is_sentence_of}
use Rattle.cqe_base.specs.Entailment.{Signed}
use Rattle.cqe_base.specs.History.{profile_of}
use Rattle.cqe_base.specs.Limits.{FitsProbes}
use Rattle.cqe_base.specs.Censor.{guarded, with_query, with_negation}
use Rattle.entailment.specs.Logs.{log_nodes}
use Rattle.entailment.specs.Views.{LogView, schema_of, log_of}
use Rattle.entailment.specs.GroundSentences.{sentence_of, IsGroundOver}
use Rattle.entailment.specs.declared.sentences.GroundSentence.{GroundSentence}
use Rattle.censors.specs.Guards.{GuardedSentences}
use Rattle.censors.specs.Asked.{IsAnswerOfAll, IsImpliedBy, together}
use Rattle.censors.specs.declared.examination.Answer.{Answer}
use Rattle.censors.specs.declared.examination.Harms.{Harms}
use Rattle.censors.specs.declared.parts.Cut.{Cut}
use Rattle.censors.specs.declared.parts.PartFound.{PartFound}
use Rattle.censors.specs.declared.lent.Lane.{Lane}

-- ---- parts

-- the place at which a part begins; the probes with both answers against a goal have two places
-- side by side, that with the query first
abbrev pub start_of : Cut → ℕ → ℕ
start_of cut zero = 0
start_of cut (suc zero) = cut.first
start_of cut (suc (suc zero)) = cut.second
start_of cut (suc (suc (suc zero))) = cut.third
start_of cut (suc (suc (suc (suc more)))) = cut.whole

-- how many probes with the query stand before a place
abbrev pub yes_before : ℕ → ℕ
yes_before place = (place + 1) / 2

-- how many with its negation do
abbrev pub no_before : ℕ → ℕ
no_before place = place / 2

-- the places of all probes against so many goals are cut, and each part ends where the next begins
pub record IsCut (goals : ℕ) (cut : Cut) : Type 0 where
  pub whole : cut.whole ≡ 2 * goals
  pub second : cut.first ≤ cut.second
  pub third : cut.second ≤ cut.third
  pub last : cut.third ≤ cut.whole

-- ---- what a part finds

-- a query after a log, with the goals, for a user of this method and this budget
pub record Question : Type 0 where
  pub schema : DatabaseSchema
  pub method : Method
  pub budget : ℕ
  pub log : List Signed
  pub query : Formula
  pub goals : List Formula

-- the question that sentences in memory ask after a log
abbrev pub question_of : User → GroundSentence → List GroundSentence → DatabaseSchema
    → List Signed → Question
question_of user query goals schema log =
    record {
      schema = schema;
      method = user.method;
      budget = user.budget;
      log = log;
      query = sentence_of query;
      goals = map sentence_of goals;
    }

-- its probes can be made
pub record CanBeAsked (user : User) (query : GroundSentence) (goals : List GroundSentence)
    (schema : DatabaseSchema) (log : List Signed) : Type 0 where
  pub sentence : is_sentence_of schema (sentence_of query) ≡ true
  pub grounded : IsGroundOver schema query
  pub all_nodes : log_nodes schema log + nodes schema (sentence_of query) ≤ 60000
  pub goal_sentences : list_all (is_sentence_of schema) (map sentence_of goals) ≡ true
  pub goal_nodes : list_all (λ goal. nat_le (nodes schema goal) 40000) (map sentence_of goals)
      ≡ true
  pub grounded_goals : All (IsGroundOver schema) goals
  pub budget : user.budget ≤ 4000000

-- they can over a view
abbrev pub CanBeAskedAt : User → GroundSentence → List GroundSentence → LogView → Type 0
CanBeAskedAt user query goals view = CanBeAsked user query goals (schema_of view) (log_of view)

-- what the probes of a part found: the first part has those of the log alone, and each those with
-- the query, and with its negation, against its goals
pub record IsPartFound (cut : Cut) (part : ℕ) (question : Question) (found : PartFound) :
    Type 0 where
  pub implied : part ≡ 0
      → IsImpliedBy question.method question.schema question.budget question.log question.query
      found.implied
  pub yes : IsAnswerOfAll question.schema question.budget (with_query question.log question.query)
      (between (yes_before (start_of cut part)) (yes_before (start_of cut (part + 1)))
      question.goals)
      found.yes
  pub no : IsAnswerOfAll question.schema question.budget
      (with_negation question.log question.query)
      (between (no_before (start_of cut part)) (no_before (start_of cut (part + 1)))
      question.goals)
      found.no

-- a lane has run a part: its view is as before, and where memory sufficed it has what was found
pub record HasRun (cut : Cut) (part : ℕ) (user : User) (query : GroundSentence)
    (goals : List GroundSentence) (before after : Lane) : Type 0 where
  pub view : after.view ≡ before.view
  pub found : IfSome after.found (IsPartFound cut part
      (question_of user query goals (schema_of before.view) (log_of before.view)))

-- ---- what all parts found

-- what two parts found, if both did
abbrev pub joined : Option PartFound → Option PartFound → Option PartFound
joined None second = None
joined (Some first) None = None
joined (Some first) (Some second) =
    Some
    (record {
      implied = first.implied;
      yes = together first.yes second.yes;
      no = together first.no second.no;
    })

-- what parts found, in their order; the first has what the log alone implies
abbrev pub gathered : List (Option PartFound) → Option PartFound
gathered [] = None
gathered (first ∷ rest) = fold joined first rest

-- the harms of both answers
abbrev pub harms_of : Answer → Answer → Harms
harms_of of_query of_negation =
    record {
      spent = of_query.spent || of_negation.spent;
      yes = of_query.entailed;
      no = of_negation.entailed;
    }

-- ---- the whole

-- the probes of a query can be made over a view, against what is guarded from the user
pub record CanBeExamined (guards : GuardedSentences) (user : User) (query : GroundSentence)
    (view : LogView) : Type 0 where
  pub fits : FitsProbes (schema_of view) (profile_of user)
  pub guards_schema : guards.schema ≡ schema_of view
  pub guarded_are : guards.sentences ≡ guarded (profile_of user)
  pub sentence : is_sentence_of (schema_of view) (sentence_of query) ≡ true
  pub grounded : IsGroundOver (schema_of view) query
  pub all_nodes : log_nodes (schema_of view) (log_of view)
      + nodes (schema_of view) (sentence_of query) ≤ 60000
