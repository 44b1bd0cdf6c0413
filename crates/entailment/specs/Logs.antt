-- Logs: sentences and negations over a schema.
use Rattle.std.specs.Prelude.{◌≡◌, ◌≤◌, ℕ, true, nat_le, List, map, sum_by}
use Rattle.std.specs.List.{list_all}
use Rattle.cqe_base.specs.Schema.{DatabaseSchema}
use Rattle.cqe_base.specs.Formula.{formula_of, nodes}
use Rattle.cqe_base.specs.Entailment.{Signed, are_sentences_of}
use Rattle.cqe_base.specs.History.{signed_nodes}
use Rattle.entailment.specs.declared.view.Told.{Told}

-- the nodes of a list of sentences and negations
abbrev pub log_nodes : DatabaseSchema → List Signed → ℕ
log_nodes schema log = sum_by (λ signed. signed_nodes schema signed.0 signed.1) log

-- the nodes of the sentences alone, whatever their signs
abbrev pub sentence_nodes : DatabaseSchema → List Signed → ℕ
sentence_nodes schema log = sum_by (λ signed. nodes schema signed.0) log

-- a log of sentences of the schema, each of at most 20,000 nodes, and at most 60,000 nodes in all
pub record IsSmallLog (schema : DatabaseSchema) (log : List Signed) : Type 0 where
  pub sentences : are_sentences_of schema log ≡ true
  pub each : list_all (λ signed. nat_le (nodes schema signed.0) 20000) log ≡ true
  pub all : log_nodes schema log ≤ 60000

-- the log that a list in memory is
abbrev pub told_log : List Told → List Signed
told_log items = map (λ t. (formula_of t.sentence, t.yes)) items
