-- The script that its parts in memory are.
use Rattle.std.specs.Prelude.{ℕ, List, map, Option, String, Vec, string_bytes}
use Rattle.std.specs.declared.alloc.Global.{Global}
use Rattle.cqe_base.specs.declared.user.Method.{Method}
use Rattle.cqe_base.specs.declared.sentence.Sentence.{Sentence}
use Rattle.cqe_base.specs.Facts.{FactSet}
use Rattle.cqe_base.specs.Formula.{formula_of}
use Rattle.cqe_base.specs.Memory.{declaration_of}
use Rattle.case_engine.specs.Script.{Script}

-- the script that these parts in memory are
abbrev pub script_in : List (String Global × Vec (String Global) Global)
    → List (String Global × Vec (String Global) Global) → FactSet → Option Method → List Sentence
    → List Sentence → List Sentence → Option ℕ → List (String Global) → Script
script_in domains relations facts method know secrecies secrets budget asks = record {
  domains = map declaration_of domains;
  relations = map declaration_of relations;
  facts = facts;
  method = method;
  know = map formula_of know;
  secrecies = map formula_of secrecies;
  secrets = map formula_of secrets;
  budget = budget;
  asks = map string_bytes asks;
}
