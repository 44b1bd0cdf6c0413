-- A script in memory to which nothing was added.
use Rattle.std.proofs.Common.{◌≡◌, List, [], map, sym, ap, ◌∙◌}
use Rattle.std.specs.Prelude.{None, String, Vec}
use Rattle.std.specs.declared.alloc.Global.{Global}
use Rattle.std.specs.FinSet as set
use Rattle.cqe_base.specs.declared.sentence.Sentence.{Sentence}
use Rattle.cqe_base.specs.Facts.{FactSet}
use Rattle.cqe_base.specs.Memory.{declaration_of}
use Rattle.cqe_base.specs.Schema.{schema_of, schema_refusal}
use Rattle.case_engine.specs.Script.{empty_script}
use Rattle.case_engine.specs.Scripts.{script_in}

abbrev Declarations : Type 0
Declarations = List (String Global × Vec (String Global) Global)

pub nothing_said : (domains relations : Declarations) (facts : FactSet) (know secrecies secrets : List Sentence) (asks : List (String Global)) → domains ≡ []
    → relations ≡ [] → facts ≡ set.empty → know ≡ [] → secrecies ≡ [] → secrets ≡ [] → asks ≡ []
    → script_in domains relations facts None know secrecies secrets None asks ≡ empty_script
nothing_said domains relations facts know secrecies secrets asks a b c d e f g =
    ap (λ x. script_in x relations facts None know secrecies secrets None asks) a ∙ ap (λ x. script_in [] x facts None know secrecies secrets None asks) b
    ∙ ap (λ x. script_in [] [] x None know secrecies secrets None asks) c ∙ ap (λ x. script_in [] [] set.empty None x secrecies secrets None asks) d
    ∙ ap (λ x. script_in [] [] set.empty None [] x secrets None asks) e ∙ ap (λ x. script_in [] [] set.empty None [] [] x None asks) f
    ∙ ap (λ x. script_in [] [] set.empty None [] [] [] None x) g

pub no_declarations : (domains relations : Declarations) → domains ≡ [] → relations ≡ []
    → (schema_of (map declaration_of domains) (map declaration_of relations) ≡ schema_of [] [])
    × (schema_refusal (map declaration_of domains) (map declaration_of relations) ≡ None → schema_refusal [] [] ≡ None)
no_declarations domains relations a b = (
  ap (λ x. schema_of (map declaration_of x) (map declaration_of relations)) a ∙ ap (λ x. schema_of [] (map declaration_of x)) b,
  λ e. sym (ap (λ x. schema_refusal (map declaration_of x) (map declaration_of relations)) a ∙ ap (λ x. schema_refusal [] (map declaration_of x)) b) ∙ e,
)
