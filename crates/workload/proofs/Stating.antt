-- The line of a statement states its fact.
use Rattle.std.proofs.Common.{◌≡◌, ◌∙◌, sym, ap, refl, ℕ, ◌<◌, Bool, true, ◌&&◌, [], ◌∷◌, ◌++◌, slice_get, codes, decimal, Option, Some, None, unwrap_or}
use Rattle.std.proofs.Common.{if◌then◌else◌, Result, Ok, arith, append_assoc}
use Rattle.std.specs.Fmt.{digits}
use Rattle.std.proofs.lemmas.Bool.{lt-ltb}
use Rattle.std.proofs.lemmas.List.{append-nil}
use Rattle.std.proofs.lemmas.List.FromFn.{get_or-map-range_with_len, length-map-range_with_len}
use Rattle.std.proofs.lemmas.Option.{slice_get-get_or}
use Rattle.cqe_base.specs.declared.sentence.Term.{Term}
use Rattle.cqe_base.specs.declared.sentence.Term.TheVariants as terms
use Rattle.cqe_base.specs.Schema.{Text, is_valid_schema}
use Rattle.cqe_base.specs.Formula.{Formula, atom, is_domain}
use Rattle.cqe_base.specs.Tokens.{mark_length, token_length, tokens_from, symbol_of}
use Rattle.cqe_base.specs.Reading.{reading}
use Rattle.cqe_base.specs.FactText.{stated_fact, fact_read}
use Rattle.cqe_base.specs.Canonical.{canonical}
use Rattle.sentence_text.specs.Laws.{CanonicalFormsRead}
use Rattle.workload.specs.Statements.{statement_text}
use Rattle.workload.specs.Stated.{numbered, workload_schema, meant_fact}
use Rattle.workload.specs.declared.statement.Statement.{Statement}
use Rattle.workload.specs.declared.statement.Statement.TheVariants.{Drug, Has}

valid : is_valid_schema workload_schema ≡ true
unfolding digits
valid = refl

named : (letter : Text) (count n : ℕ) → n < count → slice_get (numbered letter count) n ≡ Some (letter ++ decimal n)
named letter count n less =
    slice_get-get_or (numbered letter count) n [] (omega (arith, less, length-map-range_with_len (λ (k : ℕ). letter ++ decimal k) 0 count))
    ∙ ap (λ (t : Text). Some t) (get_or-map-range_with_len (λ (k : ℕ). letter ++ decimal k) 0 count n n [] less (omega arith))

abbrev person_term : ℕ → Term
person_term j = terms.Constant (record { domain = 1; index = j })

abbrev disease_term : ℕ → Term
disease_term k = terms.Constant (record { domain = 0; index = k })

drug_text : (j : ℕ) → j < 40 → canonical workload_schema (atom 0 (person_term j ∷ [])) ≡ statement_text (Drug j)
drug_text j less =
    ap (λ (o : Option Text). codes "drug" ++ codes "(" ++ (unwrap_or o [] ++ []) ++ codes ")") (named (codes "p") 40 j less)
    ∙ ap (λ (l : Text). codes "drug(p" ++ (l ++ codes ")")) (append-nil (decimal j))

has_text : (j k : ℕ) → j < 40 → k < 12 → canonical workload_schema (atom 1 (person_term j ∷ disease_term k ∷ [])) ≡ statement_text (Has j k)
has_text j k less less' =
    (λ i. codes "has" ++ codes "(" ++ (unwrap_or (named (codes "p") 40 j less i) [] ++ (codes ", " ++ unwrap_or (named (codes "d") 12 k less' i) [] ++ []))
    ++ codes ")")
    ∙ ap (λ (l : Text). codes "has(p" ++ l) (append_assoc (decimal j) (codes ", d" ++ (decimal k ++ [])) (codes ")"))
    ∙ ap (λ (l : Text). codes "has(p" ++ (decimal j ++ (codes ", d" ++ (l ++ codes ")")))) (append-nil (decimal k))

-- the statement is about the forty persons and the twelve diseases
abbrev pub IsWithin : Statement → Type 0
IsWithin (Drug person) = person < 40
IsWithin (Has person disease) = (person < 40) × (disease < 12)

module _ (law : CanonicalFormsRead) where
  drug_read : (j : ℕ) → j < 40 → reading workload_schema (statement_text (Drug j)) ≡ Ok (atom 0 (person_term j ∷ []))
  drug_read j less =
      ap (reading workload_schema) (sym (drug_text j less))
      ∙ law workload_schema (atom 0 (person_term j ∷ [])) valid (ap (λ (b : Bool). is_domain (if b then Some 1 else None) 1 && true) (lt-ltb j 40 less))
      (omega arith)

  pub has_read : (j k : ℕ) → j < 40 → k < 12 → reading workload_schema (statement_text (Has j k)) ≡ Ok (atom 1 (person_term j ∷ disease_term k ∷ []))
  has_read j k less less' =
      ap (reading workload_schema) (sym (has_text j k less less'))
      ∙ law workload_schema (atom 1 (person_term j ∷ disease_term k ∷ [])) valid
      (λ i. is_domain (if lt-ltb j 40 less i then Some 1 else None) 1 && (is_domain (if lt-ltb k 12 less' i then Some 0 else None) 0 && true)) (omega arith)

  pub states : (statement : Statement) → IsWithin statement → stated_fact workload_schema (statement_text statement) ≡ Some (meant_fact statement)
  unfolding stated_fact tokens_from token_length mark_length symbol_of
  states (Drug j) less = ap (λ (r : Result Formula _). fact_read r) (drug_read j less)
  states (Has j k) within = ap (λ (r : Result Formula _). fact_read r) (has_read j k within.0 within.1)
