-- Small logs with one more sentence.
use Rattle.std.proofs.Common.{◌≡◌, ◌+◌, ◌≤◌, true, nat_le, List, [], ◌∷◌, ◌++◌, refl, ◌∙◌, arith}
use Rattle.std.proofs.lemmas.Bool.{and_from, le-leb}
use Rattle.std.proofs.lemmas.List.Folds.{list_all-append}
use Rattle.std.proofs.lemmas.List.Sums.{sum_by-append}
use Rattle.cqe_base.specs.Schema.{DatabaseSchema}
use Rattle.cqe_base.specs.Formula.{nodes, is_sentence_of}
use Rattle.cqe_base.specs.Entailment.{Signed}
use Rattle.cqe_base.specs.History.{signed_nodes}
use Rattle.entailment.specs.Logs.{IsSmallLog, log_nodes}

-- no sentences
pub small-none : (schema : DatabaseSchema) → IsSmallLog schema []
small-none schema = record { sentences = refl; each = refl; all = omega arith }

-- a small log with one more sentence that isn't too large
pub small-more : (schema : DatabaseSchema) (log : List Signed) (s : Signed) → IsSmallLog schema log → is_sentence_of schema s.0 ≡ true
    → nodes schema s.0 ≤ 20000 → log_nodes schema log + signed_nodes schema s.0 s.1 ≤ 60000 → IsSmallLog schema (log ++ s ∷ [])
small-more schema log s small sentence few room =
    let sum : log_nodes schema (log ++ s ∷ []) ≡ log_nodes schema log + log_nodes schema (s ∷ []) =
    sum_by-append (λ signed. signed_nodes schema signed.0 signed.1) log (s ∷ []) in
    let one : log_nodes schema (s ∷ []) ≡ signed_nodes schema s.0 s.1 = omega arith in
    record {
      sentences = list_all-append (λ signed. is_sentence_of schema signed.0) log (s ∷ []) ∙ and_from _ _ small.sentences (and_from _ _ sentence refl);
      each = list_all-append (λ signed. nat_le (nodes schema signed.0) 20000) log (s ∷ [])
          ∙ and_from _ _ small.each (and_from _ _ (le-leb (nodes schema s.0) 20000 few) refl);
      all = omega arith;
    }
