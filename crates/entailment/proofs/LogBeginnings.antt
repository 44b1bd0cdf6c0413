-- Views of beginnings of a log.
use Rattle.std.proofs.Common.{◌≡◌, List, [], ◌∷◌, ◌++◌, sym, ap, ◌∙◌, subst, append_assoc}
use Rattle.std.specs.Prelude.{All, Result, Ok, Err, is_ok, if◌then◌else◌}
use Rattle.std.proofs.lemmas.List.Elements.{All-nil, All-cons, All-append}
use Rattle.cqe_base.specs.Schema.{DatabaseSchema}
use Rattle.cqe_base.specs.Entailment.{Signed}
use Rattle.entailment.specs.Views.{LogView, schema_of, log_of, IsLogBeginning, IsViewWithin}

-- what begins a log begins a longer one
pub begins-longer : (first log more whole : List Signed) → whole ≡ log ++ more → IsLogBeginning first log → IsLogBeginning first whole
begins-longer first log more whole grown begins =
    (begins.0 ++ more, grown ∙ ap (λ l. l ++ more) begins.1 ∙ append_assoc first begins.0 more)

module _ (schema : DatabaseSchema) (log : List Signed) where
  -- a view of a beginning of a log is one of a beginning of a longer log
  pub within-more : (more whole : List Signed) (view : LogView) → whole ≡ log ++ more → IsViewWithin schema log view → IsViewWithin schema whole view
  within-more more whole view grown is = (is.0, begins-longer (log_of view) log more whole grown is.1)

  -- so is one of the empty log
  pub none-within : (view : LogView) → schema_of view ≡ schema → log_of view ≡ [] → IsViewWithin schema log view
  none-within view same none = (same, (log, ap (λ l. l ++ log) (sym none)))

  -- one more view, or none where memory is wanting
  pub pushed-within : {U E : Type 0} (views new : List LogView) (view : LogView) (pushed : Result U E)
      → new ≡ (if is_ok pushed then views ++ view ∷ [] else views)
      → All (IsViewWithin schema log) views → IsViewWithin schema log view → All (IsViewWithin schema log) new
  pushed-within views new view (Ok done) is all one =
      let within = IsViewWithin schema log in
      subst (All within) (sym is) (All-append within views (view ∷ []) all (All-cons within view [] one (All-nil within)))
  pushed-within views new view (Err failed) is all one = subst (All (IsViewWithin schema log)) (sym is) all
