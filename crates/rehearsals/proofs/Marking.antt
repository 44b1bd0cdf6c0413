-- What is kept begins what is marked, and that the list.
use Rattle.std.proofs.Common.{◌≡◌, List, [], ◌∷◌, ◌++◌, sym, ap, subst, ◌∙◌, append_assoc}
use Rattle.std.proofs.lemmas.List.{append-nil}
use Rattle.cqe_base.specs.Literal.{Literal}
use Rattle.clause_solver.specs.Beginnings.{IsBeginning}

pub none-begins : (first list : List (List Literal)) → first ≡ [] → IsBeginning first list
none-begins first list none = (list, ap (λ f. f ++ list) (sym none))

pub all-begin : (first list : List (List Literal)) → first ≡ list → IsBeginning first list
all-begin first list all = ([], sym all ∙ sym (append-nil first))

pub begins-further : (first middle last : List (List Literal)) → IsBeginning first middle → IsBeginning middle last → IsBeginning first last
begins-further first middle last a b = (a.0 ++ b.0, b.1 ∙ ap (λ c. c ++ b.0) a.1 ∙ append_assoc first a.0 b.0)

pub begins-pushed : (first old new : List (List Literal)) (clause : List Literal) → new ≡ old ++ clause ∷ [] → IsBeginning first old → IsBeginning first new
begins-pushed first old new clause pushed begins = begins-further first old new begins (clause ∷ [], pushed)

pub begins-same : (first old list : List (List Literal)) → first ≡ old → IsBeginning old list → IsBeginning first list
begins-same first old list same begins = subst (λ f. IsBeginning f list) (sym same) begins
