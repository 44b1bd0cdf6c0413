-- A problem stays sound with one more literal or clause.
use Rattle.std.proofs.Common.{◌≡◌, ◌<◌, false, List, [], ◌∷◌, ◌++◌, length, sym, ap, subst, arith, length-append}
use Rattle.std.specs.List.{AllByRecursion}
use Rattle.cqe_base.specs.Literal.{Literal, variable_of, has_literal, ClauseBelow, HasNoRepeat}
use Rattle.cqe_base.proofs.Lists.{all_push}
use Rattle.cqe_base.proofs.NoRepeats.{push_no_repeat}
use Rattle.dimacs_text.specs.Dimacs.{Problem}
use Rattle.dimacs_text.specs.Sound.{variables_in, IsSound}

pub literal_added : (p : Problem) (l : Literal) (literals : List Literal) → IsSound p → variable_of l < variables_in p.header
    → has_literal p.unfinished l ≡ false → literals ≡ p.unfinished ++ l ∷ []
    → IsSound (record { header = p.header; budget = p.budget; lrat = p.lrat; clauses = p.clauses; unfinished = literals })
literal_added p l literals sound below fresh is = record {
  below = sound.below;
  no_repeat = sound.no_repeat;
  unfinished_below =
      subst (λ (c : List Literal). ClauseBelow (variables_in p.header) c) (sym is)
      (all_push (λ m. variable_of m < variables_in p.header) p.unfinished l sound.unfinished_below below);
  unfinished_no_repeat = subst (λ (c : List Literal). HasNoRepeat c) (sym is) (push_no_repeat p.unfinished l sound.unfinished_no_repeat fresh);
  few_variables = sound.few_variables;
  few_announced = sound.few_announced;
  few_clauses = sound.few_clauses;
  small_budget = sound.small_budget;
}

pub clause_closed : (p : Problem) (clauses : List (List Literal)) (literals : List Literal) → IsSound p → length p.clauses < 1000000
    → clauses ≡ p.clauses ++ p.unfinished ∷ [] → literals ≡ []
    → IsSound (record { header = p.header; budget = p.budget; lrat = p.lrat; clauses = clauses; unfinished = literals })
clause_closed p clauses literals sound few is none = record {
  below = subst (λ (cs : List (List Literal)). AllByRecursion (ClauseBelow (variables_in p.header)) cs) (sym is)
      (all_push (ClauseBelow (variables_in p.header)) p.clauses p.unfinished sound.below sound.unfinished_below);
  no_repeat = subst (λ (cs : List (List Literal)). AllByRecursion HasNoRepeat cs) (sym is)
      (all_push HasNoRepeat p.clauses p.unfinished sound.no_repeat sound.unfinished_no_repeat);
  unfinished_below = subst (λ (c : List Literal). ClauseBelow (variables_in p.header) c) (sym none) tt;
  unfinished_no_repeat = subst (λ (c : List Literal). HasNoRepeat c) (sym none) tt;
  few_variables = sound.few_variables;
  few_announced = sound.few_announced;
  few_clauses = omega (arith, ap length is, length-append p.clauses (p.unfinished ∷ []));
  small_budget = sound.small_budget;
}
