-- What a scope in memory stands for.
use Rattle.std.specs.Prelude.{List, [], ◌∷◌}
use Rattle.cqe_base.specs.Reading
use Rattle.cqe_base.specs.Reading.{Binder}
use Rattle.sentence_text.specs.declared.scope.TypedTerm.{TypedTerm}
use Rattle.sentence_text.specs.declared.scope.Scope.{Scope, Outermost, Within'}

-- the enclosing quantifiers, the innermost first
abbrev pub binders : Scope → List Binder
binders Outermost = []
binders (Within' variable domain _ outer) =
    record { variable = variable.now; domain = domain } ∷ binders outer

-- what a term with its domain in memory is
abbrev pub typed_term : TypedTerm → Reading.TypedTerm
typed_term t = record { term = t.term; domain = t.domain }
