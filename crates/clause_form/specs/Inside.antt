-- A former in memory as a form.
use Rattle.std.specs.Prelude.{ℕ, ◌+◌, ◌<◌, ◌^◌, map, List}
use Rattle.std.specs.List.{AllByRecursion}
use Rattle.cqe_base.specs.declared.world.Fact.{Fact}
use Rattle.cqe_base.specs.ClauseForm.{NumberedFact}
use Rattle.clause_form.specs.Forms.{Form}
use Rattle.clause_form.specs.declared.former.Former.TheInside.{Inside}

-- the numbered fact that an entry is
abbrev pub numbered_of : Fact × ℕ → NumberedFact
numbered_of entry = record { fact = entry.0; number = entry.1 }

-- the numbered facts of entries
abbrev pub numbered_facts : List (Fact × ℕ) → List NumberedFact
numbered_facts entries = map numbered_of entries

-- the form that a former's fields are
abbrev pub form_inside : Inside → Form
form_inside former =
    record {
      clauses = former.clauses;
      numbering =
          record { variables = former.variables; facts = numbered_facts former.facts.entries };
    }

-- a literal can name each number, and the next free one has room
pub record IsSound (former : Inside) : Type 0 where
  pub numbers : AllByRecursion (λ e. e.number + 1 < 2 ^ 31) (numbered_facts former.facts.entries)
  pub variables : former.variables < 2 ^ 31
