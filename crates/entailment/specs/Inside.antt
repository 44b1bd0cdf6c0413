-- A view in memory as a log over a schema.
use Rattle.std.specs.Prelude.{◌≡◌, ◌≤◌, ◌-◌, length, take, vec_len, vec_capacity}
use Rattle.clause_solver.specs.Beginnings.{IsBeginning}
use Rattle.entailment.specs.Logs.{IsSmallLog, told_log}
use Rattle.entailment.specs.Forms.{form_of_log}
use Rattle.entailment.specs.Views.{LogView}
use Rattle.entailment.specs.declared.view.View.TheInside.{Inside}

-- the view that the fields are
abbrev pub view_inside : Inside → LogView
view_inside v =
    record {
      schema = v.schema.now;
      log = told_log v.log.items;
      room = vec_capacity v.log - vec_len v.log;
    }

-- the log is small, the former has the form of its first sentences, so many as are formed, and the
-- clauses that the search keeps are the first of that form
pub record IsSound (v : Inside) : Type 0 where
  pub small : IsSmallLog v.schema.now (told_log v.log.items)
  pub within : v.formed ≤ length (told_log v.log.items)
  pub form : v.former ≡ form_of_log v.schema.now (take v.formed (told_log v.log.items))
  pub kept : IsBeginning v.kept v.former.clauses
