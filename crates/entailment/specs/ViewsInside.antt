-- A log in memory with its views.
use Rattle.std.specs.Prelude.{◌-◌, All, vec_len, vec_capacity}
use Rattle.entailment.specs.Logs.{IsSmallLog, told_log}
use Rattle.entailment.specs.Views.{LogView, IsViewWithin}
use Rattle.entailment.specs.declared.views.Views.TheInside.{Inside}

-- the log that the fields are
abbrev pub views_inside : Inside → LogView
views_inside v =
    record {
      schema = v.schema.now;
      log = told_log v.log.items;
      room = vec_capacity v.log - vec_len v.log;
    }

-- the log is small, and each view at hand is of a beginning of it
pub record AreWithin (v : Inside) : Type 0 where
  pub small : IsSmallLog v.schema.now (told_log v.log.items)
  pub spares : All (IsViewWithin v.schema.now (told_log v.log.items)) v.spares.items
