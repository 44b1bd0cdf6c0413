-- An item that is ready to be added to a user's log.
use Rattle.std.specs.Prelude.{◌≡◌, ◌<◌, vec_len, vec_capacity}
use Rattle.cqe_base.specs.Formula.{formula_of}
use Rattle.cqe_base.specs.History.{AnsweredQuery, answered_query_of}
use Rattle.cqe_base.specs.Censor.{IsLegalItem}
use Rattle.cqe_base.specs.Limits.{KeepsSizesAt}
use Rattle.entailment.specs.Views.{room_of}
use Rattle.user_log.specs.Amended.{IsBehind}
use Rattle.user_log.specs.Nodes.{told_nodes}
use Rattle.user_log.specs.UserLogs.{kept_schema, kept_world, kept_user, kept_history}
use Rattle.user_log.specs.declared.log.UserLog.{UserLog}
use Rattle.user_log.specs.declared.prepared.Prepared.{Prepared}

-- the item
abbrev pub prepared_entry : Prepared → AnsweredQuery
prepared_entry prepared = answered_query_of prepared.new_entry

-- the item is legal behind the others and within the limits, its sentence is there once more, there
-- is room for both, and the user is there as he is behind it
pub record IsPrepared (before : UserLog) (prepared : Prepared) : Type 0 where
  pub room : vec_len before.entries < vec_capacity before.entries
  pub view_room : 0 < room_of before.views
  pub told : formula_of prepared.told ≡ formula_of prepared.new_entry.query
  pub nodes : prepared.nodes
      ≡ told_nodes (kept_schema before) prepared.new_entry.mark
      (formula_of prepared.new_entry.query)
  pub sizes : KeepsSizesAt (kept_schema before) (kept_user before) (kept_history before)
      (prepared_entry prepared)
  pub legal : IsLegalItem (kept_schema before) (kept_world before) (kept_user before)
      (kept_history before) (prepared_entry prepared)
  pub amended : IsBehind (kept_schema before) (kept_user before) (kept_history before)
      (prepared_entry prepared) prepared.amended
