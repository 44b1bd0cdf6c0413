use Rattle.std.proofs.Common.{◌≡◌, [], drop, length, map}
use Rattle.toml.specs.View.{view}
use Rattle.policy_files.specs.Users.{users_behind}
use Rattle.policy_files.specs.Memory.{policy_user_of}
use Rattle.policy_files.proofs.user.read_users.Given as goal

-- each table so far is a user, and the tables that are left are read behind them
abbrev pub invariant-loop-table : goal.invariant-loop-table
invariant-loop-table l =
    (length l.users.items ≡ l.table-index)
    × (users_behind l.version l.schema (map policy_user_of l.users.items) (map view (drop l.table-index l.tables))
    ≡ users_behind l.version l.schema [] (map view l.tables))
