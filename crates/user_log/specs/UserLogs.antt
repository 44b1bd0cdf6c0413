-- What a user's log is to its callers.
use Rattle.std.specs.Prelude.{◌≡◌, map}
use Rattle.cqe_base.specs.Schema.{DatabaseSchema}
use Rattle.cqe_base.specs.Facts.{FactSet}
use Rattle.cqe_base.specs.History.{UserProfile, History, profile_of, answered_query_of}
use Rattle.user_log.specs.declared.log.UserLog.{UserLog}

-- its schema
abbrev pub kept_schema : UserLog → DatabaseSchema
kept_schema log = log.schema.now

-- its world
abbrev pub kept_world : UserLog → FactSet
kept_world log = log.world.now

-- its user
abbrev pub kept_user : UserLog → UserProfile
kept_user log = profile_of log.user.now

-- its entries, oldest first
abbrev pub kept_history : UserLog → History
kept_history log = map answered_query_of log.entries.items

-- two logs are of one user in one world
pub record IsOfSame (old new : UserLog) : Type 0 where
  pub schema : kept_schema new ≡ kept_schema old
  pub world : kept_world new ≡ kept_world old
  pub user : kept_user new ≡ kept_user old
