-- What going through the records of a journal makes of a user's log.
use Rattle.std.specs.Prelude.{◌≡◌, ℕ, List, [], ◌∷◌, ◌++◌, map, Option, Some, None}
use Rattle.cqe_base.specs.Schema.{DatabaseSchema}
use Rattle.cqe_base.specs.Facts.{FactSet}
use Rattle.cqe_base.specs.History.{UserProfile, AnsweredQuery, History, answered_query_of}
use Rattle.cqe_base.specs.Censor.{IsLegal}
use Rattle.cqe_base.specs.Limits.{KeepsSizes}
use Rattle.log_journal.specs.Records.{Recorded}
use Rattle.user_log.specs.UserLogs.{kept_schema, kept_world, kept_user}
use Rattle.user_log.specs.declared.log.UserLog.{UserLog}
use Rattle.user_log.specs.declared.reply.Reply.{Reply}
use Rattle.user_log.specs.declared.reply.Reply.TheVariants as replies
use Rattle.user_desk.specs.Entries.{entry_of}
use Rattle.user_desk.specs.Causes.{RefusesRecord, IsReplay}
use Rattle.user_desk.specs.declared.recounting.Replayed.{Replayed}
use Rattle.user_desk.specs.declared.recounting.Replayed.TheVariants as replayed
use Rattle.user_desk.specs.declared.standing.DeskError.{DeskError}
use Rattle.user_desk.specs.declared.standing.DeskError.TheVariants.{Stale, Size, Unsafe}
use Rattle.user_desk.specs.declared.standing.Standing.TheVariants.{Open, Closed, Sealed}

-- the log is of this user in this world
pub record IsLogOf (schema : DatabaseSchema) (world : FactSet) (user : UserProfile)
    (log : UserLog) : Type 0 where
  pub schema_is : kept_schema log ≡ schema
  pub world_is : kept_world log ≡ world
  pub user_is : kept_user log ≡ user

-- a record was taken as the next item, or is refused behind these
abbrev pub IsTaken : DatabaseSchema → FactSet → UserProfile → History → History → Recorded
    → Option DeskError → Type 0
IsTaken schema world user old new next None =
    (entry : AnsweredQuery) × (entry_of schema next ≡ Some entry) × (new ≡ old ++ entry ∷ [])
IsTaken schema world user old new next (Some why) = RefusesRecord schema world user old next why

-- why the record of this number is refused, whose text is answered by a code
abbrev pub refused_by : Reply → ℕ → DeskError
refused_by (replies.Syntax refusal) number = Stale number
refused_by replies.Unsafe number = Unsafe number
refused_by code number = Size number

-- What the records of a user's journal are to him, by the rules of an opening: the items that they
-- stand for, a legal history within the limits of a user who is admitted; or the reason why a desk
-- with these records is closed or sealed.
abbrev pub IsReplayed : DatabaseSchema → FactSet → UserProfile → List Recorded → Replayed → Type 0
IsReplayed schema world user all (replayed.Open items) =
    let entries : History = map answered_query_of items.items in
    IsReplay schema world user all entries Open × IsLegal schema world user entries
    × KeepsSizes schema user entries
IsReplayed schema world user all (replayed.Closed admission) =
    IsReplay schema world user all [] (Closed admission)
IsReplayed schema world user all (replayed.Sealed why) =
    IsReplay schema world user all [] (Sealed why)
