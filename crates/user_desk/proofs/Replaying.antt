-- What a replay's log and standing are without the log.
use Rattle.std.proofs.Common.{◌≡◌, List, [], sym, subst}
use Rattle.cqe_base.specs.Schema.{DatabaseSchema}
use Rattle.cqe_base.specs.Facts.{FactSet}
use Rattle.cqe_base.specs.History.{UserProfile, History}
use Rattle.cqe_base.specs.Censor.{IsLegal}
use Rattle.cqe_base.specs.Limits.{KeepsSizes}
use Rattle.log_journal.specs.Records.{Recorded}
use Rattle.user_desk.specs.Causes.{IsReplay}
use Rattle.user_desk.specs.declared.standing.DeskError.{DeskError}
use Rattle.user_desk.specs.declared.standing.DeskError.TheVariants.{Journal, Stale, Unlawful, Size, NotAdmitted, Unsafe}
use Rattle.user_desk.specs.declared.standing.Standing.{Standing}
use Rattle.user_desk.specs.declared.standing.Standing.TheVariants.{Open, Sealed}

module _ (schema : DatabaseSchema) (world : FactSet) (user : UserProfile) (all : List Recorded) where
  -- the items that a log hands out are its history
  pub open_told : (kept told : History) → told ≡ kept → IsReplay schema world user all kept Open → IsLegal schema world user kept → KeepsSizes schema user kept
      → IsReplay schema world user all told Open × IsLegal schema world user told × KeepsSizes schema user told
  open_told kept told is replay legal sizes =
      subst (λ h. IsReplay schema world user all h Open × IsLegal schema world user h × KeepsSizes schema user h) (sym is) (replay, legal, sizes)

  -- where it has none, they needn't be told
  pub none_told : (kept : History) (standing : Standing) → kept ≡ [] → IsReplay schema world user all kept standing → IsReplay schema world user all [] standing
  none_told kept standing none replay = subst (λ h. IsReplay schema world user all h standing) none replay

  -- a log whose records are refused has none
  pub sealed_none : (kept : History) (why : DeskError) → IsReplay schema world user all kept (Sealed why) → kept ≡ []
  sealed_none kept (Journal why) replay = replay.0
  sealed_none kept (Stale number) replay = replay.0
  sealed_none kept (Unlawful number stored computed) replay = replay.0
  sealed_none kept (Size number) replay = replay.0
  sealed_none kept (NotAdmitted admission) replay = replay.0
  sealed_none kept (Unsafe number) replay = replay.0
