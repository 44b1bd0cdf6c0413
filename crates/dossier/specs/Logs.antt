-- What is kept of the items that were read so far.
use Rattle.std.specs.Prelude.{◌≡◌, ◌++◌, ◌∷◌, [], map, sum_by}
use Rattle.cqe_base.specs.Schema.{DatabaseSchema}
use Rattle.cqe_base.specs.History.{UserProfile, AnsweredQuery, History, profile_of, log, user_at}
use Rattle.cqe_base.specs.History.{answered_query_of, view_size}
use Rattle.cqe_base.specs.Censor.{guarded}
use Rattle.cqe_base.specs.Limits.{KeepsLimits, KeepsSizes}
use Rattle.entailment.specs.Views.{IsViewOf}
use Rattle.dossier.specs.declared.past.Past.{Past}

-- the schema
abbrev pub past_schema : Past → DatabaseSchema
past_schema past = past.schema.now

-- the user, without what the items add
abbrev pub past_user : Past → UserProfile
past_user past = profile_of past.user.now

-- the items, oldest first
abbrev pub past_history : Past → History
past_history past = map answered_query_of past.entries.items

-- what is kept is that of the items, which came within the limits of the user
pub record IsKept (past : Past) : Type 0 where
  pub limits : KeepsLimits (past_schema past) (past_user past)
  pub sizes : KeepsSizes (past_schema past) (past_user past) (past_history past)
  pub current : profile_of past.current ≡ user_at (past_user past) (past_history past)
  pub guards_schema : past.guards.schema ≡ past_schema past
  pub guarded_now : past.guards.sentences ≡ guarded (user_at (past_user past) (past_history past))
  pub view : IsViewOf (past_schema past) (log (past_user past) (past_history past)) past.view
  pub bytes : past.text_bytes ≡ sum_by (λ entry. entry.length) (past_history past)
  pub nodes : past.view_nodes
      ≡ view_size (past_schema past) (past_user past) (past_history past)

-- two are of one user over one schema
pub record IsPastOfSame (old new : Past) : Type 0 where
  pub schema : past_schema new ≡ past_schema old
  pub user : past_user new ≡ past_user old

-- the same items are kept
abbrev pub IsSamePast : Past → Past → Type 0
IsSamePast old new = IsPastOfSame old new × (past_history new ≡ past_history old)

-- one more item is kept
abbrev pub HasAdded : AnsweredQuery → Past → Past → Type 0
HasAdded item old new =
    IsPastOfSame old new × (past_history new ≡ past_history old ++ item ∷ [])
