-- What a standby has: every told record, so that a user's marks hide there what they hid.
use Rattle.std.specs.Prelude.{◌≡◌, ◌≤◌, true, List, ◌++◌, length, map, take, Option, Some}
use Rattle.cqe_base.specs.Schema.{DatabaseSchema, is_valid_schema}
use Rattle.cqe_base.specs.Facts.{FactSet}
use Rattle.cqe_base.specs.History.{UserProfile, AnsweredQuery, History, is_user_of}
use Rattle.cqe_base.specs.History.{is_history_of}
use Rattle.cqe_base.specs.Censor.{admitted, IsLegal}
use Rattle.cqe_base.specs.Hiding.{Hides}
use Rattle.replica.specs.Replica.{Replica, ReplicaEvent, replica_after}

-- the standby's records are a beginning of the primary's, and the records of all told marks are
-- among them
pub record KeepsUp {R : Type 0} (now : Replica R) : Type 0 where
  -- what the primary has behind the standby's records
  pub missing : List R
  pub is_beginning : now.primary ≡ now.standby ++ missing
  pub has_told : now.told ≤ length now.standby

-- whatever happens, the standby keeps up
abbrev pub StandbysKeepUp : Type 0 → Type 0
StandbysKeepUp R = (events : List (ReplicaEvent R)) → KeepsUp (replica_after events)

-- these entries are a legal beginning of the history, the standby's records stand for them, they
-- have every told mark, and they hide
pub record HidesThere (schema : DatabaseSchema) (world : FactSet) (user : UserProfile)
    (entries : History) {R : Type 0} (entry_of : R → Option AnsweredQuery) (now : Replica R)
    (first : History) : Type 0 where
  pub is_beginning : first ≡ take (length now.standby) entries
  pub stands : map entry_of now.standby ≡ map Some first
  pub has_told : now.told ≤ length first
  pub legal : IsLegal schema world user first
  pub hides : Hides schema world user first

-- where the primary's records stand for a legal history of an admitted user, of sentences of the
-- schema, the standby's stand for a legal beginning of it that has every told mark and hides
abbrev pub StandbysHide : Type 0 → Type 0
StandbysHide R =
    (schema : DatabaseSchema) (world : FactSet) (user : UserProfile) (entries : History)
    → is_valid_schema schema ≡ true → is_user_of schema user ≡ true
    → is_history_of schema entries ≡ true
    → admitted schema world user ≡ true → IsLegal schema world user entries
    → (entry_of : R → Option AnsweredQuery) (events : List (ReplicaEvent R))
    → map entry_of (replica_after events).primary ≡ map Some entries
    → HidesThere schema world user entries entry_of (replica_after events)
    (take (length (replica_after events).standby) entries)
