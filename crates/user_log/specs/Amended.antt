-- The user behind one more item.
use Rattle.std.specs.Prelude.{◌≡◌, ◌++◌, ◌∷◌, [], false, Option, Some, None}
use Rattle.cqe_base.specs.Schema.{DatabaseSchema}
use Rattle.cqe_base.specs.History.{UserProfile, AnsweredQuery, History, profile_of, is_added}
use Rattle.censors.specs.Guards.{GuardedSentences}
use Rattle.user_log.specs.Kept.{IsAmended}
use Rattle.user_log.specs.declared.prepared.Amended.{Amended}

-- behind an item that was asked the user stays as he is, and behind one that was added he is this
-- one
abbrev pub IsBehind : DatabaseSchema → UserProfile → History → AnsweredQuery → Option Amended
    → Type 0
IsBehind schema user before item None = is_added item.mark ≡ false
IsBehind schema user before item (Some amended) =
    IsAmended schema user (before ++ item ∷ []) (profile_of amended.user) amended.guards

-- such a user and what is guarded from him have come in the place of those that were there, if
-- there is one
abbrev pub IsAmendedTo : Option Amended → UserProfile → GuardedSentences → UserProfile
    → GuardedSentences → Type 0
IsAmendedTo None before guards now now_guards = (now ≡ before) × (now_guards ≡ guards)
IsAmendedTo (Some amended) before guards now now_guards =
    (now ≡ profile_of amended.user) × (now_guards ≡ amended.guards)
