-- Users as a registry has them: what is asked of them, and the names of their journals.
use Rattle.std.specs.Prelude.{◌≡◌, false, List, All, map}
use Rattle.std.specs.List.{AllByRecursion}
use Rattle.cqe_base.specs.Schema.{DatabaseSchema, Text, has_duplicate}
use Rattle.cqe_base.specs.History.{profile_of}
use Rattle.cqe_base.specs.Limits.{KeepsLimits}
use Rattle.cqe_base.specs.declared.user.User.{User}
use Rattle.log_journal.specs.Names.{journal_name}
use Rattle.desk_crew.specs.Crew.{named_user, seat_user}
use Rattle.desk_crew.specs.Seats.{DeskSeat}

-- each user keeps the limits
abbrev pub AllKeepLimits : DatabaseSchema → List User → Type 0
AllKeepLimits schema users = All (λ user. KeepsLimits schema (profile_of user)) users

-- so do the users of seats
abbrev pub SeatsKeepLimits : {D : Type 0} {g h : _} → DatabaseSchema → List (DeskSeat D g h)
    → Type 0
SeatsKeepLimits schema seats =
    AllByRecursion (λ seat. KeepsLimits schema (profile_of (seat_user seat))) seats

-- the names of users
abbrev pub registered_names : List User → List Text
registered_names users = map (λ user. user.name) (map named_user users)

-- no two users have one name
abbrev pub HaveOwnNames : List User → Type 0
HaveOwnNames users = has_duplicate (registered_names users) ≡ false

-- the names of their journals in a directory
abbrev pub registered_journals : Text → List User → List Text
registered_journals directory users = map (journal_name directory) (registered_names users)
