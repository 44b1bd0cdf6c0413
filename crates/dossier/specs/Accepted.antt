-- The dossiers that are written: they are accepted, and of each user's records there is one.
use Rattle.std.specs.Prelude.{◌≡◌, ◌==◌, ℕ, true, false, List, map, Some, Ok}
use Rattle.std.specs.List.{list_all, list_any}
use Rattle.cqe_base.specs.Schema.{DatabaseSchema, Text, is_schema_name, is_valid_schema}
use Rattle.cqe_base.specs.Facts.{FactSet}
use Rattle.cqe_base.specs.History.{UserProfile, History}
use Rattle.cqe_base.specs.Censor.{IsLegal, admitted}
use Rattle.cqe_base.specs.Limits.{KeepsLimits, KeepsSizes}
use Rattle.log_journal.specs.Records.{Recorded, is_record}
use Rattle.log_journal.specs.Walk as walk
use Rattle.user_desk.specs.Causes.{Opens}
use Rattle.user_desk.specs.Entries.{entry_of}
use Rattle.dossier.specs.Checked.{checked}
use Rattle.dossier.specs.Written.{IsDossier}

-- the dossier of a legal history of an admitted user, whose name has no line feed, is accepted: it
-- shows the items of his records
abbrev pub DossiersAreAccepted : Type 0
DossiersAreAccepted =
    (schema : DatabaseSchema) (world : FactSet) (name : Text) (user : UserProfile)
    (records : List Recorded) (entries : History) (text : Text)
    → is_valid_schema schema ≡ true → list_any (λ b. b == 10) name ≡ false
    → KeepsLimits schema user → admitted schema world user ≡ true
    → list_all (is_record 5) records ≡ true
    → map (entry_of schema) records ≡ map Some entries
    → IsLegal schema world user entries → KeepsSizes schema user entries
    → IsDossier schema name user records text → checked schema world name user text ≡ Ok entries

-- so is that of a journal whose bytes open his desk
abbrev pub ServedAreAccepted : Type 0
ServedAreAccepted =
    (schema : DatabaseSchema) (world : FactSet) (name : Text) (user : UserProfile)
    (header bytes : List ℕ) (entries : History) (text : Text)
    → is_valid_schema schema ≡ true → list_any (λ b. b == 10) name ≡ false
    → KeepsLimits schema user → admitted schema world user ≡ true
    → Opens schema world user header entries bytes
    → IsDossier schema name user (walk.records bytes) text
    → checked schema world name user text ≡ Ok entries

-- the name of a user that may stand in a policy has none
abbrev pub NamesHaveNoFeed : Type 0
NamesHaveNoFeed =
    (name : Text) → is_schema_name name ≡ true → list_any (λ b. b == 10) name ≡ false

-- a user with these records has at most one dossier: nothing else decides a byte of it
abbrev pub DossiersAreOne : Type 0
DossiersAreOne =
    (schema : DatabaseSchema) (name : Text) (user : UserProfile) (records : List Recorded)
    (first second : Text)
    → IsDossier schema name user records first → IsDossier schema name user records second
    → first ≡ second
