-- What is written of a user who is served is accepted.
use Rattle.std.specs.Prelude.{◌≡◌, ℕ, ◌≤◌, true, List, length, Ok}
use Rattle.cqe_base.specs.Schema.{DatabaseSchema, Text, is_schema_name, is_valid_schema}
use Rattle.cqe_base.specs.Facts.{FactSet}
use Rattle.cqe_base.specs.History.{UserProfile}
use Rattle.cqe_base.specs.Limits.{KeepsLimits}
use Rattle.user_desk.specs.declared.standing.Standing.TheVariants.{Open}
use Rattle.dossier_engine.specs.Checks.{checked_bytes}
use Rattle.dossier_engine.specs.Ends.{IsDossierOf}

-- the dossier of a user who is served is accepted, where it isn't too long, and shows the entries
-- of his journal
abbrev pub WrittenAreAccepted : Type 0
WrittenAreAccepted =
    (schema : DatabaseSchema) (world : FactSet) (header : List ℕ) (name : Text)
    (user : UserProfile) (bytes : List ℕ) (before now : ℕ) (text : Text)
    → is_valid_schema schema ≡ true → is_schema_name name ≡ true → KeepsLimits schema user
    → (is : IsDossierOf schema world header name user bytes before now Open text)
    → length text ≤ 67108864 → checked_bytes schema world name user text ≡ Ok is.entries
