-- What the check of a dossier promises.
use Rattle.std.specs.Prelude.{◌≡◌, ◌≢◌, ℕ, length, Result, Ok, Err}
use Rattle.cqe_base.specs.Schema.{DatabaseSchema, Text}
use Rattle.cqe_base.specs.Facts.{FactSet}
use Rattle.cqe_base.specs.History.{UserProfile, History}
use Rattle.cqe_base.specs.Censor.{IsAdmissible}
use Rattle.soundness.specs.Sound.{IsSound, HidesSoundly}
use Rattle.dossier.specs.Checked.{checked}
use Rattle.dossier.specs.declared.error.DossierError.{DossierError}
use Rattle.dossier.specs.declared.error.DossierError.TheVariants.{Memory}

-- an answer is this one, but for want of memory
abbrev pub IsButMemory : {X : Type 0} → (exact answer : Result X DossierError) → Type 0
IsButMemory exact answer = answer ≢ Err Memory → answer ≡ exact

-- how many items a history has, where there is one
abbrev pub counted : Result History DossierError → Result ℕ DossierError
counted (Ok entries) = Ok (length entries)
counted (Err why) = Err why

module _ (schema : DatabaseSchema) (world : FactSet) (name : Text) (user : UserProfile) where
  -- an answer is that of the definition, but for want of memory
  abbrev pub IsCheckOf : Text → Result ℕ DossierError → Type 0
  IsCheckOf text answer = IsButMemory (counted (checked schema world name user text)) answer

  -- what a text shows that is accepted with so many items: the user is admissible, the history that
  -- it shows is sound, and hides soundly
  pub record IsAccepted (text : Text) (count : ℕ) : Type 0 where
    pub entries : History
    pub shown : checked schema world name user text ≡ Ok entries
    pub are_counted : length entries ≡ count
    pub admissible : IsAdmissible schema world user
    pub sound : IsSound schema world user entries
    pub hides : HidesSoundly schema user entries

-- a text that is accepted shows that the user is admissible and the history sound
abbrev pub CheckedAreSound : Type 0
CheckedAreSound =
    (schema : DatabaseSchema) (world : FactSet) (name : Text) (user : UserProfile) (text : Text)
    (entries : History) → checked schema world name user text ≡ Ok entries
    → IsAdmissible schema world user × IsSound schema world user entries
