-- What a desk keeps between its calls.
use Rattle.std.specs.Prelude.{◌≡◌, ℕ, ◌≤◌, Bool, true, false, List, [], ◌++◌, length, Option, None}
use Rattle.std.specs.Prelude.{is_some, option_to_list}
use Rattle.std.proofs.Props.{props}
use Rattle.cqe_base.specs.Schema.{DatabaseSchema}
use Rattle.cqe_base.specs.Facts.{FactSet}
use Rattle.cqe_base.specs.FormulaCode.{formula_set}
use Rattle.cqe_base.specs.History.{UserProfile, AnsweredQuery, History}
use Rattle.cqe_base.specs.Censor.{IsLegal, admitted}
use Rattle.cqe_base.specs.Limits.{KeepsSizes}
use Rattle.log_journal.specs.Props.{IsJournal-prop}
use Rattle.user_desk.specs.Entries.{StandsWithin}
use Rattle.user_desk.specs.Standings.{is_open, is_sealed}
use Rattle.user_desk.specs.declared.standing.Standing.{Standing}

-- Unless the journal was refused, each image stands for the entries, or for these and the one in
-- flight; with the one in flight too the entries are a legal history within the limits; and only an
-- open desk has any.
pub record IsConsistentDesk (told : Type 0) (image : List ℕ → Type 0) (schema : DatabaseSchema)
    (world : FactSet) (user : UserProfile) (header : List ℕ) (standing : Standing)
    (entries : History)
    (in_flight : Option AnsweredQuery) (has_journal is_broken : Bool) : Type 0 where
  pub images : told → is_sealed standing ≡ false → (c : List ℕ) → image c
      → StandsWithin schema header (length entries) (entries ++ option_to_list in_flight) c
  pub legal : IsLegal schema world user (entries ++ option_to_list in_flight)
  pub sizes : KeepsSizes schema user (entries ++ option_to_list in_flight)
  pub admits : is_open standing ≡ true → admitted schema world user ≡ true
  pub idle : is_open standing ≡ false → (entries ≡ []) × (in_flight ≡ None)
  pub journal : is_open standing ≡ true → has_journal ≡ true
  pub broken : is_broken ≡ is_some in_flight

-- Since the opening, when there were so many entries: unless the journal was refused, each image at
-- each moment stands for a beginning of the entries, with the one in flight, that has at least
-- those; and where it was refused there is none.
pub record StandsSince (told : Type 0) (image : List ℕ → Type 0) (schema : DatabaseSchema)
    (header : List ℕ) (standing : Standing) (opened : ℕ) (entries : History)
    (in_flight : Option AnsweredQuery)
    (has_journal : Bool) : Type 0 where
  pub begins : opened ≤ length entries
  pub images : told → is_sealed standing ≡ false → (c : List ℕ) → image c
      → StandsWithin schema header opened (entries ++ option_to_list in_flight) c
  pub refused : is_sealed standing ≡ true → has_journal ≡ false

-- facts that hold in one way
pub IsConsistentDesk-prop : (told : Type 0) (image : List ℕ → Type 0) (schema : DatabaseSchema)
    (world : FactSet) (user : UserProfile) (header : List ℕ) (standing : Standing)
    (entries : History)
    (in_flight : Option AnsweredQuery) (has_journal is_broken : Bool)
    → IsProp (IsConsistentDesk told image schema world user header standing entries in_flight
    has_journal is_broken)
IsConsistentDesk-prop told image schema world user header standing entries flying journal broken =
    hlevel (props, formula_set, IsJournal-prop)

pub StandsSince-prop : (told : Type 0) (image : List ℕ → Type 0) (schema : DatabaseSchema)
    (header : List ℕ) (standing : Standing) (opened : ℕ) (entries : History)
    (in_flight : Option AnsweredQuery)
    (has_journal : Bool)
    → IsProp (StandsSince told image schema header standing opened entries in_flight
    has_journal)
StandsSince-prop told image schema header standing opened entries in_flight has_journal =
    hlevel (props, formula_set, IsJournal-prop)
