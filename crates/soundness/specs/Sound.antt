-- Sound histories: each mark is right, whatever the probes cost.
use Rattle.std.specs.Prelude.{◌≡◌, Bool, true, false, [], ◌∷◌, ◌++◌, Contains}
use Rattle.cqe_base.specs.declared.user.Method.TheVariants.{Lying}
use Rattle.cqe_base.specs.declared.user.Mark.{Mark}
use Rattle.cqe_base.specs.declared.user.Mark.TheVariants.{Yes, No, Refused, Undecided, Protected}
use Rattle.cqe_base.specs.Schema.{DatabaseSchema, is_valid_schema}
use Rattle.cqe_base.specs.Facts.{FactSet, IsWorldOf}
use Rattle.cqe_base.specs.Formula.{Formula}
use Rattle.cqe_base.specs.Truth.{true_in}
use Rattle.cqe_base.specs.Entailment.{all_hold_in, entails}
use Rattle.cqe_base.specs.History.{UserProfile, AnsweredQuery, History, known, log, is_added}
use Rattle.cqe_base.specs.History.{user_at, is_user_of, is_history_of}
use Rattle.cqe_base.specs.Censor.{guarded_with, implied, yes_harm, no_harm, mark_by}
use Rattle.cqe_base.specs.Censor.{IsAdmissible, IsLegal}

-- whether this is the mark of an ask that was settled: yes, no or refused
abbrev pub is_settled : Mark → Bool
is_settled Yes = true
is_settled No = true
is_settled Refused = true
is_settled Undecided = false
is_settled Protected = false

-- the mark of a query after a history by the rule without its first line, as if no probe were spent
abbrev pub unspent_mark : DatabaseSchema → FactSet → UserProfile → History → Formula → Mark
unspent_mark schema world user entries query =
    let now = user_at user entries in
    mark_by user.method false (implied schema now (log user entries) query)
    (yes_harm schema now (log user entries) query) (no_harm schema now (log user entries) query)
    (true_in schema world query)

-- whether the log of a history entails what would be guarded with one more secret: the secret, for
-- lying the disjunction of all secrets with it
abbrev pub entails_with : DatabaseSchema → UserProfile → History → Formula → Bool
entails_with schema user entries secret =
    entails schema (log user entries)
    (guarded_with (user_at user entries) secret, true)

-- an item is sound behind a history: an ask that was settled has the mark of the rule without its
-- first line there, and what was added isn't entailed there
pub record IsSoundItem (schema : DatabaseSchema) (world : FactSet) (user : UserProfile)
    (before : History) (item : AnsweredQuery) : Type 0 where
  pub has_mark : is_settled item.mark ≡ true
      → item.mark ≡ unspent_mark schema world user before item.query
  pub is_unentailed : is_added item.mark ≡ true
      → entails_with schema user before item.query ≡ false

-- each item is sound behind the items before it
abbrev pub IsSound : DatabaseSchema → FactSet → UserProfile → History → Type 0
IsSound schema world user entries =
    (before : History) (item : AnsweredQuery) (after : History) → entries ≡ before ++ item ∷ after
    → IsSoundItem schema world user before item

-- the other world is one of the schema, has all that the user knows true, and for it he is
-- admissible and his history sound
pub record IsSoundThere (schema : DatabaseSchema) (user : UserProfile) (entries : History)
    (other : FactSet) : Type 0 where
  pub of_schema : IsWorldOf schema other
  pub knowledge_true : all_hold_in schema other (known user) ≡ true
  pub admissible : IsAdmissible schema other user
  pub sound : IsSound schema other user entries

-- for each secret of the user at the end of the history there is such a world in which it is false,
-- and for lying one such world serves for all
pub record HidesSoundly (schema : DatabaseSchema) (user : UserProfile) (entries : History) :
    Type 0 where
  pub each_secret : (secret : Formula) → Contains (user_at user entries).secrets secret
      → (other : FactSet) × IsSoundThere schema user entries other
      × (true_in schema other secret ≡ false)
  pub one_world : user.method ≡ Lying
      → (other : FactSet) × IsSoundThere schema user entries other
      × ((secret : Formula) → Contains (user_at user entries).secrets secret
      → true_in schema other secret ≡ false)

-- a sound history of an admissible user hides his secrets soundly
abbrev pub SoundHistoriesHide : Type 0
SoundHistoriesHide =
    (schema : DatabaseSchema) (world : FactSet) (user : UserProfile) (entries : History)
    → IsAdmissible schema world user → IsSound schema world user entries
    → HidesSoundly schema user entries

-- the empty history is sound
abbrev pub EmptyHistoryIsSound : Type 0
EmptyHistoryIsSound =
    (schema : DatabaseSchema) (world : FactSet) (user : UserProfile) → IsSound schema world user []

-- a sound history with one more item that is sound behind it is sound
abbrev pub SoundHistoriesGrow : Type 0
SoundHistoriesGrow =
    (schema : DatabaseSchema) (world : FactSet) (user : UserProfile) (entries : History)
    (item : AnsweredQuery)
    → IsSound schema world user entries → IsSoundItem schema world user entries item
    → IsSound schema world user (entries ++ item ∷ [])

-- a legal history is sound, where all is of a valid schema
abbrev pub LegalHistoriesAreSound : Type 0
LegalHistoriesAreSound =
    (schema : DatabaseSchema) (world : FactSet) (user : UserProfile) (entries : History)
    → is_valid_schema schema ≡ true → is_user_of schema user ≡ true
    → is_history_of schema entries ≡ true
    → IsLegal schema world user entries → IsSound schema world user entries
