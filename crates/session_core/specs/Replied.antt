-- The replies to one user in a session, by his one history.
use Rattle.std.specs.Prelude.{◌≡◌, ℕ, suc, ◌≤◌, Bool, true, false, List, [], ◌∷◌, ◌++◌, length, Ok}
use Rattle.std.specs.Prelude.{Option, Some, None}
use Rattle.cqe_base.specs.declared.user.Purpose.TheVariants.{Asking}
use Rattle.cqe_base.specs.Schema.{DatabaseSchema, Text}
use Rattle.cqe_base.specs.Facts.{FactSet}
use Rattle.cqe_base.specs.Reading.{reading}
use Rattle.cqe_base.specs.History.{UserProfile, AnsweredQuery, History}
use Rattle.cqe_base.specs.Run.{Standing, Reply, reply, marked, no_sentence, history_full, too_large}
use Rattle.cqe_base.specs.Run.{user_closed, desk_sealed, desk_broken, no_memory, secrets_full}
use Rattle.cqe_base.specs.Run.{unsafe_secret}

-- a reply that is no mark
abbrev pub IsUnmarked : Reply → Type 0
IsUnmarked (marked mark) = ⊥
IsUnmarked (no_sentence kind place) = Unit {0}
IsUnmarked history_full = Unit {0}
IsUnmarked too_large = Unit {0}
IsUnmarked user_closed = Unit {0}
IsUnmarked desk_sealed = Unit {0}
IsUnmarked desk_broken = Unit {0}
IsUnmarked no_memory = Unit {0}
IsUnmarked secrets_full = Unit {0}
IsUnmarked unsafe_secret = Unit {0}

-- The user's history and whether an append failed, as they are in the end.
module _ (schema : DatabaseSchema) (world : FactSet) (user : UserProfile) (standing : Standing)
    (history : History) (broke : Bool) where
  -- The asks of a session with their replies. Each is replied to by the first entries of the
  -- history, of which there are never fewer than at the ask before; a mark has its own entry just
  -- behind them, and the next ask has it among its own.
  -- That its append failed is told of an ask whose reply would be a mark, at a desk where none had
  -- failed. Behind it all asks find it failed, and so it is in the end. It and those that find it
  -- failed are replied to by the whole history: no entry comes behind. The last list are the
  -- entries of the marks, and behind it stands the one entry whose append failed, if that was of
  -- one of these asks: the ask's query, the mark that its reply would be, and its text's length.
  pub data Replied : (least : ℕ) (failed : Bool) → List (Text × Reply) → History
      → (in_flight : Option AnsweredQuery) → Type 0 where
    nothing : {least : ℕ} {failed : Bool} → least ≤ length history
        → (failed ≡ true → broke ≡ true) → Replied least failed [] [] None
    answered : {least : ℕ} {text : Text} {asks : List (Text × Reply)} {entries : History}
        {in_flight : Option AnsweredQuery} (before after : History) (entry : AnsweredQuery)
        → least ≤ length before → history ≡ before ++ entry ∷ after
        → reading schema text ≡ Ok entry.query → entry.length ≡ length text
        → reply schema world user before standing false Asking text ≡ marked entry.mark
        → Replied (suc (length before)) false asks entries in_flight
        → Replied least false ((text, marked entry.mark) ∷ asks) (entry ∷ entries) in_flight
    coded : {least : ℕ} {failed : Bool} {text : Text} {code : Reply} {asks : List (Text × Reply)}
        {entries : History} {in_flight : Option AnsweredQuery} (before after : History)
        (failed_now : Bool)
        → least ≤ length before → history ≡ before ++ after → (failed ≡ true → failed_now ≡ true)
        → (failed_now ≡ true → after ≡ []) → IsUnmarked code
        → reply schema world user before standing failed_now Asking text ≡ code
        → Replied (length before) failed_now asks entries in_flight
        → Replied least failed ((text, code) ∷ asks) entries in_flight
    append_failed : {least : ℕ} {text : Text} {asks : List (Text × Reply)} {entries : History}
        {in_flight : Option AnsweredQuery} (entry : AnsweredQuery) → least ≤ length history
        → reading schema text ≡ Ok entry.query → entry.length ≡ length text
        → reply schema world user history standing false Asking text ≡ marked entry.mark
        → broke ≡ true
        → Replied (length history) true asks entries in_flight
        → Replied least false ((text, desk_broken) ∷ asks) entries (Some entry)
    wanted : {least : ℕ} {failed : Bool} {text : Text} {asks : List (Text × Reply)}
        {entries : History} {in_flight : Option AnsweredQuery}
        → Replied least failed asks entries in_flight
        → Replied least failed ((text, no_memory) ∷ asks) entries in_flight
