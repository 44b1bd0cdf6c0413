-- Batches over the same files, of which each begins with what the one before left.
use Rattle.std.specs.Prelude.{◌≡◌, ◌⊎◌, ℕ, true, List, [], ◌∷◌, ◌++◌, Some, find, bytes_eq}
use Rattle.std.specs.List.{list_any}
use Rattle.cqe_base.specs.Schema.{Text, DatabaseSchema}
use Rattle.cqe_base.specs.Facts.{FactSet}
use Rattle.cqe_base.specs.Run.{Event, UserState, opening, after_events, replies}
use Rattle.cqe_base.specs.Transcript.{NamedUser, ScriptEvent, own_events, own_replies, transcript}
use Rattle.cqe_base.specs.Transcript.{state_after}
use Rattle.user_desk.specs.Joining.{Call, IsCallOver, AreOneRun, Span, IsSpanOver}
use Rattle.desk_crew.specs.Shelved.{Journals}
use Rattle.batch_engine.specs.Batch.{ServesUser, AnswersBatch, with_opening}
use Rattle.batch_engine.specs.BatchLines.{BatchItem}
use Rattle.batch_engine.specs.Lives.{is_opened, IsStretchEnd}

-- a batch as a call to one user, which left these bytes of his journal
abbrev pub call_of : DatabaseSchema → FactSet → List NamedUser → List ScriptEvent → NamedUser
    → List ℕ → Call
call_of schema world users script user left = record {
  opened = user.opened;
  events = own_events user.name script;
  told = own_replies user.name (transcript schema world users script);
  left = left;
}

-- a batch as a part of his history, by the state with which it ended
abbrev pub span_of : UserState → NamedUser → List ℕ → Span
span_of state user left = record {
  opened = user.opened;
  entries = state.entries;
  pending = state.pending;
  left = left;
}

-- a batch that was cut, as a call to one user: he was told the replies to these of his events
abbrev pub cut_call_of : DatabaseSchema → FactSet → NamedUser → List Event → List ℕ → Call
cut_call_of schema world user front left = record {
  opened = user.opened;
  events = front;
  told = replies schema world user.profile user.opened front;
  left = left;
}

-- the same as a part of his history, by the state behind these of his events
abbrev pub cut_span_of : DatabaseSchema → FactSet → NamedUser → List Event → List ℕ → Span
cut_span_of schema world user front left = span_of (after_events schema world user.profile
    (opening schema world user.profile user.opened) front) user left

module _ (journals : Journals) where
  -- Where an opening of his journal held, a batch is a call over what his journal read as it began,
  -- whatever a crash leaves of it as the batch ends.
  abbrev pub BatchesAreCalls : Type 0
  BatchesAreCalls =
      (schema : DatabaseSchema) (world : FactSet) (header : List ℕ) (users : List NamedUser)
      (script : List ScriptEvent) (user : NamedUser)
      → ServesUser schema world header journals users script user
      → list_any is_opened (own_events user.name script) ≡ true
      → (left : List ℕ) → journals.image user.name left
      → IsCallOver schema world user.profile header (journals.bytes user.name)
      (call_of schema world users script user left)

  -- so it is as a part of his one history over calls of any kinds
  abbrev pub BatchesAreSpans : Type 0
  BatchesAreSpans =
      (schema : DatabaseSchema) (world : FactSet) (header : List ℕ) (users : List NamedUser)
      (script : List ScriptEvent) (user : NamedUser)
      → ServesUser schema world header journals users script user
      → list_any is_opened (own_events user.name script) ≡ true
      → (left : List ℕ) → journals.image user.name left
      → IsSpanOver schema world user.profile header (journals.bytes user.name)
      (span_of (state_after schema world user script) user left)

  -- A batch was cut at a moment at which a crash could leave these bytes: it is a call with some of
  -- his events, the first, and a part of his history.
  pub record IsCutBatch (schema : DatabaseSchema) (world : FactSet) (header : List ℕ)
      (script : List ScriptEvent) (user : NamedUser) (left : List ℕ) : Type 0 where
    pub front : List Event
    pub rest : List Event
    pub split : own_events user.name script ≡ front ++ rest
    pub over : IsCallOver schema world user.profile header (journals.bytes user.name)
        (cut_call_of schema world user front left)
    pub part : IsSpanOver schema world user.profile header (journals.bytes user.name)
        (cut_span_of schema world user front left)

  -- so it is at each moment since his journal was first opened
  abbrev pub CutBatchesAreCalls : Type 0
  CutBatchesAreCalls =
      (schema : DatabaseSchema) (world : FactSet) (header : List ℕ) (users : List NamedUser)
      (script : List ScriptEvent) (user : NamedUser)
      (serves : ServesUser schema world header journals users script user)
      → list_any is_opened (own_events user.name script) ≡ true
      → (left : List ℕ) → journals.since user.name serves.moments.opening left
      → IsCutBatch schema world header script user left

  -- A batch was cut so behind all events in front: it is a call with these and some of the others,
  -- the first.
  pub record IsLaterCut (schema : DatabaseSchema) (world : FactSet) (header : List ℕ)
      (user : NamedUser) (front rest : List Event) (left : List ℕ) : Type 0 where
    pub more : List Event
    pub further : List Event
    pub split : rest ≡ more ++ further
    pub over : IsCallOver schema world user.profile header (journals.bytes user.name)
        (cut_call_of schema world user (front ++ more) left)

  -- so it is at each moment since a stretch of his events ended: whatever he was told by then was
  -- told in this call too
  abbrev pub LaterCutsAreCalls : Type 0
  LaterCutsAreCalls =
      (schema : DatabaseSchema) (world : FactSet) (header : List ℕ) (users : List NamedUser)
      (script : List ScriptEvent) (user : NamedUser)
      (serves : ServesUser schema world header journals users script user)
      (front rest : List Event) (split : own_events user.name script ≡ front ++ rest)
      (ends : IsStretchEnd rest) (held : list_any is_opened front ≡ true)
      (left : List ℕ)
      → journals.since user.name (serves.closings front rest split ends held).closing left
      → IsLaterCut schema world header user front rest left

-- the user of a name among others
abbrev pub IsNamed : Text → List NamedUser → NamedUser → Type 0
IsNamed name users user = find (λ u. bytes_eq u.name name) users ≡ Some user

module _ (schema : DatabaseSchema) (world : FactSet) (header : List ℕ)
    (policy : List NamedUser) where
  module _ (journals : Journals) {items : List BatchItem} {written : List ℕ}
      (answers : AnswersBatch schema world header journals policy items written) where
    -- the script of a batch that was answered, or of those of its items that were
    abbrev pub script_of : List ScriptEvent
    script_of = with_opening answers.found answers.opened answers.events

    -- who has this name in it, and an opening of his journal held
    pub record IsOpenedTo (name : Text) (user : NamedUser) : Type 0 where
      pub named : IsNamed name answers.users user
      pub held : list_any is_opened (own_events user.name script_of) ≡ true

    -- what the batch is to him, where a crash left him these bytes as it ended
    pub record IsAnsweredTo (name : Text) (left : List ℕ) (user : NamedUser) (call : Call)
        : Type 0 where
      pub opened : IsOpenedTo name user
      pub leaves : journals.image name left
      pub call_is : call ≡ call_of schema world answers.users script_of user left

    -- a crash at a moment of the batch could leave him these bytes
    pub record IsCutFor (name : Text) (left : List ℕ) (user : NamedUser) : Type 0 where
      pub opened : IsOpenedTo name user
      pub begun : ℕ
      pub began : journals.began name ≡ Some begun
      pub leaves : journals.since name begun left

    -- the batch, cut behind some first of his events, and one more call are one run
    pub record IsCutRun (name : Text) (left : List ℕ) (user : NamedUser) (next : Call)
        : Type 0 where
      pub front : List Event
      pub rest : List Event
      pub split : own_events user.name script_of ≡ front ++ rest
      pub run : AreOneRun schema world user.profile header (journals.bytes name) user.opened
          (cut_call_of schema world user front left ∷ next ∷ [])

    -- A stretch of his events ended behind those in front, where an opening of his journal had
    -- held. A crash at a moment since it was closed there could leave him these bytes.
    pub record IsLateFor (name : Text) (left : List ℕ) (user : NamedUser)
        (front rest : List Event) : Type 0 where
      pub named : IsNamed name answers.users user
      pub serves : ServesUser schema world header journals answers.users script_of user
      pub split : own_events user.name script_of ≡ front ++ rest
      pub ends : IsStretchEnd rest
      pub held : list_any is_opened front ≡ true
      pub leaves : journals.since name (serves.closings front rest split ends held).closing left

    -- the batch, cut behind all events in front and some first of the rest, and one more call are
    -- one run
    pub record IsLateRun (name : Text) (left : List ℕ) (user : NamedUser)
        (front rest : List Event) (next : Call) : Type 0 where
      pub more : List Event
      pub further : List Event
      pub split : rest ≡ more ++ further
      pub run : AreOneRun schema world user.profile header (journals.bytes name) user.opened
          (cut_call_of schema world user (front ++ more) left ∷ next ∷ [])

  -- Two batches of one policy were answered, whole or in part, the second over what a crash left as
  -- the first ended. To a user they are one run.
  abbrev pub BatchesJoin : Journals → Journals → Type 0
  BatchesJoin journals journals' =
      (items items' : List BatchItem) (written written' : List ℕ)
      (one : AnswersBatch schema world header journals policy items written)
      (two : AnswersBatch schema world header journals' policy items' written')
      (name : Text) (left : List ℕ) (first second : NamedUser) (call call' : Call)
      → IsAnsweredTo journals one name (journals'.bytes name) first call
      → IsAnsweredTo journals' two name left second call'
      → AreOneRun schema world first.profile header (journals.bytes name) first.opened
      (call ∷ call' ∷ [])

  -- So they are where the second began with what a crash left at a moment of the first, unless that
  -- is what it could leave as the first began.
  abbrev pub CutBatchesJoin : Journals → Journals → Type 0
  CutBatchesJoin journals journals' =
      (items items' : List BatchItem) (written written' : List ℕ)
      (one : AnswersBatch schema world header journals policy items written)
      (two : AnswersBatch schema world header journals' policy items' written')
      (name : Text) (left : List ℕ) (first second : NamedUser) (call' : Call)
      → IsCutFor journals one name (journals'.bytes name) first
      → IsAnsweredTo journals' two name left second call'
      → journals.image_before name (journals'.bytes name)
      ⊎ IsCutRun journals one name (journals'.bytes name) first call'

  -- Where a stretch of his events in the first had ended by that moment, all events up to there and
  -- some first of those behind them, and then the second, are one run.
  abbrev pub LateBatchesJoin : Journals → Journals → Type 0
  LateBatchesJoin journals journals' =
      (items items' : List BatchItem) (written written' : List ℕ)
      (one : AnswersBatch schema world header journals policy items written)
      (two : AnswersBatch schema world header journals' policy items' written')
      (name : Text) (left : List ℕ) (first second : NamedUser) (front rest : List Event)
      (call' : Call)
      → IsLateFor journals one name (journals'.bytes name) first front rest
      → IsAnsweredTo journals' two name left second call'
      → IsLateRun journals one name (journals'.bytes name) first front rest call'

  -- Two batches of one policy were answered, whose users began with the same histories and whose
  -- events were the same: they wrote the same bytes. So it is with every number of workers.
  abbrev pub SameEventsSameLines : Journals → Journals → Type 0
  SameEventsSameLines journals journals' =
      (items items' : List BatchItem) (written written' : List ℕ)
      (one : AnswersBatch schema world header journals policy items written)
      (two : AnswersBatch schema world header journals' policy items' written')
      → two.users ≡ one.users → script_of journals' two ≡ script_of journals one
      → written' ≡ written
