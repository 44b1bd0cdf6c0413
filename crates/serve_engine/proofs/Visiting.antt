-- A session over ends that were untouched is a connection that was served.
use Rattle.std.proofs.Common.{◌≡◌, ◌⊎◌, inl, inr, ℕ, true, List, [], ◌∷◌, ◌++◌, map, length, refl, sym, ap, ◌∙◌, subst, arith}
use Rattle.std.specs.Prelude.{◌==◌, None}
use Rattle.std.proofs.lemmas.Bool.{eqb-true}
use Rattle.std.proofs.lemmas.List.{append-nil}
use Rattle.outside.specs.Faults.{Rose}
use Rattle.outside.specs.Visits.{visit_of}
use Rattle.cqe_base.specs.Schema.{DatabaseSchema, Text}
use Rattle.cqe_base.specs.Facts.{FactSet}
use Rattle.cqe_base.specs.declared.user.User.{User}
use Rattle.turnstile.specs.declared.pass.Pass.{Pass}
use Rattle.desk_counter.specs.declared.item.TurnItem.{TurnItem}
use Rattle.desk_counter.specs.declared.item.Fixed.{Fixed}
use Rattle.session_core.specs.Heard.{HeardLine, session_lines}
use Rattle.session_core.specs.Talks.{Talks, written_lines, IsCut}
use Rattle.session_core.specs.Desks.{schemas_of}
use Rattle.session_core.specs.Sessions.{Session, Hears, Writes}
use Rattle.session_core.specs.declared.session.Ended.{Ended}
use Rattle.session_core.specs.declared.session.Ended.TheVariants.{Quit, InputEnd, TooLong, TooMany, ReadFault, WriteFault}
use Rattle.session_core.proofs.Legality.{desks_counted}
use Rattle.worker_pool.specs.Jobs.{AreUntouchedEnds}
use Rattle.serve_engine.specs.Served.{Served}
use Rattle.serve_engine.specs.Members.{members_of, AreIn, HaveSeenOpenings}
use Rattle.serve_engine.proofs.Later.{of_replied}
use Rattle.serve_engine.proofs.Owning.{marks_of}

-- a count that is 0 didn't rise
not_risen : (before now : ℕ) → (now == 0) ≡ true → Rose before now → ⊥
not_risen before now none (inl rose) = let is = eqb-true now 0 none in omega (arith, is, rose)
not_risen before now none (inr full) = let is = eqb-true now 0 none in omega (arith, is, full)

-- the lines that were answered are the first that a session hears
first_lines : (ended : Ended) (bytes : List ℕ) (lines : List HeardLine) → Hears ended bytes lines → (rest : List HeardLine)
    × (session_lines bytes ≡ lines ++ rest)
first_lines Quit bytes lines hears = ([], sym hears.0 ∙ sym (append-nil lines))
first_lines InputEnd bytes lines hears = ([], sym hears.0 ∙ sym (append-nil lines))
first_lines TooLong bytes lines hears = ([], sym hears.0 ∙ sym (append-nil lines))
first_lines TooMany bytes lines hears = ([], sym hears.0 ∙ sym (append-nil lines))
first_lines ReadFault bytes lines hears = (hears.0, hears.1)
first_lines WriteFault bytes lines hears = hears

-- and all of them where no end failed
all_lines : (ended : Ended) (bytes : List ℕ) (lines : List HeardLine) → (ended ≡ ReadFault → ⊥) → (ended ≡ WriteFault → ⊥) → Hears ended bytes lines
    → lines ≡ session_lines bytes
all_lines Quit bytes lines no_read no_write hears = hears.0
all_lines InputEnd bytes lines no_read no_write hears = hears.0
all_lines TooLong bytes lines no_read no_write hears = hears.0
all_lines TooMany bytes lines no_read no_write hears = hears.0
all_lines ReadFault bytes lines no_read no_write hears = absurd (no_read refl)
all_lines WriteFault bytes lines no_read no_write hears = absurd (no_write refl)

-- what was written are the lines of the texts, of the last one maybe only a part
first_written : (ended : Ended) (after : List ℕ) (texts : List Text) → Writes ended [] after texts → (after ≡ written_lines texts) ⊎ IsCut texts after
first_written Quit after texts writes = inl writes
first_written InputEnd after texts writes = inl writes
first_written TooLong after texts writes = inl writes
first_written TooMany after texts writes = inl writes
first_written ReadFault after texts writes = inl writes
first_written WriteFault after texts writes = inr (subst (IsCut texts) (sym writes.2) writes.1)

-- and all of it where the sink didn't fail
all_written : (ended : Ended) (after : List ℕ) (texts : List Text) → (ended ≡ WriteFault → ⊥) → Writes ended [] after texts → after ≡ written_lines texts
all_written Quit after texts no_write writes = writes
all_written InputEnd after texts no_write writes = writes
all_written TooLong after texts no_write writes = writes
all_written TooMany after texts no_write writes = writes
all_written ReadFault after texts no_write writes = writes
all_written WriteFault after texts no_write writes = absurd (no_write refl)

-- the desks of the users are all of one schema
schemas_same : {D : Type 0} (schema : DatabaseSchema) (world : FactSet) (users : List User) (fixeds : List (Fixed D)) → length users ≡ length fixeds
    → AreIn schema world fixeds → schemas_of fixeds ≡ map (λ (user : User). schema) users
schemas_same schema world [] [] many within = refl
schemas_same schema world (u ∷ users) (f ∷ fixeds) many within =
    ap (λ (s : DatabaseSchema). s ∷ schemas_of fixeds) within.0.0
    ∙ ap (λ (ss : List DatabaseSchema). schema ∷ ss) (schemas_same schema world users fixeds (omega (arith, many)) within.1)
schemas_same schema world [] (f ∷ fixeds) many within = absurd (omega (arith, many))
schemas_same schema world (u ∷ users) [] many within = absurd (omega (arith, many))

-- A session over ends that were untouched is a connection that was served by the users as their passes are then.
pub session_served : {D : Type 0} (S K : Type 0) (users : List User) (fixeds : List (Fixed D)) (ended : Ended) (held held' left : List ℕ)
    (old new : List (Pass TurnItem (Fixed D))) (before after : List ℕ) (sources sinks sources' sinks' : ℕ)
    → (session : Session S K users fixeds ended left old new before after) → AreUntouchedEnds S K held left before sources sinks → held' ≡ held
    → (ended ≡ ReadFault → Rose sources sources') → (ended ≡ WriteFault → Rose sinks sinks')
    → (schema : DatabaseSchema) (world : FactSet) → AreIn schema world fixeds → HaveSeenOpenings fixeds old
    → Served schema world users (members_of fixeds new) (visit_of held' after sources' sinks')
    (marks_of session.who fixeds old new session.asks session.desks)
session_served {D} S K users fixeds ended held held' left old new before after sources sinks sources' sinks' session untouched same read_cause write_cause
    schema world within openings =
    let hears = subst (λ b. Hears ended b session.lines) (untouched.untaken ∙ sym same) (session.hears untouched.told.0) in
    let writes = subst (λ b. Writes ended b after session.texts) untouched.unwritten (session.writes untouched.told.1) in
    record {
      lines = session.lines;
      asks = session.asks;
      texts = session.texts;
      to_end = session.to_end;
      talks = subst (λ schemas. Talks users schemas None session.lines session.who session.asks session.texts session.to_end)
          (schemas_same schema world users fixeds (desks_counted users fixeds session.own) within) session.talks;
      replied = of_replied schema world session.who fixeds old new session.asks within openings session.desks;
      heard = first_lines ended held' session.lines hears;
      all_heard = λ source sink.
          all_lines ended held' session.lines (λ e. not_risen sources sources' source (read_cause e)) (λ e. not_risen sinks sinks' sink (write_cause e)) hears;
      wrote = first_written ended after session.texts writes;
      all_written = λ sink. all_written ended after session.texts (λ e. not_risen sinks sinks' sink (write_cause e)) writes;
      whole = λ sink. session.whole (λ e. not_risen sinks sinks' sink (write_cause e));
    }
