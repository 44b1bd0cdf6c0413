use Rattle.std.proofs.Common.{◌++◌, refl, sym, ap, subst, ◌∙◌, arith}
use Rattle.std.specs.Prelude.{IsErr}
use Rattle.outside.proofs.Rises.{rose_since}
use Rattle.line_protocol.specs.Buffer.{unread}
use Rattle.line_protocol.specs.Requests.{request_of}
use Rattle.session_core.specs.Heard.{is_quit}
use Rattle.session_core.specs.Members.{users_of, fixeds_of, passes_in}
use Rattle.session_core.specs.Talks.{Answers}
use Rattle.session_core.specs.Desks.{AsksOf, schemas_of}
use Rattle.session_core.specs.Asked.{IsWithin}
use Rattle.session_core.specs.Sessions.{Spoken}
use Rattle.session_core.proofs.Talking.{request_within}
use Rattle.session_core.proofs.Legality.{desks_counted, owners_are, all_hide}
use Rattle.session_core.proofs.Passing.{passes_kept}
use Rattle.session_core.proofs.Serving.{nothing_yet, turns_left, ends_input, ends_read, ends_many, ends_long, goes_on_more, ends_quit, ends_cut}
use Rattle.session_core.proofs.session.serve_session.Goals as goal

pub loop-init : goal.loop-init
loop-init g c =
    let counters = c.args.counters.now in
    let left = g.S.Source.left c.args.source.now in
    record {
      so_far = nothing_yet g.S.Source.tells g.K.Sink.tells (users_of counters) (fixeds_of counters) left (passes_in c.args.passes.now)
          (g.K.Sink.written c.args.sink.now) (sym (owners_are counters.counters.items) ∙ counters.owned) (unread c.new-buffer.result left)
          (ap (λ a. a ++ left) c.new-buffer.ensures.ahead);
      passes = c.requires.passes;
      place = tt;
      left = λ told bytes ends. ends;
      held = refl;
      answers = refl;
      source_later = omega arith;
      sink_later = omega arith;
    }

pub returns-in-End-clause-session : goal.returns-in-End-clause-session
returns-in-End-clause-session g c =
    ends_input _ _ _ _ _ _ _ _ _ _ _ _ c.loop.invariant.so_far (omega (arith, c.loop-test.true)) (λ s. (c.in-End.ensures.reads s).0)

pub returns-in-TooLong-clause-session : goal.returns-in-TooLong-clause-session
returns-in-TooLong-clause-session g c =
    let long = c.end_too_long.ensures in
    ends_long _ _ _ _ _ _ _ _ _ _ _ _ c.loop.invariant.so_far (g.K.Sink.written c.end_too_long.new.sink) c.loop.invariant.place
    (passes_kept (passes_in c.args.passes.now) c.args.counters.now.counters.items c.requires.passes.are) (omega (arith, c.loop-test.true))
    (λ s. (c.in-TooLong.ensures.reads s).0) c.end_too_long.result long.ends long.whole long.part

pub returns-in-TooLong-clause-write_cause : goal.returns-in-TooLong-clause-write_cause
returns-in-TooLong-clause-write_cause g c = λ is. rose_since _ _ _ c.loop.invariant.sink_later (c.end_too_long.ensures.cause is)

pub returns-in-ReadFault-clause-session : goal.returns-in-ReadFault-clause-session
returns-in-ReadFault-clause-session g c = ends_read _ _ _ _ _ _ _ _ _ _ _ _ c.loop.invariant.so_far (omega (arith, c.loop-test.true))

pub returns-in-ReadFault-clause-read_cause : goal.returns-in-ReadFault-clause-read_cause
returns-in-ReadFault-clause-read_cause g c = λ is. rose_since _ _ _ c.loop.invariant.source_later (c.in-ReadFault.ensures.cause refl)

pub write_answer-next-requires-clause-turns : goal.write_answer-next-requires-clause-turns
write_answer-next-requires-clause-turns g c κs within =
    turns_left _ _ _ _ _ _ _ _ _ _ _ _ c.loop.invariant.so_far (omega (arith, c.loop-test.true)) c.requires.turns

pub write_answer-next-requires-clause-within : goal.write_answer-next-requires-clause-within
write_answer-next-requires-clause-within g c κs within =
    subst IsWithin (sym c.read_request-request.ensures) (request_within c.line.result.now c.line.ensures.short)

pub returns-in-Err-clause-session : goal.returns-in-Err-clause-session
returns-in-Err-clause-session g c =
    let counters = c.args.counters.now in
    let same = c.read_request-request.ensures ∙ ap (λ l. request_of l) c.line.ensures.line in
    ends_cut _ _ _ _ _ _ _ _ _ _ _ _ c.loop.invariant.so_far c.write_answer-next.result.1
    (unread c.read_line.new.buffer (g.S.Source.left c.read_line.new.source)) c.read_line.new.buffer.line c.write_answer-next.result.0
    (passes_in c.write_answer-next.new.passes) (g.K.Sink.written c.write_answer-next.new.sink)
    (desks_counted (users_of counters) (fixeds_of counters) c.loop.invariant.so_far.own)
    (passes_kept (passes_in c.args.passes.now) counters.counters.items c.requires.passes.are) (omega (arith, c.loop-test.true))
    (λ s. c.in-Line.ensures.reads s)
    (subst (λ r. Spoken g.K.Sink.tells (Answers (users_of counters) (schemas_of (fixeds_of counters)) c.loop.who r c.write_answer-next.result.0)
    (AsksOf c.loop.who (fixeds_of counters) (passes_in c.loop.passes) (passes_in c.write_answer-next.new.passes)) c.write_answer-next.result.1
    (g.K.Sink.written c.loop.sink) (g.K.Sink.written c.write_answer-next.new.sink)) same c.write_answer-next.ensures.spoken) _ c.in-Err.is

pub returns-in-Err-clause-write_cause : goal.returns-in-Err-clause-write_cause
returns-in-Err-clause-write_cause g c = λ is.
    rose_since _ _ _ c.loop.invariant.sink_later (c.write_answer-next.ensures.cause.failed (subst IsErr (sym c.in-Err.is) refl))

pub returns-then-is_quit-clause-session : goal.returns-then-is_quit-clause-session
returns-then-is_quit-clause-session g c =
    let counters = c.args.counters.now in
    let same = c.read_request-request.ensures ∙ ap (λ l. request_of l) c.line.ensures.line in
    ends_quit _ _ _ _ _ _ _ _ _ _ _ _ c.loop.invariant.so_far c.write_answer-next.result.1
    (unread c.read_line.new.buffer (g.S.Source.left c.read_line.new.source)) c.read_line.new.buffer.line c.write_answer-next.result.0
    (passes_in c.write_answer-next.new.passes) (g.K.Sink.written c.write_answer-next.new.sink)
    (desks_counted (users_of counters) (fixeds_of counters) c.loop.invariant.so_far.own)
    (passes_kept (passes_in c.args.passes.now) counters.counters.items c.requires.passes.are) (omega (arith, c.loop-test.true))
    (λ s. c.in-Line.ensures.reads s)
    (subst (λ r. Spoken g.K.Sink.tells (Answers (users_of counters) (schemas_of (fixeds_of counters)) c.loop.who r c.write_answer-next.result.0)
    (AsksOf c.loop.who (fixeds_of counters) (passes_in c.loop.passes) (passes_in c.write_answer-next.new.passes)) c.write_answer-next.result.1
    (g.K.Sink.written c.loop.sink) (g.K.Sink.written c.write_answer-next.new.sink)) same c.write_answer-next.ensures.spoken) _ c.in-Ok.is
    (sym (ap is_quit same) ∙ sym c.is_quit.ensures ∙ c.if-is_quit.true)

pub loop-preserved : goal.loop-preserved
loop-preserved g c =
    let counters = c.args.counters.now in
    let same = c.read_request-request.ensures ∙ ap (λ l. request_of l) c.line.ensures.line in
    let before = c.loop.invariant in
    record {
      so_far = goes_on_more _ _ _ _ _ _ _ _ _ _ _ _ c.loop.invariant.so_far c.write_answer-next.result.1
          (unread c.read_line.new.buffer (g.S.Source.left c.read_line.new.source)) c.read_line.new.buffer.line c.write_answer-next.result.0
          (passes_in c.write_answer-next.new.passes) (g.K.Sink.written c.write_answer-next.new.sink)
          (desks_counted (users_of counters) (fixeds_of counters) c.loop.invariant.so_far.own)
          (passes_kept (passes_in c.args.passes.now) counters.counters.items c.requires.passes.are) (omega (arith, c.loop-test.true))
          (λ s. c.in-Line.ensures.reads s)
          (subst (λ r. Spoken g.K.Sink.tells (Answers (users_of counters) (schemas_of (fixeds_of counters)) c.loop.who r c.write_answer-next.result.0)
          (AsksOf c.loop.who (fixeds_of counters) (passes_in c.loop.passes) (passes_in c.write_answer-next.new.passes)) c.write_answer-next.result.1
          (g.K.Sink.written c.loop.sink) (g.K.Sink.written c.write_answer-next.new.sink)) same c.write_answer-next.ensures.spoken) _ c.in-Ok.is
          (sym (ap is_quit same) ∙ sym c.is_quit.ensures ∙ c.if-is_quit.false);
      passes = c.write_answer-next.ensures.passes;
      place = c.write_answer-next.ensures.place;
      left = λ told bytes ends. c.in-Line.ensures.left told bytes (before.left told bytes ends);
      held = c.in-Line.ensures.held ∙ before.held;
      answers = c.write_answer-next.ensures.answers ∙ before.answers;
      source_later = omega (arith, before.source_later, c.in-Line.ensures.later);
      sink_later = omega (arith, before.sink_later, c.write_answer-next.ensures.cause.later);
    }

pub returns-clause-session : goal.returns-clause-session
returns-clause-session g c =
    ends_many _ _ _ _ _ _ _ _ _ _ _ _ c.loop.invariant.so_far (omega (arith, c.loop-test.false)) (omega (arith, c.loop.auto.counter-end))

pub returns-in-End-clause-hides : goal.returns-in-End-clause-hides
returns-in-End-clause-hides g c = all_hide c.law_hides.ensures (fixeds_of c.args.counters.now) (passes_in c.loop.passes) c.loop.invariant.passes.legal

pub returns-in-TooLong-clause-hides : goal.returns-in-TooLong-clause-hides
returns-in-TooLong-clause-hides g c = all_hide c.law_hides.ensures (fixeds_of c.args.counters.now) (passes_in c.loop.passes) c.loop.invariant.passes.legal

pub returns-in-ReadFault-clause-hides : goal.returns-in-ReadFault-clause-hides
returns-in-ReadFault-clause-hides g c = all_hide c.law_hides.ensures (fixeds_of c.args.counters.now) (passes_in c.loop.passes) c.loop.invariant.passes.legal

pub returns-in-Err-clause-hides : goal.returns-in-Err-clause-hides
returns-in-Err-clause-hides g c =
    all_hide c.law_hides.ensures (fixeds_of c.args.counters.now) (passes_in c.write_answer-next.new.passes) c.write_answer-next.ensures.passes.legal

pub returns-then-is_quit-clause-hides : goal.returns-then-is_quit-clause-hides
returns-then-is_quit-clause-hides g c =
    all_hide c.law_hides.ensures (fixeds_of c.args.counters.now) (passes_in c.write_answer-next.new.passes) c.write_answer-next.ensures.passes.legal

pub returns-clause-hides : goal.returns-clause-hides
returns-clause-hides g c = all_hide c.law_hides.ensures (fixeds_of c.args.counters.now) (passes_in c.loop.passes) c.loop.invariant.passes.legal

-- ---- what is left of the source

pub returns-in-End-clause-left : goal.returns-in-End-clause-left
returns-in-End-clause-left g c = λ told bytes ends. c.in-End.ensures.left told bytes (c.loop.invariant.left told bytes ends)

pub returns-in-TooLong-clause-left : goal.returns-in-TooLong-clause-left
returns-in-TooLong-clause-left g c = λ told bytes ends. c.in-TooLong.ensures.left told bytes (c.loop.invariant.left told bytes ends)

pub returns-in-ReadFault-clause-left : goal.returns-in-ReadFault-clause-left
returns-in-ReadFault-clause-left g c = λ told bytes ends. c.in-ReadFault.ensures.left told bytes (c.loop.invariant.left told bytes ends)

pub returns-in-Err-clause-left : goal.returns-in-Err-clause-left
returns-in-Err-clause-left g c = λ told bytes ends. c.in-Line.ensures.left told bytes (c.loop.invariant.left told bytes ends)

pub returns-then-is_quit-clause-left : goal.returns-then-is_quit-clause-left
returns-then-is_quit-clause-left g c = λ told bytes ends. c.in-Line.ensures.left told bytes (c.loop.invariant.left told bytes ends)

pub returns-clause-left : goal.returns-clause-left
returns-clause-left g c = c.loop.invariant.left
