use Rattle.std.proofs.Common.{◌≤◌, ◌<◌, length, sym, subst, arith}
use Rattle.std.specs.Prelude.{IfSome}
use Rattle.std.specs.List.{AllByRecursion}
use Rattle.turnstile.specs.Passes.{turns}
use Rattle.line_protocol.specs.Replies.{text_of}
use Rattle.line_protocol.specs.Requests.{meaning_of}
use Rattle.session_core.specs.Talks.{one_line}
use Rattle.session_core.specs.Members.{users_of, fixeds_of, passes_in}
use Rattle.session_core.specs.Asked.{RepliesBy, IsWithin}
use Rattle.session_core.proofs.Passing.{fewer}
use Rattle.session_core.proofs.Listing.{one_spoken, spoken_as, list_answers, list_used}
use Rattle.session_core.proofs.session.write_answer.Goals as goal

pub reply_to-next-requires-clause-turns : goal.reply_to-next-requires-clause-turns
reply_to-next-requires-clause-turns g c κs within = fewer 512 2 (passes_in c.args.passes.now) (omega arith) c.requires.turns

pub returns-in-Line-clause-spoken : goal.returns-in-Line-clause-spoken
returns-in-Line-clause-spoken g c =
    let counters = c.args.counters.now in
    let replies =
    subst (λ a. RepliesBy (users_of counters) (fixeds_of counters) c.args.who (meaning_of c.args.request) c.reply_to-next.result.0 a
    (passes_in c.args.passes.now) (passes_in c.reply_to-next.new.passes)) c.in-Line.is c.reply_to-next.ensures.replies in
    one_spoken g.K.Sink.tells c.write_reply.result _ _ replies.asked (text_of c.in-Line.line) (one_line replies.says) replies.used
    c.write_reply.ensures.all c.write_reply.ensures.part

pub list_at-wrote-requires-clause-place : goal.list_at-wrote-requires-clause-place
list_at-wrote-requires-clause-place g c κs within =
    let counters = c.args.counters.now in
    let is =
    subst (λ a. RepliesBy (users_of counters) (fixeds_of counters) c.args.who (meaning_of c.args.request) c.reply_to-next.result.0 a
    (passes_in c.args.passes.now) (passes_in c.reply_to-next.new.passes)) c.in-Lines.is c.reply_to-next.ensures.replies in
    subst (λ w. IfSome w (λ place. place < length (fixeds_of counters))) is.who_is c.requires.place

pub list_at-wrote-requires-clause-turns : goal.list_at-wrote-requires-clause-turns
list_at-wrote-requires-clause-turns g c κs within =
    let counters = c.args.counters.now in
    let is =
    subst (λ a. RepliesBy (users_of counters) (fixeds_of counters) c.args.who (meaning_of c.args.request) c.reply_to-next.result.0 a
    (passes_in c.args.passes.now) (passes_in c.reply_to-next.new.passes)) c.in-Lines.is c.reply_to-next.ensures.replies in
    subst (λ ps. AllByRecursion (λ pass. 512 ≤ turns pass) ps) (sym is.same) c.requires.turns

pub list_at-wrote-requires-clause-some : goal.list_at-wrote-requires-clause-some
list_at-wrote-requires-clause-some g c κs within =
    let counters = c.args.counters.now in
    let is =
    subst (λ a. RepliesBy (users_of counters) (fixeds_of counters) c.args.who (meaning_of c.args.request) c.reply_to-next.result.0 a
    (passes_in c.args.passes.now) (passes_in c.reply_to-next.new.passes)) c.in-Lines.is c.reply_to-next.ensures.replies in
    (subst IsWithin is.request_is c.requires.within).0

pub list_at-wrote-requires-clause-few : goal.list_at-wrote-requires-clause-few
list_at-wrote-requires-clause-few g c κs within =
    let counters = c.args.counters.now in
    let is =
    subst (λ a. RepliesBy (users_of counters) (fixeds_of counters) c.args.who (meaning_of c.args.request) c.reply_to-next.result.0 a
    (passes_in c.args.passes.now) (passes_in c.reply_to-next.new.passes)) c.in-Lines.is c.reply_to-next.ensures.replies in
    (subst IsWithin is.request_is c.requires.within).1

pub list_at-wrote-requires-clause-short : goal.list_at-wrote-requires-clause-short
list_at-wrote-requires-clause-short g c κs within =
    let counters = c.args.counters.now in
    let is =
    subst (λ a. RepliesBy (users_of counters) (fixeds_of counters) c.args.who (meaning_of c.args.request) c.reply_to-next.result.0 a
    (passes_in c.args.passes.now) (passes_in c.reply_to-next.new.passes)) c.in-Lines.is c.reply_to-next.ensures.replies in
    (subst IsWithin is.request_is c.requires.within).2

pub returns-in-Lines-clause-spoken : goal.returns-in-Lines-clause-spoken
returns-in-Lines-clause-spoken g c =
    let counters = c.args.counters.now in
    let is =
    subst (λ a. RepliesBy (users_of counters) (fixeds_of counters) c.args.who (meaning_of c.args.request) c.reply_to-next.result.0 a
    (passes_in c.args.passes.now) (passes_in c.reply_to-next.new.passes)) c.in-Lines.is c.reply_to-next.ensures.replies in
    spoken_as g.K.Sink.tells _ _ _
    (list_answers (users_of counters) (fixeds_of counters) _ _ _ _ _ _ _ _ (passes_in c.list_at-wrote.new.passes) is)
    (list_used (users_of counters) (fixeds_of counters) _ _ _ _ _ _ _ _ (passes_in c.list_at-wrote.new.passes) is)
    c.list_at-wrote.ensures.spoken
