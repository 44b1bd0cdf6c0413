use Rattle.std.proofs.Common.{refl, ap}
use Rattle.std.specs.Prelude.{Some, None}
use Rattle.user_log.specs.Replies.{reply_of}
use Rattle.line_protocol.specs.Replies.{text_of}
use Rattle.line_protocol.specs.Requests.{meaning_of, login_as, ask_for, list_for, quit_session, other_line}
use Rattle.line_protocol.specs.declared.reply.Reply.TheVariants.{Code, Welcome, Bye}
use Rattle.session_core.specs.Talks.{welcome, no_login, logged_in, not_yet, not_listed, bye, unknown}
use Rattle.session_core.specs.Members.{users_of, fixeds_of, passes_in}
use Rattle.session_core.proofs.Passing.{passes_kept, nothing_asked, something_asked}
use Rattle.session_core.proofs.session.reply_to.Goals as goal

pub returns-in-Some-clause-replies : goal.returns-in-Some-clause-replies
returns-in-Some-clause-replies g c =
    let counters = c.args.counters.now in
    let passes = passes_in c.args.passes.now in
    nothing_asked (users_of counters) (fixeds_of counters) c.args.who None (Some c.in-Some.place) (Some c.in-Some.place) (meaning_of c.args.request)
    (login_as c.in-Login-None.user.now c.in-Login-None.phrase.now) (text_of Welcome) passes
    c.requires.place (passes_kept passes counters.counters.items c.requires.passes.are) c.in-Login-None.is-1 refl (ap meaning_of c.in-Login-None.is-0)
    (welcome c.in-Some.ensures.place)

pub returns-in-None-clause-replies : goal.returns-in-None-clause-replies
returns-in-None-clause-replies g c =
    let counters = c.args.counters.now in
    let passes = passes_in c.args.passes.now in
    nothing_asked (users_of counters) (fixeds_of counters) c.args.who None None None (meaning_of c.args.request)
    (login_as c.in-Login-None.user.now c.in-Login-None.phrase.now) (text_of (Code 25)) passes
    c.requires.place (passes_kept passes counters.counters.items c.requires.passes.are) c.in-Login-None.is-1 refl (ap meaning_of c.in-Login-None.is-0)
    (no_login c.in-None.ensures.nobody)

pub returns-in-Login-Some-clause-replies : goal.returns-in-Login-Some-clause-replies
returns-in-Login-Some-clause-replies g c =
    let counters = c.args.counters.now in
    let passes = passes_in c.args.passes.now in
    let place = c.in-Login-Some.field-0-1 in
    nothing_asked (users_of counters) (fixeds_of counters) c.args.who (Some place) c.args.who (Some place) (meaning_of c.args.request)
    (login_as c.in-Login-Some.user-0.now c.in-Login-Some.phrase-0.now) (text_of (Code 26)) passes
    c.requires.place (passes_kept passes counters.counters.items c.requires.passes.are) c.in-Login-Some.is-1 c.in-Login-Some.is-1
    (ap meaning_of c.in-Login-Some.is-0) logged_in

pub returns-in-Ask-None-clause-replies : goal.returns-in-Ask-None-clause-replies
returns-in-Ask-None-clause-replies g c =
    let counters = c.args.counters.now in
    let passes = passes_in c.args.passes.now in
    nothing_asked (users_of counters) (fixeds_of counters) c.args.who None None None (meaning_of c.args.request) (ask_for c.in-Ask-None.field-0-0.now)
    (text_of (Code 25)) passes
    c.requires.place (passes_kept passes counters.counters.items c.requires.passes.are) c.in-Ask-None.is-1 refl (ap meaning_of c.in-Ask-None.is-0) not_yet

pub returns-in-Ask-Some-clause-replies : goal.returns-in-Ask-Some-clause-replies
returns-in-Ask-Some-clause-replies g c =
    let counters = c.args.counters.now in
    something_asked (users_of counters) (fixeds_of counters) c.args.who c.in-Ask-Some.place (meaning_of c.args.request) c.in-Ask-Some.text.now
    (text_of c.line_reply.result) (reply_of c.ask_at-reply.result) (passes_in c.args.passes.now) (passes_in c.ask_at-reply.new.passes)
    c.in-Ask-Some.is-1 (ap meaning_of c.in-Ask-Some.is-0) c.line_reply.ensures c.ask_at-reply.ensures.asked

pub returns-in-List-None-clause-replies : goal.returns-in-List-None-clause-replies
returns-in-List-None-clause-replies g c =
    let counters = c.args.counters.now in
    let passes = passes_in c.args.passes.now in
    nothing_asked (users_of counters) (fixeds_of counters) c.args.who None None None (meaning_of c.args.request)
    (list_for c.in-List-None.count-0 c.in-List-None.text-0.now) (text_of (Code 25)) passes
    c.requires.place (passes_kept passes counters.counters.items c.requires.passes.are) c.in-List-None.is-1 refl (ap meaning_of c.in-List-None.is-0) not_listed

pub returns-in-List-Some-clause-replies : goal.returns-in-List-Some-clause-replies
returns-in-List-Some-clause-replies g c = record {
  who_is = c.in-List-Some.is-1;
  next_is = c.in-List-Some.is-1;
  request_is = ap meaning_of c.in-List-Some.is-0;
  same = refl;
}

pub returns-in-Quit-default-clause-replies : goal.returns-in-Quit-default-clause-replies
returns-in-Quit-default-clause-replies g c =
    let counters = c.args.counters.now in
    let passes = passes_in c.args.passes.now in
    nothing_asked (users_of counters) (fixeds_of counters) c.args.who c.args.who c.args.who c.args.who (meaning_of c.args.request) quit_session
    (text_of Bye) passes
    c.requires.place (passes_kept passes counters.counters.items c.requires.passes.are) refl refl (ap meaning_of c.in-Quit-default.is-0) bye

pub returns-in-Other-default-clause-replies : goal.returns-in-Other-default-clause-replies
returns-in-Other-default-clause-replies g c =
    let counters = c.args.counters.now in
    let passes = passes_in c.args.passes.now in
    nothing_asked (users_of counters) (fixeds_of counters) c.args.who c.args.who c.args.who c.args.who (meaning_of c.args.request) other_line
    (text_of (Code 26)) passes
    c.requires.place (passes_kept passes counters.counters.items c.requires.passes.are) refl refl (ap meaning_of c.in-Other-default.is-0) unknown
