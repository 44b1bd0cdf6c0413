-- The passes at all counters, of which one is used.
use Rattle.std.proofs.Common.{◌≡◌, ℕ, zero, suc, ◌≤◌, ◌<◌, ◌+◌, ◌*◌, List, [], ◌∷◌, ◌++◌, map, length, get_or, refl, sym, ap, ◌∙◌, subst, arith}
use Rattle.std.specs.Prelude.{Bool, Option, Some, None, slice_set, IfSome}
use Rattle.std.specs.List.{AllByRecursion}
use Rattle.std.proofs.lemmas.List.{append-nil}
use Rattle.cqe_base.specs.Schema.{DatabaseSchema, Text}
use Rattle.cqe_base.specs.Run
use Rattle.cqe_base.specs.declared.user.User.{User}
use Rattle.turnstile.specs.declared.pass.Pass.{Pass}
use Rattle.turnstile.specs.Passes.{turns}
use Rattle.desk_counter.specs.declared.item.TurnItem.{TurnItem}
use Rattle.desk_counter.specs.declared.item.Fixed.{Fixed}
use Rattle.desk_counter.specs.declared.ticketed_desk.TicketedDesk.{TicketedDesk}
use Rattle.desk_counter.specs.declared.counter.CounterOf.{CounterOf}
use Rattle.desk_counter.specs.Counters.{kept_by, IsPassOf}
use Rattle.cqe_base.specs.Transcript.{reply_text}
use Rattle.line_protocol.specs.Requests.{LineRequest, ask_for}
use Rattle.session_core.specs.Talks.{Says, welcome, no_login, logged_in, not_yet, replied, not_listed, bye, unknown, LogsIn, Answers, one_line, listed}
use Rattle.session_core.specs.Talks as talks
use Rattle.session_core.specs.Desks.{Asks, AsksAt, here, further, AsksOf}
use Rattle.session_core.specs.Members.{ArePasses}
use Rattle.session_core.specs.Asked.{Replies}
use Rattle.session_core.proofs.Replying.{asks_nothing, asks_then}

-- who logs in is one of the users
pub logs_in_within : {name phrase : Text} {users : List User} {place : ℕ} → LogsIn name phrase users place → place < length users
logs_in_within (talks.here is may) = omega arith
logs_in_within (talks.further is rest) = omega (arith, logs_in_within rest)

module _ {D : Type 0} where
  -- no asks at a place
  pub at_nothing : (place : ℕ) (fixeds : List (Fixed D)) (passes : List (Pass TurnItem (Fixed D))) → place < length fixeds → length passes ≡ length fixeds
      → AsksAt place fixeds passes passes []
  at_nothing place [] passes low same = absurd (omega (arith, low))
  at_nothing place (f ∷ fixeds) [] low same = absurd (omega (arith, same))
  at_nothing zero (f ∷ fixeds) (p ∷ passes) low same = here (asks_nothing f p)
  at_nothing (suc place) (f ∷ fixeds) (p ∷ passes) low same = further (at_nothing place fixeds passes (omega (arith, low)) (omega (arith, same)))

  -- some asks there, and then others
  pub at_then : {place : ℕ} {fixeds : List (Fixed D)} {old mid new : List (Pass TurnItem (Fixed D))} {xs ys : List (Text × Run.Reply)}
      → AsksAt place fixeds old mid xs → AsksAt place fixeds mid new ys → AsksAt place fixeds old new (xs ++ ys)
  at_then (here {fixed = f} {old = p} {new = q} first) (here {new = r} last) = here (asks_then f p q r first last)
  at_then (further first) (further last) = further (at_then first last)

  -- there are as many passes as before
  pub at_length : {place : ℕ} {fixeds : List (Fixed D)} {old new : List (Pass TurnItem (Fixed D))} {xs : List (Text × Run.Reply)}
      → AsksAt place fixeds old new xs
      → length new ≡ length old
  at_length (here asks) = refl
  at_length (further rest) = ap suc (at_length rest)

  pub fewer : (many few : ℕ) (passes : List (Pass TurnItem (Fixed D))) → few ≤ many → AllByRecursion (λ pass. many ≤ turns pass) passes
      → AllByRecursion (λ pass. few ≤ turns pass) passes
  fewer many few [] low all = tt
  fewer many few (p ∷ passes) low all = (omega (arith, low, all.0), fewer many few passes low all.1)

  -- each pass has the turns that are left of so many
  pub at_turns : {place : ℕ} {fixeds : List (Fixed D)} {old new : List (Pass TurnItem (Fixed D))} {xs : List (Text × Run.Reply)} (many few : ℕ)
      → few + 2 * length xs ≤ many → AsksAt place fixeds old new xs
      → AllByRecursion (λ pass. many ≤ turns pass) old → AllByRecursion (λ pass. few ≤ turns pass) new
  at_turns many few enough (here {rest = rest} asks) all = (omega (arith, enough, asks.used, all.0), fewer many few rest (omega (arith, enough)) all.1)
  at_turns many few enough (further rest) all = (omega (arith, enough, all.0), at_turns many few enough rest all.1)

  -- the same of who is logged in
  pub of_turns : (who : Option ℕ) (fixeds : List (Fixed D)) (old new : List (Pass TurnItem (Fixed D))) (xs : List (Text × Run.Reply)) (many few : ℕ)
      → few + 2 * length xs ≤ many → AsksOf who fixeds old new xs
      → AllByRecursion (λ pass. many ≤ turns pass) old → AllByRecursion (λ pass. few ≤ turns pass) new
  of_turns None fixeds old new xs many few enough asks all =
      subst (λ ps. AllByRecursion (λ pass. few ≤ turns pass) ps) (sym asks.0) (fewer many few old (omega (arith, enough)) all)
  of_turns (Some place) fixeds old new xs many few enough asks all = at_turns many few enough asks all

  pub of_length : (who : Option ℕ) (fixeds : List (Fixed D)) (old new : List (Pass TurnItem (Fixed D))) (xs : List (Text × Run.Reply))
      → AsksOf who fixeds old new xs → length new ≡ length old
  of_length None fixeds old new xs asks = ap length asks.0
  of_length (Some place) fixeds old new xs asks = at_length asks

  -- asks of who is logged in, and then those of a further request
  pub of_then : (users : List User) (fixeds : List (Fixed D)) (old mid new : List (Pass TurnItem (Fixed D)))
      (xs : List (Text × Run.Reply)) {who next : Option ℕ} {request : LineRequest} {text : Text} {ys : List (Text × Run.Reply)}
      → length users ≡ length fixeds → length mid ≡ length fixeds → AsksOf who fixeds old mid xs → Says users who request next ys text
      → AsksOf who fixeds mid new ys → AsksOf next fixeds old new (xs ++ ys)
  of_then users fixeds old mid new xs many as_many asks (welcome {place = place} logs) more =
      let same : new ≡ old = more.0 ∙ asks.0 in
      subst (λ ps. AsksAt place fixeds old ps (xs ++ [])) (sym same)
      (subst (λ zs. AsksAt place fixeds old old zs) (sym (append-nil xs ∙ asks.1))
      (at_nothing place fixeds old (omega (arith, many, logs_in_within logs)) (ap length (sym asks.0) ∙ as_many)))
  of_then users fixeds old mid new xs many as_many asks (no_login none) more = (more.0 ∙ asks.0, append-nil xs ∙ asks.1)
  of_then users fixeds old mid new xs many as_many asks logged_in more = at_then asks more
  of_then users fixeds old mid new xs many as_many asks not_yet more = (more.0 ∙ asks.0, append-nil xs ∙ asks.1)
  of_then users fixeds old mid new xs many as_many asks replied more = at_then asks more
  of_then users fixeds old mid new xs many as_many asks not_listed more = (more.0 ∙ asks.0, append-nil xs ∙ asks.1)
  of_then users fixeds old mid new xs {who = None} many as_many asks bye more = (more.0 ∙ asks.0, append-nil xs ∙ asks.1)
  of_then users fixeds old mid new xs {who = Some place} many as_many asks bye more = at_then asks more
  of_then users fixeds old mid new xs {who = None} many as_many asks unknown more = (more.0 ∙ asks.0, append-nil xs ∙ asks.1)
  of_then users fixeds old mid new xs {who = Some place} many as_many asks unknown more = at_then asks more

  -- the same of a request that is answered by any lines
  pub answers_then : (users : List User) (schemas : List DatabaseSchema) (fixeds : List (Fixed D)) (old mid new : List (Pass TurnItem (Fixed D)))
      (xs : List (Text × Run.Reply)) {who next : Option ℕ} {request : LineRequest} {said : List Text} {to_end : Bool} {ys : List (Text × Run.Reply)}
      → length users ≡ length fixeds → length mid ≡ length fixeds → AsksOf who fixeds old mid xs
      → Answers users schemas who request next ys said to_end → AsksOf who fixeds mid new ys → AsksOf next fixeds old new (xs ++ ys)
  answers_then users schemas fixeds old mid new xs many as_many asks (one_line says) more = of_then users fixeds old mid new xs many as_many asks says more
  answers_then users schemas fixeds old mid new xs many as_many asks (listed at says) more = at_then asks more

  -- no asks of who is logged in
  pub of_nothing : (who : Option ℕ) (fixeds : List (Fixed D)) (passes : List (Pass TurnItem (Fixed D))) → IfSome who (λ place. place < length fixeds)
      → length passes ≡ length fixeds → AsksOf who fixeds passes passes []
  of_nothing None fixeds passes low same = (refl, refl)
  of_nothing (Some place) fixeds passes low same = at_nothing place fixeds passes low same

  -- every pass at a place
  pub turns_at : (few : ℕ) (passes : List (Pass TurnItem (Fixed D))) (place : ℕ) (p : Pass TurnItem (Fixed D)) → place < length passes
      → AllByRecursion (λ pass. few ≤ turns pass) passes → few ≤ turns (get_or passes place p)
  turns_at few [] place p low all = absurd (omega (arith, low))
  turns_at few (q ∷ passes) zero p low all = all.0
  turns_at few (q ∷ passes) (suc place) p low all = turns_at few passes place p (omega (arith, low)) all.1

  -- a request without an ask changes no pass
  pub nothing_asked : (users : List User) (fixeds : List (Fixed D)) (who who' next next' : Option ℕ) (request request' : LineRequest) (text : Text)
      (passes : List (Pass TurnItem (Fixed D)))
      → IfSome who (λ place. place < length fixeds) → length passes ≡ length fixeds → who ≡ who' → next ≡ next' → request ≡ request'
      → Says users who' request' next' [] text → Replies users fixeds who request next text passes passes
  nothing_asked users fixeds who who' next next' request request' text passes within many who_is next_is request_is says = record {
    asked = [];
    says = subst (λ w. Says users w request next [] text) (sym who_is)
        (subst (λ n. Says users who' request n [] text) (sym next_is) (subst (λ r. Says users who' r next' [] text) (sym request_is) says));
    used = of_nothing who fixeds passes within many;
  }

  -- an ask is replied to
  pub something_asked : (users : List User) (fixeds : List (Fixed D)) (who : Option ℕ) (place : ℕ) (request : LineRequest) (asked text : Text)
      (reply : Run.Reply) (old new : List (Pass TurnItem (Fixed D)))
      → who ≡ Some place → request ≡ ask_for asked → text ≡ reply_text reply → AsksAt place fixeds old new ((asked, reply) ∷ [])
      → Replies users fixeds who request who text old new
  something_asked users fixeds who place request asked text reply old new who_is request_is text_is used = record {
    asked = (asked, reply) ∷ [];
    says = subst (λ w. Says users w request w ((asked, reply) ∷ []) text) (sym who_is)
        (subst (λ r. Says users (Some place) r (Some place) ((asked, reply) ∷ []) text) (sym request_is)
        (subst (λ t. Says users (Some place) (ask_for asked) (Some place) ((asked, reply) ∷ []) t) (sym text_is) replied));
    used = subst (λ w. AsksOf w fixeds old new ((asked, reply) ∷ [])) (sym who_is) used;
  }

module _ {D : Type 0} {g h : _} where
  -- as many passes as fixed parts
  pub passes_kept : (passes : List (Pass TurnItem (Fixed D))) (counters : List (CounterOf (TicketedDesk D g) TurnItem (Fixed D) h)) → ArePasses passes counters
      → length passes ≡ length (map kept_by counters)
  passes_kept [] [] all = refl
  passes_kept (p ∷ passes) (c ∷ counters) all = ap suc (passes_kept passes counters all.1)
  passes_kept [] (c ∷ counters) all = absurd all
  passes_kept (p ∷ passes) [] all = absurd all

  -- as many passes as counters
  pub passes_many : (passes : List (Pass TurnItem (Fixed D))) (counters : List (CounterOf (TicketedDesk D g) TurnItem (Fixed D) h)) → ArePasses passes counters
      → length passes ≡ length counters
  passes_many [] [] all = refl
  passes_many (p ∷ passes) (c ∷ counters) all = ap suc (passes_many passes counters all.1)
  passes_many [] (c ∷ counters) all = absurd all
  passes_many (p ∷ passes) [] all = absurd all

  -- the pass at a place is of the counter there
  pub pass_at : (passes : List (Pass TurnItem (Fixed D))) (counters : List (CounterOf (TicketedDesk D g) TurnItem (Fixed D) h)) (place : ℕ)
      (p : Pass TurnItem (Fixed D))
      (c : CounterOf (TicketedDesk D g) TurnItem (Fixed D) h)
      → place < length counters → ArePasses passes counters → IsPassOf (get_or passes place p) (get_or counters place c)
  pass_at [] [] place p c low all = absurd (omega (arith, low))
  pass_at (q ∷ passes) (d ∷ counters) zero p c low all = all.0
  pass_at (q ∷ passes) (d ∷ counters) (suc place) p c low all = pass_at passes counters place p c (omega (arith, low)) all.1
  pass_at [] (d ∷ counters) place p c low all = absurd all
  pass_at (q ∷ passes) [] place p c low all = absurd all

  -- another pass there
  pub passes_set : (passes : List (Pass TurnItem (Fixed D))) (counters : List (CounterOf (TicketedDesk D g) TurnItem (Fixed D) h)) (place : ℕ)
      (new : Pass TurnItem (Fixed D)) (c : CounterOf (TicketedDesk D g) TurnItem (Fixed D) h)
      → ArePasses passes counters → IsPassOf new (get_or counters place c) → ArePasses (slice_set passes place new) counters
  passes_set [] [] place new c all is = tt
  passes_set (q ∷ passes) (d ∷ counters) zero new c all is = (is, all.1)
  passes_set (q ∷ passes) (d ∷ counters) (suc place) new c all is = (all.0, passes_set passes counters place new c all.1 is)
  passes_set [] (d ∷ counters) place new c all is = absurd all
  passes_set (q ∷ passes) [] place new c all is = absurd all

  -- asks at the place
  pub asked_at : (passes : List (Pass TurnItem (Fixed D))) (counters : List (CounterOf (TicketedDesk D g) TurnItem (Fixed D) h)) (place : ℕ)
      (p new : Pass TurnItem (Fixed D)) (c : CounterOf (TicketedDesk D g) TurnItem (Fixed D) h) (asks : List (Text × Run.Reply))
      → place < length counters → ArePasses passes counters → Asks (kept_by (get_or counters place c)) (get_or passes place p) new asks
      → AsksAt place (map kept_by counters) passes (slice_set passes place new) asks
  asked_at [] [] place p new c asks low all is = absurd (omega (arith, low))
  asked_at (q ∷ passes) (d ∷ counters) zero p new c asks low all is = here is
  asked_at (q ∷ passes) (d ∷ counters) (suc place) p new c asks low all is = further (asked_at passes counters place p new c asks (omega (arith, low)) all.1 is)
  asked_at [] (d ∷ counters) place p new c asks low all is = absurd all
  asked_at (q ∷ passes) [] place p new c asks low all is = absurd all
