-- What settling a text makes of a desk with tickets.
use Rattle.std.proofs.Common.{◌≡◌, ℕ, zero, suc, ◌+◌, true, false, List, [], ◌∷◌, ◌++◌, map, length, refl, sym, ap, ◌∙◌, subst, length-append}
use Rattle.std.specs.Prelude.{Option, Some, None, is_some, option_to_list, replicate}
use Rattle.std.proofs.lemmas.List.Elements.{All-nil, All-cons}
use Rattle.cqe_base.specs.declared.user.Mark as base
use Rattle.cqe_base.specs.declared.user.Purpose.{Purpose}
use Rattle.cqe_base.specs.Schema.{Text}
use Rattle.cqe_base.specs.History.{AnsweredQuery, History}
use Rattle.cqe_base.specs.Reading.{reading}
use Rattle.cqe_base.specs.Run.{UserState, reply_by, standing_open, after_event, stop}
use Rattle.turnstile.specs.History.{IsOpening}
use Rattle.user_log.specs.Replies.{reply_of}
use Rattle.user_log.specs.declared.reply.Reply.{Reply}
use Rattle.user_log.specs.declared.reply.Reply.TheVariants.{Mark, Broken}
use Rattle.user_desk.specs.Standings.{standing_of, is_open}
use Rattle.user_desk.specs.Lives.{shown, IsState, Settles, Holds}
use Rattle.user_desk.specs.Desks.{desk_schema, desk_world, desk_user, desk_standing, desk_history, entry_in_flight, is_broken_desk, IsIn, IsOfSame}
use Rattle.user_desk.specs.Desks.{IsOfOneOpening, desk_header, state_of}
use Rattle.user_desk.proofs.Asking as states
use Rattle.user_desk.specs.declared.desk.Desk.{Desk}
use Rattle.user_desk.specs.declared.standing.Standing.{Standing}
use Rattle.user_desk.specs.declared.standing.Standing.TheVariants as standings
use Rattle.desk_counter.specs.declared.item.TurnItem.{TurnItem}
use Rattle.desk_counter.specs.declared.item.TurnItem.TheVariants.{Kept, Broke}
use Rattle.desk_counter.specs.declared.ticketed_desk.TicketedDesk.{TicketedDesk}
use Rattle.desk_counter.specs.Items.{history_of, flying, has_broke, pairs_of, items_of, items_with}
use Rattle.desk_counter.specs.Tickets.{pairs_in}
use Rattle.desk_counter.specs.Desks.{fixed_of}
use Rattle.desk_counter.specs.Asks as asks
use Rattle.desk_counter.specs.Asks.{NoMark, Adds, entry_for}
use Rattle.desk_counter.proofs.Settling.{Changes, none_flies, settled_changes}
use Rattle.desk_counter.proofs.Settling as settling
use Rattle.desk_counter.proofs.Pairs.{history_pairs, flying_pairs, items_pairs, adds_mark, adds_broke, adds_none}

-- a desk is in the state that it shows
in_itself : (standing : Standing) (entries : History) (in_flight : Option AnsweredQuery)
    → IsState standing (shown entries (standing_of standing) in_flight) (shown entries (standing_of standing) in_flight)
in_itself standings.Open entries in_flight = refl
in_itself (standings.Closed admission) entries in_flight = refl
in_itself (standings.Sealed why) entries in_flight = refl

-- an append failed, as the pairs show it
pub broke_pairs : (tickets : List ℕ) (entries : History) (broke : ℕ) (in_flight : Option AnsweredQuery)
    → has_broke (pairs_of tickets entries broke in_flight) ≡ is_some in_flight
broke_pairs tickets entries broke in_flight = ap (λ (o : Option AnsweredQuery). is_some o) (flying_pairs tickets entries broke in_flight)

-- the entries of a desk with tickets are those of the journal among its pairs
pub history_in : {D : Type 0} {g : _} (value : TicketedDesk D g) → history_of (pairs_in value) ≡ desk_history value.desk
history_in value = history_pairs value.tickets.items (desk_history value.desk) value.broke (entry_in_flight value.desk) value.counted

-- and so is the entry in flight
pub flying_in : {D : Type 0} {g : _} (value : TicketedDesk D g) → flying (pairs_in value) ≡ entry_in_flight value.desk
flying_in value = flying_pairs value.tickets.items (desk_history value.desk) value.broke (entry_in_flight value.desk)

-- and they have no further item
pub items_in : {D : Type 0} {g : _} (value : TicketedDesk D g) → items_of (pairs_in value) ≡ items_with (history_of (pairs_in value)) (flying (pairs_in value))
items_in value =
    items_pairs value.tickets.items (desk_history value.desk) value.broke (entry_in_flight value.desk) value.counted
    ∙ ap (λ (h : History). items_with h (entry_in_flight value.desk)) (sym (history_in value))
    ∙ ap (λ (o : Option AnsweredQuery). items_with (history_of (pairs_in value)) o) (sym (flying_in value))

-- with ticket 0 alone the pairs are those of an opening
pub opening_pairs : (count : ℕ) (entries : History) (in_flight : Option AnsweredQuery) → IsOpening (pairs_of (replicate count 0) entries 0 in_flight)
opening_pairs count entries in_flight = of_zeros count entries
  where
    alone : (in_flight : Option AnsweredQuery) → IsOpening (map (λ entry. (0, Broke entry)) (option_to_list in_flight))
    alone None = All-nil (λ (e : ℕ × TurnItem). e.0 ≡ 0)
    alone (Some entry) = All-cons (λ (e : ℕ × TurnItem). e.0 ≡ 0) (0, Broke entry) [] refl (All-nil (λ (e : ℕ × TurnItem). e.0 ≡ 0))

    of_zeros : (count : ℕ) (entries : History) → IsOpening (pairs_of (replicate count 0) entries 0 in_flight)
    of_zeros zero entries = alone in_flight
    of_zeros (suc count) [] = alone in_flight
    of_zeros (suc count) (x ∷ entries) =
        All-cons (λ (e : ℕ × TurnItem). e.0 ≡ 0) (0, Kept x) (pairs_of (replicate count 0) entries 0 in_flight) refl (of_zeros count entries)

served_of : (standing : Standing) → (is_open standing ≡ false → ⊥) → standing_of standing ≡ standing_open
served_of standings.Open never = refl
served_of (standings.Closed admission) never = absurd (never refl)
served_of (standings.Sealed why) never = absurd (never refl)

-- a desk with an entry in flight answers so
pub broken_adds : {D : Type 0} {g : _} (value : TicketedDesk D g) (ticket : ℕ) (purpose : Purpose) (text : Text) → is_broken_desk value.desk ≡ true
    → (is_open (desk_standing value.desk) ≡ false → is_broken_desk value.desk ≡ false)
    → Adds (fixed_of value.desk) ticket purpose text (pairs_in value) (pairs_in value) Broken
broken_adds value ticket purpose text broken idle =
    let fixed = fixed_of value.desk in
    let pairs = pairs_in value in
    let opened : standing_of fixed.standing ≡ standing_open =
    served_of (desk_standing value.desk) (λ closed. let e : true ≡ false = sym broken ∙ idle closed in cc) in
    let flies : has_broke pairs ≡ true = ap (λ (o : Option AnsweredQuery). is_some o) (flying_in value) ∙ broken in
    asks.coded tt
    (ap (λ s. reply_by fixed.schema fixed.world fixed.user (history_of pairs) s (has_broke pairs) purpose text (reading fixed.schema text)) opened
    ∙ ap (λ b. reply_by fixed.schema fixed.world fixed.user (history_of pairs) standing_open b purpose text (reading fixed.schema text)) flies)
    refl

-- a crash of a call of such a desk leaves what a crash before it did
pub broken_stops : {D : Type 0} {g : _} (desk : Desk D g) (purpose : Purpose) (text : Text) → is_broken_desk desk ≡ true
    → (is_open (desk_standing desk) ≡ false → is_broken_desk desk ≡ false) → (c : List ℕ)
    → Holds (desk_schema desk) (desk_world desk) (desk_user desk) (desk_header desk) (state_of desk) c
    → Holds (desk_schema desk) (desk_world desk) (desk_user desk) (desk_header desk)
    (after_event (desk_schema desk) (desk_world desk) (desk_user desk) (state_of desk) (stop purpose text)) c
broken_stops desk purpose text broken idle c holds =
    let opened : standing_of (desk_standing desk) ≡ standing_open =
    served_of (desk_standing desk) (λ closed. let e : true ≡ false = sym broken ∙ idle closed in cc) in
    states.stop_leaves (desk_schema desk) (desk_world desk) (desk_user desk) (desk_header desk) (state_of desk) purpose text c
    (states.broken_adds (desk_schema desk) (desk_world desk) (desk_user desk) (state_of desk) opened broken purpose text) holds

-- and so where no append failed and nothing is written
pub whole_stops : {D : Type 0} {g : _} (desk : Desk D g) (purpose : Purpose) (text : Text) → is_broken_desk desk ≡ false → (c : List ℕ)
    → Holds (desk_schema desk) (desk_world desk) (desk_user desk) (desk_header desk) (state_of desk) c
    → Holds (desk_schema desk) (desk_world desk) (desk_user desk) (desk_header desk)
    (after_event (desk_schema desk) (desk_world desk) (desk_user desk) (state_of desk) (stop purpose text)) c
whole_stops desk purpose text whole c holds =
    states.stop_keeps (desk_schema desk) (desk_world desk) (desk_user desk) (desk_header desk) (state_of desk) purpose text c
    (none_flies (entry_in_flight desk) whole) holds

module _ {D : Type 0} {g : _} (old new : Desk D g) where
  -- what no turn changes
  pub same_fixed : IsOfSame old new → IsOfOneOpening old new → fixed_of new ≡ fixed_of old
  same_fixed same opening = λ i. record {
    schema = same.schema i;
    world = same.world i;
    user = same.user i;
    header = same.header i;
    standing = same.standing i;
    opening = opening.entries i;
    disk = opening.disk i;
  }

  -- what a settled text makes of the entries
  pub desk_changes : (purpose : Purpose) (text : Text) (reply : Reply) (before now : ℕ) → IsOfSame old new
      → ((state : UserState) → IsIn old state → Settles (desk_schema old) (desk_world old) (desk_user old) (IsIn new) state purpose text
      (reply_of reply) before now)
      → (is_open (desk_standing old) ≡ false → desk_history old ≡ []) → (is_open (desk_standing new) ≡ false → desk_history new ≡ [])
      → is_broken_desk old ≡ false → (is_open (desk_standing new) ≡ false → is_broken_desk new ≡ false)
      → Changes (desk_schema old) (desk_world old) (desk_user old) (standing_of (desk_standing old)) purpose text (desk_history old) None (desk_history new)
      (entry_in_flight new) reply
  desk_changes purpose text reply before now same settles none_old none_new whole idle_new =
      let whole_old : entry_in_flight old ≡ None = none_flies (entry_in_flight old) whole in
      let settled = settles (shown (desk_history old) (standing_of (desk_standing old)) (entry_in_flight old))
      (in_itself (desk_standing old) (desk_history old) (entry_in_flight old)) in
      let of_new : Settles (desk_schema old) (desk_world old) (desk_user old)
      (IsState (desk_standing old) (shown (desk_history new) (standing_of (desk_standing old)) (entry_in_flight new)))
      (shown (desk_history old) (standing_of (desk_standing old)) (entry_in_flight old)) purpose text (reply_of reply) before now =
      subst (λ s. Settles (desk_schema old) (desk_world old) (desk_user old) (IsState s (shown (desk_history new) (standing_of s) (entry_in_flight new)))
      (shown (desk_history old) (standing_of (desk_standing old)) (entry_in_flight old)) purpose text (reply_of reply) before now) same.standing settled in
      subst (λ o. Changes (desk_schema old) (desk_world old) (desk_user old) (standing_of (desk_standing old)) purpose text (desk_history old) o
      (desk_history new)
      (entry_in_flight new) reply) whole_old
      (settled_changes (desk_schema old) (desk_world old) (desk_user old) (desk_standing old) purpose text (desk_history old) (entry_in_flight old)
      (desk_history new)
      (entry_in_flight new) reply
      (λ closed. (
        none_old closed,
        none_new (ap is_open same.standing ∙ closed),
        whole_old,
        none_flies (entry_in_flight new) (idle_new (ap is_open same.standing ∙ closed)),
      )) before now of_new)

  module _ (tickets : List ℕ) (broke ticket : ℕ) (purpose : Purpose) (text : Text) (counted : length tickets ≡ length (desk_history old))
      (whole : is_broken_desk old ≡ false) where
    abbrev Changed : Reply → Type 0
    Changed reply = Changes (desk_schema old) (desk_world old) (desk_user old) (standing_of (desk_standing old)) purpose text (desk_history old) None
        (desk_history new)
        (entry_in_flight new) reply

    none : entry_in_flight old ≡ None
    none = none_flies (entry_in_flight old) whole

    pub desk_adds_mark : {mark : base.Mark} → Changed (Mark mark)
        → Adds (fixed_of old) ticket purpose text (pairs_of tickets (desk_history old) broke (entry_in_flight old))
        (pairs_of (tickets ++ ticket ∷ []) (desk_history new) broke (entry_in_flight new)) (Mark mark)
    desk_adds_mark {mark = mark} changed =
        subst (λ o. Adds (fixed_of old) ticket purpose text (pairs_of tickets (desk_history old) broke o)
        (pairs_of (tickets ++ ticket ∷ []) (desk_history new) broke (entry_in_flight new)) (Mark mark)) (sym none)
        (adds_mark (fixed_of old) purpose text tickets (desk_history old) broke counted ticket changed)

    pub desk_adds_broke : is_broken_desk new ≡ true → Changed Broken
        → Adds (fixed_of old) ticket purpose text (pairs_of tickets (desk_history old) broke (entry_in_flight old))
        (pairs_of tickets (desk_history new) ticket (entry_in_flight new)) Broken
    desk_adds_broke flies changed =
        subst (λ o. Adds (fixed_of old) ticket purpose text (pairs_of tickets (desk_history old) broke o)
        (pairs_of tickets (desk_history new) ticket (entry_in_flight new)) Broken) (sym none)
        (adds_broke (fixed_of old) purpose text tickets (desk_history old) broke counted ticket flies changed)

    pub desk_adds_none : {reply : Reply} → NoMark reply → (reply ≡ Broken → ⊥) → Changed reply
        → Adds (fixed_of old) ticket purpose text (pairs_of tickets (desk_history old) broke (entry_in_flight old))
        (pairs_of tickets (desk_history new) broke (entry_in_flight new)) reply
    desk_adds_none {reply = reply} no_mark not_broken changed =
        subst (λ o. Adds (fixed_of old) ticket purpose text (pairs_of tickets (desk_history old) broke o)
        (pairs_of tickets (desk_history new) broke (entry_in_flight new)) reply) (sym none)
        (adds_none (fixed_of old) purpose text tickets (desk_history old) broke counted ticket no_mark not_broken changed)

    -- as many tickets as entries
    pub counted_mark : {mark : base.Mark} → Changed (Mark mark) → length (tickets ++ ticket ∷ []) ≡ length (desk_history new)
    counted_mark (settling.added {query = query} {mark = mark} opened idle answer grown still) =
        length-append tickets (ticket ∷ []) ∙ ap (λ n. n + 1) counted ∙ sym (length-append (desk_history old) (entry_for query mark text ∷ []))
        ∙ sym (ap length grown)
    counted_mark (settling.coded never replied same still) = absurd never

    pub counted_broke : Changed Broken → length tickets ≡ length (desk_history new)
    counted_broke (settling.flew opened idle answer same flew) = counted ∙ sym (ap length same)
    counted_broke (settling.coded never replied same still) = counted ∙ sym (ap length same)

    pub counted_none : {reply : Reply} → NoMark reply → Changed reply → length tickets ≡ length (desk_history new)
    counted_none no_mark (settling.added opened idle answer grown still) = absurd no_mark
    counted_none no_mark (settling.flew opened idle answer same flew) = counted ∙ sym (ap length same)
    counted_none no_mark (settling.coded never replied same still) = counted ∙ sym (ap length same)
    counted_none no_mark (settling.wanted same still) = counted ∙ sym (ap length same)
