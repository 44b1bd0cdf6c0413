use Rattle.std.proofs.Common.{◌≡◌, ℕ, ◌≤◌, ◌+◌, ◌++◌, ◌∷◌, [], length, take, drop, refl, sym, ap, subst, ◌∙◌, arith}
use Rattle.std.specs.Prelude.{bytes_eq, if◌then◌else◌, Some, string_bytes, vec_len, vec_capacity}
use Rattle.std.proofs.lemmas.List.{take_all, length-map, length-take-le}
use Rattle.cqe_base.specs.History.{profile_of}
use Rattle.user_log.specs.Replies.{reply_of}
use Rattle.desk_crew.specs.Crew.{seat_name, seat_user, seat_kept, is_named, IsToldAt, IsSeatServed}
use Rattle.desk_crew.proofs.Asking.{told_served, still_served}
use Rattle.desk_crew.proofs.Taken.{map_more}
use Rattle.batch_engine.specs.Answers.{OwnRun, done, answer_to, asks_of}
use Rattle.batch_engine.specs.Batches.{ask_in, asks_in}
use Rattle.batch_engine.proofs.Shorts.{short_ask, short_here}
use Rattle.batch_engine.proofs.Merging.{own_more, own_passed}
use Rattle.batch_engine.proofs.Posts.{asks_left}
use Rattle.batch_engine.proofs.post.answer_own.Given.{Over}
use Rattle.batch_engine.proofs.post.answer_own.Goals as goal
use Rattle.batch_engine.proofs.post.answer_own.Goals.{then-eq, else-eq, After-eq}

pub loop-number-init : goal.loop-number-init
loop-number-init g c =
    let none = ap length c.requires.room.empty in
    let len = c.args.post.now.answers.ok.0 in
    let room = c.requires.room.room in
    record {
      own = λ schema world header served.
          subst (OwnRun schema world 0 [] c.args.post.now.seat c.args.post.now.seat) (sym c.requires.room.empty) (done 0 c.args.post.now.seat);
      served = λ schema world header served. served;
      user = c.requires.user;
      name = refl;
      room = omega (arith, none, len, room);
    }

-- whether the ask is his
named : (g : Over) (c : After-eq g) → is_named (ask_in c.index-asks-number.result).name c.loop-number.post.seat ≡ c.eq.result
named g c =
    ap (bytes_eq (seat_name c.loop-number.post.seat)) (sym c.as_str-in-loop-number.ensures.value)
    ∙ ap (λ n. bytes_eq n c.as_str-in-loop-number.result.now) (sym c.as_str.ensures.value) ∙ sym c.eq.ensures

-- the asks of his that are left: this one, where it is his, and those behind it
left : (g : Over) (c : After-eq g)
    → asks_of (seat_name c.args.post.now.seat) (asks_in (drop c.loop-number.number c.args.asks.now))
    ≡ (if c.eq.result then 1 else 0) + asks_of (seat_name c.args.post.now.seat) (asks_in (drop (c.loop-number.number + 1) c.args.asks.now))
left g c =
    let ask = c.index-asks-number.result in
    let rest = asks_of (seat_name c.args.post.now.seat) (asks_in (drop (c.loop-number.number + 1) c.args.asks.now)) in
    asks_left (seat_name c.args.post.now.seat) c.args.asks.now c.loop-number.number ask c.loop-number-test.true c.index-asks-number.is
    ∙ ap (λ b. (if b then 1 else 0) + rest)
    (ap (λ n. bytes_eq n (ask_in ask).name) (sym c.loop-number.invariant.name) ∙ named g c)

short : (g : Over) (c : After-eq g) → length (ask_in c.index-asks-number.result).text ≤ 4096
short g c =
    (short_ask (ask_in c.index-asks-number.result)
    (short_here c.args.asks.now c.loop-number.number c.index-asks-number.result c.loop-number-test.true c.index-asks-number.is c.requires.short)).2

pub call_at-reply-requires-clause-short : goal.call_at-reply-requires-clause-short
call_at-reply-requires-clause-short g c κs within =
    subst (λ t. length t ≤ 4096) (sym c.as_str-then-eq.ensures.value) (short g (goal.at.call_at-reply-requires-clause-short g c).After-eq)

pub call_at-reply-requires-clause-user : goal.call_at-reply-requires-clause-user
call_at-reply-requires-clause-user g c κs within = c.loop-number.invariant.user

pub answer_to-requires : goal.answer_to-requires
answer_to-requires g c =
    short_here c.args.asks.now c.loop-number.number c.index-asks-number.result c.loop-number-test.true c.index-asks-number.is c.requires.short

pub push_reserved-requires : goal.push_reserved-requires
push_reserved-requires g c =
    let room = c.loop-number.invariant.room in
    let ask = left g (goal.at.push_reserved-requires g c).After-eq in
    let one = ap {B = ℕ} (λ b. if b then 1 else 0) c.if-eq.true in
    omega (arith, room, ask, one)

pub loop-number-preserved : goal.loop-number-preserved
loop-number-preserved g c =
    let so_far = c.loop-number.invariant in
    let asks = c.args.asks.now in
    let number = c.loop-number.number in
    let ask = c.index-asks-number.result in
    let low = c.loop-number-test.true in
    let old = c.args.post.now.seat in
    let mid = c.loop-number.post.seat in
    let first = asks_in (take number asks) in
    let more = map_more ask_in asks number ask low c.index-asks-number.is in
    let many : length first ≡ number = length-map (take number asks) ask_in ∙ length-take-le number asks (omega (arith, low)) in
    let here : 0 + length first ≡ number = omega (arith, many) in
    let room = so_far.room in
    let ask_left = left g (goal.at.loop-number-preserved g c).After-eq in
    elim c.if-eq.branch [
      | then-eq w ↦
          let new = w.call_at-reply.new.seat in
          let reply = reply_of w.call_at-reply.result in
          let text = w.as_str-then-eq.ensures.value in
          let seat = ap (λ p. p.seat) w.post-is in
          let pushed = ap (λ p. p.answers.items) w.post-is ∙ w.push_reserved.ensures.items
          ∙ ap (λ a. c.loop-number.post.answers.items ++ a ∷ []) w.answer_to.ensures in
          let grown = ap (λ p. vec_len p.answers) w.post-is ∙ w.push_reserved.ensures.len in
          let capacity = ap (λ p. vec_capacity p.answers) w.post-is ∙ w.push_reserved.ensures.capacity in
          let one = ap {B = ℕ} (λ b. if b then 1 else 0) w.if-eq.true in
          record {
            own = λ schema world header served.
                subst (λ s. OwnRun schema world 0 (asks_in (take (number + 1) asks)) old s c.if-eq.post.answers.items) (sym seat)
                (subst (OwnRun schema world 0 (asks_in (take (number + 1) asks)) old new) (sym pushed)
                (subst (λ l. OwnRun schema world 0 l old new (c.loop-number.post.answers.items ++ answer_to number (ask_in ask) (Some reply) ∷ [])) (sym more)
                (subst (λ n. OwnRun schema world 0 (first ++ ask_in ask ∷ []) old new
                (c.loop-number.post.answers.items ++ answer_to n (ask_in ask) (Some reply) ∷ [])) here
                (own_more schema world 0 first (ask_in ask) old mid new reply c.loop-number.post.answers.items (so_far.own schema world header served)
                (named g (goal.at.loop-number-preserved g c).After-eq ∙ w.if-eq.true)
                (subst (λ q. IsToldAt schema world q (ask_in ask).text reply mid new) w.purpose_of.ensures
                (subst (λ t. IsToldAt schema world w.purpose_of.result t reply mid new) text
                (told_served schema world header mid new _ _ reply (so_far.served schema world header served) w.call_at-reply.ensures)))))));
            served = λ schema world header served.
                subst (IsSeatServed schema world header) (sym seat)
                (still_served schema world header mid new _ _ reply
                (told_served schema world header mid new _ _ reply (so_far.served schema world header served) w.call_at-reply.ensures)
                (so_far.served schema world header served));
            user = subst (λ s. (seat_kept s).user ≡ profile_of (seat_user s)) (sym seat)
                (ap (λ f. f.user) w.call_at-reply.ensures.kept_is ∙ so_far.user ∙ ap profile_of (sym w.call_at-reply.ensures.user_is));
            name = ap seat_name seat ∙ ap (λ u. string_bytes u.name) w.call_at-reply.ensures.user_is ∙ so_far.name;
            room = omega (arith, room, ask_left, one, grown, capacity);
          }
      | else-eq w ↦
          let none = ap {B = ℕ} (λ b. if b then 1 else 0) w.if-eq.false in
          let seat = ap (λ p. p.seat) w.post-is in
          let same = ap (λ p. vec_len p.answers) w.post-is in
          let capacity = ap (λ p. vec_capacity p.answers) w.post-is in
          record {
            own = λ schema world header served.
                subst (λ p. OwnRun schema world 0 (asks_in (take (number + 1) asks)) old p.seat p.answers.items) (sym w.post-is)
                (subst (λ l. OwnRun schema world 0 l old mid c.loop-number.post.answers.items) (sym more)
                (own_passed schema world 0 first (ask_in ask) old mid c.loop-number.post.answers.items (so_far.own schema world header served)
                (named g (goal.at.loop-number-preserved g c).After-eq ∙ w.if-eq.false)));
            served = λ schema world header served. subst (IsSeatServed schema world header) (sym seat) (so_far.served schema world header served);
            user = subst (λ s. (seat_kept s).user ≡ profile_of (seat_user s)) (sym seat) so_far.user;
            name = ap seat_name seat ∙ so_far.name;
            room = omega (arith, room, ask_left, none, same, capacity);
          }
    ]

pub returns : goal.returns
returns g c = record {
  own = record {
    run = λ schema world header served.
        subst (λ l. OwnRun schema world 0 (asks_in l) c.args.post.now.seat c.loop-number.post.seat c.loop-number.post.answers.items)
        (take_all c.loop-number.number c.args.asks.now (omega (arith, c.loop-number-test.false))) (c.loop-number.invariant.own schema world header served);
  };
}
