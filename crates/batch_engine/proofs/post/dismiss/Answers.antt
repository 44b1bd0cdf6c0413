use Rattle.std.proofs.Common.{◌∷◌, ◌++◌, [], length, map, refl, sym, ap, ◌∙◌, append_assoc, append-nil, length-append, arith, rules}
use Rattle.std.specs.List.{flat_map}
use Rattle.std.proofs.lemmas.List.{map-append, length-map}
use Rattle.worker_pool.proofs.Seating.{read_on, read_more, read_all}
use Rattle.batch_engine.specs.Posts.{seat_of, answers_at}
use Rattle.batch_engine.proofs.Posts.{gathered_few, gathered_more}
use Rattle.batch_engine.proofs.post.dismiss.Goals as goal

pub loop-post-init : goal.loop-post-init
loop-post-init g c =
    record { rest = search rules; seats = c.requires.empty; answers = sym (append-nil c.args.answers.items); room = refl; capacity = refl }

-- the answers so far and those of this post are no more than all of them
pub put_behind-requires : goal.put_behind-requires
put_behind-requires g c =
    let so_far = c.loop-post.invariant in
    let few = gathered_few answers_at c.args.posts.items c.loop-post.yielded _ _ c.in-Some.post so_far.rest c.in-Some.ensures.steps.0 in
    let many = ap length so_far.answers in
    let parts = length-append c.args.answers.items (flat_map answers_at c.loop-post.yielded) in
    let capacity = so_far.capacity in
    omega (arith, few, many, parts, capacity, c.requires.all)

pub push_reserved-requires : goal.push_reserved-requires
push_reserved-requires g c =
    let so_far = c.loop-post.invariant in
    let more = read_more c.args.posts.items c.loop-post.yielded _ _ c.in-Some.post so_far.rest c.in-Some.ensures.steps.0 in
    let many = ap length so_far.seats ∙ length-map c.loop-post.yielded seat_of in
    let room = so_far.room in
    let len = c.loop-post.seats.ok.0 in
    omega (arith, more, many, room, len, c.requires.room)

pub loop-post-preserved : goal.loop-post-preserved
loop-post-preserved g c =
    let so_far = c.loop-post.invariant in
    let one = c.in-Some.post in
    record {
      rest = read_on c.args.posts.items c.loop-post.yielded _ _ _ so_far.rest c.in-Some.ensures.steps.0;
      seats = c.push_reserved.ensures.items ∙ ap (λ l. l ++ one.seat ∷ []) so_far.seats ∙ sym (map-append seat_of c.loop-post.yielded (one ∷ []));
      answers = c.put_behind.ensures.all ∙ ap (λ l. l ++ one.answers.items) so_far.answers
          ∙ append_assoc c.args.answers.items (flat_map answers_at c.loop-post.yielded) one.answers.items
          ∙ ap (λ l. c.args.answers.items ++ l) (sym (gathered_more answers_at c.loop-post.yielded one));
      room = c.push_reserved.ensures.capacity ∙ so_far.room;
      capacity = c.put_behind.ensures.capacity ∙ so_far.capacity;
    }

pub returns : goal.returns
returns g c =
    let so_far = c.loop-post.invariant in
    let all = read_all c.args.posts.items c.loop-post.yielded _ so_far.rest (search rules) in
    record {
      seats = so_far.seats ∙ ap (map seat_of) all;
      answers = so_far.answers ∙ ap (λ l. c.args.answers.items ++ flat_map answers_at l) all;
      capacity = so_far.capacity;
    }
