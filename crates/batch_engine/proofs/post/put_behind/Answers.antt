use Rattle.std.proofs.Common.{◌∷◌, ◌++◌, [], length, refl, sym, ap, ◌∙◌, append_assoc, append-nil, length-append, arith, rules}
use Rattle.worker_pool.proofs.Seating.{read_on, read_more, read_all}
use Rattle.batch_engine.proofs.post.put_behind.Goals as goal

pub loop-answer-init : goal.loop-answer-init
loop-answer-init c = record { rest = search rules; so_far = sym (append-nil c.args.answers.now.items); room = refl }

pub push_reserved-requires : goal.push_reserved-requires
push_reserved-requires c =
    let so_far = c.loop-answer.invariant in
    let more = read_more c.args.more.items c.loop-answer.yielded _ _ c.in-Some.answer so_far.rest c.in-Some.ensures.steps.0 in
    let many = ap length so_far.so_far in
    let parts = length-append c.args.answers.now.items c.loop-answer.yielded in
    let room = so_far.room in
    let len = c.loop-answer.answers.ok.0 in
    omega (arith, more, many, parts, room, len, c.requires)

pub loop-answer-preserved : goal.loop-answer-preserved
loop-answer-preserved c =
    let so_far = c.loop-answer.invariant in
    record {
      rest = read_on c.args.more.items c.loop-answer.yielded _ _ _ so_far.rest c.in-Some.ensures.steps.0;
      so_far = c.push_reserved.ensures.items ∙ ap (λ l. l ++ c.in-Some.answer ∷ []) so_far.so_far
          ∙ append_assoc c.args.answers.now.items c.loop-answer.yielded (c.in-Some.answer ∷ []);
      room = c.push_reserved.ensures.capacity ∙ so_far.room;
    }

pub returns-clause-all : goal.returns-clause-all
returns-clause-all c =
    let so_far = c.loop-answer.invariant in
    so_far.so_far ∙ ap (λ l. c.args.answers.now.items ++ l) (read_all c.args.more.items c.loop-answer.yielded _ so_far.rest (search rules))
