use Rattle.std.proofs.Common.{◌≡◌, ◌++◌}
use Rattle.std.specs.Prelude.{vec_capacity}
use Rattle.std.specs.Vec.Iter.{into_iter_items}
use Rattle.batch_engine.proofs.post.put_behind.Given as goal

-- the first answers are behind the others
abbrev pub invariant-loop-answer : goal.invariant-loop-answer
invariant-loop-answer l = record {
  rest : l.yielded ++ into_iter_items l.answer-iterator ≡ l.fn.more.items;
  so_far : l.answers.items ≡ l.fn.answers.items ++ l.yielded;
  room : vec_capacity l.answers ≡ vec_capacity l.fn.answers;
}
