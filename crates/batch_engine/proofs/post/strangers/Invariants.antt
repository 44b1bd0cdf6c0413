use Rattle.std.proofs.Common.{◌≡◌, ◌≤◌, take}
use Rattle.std.specs.Prelude.{vec_len, vec_capacity}
use Rattle.batch_engine.specs.Answers.{strangers_from}
use Rattle.batch_engine.specs.Batches.{asks_in}
use Rattle.batch_engine.specs.Posts.{names_of}
use Rattle.batch_engine.proofs.post.strangers.Given as goal

-- the answers to strangers among the first asks
abbrev pub invariant-loop-number : goal.invariant-loop-number
invariant-loop-number g l = record {
  so_far : l.answers.items ≡ strangers_from 0 (asks_in (take l.number l.asks)) (names_of l.posts);
  few : vec_len l.answers ≤ l.number;
  room : vec_capacity l.answers ≡ vec_capacity l.initial.answers;
}
