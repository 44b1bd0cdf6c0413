use Rattle.std.proofs.Common.{◌≡◌, ◌≤◌, ◌+◌, ℕ, List, take, drop}
use Rattle.std.specs.Prelude.{vec_len, vec_capacity}
use Rattle.cqe_base.specs.Schema.{DatabaseSchema}
use Rattle.cqe_base.specs.Facts.{FactSet}
use Rattle.cqe_base.specs.History.{profile_of}
use Rattle.desk_crew.specs.Crew.{seat_user, seat_name, seat_kept, IsSeatServed}
use Rattle.batch_engine.specs.Answers.{OwnRun, asks_of}
use Rattle.batch_engine.specs.Batches.{asks_in}
use Rattle.batch_engine.proofs.post.answer_own.Given as goal

-- the first asks were answered, as far as they are the user's; there is room for the answers to the others
abbrev pub invariant-loop-number : goal.invariant-loop-number
invariant-loop-number g l = record {
  own : (schema : DatabaseSchema) (world : FactSet) (header : List ℕ) → IsSeatServed schema world header l.fn.post.seat
      → OwnRun schema world 0 (asks_in (take l.number l.asks)) l.fn.post.seat l.post.seat l.post.answers.items;
  served : (schema : DatabaseSchema) (world : FactSet) (header : List ℕ) → IsSeatServed schema world header l.fn.post.seat
      → IsSeatServed schema world header l.post.seat;
  user : (seat_kept l.post.seat).user ≡ profile_of (seat_user l.post.seat);
  name : seat_name l.post.seat ≡ seat_name l.fn.post.seat;
  room : vec_len l.post.answers + asks_of (seat_name l.fn.post.seat) (asks_in (drop l.number l.asks)) ≤ vec_capacity l.post.answers;
}
