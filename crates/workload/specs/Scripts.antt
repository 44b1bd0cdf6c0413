-- The asks of a workload's script.
use Rattle.std.specs.Prelude.{ℕ, ◌+◌, ◌*◌, ◌%◌, List, map}
use Rattle.std.specs.List.{range_with_len}
use Rattle.cqe_base.specs.Transcript.{by_session}
use Rattle.batch_engine.specs.BatchLines.{BatchItem, asked}
use Rattle.workload.specs.Questions.{question_text, question_at}
use Rattle.workload.specs.Policies.{user_name}

-- the ask of a number: the users come in turn, each in his first session; its four draws stand
-- behind the facts, the secrets and the asks before it
abbrev pub workload_ask : ℕ → ℕ → ℕ → BatchItem
workload_ask seed users number = asked (record {
  name = user_name (number % users);
  caller = by_session 1;
  text = question_text (question_at seed (620 + 3 * users + 4 * number));
})

-- the script of a seed: so many asks of so many users
abbrev pub workload_script : ℕ → ℕ → ℕ → List BatchItem
workload_script seed users asks = map (workload_ask seed users) (range_with_len 0 asks)
