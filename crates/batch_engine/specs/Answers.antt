-- The answers to the asks of a stretch.
use Rattle.std.specs.Prelude.{◌≡◌, ℕ, ◌+◌, Bool, true, false, List, [], ◌∷◌, ◌++◌, Option}
use Rattle.std.specs.Prelude.{Some, None, bytes_eq, if◌then◌else◌}
use Rattle.std.specs.List.{flat_map, list_any}
use Rattle.cqe_base.specs.Schema.{Text, DatabaseSchema}
use Rattle.cqe_base.specs.Facts.{FactSet}
use Rattle.cqe_base.specs.Run.{Reply, desk_broken}
use Rattle.cqe_base.specs.Transcript.{purpose_of, reply_line, restart_line, line_text}
use Rattle.batch_engine.specs.BatchLines.{NamedAsk}
use Rattle.batch_engine.specs.declared.answer.Answer.{Answer}
use Rattle.desk_crew.specs.Crew.{is_named, IsToldAt, Tells}
use Rattle.desk_crew.specs.Seats.{DeskSeat}

-- whether a reply says that an append failed
abbrev pub is_broken_reply : Option Reply → Bool
is_broken_reply (Some desk_broken) = true
is_broken_reply reply = false

-- the answer to an ask with its number in a stretch
abbrev pub answer_to : ℕ → NamedAsk → Option Reply → Answer
answer_to number ask reply = record {
  number = number;
  line = line_text (reply_line ask.name ask.caller reply) ++ 10 ∷ [];
  is_broken = is_broken_reply reply;
}

-- the line of the restart behind so many asks
abbrev pub restarted_at : ℕ → Answer
restarted_at count =
    record { number = count; line = line_text restart_line ++ 10 ∷ []; is_broken = false }

-- the answers to asks with these replies, in their order, by numbers from this one on
abbrev pub answers_from : ℕ → List NamedAsk → List (Option Reply) → List Answer
answers_from number [] replies = []
answers_from number (ask ∷ asks) [] = []
answers_from number (ask ∷ asks) (reply ∷ replies) =
    answer_to number ask reply ∷ answers_from (number + 1) asks replies

-- the bytes of answers, one line after the other
abbrev pub output_bytes : List Answer → List ℕ
output_bytes answers = flat_map (λ answer. answer.line) answers

-- whether one of them says that an append failed
abbrev pub says_broken : List Answer → Bool
says_broken answers = list_any (λ answer. answer.is_broken) answers

-- how many of the asks have this name
abbrev pub asks_of : Text → List NamedAsk → ℕ
asks_of name [] = 0
asks_of name (ask ∷ asks) = (if bytes_eq name ask.name then 1 else 0) + asks_of name asks

-- the answers to the asks of which none of these names has made one
abbrev pub strangers_from : ℕ → List NamedAsk → List Text → List Answer
strangers_from number [] names = []
strangers_from number (ask ∷ asks) names =
    if list_any (λ name. bytes_eq name ask.name) names
    then strangers_from (number + 1) asks names
    else answer_to number ask None ∷ strangers_from (number + 1) asks names

module _ (schema : DatabaseSchema) (world : FactSet) where
  -- The asks of a seat's user among these, one after the other, by numbers from this one on: his
  -- seat behind them, and his answers. The asks of others change nothing of it.
  pub data OwnRun {D : Type 0} {g h : _} : ℕ → List NamedAsk → DeskSeat D g h → DeskSeat D g h
      → List Answer → Type 0 where
    done : (number : ℕ) (seat : DeskSeat D g h) → OwnRun number [] seat seat []
    his : (number : ℕ) (ask : NamedAsk) (asks : List NamedAsk) (old mid new : DeskSeat D g h)
        (reply : Reply) (answers : List Answer)
        → is_named ask.name old ≡ true
        → IsToldAt schema world (purpose_of ask.caller) ask.text reply old mid
        → OwnRun (number + 1) asks mid new answers
        → OwnRun number (ask ∷ asks) old new (answer_to number ask (Some reply) ∷ answers)
    of_another : (number : ℕ) (ask : NamedAsk) (asks : List NamedAsk) (old new : DeskSeat D g h)
        (answers : List Answer)
        → is_named ask.name old ≡ false → OwnRun (number + 1) asks old new answers
        → OwnRun number (ask ∷ asks) old new answers

  -- the asks of a stretch, one after the other, each of its user: the seats behind them, and the
  -- replies
  pub data TellsEach {D : Type 0} {g h : _} : List NamedAsk → List (DeskSeat D g h)
      → List (DeskSeat D g h) → List (Option Reply) → Type 0 where
    no_ask : (seats : List (DeskSeat D g h)) → TellsEach [] seats seats []
    next_ask : (ask : NamedAsk) (asks : List NamedAsk) (old mid new : List (DeskSeat D g h))
        (reply : Option Reply) (replies : List (Option Reply))
        → Tells schema world ask.name (purpose_of ask.caller) ask.text old mid reply
        → TellsEach asks mid new replies
        → TellsEach (ask ∷ asks) old new (reply ∷ replies)
