use Rattle.std.proofs.Common.{◌≡◌, Ok}
use Rattle.cqe_base.specs.Schema.{Text}
use Rattle.dossier.specs.Checked.{item}
use Rattle.dossier.specs.Reading.{answer, bytes_left}
use Rattle.dossier.specs.Logs.{past_schema, past_user, past_history, IsKept, IsPastOfSame}
use Rattle.dossier.proofs.checking.read_items.Given as goal

-- the items so far were read: what the text showed at first is what the rest shows behind them
abbrev pub invariant-loop-field : goal.invariant-loop-field
invariant-loop-field l = record {
  kept : IsKept l.past;
  same : IsPastOfSame l.initial.past l.past;
  reads : (name : Text) → answer (past_schema l.initial.past) l.world name (past_user l.initial.past) (Ok (item (past_history l.initial.past))) l.initial.lines
      ≡ answer (past_schema l.initial.past) l.world name (past_user l.initial.past) (Ok (item (past_history l.past))) l.lines;
}

-- each line that is read makes what is left shorter
abbrev pub decreases-loop-field : goal.decreases-loop-field
decreases-loop-field l = bytes_left l.lines
