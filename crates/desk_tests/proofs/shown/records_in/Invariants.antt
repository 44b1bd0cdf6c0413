use Rattle.std.specs.Prelude.{All}
use Rattle.log_journal.specs.Opening.{IsRecord}
use Rattle.desk_tests.proofs.shown.records_in.Given as goal

-- all that was made so far are records
abbrev pub invariant-loop-line : goal.invariant-loop-line
invariant-loop-line g l = All (IsRecord 5) l.records.items
