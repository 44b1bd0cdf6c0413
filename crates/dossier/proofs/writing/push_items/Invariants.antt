use Rattle.std.proofs.Common.{◌≡◌, [], map, take}
use Rattle.std.specs.Prelude.{Some, string_bytes}
use Rattle.log_journal.specs.Opening.{recorded}
use Rattle.user_desk.specs.Entries.{entry_of}
use Rattle.dossier.specs.Logs.{past_schema, past_user, past_history, IsKept, IsPastOfSame}
use Rattle.dossier.specs.Written.{AreItems}
use Rattle.dossier.specs.Adding.{Grows}
use Rattle.dossier.proofs.writing.push_items.Given as goal

-- the items of the records so far are written and added
abbrev pub invariant-loop-next : goal.invariant-loop-next
invariant-loop-next l = record {
  kept : IsKept l.past;
  same : IsPastOfSame l.initial.past l.past;
  stands : map (entry_of (past_schema l.initial.past)) (map recorded (take l.next-index l.records)) ≡ map Some (past_history l.past);
  grown : Grows (AreItems (past_schema l.initial.past) (past_user l.initial.past) [] (map recorded (take l.next-index l.records)))
      (string_bytes l.initial.text) (string_bytes l.text);
}
