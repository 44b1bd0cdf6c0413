use Rattle.std.proofs.Common.{All, sym, subst}
use Rattle.std.proofs.lemmas.List.Elements.{All-push}
use Rattle.log_journal.specs.Opening.{IsRecord}
use Rattle.desk_tests.proofs.shown.records_in.Goals as goal

pub loop-line-preserved-in_ok-push : goal.loop-line-preserved-in_ok-push
loop-line-preserved-in_ok-push g c =
    subst (All (IsRecord 5)) (sym c.in_ok-push.ensures.items)
    (All-push (IsRecord 5) c.loop-line.records.items c.in_ok-asked.field-0 c.loop-line.invariant c.in_ok-asked.ensures)
