use Rattle.std.proofs.Common.{ℕ, List, sym, subst}
use Rattle.turnstile.specs.History.{IsOpening}
use Rattle.user_desk.specs.Desks.{desk_history, entry_in_flight}
use Rattle.desk_counter.specs.Items.{pairs_of}
use Rattle.desk_counter.proofs.DeskSettles.{opening_pairs}
use Rattle.desk_counter.proofs.ticketed_desk.TicketedDesk.new.Goals as goal

pub returns-in-Ok-clause-opening : goal.returns-in-Ok-clause-opening
returns-in-Ok-clause-opening g c =
    subst (λ (ts : List ℕ). IsOpening (pairs_of ts (desk_history c.args.desk) 0 (entry_in_flight c.args.desk))) (sym c.in-Ok.ensures)
    (opening_pairs _ (desk_history c.args.desk) (entry_in_flight c.args.desk))
