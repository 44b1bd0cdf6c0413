use Rattle.std.proofs.Common.{sym, subst}
use Rattle.cqe_base.specs.Censor.{IsLegal}
use Rattle.cqe_base.specs.Limits.{KeepsSizes}
use Rattle.cqe_base.specs.History.{History}
use Rattle.user_desk.specs.Desks.{desk_schema, desk_world, desk_user, desk_history, entry_in_flight}
use Rattle.desk_counter.proofs.Pairs.{pairs_last}
use Rattle.desk_counter.proofs.DeskSettles.{history_in}
use Rattle.desk_counter.proofs.ticketed_desk.TicketedDesk.known.Goals as goal

pub returns-clause-legal : goal.returns-clause-legal
returns-clause-legal g c =
    let value = c.args.self.now in
    subst (λ (h : History). IsLegal (desk_schema value.desk) (desk_world value.desk) (desk_user value.desk) h) (sym (history_in value)) c.known.ensures.legal

pub returns-clause-sizes : goal.returns-clause-sizes
returns-clause-sizes g c =
    let value = c.args.self.now in
    subst (λ (h : History). KeepsSizes (desk_schema value.desk) (desk_user value.desk) h) (sym (history_in value)) c.known.ensures.sizes

pub returns-clause-last : goal.returns-clause-last
returns-clause-last g c =
    let value = c.args.self.now in
    pairs_last value.tickets.items (desk_history value.desk) value.broke (entry_in_flight value.desk)
