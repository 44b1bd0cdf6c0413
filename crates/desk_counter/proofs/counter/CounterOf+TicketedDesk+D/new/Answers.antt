use Rattle.std.proofs.Common.{ap, sym, ◌∙◌}
use Rattle.turnstile.specs.declared.view.View.{View}
use Rattle.user_desk.specs.declared.desk.Desk.{Desk}
use Rattle.user_desk.specs.Desks.{desk_history, entry_in_flight}
use Rattle.desk_counter.specs.declared.item.TurnItem.{TurnItem}
use Rattle.desk_counter.specs.declared.item.Fixed.{Fixed}
use Rattle.desk_counter.specs.declared.ticketed_desk.TicketedDesk.{TicketedDesk}
use Rattle.desk_counter.specs.Items.{history_of, flying, is_broke_last}
use Rattle.desk_counter.specs.Tickets.{pairs_in}
use Rattle.desk_counter.proofs.DeskSettles.{history_in, flying_in}
use Rattle.desk_counter.proofs.Pairs.{broke_last, pairs_last}
use Rattle.desk_counter.proofs.counter.CounterOf+TicketedDesk+D.new.Goals as goal

pub returns-in-Ok-new-clause-first : goal.returns-in-Ok-new-clause-first
returns-in-Ok-new-clause-first g c =
    ap (λ (v : TicketedDesk g.row.D.Denot g.D.Disk). pairs_in v) c.in-Ok-new.ensures.first
    ∙ sym (ap (λ (v : View TurnItem (Fixed g.row.D.Denot)). v.seen) c.in-Ok-new.ensures.view)

pub returns-in-Ok-new-clause-history : goal.returns-in-Ok-new-clause-history
returns-in-Ok-new-clause-history g c =
    ap (λ (v : View TurnItem (Fixed g.row.D.Denot)). history_of v.seen) c.in-Ok-new.ensures.view ∙ history_in c.in_ok-value.value
    ∙ ap (λ (d : Desk g.row.D.Denot g.D.Disk). desk_history d) c.in_ok-value.ensures.desk

pub returns-in-Ok-new-clause-in_flight : goal.returns-in-Ok-new-clause-in_flight
returns-in-Ok-new-clause-in_flight g c =
    ap (λ (v : View TurnItem (Fixed g.row.D.Denot)). flying v.seen) c.in-Ok-new.ensures.view ∙ flying_in c.in_ok-value.value
    ∙ ap (λ (d : Desk g.row.D.Denot g.D.Disk). entry_in_flight d) c.in_ok-value.ensures.desk

pub returns-in-Ok-new-clause-last : goal.returns-in-Ok-new-clause-last
returns-in-Ok-new-clause-last g c =
    let put : TicketedDesk g.row.D.Denot g.D.Disk = c.in_ok-value.value in
    ap (λ (v : View TurnItem (Fixed g.row.D.Denot)). is_broke_last v.seen) c.in-Ok-new.ensures.view
    ∙ broke_last (pairs_in put) (pairs_last put.tickets.items (desk_history put.desk) put.broke (entry_in_flight put.desk))
