-- A counter and its passes.
use Rattle.std.specs.Prelude.{◌≡◌, Some}
use Rattle.turnstile.specs.declared.pass.Pass.{Pass}
use Rattle.turnstile.specs.History.{Entries}
use Rattle.turnstile.specs.Passes.{first_value, IsOf, IsReady, fixed}
use Rattle.desk_counter.specs.declared.item.TurnItem.{TurnItem}
use Rattle.desk_counter.specs.declared.item.Fixed.{Fixed}
use Rattle.desk_counter.specs.declared.ticketed_desk.TicketedDesk.{TicketedDesk}
use Rattle.desk_counter.specs.declared.counter.CounterOf.{CounterOf}
use Rattle.desk_counter.specs.Tickets.{fixed_in, pairs_in}

-- what no turn changes of the counter's desk
abbrev pub kept_by : {D : Type 0} {g h : _} → CounterOf (TicketedDesk D g) TurnItem (Fixed D) h
    → Fixed D
kept_by counter = fixed_in (first_value counter.turnstile)

-- the pairs with which the counter's desk was put under it
abbrev pub first_pairs : {D : Type 0} {g h : _}
    → CounterOf (TicketedDesk D g) TurnItem (Fixed D) h
    → Entries TurnItem
first_pairs counter = pairs_in (first_value counter.turnstile)

-- the pass is of this counter, and isn't in a turn
pub record IsPassOf {D : Type 0} {g h : _} (pass : Pass TurnItem (Fixed D))
    (counter : CounterOf (TicketedDesk D g) TurnItem (Fixed D) h) : Type 0 where
  pub place : IsOf pass counter.turnstile
  pub ready : IsReady pass
  pub kept : fixed pass ≡ Some (kept_by counter)
