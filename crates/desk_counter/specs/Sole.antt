-- A counter in one thread's hands.
use Rattle.std.specs.Prelude.{◌≡◌, length, None}
use Rattle.cqe_base.specs.Run.{UserState}
use Rattle.turnstile.specs.History.{Entries}
use Rattle.turnstile.specs.declared.pass.Pass.{Pass}
use Rattle.turnstile.specs.Passes.{seen}
use Rattle.user_desk.specs.Lives.{IsState}
use Rattle.desk_counter.specs.declared.item.TurnItem.{TurnItem}
use Rattle.desk_counter.specs.declared.item.Fixed.{Fixed}
use Rattle.desk_counter.specs.declared.counter.CounterOf.{CounterOf}
use Rattle.desk_counter.specs.declared.sole.SoleOf.{SoleOf}
use Rattle.desk_counter.specs.declared.ticketed_desk.TicketedDesk.{TicketedDesk}
use Rattle.desk_counter.specs.Items.{history_of, flying}
use Rattle.desk_counter.specs.Desks.{state_shown}
use Rattle.desk_counter.specs.Counters.{kept_by}

-- its counter
abbrev pub counter_in : {D : Type 0} {g h : _} → SoleOf (TicketedDesk D g) TurnItem (Fixed D) h
    → CounterOf (TicketedDesk D g) TurnItem (Fixed D) h
counter_in sole = sole.counter

-- its pass
abbrev pub pass_in : {D : Type 0} {g h : _} → SoleOf (TicketedDesk D g) TurnItem (Fixed D) h
    → Pass TurnItem (Fixed D)
pass_in sole = sole.pass

-- what no turn changes of its desk
abbrev pub kept_in : {D : Type 0} {g h : _} → SoleOf (TicketedDesk D g) TurnItem (Fixed D) h
    → Fixed D
kept_in sole = kept_by sole.counter

-- the pairs that its pass has seen, which are all
abbrev pub pairs_of_sole : {D : Type 0} {g h : _} → SoleOf (TicketedDesk D g) TurnItem (Fixed D) h
    → Entries TurnItem
pairs_of_sole sole = seen sole.pass

-- its user's state
abbrev pub sole_state : {D : Type 0} {g h : _} → SoleOf (TicketedDesk D g) TurnItem (Fixed D) h
    → UserState
sole_state sole = state_shown (kept_in sole) (pairs_of_sole sole)

-- its desk is in this state; of a desk whose journal was refused the standing alone counts
abbrev pub IsSoleIn : {D : Type 0} {g h : _} → SoleOf (TicketedDesk D g) TurnItem (Fixed D) h
    → UserState → Type 0
IsSoleIn sole state = IsState (kept_in sole).standing (sole_state sole) state

-- nothing was appended since the desk's opening
pub record IsAsOpened {D : Type 0} (fixed : Fixed D) (pairs : Entries TurnItem) : Type 0 where
  pub count : length (history_of pairs) ≡ length fixed.opening
  pub none : flying pairs ≡ None
