-- Seats whose counters are shared by threads for a while.
use Rattle.std.specs.Prelude.{◌≡◌, List, [], ◌∷◌, map}
use Rattle.outside.specs.Visits.{Visit}
use Rattle.cqe_base.specs.Schema.{DatabaseSchema}
use Rattle.cqe_base.specs.Facts.{FactSet}
use Rattle.cqe_base.specs.declared.user.User.{User}
use Rattle.turnstile.specs.declared.pass.Pass.{Pass}
use Rattle.turnstile.specs.History.{IsPrefix}
use Rattle.user_desk.specs.Standings.{standing_of}
use Rattle.desk_counter.specs.declared.item.TurnItem.{TurnItem}
use Rattle.desk_counter.specs.declared.item.Fixed.{Fixed}
use Rattle.desk_counter.specs.declared.counter.CounterOf.{CounterOf}
use Rattle.desk_counter.specs.declared.ticketed_desk.TicketedDesk.{TicketedDesk}
use Rattle.desk_counter.specs.Items.{flying}
use Rattle.desk_counter.specs.Counters.{first_pairs}
use Rattle.desk_counter.specs.Sole.{counter_in, pass_in, pairs_of_sole}
use Rattle.desk_crew.specs.Crew.{seat_user, seat_journal, seat_kept, seat_history}
use Rattle.desk_crew.specs.Seats.{DeskSeat}
use Rattle.serve_engine.specs.declared.sharing.Keeper.{Keeper}
use Rattle.serve_engine.specs.Served.{Member, SessionMarks, Served}

module _ {D : Type 0} {g h : _} where
  -- what is kept of a seat
  abbrev pub keeper_of : DeskSeat D g h → Keeper
  keeper_of seat = record {
    user = seat.user;
    admission = seat.admission;
    journal = seat.journal;
    refusal = seat.refusal;
  }

  -- its counter
  abbrev pub seat_counter : DeskSeat D g h → CounterOf (TicketedDesk D g) TurnItem (Fixed D) h
  seat_counter seat = counter_in seat.desk

  -- its pass
  abbrev pub seat_pass : DeskSeat D g h → Pass TurnItem (Fixed D)
  seat_pass seat = pass_in seat.desk

  -- the user of a seat, by what the pass there has seen
  abbrev pub seat_member : DeskSeat D g h → Member
  seat_member seat = record {
    profile = (seat_kept seat).user;
    standing = standing_of (seat_kept seat).standing;
    opening = (seat_kept seat).opening;
    history = seat_history seat;
    in_flight = flying (pairs_of_sole seat.desk);
  }

  -- A seat before and after: the same user with the same journal at the same desk, whose pass has
  -- seen all that it had.
  pub record IsSeatOn (before after : DeskSeat D g h) : Type 0 where
    pub user_is : seat_user after ≡ seat_user before
    pub journal_is : seat_journal after ≡ seat_journal before
    pub refusal_is : after.refusal ≡ before.refusal
    pub kept_is : seat_kept after ≡ seat_kept before
    pub first_is : first_pairs (seat_counter after) ≡ first_pairs (seat_counter before)
    pub on : IsPrefix (pairs_of_sole before.desk) (pairs_of_sole after.desk)

  -- all seats
  abbrev pub AreSeatsOn : List (DeskSeat D g h) → List (DeskSeat D g h) → Type 0
  AreSeatsOn [] [] = Unit {0}
  AreSeatsOn (before ∷ seats) (after ∷ others) = IsSeatOn before after × AreSeatsOn seats others
  AreSeatsOn seats others = ⊥

  -- all desks are of this schema and this world
  abbrev pub AreAllIn : DatabaseSchema → FactSet → List (DeskSeat D g h) → Type 0
  AreAllIn schema world [] = Unit {0}
  AreAllIn schema world (seat ∷ seats) = ((seat_kept seat).schema ≡ schema)
      × ((seat_kept seat).world ≡ world) × AreAllIn schema world seats

  -- A finished connection is served by the users at these seats, wherever all desks are in one
  -- world.
  abbrev pub IsServedAt : List User → List (DeskSeat D g h) → Visit → SessionMarks → Type 0
  IsServedAt users seats visit marks = (schema : DatabaseSchema) (world : FactSet)
      → AreAllIn schema world seats → Served schema world users (map seat_member seats) visit marks
