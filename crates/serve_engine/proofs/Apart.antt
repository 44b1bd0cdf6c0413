-- Seats that are taken apart and put together, and what was served at them.
use Rattle.std.proofs.Common.{◌≡◌, ℕ, zero, suc, ◌*◌, ◌^◌, ◌≤◌, List, [], ◌∷◌, ◌++◌, map, sum_by, refl, sym, ap, ◌∙◌, subst, append-nil, arith}
use Rattle.std.specs.Prelude.{All, string_bytes}
use Rattle.std.specs.List.{AllByRecursion, AllZip}
use Rattle.std.proofs.lemmas.List.Elements.{All-head, All-tail}
use Rattle.outside.specs.declared.links.Door.{Ghosts as DoorGhosts}
use Rattle.cqe_base.specs.Schema.{DatabaseSchema}
use Rattle.cqe_base.specs.Facts.{FactSet}
use Rattle.cqe_base.specs.declared.user.User.{User}
use Rattle.outside.specs.Visits.{Visit}
use Rattle.turnstile.specs.declared.pass.Pass.{Pass}
use Rattle.turnstile.specs.History.{IsPrefix}
use Rattle.turnstile.specs.Passes.{seen, mine, shares, turns}
use Rattle.desk_counter.specs.declared.item.TurnItem.{TurnItem}
use Rattle.desk_counter.specs.declared.item.Fixed.{Fixed}
use Rattle.desk_counter.specs.declared.counter.CounterOf.{CounterOf}
use Rattle.desk_counter.specs.declared.ticketed_desk.TicketedDesk.{TicketedDesk}
use Rattle.desk_counter.specs.Counters.{kept_by, first_pairs, IsPassOf}
use Rattle.desk_counter.specs.Items.{items_of}
use Rattle.desk_crew.specs.Crew.{seat_kept, IsSeatAsOpened}
use Rattle.desk_crew.specs.Seats.{DeskSeat}
use Rattle.session_core.specs.Members.{ArePasses}
use Rattle.serve_engine.specs.declared.sharing.Keeper.{Keeper}
use Rattle.serve_engine.specs.Doors.{AreServedDoors}
use Rattle.serve_engine.specs.Members.{members_of, AreIn, HaveSeenOpenings}
use Rattle.serve_engine.proofs.Owning.{own_weight}
use Rattle.serve_engine.specs.Served.{Member, SessionMarks, Served}
use Rattle.serve_engine.specs.Sharing.{keeper_of, seat_counter, seat_pass, seat_member, AreSeatsOn, AreAllIn, IsServedAt}
use Rattle.serve_engine.proofs.Standing.{zip_still}

-- two lists that are the same begin alike, and so do their rests
first_same : {X : Type 0} (x y : X) (xs ys : List X) → x ∷ xs ≡ y ∷ ys → (x ≡ y) × (xs ≡ ys)
first_same x y xs ys same = (cc, cc)

-- ---- doors

module _ {O S K : Type 0} (Door : DoorGhosts O S K) where
  -- connections that stand in one way and so in another
  pub served_still : (stands stands' : Visit → SessionMarks → Type 0) → ((visit : Visit) (marks : SessionMarks) → stands visit marks → stands' visit marks)
      → (total : ℕ) (marks : Door.tells → List SessionMarks) (doors others : List O)
      → AreServedDoors Door stands total marks doors others
      → AreServedDoors Door stands' total marks doors others
  served_still stands stands' still total marks [] [] is = is
  served_still stands stands' still total marks (d ∷ doors) (e ∷ others) is =
      let door = is.6 in (
        is.0,
        is.1,
        is.2,
        is.3,
        is.4,
        is.5,
        record {
          given = door.given;
          left = door.left;
          back = λ t. let visits = door.back t in
              record {
                visits = visits.visits;
                behind = visits.behind;
                many = visits.many;
                stand =
                    zip_still stands stands' still visits.visits (is.3 t) visits.stand;
              };
          faults = door.faults;
        },
        served_still stands stands' still is.1 is.4 doors others is.7,
      )
  served_still stands stands' still total marks [] (e ∷ others) is = absurd is
  served_still stands stands' still total marks (d ∷ doors) [] is = absurd is

  -- doors that gave nothing
  pub none_served : (stands : Visit → SessionMarks → Type 0) (doors : List O)
      → AreServedDoors Door stands 0 (λ t. []) doors doors
  none_served stands [] = (refl, λ t. refl)
  none_served stands (d ∷ doors) = (
    0,
    0,
    refl,
    λ t. [],
    λ t. [],
    λ t. refl,
    record {
      given = λ t. omega arith;
      left = λ t. omega arith;
      back = λ t. record { visits = []; behind = sym (append-nil (Door.back d)); many = refl; stand = tt };
      faults = omega arith;
    },
    none_served stands doors,
  )

-- ---- seats

-- a pass more that has all shares
pub shares_more : {D : Type 0} (passes : List (Pass TurnItem (Fixed D))) (pass : Pass TurnItem (Fixed D)) → AllByRecursion (λ pass. shares pass ≡ 65) passes
    → shares pass ≡ 65 → AllByRecursion (λ pass. shares pass ≡ 65) (passes ++ pass ∷ [])
shares_more [] pass all this = (this, tt)
shares_more (p ∷ passes) pass all this = (all.0, shares_more passes pass all.1 this)

module _ {D : Type 0} {g h : _} where
  -- a pass and its counter more
  pub passes_more : (passes : List (Pass TurnItem (Fixed D))) (counters : List (CounterOf (TicketedDesk D g) TurnItem (Fixed D) h))
      (pass : Pass TurnItem (Fixed D))
      (counter : CounterOf (TicketedDesk D g) TurnItem (Fixed D) h)
      → ArePasses passes counters → IsPassOf pass counter → ArePasses (passes ++ pass ∷ []) (counters ++ counter ∷ [])
  passes_more [] [] pass counter all this = (this, tt)
  passes_more (p ∷ passes) (c ∷ counters) pass counter all this = (all.0, passes_more passes counters pass counter all.1 this)
  passes_more [] (c ∷ counters) pass counter all this = absurd all
  passes_more (p ∷ passes) [] pass counter all this = absurd all

  -- the passes of seats that were just opened have all turns
  pub apart_turns : (seats : List (DeskSeat D g h)) → All (λ seat. turns (seat_pass seat) ≡ 65 * 2 ^ 57) seats
      → AllByRecursion (λ pass. 65 * 2 ^ 57 ≤ turns pass) (map seat_pass seats)
  apart_turns [] all = tt
  apart_turns (seat ∷ seats) all =
      let this = All-head (λ (s : DeskSeat D g h). turns (seat_pass s) ≡ 65 * 2 ^ 57) seat seats all in
      (omega (arith, this), apart_turns seats (All-tail (λ (s : DeskSeat D g h). turns (seat_pass s) ≡ 65 * 2 ^ 57) seat seats all))

  -- the counters of seats keep their desks
  pub kept_apart : (seats : List (DeskSeat D g h)) → map kept_by (map seat_counter seats) ≡ map seat_kept seats
  kept_apart [] = refl
  kept_apart (seat ∷ seats) = ap (λ (fs : List (Fixed D)). seat_kept seat ∷ fs) (kept_apart seats)

  pub apart_opened : (seats : List (DeskSeat D g h)) → All IsSeatAsOpened seats → HaveSeenOpenings (map kept_by (map seat_counter seats)) (map seat_pass seats)
  apart_opened [] all = tt
  apart_opened (seat ∷ seats) all =
      let this = (All-head IsSeatAsOpened seat seats all).count in
      (omega (arith, this), apart_opened seats (All-tail IsSeatAsOpened seat seats all))

  -- and nothing of their own
  pub apart_own : (seats : List (DeskSeat D g h)) → All (λ seat. mine (seat_pass seat) ≡ []) seats → (weight : TurnItem → ℕ) (place : ℕ)
      → own_weight weight place (map seat_pass seats) ≡ 0
  apart_own [] all weight place = refl
  apart_own (seat ∷ seats) all weight zero =
      ap (λ ps. sum_by weight (items_of ps)) (All-head (λ (s : DeskSeat D g h). mine (seat_pass s) ≡ []) seat seats all)
  apart_own (seat ∷ seats) all weight (suc place) = apart_own seats (All-tail (λ (s : DeskSeat D g h). mine (seat_pass s) ≡ []) seat seats all) weight place

  -- seats that were put together of the same, by passes that have seen more
  pub seats_on : (olds news : List (DeskSeat D g h)) → map keeper_of news ≡ map keeper_of olds → map seat_counter news ≡ map seat_counter olds
      → AllZip (λ earlier later. IsPrefix (seen earlier) (seen later)) (map seat_pass olds) (map seat_pass news) → AreSeatsOn olds news
  seats_on [] [] keepers counters on = tt
  seats_on (old ∷ olds) (new ∷ news) keepers counters on =
      let keeper = first_same (keeper_of new) (keeper_of old) (map keeper_of news) (map keeper_of olds) keepers in
      let counter = first_same (seat_counter new) (seat_counter old) (map seat_counter news) (map seat_counter olds) counters in (
        record {
          user_is = ap (λ (k : Keeper). k.user.now) keeper.0;
          journal_is = ap (λ (k : Keeper). string_bytes k.journal) keeper.0;
          refusal_is = ap (λ (k : Keeper). k.refusal) keeper.0;
          kept_is = ap kept_by counter.0;
          first_is = ap first_pairs counter.0;
          on = on.0;
        },
        seats_on olds news keeper.1 counter.1 on.1,
      )
  seats_on [] (new ∷ news) keepers counters on = absurd on
  seats_on (old ∷ olds) [] keepers counters on = absurd on

  -- seats as they were
  pub seats_same : (seats : List (DeskSeat D g h)) → AreSeatsOn seats seats
  seats_same [] = tt
  seats_same (seat ∷ seats) = (
    record { user_is = refl; journal_is = refl; refusal_is = refl; kept_is = refl; first_is = refl; on = ([], sym (append-nil (seen (seat_pass seat)))) },
    seats_same seats,
  )

  members_are : (seats : List (DeskSeat D g h)) → members_of (map kept_by (map seat_counter seats)) (map seat_pass seats) ≡ map seat_member seats
  members_are [] = refl
  members_are (seat ∷ seats) = ap (λ (ms : List Member). seat_member seat ∷ ms) (members_are seats)

  all_in : (schema : DatabaseSchema) (world : FactSet) (seats : List (DeskSeat D g h)) → AreAllIn schema world seats
      → AreIn schema world (map kept_by (map seat_counter seats))
  all_in schema world [] is = tt
  all_in schema world (seat ∷ seats) is = ((is.0, is.1), all_in schema world seats is.2)

  -- what was served by the desks' passes was served at the seats
  pub served_at : (users : List User) (seats : List (DeskSeat D g h)) (fixeds : List (Fixed D)) (passes : List (Pass TurnItem (Fixed D)))
      → fixeds ≡ map kept_by (map seat_counter seats) → passes ≡ map seat_pass seats → (visit : Visit) (marks : SessionMarks)
      → ((schema : DatabaseSchema) (world : FactSet) → AreIn schema world fixeds → Served schema world users (members_of fixeds passes) visit marks)
      → IsServedAt users seats visit marks
  served_at users seats fixeds passes fixed_is pass_is visit marks served schema world within =
      subst (λ ms. Served schema world users ms visit marks) (ap (λ fs. members_of fs passes) fixed_is
      ∙ ap (members_of (map kept_by (map seat_counter seats))) pass_is ∙ members_are seats)
      (served schema world (subst (AreIn schema world) (sym fixed_is) (all_in schema world seats within)))
