-- The users at their desks, as the passes of one worker know them.
use Rattle.std.specs.Prelude.{◌≡◌, ℕ, zero, suc, ◌/◌, ◌^◌, ◌≤◌, min, List, [], ◌∷◌, ◌++◌, length}
use Rattle.std.specs.List.{AllByRecursion, AllZip, flat_map}
use Rattle.outside.specs.Visits.{Visit}
use Rattle.cqe_base.specs.Schema.{DatabaseSchema}
use Rattle.cqe_base.specs.Facts.{FactSet}
use Rattle.turnstile.specs.declared.pass.Pass.{Pass}
use Rattle.turnstile.specs.History.{IsPrefix}
use Rattle.turnstile.specs.Passes.{seen, mine, shares, turns}
use Rattle.user_desk.specs.Standings.{standing_of}
use Rattle.desk_counter.specs.declared.item.TurnItem.{TurnItem}
use Rattle.desk_counter.specs.declared.item.Fixed.{Fixed}
use Rattle.desk_counter.specs.declared.ticketed_desk.TicketedDesk.{TicketedDesk}
use Rattle.desk_counter.specs.Items.{history_of, flying, items_of}
use Rattle.session_core.specs.declared.counters.CountersOf.{CountersOf}
use Rattle.session_core.specs.declared.counters.Passes.{Passes}
use Rattle.session_core.specs.Members.{users_of, fixeds_of, passes_in}
use Rattle.serve_engine.specs.Served.{Member, SessionMarks, items_told, SameEntries, Served}

module _ {D : Type 0} where
  -- the user of a desk, by what a pass has seen of its entries
  abbrev pub member_of : Fixed D → Pass TurnItem (Fixed D) → Member
  member_of fixed pass = record {
    profile = fixed.user;
    standing = standing_of fixed.standing;
    opening = fixed.opening;
    history = history_of (seen pass);
    in_flight = flying (seen pass);
  }

  -- the users of all desks, each by the pass at his place
  abbrev pub members_of : List (Fixed D) → List (Pass TurnItem (Fixed D)) → List Member
  members_of (fixed ∷ fixeds) (pass ∷ passes) = member_of fixed pass ∷ members_of fixeds passes
  members_of (fixed ∷ fixeds) [] = []
  members_of [] passes = []

  -- all desks are of this schema and this world
  abbrev pub AreIn : DatabaseSchema → FactSet → List (Fixed D) → Type 0
  AreIn schema world fixeds =
      AllByRecursion (λ fixed. (fixed.schema ≡ schema) × (fixed.world ≡ world)) fixeds

  -- each pass has seen no fewer entries than its desk had at the opening
  abbrev pub HaveSeenOpenings : List (Fixed D) → List (Pass TurnItem (Fixed D)) → Type 0
  HaveSeenOpenings fixeds passes =
      AllZip (λ fixed pass. length fixed.opening ≤ length (history_of (seen pass))) fixeds passes

  -- A pass after sessions: it has as many shares, and has seen all that it had, and maybe more.
  pub record IsPassLater (before after : Pass TurnItem (Fixed D)) : Type 0 where
    pub same_shares : shares after ≡ shares before
    pub later : IsPrefix (seen before) (seen after)

  -- so many sessions the passes have turns for, at most 2^31
  abbrev pub room_in : List (Pass TurnItem (Fixed D)) → ℕ
  room_in [] = 2 ^ 31
  room_in (pass ∷ passes) = min (turns pass / 2 ^ 26) (room_in passes)

  -- the passes after sessions, each at its place
  abbrev pub ArePassesLater : Passes D → Passes D → Type 0
  ArePassesLater before after = AllZip IsPassLater (passes_in before) (passes_in after)

  -- what the pass at this place has of its own
  abbrev pub own_at : ℕ → List (Pass TurnItem (Fixed D)) → List TurnItem
  own_at place [] = []
  own_at zero (pass ∷ passes) = items_of (mine pass)
  own_at (suc place) (pass ∷ passes) = own_at place passes

  -- Each pass has of its own what it had, and the entries of the marks, and of the failed append,
  -- that were told to the user at its place.
  abbrev pub OwnMore : List (Pass TurnItem (Fixed D)) → List (Pass TurnItem (Fixed D))
      → List SessionMarks → Type 0
  OwnMore before after visit_marks = (place : ℕ)
      → SameEntries (own_at place after)
      (own_at place before ++ flat_map (items_told place) visit_marks)

module _ {D : Type 0} {g h : _} where
  -- A finished connection is served by the users of these desks, as the passes know them, wherever
  -- all desks are in one world.
  abbrev pub IsServedBy : CountersOf (TicketedDesk D g) TurnItem (Fixed D) h → Passes D → Visit
      → SessionMarks → Type 0
  IsServedBy counters passes visit marks =
      (schema : DatabaseSchema) (world : FactSet) → AreIn schema world (fixeds_of counters)
      → Served schema world (users_of counters)
      (members_of (fixeds_of counters) (passes_in passes)) visit marks

  -- Finished connections are served so, each with its marks, and what the passes have more of their
  -- own are the entries of these.
  pub record AreServedBy (counters : CountersOf (TicketedDesk D g) TurnItem (Fixed D) h)
      (before passes : Passes D) (visits : List Visit) : Type 0 where
    pub visit_marks : List SessionMarks
    pub each : AllZip (IsServedBy counters passes) visits visit_marks
    pub own : OwnMore (passes_in before) (passes_in passes) visit_marks
