-- The counters of all users, and the passes at them.
use Rattle.std.specs.Prelude.{◌≡◌, ◌≤◌, ◌^◌, true, List, [], ◌∷◌, map}
use Rattle.std.specs.List.{AllZip}
use Rattle.cqe_base.specs.Schema.{is_valid_schema}
use Rattle.cqe_base.specs.History.{profile_of, is_user_of, is_history_of}
use Rattle.cqe_base.specs.Censor.{IsLegal, admitted}
use Rattle.cqe_base.specs.Hiding.{Hides}
use Rattle.cqe_base.specs.declared.user.User.{User}
use Rattle.turnstile.specs.declared.pass.Pass.{Pass}
use Rattle.turnstile.specs.History.{IsPrefix, Interleaves}
use Rattle.turnstile.specs.Views.{remaining_view, split_off_view, view_of_both}
use Rattle.turnstile.specs.Passes.{view_of, seen, mine, shares, turns}
use Rattle.user_desk.specs.Standings.{is_open}
use Rattle.desk_counter.specs.declared.item.TurnItem.{TurnItem}
use Rattle.desk_counter.specs.declared.item.Fixed.{Fixed}
use Rattle.desk_counter.specs.declared.ticketed_desk.TicketedDesk.{TicketedDesk}
use Rattle.desk_counter.specs.declared.counter.CounterOf.{CounterOf}
use Rattle.desk_counter.specs.Counters.{kept_by, IsPassOf}
use Rattle.desk_counter.specs.Items.{history_of, is_broke_last}
use Rattle.session_core.specs.declared.counters.CountersOf.{CountersOf}
use Rattle.session_core.specs.declared.counters.Passes.{Passes}

-- the passes
abbrev pub passes_in : {D : Type 0} → Passes D → List (Pass TurnItem (Fixed D))
passes_in passes = passes.passes.items

module _ {D : Type 0} where
  -- each desk is that of the user at its place
  abbrev pub AreDesksOf : List User → List (Fixed D) → Type 0
  AreDesksOf users fixeds = map (λ fixed. fixed.user) fixeds ≡ map profile_of users

  -- What the pass at a desk has seen is a legal history of its user, and an entry in flight stands
  -- last. He and his history are of the schema, and he is served only where he is admitted.
  pub record HasSeenLegal (fixed : Fixed D) (pass : Pass TurnItem (Fixed D)) : Type 0 where
    pub valid : is_valid_schema fixed.schema ≡ true
    pub user_of : is_user_of fixed.schema fixed.user ≡ true
    pub admits : is_open fixed.standing ≡ true → admitted fixed.schema fixed.world fixed.user ≡ true
    pub legal : IsLegal fixed.schema fixed.world fixed.user (history_of (seen pass))
    pub sentences : is_history_of fixed.schema (history_of (seen pass)) ≡ true
    pub last : is_broke_last (seen pass) ≡ true

  -- what each pass has seen is legal
  abbrev pub HaveSeenLegal : List (Fixed D) → List (Pass TurnItem (Fixed D)) → Type 0
  HaveSeenLegal fixeds passes = AllZip HasSeenLegal fixeds passes

  -- what each pass has seen hides, where its user is admitted
  abbrev pub EachHides : List (Fixed D) → List (Pass TurnItem (Fixed D)) → Type 0
  EachHides fixeds passes =
      AllZip (λ fixed pass. admitted fixed.schema fixed.world fixed.user ≡ true
      → Hides fixed.schema fixed.world fixed.user (history_of (seen pass))) fixeds passes

module _ {V I F : Type 0} {h : _} where
  -- the counters, of any value
  abbrev pub counters_in : CountersOf V I F h → List (CounterOf V I F h)
  counters_in counters = counters.counters.items

  -- the users, in order
  abbrev pub users_of : CountersOf V I F h → List User
  users_of counters = counters.users.now

module _ {D : Type 0} {g h : _} where
  -- a pass at each counter, in order
  abbrev pub ArePasses : List (Pass TurnItem (Fixed D))
      → List (CounterOf (TicketedDesk D g) TurnItem (Fixed D) h) → Type 0
  ArePasses [] [] = Unit {0}
  ArePasses (pass ∷ passes) (counter ∷ counters) = IsPassOf pass counter × ArePasses passes counters
  ArePasses passes counters = ⊥

  -- what no turn changes of each user's desk
  abbrev pub fixeds_of : CountersOf (TicketedDesk D g) TurnItem (Fixed D) h → List (Fixed D)
  fixeds_of counters = map kept_by counters.counters.items

  -- the passes are at these counters, and what each has seen is legal
  pub record ArePassesOf (passes : Passes D)
      (counters : CountersOf (TicketedDesk D g) TurnItem (Fixed D) h) : Type 0 where
    pub are : ArePasses (passes_in passes) counters.counters.items
    pub legal : HaveSeenLegal (fixeds_of counters) (passes_in passes)

  -- A pass was split: one has the rest, and the other one share.
  pub record IsSplit (counter : CounterOf (TicketedDesk D g) TurnItem (Fixed D) h)
      (old new part : Pass TurnItem (Fixed D)) : Type 0 where
    pub rest_is : IsPassOf new counter
    pub rest : view_of new ≡ remaining_view (view_of old)
    pub part_is : IsPassOf part counter
    pub part_view : view_of part ≡ split_off_view (view_of old)
    pub mine_is : mine part ≡ []

  -- all were
  abbrev pub AreSplit : List (CounterOf (TicketedDesk D g) TurnItem (Fixed D) h)
      → List (Pass TurnItem (Fixed D)) → List (Pass TurnItem (Fixed D))
      → List (Pass TurnItem (Fixed D))
      → Type 0
  AreSplit [] [] [] [] = Unit {0}
  AreSplit (counter ∷ counters) (old ∷ olds) (new ∷ news) (part ∷ parts) =
      IsSplit counter old new part × AreSplit counters olds news parts
  AreSplit counters olds news parts = ⊥

  -- Two passes met: each had seen a beginning of what both have seen, and the pairs of the new
  -- one's own are those of both, put together with each in its order.
  pub record IsMet (counter : CounterOf (TicketedDesk D g) TurnItem (Fixed D) h)
      (old other new : Pass TurnItem (Fixed D)) : Type 0 where
    pub pass_is : IsPassOf new counter
    pub view : view_of new ≡ view_of_both (view_of old) (view_of other)
    pub this : IsPrefix (seen old) (seen new)
    pub that : IsPrefix (seen other) (seen new)
    pub mine_is : Interleaves (mine old) (mine other) (mine new)

  -- all did
  abbrev pub AreMet : List (CounterOf (TicketedDesk D g) TurnItem (Fixed D) h)
      → List (Pass TurnItem (Fixed D)) → List (Pass TurnItem (Fixed D))
      → List (Pass TurnItem (Fixed D))
      → Type 0
  AreMet [] [] [] [] = Unit {0}
  AreMet (counter ∷ counters) (old ∷ olds) (other ∷ others) (new ∷ news) =
      IsMet counter old other new × AreMet counters olds others news
  AreMet counters olds others news = ⊥

-- a pass can be split
abbrev pub CanSplit : {D : Type 0} → Pass TurnItem (Fixed D) → Type 0
CanSplit pass = (2 ≤ shares pass) × (2 ^ 57 ≤ turns pass)
