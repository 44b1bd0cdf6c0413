-- What a pass knows, and how the steps change it.
use Rattle.std.specs.Prelude.{◌≡◌, ℕ, ◌+◌, ◌-◌, ◌*◌, ◌^◌, ltb, ◌&&◌, Bool, true, false, List, []}
use Rattle.std.specs.Prelude.{◌∷◌, ◌++◌, Option, Some, None}
use Rattle.turnstile.specs.declared.view.View.{View}
use Rattle.turnstile.specs.declared.view.Known.{Known}
use Rattle.turnstile.specs.declared.view.Stage.{Stage}
use Rattle.turnstile.specs.declared.view.Stage.TheVariants.{Outside, Waiting, Inside}
use Rattle.turnstile.specs.History.{Entries, count_of, OnceBetween, IsPrefix, IsRising}
use Rattle.turnstile.specs.History.{entries_with, longer}

-- the tickets that a pass at this stage holds, one at most
abbrev pub tickets_at : Stage → List ℕ
tickets_at Outside = []
tickets_at (Waiting ticket) = ticket ∷ []
tickets_at (Inside ticket) = ticket ∷ []

-- whether a pass at this stage holds no ticket
abbrev pub is_outside : Stage → Bool
is_outside Outside = true
is_outside (Waiting ticket) = false
is_outside (Inside ticket) = false

module _ {I F : Type 0} where
  -- each of these lists begins the entries, and has all their pairs with its tickets
  abbrev pub AllKnown : Entries I → List (Known I F) → Type 0
  AllKnown entries [] = Unit {0}
  AllKnown entries (k ∷ ks) =
      (IsPrefix k.seen entries × (entries_with k.drawn entries ≡ entries_with k.drawn k.seen))
      × AllKnown entries ks

  -- each had this as what no turn changes
  abbrev pub AllFixed : Option F → List (Known I F) → Type 0
  AllFixed fixed [] = Unit {0}
  AllFixed fixed (k ∷ ks) = (k.fixed ≡ fixed) × AllFixed fixed ks

  -- the tickets that a view holds, one at most
  abbrev pub held_tickets : View I F → List ℕ
  held_tickets v = tickets_at v.stage

  -- what is left of a view that was joined to another
  abbrev pub spent_view : View I F
  spent_view = record {
    stage = Outside;
    seen = [];
    drawn = [];
    fixed = None;
    shares = 0;
    turns =
        0;
    joined = [];
  }

  -- the first view: all shares and all turns
  abbrev pub opening_view : Entries I → F → View I F
  opening_view entries fixed =
      record {
        stage = Outside;
        seen = entries;
        drawn = [];
        fixed = Some fixed;
        shares = 65;
        turns =
            65 * 2 ^ 57;
        joined = [];
      }

  -- a turn fewer, and the ticket drawn
  abbrev pub waiting_view : View I F → ℕ → View I F
  waiting_view v ticket =
      record v {
        stage = Waiting ticket;
        drawn = v.drawn ++ ticket ∷ [];
        turns =
            v.turns - 1;
        joined = [];
      }

  -- the ticket is served, and all entries were seen
  abbrev pub inside_view : View I F → ℕ → Entries I → View I F
  inside_view v ticket entries = record v { stage = Inside ticket; seen = entries; joined = [] }

  -- in a turn: the ticket was drawn and is served
  abbrev pub turn_view : View I F → ℕ → Entries I → View I F
  turn_view v ticket entries = inside_view (waiting_view v ticket) ticket entries

  -- the ticket is spent, and all entries were seen
  abbrev pub outside_view : View I F → Entries I → View I F
  outside_view v entries = record v { stage = Outside; seen = entries; joined = [] }

  -- one share and 2^57 turns fewer
  abbrev pub remaining_view : View I F → View I F
  remaining_view v = record v { shares = v.shares - 1; turns = v.turns - 2 ^ 57; joined = [] }

  -- a new view with the share and the turns, which has seen as much
  abbrev pub split_off_view : View I F → View I F
  split_off_view v =
      record {
        stage = Outside;
        seen = v.seen;
        drawn = [];
        fixed = v.fixed;
        shares = 1;
        turns =
            2 ^ 57;
        joined = [];
      }

  -- both shares, turns and tickets, and the longer list
  abbrev pub view_of_both : View I F → View I F → View I F
  view_of_both v w =
      record v {
        seen = longer v.seen w.seen;
        drawn = v.drawn ++ w.drawn;
        shares =
            v.shares + w.shares;
        turns = v.turns + w.turns;
        joined = [];
      }

  -- what a view has seen, the tickets that it drew, and what no turn changes
  abbrev pub known_by : View I F → Known I F
  known_by v = record { seen = v.seen; drawn = v.drawn; fixed = v.fixed }

  -- both together, with what each knew
  abbrev pub joined_view : View I F → View I F → View I F
  joined_view v w = record (view_of_both v w) { joined = known_by v ∷ known_by w ∷ [] }

  -- without what each knew
  abbrev pub compared_view : View I F → View I F
  compared_view v = record v { joined = [] }

  -- the view drew every ticket from 1 on, each once, up to that of the latest entry and beyond
  abbrev pub DrewEachOnce : View I F → Type 0
  DrewEachOnce v =
      (next : ℕ) × OnceBetween 1 next (λ x. count_of x v.drawn) × IsRising 0 next v.seen

  -- the shares of the view, or none where it is away
  abbrev pub shares_in : List (View I F) → ℕ
  shares_in [] = 0
  shares_in (v ∷ vs) = v.shares

  -- whether the view, if it isn't away, holds no ticket and has a share
  abbrev pub is_idle : List (View I F) → Bool
  is_idle [] = true
  is_idle (v ∷ vs) = is_outside v.stage && ltb 0 v.shares
