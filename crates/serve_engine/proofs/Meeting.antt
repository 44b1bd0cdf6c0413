-- Passes at all counters that are split off for workers, and meet again.
use Rattle.std.proofs.Common.{◌≡◌, ℕ, ◌≤◌, ◌+◌, ◌-◌, ◌^◌, List, [], ◌∷◌, ◌++◌, sym, ap, ◌∙◌, append_assoc, append-nil, arith}
use Rattle.std.specs.List.{AllByRecursion, AllZip}
use Rattle.turnstile.specs.declared.view.View.{View}
use Rattle.turnstile.specs.declared.pass.Pass.{Pass}
use Rattle.turnstile.specs.Passes.{seen, shares, turns}
use Rattle.desk_counter.specs.declared.item.TurnItem.{TurnItem}
use Rattle.desk_counter.specs.declared.item.Fixed.{Fixed}
use Rattle.desk_counter.specs.declared.ticketed_desk.TicketedDesk.{TicketedDesk}
use Rattle.desk_counter.specs.declared.counter.CounterOf.{CounterOf}
use Rattle.session_core.specs.Members.{AreSplit, AreMet, CanSplit}
use Rattle.serve_engine.specs.Keeping.{same_passes}
use Rattle.serve_engine.proofs.Later.{SeesMore, sees_more}

module _ {D : Type 0} where
  -- passes have seen what they have
  pub on_same : (passes : List (Pass TurnItem (Fixed D))) → AllZip SeesMore passes passes
  on_same passes = sees_more passes passes (same_passes passes)

  -- and what those have that have seen less than they
  pub on_then : (xs ys zs : List (Pass TurnItem (Fixed D))) → AllZip SeesMore xs ys → AllZip SeesMore ys zs → AllZip SeesMore xs zs
  on_then [] [] [] first second = tt
  on_then (x ∷ xs) (y ∷ ys) (z ∷ zs) first second = (
    (first.0.0 ++ second.0.0, second.0.1 ∙ ap (λ s. s ++ second.0.0) first.0.1 ∙ append_assoc (seen x) first.0.0 second.0.0),
    on_then xs ys zs first.1 second.1,
  )
  on_then [] [] (z ∷ zs) first second = absurd second
  on_then [] (y ∷ ys) zs first second = absurd first
  on_then (x ∷ xs) [] zs first second = absurd first
  on_then (x ∷ xs) (y ∷ ys) [] first second = absurd second

  -- each pass has so many shares
  abbrev pub AllHave : ℕ → List (Pass TurnItem (Fixed D)) → Type 0
  AllHave count passes = AllByRecursion (λ pass. shares pass ≡ count) passes

  -- each pass has at least so many turns
  abbrev pub AllMay : ℕ → List (Pass TurnItem (Fixed D)) → Type 0
  AllMay count passes = AllByRecursion (λ pass. count ≤ turns pass) passes

  -- passes with shares and turns enough can be split
  pub can_split : (passes : List (Pass TurnItem (Fixed D))) (n t : ℕ) → 2 ≤ n → 2 ^ 57 ≤ t → AllHave n passes → AllMay t passes → AllByRecursion CanSplit passes
  can_split [] n t some enough have may = tt
  can_split (p ∷ passes) n t some enough have may = ((omega (arith, some, have.0), omega (arith, enough, may.0)), can_split passes n t some enough have.1 may.1)

module _ {D : Type 0} {g h : _} where
  -- Passes that met: both have seen no more than the new ones, which have the shares of both.
  pub record HaveMet (n m : ℕ) (counters : List (CounterOf (TicketedDesk D g) TurnItem (Fixed D) h)) (olds others news : List (Pass TurnItem (Fixed D))) : Type
      0 where
    pub on : AllZip SeesMore olds news
    pub those_on : AllZip SeesMore others news
    pub have : AllHave (n + m) news

  pub have_met : (n m : ℕ) (counters : List (CounterOf (TicketedDesk D g) TurnItem (Fixed D) h)) (olds others news : List (Pass TurnItem (Fixed D)))
      → AllHave n olds
      → AllHave m others → AreMet counters olds others news → HaveMet n m counters olds others news
  have_met n m [] [] [] [] first second met = record { on = tt; those_on = tt; have = tt }
  have_met n m (c ∷ counters) (o ∷ olds) (t ∷ others) (p ∷ news) first second met =
      let rest = have_met n m counters olds others news first.1 second.1 met.1 in
      let added : shares p ≡ shares o + shares t = ap (λ (v : View TurnItem (Fixed D)). v.shares) met.0.view in
      record {
        on = (met.0.this, rest.on);
        those_on = (met.0.that, rest.those_on);
        have = (omega (arith, added, first.0, second.0), rest.have);
      }
  have_met n m [] [] [] (p ∷ news) first second met = absurd met
  have_met n m [] [] (t ∷ others) news first second met = absurd met
  have_met n m [] (o ∷ olds) others news first second met = absurd met
  have_met n m (c ∷ counters) [] others news first second met = absurd met
  have_met n m (c ∷ counters) (o ∷ olds) [] news first second met = absurd met
  have_met n m (c ∷ counters) (o ∷ olds) (t ∷ others) [] first second met = absurd met

  -- Passes that were split: the rest has one share and 2^57 turns fewer, which the parts have; both have seen as much.
  pub record HaveSplit (n t : ℕ) (counters : List (CounterOf (TicketedDesk D g) TurnItem (Fixed D) h)) (olds news parts : List (Pass TurnItem (Fixed D))) :
      Type 0 where
    pub on : AllZip SeesMore olds news
    pub those_on : AllZip SeesMore olds parts
    pub have : AllHave (n - 1) news
    pub may : AllMay (t - 2 ^ 57) news
    pub parts_have : AllHave 1 parts
    pub parts_may : AllMay (2 ^ 57) parts

  pub have_split : (n t : ℕ) (counters : List (CounterOf (TicketedDesk D g) TurnItem (Fixed D) h)) (olds news parts : List (Pass TurnItem (Fixed D)))
      → AllHave n olds
      → AllMay t olds → AreSplit counters olds news parts → HaveSplit n t counters olds news parts
  have_split n t [] [] [] [] have may split = record { on = tt; those_on = tt; have = tt; may = tt; parts_have = tt; parts_may = tt }
  have_split n t (c ∷ counters) (o ∷ olds) (p ∷ news) (q ∷ parts) have may split =
      let rest = have_split n t counters olds news parts have.1 may.1 split.1 in
      let left : shares p ≡ shares o - 1 = ap (λ (v : View TurnItem (Fixed D)). v.shares) split.0.rest in
      let fewer : turns p ≡ turns o - 2 ^ 57 = ap (λ (v : View TurnItem (Fixed D)). v.turns) split.0.rest in
      let given : turns q ≡ 2 ^ 57 = ap (λ (v : View TurnItem (Fixed D)). v.turns) split.0.part_view in
      record {
        on = (([], ap (λ (v : View TurnItem (Fixed D)). v.seen) split.0.rest ∙ sym (append-nil (seen o))), rest.on);
        those_on = (([], ap (λ (v : View TurnItem (Fixed D)). v.seen) split.0.part_view ∙ sym (append-nil (seen o))), rest.those_on);
        have = (omega (arith, left, have.0), rest.have);
        may = (omega (arith, fewer, may.0), rest.may);
        parts_have = (ap (λ (v : View TurnItem (Fixed D)). v.shares) split.0.part_view, rest.parts_have);
        parts_may = (omega (arith, given), rest.parts_may);
      }
  have_split n t [] [] [] (q ∷ parts) have may split = absurd split
  have_split n t [] [] (p ∷ news) parts have may split = absurd split
  have_split n t [] (o ∷ olds) news parts have may split = absurd split
  have_split n t (c ∷ counters) [] news parts have may split = absurd split
  have_split n t (c ∷ counters) (o ∷ olds) [] parts have may split = absurd split
  have_split n t (c ∷ counters) (o ∷ olds) (p ∷ news) [] have may split = absurd split
