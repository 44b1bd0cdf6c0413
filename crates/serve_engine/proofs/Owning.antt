-- What passes have of their own: after a session, where they are split, and where they meet.
use Rattle.std.proofs.Common.{◌≡◌, ℕ, zero, suc, ◌+◌, Bool, List, [], ◌∷◌, ◌++◌, sum_by, inl, inr, refl, ap, ◌∙◌, arith}
use Rattle.std.specs.Prelude.{◌==◌, Option, Some, None, if◌then◌else◌}
use Rattle.std.proofs.Math.Dec.{eqb-zero-suc, eqb-suc-zero, eqb-suc-suc}
use Rattle.std.specs.List.{flat_map}
use Rattle.std.proofs.lemmas.List.Sums.{sum_by-append, sum_by-cons}
use Rattle.cqe_base.specs.Schema.{Text}
use Rattle.cqe_base.specs.History.{AnsweredQuery, History}
use Rattle.cqe_base.specs.Run.{Reply}
use Rattle.turnstile.specs.declared.view.View.{View}
use Rattle.turnstile.specs.declared.pass.Pass.{Pass}
use Rattle.turnstile.specs.History.{Entries, Interleaves, entries_with}
use Rattle.turnstile.specs.Passes.{mine}
use Rattle.desk_counter.specs.declared.item.TurnItem.{TurnItem}
use Rattle.desk_counter.specs.declared.item.Fixed.{Fixed}
use Rattle.desk_counter.specs.declared.ticketed_desk.TicketedDesk.{TicketedDesk}
use Rattle.desk_counter.specs.declared.counter.CounterOf.{CounterOf}
use Rattle.desk_counter.specs.Items.{items_of, items_with}
use Rattle.desk_counter.proofs.Pairs.{items_all}
use Rattle.session_core.specs.Desks.{AsksAt, AsksOf, here, further}
use Rattle.session_core.specs.Members.{AreSplit, AreMet}
use Rattle.serve_engine.specs.Served.{SessionMarks, items_told}
use Rattle.serve_engine.specs.Members.{own_at}

-- what the entries of several lists weigh together
weigh_flat : {I X : Type 0} (weight : I → ℕ) (entries : X → List I) (xs : List X)
    → sum_by weight (flat_map entries xs) ≡ sum_by (λ x. sum_by weight (entries x)) xs
weigh_flat weight entries [] = refl
weigh_flat weight entries (x ∷ xs) =
    let one = sum_by-append weight (entries x) (flat_map entries xs) in
    let rest = weigh_flat weight entries xs in
    let all = sum_by-cons (λ x. sum_by weight (entries x)) x xs in
    omega (arith, one, rest, all)

-- and behind others
pub weigh_more : {I X : Type 0} (weight : I → ℕ) (history : List I) (entries : X → List I) (xs : List X)
    → sum_by weight (history ++ flat_map entries xs) ≡ sum_by weight history + sum_by (λ x. sum_by weight (entries x)) xs
weigh_more weight history entries xs =
    sum_by-append weight history (flat_map entries xs) ∙ ap (λ n. sum_by weight history + n) (weigh_flat weight entries xs)

-- what the items weigh that connections told the user at a place
abbrev pub told_weight : (TurnItem → ℕ) → ℕ → List SessionMarks → ℕ
told_weight weight place told = sum_by (λ marks. sum_by weight (items_told place marks)) told

-- what they weigh for the user at a place, where the one at another is logged in
abbrev told_at : (TurnItem → ℕ) → ℕ → ℕ → List TurnItem → ℕ
told_at weight place other items = sum_by weight (if other == place then items else [])

module _ {D : Type 0} where
  -- what the items weigh that the pass at a place has of its own
  abbrev pub own_weight : (TurnItem → ℕ) → ℕ → List (Pass TurnItem (Fixed D)) → ℕ
  own_weight weight place passes = sum_by weight (own_at place passes)

  -- the entries of the marks of asks
  abbrev pub entries_at : {place : ℕ} {fixeds : List (Fixed D)} {old new : List (Pass TurnItem (Fixed D))} {asks : List (Text × Reply)}
      → AsksAt place fixeds old new asks → History
  entries_at (here is) = is.entries
  entries_at (further deep) = entries_at deep

  abbrev pub entries_of : (who : Option ℕ) (fixeds : List (Fixed D)) (old new : List (Pass TurnItem (Fixed D))) (asks : List (Text × Reply))
      → AsksOf who fixeds old new asks → History
  entries_of None fixeds old new asks is = []
  entries_of (Some place) fixeds old new asks is = entries_at is

  -- the entry of the append of one of them that failed, if one did
  abbrev pub flight_at : {place : ℕ} {fixeds : List (Fixed D)} {old new : List (Pass TurnItem (Fixed D))} {asks : List (Text × Reply)}
      → AsksAt place fixeds old new asks → Option AnsweredQuery
  flight_at (here is) = is.in_flight
  flight_at (further deep) = flight_at deep

  abbrev pub flight_of : (who : Option ℕ) (fixeds : List (Fixed D)) (old new : List (Pass TurnItem (Fixed D))) (asks : List (Text × Reply))
      → AsksOf who fixeds old new asks → Option AnsweredQuery
  flight_of None fixeds old new asks is = None
  flight_of (Some place) fixeds old new asks is = flight_at is

  -- both, as items
  abbrev items_at : {place : ℕ} {fixeds : List (Fixed D)} {old new : List (Pass TurnItem (Fixed D))} {asks : List (Text × Reply)}
      → AsksAt place fixeds old new asks → List TurnItem
  items_at is = items_with (entries_at is) (flight_at is)

  -- what a session comes to
  abbrev pub marks_of : (who : Option ℕ) (fixeds : List (Fixed D)) (old new : List (Pass TurnItem (Fixed D))) (asks : List (Text × Reply))
      → AsksOf who fixeds old new asks → SessionMarks
  marks_of who fixeds old new asks is =
      record { who = who; entries = entries_of who fixeds old new asks is; in_flight = flight_of who fixeds old new asks is }

  at_own : (weight : TurnItem → ℕ) (place : ℕ) {other : ℕ} {fixeds : List (Fixed D)} {old new : List (Pass TurnItem (Fixed D))}
      {asks : List (Text × Reply)}
      (is : AsksAt other fixeds old new asks)
      → own_weight weight place new ≡ own_weight weight place old + told_at weight place other (items_at is)
  at_own weight zero (here {old = p} is) = ap (sum_by weight) is.own ∙ sum_by-append weight (items_of (mine p)) (items_with is.entries is.in_flight)
  at_own weight (suc place) (here is) =
      let none = ap (λ (b : Bool). sum_by weight (if b then items_with is.entries is.in_flight else [])) (eqb-zero-suc place) in omega (arith, none)
  at_own weight zero (further {place =
      other} deep) = let none = ap (λ (b : Bool). sum_by weight (if b then items_at deep else [])) (eqb-suc-zero other) in omega (arith, none)
  at_own weight (suc place) (further {place = other} deep) =
      let same = ap (λ (b : Bool). sum_by weight (if b then items_at deep else [])) (eqb-suc-suc other place) in
      let rest = at_own weight place deep in
      omega (arith, same, rest)

  -- each pass has more of its own what the session told
  pub of_own : (weight : TurnItem → ℕ) (place : ℕ) (who : Option ℕ) (fixeds : List (Fixed D)) (old new : List (Pass TurnItem (Fixed D)))
      (asks : List (Text × Reply)) (is : AsksOf who fixeds old new asks)
      → own_weight weight place new ≡ own_weight weight place old + sum_by weight (items_told place (marks_of who fixeds old new asks is))
  of_own weight place None fixeds old new asks is = let same =
      ap (λ (ps : List (Pass TurnItem (Fixed D))). own_weight weight place ps) is.0 in omega (arith, same)
  of_own weight place (Some other) fixeds old new asks is = at_own weight place is

one_more : (weight : TurnItem → ℕ) (z : ℕ × TurnItem) (zs : Entries TurnItem)
    → sum_by weight (items_of (z ∷ zs)) ≡ sum_by weight (items_of (z ∷ [])) + sum_by weight (items_of zs)
one_more weight z zs = ap (sum_by weight) (items_all (z ∷ []) zs) ∙ sum_by-append weight (items_of (z ∷ [])) (items_of zs)

-- two lists of pairs that are put together weigh what both do
weigh_both : (weight : TurnItem → ℕ) (xs ys zs : Entries TurnItem) → Interleaves xs ys zs
    → sum_by weight (items_of zs) ≡ sum_by weight (items_of xs) + sum_by weight (items_of ys)
weigh_both weight xs ys [] both =
    let first = ap (λ ps. sum_by weight (items_of ps)) both.0 in
    let second = ap (λ ps. sum_by weight (items_of ps)) both.1 in
    omega (arith, first, second)
weigh_both weight xs ys (z ∷ zs) (inl this) =
    let rest = weigh_both weight this.0 ys zs this.2 in
    let first = ap (λ ps. sum_by weight (items_of ps)) this.1 in
    let one = one_more weight z this.0 in
    let all = one_more weight z zs in
    omega (arith, rest, first, one, all)
weigh_both weight xs ys (z ∷ zs) (inr that) =
    let rest = weigh_both weight xs that.0 zs that.2 in
    let second = ap (λ ps. sum_by weight (items_of ps)) that.1 in
    let one = one_more weight z that.0 in
    let all = one_more weight z zs in
    omega (arith, rest, second, one, all)

module _ {D : Type 0} {g h : _} where
  -- passes that met have of their own what both had
  pub own_met : (weight : TurnItem → ℕ) (place : ℕ) (counters : List (CounterOf (TicketedDesk D g) TurnItem (Fixed D) h))
      (olds others news : List (Pass TurnItem (Fixed D))) → AreMet counters olds others news
      → own_weight weight place news ≡ own_weight weight place olds + own_weight weight place others
  own_met weight place [] [] [] [] met = refl
  own_met weight zero (c ∷ counters) (o ∷ olds) (t ∷ others) (p ∷ news) met = weigh_both weight (mine o) (mine t) (mine p) met.0.mine_is
  own_met weight (suc place) (c ∷ counters) (o ∷ olds) (t ∷ others) (p ∷ news) met = own_met weight place counters olds others news met.1
  own_met weight place [] [] [] (p ∷ news) met = absurd met
  own_met weight place [] [] (t ∷ others) news met = absurd met
  own_met weight place [] (o ∷ olds) others news met = absurd met
  own_met weight place (c ∷ counters) [] others news met = absurd met
  own_met weight place (c ∷ counters) (o ∷ olds) [] news met = absurd met
  own_met weight place (c ∷ counters) (o ∷ olds) (t ∷ others) [] met = absurd met

  -- where passes were split, the rest has of its own what they had, and the parts have nothing
  pub own_split : (place : ℕ) (counters : List (CounterOf (TicketedDesk D g) TurnItem (Fixed D) h)) (olds news parts : List (Pass TurnItem (Fixed D)))
      → AreSplit counters olds news parts
      → (own_at place news ≡ own_at place olds) × (own_at place parts ≡ [])
  own_split place [] [] [] [] split = (refl, refl)
  own_split zero (c ∷ counters) (o ∷ olds) (p ∷ news) (q ∷ parts) split = (
    ap (λ (v : View TurnItem (Fixed D)). items_of (entries_with v.drawn v.seen)) split.0.rest,
    ap (λ ps. items_of ps) split.0.mine_is,
  )
  own_split (suc place) (c ∷ counters) (o ∷ olds) (p ∷ news) (q ∷ parts) split = own_split place counters olds news parts split.1
  own_split place [] [] [] (q ∷ parts) split = absurd split
  own_split place [] [] (p ∷ news) parts split = absurd split
  own_split place [] (o ∷ olds) news parts split = absurd split
  own_split place (c ∷ counters) [] news parts split = absurd split
  own_split place (c ∷ counters) (o ∷ olds) [] parts split = absurd split
  own_split place (c ∷ counters) (o ∷ olds) (p ∷ news) [] split = absurd split
