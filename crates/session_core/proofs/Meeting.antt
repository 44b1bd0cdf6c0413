-- Passes at all counters that are split and met, one counter after the other.
use Rattle.std.proofs.Common.{◌≡◌, ℕ, zero, suc, ◌<◌, List, [], ◌∷◌, ◌++◌, length, get_or, refl, sym, ap, ◌∙◌, subst, append_assoc, arith}
use Rattle.std.specs.Prelude.{slice_set, Result, Ok, Err, IsOk, IfErr}
use Rattle.turnstile.specs.declared.pass.Pass.{Pass}
use Rattle.desk_counter.specs.declared.item.TurnItem.{TurnItem}
use Rattle.desk_counter.specs.declared.item.Fixed.{Fixed}
use Rattle.desk_counter.specs.declared.ticketed_desk.TicketedDesk.{TicketedDesk}
use Rattle.desk_counter.specs.declared.counter.CounterOf.{CounterOf}
use Rattle.std.proofs.lemmas.List.{length-append}
use Rattle.session_core.proofs.Passing.{passes_many}
use Rattle.session_core.specs.Members.{ArePasses, IsSplit, AreSplit, IsMet, AreMet}

-- the item behind the first of a list
pub item_behind : {X : Type 0} (first : List X) (x : X) (behind all : List X) (d : X) → all ≡ first ++ x ∷ behind → get_or all (length first) d ≡ x
item_behind {X = X} first x behind all d is = ap (λ l. get_or l (length first) d) is ∙ there first
  where
    there : (first : List X) → get_or (first ++ x ∷ behind) (length first) d ≡ x
    there [] = refl
    there (y ∷ first) = there first

-- a result that refuses only where it can't is one
pub ok_unless : {T E : Type 0} (result : Result T E) {P : E → Type 0} → IfErr result P → ((e : E) → P e → ⊥) → IsOk result
ok_unless (Ok value) refuses never = refl
ok_unless (Err e) refuses never = absurd (never e refuses)

module _ {D : Type 0} {g h : _} where
  -- All passes from a place on have met; those before it are as they were.
  abbrev pub MetFrom : ℕ → List (CounterOf (TicketedDesk D g) TurnItem (Fixed D) h) → List (Pass TurnItem (Fixed D)) → List (Pass TurnItem (Fixed D))
      → List (Pass TurnItem (Fixed D)) → Type 0
  MetFrom zero counters olds others news = AreMet counters olds others news
  MetFrom (suc place) [] [] [] [] = Unit {0}
  MetFrom (suc place) (c ∷ counters) (o ∷ olds) (t ∷ others) (m ∷ news) = (m ≡ o) × MetFrom place counters olds others news
  MetFrom (suc place) counters olds others news = ⊥

  pub met_none : (counters : List (CounterOf (TicketedDesk D g) TurnItem (Fixed D) h)) (olds others : List (Pass TurnItem (Fixed D))) → ArePasses olds counters
      → ArePasses others counters → MetFrom (length others) counters olds others olds
  met_none [] [] [] these those = tt
  met_none (c ∷ counters) (o ∷ olds) (t ∷ others) these those = (refl, met_none counters olds others these.1 those.1)
  met_none [] (o ∷ olds) others these those = absurd these
  met_none [] [] (t ∷ others) these those = absurd those
  met_none (c ∷ counters) [] others these those = absurd these
  met_none (c ∷ counters) (o ∷ olds) [] these those = absurd those

  -- the pass before the place is as it was
  pub met_here : (place : ℕ) (counters : List (CounterOf (TicketedDesk D g) TurnItem (Fixed D) h)) (olds others news : List (Pass TurnItem (Fixed D)))
      (d : Pass TurnItem (Fixed D)) → place < length counters → MetFrom (suc place) counters olds others news → get_or news place d ≡ get_or olds place d
  met_here place [] olds others news d low met = absurd (omega (arith, low))
  met_here zero (c ∷ counters) (o ∷ olds) (t ∷ others) (m ∷ news) d low met = met.0
  met_here (suc place) (c ∷ counters) (o ∷ olds) (t ∷ others) (m ∷ news) d low met = met_here place counters olds others news d (omega (arith, low)) met.1
  met_here place (c ∷ counters) [] others news d low met = absurd met
  met_here place (c ∷ counters) (o ∷ olds) [] news d low met = absurd met
  met_here place (c ∷ counters) (o ∷ olds) (t ∷ others) [] d low met = absurd met

  pub met_many : (place : ℕ) (counters : List (CounterOf (TicketedDesk D g) TurnItem (Fixed D) h)) (olds others news : List (Pass TurnItem (Fixed D)))
      → MetFrom (suc place) counters olds others news → (length news ≡ length counters) × (length olds ≡ length counters)
  met_many place [] [] [] [] met = (refl, refl)
  met_many zero (c ∷ counters) (o ∷ olds) (t ∷ others) (m ∷ news) met = let rest = are_many counters olds others news met.1 in (ap suc rest.0, ap suc rest.1)
    where
      are_many : (counters : List (CounterOf (TicketedDesk D g) TurnItem (Fixed D) h)) (olds others news : List (Pass TurnItem (Fixed D)))
          → AreMet counters olds others news → (length news ≡ length counters) × (length olds ≡ length counters)
      are_many [] [] [] [] met = (refl, refl)
      are_many (c ∷ counters) (o ∷ olds) (t ∷ others) (m ∷ news) met = let rest = are_many counters olds others news met.1 in (ap suc rest.0, ap suc rest.1)
      are_many [] [] [] (m ∷ news) met = absurd met
      are_many [] [] (t ∷ others) news met = absurd met
      are_many [] (o ∷ olds) others news met = absurd met
      are_many (c ∷ counters) [] others news met = absurd met
      are_many (c ∷ counters) (o ∷ olds) [] news met = absurd met
      are_many (c ∷ counters) (o ∷ olds) (t ∷ others) [] met = absurd met
  met_many (suc place) (c ∷ counters) (o ∷ olds) (t ∷ others) (m ∷ news) met =
      let rest = met_many place counters olds others news met.1 in (ap suc rest.0, ap suc rest.1)
  met_many place [] [] [] (m ∷ news) met = absurd met
  met_many place [] [] (t ∷ others) news met = absurd met
  met_many place [] (o ∷ olds) others news met = absurd met
  met_many place (c ∷ counters) [] others news met = absurd met
  met_many place (c ∷ counters) (o ∷ olds) [] news met = absurd met
  met_many place (c ∷ counters) (o ∷ olds) (t ∷ others) [] met = absurd met

  -- The next pass to meet, at its place.
  pub record Next (counters : List (CounterOf (TicketedDesk D g) TurnItem (Fixed D) h)) (olds all news : List (Pass TurnItem (Fixed D)))
      (other : Pass TurnItem (Fixed D))
      (place : ℕ) : Type 0 where
    pub low : place < length counters
    pub many : length news ≡ length counters
    pub here : (d : Pass TurnItem (Fixed D)) → get_or news place d ≡ get_or olds place d
    pub there : (d : Pass TurnItem (Fixed D)) → get_or all place d ≡ other
    pub met : MetFrom (suc place) counters olds all news

  pub met_next : (counters : List (CounterOf (TicketedDesk D g) TurnItem (Fixed D) h)) (olds all news left left' behind : List (Pass TurnItem (Fixed D)))
      (other : Pass TurnItem (Fixed D)) (place : ℕ)
      → all ≡ left ++ behind → left ≡ left' ++ other ∷ [] → place ≡ length left' → MetFrom (length left) counters olds all news → ArePasses all counters
      → Next counters olds all news other place
  met_next counters olds all news left left' behind other place whole cut at met those =
      let split : all ≡ left' ++ other ∷ behind = whole ∙ ap (λ l. l ++ behind) cut ∙ append_assoc left' (other ∷ []) behind in
      let long = ap length split ∙ length-append left' (other ∷ behind) in
      let low : place < length counters = omega (arith, at, long, passes_many all counters those) in
      let longer = ap length cut ∙ length-append left' (other ∷ []) in
      let next : length left ≡ suc place = omega (arith, at, longer) in
      let on = subst (λ n. MetFrom n counters olds all news) next met in
      record {
        low = low;
        many = (met_many place counters olds all news on).0;
        here = λ d. met_here place counters olds all news d low on;
        there = λ d. ap (λ n. get_or all n d) at ∙ item_behind left' other behind all d split;
        met = on;
      }

  -- one more met
  pub met_more : (place : ℕ) (counters : List (CounterOf (TicketedDesk D g) TurnItem (Fixed D) h)) (olds others news : List (Pass TurnItem (Fixed D)))
      (c : CounterOf (TicketedDesk D g) TurnItem (Fixed D) h) (o t new : Pass TurnItem (Fixed D)) → place < length counters
      → MetFrom (suc place) counters olds others news → IsMet (get_or counters place c) (get_or olds place o) (get_or others place t) new
      → MetFrom place counters olds others (slice_set news place new)
  met_more place [] olds others news c o t new low met one = absurd (omega (arith, low))
  met_more zero (c' ∷ counters) (o' ∷ olds) (t' ∷ others) (m ∷ news) c o t new low met one = (one, met.1)
  met_more (suc place) (c' ∷ counters) (o' ∷ olds) (t' ∷ others) (m ∷ news) c o t new low met one =
      (met.0, met_more place counters olds others news c o t new (omega (arith, low)) met.1 one)
  met_more place (c' ∷ counters) [] others news c o t new low met one = absurd met
  met_more place (c' ∷ counters) (o' ∷ olds) [] news c o t new low met one = absurd met
  met_more place (c' ∷ counters) (o' ∷ olds) (t' ∷ others) [] c o t new low met one = absurd met

  -- The passes before a place were split; those from it on are as they were.
  abbrev pub SplitBelow : ℕ → List (CounterOf (TicketedDesk D g) TurnItem (Fixed D) h) → List (Pass TurnItem (Fixed D)) → List (Pass TurnItem (Fixed D))
      → List (Pass TurnItem (Fixed D)) → Type 0
  SplitBelow zero counters olds news parts = (news ≡ olds) × (parts ≡ [])
  SplitBelow (suc place) (c ∷ counters) (o ∷ olds) (m ∷ news) (p ∷ parts) = IsSplit c o m p × SplitBelow place counters olds news parts
  SplitBelow (suc place) counters olds news parts = ⊥

  -- the pass at the place is as it was
  pub split_here : (place : ℕ) (counters : List (CounterOf (TicketedDesk D g) TurnItem (Fixed D) h)) (olds news parts : List (Pass TurnItem (Fixed D)))
      (d : Pass TurnItem (Fixed D)) → SplitBelow place counters olds news parts → get_or news place d ≡ get_or olds place d
  split_here zero counters olds news parts d split = ap (λ l. get_or l 0 d) split.0
  split_here (suc place) (c ∷ counters) (o ∷ olds) (m ∷ news) (p ∷ parts) d split = split_here place counters olds news parts d split.1
  split_here (suc place) [] olds news parts d split = absurd split
  split_here (suc place) (c ∷ counters) [] news parts d split = absurd split
  split_here (suc place) (c ∷ counters) (o ∷ olds) [] parts d split = absurd split
  split_here (suc place) (c ∷ counters) (o ∷ olds) (m ∷ news) [] d split = absurd split

  pub split_lengths : (place : ℕ) (counters : List (CounterOf (TicketedDesk D g) TurnItem (Fixed D) h)) (olds news parts : List (Pass TurnItem (Fixed D)))
      → SplitBelow place counters olds news parts → (length news ≡ length olds) × (length parts ≡ place)
  split_lengths zero counters olds news parts split = (ap length split.0, ap length split.1)
  split_lengths (suc place) (c ∷ counters) (o ∷ olds) (m ∷ news) (p ∷ parts) split =
      let deep = split_lengths place counters olds news parts split.1 in (ap suc deep.0, ap suc deep.1)
  split_lengths (suc place) [] olds news parts split = absurd split
  split_lengths (suc place) (c ∷ counters) [] news parts split = absurd split
  split_lengths (suc place) (c ∷ counters) (o ∷ olds) [] parts split = absurd split
  split_lengths (suc place) (c ∷ counters) (o ∷ olds) (m ∷ news) [] split = absurd split

  -- one more was split
  pub split_more : (place : ℕ) (counters : List (CounterOf (TicketedDesk D g) TurnItem (Fixed D) h)) (olds news parts : List (Pass TurnItem (Fixed D)))
      (c : CounterOf (TicketedDesk D g) TurnItem (Fixed D) h) (o new part : Pass TurnItem (Fixed D)) → place < length counters → length olds ≡ length counters
      → SplitBelow place counters olds news parts → IsSplit (get_or counters place c) (get_or olds place o) new part
      → SplitBelow (suc place) counters olds (slice_set news place new) (parts ++ part ∷ [])
  split_more zero [] olds news parts c o new part low many split one = absurd (omega (arith, low))
  split_more zero (c' ∷ counters) [] news parts c o new part low many split one = absurd (omega (arith, many))
  split_more zero (c' ∷ counters) (o' ∷ olds) news parts c o new part low many split one =
      subst (λ ns. SplitBelow 1 (c' ∷ counters) (o' ∷ olds) (slice_set ns 0 new) (parts ++ part ∷ [])) (sym split.0)
      (subst (λ ps. SplitBelow 1 (c' ∷ counters) (o' ∷ olds) (new ∷ olds) (ps ++ part ∷ [])) (sym split.1) (one, (refl, refl)))
  split_more (suc place) (c' ∷ counters) (o' ∷ olds) (m ∷ news) (p ∷ parts) c o new part low many split one =
      (split.0, split_more place counters olds news parts c o new part (omega (arith, low)) (omega (arith, many)) split.1 one)
  split_more (suc place) [] olds news parts c o new part low many split one = absurd split
  split_more (suc place) (c' ∷ counters) [] news parts c o new part low many split one = absurd split
  split_more (suc place) (c' ∷ counters) (o' ∷ olds) [] parts c o new part low many split one = absurd split
  split_more (suc place) (c' ∷ counters) (o' ∷ olds) (m ∷ news) [] c o new part low many split one = absurd split

  -- all were
  pub split_all : (place : ℕ) (counters : List (CounterOf (TicketedDesk D g) TurnItem (Fixed D) h)) (olds news parts : List (Pass TurnItem (Fixed D)))
      → place ≡ length counters → length olds ≡ length counters → SplitBelow place counters olds news parts → AreSplit counters olds news parts
  split_all zero [] [] news parts is many split =
      subst (λ ns. AreSplit {g = g} {h = h} [] [] ns parts) (sym split.0) (subst (λ ps. AreSplit {g = g} {h = h} [] [] [] ps) (sym split.1) tt)
  split_all zero [] (o ∷ olds) news parts is many split = absurd (omega (arith, many))
  split_all zero (c ∷ counters) olds news parts is many split = absurd (omega (arith, is))
  split_all (suc place) (c ∷ counters) (o ∷ olds) (m ∷ news) (p ∷ parts) is many split =
      (split.0, split_all place counters olds news parts (omega (arith, is)) (omega (arith, many)) split.1)
  split_all (suc place) [] olds news parts is many split = absurd split
  split_all (suc place) (c ∷ counters) [] news parts is many split = absurd split
  split_all (suc place) (c ∷ counters) (o ∷ olds) [] parts is many split = absurd split
  split_all (suc place) (c ∷ counters) (o ∷ olds) (m ∷ news) [] is many split = absurd split
