-- What a worker keeps of his passes, place by place and as a whole.
use Rattle.std.proofs.Common.{◌≡◌, ℕ, zero, suc, ◌≤◌, ◌<◌, List, [], ◌∷◌, map, length, sym, ap, ◌∙◌, subst, arith}
use Rattle.std.specs.Prelude.{Option, Some, None, All, slice_index_or}
use Rattle.turnstile.specs.declared.pass.Pass.{Pass}
use Rattle.turnstile.specs.Passes.{seen}
use Rattle.desk_counter.specs.declared.item.TurnItem.{TurnItem}
use Rattle.desk_counter.specs.declared.item.Fixed.{Fixed}
use Rattle.desk_counter.specs.declared.ticketed_desk.TicketedDesk.{TicketedDesk}
use Rattle.desk_counter.specs.declared.counter.CounterOf.{CounterOf}
use Rattle.desk_counter.specs.Items.{history_of}
use Rattle.desk_counter.specs.Tickets.{fixed_in}
use Rattle.desk_counter.specs.Counters.{kept_by}
use Rattle.desk_counter.specs.Shared.{IsPassBy}
use Rattle.session_core.specs.Members.{HasSeenLegal, HaveSeenLegal, ArePasses}
use Rattle.serve_engine.specs.Held.{AtEach, HasSeenOpening, SeesLegally}
use Rattle.serve_engine.specs.Members.{HaveSeenOpenings}

-- the value of an option, or this one
abbrev some_or : {X : Type 0} → X → Option X → X
some_or x None = x
some_or x (Some y) = y

module _ {D : Type 0} {g h : _} where
  -- the passes are at the counters where each is
  pub are_passes : (passes : List (Pass TurnItem (Fixed D))) (counters : List (CounterOf (TicketedDesk D g) TurnItem (Fixed D) h)) → length passes
      ≡ length counters
      → AtEach fixed_in passes counters → ArePasses passes counters
  are_passes [] [] many each = tt
  are_passes [] (c ∷ counters) many each = absurd (omega (arith, many))
  are_passes (p ∷ passes) [] many each = absurd (omega (arith, many))
  are_passes (p ∷ passes) (c ∷ counters) many each =
      let this = each 0 p c (omega arith) in (
        record { place = this.0; ready = this.1; kept = this.2 },
        are_passes passes counters (omega (arith, many)) (λ k pass counter low. each (suc k) pass counter (omega (arith, low))),
      )

  -- and each is where they are
  pub at_each : (passes : List (Pass TurnItem (Fixed D))) (counters : List (CounterOf (TicketedDesk D g) TurnItem (Fixed D) h)) → ArePasses passes counters
      → (k : ℕ) (pass : Pass TurnItem (Fixed D)) (counter : CounterOf (TicketedDesk D g) TurnItem (Fixed D) h) → k < length passes
      → IsPassBy fixed_in (slice_index_or passes k pass) (slice_index_or counters k counter)
  at_each [] [] are k pass counter low = absurd (omega (arith, low))
  at_each (p ∷ passes) (c ∷ counters) are zero pass counter low = (are.0.place, are.0.ready, are.0.kept)
  at_each (p ∷ passes) (c ∷ counters) are (suc k) pass counter low = at_each passes counters are.1 k pass counter (omega (arith, low))
  at_each [] (c ∷ counters) are k pass counter low = absurd are
  at_each (p ∷ passes) [] are k pass counter low = absurd are

  -- each pass has seen the opening of its desk where they have
  pub each_opened : (passes : List (Pass TurnItem (Fixed D))) (counters : List (CounterOf (TicketedDesk D g) TurnItem (Fixed D) h)) → ArePasses passes counters
      → HaveSeenOpenings (map kept_by counters) passes
      → (k : ℕ) (pass : Pass TurnItem (Fixed D)) → k < length passes → HasSeenOpening (slice_index_or passes k pass)
  each_opened [] [] are openings k pass low = absurd (omega (arith, low))
  each_opened (p ∷ passes) (c ∷ counters) are openings zero pass low =
      λ desk is. subst (λ (f : Fixed D). length f.opening ≤ length (history_of (seen p))) (ap (some_or (kept_by c)) (sym are.0.kept ∙ is)) openings.0
  each_opened (p ∷ passes) (c ∷ counters) are openings (suc k) pass low = each_opened passes counters are.1 openings.1 k pass (omega (arith, low))
  each_opened [] (c ∷ counters) are openings k pass low = absurd are
  each_opened (p ∷ passes) [] are openings k pass low = absurd are

  -- and they have where each has
  pub have_opened : (passes : List (Pass TurnItem (Fixed D))) (counters : List (CounterOf (TicketedDesk D g) TurnItem (Fixed D) h)) → ArePasses passes counters
      → All HasSeenOpening passes → HaveSeenOpenings (map kept_by counters) passes
  have_opened [] [] are all = tt
  have_opened (p ∷ passes) (c ∷ counters) are all =
      (all 0 p (omega arith) (kept_by c) are.0.kept, have_opened passes counters are.1 (λ k pass low. all (suc k) pass (omega (arith, low))))
  have_opened [] (c ∷ counters) are all = absurd are
  have_opened (p ∷ passes) [] are all = absurd are

  -- each pass has seen what is legal where they have
  pub each_legal : (passes : List (Pass TurnItem (Fixed D))) (counters : List (CounterOf (TicketedDesk D g) TurnItem (Fixed D) h)) → ArePasses passes counters
      → HaveSeenLegal (map kept_by counters) passes
      → (k : ℕ) (pass : Pass TurnItem (Fixed D)) → k < length passes → SeesLegally (slice_index_or passes k pass)
  each_legal [] [] are legal k pass low = absurd (omega (arith, low))
  each_legal (p ∷ passes) (c ∷ counters) are legal zero pass low =
      λ desk is. subst (λ (f : Fixed D). HasSeenLegal f p) (ap (some_or (kept_by c)) (sym are.0.kept ∙ is)) legal.0
  each_legal (p ∷ passes) (c ∷ counters) are legal (suc k) pass low = each_legal passes counters are.1 legal.1 k pass (omega (arith, low))
  each_legal [] (c ∷ counters) are legal k pass low = absurd are
  each_legal (p ∷ passes) [] are legal k pass low = absurd are

  -- and they have where each has
  pub have_legal : (passes : List (Pass TurnItem (Fixed D))) (counters : List (CounterOf (TicketedDesk D g) TurnItem (Fixed D) h)) → ArePasses passes counters
      → All SeesLegally passes → HaveSeenLegal (map kept_by counters) passes
  have_legal [] [] are all = tt
  have_legal (p ∷ passes) (c ∷ counters) are all =
      (all 0 p (omega arith) (kept_by c) are.0.kept, have_legal passes counters are.1 (λ k pass low. all (suc k) pass (omega (arith, low))))
  have_legal [] (c ∷ counters) are all = absurd are
  have_legal (p ∷ passes) [] are all = absurd are
