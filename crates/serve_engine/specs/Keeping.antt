-- What sessions keep of passes: what none keeps, what several keep, and what stands before the
-- first.
use Rattle.std.specs.Prelude.{List, [], ◌∷◌, ◌++◌, refl, sum_by}
use Rattle.std.proofs.Common.{sym, ap, ◌∙◌, append_assoc}
use Rattle.std.proofs.lemmas.List.{append-nil}
use Rattle.std.specs.List.{AllZip}
use Rattle.turnstile.specs.declared.pass.Pass.{Pass}
use Rattle.turnstile.specs.Passes.{seen}
use Rattle.desk_counter.specs.declared.item.TurnItem.{TurnItem}
use Rattle.desk_counter.specs.declared.item.Fixed.{Fixed}
use Rattle.desk_counter.specs.declared.ticketed_desk.TicketedDesk.{TicketedDesk}
use Rattle.session_core.specs.declared.counters.CountersOf.{CountersOf}
use Rattle.session_core.specs.declared.counters.Passes.{Passes}
use Rattle.session_core.specs.Members.{passes_in}
use Rattle.serve_engine.specs.Members.{IsPassLater, AreServedBy, own_at}

-- no connection was served, and the passes have no more of their own
pub nothing_served : {D : Type 0} {g h : _}
    (counters : CountersOf (TicketedDesk D g) TurnItem (Fixed D) h) (passes : Passes D)
    → AreServedBy counters passes passes []
nothing_served counters passes =
    record {
      visit_marks = [];
      each = tt;
      own = λ place weight. ap (sum_by weight) (sym (append-nil (own_at place (passes_in passes))));
    }

module _ {D : Type 0} where
  -- passes are later than themselves
  pub same_passes : (passes : List (Pass TurnItem (Fixed D))) → AllZip IsPassLater passes passes
  same_passes [] = tt
  same_passes (p ∷ passes) =
      (record { same_shares = refl; later = ([], sym (append-nil (seen p))) }, same_passes passes)

  -- passes that are later than later ones are later
  pub later_passes : (xs ys zs : List (Pass TurnItem (Fixed D))) → AllZip IsPassLater xs ys
      → AllZip IsPassLater ys zs → AllZip IsPassLater xs zs
  later_passes [] [] [] first second = tt
  later_passes (x ∷ xs) (y ∷ ys) (z ∷ zs) first second = (
    record {
      same_shares = second.0.same_shares ∙ first.0.same_shares;
      later = (
        first.0.later.0 ++ second.0.later.0,
        second.0.later.1 ∙ ap (λ s. s ++ second.0.later.0) first.0.later.1
            ∙ append_assoc (seen x) first.0.later.0 second.0.later.0,
      );
    },
    later_passes xs ys zs first.1 second.1,
  )
  later_passes [] [] (z ∷ zs) first second = absurd second
  later_passes [] (y ∷ ys) zs first second = absurd first
  later_passes (x ∷ xs) [] zs first second = absurd first
  later_passes (x ∷ xs) (y ∷ ys) [] first second = absurd second
