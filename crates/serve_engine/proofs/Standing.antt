-- Connections that stand with passes, and one more.
use Rattle.std.proofs.Common.{◌≡◌, ℕ, ◌+◌, List, [], ◌∷◌, ◌++◌, sum_by, arith}
use Rattle.std.specs.List.{AllZip}
use Rattle.std.proofs.lemmas.List.Sums.{sum_by_push}
use Rattle.outside.specs.Visits.{Visit}
use Rattle.desk_counter.specs.declared.item.TurnItem.{TurnItem}
use Rattle.desk_counter.specs.declared.item.Fixed.{Fixed}
use Rattle.desk_counter.specs.declared.ticketed_desk.TicketedDesk.{TicketedDesk}
use Rattle.session_core.specs.declared.counters.CountersOf.{CountersOf}
use Rattle.session_core.specs.declared.counters.Passes.{Passes}
use Rattle.session_core.specs.Members.{users_of, fixeds_of, passes_in}
use Rattle.serve_engine.specs.Served.{SessionMarks, IsLater, items_told}
use Rattle.serve_engine.specs.Members.{members_of, IsServedBy, AreServedBy, own_at}
use Rattle.serve_engine.proofs.Owning.{own_weight, weigh_more}
use Rattle.serve_engine.proofs.Growing.{served_later}

module _ {X Y : Type 0} where
  -- what stands in one way and so in another, pair by pair
  pub zip_still : (P Q : X → Y → Type 0) → ((x : X) (y : Y) → P x y → Q x y) → (xs : List X) (ys : List Y) → AllZip P xs ys → AllZip Q xs ys
  zip_still P Q still [] [] all = tt
  zip_still P Q still (x ∷ xs) (y ∷ ys) all = (still x y all.0, zip_still P Q still xs ys all.1)
  zip_still P Q still [] (y ∷ ys) all = absurd all
  zip_still P Q still (x ∷ xs) [] all = absurd all

  -- both lists together
  pub zip_both : (P : X → Y → Type 0) (xs xs' : List X) (ys ys' : List Y) → AllZip P xs ys → AllZip P xs' ys' → AllZip P (xs ++ xs') (ys ++ ys')
  zip_both P [] xs' [] ys' first second = second
  zip_both P (x ∷ xs) xs' (y ∷ ys) ys' first second = (first.0, zip_both P xs xs' ys ys' first.1 second)
  zip_both P [] xs' (y ∷ ys) ys' first second = absurd first
  zip_both P (x ∷ xs) xs' [] ys' first second = absurd first

-- behind connections that stand with passes one more does, where the passes have more of their own what it told
pub served_more : {D : Type 0} {g h : _} (counters : CountersOf (TicketedDesk D g) TurnItem (Fixed D) h) (first old new : Passes D) (visits : List Visit)
    (visit : Visit) (marks : SessionMarks) → AreServedBy counters first old visits
    → AllZip IsLater (members_of (fixeds_of counters) (passes_in old)) (members_of (fixeds_of counters) (passes_in new)) → IsServedBy counters new visit marks
    → ((weight : TurnItem → ℕ) (place : ℕ)
    → own_weight weight place (passes_in new) ≡ own_weight weight place (passes_in old) + sum_by weight (items_told place marks))
    → AreServedBy counters first new (visits ++ visit ∷ [])
served_more counters first old new visits visit marks stood later served own = record {
  visit_marks = stood.visit_marks ++ marks ∷ [];
  each = zip_both (IsServedBy counters new) visits (visit ∷ []) stood.visit_marks (marks ∷ [])
      (zip_still (IsServedBy counters old) (IsServedBy counters new)
      (λ v m is schema world within.
      served_later schema world (users_of counters) (members_of (fixeds_of counters) (passes_in old))
      (members_of (fixeds_of counters) (passes_in new)) v m later (is schema world within))
      visits stood.visit_marks stood.each)
      (served, tt);
  own = λ place weight.
      let more = own weight place in
      let before = stood.own place weight in
      let told = weigh_more weight (own_at place (passes_in first)) (items_told place) stood.visit_marks in
      let then = weigh_more weight (own_at place (passes_in first)) (items_told place) (stood.visit_marks ++ marks ∷ []) in
      let all = sum_by_push (λ m. sum_by weight (items_told place m)) stood.visit_marks marks in
      omega (arith, more, before, told, then, all);
}
