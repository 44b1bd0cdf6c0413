-- Connections that are served one after the other.
use Rattle.std.proofs.Common.{◌≡◌, ℕ, ◌+◌, ◌==◌, ◌||◌, Bool, true, false, List, [], ◌∷◌, ◌++◌, refl, sym, ap, subst, ◌∙◌, arith}
use Rattle.std.proofs.Common.{append_assoc, append-nil, length-append}
use Rattle.std.proofs.Math.Bool.{or-false}
use Rattle.std.proofs.lemmas.Bool.{eqb-true}
use Rattle.std.proofs.lemmas.List.Folds.{list_any-append}
use Rattle.std.specs.List.{list_any}
use Rattle.outside.specs.Faults.{Rose}
use Rattle.outside.specs.Visits.{Visit}
use Rattle.log_journal.specs.declared.header.Header.{Header}
use Rattle.standby_core.specs.Copies.{Copy}
use Rattle.standby_core.specs.Exchanges.{ServesConnection, IsAnswered}
use Rattle.standby_core.specs.declared.serve.StandbyEnd.{StandbyEnd}
use Rattle.standby_engine.specs.Served.{IsServedVisit, nobody, further, IsDoorServed, is_wanting}
use Rattle.standby_engine.proofs.Listening.{rose_some}

module _ {O : Type 0} (given : O → ℕ) (back : O → List Visit) (header : Header) where
  pub none_served : (copies : List Copy) (door : O) → IsDoorServed given back header copies copies door door false
  none_served copies door = record {
    visits = [];
    ends = [];
    served = nobody;
    wanted = refl;
    back_is = sym (append-nil (back door));
    given_is = omega arith;
  }

  -- one more connection
  pub one_served : (first before after : List Copy) (old mid new : O) (visit : Visit) (end : StandbyEnd) (so_wanting wanting : Bool)
      → IsDoorServed given back header first before old mid so_wanting
      → IsServedVisit header before after visit end → wanting ≡ is_wanting end → given new ≡ given mid + 1 → back new ≡ back mid ++ visit ∷ []
      → IsDoorServed given back header first after old new (so_wanting || wanting)
  one_served first before after old mid new visit end so_wanting wanting so_far served wanted counted is_back = record {
    visits = so_far.visits ++ visit ∷ [];
    ends = so_far.ends ++ end ∷ [];
    served = further before after so_far.visits so_far.ends visit end so_far.served served;
    wanted = (λ i. so_far.wanted i || wanted i) ∙ ap (λ b. list_any is_wanting so_far.ends || b) (sym (or-false (is_wanting end)))
        ∙ sym (list_any-append is_wanting so_far.ends (end ∷ []));
    back_is = is_back ∙ ap (λ l. l ++ visit ∷ []) so_far.back_is ∙ append_assoc (back old) so_far.visits (visit ∷ []);
    given_is = omega (arith, counted, so_far.given_is, length-append so_far.visits (visit ∷ []));
  }

-- of a source of which nothing was taken, and a sink that had nothing
pub served_alone : (header : Header) (before after : List Copy) (ended : StandbyEnd) (left held old new : List ℕ) → left ≡ held → old ≡ []
    → (served : ServesConnection header left before after ended) × IsAnswered ended served.answers old new
    → (served : ServesConnection header held before after ended) × IsAnswered ended served.answers [] new
served_alone header before after ended left held old new same none is =
    subst (λ o. (served : ServesConnection header held before after ended) × IsAnswered ended served.answers o new) none
    (subst (λ b. (served : ServesConnection header b before after ended) × IsAnswered ended served.answers old new) same is)

-- a count that rose from 0 says that an end failed
pub seen_failed : (before now : ℕ) → before ≡ 0 → Rose before now → (now == 0) ≡ false
seen_failed before now none rose = by (now == 0) refl
  where
    by : (b : Bool) → (now == 0) ≡ b → (now == 0) ≡ false
    by false is = is
    by true is = absurd (rose_some before now none rose (eqb-true now 0 is))
