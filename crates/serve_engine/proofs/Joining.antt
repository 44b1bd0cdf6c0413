-- A serving is a part of a user's one history over all calls.
use Rattle.std.proofs.Common.{◌≡◌, ℕ, zero, suc, ◌≤◌, Bool, true, false, not, List, [], ◌∷◌, ◌++◌, length, take, drop, refl, sym, ap, ◌∙◌, append_assoc, arith}
use Rattle.std.specs.Prelude.{Option, option_to_list, string_bytes}
use Rattle.std.proofs.lemmas.List.{take-append-drop}
use Rattle.cqe_base.specs.Schema.{DatabaseSchema}
use Rattle.cqe_base.specs.Facts.{FactSet}
use Rattle.cqe_base.specs.History.{UserProfile, AnsweredQuery, History}
use Rattle.cqe_base.specs.Run
use Rattle.cqe_base.specs.Run.{standing_open}
use Rattle.user_desk.specs.Causes.{Opens, OpensWithin, IsStanding}
use Rattle.user_desk.specs.Lives.{Holds, shown}
use Rattle.user_desk.specs.Standings.{is_sealed}
use Rattle.user_desk.specs.declared.standing.Standing.{Standing}
use Rattle.user_desk.specs.declared.standing.Standing.TheVariants.{Open, Closed, Sealed}
use Rattle.desk_crew.specs.Shelved.{Journals}
use Rattle.serve_engine.specs.Joining.{ServingsAreSpans, IsCutServing, CutServingsAreSpans}

-- bytes open a desk that isn't sealed
opened_by : (schema : DatabaseSchema) (world : FactSet) (user : UserProfile) (header bytes : List ℕ) (entries : History) (before now : ℕ) (standing : Standing)
    → IsStanding schema world user (Unit {0}) header bytes entries before now standing → is_sealed standing ≡ false
    → Opens schema world user header entries bytes
opened_by schema world user header bytes entries before now Open is served = is.1 tt
opened_by schema world user header bytes entries before now (Closed admission) is served = is.3 tt
opened_by schema world user header bytes entries before now (Sealed why) is served = absurd cc

-- what holds a state holds it at any standing
held_anyhow : (schema : DatabaseSchema) (world : FactSet) (user : UserProfile) (header c : List ℕ) (entries : History) (standing : Run.Standing)
    (in_flight : Option AnsweredQuery) → Holds schema world user header (shown entries standing in_flight) c
    → Holds schema world user header (shown entries standing_open in_flight) c
held_anyhow schema world user header c entries standing in_flight holds = by holds.found holds.sought holds.opens
  where
    by : (found : Bool) → (found ≡ true → (shown entries standing in_flight).broken ≡ true)
        → Opens schema world user header (Run.entries_found schema world user (shown entries standing in_flight) found) c
        → Holds schema world user header (shown entries standing_open in_flight) c
    by true sought opens = record { found = true; sought = sought; opens = opens }
    by false sought opens = record { found = false; sought = sought; opens = opens }

pub servings_are_spans : (journals : Journals) → ServingsAreSpans journals
servings_are_spans journals schema world header user member refusal served unsealed left at = record {
  opens = opened_by schema world member.profile header (journals.bytes (string_bytes user.name)) member.opening (journals.before (string_bytes user.name))
      (journals.now (string_bytes user.name)) served.standing served.cause unsealed;
  goes_on = served.goes_on;
  legal = served.legal;
  holds = held_anyhow schema world member.profile header left member.history member.standing member.in_flight (served.stands unsealed left at);
}

-- a beginning of a list that is no shorter than its first part goes on from that
goes_on_within : (front rest : History) (count : ℕ) → length front ≤ count → (more : History) × (take count (front ++ rest) ≡ front ++ more)
goes_on_within [] rest count enough = (take count rest, refl)
goes_on_within (entry ∷ front) rest zero enough = absurd (omega (arith, enough))
goes_on_within (entry ∷ front) rest (suc count) enough =
    let more = goes_on_within front rest count (omega (arith, enough)) in
    (more.0, ap (λ h. entry ∷ h) more.1)

pub cut_servings_are_spans : (journals : Journals) → CutServingsAreSpans journals
cut_servings_are_spans journals schema world header user member refusal served unsealed left at = cut (served.moments.behind (ap not unsealed) left at)
  where
    all : History
    all = member.history ++ option_to_list member.in_flight

    goes_on : (count : ℕ) → length member.opening ≤ count → (more : History) × (take count all ≡ member.opening ++ more)
    goes_on count enough =
        let flown = option_to_list member.in_flight in
        let further = served.goes_on.0 in
        let more = goes_on_within member.opening (further ++ flown) count enough in
        (more.0, ap (take count) (ap (λ (h : History). h ++ flown) served.goes_on.1 ∙ append_assoc member.opening further flown) ∙ more.1)

    cut : OpensWithin schema world member.profile header (length member.opening) all left → IsCutServing journals schema world header user member left
    cut within = record {
      entries = take within.count all;
      rest = drop within.count all;
      split = sym (take-append-drop within.count all);
      over = record {
        opens = opened_by schema world member.profile header (journals.bytes (string_bytes user.name)) member.opening
            (journals.before (string_bytes user.name)) (journals.now (string_bytes user.name)) served.standing served.cause unsealed;
        goes_on = goes_on within.count within.enough;
        legal = within.opens.legal;
        holds = record { found = false; sought = λ no. absurd cc; opens = within.opens };
      };
    }
