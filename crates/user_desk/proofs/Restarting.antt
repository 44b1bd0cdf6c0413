-- What an opening makes of a user's state, and what a desk at rest stands for.
use Rattle.std.proofs.Common.{◌≡◌, ℕ, Bool, true, false, List, [], ◌∷◌, ◌++◌, length, refl, sym, ap, ◌∙◌, subst, ⊎_elim}
use Rattle.std.specs.Prelude.{Option, Some, None, option_to_list, is_some, if◌then◌else◌}
use Rattle.std.proofs.lemmas.List.{append-nil}
use Rattle.cqe_base.specs.Schema.{DatabaseSchema}
use Rattle.cqe_base.specs.Facts.{FactSet}
use Rattle.cqe_base.specs.History.{UserProfile, AnsweredQuery, History}
use Rattle.cqe_base.specs.Censor.{IsLegal, admitted}
use Rattle.cqe_base.specs.Limits.{KeepsSizes}
use Rattle.cqe_base.specs.Run
use Rattle.cqe_base.specs.Run.{UserState, standing_open, standing_closed, restart, after_event, opening_standing, entries_found}
use Rattle.log_journal.specs.Opening.{header_bytes}
use Rattle.log_journal.specs.declared.header.Header.{Header}
use Rattle.user_desk.specs.Entries.{StandsFor, StandsWithin}
use Rattle.user_desk.specs.Causes.{Opens, IsStanding}
use Rattle.user_desk.specs.Standings.{standing_of, is_open, is_sealed}
use Rattle.user_desk.specs.Kept.{IsConsistentDesk}
use Rattle.user_desk.specs.Lives.{shown, IsState, Holds, Restarts}
use Rattle.user_desk.specs.declared.standing.Standing.{Standing}
use Rattle.user_desk.specs.declared.standing.Standing.TheVariants.{Open, Closed, Sealed}
use Rattle.user_desk.proofs.Bytes.{one_history, within_exact, within_either}
use Rattle.user_desk.proofs.Refusing.{sealed_by_fault}

module _ (schema : DatabaseSchema) (world : FactSet) (user : UserProfile) where
  opened_as : (state : UserState) (found : Bool) (entries : History) (standing : Run.Standing) → entries_found schema world user state found ≡ entries
      → opening_standing schema world user ≡ standing
      → after_event schema world user state (restart found true) ≡ shown entries standing None
  opened_as state found entries standing same is =
      ap (λ (h : History). shown h (opening_standing schema world user) None) same ∙ ap (λ (s : Run.Standing). shown entries s None) is

  -- an opening is a restart of each state that the bytes hold
  pub restarts : (told : Type 0) (header : Header) (bytes : List ℕ) (entries : History) (before now : ℕ) (standing : Standing) → told
      → IsStanding schema world user told (header_bytes header) bytes entries before now standing
      → (state : UserState) → Holds schema world user (header_bytes header) state bytes
      → Restarts schema world user (IsState standing (shown entries (standing_of standing) None)) state before now
  restarts told header bytes entries before now Open is standing state holds =
      let same = one_history schema (header_bytes header) (entries_found schema world user state holds.found) entries bytes holds.opens.stands
      (standing.1 is).stands in
      record {
        found = holds.found;
        opened = true;
        after = opened_as state holds.found entries standing_open same (ap (λ b. if b then standing_open else standing_closed) standing.0);
        sought = holds.sought;
        cause = λ e. absurd cc;
      }
  restarts told header bytes entries before now (Closed admission) is standing state holds =
      let same = one_history schema (header_bytes header) (entries_found schema world user state holds.found) entries bytes holds.opens.stands
      (standing.3 is).stands in
      record {
        found = holds.found;
        opened = true;
        after = opened_as state holds.found entries standing_closed same (ap (λ b. if b then standing_open else standing_closed) standing.0);
        sought = holds.sought;
        cause = λ e. absurd cc;
      }
  restarts told header bytes entries before now (Sealed why) is standing state holds = record {
    found = false;
    opened = false;
    after = refl;
    sought = λ e. absurd cc;
    cause =
        λ e. sealed_by_fault schema world user told header bytes (entries_found schema world user state holds.found) before now why is holds.opens standing.1;
  }

  -- bytes open a desk only where it isn't sealed
  pub opens_served : (told : Type 0) (header : List ℕ) (bytes : List ℕ) (entries : History) (before now : ℕ) (standing : Standing)
      → IsStanding schema world user told header bytes entries before now standing
      → told → is_sealed standing ≡ false → Opens schema world user header entries bytes
  opens_served told header bytes entries before now Open standing is served = standing.1 is
  opens_served told header bytes entries before now (Closed admission) standing is served = standing.3 is
  opens_served told header bytes entries before now (Sealed why) standing is served = absurd cc

  -- ---- at rest

  pub only_open : (standing : Standing) (entries : History) (in_flight : Option AnsweredQuery) → (is_open standing ≡ true → admitted schema world user ≡ true)
      → (is_open standing ≡ false → (entries ≡ []) × (in_flight ≡ None))
      → admitted schema world user ≡ false → entries ++ option_to_list in_flight ≡ []
  only_open standing entries in_flight admits idle isnt = by_standing (is_open standing) admits idle
    where
      by_standing : (b : Bool) → (b ≡ true → admitted schema world user ≡ true) → (b ≡ false → (entries ≡ []) × (in_flight ≡ None))
          → entries ++ option_to_list in_flight ≡ []
      by_standing true admits idle = let e : true ≡ false = sym (admits refl) ∙ isnt in absurd cc
      by_standing false admits idle = ap (λ h. h ++ option_to_list in_flight) (idle refl).0 ∙ ap (λ o. [] ++ option_to_list o) (idle refl).1

  module _ {told : Type 0} {image : List ℕ → Type 0} {header : List ℕ} {standing : Standing} {entries : History} {in_flight : Option AnsweredQuery}
      {has_journal is_broken : Bool}
      (kept : IsConsistentDesk told image schema world user header standing entries in_flight has_journal is_broken) (legal : IsLegal schema world user entries)
      (sizes : KeepsSizes schema user entries) where
    no_entry : admitted schema world user ≡ false → entries ≡ []
    no_entry isnt = first_none entries (option_to_list in_flight) (only_open standing entries in_flight kept.admits kept.idle isnt)
      where
        first_none : (xs ys : History) → xs ++ ys ≡ [] → xs ≡ []
        first_none [] ys e = refl
        first_none (x ∷ xs) ys e = absurd cc

    opens_without : (c : List ℕ) → StandsFor schema header entries c → Opens schema world user header entries c
    opens_without c stands = record { stands = stands; legal = legal; sizes = sizes; none = no_entry }

  -- each image holds the state
  pub holds_image : (told : Type 0) (image : List ℕ → Type 0) (header : List ℕ) (standing : Standing) (entries : History) (in_flight : Option AnsweredQuery)
      (has_journal is_broken : Bool)
      → IsConsistentDesk told image schema world user header standing entries in_flight has_journal is_broken → IsLegal schema world user entries
      → KeepsSizes schema user entries → told → is_sealed standing ≡ false
      → (c : List ℕ) → image c → Holds schema world user header (shown entries (standing_of standing) in_flight) c
  holds_image told image header standing entries None has_journal is_broken kept legal sizes is served c here =
      let within = subst (λ h. StandsWithin schema header (length entries) h c) (append-nil entries) (kept.images is served c here) in
      record { found = false; sought = λ e. absurd cc; opens = opens_without kept legal sizes c (within_exact schema header entries c within) }
  holds_image told image header standing entries (Some entry) has_journal is_broken kept legal sizes is served c here = ⊎_elim
      (λ stands. record { found = false; sought = λ e. absurd cc; opens = opens_without kept legal sizes c stands })
      (λ stands. record {
        found = true;
        sought = λ e. refl;
        opens = record {
          stands = stands;
          legal = kept.legal;
          sizes = kept.sizes;
          none =
              λ isnt. only_open standing entries (Some entry) kept.admits kept.idle isnt;
        };
      })
      (within_either schema header entries entry c (kept.images is served c here))

  -- where no append failed each image stands for the entries
  pub stands_image : (told : Type 0) (image : List ℕ → Type 0) (header : List ℕ) (standing : Standing) (entries : History) (in_flight : Option AnsweredQuery)
      (has_journal is_broken : Bool)
      → IsConsistentDesk told image schema world user header standing entries in_flight has_journal is_broken → told → is_sealed standing ≡ false
      → is_some in_flight ≡ false → (c : List ℕ) → image c → StandsFor schema header entries c
  stands_image told image header standing entries None has_journal is_broken kept is served whole c here =
      within_exact schema header entries c (subst (λ h. StandsWithin schema header (length entries) h c) (append-nil entries) (kept.images is served c here))
  stands_image told image header standing entries (Some entry) has_journal is_broken kept is served whole c here = absurd cc
