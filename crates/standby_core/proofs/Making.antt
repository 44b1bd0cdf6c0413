-- Mirrors that are made, one for each user.
use Rattle.std.proofs.Common.{◌≡◌, ℕ, ◌+◌, ◌<◌, ◌||◌, Bool, true, false, Some}
use Rattle.std.proofs.Common.{List, [], ◌∷◌, ◌++◌, length, take, map, get_or, refl, sym, ap, ◌∙◌}
use Rattle.std.proofs.Common.{arith, option_map}
use Rattle.std.specs.Prelude.{bytes_eq, string_bytes, if◌then◌else◌}
use Rattle.std.specs.List.{AllByRecursion}
use Rattle.std.proofs.lemmas.List.{take_more, map-append}
use Rattle.std.proofs.lemmas.List.Sums.{sum_by-cons}
use Rattle.cqe_base.specs.Schema.{contains_text, has_duplicate}
use Rattle.cqe_base.specs.declared.user.User.{User}
use Rattle.log_journal.specs.Names.{journal_name, JournalsDiffer}
use Rattle.outside.specs.Dials.{Exchange, faults_for}
use Rattle.standby_core.specs.MirroredDisks.{exchanged_by}
use Rattle.standby_core.specs.declared.slot.Place.{Place}
use Rattle.standby_core.specs.declared.slot.Place.TheVariants.{New, Out, Back}
use Rattle.standby_core.specs.declared.slot.Slot.{Slot}
use Rattle.standby_core.specs.Named.{first_named}
use Rattle.standby_core.specs.Places.{mirror_in, faults_in, there_in, exchanged_in, count_in}
use Rattle.standby_core.specs.Slots.{slot_name, place_at, faults_of, there_among, exchanged_among, AreUnused}

-- one more of which something holds
pub all_more : {X : Type 0} (P : X → Type 0) (xs : List X) (x : X) → AllByRecursion P xs → P x → AllByRecursion P (xs ++ x ∷ [])
all_more P [] x all more = (more, tt)
all_more P (y ∷ xs) x all more = (all.0, all_more P xs x all.1 more)

-- what each says so far is what the first users say, and so it is with one more
pub each_more : {X Y : Type 0} (f : X → Y) (h : User → Y) (xs new : List X) (x : X) (users : List User) (i : ℕ) (user : User) → new ≡ xs ++ x ∷ []
    → f x ≡ h user → i < length users → user ≡ get_or users i user → map f xs ≡ map h (take i users) → map f new ≡ map h (take (i + 1) users)
each_more f h xs new x users i user added same low is so_far =
    ap (map f) added ∙ map-append f xs (x ∷ []) ∙ (λ j. so_far j ++ same j ∷ []) ∙ sym (map-append h (take i users) (user ∷ []))
    ∙ ap (map h) (sym (take_more users i user low ∙ ap (λ u. take i users ++ u ∷ []) (sym is)))

-- the names of journals differ where those of their users do
among : (directory : List ℕ) → JournalsDiffer → (users : List User) (name : List ℕ)
    → contains_text (map (λ (u : User). journal_name directory (string_bytes u.name)) users) (journal_name directory name)
    ≡ contains_text (map (λ (u : User). string_bytes u.name) users) name
among directory differ [] name = refl
among directory differ (u ∷ users) name =
    ap (λ b. b || contains_text (map (λ (v : User). journal_name directory (string_bytes v.name)) users) (journal_name directory name))
    (differ directory name (string_bytes u.name))
    ∙ ap (λ b. bytes_eq name (string_bytes u.name) || b) (among directory differ users name)

pub own_journals : (directory : List ℕ) → JournalsDiffer → (users : List User)
    → has_duplicate (map (λ (u : User). journal_name directory (string_bytes u.name)) users) ≡ has_duplicate (map (λ (u : User). string_bytes u.name) users)
own_journals directory differ [] = refl
own_journals directory differ (u ∷ users) =
    ap (λ b. b || has_duplicate (map (λ (v : User). journal_name directory (string_bytes v.name)) users)) (among directory differ users (string_bytes u.name))
    ∙ ap (λ b. contains_text (map (λ (v : User). string_bytes v.name) users) (string_bytes u.name) || b) (own_journals directory differ users)

-- ---- mirrors that weren't taken yet

module _ {C : Type 0} {g : _} (told : Type 0) (faults : C → ℕ) (exchanged : C → List Exchange) where
  -- all of them are there
  pub all_there : (slots : List (Slot C g)) → AreUnused told faults exchanged slots → there_among slots ≡ length slots
  all_there [] all = refl
  all_there (slot ∷ slots) all =
      let parts = sum_by-cons (λ (s : Slot C g). there_in s.place) slot slots in
      let here = all.0.there in
      let rest = all_there slots all.1 in
      omega (arith, parts, here, rest)

  -- they exchanged nothing
  pub all_silent : told → (slots : List (Slot C g)) → AreUnused told faults exchanged slots → exchanged_among exchanged slots ≡ []
  all_silent t [] all = refl
  all_silent t (slot ∷ slots) all = λ i. all_silent t slots all.1 i ++ all.0.silent t i

  -- and no fault was counted
  pub all_faultless : (slots : List (Slot C g)) → AreUnused told faults exchanged slots → (name : List ℕ) → faults_of faults slots name ≡ 0
  all_faultless [] all name = refl
  all_faultless (slot ∷ slots) all name =
      let parts = sum_by-cons (faults_for slot_name (λ (s : Slot C g). faults_in faults (Some s.place)) name) slot slots in
      let here = by (bytes_eq name (slot_name slot)) in
      let rest = all_faultless slots all.1 name in
      omega (arith, parts, here, rest)
    where
      by : (b : Bool) → (if b then faults_in faults (Some slot.place) else 0) ≡ 0
      by true = all.0.faultless
      by false = refl

  pub none_failed : (slots : List (Slot C g)) → AreUnused told faults exchanged slots → (name : List ℕ) → faults_in faults (place_at slots name) ≡ 0
  none_failed [] all name = refl
  none_failed (slot ∷ slots) all name = by (bytes_eq (slot_name slot) name) (none_failed slots all.1 name)
    where
      by : (b : Bool) → faults_in faults (place_at slots name) ≡ 0
          → faults_in faults (option_map (λ (s : Slot C g). s.place) (if b then Some slot else first_named slot_name slots name)) ≡ 0
      by true none = all.0.faultless
      by false none = none

  -- nor has any of them exchanged something
  same_exchanged : (place : Place C g) → exchanged_by exchanged (mirror_in (Some place)) ≡ exchanged_in exchanged place
  same_exchanged (New mirror) = refl
  same_exchanged (Back mirror) = refl
  same_exchanged Out = refl

  pub none_exchanged : told → (slots : List (Slot C g)) → AreUnused told faults exchanged slots → (name : List ℕ)
      → count_in exchanged (place_at slots name) ≡ 0
  none_exchanged t [] all name = refl
  none_exchanged t (slot ∷ slots) all name = by (bytes_eq (slot_name slot) name) (none_exchanged t slots all.1 name)
    where
      by : (b : Bool) → count_in exchanged (place_at slots name) ≡ 0
          → count_in exchanged (option_map (λ (s : Slot C g). s.place) (if b then Some slot else first_named slot_name slots name)) ≡ 0
      by true none = ap length (same_exchanged slot.place ∙ all.0.silent t)
      by false none = none
