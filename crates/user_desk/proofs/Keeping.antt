-- What a desk keeps, from its opening and from ask to ask.
use Rattle.std.proofs.Common.{◌≡◌, ◌≤◌, ℕ, Bool, true, false, List, [], ◌++◌, length, refl, sym, ap, ◌∙◌, subst, arith}
use Rattle.std.specs.Prelude.{Option, None, option_to_list, is_some}
use Rattle.std.proofs.lemmas.List.{append-nil}
use Rattle.cqe_base.specs.Schema.{DatabaseSchema}
use Rattle.cqe_base.specs.Facts.{FactSet}
use Rattle.cqe_base.specs.History.{UserProfile, AnsweredQuery, History}
use Rattle.cqe_base.specs.Censor.{IsLegal, admitted}
use Rattle.cqe_base.specs.Limits.{KeepsSizes}
use Rattle.user_desk.specs.Entries.{StandsWithin}
use Rattle.user_desk.specs.Causes.{IsStanding, IsReplay}
use Rattle.user_desk.specs.Standings.{is_open, is_sealed}
use Rattle.user_desk.specs.Kept.{IsConsistentDesk}
use Rattle.user_desk.specs.declared.standing.Standing.{Standing}
use Rattle.user_desk.specs.declared.standing.Standing.TheVariants.{Open, Closed, Sealed}
use Rattle.log_journal.specs.Opening.{IsRefused}
use Rattle.log_journal.specs.Records.{Recorded}
use Rattle.log_journal.specs.declared.header.OpenError.{OpenError}
use Rattle.log_journal.specs.declared.header.OpenError.TheVariants.{NotAJournal, OtherPolicy, Damaged, DiskFault, Memory, OldVersion}
use Rattle.user_desk.specs.declared.standing.DeskError.TheVariants.{Journal, Stale, Unlawful, Size, NotAdmitted, Unsafe}
use Rattle.user_desk.proofs.Bytes.{within_more, as_many}
use Rattle.user_desk.proofs.Restarting.{opens_served}

-- an open desk isn't sealed
pub open_not_sealed : (standing : Standing) → is_open standing ≡ true → is_sealed standing ≡ false
open_not_sealed Open is = refl
open_not_sealed (Closed admission) is = absurd cc
open_not_sealed (Sealed why) is = absurd cc

module _ (schema : DatabaseSchema) (world : FactSet) (user : UserProfile) where
  admits_open : (told : Type 0) (header : List ℕ) (bytes : List ℕ) (entries : History) (before now : ℕ) (standing : Standing)
      → IsStanding schema world user told header bytes entries before now standing
      → is_open standing ≡ true → admitted schema world user ≡ true
  admits_open told header bytes entries before now Open standing is = standing.0
  admits_open told header bytes entries before now (Closed admission) standing is = absurd cc
  admits_open told header bytes entries before now (Sealed why) standing is = absurd cc

  idle_closed : (told : Type 0) (header : List ℕ) (bytes : List ℕ) (entries : History) (before now : ℕ) (standing : Standing)
      → IsStanding schema world user told header bytes entries before now standing
      → is_open standing ≡ false → entries ≡ []
  idle_closed told header bytes entries before now Open standing is = absurd cc
  idle_closed told header bytes entries before now (Closed admission) standing is = standing.2
  idle_closed told header bytes entries before now (Sealed why) standing is = standing.0

  -- at the opening
  pub kept_opening : (told : Type 0) (image : List ℕ → Type 0) (header : List ℕ) (bytes : List ℕ) (entries : History) (before now : ℕ) (standing : Standing)
      (has_journal has_failed : Bool)
      → IsStanding schema world user told header bytes entries before now standing → IsLegal schema world user entries → KeepsSizes schema user entries
      → (is_sealed standing ≡ false → (c : List ℕ) → image c → c ≡ bytes) → (is_open standing ≡ true → has_journal ≡ true) → has_failed ≡ false
      → IsConsistentDesk told image schema world user header standing entries None has_journal has_failed
  kept_opening told image header bytes entries before now standing has_journal has_failed is legal sizes only journal whole = record {
    images = λ told_is served c here. subst (λ b. StandsWithin schema header (length entries) (entries ++ []) b) (sym (only served c here))
        (within_more schema header entries [] bytes (opens_served schema world user told header bytes entries before now standing is told_is served).stands);
    legal = subst (λ h. IsLegal schema world user h) (sym (append-nil entries)) legal;
    sizes = subst (λ h. KeepsSizes schema user h) (sym (append-nil entries)) sizes;
    admits = admits_open told header bytes entries before now standing is;
    idle = λ isnt. (idle_closed told header bytes entries before now standing is isnt, refl);
    journal = journal;
    broken = whole;
  }

-- where nothing was added, and no image is new
pub kept_still : (told : Type 0) (image image' : List ℕ → Type 0) (schema schema' : DatabaseSchema) (world world' : FactSet) (user user' : UserProfile)
    (header : List ℕ) (standing : Standing) (entries entries' : History) (in_flight : Option AnsweredQuery)
    (has_journal has_journal' has_failed has_failed' : Bool)
    → IsConsistentDesk told image schema world user header standing entries in_flight has_journal has_failed
    → schema' ≡ schema → world' ≡ world → user' ≡ user → entries' ≡ entries → ((c : List ℕ) → image' c → image c) → has_journal' ≡ has_journal
    → has_failed' ≡ has_failed
    → IsConsistentDesk told image' schema' world' user' header standing entries' in_flight has_journal' has_failed'
kept_still told image image' schema schema' world world' user user' header standing entries entries' in_flight has_journal has_journal' has_failed has_failed'
    kept same_schema same_world same_user same_entries images same_journal same_failed =
    subst (λ s. IsConsistentDesk told image' s world' user' header standing entries' in_flight has_journal' has_failed') (sym same_schema)
    (subst (λ w. IsConsistentDesk told image' schema w user' header standing entries' in_flight has_journal' has_failed') (sym same_world)
    (subst (λ u. IsConsistentDesk told image' schema world u header standing entries' in_flight has_journal' has_failed') (sym same_user)
    (subst (λ h. IsConsistentDesk told image' schema world user header standing h in_flight has_journal' has_failed') (sym same_entries) record {
      images = λ told_is served c here. kept.images told_is served c (images c here);
      legal = kept.legal;
      sizes = kept.sizes;
      admits = kept.admits;
      idle = kept.idle;
      journal = λ is. same_journal ∙ kept.journal is;
      broken = same_failed ∙ kept.broken;
    })))

-- the facts that an ask of an open desk leaves as they were
pub kept_open : (told : Type 0) (image : List ℕ → Type 0) (schema : DatabaseSchema) (world : FactSet) (user : UserProfile) (header : List ℕ)
    (standing : Standing) (entries : History) (in_flight : Option AnsweredQuery) (has_journal has_failed : Bool)
    → standing ≡ Open → admitted schema world user ≡ true → IsLegal schema world user (entries ++ option_to_list in_flight)
    → KeepsSizes schema user (entries ++ option_to_list in_flight) → has_journal ≡ true → has_failed ≡ is_some in_flight
    → (told → (c : List ℕ) → image c → StandsWithin schema header (length entries) (entries ++ option_to_list in_flight) c)
    → IsConsistentDesk told image schema world user header standing entries in_flight has_journal has_failed
kept_open told image schema world user header standing entries in_flight has_journal has_failed opened admits legal sizes journal broken images = record {
  images = λ told_is served. images told_is;
  legal = legal;
  sizes = sizes;
  admits = λ e. admits;
  idle = λ isnt. let e : true ≡ false = sym (ap is_open opened) ∙ isnt in absurd cc;
  journal = λ e. journal;
  broken = broken;
}

-- ---- openings

-- what a log keeps, at an equal schema, world and user
pub legal_at : (schema schema' : DatabaseSchema) (world world' : FactSet) (user user' : UserProfile) (entries : History) → schema' ≡ schema → world' ≡ world
    → user' ≡ user → IsLegal schema' world' user' entries → IsLegal schema world user entries
legal_at schema schema' world world' user user' entries s w u legal =
    subst (λ x. IsLegal x world user entries) s (subst (λ x. IsLegal schema' x user entries) w (subst (λ x. IsLegal schema' world' x entries) u legal))

pub sizes_at : (schema schema' : DatabaseSchema) (user user' : UserProfile) (entries : History) → schema' ≡ schema → user' ≡ user
    → KeepsSizes schema' user' entries → KeepsSizes schema user entries
sizes_at schema schema' user user' entries s u sizes = subst (λ x. KeepsSizes x user entries) s (subst (λ x. KeepsSizes schema' x entries) u sizes)

-- a journal that isn't opened seals the desk
pub standing_sealed_by : (schema : DatabaseSchema) (world : FactSet) (user : UserProfile) (told : Type 0) (header : List ℕ) (bytes : List ℕ) (entries : History)
    (before now : ℕ) (why : OpenError) → entries ≡ [] → IsRefused told header bytes before now why → (why ≡ Memory → ⊥)
    → IsStanding schema world user told header bytes entries before now (Sealed (Journal why))
standing_sealed_by schema world user told header bytes entries before now NotAJournal none refused other = (none, refused)
standing_sealed_by schema world user told header bytes entries before now OtherPolicy none refused other = (none, refused)
standing_sealed_by schema world user told header bytes entries before now (Damaged number) none refused other = (none, refused)
standing_sealed_by schema world user told header bytes entries before now OldVersion none refused other = (none, refused.1)
standing_sealed_by schema world user told header bytes entries before now DiskFault none refused other = (none, refused)
standing_sealed_by schema world user told header bytes entries before now Memory none refused other = absurd (other refl)

-- what a desk keeps at its opening, from its standing
pub kept_first : (schema schema' : DatabaseSchema) (world world' : FactSet) (user user' : UserProfile) (told : Type 0) (image : List ℕ → Type 0)
    (header : List ℕ) (bytes : List ℕ) (entries : History) (before now : ℕ) (standing : Standing) (has_journal has_failed : Bool)
    → schema' ≡ schema → world' ≡ world → user' ≡ user → IsStanding schema world user told header bytes entries before now standing
    → IsLegal schema' world' user' entries → KeepsSizes schema' user' entries
    → (is_sealed standing ≡ false → (c : List ℕ) → image c → c ≡ bytes) → (is_open standing ≡ true → has_journal ≡ true) → has_failed ≡ false
    → IsConsistentDesk told image schema' world' user' header standing entries None has_journal has_failed
kept_first schema schema' world world' user user' told image header bytes entries before now standing has_journal has_failed s w u is legal sizes only journal
    whole =
    kept_still told image image schema schema' world world' user user' header standing entries entries None has_journal has_journal has_failed has_failed
    (kept_opening schema world user told image header bytes entries before now standing has_journal has_failed is
    (legal_at schema schema' world world' user user' entries s w u legal) (sizes_at schema schema' user user' entries s u sizes) only journal whole)
    s w u refl (λ c here. here) refl refl

-- a replay takes no more entries than there are records
pub replayed_within : (schema : DatabaseSchema) (world : FactSet) (user : UserProfile) (all : List Recorded) (entries : History) (standing : Standing)
    → IsReplay schema world user all entries standing → length entries ≤ length all
replayed_within schema world user all entries standing is = by standing is
  where
    none : entries ≡ [] → length entries ≤ length all
    none empty = let size = ap length empty in omega (arith, size)

    by : (s : Standing) → IsReplay schema world user all entries s → length entries ≤ length all
    by Open replay = let many = as_many schema all entries replay.1 in omega (arith, many)
    by (Closed admission) replay = none replay.2
    by (Sealed (Journal why)) replay = none replay.0
    by (Sealed (Stale number)) replay = none replay.0
    by (Sealed (Unlawful number stored computed)) replay = none replay.0
    by (Sealed (Size number)) replay = none replay.0
    by (Sealed (NotAdmitted admission)) replay = none replay.0
    by (Sealed (Unsafe number)) replay = none replay.0
