-- The users one after the other.
use Rattle.std.proofs.Common.{◌≡◌, ◌⊎◌, ◌∙◌, sym, ap, subst, refl, inl, inr, ℕ, ◌<◌, ◌≤◌, ◌+◌, ◌++◌, List, false, Option, Some, slice_get, bytes_eq, map, arith}
use Rattle.std.proofs.lemmas.Bool.{cases_eq, or_parts}
use Rattle.std.proofs.lemmas.List.Folds.{list_any-append}
use Rattle.outside.proofs.Rises.{rose_wide}
use Rattle.outside.specs.Shelf.{bytes_on, is_among}
use Rattle.outside.specs.declared.disk.Disk.{Ghosts as DiskGhosts}
use Rattle.cqe_base.specs.Schema.{has_duplicate}
use Rattle.log_journal.specs.Names.{journal_name, JournalsDiffer}
use Rattle.log_journal.specs.Opening.{old_header, IsOldJournal}
use Rattle.log_journal.specs.Records.{Recorded}
use Rattle.init_engine.proofs.Apart.{apart_back, names_apart, same_some}
use Rattle.init_engine.proofs.Reasons.{refused_of}
use Rattle.init_engine.proofs.Running.{beside_at}
use Rattle.init_engine.proofs.Visiting.{untouched}
use Rattle.init_engine.specs.Ends.{Change}
use Rattle.init_engine.specs.Stops.{Stays}
use Rattle.migrate_engine.specs.Ends.{StopsAt, EndsMigrate, end_of}
use Rattle.migrate_engine.specs.Moves.{SameBut, IsMoved, Moves}
use Rattle.migrate_engine.specs.Stops.{WasOpened, HasReason, LeavesTarget}
use Rattle.migrate_engine.specs.declared.end.Stop.{Stop}
use Rattle.migrate_engine.specs.declared.end.Stop.TheVariants as stop
use Rattle.migrate_engine.proofs.Apart.{AreApart}

-- a name that is neither journal of a user at a place
pub beside_both : (from to : List ℕ) (names : List (List ℕ)) (k : ℕ) (name other : List ℕ)
    → is_among (map (journal_name from) names ++ map (journal_name to) names) other ≡ false → slice_get names k ≡ Some name
    → (bytes_eq other (journal_name from name) ≡ false) × (bytes_eq other (journal_name to name) ≡ false)
beside_both from to names k name other none is =
    let parts = or_parts (is_among (map (journal_name from) names) other) (is_among (map (journal_name to) names) other)
    (sym (list_any-append (bytes_eq other) (map (journal_name from) names) (map (journal_name to) names)) ∙ none) in
    (beside_at from names k name other parts.0 is, beside_at to names k name other parts.1 is)

module _ {D : Type 0} (Disk : DiskGhosts D) (header from to : List ℕ) (names : List (List ℕ)) where
  -- nobody is moved yet
  pub none_moved : ((d : D) (c : List ℕ) → Disk.image_since d (Disk.moment d) c → Disk.image d c) → (old : List ℕ → Option D)
      → Moves Disk header from to names old old 0 0
  none_moved only_now old = record {
    are = λ i name less is. absurd (omega (arith, less));
    sources = λ i name is. untouched Disk only_now (old (journal_name from name)) (old (journal_name from name)) refl;
    others = λ other apart. refl;
  }

  module _ (once : has_duplicate names ≡ false) (differ : JournalsDiffer) (apart : AreApart from to names) where
    -- two users' journals in one directory have two names
    in_one : (directory : List ℕ) (i k : ℕ) (first second : List ℕ) → (i ≡ k → ⊥) → slice_get names i ≡ Some first → slice_get names k ≡ Some second
        → bytes_eq (journal_name directory first) (journal_name directory second) ≡ false
    in_one directory i k first second other is is' = differ directory first second ∙ names_apart names once i k first second other is is'

    module _ (old mid new : List ℕ → Option D) (k : ℕ) (name : List ℕ) (is : slice_get names k ≡ Some name)
        (so_far : Moves Disk header from to names old mid k k) (others : SameBut (journal_name from name) (journal_name to name) mid new)
        (stays : Stays Disk (mid (journal_name from name)) (new (journal_name from name))) where
      -- the two disks of the next user stand as they stood at first
      pub source_not_yet : mid (journal_name from name) ≡ old (journal_name from name)
      source_not_yet = so_far.others (journal_name from name) (λ i first less is'. (
        in_one from k i name first (λ same. omega (arith, less, same)) is is',
        apart k i name first is is',
      ))

      pub target_not_yet : mid (journal_name to name) ≡ old (journal_name to name)
      target_not_yet = so_far.others (journal_name to name) (λ i first less is'. (
        apart_back (journal_name from first) (journal_name to name) (apart i k first name is' is),
        in_one to k i name first (λ same. omega (arith, less, same)) is is',
      ))

      touched : (other : List ℕ) → ((i : ℕ) (first : List ℕ) → i < k + 1 → slice_get names i ≡ Some first
          → (bytes_eq other (journal_name from first) ≡ false) × (bytes_eq other (journal_name to first) ≡ false)) → new other ≡ old other
      touched other none =
          let here = none k name (omega arith) is in
          others other here.0 here.1 ∙ so_far.others other (λ i first less is'. none i first (omega (arith, less)) is')

      sources : (i : ℕ) (first : List ℕ) → slice_get names i ≡ Some first
          → Stays Disk (old (journal_name from first)) (new (journal_name from first))
      sources i first is' = by (cases_eq i k)
        where
          by : (i ≡ k) ⊎ (i ≡ k → ⊥) → Stays Disk (old (journal_name from first)) (new (journal_name from first))
          by (inl same) =
              subst (λ n. Stays Disk (old (journal_name from n)) (new (journal_name from n)))
              (same_some name first (sym is ∙ ap (λ j. slice_get names j) (sym same) ∙ is'))
              (subst (λ d. Stays Disk d (new (journal_name from name))) source_not_yet stays)
          by (inr other) =
              subst (λ d. Stays Disk (old (journal_name from first)) d)
              (sym (others (journal_name from first) (in_one from i k first name other is' is) (apart i k first name is' is))) (so_far.sources i first is')

      before : (i : ℕ) (first : List ℕ) → i < k → slice_get names i ≡ Some first
          → IsMoved Disk header (old (journal_name from first)) (old (journal_name to first)) (new (journal_name to first))
      before i first less is' =
          subst (λ d. IsMoved Disk header (old (journal_name from first)) (old (journal_name to first)) d)
          (sym (others (journal_name to first) (apart_back (journal_name from name) (journal_name to first) (apart k i name first is is'))
          (in_one to i k first name (λ same. omega (arith, less, same)) is' is))) (so_far.are i first less is')

      -- it is stopped at
      pub stopped : Moves Disk header from to names old new k (k + 1)
      stopped = record { are = before; sources = sources; others = touched }

      -- he is moved
      pub one_more : IsMoved Disk header (mid (journal_name from name)) (mid (journal_name to name)) (new (journal_name to name))
          → Moves Disk header from to names old new (k + 1) (k + 1)
      one_more moved = record { are = λ i first less is'. by_place i first (parted i k less) is'; sources = sources; others = touched }
        where
          parted : (i k : ℕ) → i < k + 1 → (i < k) ⊎ (i ≡ k)
          parted i k less = grind (arith, less)

          last : IsMoved Disk header (old (journal_name from name)) (old (journal_name to name)) (new (journal_name to name))
          last = subst (λ d. IsMoved Disk header d (old (journal_name to name)) (new (journal_name to name))) source_not_yet
              (subst (λ d. IsMoved Disk header (mid (journal_name from name)) d (new (journal_name to name))) target_not_yet moved)

          by_place : (i : ℕ) (first : List ℕ) → (i < k) ⊎ (i ≡ k) → slice_get names i ≡ Some first
              → IsMoved Disk header (old (journal_name from first)) (old (journal_name to first)) (new (journal_name to first))
          by_place i first (inl less) is' = before i first less is'
          by_place i first (inr same) is' =
              subst (λ n. IsMoved Disk header (old (journal_name from n)) (old (journal_name to n)) (new (journal_name to n)))
              (same_some name first (sym is ∙ ap (λ j. slice_get names j) (sym same) ∙ is')) last

-- The reason at a user, from where the call began: his two disks stood then as they stood before him.
module _ {D : Type 0} (told : Type 0) (Disk : DiskGhosts D) (header source target : List ℕ) (first later : Change D)
    (same : told → later.old source ≡ first.old source) (same' : told → later.old target ≡ first.old target)
    (counts : (n : List ℕ) → first.before n ≤ later.before n) (ends : (n : List ℕ) → later.now n ≡ first.now n)
    (shelf : first.shelf_before ≤ later.shelf_before) (shelf' : later.shelf_now ≡ first.shelf_now) where
  opened : WasOpened told Disk header source target later → WasOpened told Disk header source target first
  opened was t = subst (λ d. (all : List Recorded) × IsOldJournal header all (bytes_on Disk.reads d)) (same t) (was t)

  pub reason_first : (why : Stop) → HasReason told Disk header source target later why → HasReason told Disk header source target first why
  reason_first (stop.Refused why) is = (
    is.0,
    refused_of told told (old_header header) (bytes_on Disk.reads (later.old source)) (bytes_on Disk.reads (first.old source)) (later.before source)
        (first.before source) (later.now source) (first.now source) (λ t. t) (λ t. ap (bytes_on Disk.reads) (same t)) (counts source)
        (omega (arith, ends source)) 4 why is.1,
  )
  reason_first stop.NotEmpty is = (opened is.0, λ t none. is.1 t (ap (bytes_on Disk.reads) (same' t) ∙ none))
  reason_first stop.DiskFault is = (
    opened is.0,
    rose_wide (first.before target) (later.before target) (later.now target) (first.now target) (counts target) (omega (arith, ends target)) is.1,
  )
  reason_first stop.ShelfFault is =
      rose_wide first.shelf_before later.shelf_before later.shelf_now first.shelf_now shelf (omega (arith, shelf')) is
  reason_first stop.Memory is = tt

-- The shelf as it was at first, before the next user and after him; he is stopped at.
module _ {D : Type 0} (told : Type 0) (Disk : DiskGhosts D) (header from to : List ℕ) (names : List (List ℕ))
    (once : has_duplicate names ≡ false) (differ : JournalsDiffer) (apart : AreApart from to names)
    (old mid new : List ℕ → Option D) (before middle now : List ℕ → ℕ) (shelf_before shelf_middle shelf_now : ℕ)
    (k : ℕ) (name : List ℕ) (is : slice_get names k ≡ Some name) (so_far : told → Moves Disk header from to names old mid k k)
    (others : SameBut (journal_name from name) (journal_name to name) mid new)
    (stays : told → Stays Disk (mid (journal_name from name)) (new (journal_name from name)))
    (counts : (n : List ℕ) → before n ≤ middle n) (later : shelf_before ≤ shelf_middle) where
  abbrev whole : Change D
  whole = record { old = old; new = new; before = before; now = now; shelf_before = shelf_before; shelf_now = shelf_now }

  abbrev last : Change D
  last = record { old = mid; new = new; before = middle; now = now; shelf_before = shelf_middle; shelf_now = shelf_now }

  target_is : told → mid (journal_name to name) ≡ old (journal_name to name)
  target_is t = target_not_yet Disk header from to names once differ apart old mid new k name is (so_far t) others (stays t)

  source_is : told → mid (journal_name from name) ≡ old (journal_name from name)
  source_is t = source_not_yet Disk header from to names once differ apart old mid new k name is (so_far t) others (stays t)

  abbrev Left : (List ℕ → Option D) → Stop → Type 0
  Left old why =
      LeavesTarget Disk header (bytes_on Disk.reads (old (journal_name from name))) (old (journal_name to name)) (new (journal_name to name)) why

  stops : (why : Stop) → HasReason told Disk header (journal_name from name) (journal_name to name) last why
      → (told → Left mid why)
      → StopsAt told Disk header from to names whole k why
  stops why reason target = record {
    name = name;
    is = is;
    reason =
        reason_first told Disk header (journal_name from name) (journal_name to name) whole last
        source_is target_is
        counts (λ n. refl) later refl why reason;
    target = λ t.
        subst (λ d. LeavesTarget Disk header (bytes_on Disk.reads d) (old (journal_name to name)) (new (journal_name to name)) why) (source_is t)
        (subst (λ d. LeavesTarget Disk header (bytes_on Disk.reads (mid (journal_name from name))) d (new (journal_name to name)) why) (target_is t)
        (target t));
    moves = λ t. stopped Disk header from to names once differ apart old mid new k name is (so_far t) others (stays t);
  }

  pub ends : (why : Stop) → HasReason told Disk header (journal_name from name) (journal_name to name) last why
      → (told → Left mid why)
      → EndsMigrate told Disk header from to names whole (end_of k why)
  ends (stop.Refused why) reason target = stops (stop.Refused why) reason target
  ends stop.NotEmpty reason target = stops stop.NotEmpty reason target
  ends stop.DiskFault reason target = (k, stops stop.DiskFault reason target)
  ends stop.ShelfFault reason target = (k, stops stop.ShelfFault reason target)
  ends stop.Memory reason target = (k, stops stop.Memory reason target)
