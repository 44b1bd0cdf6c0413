-- The users one after the other.
use Rattle.std.proofs.Common.{◌≡◌, ◌⊎◌, ◌∙◌, sym, ap, subst, refl, inl, inr, ℕ, ◌<◌, ◌≤◌, ◌+◌, List, false, Option, Some, slice_get, bytes_eq, get_or, length}
use Rattle.std.proofs.Common.{string_bytes, option_map, map, arith}
use Rattle.std.proofs.lemmas.Option.{slice_get-map, slice_get_read}
use Rattle.outside.proofs.Rises.{rose_wide}
use Rattle.outside.specs.Shelf.{SameOthers, bytes_on, is_among}
use Rattle.outside.specs.declared.disk.Disk.{Ghosts as DiskGhosts}
use Rattle.cqe_base.specs.declared.user.User.{User}
use Rattle.cqe_base.specs.Schema.{has_duplicate}
use Rattle.log_journal.specs.Names.{journal_name, JournalsDiffer}
use Rattle.init_engine.specs.Disks.{user_names, IsMadeAt, Readies}
use Rattle.init_engine.specs.Stops.{HasReason, StaysAt}
use Rattle.init_engine.specs.Ends.{Change, StopsAt, EndsInit, end_of}
use Rattle.init_engine.specs.declared.end.Stop.{Stop}
use Rattle.init_engine.specs.declared.end.Stop.TheVariants as stop
use Rattle.init_engine.proofs.Reasons.{reason_of}
use Rattle.init_engine.proofs.Apart.{names_apart, same_some, no_element}

module _ {D : Type 0} (Disk : DiskGhosts D) (header directory : List ℕ) (names : List (List ℕ))
    (once : has_duplicate names ≡ false) (differ : JournalsDiffer) where
  -- the journals of two of the users have two names
  journals_apart : (i k : ℕ) (first second : List ℕ) → (i ≡ k → ⊥) → slice_get names i ≡ Some first → slice_get names k ≡ Some second
      → bytes_eq (journal_name directory first) (journal_name directory second) ≡ false
  journals_apart i k first second other is is' = differ directory first second ∙ names_apart names once i k first second other is is'

  module _ (old mid new : List ℕ → Option D) (k : ℕ) (name : List ℕ) (is : slice_get names k ≡ Some name)
      (so_far : Readies Disk header directory names old mid k k) (others : SameOthers (journal_name directory name) mid new) where
    -- the disk of the next user stands as it stood at first
    pub not_yet : mid (journal_name directory name) ≡ old (journal_name directory name)
    not_yet = so_far.others (journal_name directory name) (λ i first less is'. journals_apart k i name first (λ same. omega (arith, less, same)) is is')

    touched : (other : List ℕ) → ((i : ℕ) (first : List ℕ) → i < k + 1 → slice_get names i ≡ Some first → bytes_eq other (journal_name directory first) ≡ false)
        → new other ≡ old other
    touched other apart =
        others other (apart k name (omega arith) is) ∙ so_far.others other (λ i first less is'. apart i first (omega (arith, less)) is')

    before : (i : ℕ) (first : List ℕ) → i < k → slice_get names i ≡ Some first
        → IsMadeAt Disk header (old (journal_name directory first)) (new (journal_name directory first))
    before i first less is' =
        subst (λ d. IsMadeAt Disk header (old (journal_name directory first)) d)
        (sym (others (journal_name directory first) (journals_apart i k first name (λ same. omega (arith, less, same)) is' is))) (so_far.are i first less is')

    -- it is stopped at
    pub stopped : Readies Disk header directory names old new k (k + 1)
    stopped = record { are = before; others = touched }

    -- it is made ready
    pub one_more : IsMadeAt Disk header (mid (journal_name directory name)) (new (journal_name directory name))
        → Readies Disk header directory names old new (k + 1) (k + 1)
    one_more ready = record { are = λ i first less is'. by_place i first (cases i k less) is'; others = touched }
      where
        cases : (i k : ℕ) → i < k + 1 → (i < k) ⊎ (i ≡ k)
        cases i k less = grind (arith, less)

        last : IsMadeAt Disk header (old (journal_name directory name)) (new (journal_name directory name))
        last = subst (λ d. IsMadeAt Disk header d (new (journal_name directory name))) not_yet ready

        by_place : (i : ℕ) (first : List ℕ) → (i < k) ⊎ (i ≡ k) → slice_get names i ≡ Some first
            → IsMadeAt Disk header (old (journal_name directory first)) (new (journal_name directory first))
        by_place i first (inl less) is' = before i first less is'
        by_place i first (inr same) is' =
            subst (λ n. IsMadeAt Disk header (old (journal_name directory n)) (new (journal_name directory n)))
            (same_some name first (sym is ∙ ap (λ j. slice_get names j) (sym same) ∙ is')) last

-- The shelf as it was at first, before the next user and after him; he is stopped at.
module _ {D : Type 0} (told : Type 0) (Disk : DiskGhosts D) (header directory : List ℕ) (names : List (List ℕ))
    (once : has_duplicate names ≡ false) (differ : JournalsDiffer)
    (old mid new : List ℕ → Option D) (before middle now : List ℕ → ℕ) (shelf_before shelf_middle shelf_now : ℕ)
    (k : ℕ) (name : List ℕ) (is : slice_get names k ≡ Some name) (so_far : told
    → Readies Disk header directory names old mid k k) (others : SameOthers (journal_name directory name) mid new)
    (counts : (n : List ℕ) → before n ≤ middle n) (later : shelf_before ≤ shelf_middle) where
  abbrev change : Change D
  change = record { old = old; new = new; before = before; now = now; shelf_before = shelf_before; shelf_now = shelf_now }

  abbrev journal : List ℕ
  journal = journal_name directory name

  stood : told → bytes_on Disk.reads (mid journal) ≡ bytes_on Disk.reads (old journal)
  stood t = ap (bytes_on Disk.reads) (not_yet Disk header directory names once differ old mid new k name is (so_far t) others)

  stops : (why : Stop) → HasReason told header (bytes_on Disk.reads (mid journal)) (middle journal) (now journal) shelf_middle shelf_now why
      → (told → StaysAt Disk (mid journal) (new journal) why) → StopsAt told Disk header directory names change k why
  stops why reason kept = record {
    name = name;
    is = is;
    reason =
        reason_of told told header (bytes_on Disk.reads (mid journal)) (bytes_on Disk.reads (old journal)) (middle journal) (before journal)
        (now journal) (now journal)
        (λ t. t) stood (counts journal) (omega arith) shelf_middle shelf_before shelf_now shelf_now
        (rose_wide shelf_before shelf_middle shelf_now shelf_now later (omega arith)) why reason;
    kept = λ t. subst (λ d. StaysAt Disk d (new journal) why)
        (not_yet Disk header directory names once differ old mid new k name is (so_far t) others) (kept t);
    ready = λ t. stopped Disk header directory names once differ old mid new k name is (so_far t) others;
  }

  pub ends : (why : Stop) → HasReason told header (bytes_on Disk.reads (mid journal)) (middle journal) (now journal) shelf_middle shelf_now why
      → (told → StaysAt Disk (mid journal) (new journal) why) → EndsInit told Disk header directory names change (end_of k why)
  ends (stop.Refused why) reason kept = stops (stop.Refused why) reason kept
  ends stop.DiskFault reason kept = (k, stops stop.DiskFault reason kept)
  ends stop.ShelfFault reason kept = (k, stops stop.ShelfFault reason kept)
  ends stop.Memory reason kept = (k, stops stop.Memory reason kept)

-- the name of the user at a place
pub name_at : (users : List User) (k : ℕ) (user : User) (text : List ℕ) → k < length users → user ≡ get_or users k user → text ≡ string_bytes user.name
    → slice_get (user_names users) k ≡ Some text
name_at users k user text within is same =
    slice_get-map (λ (u : User). string_bytes u.name) users k
    ∙ ap (λ o. option_map (λ (u : User). string_bytes u.name) o) (slice_get_read users (length users) k user refl within is)
    ∙ ap (λ (t : List ℕ). Some t) (sym same)

-- a name that is no user's journal isn't that of the user at a place
pub beside_at : (directory : List ℕ) (names : List (List ℕ)) (k : ℕ) (name other : List ℕ) → is_among (map (journal_name directory) names) other ≡ false
    → slice_get names k ≡ Some name → bytes_eq other (journal_name directory name) ≡ false
beside_at directory names k name other none is =
    no_element (bytes_eq other) (map (journal_name directory) names) k (journal_name directory name) none
    (slice_get-map (journal_name directory) names k ∙ ap (λ o. option_map (journal_name directory) o) is)
