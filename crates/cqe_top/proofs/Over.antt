-- What an engine did over a shelf whose files were read before it, the call did.
use Rattle.std.proofs.Common.{◌≡◌, ℕ, zero, suc, ◌≤◌, ◌<◌, List, [], ◌∷◌, ◌++◌, length, map, refl, sym, ap, subst, ◌∙◌, arith}
use Rattle.std.specs.Prelude.{Some, None, slice_get}
use Rattle.outside.proofs.Rises.{rose_since}
use Rattle.outside.proofs.Taken.{Rests}
use Rattle.outside.specs.Disk.{Only}
use Rattle.outside.specs.Faults.{Rose}
use Rattle.outside.specs.Shelf.{SameNames, SameOthers, bytes_on, image_on, is_among, SameBeside, SameBytes, NoNewImages, NoNewMoments, NoneFell, SomeRose}
use Rattle.outside.specs.Visits.{Visit}
use Rattle.outside.specs.declared.disk.Disk.{Ghosts as DiskGhosts}
use Rattle.outside.specs.declared.shelf.Shelf.{Ghosts as ShelfGhosts}
use Rattle.cqe_base.specs.Facts.{FactSet}
use Rattle.cqe_base.specs.Schema.{Text}
use Rattle.cqe_base.specs.declared.user.User.{User}
use Rattle.audit_engine.specs.Ends.{IsSilent}
use Rattle.audit_engine.specs.declared.end.AuditEnd.{AuditEnd}
use Rattle.audit_engine.specs.declared.end.AuditEnd.TheVariants as audit_end
use Rattle.dossier_engine.specs.Ends as dossier
use Rattle.dossier_engine.specs.declared.end.DossierEnd.{DossierEnd}
use Rattle.dossier_engine.specs.declared.end.DossierEnd.TheVariants as dossier_end
use Rattle.batch_engine.specs.Batch as batch
use Rattle.batch_engine.specs.declared.run.BatchEnd.{BatchEnd}
use Rattle.command_words.specs.Readings.{FileNames}
use Rattle.desk_crew.specs.Crew.{named_user}
use Rattle.desk_crew.specs.Shelved.{Journals, journals_by}
use Rattle.init_engine.specs.Disks as init
use Rattle.init_engine.specs.Ends.{Change, EndsInit}
use Rattle.init_engine.specs.declared.end.InitEnd.{InitEnd}
use Rattle.init_engine.specs.declared.end.InitEnd.TheVariants as init_end
use Rattle.log_journal.specs.Names.{journal_name}
use Rattle.log_journal.specs.Opening.{IsRefused, IsRefusedOld}
use Rattle.log_journal.specs.declared.header.OpenError.{OpenError}
use Rattle.log_journal.specs.declared.header.OpenError.TheVariants.{DiskFault}
use Rattle.log_journal.specs.declared.header.Header.{Header}
use Rattle.migrate_engine.specs.Ends.{EndsMigrate}
use Rattle.migrate_engine.specs.declared.end.MigrateEnd.{MigrateEnd}
use Rattle.migrate_engine.specs.declared.end.MigrateEnd.TheVariants as migrate_end
use Rattle.policy_files.specs.Memory.{policy_value_of}
use Rattle.policy_files.specs.Users.{names_of}
use Rattle.policy_files.specs.declared.policy.Policy.{Policy}
use Rattle.serve_engine.specs.Serving as serving
use Rattle.serve_engine.specs.declared.run.ServeEnd.{ServeEnd}
use Rattle.standby_engine.specs.Standing as standing
use Rattle.standby_engine.specs.declared.run.CopyEnd.{CopyEnd}
use Rattle.cqe_top.specs.Files.{TouchesOnlyJournals, CountsOnlyJournals, journals_of, new_users}
use Rattle.cqe_top.specs.Init.{NamesOneOf}
use Rattle.cqe_top.specs.Migrate.{CountsOnlyBoth, IsAtOneOf}
use Rattle.cqe_top.specs.Scene.{shelf_of}
use Rattle.cqe_top.proofs.Users.{names_are, batch_names_are, new_users_are}
use Rattle.cqe_top.specs.Files.{change_on}

module _ {F D : Type 0} (Shelf : ShelfGhosts F D) (Disk : DiskGhosts D) (old mid new : F)
    (disks : SameNames (Shelf.disk old) (Shelf.disk mid)) (counts : SameNames (Shelf.disk_faults old) (Shelf.disk_faults mid)) where
  -- no count fell
  pub none_fell : NoneFell (Shelf.disk_faults mid) (Shelf.disk_faults new) → NoneFell (Shelf.disk_faults old) (Shelf.disk_faults new)
  none_fell fell name = subst (λ n. n ≤ Shelf.disk_faults new name) (counts name) (fell name)

  -- a count that rose behind the files rose in the call
  pub some_rose : SomeRose (Shelf.disk_faults mid) (Shelf.disk_faults new) → SomeRose (Shelf.disk_faults old) (Shelf.disk_faults new)
  some_rose (name, rose) = (name, subst (λ n. Rose n (Shelf.disk_faults new name)) (counts name) rose)

  module _ (files : FileNames) where
    -- the journals are the same
    pub same_journals : journals_of (shelf_of Shelf Disk mid new) files ≡ journals_of (shelf_of Shelf Disk old new) files
    same_journals =
        λ i. journals_by Disk.reads Disk.image Disk.moment Disk.image_since Disk.tellable files.directory (λ name. disks name i) (Shelf.disk new)
        (λ name. counts name i)
        (Shelf.disk_faults new)

    -- no disk but the journals of the policy's users was touched, and no other count changed
    pub touches_over : (policy : Policy) (users : List User) → users ≡ policy.users.items
        → SameBeside (map (journal_name files.directory) (map (λ user. user.name) (map named_user users))) (Shelf.disk mid) (Shelf.disk new)
        → SameBeside (map (journal_name files.directory) (map (λ user. user.name) (map named_user users))) (Shelf.disk_faults mid) (Shelf.disk_faults new)
        → TouchesOnlyJournals (shelf_of Shelf Disk old new) files (policy_value_of policy)
    touches_over policy users are touched counted = (
      λ name none. touched name (ap (λ ns. is_among (map (journal_name files.directory) ns) name) names ∙ none) ∙ disks name,
      λ name none. counted name (ap (λ ns. is_among (map (journal_name files.directory) ns) name) names ∙ none) ∙ counts name,
    )
      where
        names : map (λ user. user.name) (map named_user users) ≡ names_of (policy_value_of policy).users
        names = ap (λ us. map (λ user. user.name) (map named_user us)) are ∙ batch_names_are policy.users.items ∙ names_are policy.users.items

    -- the same of the counts where journals were made
    pub counts_over : (policy : Policy) (users : List User) → users ≡ policy.users.items
        → SameBeside (map (journal_name files.directory) (init.user_names users)) (Shelf.disk_faults mid) (Shelf.disk_faults new)
        → CountsOnlyJournals (shelf_of Shelf Disk old new) files (policy_value_of policy)
    counts_over policy users are counted name none =
        counted name (ap (λ ns. is_among (map (journal_name files.directory) ns) name) (ap init.user_names are ∙ names_are policy.users.items) ∙ none)
        ∙ counts name

    -- and where journals were moved
    pub counts_both : (to : Text) (policy : Policy) (users : List User) → users ≡ policy.users.items
        → SameBeside (map (journal_name files.directory) (init.user_names users) ++ map (journal_name to) (init.user_names users)) (Shelf.disk_faults mid)
        (Shelf.disk_faults new)
        → CountsOnlyBoth (shelf_of Shelf Disk old new) files to (names_of (policy_value_of policy).users)
    counts_both to policy users are counted name none =
        counted name (ap (λ ns. is_among (map (journal_name files.directory) ns ++ map (journal_name to) ns) name)
        (ap init.user_names are ∙ names_are policy.users.items) ∙ none)
        ∙ counts name

    -- what changed behind the files changed in the call, but for the shelf's own count
    abbrev later_change : Change D
    later_change = record (change_on (shelf_of Shelf Disk old new)) { shelf_before = Shelf.faults mid }

    same_change : change_on (shelf_of Shelf Disk mid new) ≡ later_change
    same_change = λ i. record {
      old = λ name. disks name i;
      new = Shelf.disk new;
      before = λ name. counts name i;
      now = Shelf.disk_faults new;
      shelf_before = Shelf.faults mid;
      shelf_now = Shelf.faults new;
    }

    rose_earlier : Shelf.faults old ≤ Shelf.faults mid → Rose (Shelf.faults mid) (Shelf.faults new) → Rose (Shelf.faults old) (Shelf.faults new)
    rose_earlier later = rose_since (Shelf.faults old) (Shelf.faults mid) (Shelf.faults new) later

    -- the making of journals ended so, by the disks and the counts of a change
    abbrev Ended : List ℕ → Policy → Change D → InitEnd → Type 0
    Ended header policy change made = EndsInit Shelf.tells Disk header files.directory (names_of (policy_value_of policy).users) change made

    pub init_over : (header : List ℕ) (policy : Policy) (users : List User) (made : InitEnd) → users ≡ policy.users.items → Shelf.faults old ≤ Shelf.faults mid
        → EndsInit Shelf.tells Disk header files.directory (init.user_names users) (change_on (shelf_of Shelf Disk mid new)) made
        → EndsInit Shelf.tells Disk header files.directory (names_of (policy_value_of policy).users)
        (change_on (shelf_of Shelf Disk old new)) made
    init_over header policy users made are later ended =
        earlier made (subst (λ c. Ended header policy c made) same_change
        (subst (λ names. EndsInit Shelf.tells Disk header files.directory names (change_on (shelf_of Shelf Disk mid new)) made)
        (ap init.user_names are ∙ names_are policy.users.items) ended))
      where
        earlier : (made : InitEnd) → Ended header policy later_change made → Ended header policy (change_on (shelf_of Shelf Disk old new)) made
        earlier init_end.Done ended = ended
        earlier (init_end.Refused user why) ended = record { name = ended.name; is = ended.is; reason = ended.reason; kept = ended.kept; ready = ended.ready }
        earlier init_end.DiskFault (user, ended) =
            (user, record { name = ended.name; is = ended.is; reason = ended.reason; kept = ended.kept; ready = ended.ready })
        earlier init_end.ShelfFault (user, ended) =
            (user, record { name = ended.name; is = ended.is; reason = rose_earlier later ended.reason; kept = ended.kept; ready = ended.ready })
        earlier init_end.Memory (user, ended) =
            (user, record { name = ended.name; is = ended.is; reason = ended.reason; kept = ended.kept; ready = ended.ready })

    -- the moving of journals ended so
    abbrev Moved : List ℕ → Text → List Text → Change D → MigrateEnd → Type 0
    Moved header to names change made = EndsMigrate Shelf.tells Disk header files.directory to names change made

    pub migrate_over : (header : List ℕ) (to : Text) (policy : Policy) (users : List User) (made : MigrateEnd) → users ≡ policy.users.items
        → Shelf.faults old ≤ Shelf.faults mid
        → EndsMigrate Shelf.tells Disk header files.directory to (init.user_names users) (change_on (shelf_of Shelf Disk mid new)) made
        → EndsMigrate Shelf.tells Disk header files.directory to (names_of (policy_value_of policy).users)
        (change_on (shelf_of Shelf Disk old new)) made
    migrate_over header to policy users made are later ended =
        earlier made (subst (λ c. Moved header to names c made) same_change
        (subst (λ ns. Moved header to ns (change_on (shelf_of Shelf Disk mid new)) made) (ap init.user_names are ∙ names_are policy.users.items) ended))
      where
        names : List Text
        names = names_of (policy_value_of policy).users

        earlier : (made : MigrateEnd) → Moved header to names later_change made → Moved header to names (change_on (shelf_of Shelf Disk old new)) made
        earlier migrate_end.Done ended = ended
        earlier (migrate_end.Refused user why) ended =
            record { name = ended.name; is = ended.is; reason = ended.reason; target = ended.target; moves = ended.moves }
        earlier (migrate_end.NotEmpty user) ended =
            record { name = ended.name; is = ended.is; reason = ended.reason; target = ended.target; moves = ended.moves }
        earlier migrate_end.DiskFault (user, ended) =
            (user, record { name = ended.name; is = ended.is; reason = ended.reason; target = ended.target; moves = ended.moves })
        earlier migrate_end.ShelfFault (user, ended) =
            (user, record { name = ended.name; is = ended.is; reason = rose_earlier later ended.reason; target = ended.target; moves = ended.moves })
        earlier migrate_end.Memory (user, ended) =
            (user, record { name = ended.name; is = ended.is; reason = ended.reason; target = ended.target; moves = ended.moves })

  -- ---- the look at one disk

  -- of the journal of one user, who has the name that was asked for
  module _ (directory name owner : Text) (is : owner ≡ name) where
    pub record OneOver : Type 0 where
      pub others : SameOthers (journal_name directory owner) (Shelf.disk mid) (Shelf.disk new)
          → SameOthers (journal_name directory name) (Shelf.disk old) (Shelf.disk new)
      pub other_counts : SameOthers (journal_name directory owner) (Shelf.disk_faults mid) (Shelf.disk_faults new)
          → SameOthers (journal_name directory name) (Shelf.disk_faults old) (Shelf.disk_faults new)
      pub bytes : SameBytes Disk.reads (Shelf.disk mid) (Shelf.disk new) → SameBytes Disk.reads (Shelf.disk old) (Shelf.disk new)
      pub images : NoNewImages Disk.image (Shelf.disk mid) (Shelf.disk new) → NoNewImages Disk.image (Shelf.disk old) (Shelf.disk new)
      pub moments : NoNewMoments Disk.moment Disk.image_since Disk.image (Shelf.disk mid) (Shelf.disk new)
          → NoNewMoments Disk.moment Disk.image_since Disk.image (Shelf.disk old) (Shelf.disk new)
      pub durable : Only (bytes_on Disk.reads (Shelf.disk mid (journal_name directory owner)))
          (image_on Disk.image (Shelf.disk new (journal_name directory owner)))
          → Only (bytes_on Disk.reads (Shelf.disk old (journal_name directory name))) (image_on Disk.image (Shelf.disk new (journal_name directory name)))

    pub one_over : OneOver
    one_over = record {
      others = λ others other apart.
          subst (λ n. SameOthers (journal_name directory n) (Shelf.disk mid) (Shelf.disk new)) is others other apart ∙ disks other;
      other_counts = λ others other apart.
          subst (λ n. SameOthers (journal_name directory n) (Shelf.disk_faults mid) (Shelf.disk_faults new)) is others other apart ∙ counts other;
      bytes = λ bytes other. bytes other ∙ ap (bytes_on Disk.reads) (disks other);
      images = λ images other c left. subst (λ d. image_on Disk.image d c) (disks other) (images other c left);
      moments = λ moments other. subst (λ d. Rests Disk d (Shelf.disk new other)) (disks other) (moments other);
      durable = λ only.
          subst (λ o. Only (bytes_on Disk.reads o) (image_on Disk.image (Shelf.disk new (journal_name directory name)))) (disks (journal_name directory name))
          (subst (λ n. Only (bytes_on Disk.reads (Shelf.disk mid (journal_name directory n))) (image_on Disk.image (Shelf.disk new (journal_name directory n))))
          is only);
    }

-- what holds behind a fault of the shelf and where memory was wanting holds of each audit of which nothing was written
pub silent_end : {S : Type 0} (end : AuditEnd) → (end ≡ audit_end.ShelfFault → S) → (end ≡ audit_end.Memory → S) → IsSilent end → S
silent_end audit_end.Done fault wanted silent = absurd silent
silent_end (audit_end.Refused why) fault wanted silent = absurd silent
silent_end audit_end.WriteFault fault wanted silent = absurd silent
silent_end audit_end.ShelfFault fault wanted silent = fault refl
silent_end audit_end.Memory fault wanted silent = wanted refl

-- so it is with dossiers
pub silent_dossier : {S : Type 0} (end : DossierEnd) → (end ≡ dossier_end.ShelfFault → S) → (end ≡ dossier_end.Memory → S) → dossier.IsSilent end → S
silent_dossier dossier_end.Done fault wanted silent = absurd silent
silent_dossier (dossier_end.Refused why) fault wanted silent = absurd silent
silent_dossier dossier_end.WriteFault fault wanted silent = absurd silent
silent_dossier dossier_end.ShelfFault fault wanted silent = fault refl
silent_dossier dossier_end.Memory fault wanted silent = wanted refl

-- the end of a batch over other journals that are the same, and over the users of the policy
pub batch_over : (policy : Policy) (world : FactSet) (header : List ℕ) (users : List User) (journals journals' : Journals) (end : BatchEnd)
    (before after old new : List ℕ)
    → journals ≡ journals' → users ≡ policy.users.items → batch.EndsBatch policy.schema world header journals (map named_user users) end before after old new
    → batch.EndsBatch policy.schema world header journals' (new_users (policy_value_of policy)) end before after old new
batch_over policy world header users journals journals' end before after old new same are ended =
    subst (λ (j : Journals). batch.EndsBatch policy.schema world header j (new_users (policy_value_of policy)) end before after old new) same
    (subst (λ us. batch.EndsBatch policy.schema world header journals us end before after old new)
    (sym (new_users_are policy ∙ ap (map named_user) (sym are))) ended)

-- so does what it leaves of them
pub batch_left : (policy : Policy) (world : FactSet) (header : List ℕ) (users : List User) (journals journals' : Journals) (end : BatchEnd)
    → journals ≡ journals' → users ≡ policy.users.items → batch.LeavesJournals policy.schema world header journals (map named_user users) end
    → batch.LeavesJournals policy.schema world header journals' (new_users (policy_value_of policy)) end
batch_left policy world header users journals journals' end same are left =
    subst (λ (j : Journals). batch.LeavesJournals policy.schema world header j (new_users (policy_value_of policy)) end) same
    (subst (λ us. batch.LeavesJournals policy.schema world header journals us end) (sym (new_users_are policy ∙ ap (map named_user) (sym are))) left)

-- so does that of a serving
pub serve_over : (policy : Policy) (world : FactSet) (header : List ℕ) (users : List User) (journals journals' : Journals) (end : ServeEnd) (given given' : ℕ)
    (back back' : List Visit)
    → journals ≡ journals' → users ≡ policy.users.items → serving.EndsServing policy.schema world header journals users given given' back back' end
    → serving.EndsServing policy.schema world header journals' policy.users.items given given' back back' end
serve_over policy world header users journals journals' end given given' back back' same are ended =
    subst (λ (j : Journals). serving.EndsServing policy.schema world header j policy.users.items given given' back back' end) same
    (subst (λ us. serving.EndsServing policy.schema world header journals us given given' back back' end) are ended)

pub serve_left : (policy : Policy) (world : FactSet) (header : List ℕ) (users : List User) (journals journals' : Journals) (end : ServeEnd)
    → journals ≡ journals' → users ≡ policy.users.items → serving.LeavesJournals policy.schema world header journals users end
    → serving.LeavesJournals policy.schema world header journals' policy.users.items end
serve_left policy world header users journals journals' end same are left =
    subst (λ (j : Journals). serving.LeavesJournals policy.schema world header j policy.users.items end) same
    (subst (λ us. serving.LeavesJournals policy.schema world header journals us end) are left)

-- and what a standby leaves
pub copies_left : (policy : Policy) (header : List ℕ) (users : List User) (journals journals' : Journals) (end : CopyEnd)
    → journals ≡ journals' → users ≡ policy.users.items → standing.LeavesCopies header journals users end
    → standing.LeavesCopies header journals' policy.users.items end
copies_left policy header users journals journals' end same are left =
    subst (λ (j : Journals). standing.LeavesCopies header j policy.users.items end) same
    (subst (λ us. standing.LeavesCopies header journals us end) are left)

pub copies_served : (policy : Policy) (header : Header) (users : List User) (journals journals' : Journals) (given given' : ℕ) (back back' : List Visit)
    (end : CopyEnd)
    → journals ≡ journals' → users ≡ policy.users.items → standing.EndsCopying header journals users given given' back back' end
    → standing.EndsCopying header journals' policy.users.items given given' back back' end
copies_served policy header users journals journals' given given' back back' end same are served =
    subst (λ (j : Journals). standing.EndsCopying header j policy.users.items given given' back back' end) same
    (subst (λ us. standing.EndsCopying header journals us given given' back back' end) are served)

-- a user at whom the making of journals stopped is one of them
is_within : (users : List User) (number : ℕ) (name : Text) → slice_get (init.user_names users) number ≡ Some name → number < length users
is_within [] number name at = let clash : None ≡ Some name = at in absurd cc
is_within (user ∷ users) zero name at = omega arith
is_within (user ∷ users) (suc number) name at = let less : number < length users = is_within users number name at in omega (arith, less)

pub one_of : {D : Type 0} (told : Type 0) (Disk : DiskGhosts D) (header directory : List ℕ) (users others : List User)
    (change : Change D) (made : InitEnd)
    → users ≡ others → EndsInit told Disk header directory (init.user_names users) change made → NamesOneOf others made
one_of told Disk header directory users others change (init_end.Refused user why) are ended =
    subst (λ us. user < length us) are (is_within users user ended.name ended.is)
one_of told Disk header directory users others change init_end.Done are ended = tt
one_of told Disk header directory users others change init_end.DiskFault are ended = tt
one_of told Disk header directory users others change init_end.ShelfFault are ended = tt
one_of told Disk header directory users others change init_end.Memory are ended = tt

-- the making of journals stops for a fault only where the count rose
pub init_caused : {D : Type 0} (told : Type 0) (Disk : DiskGhosts D) (header directory : List ℕ) (names : List Text)
    (change : Change D) (made : InitEnd)
    → EndsInit told Disk header directory names change made
    → (made ≡ init_end.ShelfFault → Rose change.shelf_before change.shelf_now) × (made ≡ init_end.DiskFault → SomeRose change.before change.now)
init_caused told Disk header directory names change made ended = (
  λ is. (subst (λ m. EndsInit told Disk header directory names change m) is ended).1.reason,
  λ is. let stops = subst (λ m. EndsInit told Disk header directory names change m) is ended in (journal_name directory stops.1.name, stops.1.reason),
)

-- and so where a journal is refused for a fault of its disk
pub init_refused : {D : Type 0} (told : Type 0) (Disk : DiskGhosts D) (header directory : List ℕ) (names : List Text)
    (change : Change D) (made : InitEnd)
    → EndsInit told Disk header directory names change made
    → (user : ℕ) (why : OpenError) → made ≡ init_end.Refused user why → why ≡ DiskFault → SomeRose change.before change.now
init_refused told Disk header directory names change made ended user why is fault =
    let stops = subst (λ m. EndsInit told Disk header directory names change m) is ended in
    let own = journal_name directory stops.name in
    (own, subst (IsRefused told header (bytes_on Disk.reads (change.old own)) (change.before own) (change.now own)) fault stops.reason.2)

-- so is one at whose disks the moving of journals stopped
pub at_one_of : {D : Type 0} (told : Type 0) (Disk : DiskGhosts D) (header from to : List ℕ) (users others : List User)
    (change : Change D) (made : MigrateEnd)
    → users ≡ others → EndsMigrate told Disk header from to (init.user_names users) change made → IsAtOneOf others made
at_one_of told Disk header from to users others change (migrate_end.Refused user why) are ended =
    subst (λ us. user < length us) are (is_within users user ended.name ended.is)
at_one_of told Disk header from to users others change (migrate_end.NotEmpty user) are ended =
    subst (λ us. user < length us) are (is_within users user ended.name ended.is)
at_one_of told Disk header from to users others change migrate_end.Done are ended = tt
at_one_of told Disk header from to users others change migrate_end.DiskFault are ended = tt
at_one_of told Disk header from to users others change migrate_end.ShelfFault are ended = tt
at_one_of told Disk header from to users others change migrate_end.Memory are ended = tt

-- and it stops for a fault only where the count rose
pub migrate_caused : {D : Type 0} (told : Type 0) (Disk : DiskGhosts D) (header from to : List ℕ) (names : List Text)
    (change : Change D) (made : MigrateEnd)
    → EndsMigrate told Disk header from to names change made
    → (made ≡ migrate_end.ShelfFault → Rose change.shelf_before change.shelf_now) × (made ≡ migrate_end.DiskFault → SomeRose change.before change.now)
migrate_caused told Disk header from to names change made ended = (
  λ is. (subst (λ m. EndsMigrate told Disk header from to names change m) is ended).1.reason,
  λ is. let stops = subst (λ m. EndsMigrate told Disk header from to names change m) is ended in (journal_name to stops.1.name, stops.1.reason.1),
)

pub migrate_refused : {D : Type 0} (told : Type 0) (Disk : DiskGhosts D) (header from to : List ℕ) (names : List Text)
    (change : Change D) (made : MigrateEnd)
    → EndsMigrate told Disk header from to names change made
    → (user : ℕ) (why : OpenError) → made ≡ migrate_end.Refused user why → why ≡ DiskFault → SomeRose change.before change.now
migrate_refused told Disk header from to names change made ended user why is fault =
    let stops = subst (λ m. EndsMigrate told Disk header from to names change m) is ended in
    let own = journal_name from stops.name in
    (own, subst (IsRefusedOld told header (bytes_on Disk.reads (change.old own)) (change.before own) (change.now own)) fault stops.reason.1)
