-- A shelf whose disks a standby copies shows the journals of the shelf that it was lent, where the faults of each disk are counted with those of its dial.
use Rattle.std.proofs.Common.{◌≡◌, ◌⊎◌, ℕ, ◌+◌, ◌≤◌, ◌<◌, List, [], ◌∷◌, Option, Some, None, map, length, refl, sym, subst, ap, ◌∙◌, arith}
use Rattle.std.specs.Prelude.{option_map}
use Rattle.outside.specs.Dials.{Exchange}
use Rattle.outside.specs.Disk.{HeardNothing}
use Rattle.outside.specs.Faults.{Rose}
use Rattle.outside.specs.Visits.{Visit, DoorPlace as Listened}
use Rattle.outside.specs.Shelf.{SameNames, SameBeside, NoneFell, SomeRose, Lent, bytes_on, image_on, since_on, is_among}
use Rattle.outside.specs.declared.disk.Disk.{Ghosts as DiskGhosts}
use Rattle.outside.specs.declared.shelf.Shelf.{Ghosts as ShelfGhosts}
use Rattle.cqe_base.specs.Schema.{Text}
use Rattle.desk_crew.specs.Shelved.{journals_by, told_on, heard_on}
use Rattle.log_journal.specs.Walk.{AreThere}
use Rattle.log_journal.specs.Names.{journal_name}
use Rattle.standby_core.specs.MirroredDisks.{inner_of, mirror_of, told_by, heard_by, exchanged_by}
use Rattle.standby_core.proofs.Slotting.{silent_heard}
use Rattle.standby_core.specs.declared.mirror.Mirror.{Mirror}
use Rattle.standby_core.specs.Places.{mirror_in, faults_in, count_in}
use Rattle.standby_core.specs.Slots.{place_at, mirrored_at, marks_told}
use Rattle.standby_core.specs.declared.mirrored_disk.MirroredDisk.{MirroredDisk}
use Rattle.standby_core.specs.declared.slot.Place.{Place}
use Rattle.standby_core.specs.declared.slot.Slot.{Slot}
use Rattle.standby_core.specs.Doors as doors
use Rattle.command_words.specs.Readings.{FileNames}
use Rattle.cqe_base.specs.declared.user.User.{User}
use Rattle.desk_crew.specs.Crew.{named_user}
use Rattle.outside.specs.declared.links.Links.{Ghosts as LinksGhosts}
use Rattle.policy_files.specs.Memory.{policy_value_of}
use Rattle.policy_files.specs.declared.policy.Policy.{Policy}
use Rattle.cqe_top.specs.Mirrored.{KeepsDoors}
use Rattle.cqe_top.specs.Files.{TouchesOnlyJournals, journals_of}
use Rattle.cqe_top.specs.Scene.{ShelfScene, shelf_of, links_of}
use Rattle.cqe_top.specs.Steps.{mirrored_counts, mirrored_journals}
use Rattle.policy_files.specs.Users.{names_of}
use Rattle.cqe_top.proofs.Users.{names_are, batch_names_are}

-- ---- one disk with its mirror

bytes_under : {D C : Type 0} {g : _} (reads : D → List ℕ) (o : Option D) (place : Option (Place C g))
    → bytes_on (λ d. reads (inner_of d)) (mirrored_at o place) ≡ bytes_on reads o
bytes_under reads None place = refl
bytes_under reads (Some d) place = refl

image_under : {D C : Type 0} {g : _} (image : D → List ℕ → Type 0) (o : Option D) (place : Option (Place C g))
    → image_on (λ d. image (inner_of d)) (mirrored_at o place) ≡ image_on image o
image_under image None place = refl
image_under image (Some d) place = refl

moment_under : {D C : Type 0} {g : _} (moment : D → ℕ) (o : Option D) (place : Option (Place C g))
    → option_map (λ d. moment (inner_of d)) (mirrored_at o place) ≡ option_map moment o
moment_under moment None place = refl
moment_under moment (Some d) place = refl

since_under : {D C : Type 0} {g : _} (since : D → ℕ → List ℕ → Type 0) (o : Option D) (place : Option (Place C g))
    → since_on (λ d. since (inner_of d)) (mirrored_at o place) ≡ since_on since o
since_under since None place = refl
since_under since (Some d) place = refl

-- a mirror whose dial exchanged nothing told of nothing
unheard : {C : Type 0} {g : _} (told : Type 0) (exchanged : C → List Exchange) (mirror : Option (Mirror C g))
    → (told → length (exchanged_by exchanged mirror) ≡ 0) → HeardNothing (heard_by told exchanged mirror)
unheard told exchanged None silent number one heard = heard
unheard told exchanged (Some mirror) silent number one heard = silent_heard told exchanged mirror silent number one heard

told_under : {D C : Type 0} {g : _} (answered : C → ℕ) (o : Option D) (place : Option (Place C g))
    → told_on (λ (d : MirroredDisk D C g). told_by answered (mirror_of d)) (mirrored_at o place) ≡ marks_told answered o place
told_under answered None place = refl
told_under answered (Some d) place = refl

-- what a disk with its mirror was told of lies on the disk beneath it; where there is none its dial told of nothing
lie_under : {D C : Type 0} {g : _} (reads : D → List ℕ) (told : Type 0) (exchanged : C → List Exchange) (o : Option D) (place : Option (Place C g))
    → (o ≡ None → told → count_in exchanged place ≡ 0)
    → AreThere (heard_on (λ (d : MirroredDisk D C g). heard_by told exchanged (mirror_of d)) (mirrored_at o place))
    (bytes_on (λ d. reads (inner_of d)) (mirrored_at o place))
    → AreThere (heard_by told exchanged (mirror_in place)) (bytes_on reads o)
lie_under reads told exchanged None place unused there = λ number one heard. absurd (unheard told exchanged (mirror_in place) (unused refl) number one heard)
lie_under reads told exchanged (Some d) place unused there = there

-- what the shelf holds beneath its mirrors
lent_disk : {D C : Type 0} {g : _} (o : Option D) (place : Option (Place C g)) → option_map inner_of (mirrored_at o place) ≡ o
lent_disk None place = refl
lent_disk (Some d) place = refl

none_more : (n m : ℕ) → m ≡ 0 → n + m ≡ n
none_more n m is = omega (arith, is)

-- ---- all of them

-- the shelf and the mirrors as they were lent, by what the shelf with mirrors has of them
module _ {F D C : Type 0} {g : _} (Shelf : ShelfGhosts F D) (Disk : DiskGhosts D) (faults : C → ℕ) (lent old new : F) (was : lent ≡ old)
    (lent_slots slots slots' : List (Slot C g)) (were : lent_slots ≡ slots) (fresh : (name : Text) → faults_in faults (place_at slots name) ≡ 0) where
  -- the exchanges that failed for the disk of a name
  abbrev failed : Text → ℕ
  failed name = faults_in faults (place_at slots' name)

  -- the number below which its marks may be told
  abbrev marks : (C → ℕ) → Text → ℕ
  marks answered name = marks_told answered (Shelf.disk new name) (place_at slots' name)

  mirrors_mirrored : (answered : C → ℕ) (directory : Text)
      → journals_by (λ d. Disk.reads (inner_of d)) (λ d. Disk.image (inner_of d)) (λ d. Disk.moment (inner_of d)) (λ d. Disk.image_since (inner_of d))
      (λ d. told_by answered (mirror_of d)) directory
      (λ name. mirrored_at (Shelf.disk old name) (place_at slots name)) (λ name. mirrored_at (Shelf.disk new name) (place_at slots' name))
      (λ name. Shelf.disk_faults old name + faults_in faults (place_at slots name))
      (λ name. Shelf.disk_faults new name + faults_in faults (place_at slots' name))
      ≡ mirrored_journals Shelf Disk directory old new failed (marks answered)
  mirrors_mirrored answered directory = λ i. record {
    bytes = λ name. bytes_under Disk.reads (Shelf.disk old (journal_name directory name)) (place_at slots (journal_name directory name)) i;
    image_before = λ name. image_under Disk.image (Shelf.disk old (journal_name directory name)) (place_at slots (journal_name directory name)) i;
    before = λ name. none_more (Shelf.disk_faults old (journal_name directory name)) (faults_in faults (place_at slots (journal_name directory name)))
        (fresh (journal_name directory name)) i;
    now = λ name. mirrored_counts (Shelf.disk_faults new) failed (journal_name directory name);
    reads = λ name. bytes_under Disk.reads (Shelf.disk new (journal_name directory name)) (place_at slots' (journal_name directory name)) i;
    image = λ name. image_under Disk.image (Shelf.disk new (journal_name directory name)) (place_at slots' (journal_name directory name)) i;
    began = λ name. moment_under Disk.moment (Shelf.disk old (journal_name directory name)) (place_at slots (journal_name directory name)) i;
    ended = λ name. moment_under Disk.moment (Shelf.disk new (journal_name directory name)) (place_at slots' (journal_name directory name)) i;
    since = λ name. since_under Disk.image_since (Shelf.disk new (journal_name directory name)) (place_at slots' (journal_name directory name)) i;
    told = λ name. told_under answered (Shelf.disk new (journal_name directory name)) (place_at slots' (journal_name directory name)) i;
  }

  pub same_mirrored : (answered : C → ℕ) (directory : Text)
      → journals_by (λ d. Disk.reads (inner_of d)) (λ d. Disk.image (inner_of d)) (λ d. Disk.moment (inner_of d)) (λ d. Disk.image_since (inner_of d))
      (λ d. told_by answered (mirror_of d)) directory
      (λ name. mirrored_at (Shelf.disk lent name) (place_at lent_slots name)) (λ name. mirrored_at (Shelf.disk new name) (place_at slots' name))
      (λ name. Shelf.disk_faults lent name + faults_in faults (place_at lent_slots name))
      (λ name. Shelf.disk_faults new name + faults_in faults (place_at slots' name))
      ≡ mirrored_journals Shelf Disk directory old new failed (marks answered)
  same_mirrored answered directory =
      (λ i. journals_by (λ d. Disk.reads (inner_of d)) (λ d. Disk.image (inner_of d)) (λ d. Disk.moment (inner_of d)) (λ d. Disk.image_since (inner_of d))
      (λ d. told_by answered (mirror_of d)) directory (λ name. mirrored_at (Shelf.disk (was i) name) (place_at (were i) name))
      (λ name. mirrored_at (Shelf.disk new name) (place_at slots' name))
      (λ name. Shelf.disk_faults (was i) name + faults_in faults (place_at (were i) name))
      (λ name. Shelf.disk_faults new name + faults_in faults (place_at slots' name))) ∙ mirrors_mirrored answered directory

  -- what the dials told of lies on the disks of the lent shelf
  pub dials_lie : (told : Type 0) (exchanged : C → List Exchange) → (told → (name : Text) → count_in exchanged (place_at slots name) ≡ 0)
      → (told → (name : Text) → Shelf.disk new name ≡ None → count_in exchanged (place_at slots' name) ≡ 0)
      → ((name : Text) → AreThere (heard_on (λ (d : MirroredDisk D C g). heard_by told exchanged (mirror_of d))
      (mirrored_at (Shelf.disk lent name) (place_at lent_slots name)))
      (bytes_on (λ d. Disk.reads (inner_of d)) (mirrored_at (Shelf.disk lent name) (place_at lent_slots name)))
      → AreThere (heard_on (λ (d : MirroredDisk D C g). heard_by told exchanged (mirror_of d)) (mirrored_at (Shelf.disk new name) (place_at slots' name)))
      (bytes_on (λ d. Disk.reads (inner_of d)) (mirrored_at (Shelf.disk new name) (place_at slots' name))))
      → (name : Text) → AreThere (heard_by told exchanged (mirror_in (place_at slots' name))) (bytes_on Disk.reads (Shelf.disk new name))
  dials_lie told exchanged silent unused stays name =
      lie_under Disk.reads told exchanged (Shelf.disk new name) (place_at slots' name) (λ none t. unused t name none)
      (stays name (first (Shelf.disk lent name)))
    where
      first : (o : Option D) → AreThere (heard_on (λ (d : MirroredDisk D C g). heard_by told exchanged (mirror_of d))
          (mirrored_at o (place_at lent_slots name))) (bytes_on (λ d. Disk.reads (inner_of d)) (mirrored_at o (place_at lent_slots name)))
      first None number one heard = absurd heard
      first (Some d) number one heard =
          absurd (unheard told exchanged (mirror_in (place_at lent_slots name)) (λ t. ap (λ s. count_in exchanged (place_at s name)) were ∙ silent t name)
          number one heard)

  before : (name : Text) → mirrored_at (Shelf.disk lent name) (place_at lent_slots name) ≡ mirrored_at (Shelf.disk old name) (place_at slots name)
  before name = λ i. mirrored_at (Shelf.disk (was i) name) (place_at (were i) name)

  counts_before : (name : Text) → Shelf.disk_faults lent name + faults_in faults (place_at lent_slots name) ≡ Shelf.disk_faults old name
  counts_before name =
      (λ i. Shelf.disk_faults (was i) name + faults_in faults (place_at (were i) name))
      ∙ none_more (Shelf.disk_faults old name) (faults_in faults (place_at slots name)) (fresh name)

  -- a disk that the shelf with mirrors has as before, the lent shelf has as before
  same_disk : (name : Text) → mirrored_at (Shelf.disk new name) (place_at slots' name) ≡ mirrored_at (Shelf.disk old name) (place_at slots name)
      → Shelf.disk new name ≡ Shelf.disk old name
  same_disk name same =
      sym (lent_disk (Shelf.disk new name) (place_at slots' name)) ∙ ap (option_map inner_of) same ∙ lent_disk (Shelf.disk old name) (place_at slots name)

  pub disks_under : (names : List Text)
      → SameBeside names (λ name. mirrored_at (Shelf.disk lent name) (place_at lent_slots name))
      (λ name. mirrored_at (Shelf.disk new name) (place_at slots' name)) → SameBeside names (Shelf.disk old) (Shelf.disk new)
  disks_under names same name other = same_disk name (same name other ∙ before name)

  -- the counts beside those of the dials
  pub counts_under : (names : List Text)
      → SameBeside names (λ name. Shelf.disk_faults lent name + faults_in faults (place_at lent_slots name))
      (λ name. Shelf.disk_faults new name + faults_in faults (place_at slots' name))
      → SameBeside names (Shelf.disk_faults old) (mirrored_counts (Shelf.disk_faults new) failed)
  counts_under names same name other = same name other ∙ counts_before name

  pub all_counts_under : SameNames (λ name. Shelf.disk_faults lent name + faults_in faults (place_at lent_slots name))
      (λ name. Shelf.disk_faults new name + faults_in faults (place_at slots' name))
      → SameNames (Shelf.disk_faults old) (mirrored_counts (Shelf.disk_faults new) failed)
  all_counts_under same name = same name ∙ counts_before name

  -- a count that rose on the shelf with mirrors rose by the disk or by its dial
  pub some_rose_under : SomeRose (λ name. Shelf.disk_faults lent name + faults_in faults (place_at lent_slots name))
      (λ name. Shelf.disk_faults new name + faults_in faults (place_at slots' name))
      → SomeRose (Shelf.disk_faults old) (mirrored_counts (Shelf.disk_faults new) failed)
  some_rose_under rose = (
    rose.0,
    subst (λ n. Rose n (Shelf.disk_faults new rose.0 + faults_in faults (place_at slots' rose.0))) (counts_before rose.0) rose.1,
  )

  -- and none fell
  pub none_fell_under : NoneFell (λ name. Shelf.disk_faults lent name + faults_in faults (place_at lent_slots name))
      (λ name. Shelf.disk_faults new name + faults_in faults (place_at slots' name))
      → NoneFell (Shelf.disk_faults old) (mirrored_counts (Shelf.disk_faults new) failed)
  none_fell_under fell name =
      subst (λ n. n ≤ Shelf.disk_faults new name + faults_in faults (place_at slots' name)) (counts_before name) (fell name)

-- ---- what was lent is back

-- the names of the references through which a shelf with mirrors reaches what was lent to it
abbrev first_name : List ℕ → ℕ
first_name [] = 0
first_name (one ∷ names) = one

abbrev second_name : List ℕ → ℕ
second_name [] = 0
second_name (one ∷ []) = 0
second_name (one ∷ other ∷ names) = other

-- they stay the same, so what was lent is what it has in the end
pub shelf_back : {X : Type 0} (x now : X) (old new : Lent) → new ≡ old → (first_name old.names ≡ first_name new.names → x ≡ now) → x ≡ now
shelf_back x now old new lent rule = rule (sym (ap (λ (l : Lent). first_name l.names) lent))

pub mirrors_back : {X : Type 0} (x now : X) (old new : Lent) → new ≡ old → (second_name old.names ≡ second_name new.names → x ≡ now) → x ≡ now
mirrors_back x now old new lent rule = rule (sym (ap (λ (l : Lent). second_name l.names) lent))

pub lent_one : {X : Type 0} (P : X → Type 0) (x now : X) → x ≡ now → P now → P x
lent_one P x now is p = subst P (sym is) p

pub lent_two : {X Y : Type 0} (P : X → Y → Type 0) (x now : X) (y left : Y) → x ≡ now → y ≡ left → P now left → P x y
lent_two P x now y left is are p = subst (λ a. P a y) (sym is) (subst (λ b. P now b) (sym are) p)

-- ---- the scene of a call with a standby

-- links that only dialled and hung up keep their doors
pub doors_kept : {L Door Dial In Out : Type 0} (Links : LinksGhosts L Door Dial In Out) (old new : L) → doors.KeepsDoors Links old new
    → KeepsDoors (links_of Links old new)
doors_kept Links old new kept = record {
  faults = kept.faults;
  out = kept.out;
  ended = kept.ended;
  given = kept.given;
  left = kept.left;
  at_hand = kept.at_hand;
  back = kept.back;
  listened = kept.listened;
}

module _ {F D : Type 0} (Shelf : ShelfGhosts F D) (Disk : DiskGhosts D) (old mid new : F)
    (disks : SameNames (Shelf.disk old) (Shelf.disk mid)) (counts : SameNames (Shelf.disk_faults old) (Shelf.disk_faults mid))
    (failed : Text → ℕ) (files : FileNames) where
  -- the shelf's scene, where exchanges that failed are counted with the faults of the disks
  abbrev pub counted_shelf : ShelfScene
  counted_shelf = record (shelf_of Shelf Disk old new) { disk_faults' = mirrored_counts (Shelf.disk_faults new) failed }

  -- where of the disk of each name these marks may be told, its journals are those behind the files
  pub same_counted : (marks : Text → ℕ)
      → mirrored_journals Shelf Disk files.directory mid new failed marks ≡ journals_of (record counted_shelf { told' = marks }) files
  same_counted marks =
      λ i. record (journals_by Disk.reads Disk.image Disk.moment Disk.image_since Disk.tellable files.directory (λ name. disks name i) (Shelf.disk new)
      (λ name. counts name i) (mirrored_counts (Shelf.disk_faults new) failed)) { told = λ name. marks (journal_name files.directory name) }

  -- no disk but the journals of the policy's users was touched, and no other count changed
  pub touches_counted : (policy : Policy) (users : List User) → users ≡ policy.users.items
      → SameBeside (map (journal_name files.directory) (map (λ user. user.name) (map named_user users))) (Shelf.disk mid) (Shelf.disk new)
      → SameBeside (map (journal_name files.directory) (map (λ user. user.name) (map named_user users))) (Shelf.disk_faults mid)
      (mirrored_counts (Shelf.disk_faults new) failed)
      → TouchesOnlyJournals counted_shelf files (policy_value_of policy)
  touches_counted policy users are touched counted = (
    λ name none. touched name (ap (λ ns. is_among (map (journal_name files.directory) ns) name) names ∙ none) ∙ disks name,
    λ name none. counted name (ap (λ ns. is_among (map (journal_name files.directory) ns) name) names ∙ none) ∙ counts name,
  )
    where
      names : map (λ user. user.name) (map named_user users) ≡ names_of (policy_value_of policy).users
      names = ap (λ us. map (λ user. user.name) (map named_user us)) are ∙ batch_names_are policy.users.items ∙ names_are policy.users.items

  -- a count that rose behind the files rose in the call
  pub some_rose_counted : SomeRose (Shelf.disk_faults mid) (mirrored_counts (Shelf.disk_faults new) failed)
      → SomeRose (Shelf.disk_faults old) (mirrored_counts (Shelf.disk_faults new) failed)
  some_rose_counted rose = (rose.0, subst (λ n. Rose n (mirrored_counts (Shelf.disk_faults new) failed rose.0)) (counts rose.0) rose.1)

  -- and none fell
  pub none_fell_counted : NoneFell (Shelf.disk_faults mid) (mirrored_counts (Shelf.disk_faults new) failed)
      → NoneFell (Shelf.disk_faults old) (mirrored_counts (Shelf.disk_faults new) failed)
  none_fell_counted fell name = subst (λ n. n ≤ mirrored_counts (Shelf.disk_faults new) failed name) (counts name) (fell name)

-- ---- links that dialled, served, and hung up

-- so many connections were given, and so many doors ended, that the limit is reached
abbrev Reaches : (given ended given' ended' workers sessions : ℕ) → Type 0
Reaches given ended given' ended' workers sessions = (given + sessions + ended ≤ given' + ended') × (given + sessions < given' + workers)

module _ {L Door Dial In Out : Type 0} (Links : LinksGhosts L Door Dial In Out) (old mid new last : L) (first : doors.KeepsDoors Links old mid)
    (behind : doors.KeepsDoors Links new last) where
  -- What holds of the links as they served holds of the whole call.
  pub record Between : Type 1 where
    pub rose : Rose (Links.faults mid) (Links.faults new) → Rose (Links.faults old) (Links.faults last)
    pub served : Links.tells → (P : ℕ → ℕ → List Visit → List Visit → Type 0) → P (Links.given mid) (Links.given new) (Links.back mid) (Links.back new)
        → P (Links.given old) (Links.given last) (Links.back old) (Links.back last)
    pub heard : Links.tells → (P : List Listened → List Listened → Type 0) → P (Links.listened mid) (Links.listened new)
        → P (Links.listened old) (Links.listened last)
    pub unheard : Links.tells → Links.listened last ≡ Links.listened old → Links.listened new ≡ Links.listened mid
    pub ended : Links.tells → (workers sessions : ℕ) → (Links.at_hand new ≡ 0)
        ⊎ Reaches (Links.given mid) (Links.ended mid) (Links.given new) (Links.ended new) workers sessions
        → (Links.at_hand last ≡ 0)
        ⊎ Reaches (Links.given old) (Links.ended old) (Links.given last) (Links.ended last) workers sessions
    pub left : Links.tells → (Links.left mid ≡ Links.at_hand mid → Links.left new ≡ Links.at_hand new) → Links.left old ≡ Links.at_hand old
        → Links.left last ≡ Links.at_hand last
    pub left_all : Links.tells → (Links.left mid ≡ Links.at_hand mid → Links.given new + Links.left new ≡ Links.given mid + Links.left mid)
        → Links.left old ≡ Links.at_hand old → Links.given last + Links.left last ≡ Links.given old + Links.left old

  pub served_between : Between
  served_between = record {
    rose = λ rose. subst (λ n. Rose n (Links.faults last)) first.faults (subst (λ n. Rose (Links.faults mid) n) (sym behind.faults) rose);
    served = λ told P is.
        subst (λ n. P n (Links.given last) (Links.back old) (Links.back last)) (first.given told)
        (subst (λ n. P (Links.given mid) n (Links.back old) (Links.back last)) (sym (behind.given told))
        (subst (λ b. P (Links.given mid) (Links.given new) b (Links.back last)) (first.back told)
        (subst (λ b. P (Links.given mid) (Links.given new) (Links.back mid) b) (sym (behind.back told)) is)));
    heard = λ told P is.
        subst (λ l. P l (Links.listened last)) (first.listened told) (subst (λ l. P (Links.listened mid) l) (sym (behind.listened told)) is);
    unheard = λ told same. sym (behind.listened told) ∙ same ∙ sym (first.listened told);
    ended = λ told workers sessions is.
        subst (λ n. (n ≡ 0) ⊎ Reaches (Links.given old) (Links.ended old) (Links.given last) (Links.ended last) workers sessions) (sym (behind.at_hand told))
        (subst (λ n. (Links.at_hand new ≡ 0) ⊎ Reaches n (Links.ended old) (Links.given last) (Links.ended last) workers sessions) (first.given told)
        (subst (λ n. (Links.at_hand new ≡ 0) ⊎ Reaches (Links.given mid) n (Links.given last) (Links.ended last) workers sessions) first.ended
        (subst (λ n. (Links.at_hand new ≡ 0) ⊎ Reaches (Links.given mid) (Links.ended mid) n (Links.ended last) workers sessions) (sym (behind.given told))
        (subst (λ n. (Links.at_hand new ≡ 0) ⊎ Reaches (Links.given mid) (Links.ended mid) (Links.given new) n workers sessions) (sym behind.ended) is))));
    left = λ told served all.
        behind.left told ∙ served (first.left told ∙ all ∙ sym (first.at_hand told)) ∙ sym (behind.at_hand told);
    left_all = λ told served all.
        let is = served (first.left told ∙ all ∙ sym (first.at_hand told)) in
        let a = behind.given told in
        let b = behind.left told in
        let d = first.given told in
        let e = first.left told in
        omega (arith, is, a, b, d, e);
  }
