-- What the policy file and the facts file say, and why they weren't read.
use Rattle.std.specs.Prelude.{◌≡◌, ◌⊎◌, ℕ, List, [], ◌∷◌, ◌++◌, map, find, bytes_eq}
use Rattle.std.specs.Prelude.{Option, Some, None}
use Rattle.std.specs.Prelude.{Result, Ok, Err, Vec}
use Rattle.std.specs.declared.alloc.Global.{Global}
use Rattle.sha2.specs.Sha256.{sha256}
use Rattle.outside.specs.Shelf.{Looks, SameBeside}
use Rattle.cqe_base.specs.Facts.{FactSet}
use Rattle.cqe_base.specs.Schema.{Text}
use Rattle.cqe_base.specs.Transcript.{NamedUser}
use Rattle.cqe_base.specs.declared.user.User.{User}
use Rattle.command_words.specs.Readings.{FileNames}
use Rattle.init_engine.specs.Ends.{Change}
use Rattle.desk_crew.specs.Shelved.{Journals, journals_by}
use Rattle.log_journal.specs.Names.{journal_name}
use Rattle.log_journal.specs.Opening.{first_eight}
use Rattle.policy_files.specs.declared.error.PolicyError.{PolicyError}
use Rattle.policy_files.specs.declared.error.FactsError.{FactsError}
use Rattle.policy_files.specs.Memory.{policy_user_of}
use Rattle.policy_files.specs.Policies.{PolicyUser, PolicyValue}
use Rattle.policy_files.specs.Policy.{policy_in}
use Rattle.policy_files.specs.Users.{names_of}
use Rattle.policy_files.specs.Facts.{facts_of}
use Rattle.cqe_top.specs.declared.end.FileKind.TheVariants as kind
use Rattle.cqe_top.specs.declared.end.FilesEnd.{FilesEnd}
use Rattle.cqe_top.specs.declared.end.FilesEnd.TheVariants.{Missing, ShelfFault, Policy}
use Rattle.cqe_top.specs.declared.end.FilesEnd.TheVariants.{Facts, Memory}
use Rattle.cqe_top.specs.Scene.{ShelfScene, Output, SameDisks, SameOutput}

-- ---- what two files say

-- what two files say: a policy and a world, which is the facts of the file, with the header of the
-- journals that belong to them; or the first of them that isn't there or is refused
pub data Said : Type 0 where
  no_policy : Said
  bad_policy : (why : PolicyError) → Said
  no_facts : Said
  bad_facts : (why : FactsError) → Said
  both : (policy : PolicyValue) → (world : FactSet) → (header : List ℕ) → Said

-- the header of the journals that belong to a policy file and a facts file with these bytes: eight
-- bytes, and the digest of each
abbrev pub header_for : List ℕ → List ℕ → List ℕ
header_for policy_bytes facts_bytes = first_eight ++ sha256 policy_bytes ++ sha256 facts_bytes

-- a policy and a header with the facts of a file that was read
abbrev pub with_world : PolicyValue → List ℕ → Result FactSet FactsError → Said
with_world policy header (Ok world) = both policy world header
with_world policy header (Err why) = bad_facts why

-- a policy that was read from these bytes with a facts file, if it is there
abbrev pub with_facts : PolicyValue → List ℕ → Option (List ℕ) → Said
with_facts policy policy_bytes None = no_facts
with_facts policy policy_bytes (Some bytes) =
    with_world policy (header_for policy_bytes bytes) (facts_of policy.schema bytes)

-- a policy file with these bytes, as it was read, with a facts file
abbrev pub with_policy : List ℕ → Result PolicyValue PolicyError → Option (List ℕ) → Said
with_policy policy_bytes (Ok policy) facts = with_facts policy policy_bytes facts
with_policy policy_bytes (Err why) facts = bad_policy why

-- the policy file first, then the facts file
abbrev pub said_by : Option (List ℕ) → Option (List ℕ) → Said
said_by None facts = no_policy
said_by (Some bytes) facts = with_policy bytes (policy_in bytes) facts

-- a policy is there and isn't refused
abbrev pub HasPolicy : Said → Type 0
HasPolicy no_policy = ⊥
HasPolicy (bad_policy why) = ⊥
HasPolicy no_facts = Unit {0}
HasPolicy (bad_facts why) = Unit {0}
HasPolicy (both policy world header) = Unit {0}

-- one of the files isn't there, and it has this name
abbrev pub IsMissing : Said → FileNames → Text → Type 0
IsMissing said files name =
    ((said ≡ no_policy) × (name ≡ files.policy)) ⊎ ((said ≡ no_facts) × (name ≡ files.facts))

-- ---- the files of a command on a shelf, and the journals in their directory

module _ (shelf : ShelfScene) (files : FileNames) where
  -- what they say
  abbrev pub said_on : Said
  said_on = said_by (shelf.file files.policy) (shelf.file files.facts)

  -- They say a policy, a world and a header of which this holds. A clause of a command that takes a
  -- policy, a world and a header last is said of these three.
  abbrev pub SayOn : (PolicyValue → FactSet → List ℕ → Type 0) → Type 0
  SayOn P =
      (policy : PolicyValue) × (world : FactSet) × (header : List ℕ)
      × (said_on ≡ both policy world header) × P policy world header

  -- the journals before the call and behind it
  abbrev pub journals_of : Journals
  journals_of = record (journals_by shelf.Disk.reads shelf.Disk.image shelf.Disk.moment
      shelf.Disk.image_since shelf.Disk.tellable files.directory shelf.disk shelf.disk'
      shelf.disk_faults shelf.disk_faults') {
        told = λ name. shelf.told' (journal_name files.directory name);
      }

  -- the journals of a policy's users
  abbrev pub journals_in : PolicyValue → List Text
  journals_in policy = map (journal_name files.directory) (names_of policy.users)

  -- no count of a disk's faults but theirs changed
  abbrev pub CountsOnlyJournals : PolicyValue → Type 0
  CountsOnlyJournals policy = SameBeside (journals_in policy) shelf.disk_faults shelf.disk_faults'

  -- no disk but theirs was touched, and no other count changed
  abbrev pub TouchesOnlyJournals : PolicyValue → Type 0
  TouchesOnlyJournals policy =
      SameBeside (journals_in policy) shelf.disk shelf.disk' × CountsOnlyJournals policy

  -- of the shelf's files the policy was looked at, and then the facts, and no other
  abbrev pub LooksAtBoth : Type 0
  LooksAtBoth = shelf.looked' ≡ shelf.looked ++ files.policy ∷ files.facts ∷ []

  -- none was looked at, the policy alone, or both
  abbrev pub LooksInOrder : Type 0
  LooksInOrder = Looks files.policy shelf.looked shelf.looked' ⊎ LooksAtBoth

  -- Why they weren't read: the first of them that isn't there, is refused, or at which the shelf
  -- failed. Where it failed at the policy, the facts weren't looked at; where it failed at the
  -- facts, the policy is there and isn't refused; and memory may always be wanting.
  abbrev pub IsWhyUnread : FilesEnd → Type 0
  IsWhyUnread (Missing name) = IsMissing said_on files name.now
  IsWhyUnread (ShelfFault kind.Policy) = Looks files.policy shelf.looked shelf.looked'
  IsWhyUnread (ShelfFault kind.Facts) = HasPolicy said_on
  IsWhyUnread (Policy why) = said_on ≡ bad_policy why
  IsWhyUnread (Facts why) = said_on ≡ bad_facts why
  IsWhyUnread Memory = Unit {0}

  -- the files weren't read: why, and no disk was touched
  pub record IsUnread (end : FilesEnd) : Type 0 where
    pub refused : shelf.tells → IsWhyUnread end
    pub looks : shelf.tells → LooksInOrder
    pub disks : SameDisks shelf

-- ---- the users of a policy

-- these users are those of the policy
abbrev pub AreUsersOf : Vec User Global → PolicyValue → Type 0
AreUsersOf users policy = map policy_user_of users.items ≡ policy.users

-- a user of a policy before his journal is opened, with no entries
abbrev pub new_user : PolicyUser → NamedUser
new_user user = record { name = user.name; profile = user.profile; opened = [] }

-- the users of a policy before their journals are opened
abbrev pub new_users : PolicyValue → List NamedUser
new_users policy = map new_user policy.users

-- the user of this name, if there is one
abbrev pub user_named : Text → List PolicyUser → Option PolicyUser
user_named name users = find (λ user. bytes_eq user.name name) users

-- the policy has no user of this name
abbrev pub NamesNobody : Text → PolicyValue → FactSet → List ℕ → Type 0
NamesNobody name policy world header = user_named name policy.users ≡ None

module _ (shelf : ShelfScene) (output : Output) (files : FileNames) (user : Text) where
  -- the policy has no user of the name, and no disk was touched
  pub record FindsNobody : Type 0 where
    pub over_files : shelf.tells → SayOn shelf files (NamesNobody user)
    pub looks : shelf.tells → LooksAtBoth shelf files
    pub disks : SameDisks shelf
    pub writes_nothing : SameOutput output

-- the disks of a shelf before and after, with the counts of their faults and the shelf's own
abbrev pub change_on : (shelf : ShelfScene) → Change shelf.D
change_on shelf = record {
  old = shelf.disk;
  new = shelf.disk';
  before = shelf.disk_faults;
  now = shelf.disk_faults';
  shelf_before = shelf.faults.before;
  shelf_now = shelf.faults.now;
}
