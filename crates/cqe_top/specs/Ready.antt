-- Policies whose journals are as a command needs them. Each clause says two things of a user: how
-- his journal stands as the call begins, and that no fault of its disk comes in the call.
use Rattle.std.specs.Prelude.{◌≡◌, ◌⊎◌, List, ℕ, [], Some}
use Rattle.std.specs.List.{AllByRecursion}
use Rattle.outside.specs.Faults.{Rose}
use Rattle.cqe_base.specs.Facts.{FactSet}
use Rattle.cqe_base.specs.History.{History}
use Rattle.cqe_base.specs.Schema.{Text}
use Rattle.log_journal.specs.Opening.{Refuses, RefusesOld}
use Rattle.log_journal.specs.declared.header.OpenError.{OpenError}
use Rattle.user_desk.specs.Causes.{Opens}
use Rattle.desk_crew.specs.Shelved.{Journals}
use Rattle.policy_files.specs.Policies.{PolicyUser, PolicyValue}
use Rattle.cqe_top.specs.Files.{user_named}

-- this user's disk has no fault in the call: its count doesn't rise
abbrev pub HasNoFault : Journals → PolicyUser → Type 0
HasNoFault journals user = Rose (journals.before user.name) (journals.now user.name) → ⊥

-- as the call begins each user's disk is empty or shows no reason to refuse it as a journal with
-- this header, and it has no fault in the call
abbrev pub CanBeMade : Journals → PolicyValue → FactSet → List ℕ → Type 0
CanBeMade journals policy world header = AllByRecursion (λ user.
    ((journals.bytes user.name ≡ [])
    ⊎ ((why : OpenError) → Refuses header (journals.bytes user.name) why → ⊥))
    × HasNoFault journals user) policy.users

-- as the call begins each user's disk in one directory shows no reason to refuse it as a journal of
-- version 1 with the digests of this header, his disk in the other is empty, and neither has a
-- fault in the call
abbrev pub CanBeMoved : Journals → Journals → PolicyValue → FactSet → List ℕ → Type 0
CanBeMoved old new policy world header = AllByRecursion (λ user.
    (((why : OpenError) → RefusesOld header (old.bytes user.name) why → ⊥)
    × HasNoFault old user)
    × ((new.bytes user.name ≡ []) × HasNoFault new user)) policy.users

-- as the call begins each user's disk shows no reason to refuse it as a journal with this header,
-- and it has no fault in the call
abbrev pub CanBeMirrored : Journals → PolicyValue → FactSet → List ℕ → Type 0
CanBeMirrored journals policy world header = AllByRecursion (λ user.
    ((why : OpenError) → Refuses header (journals.bytes user.name) why → ⊥)
    × HasNoFault journals user) policy.users

-- as the call begins this user's journal stands for a legal history of his within the limits, and
-- its disk has no fault in the call
abbrev pub IsOpenable : Journals → PolicyValue → FactSet → List ℕ → PolicyUser → Type 0
IsOpenable journals policy world header user =
    ((entries : History)
    × Opens policy.schema world user.profile header entries (journals.bytes user.name))
    × HasNoFault journals user

-- as the call begins the journal of each user of the policy stands for a legal history of his
-- within the limits, and its disk has no fault in the call
abbrev pub CanBeOpened : Journals → PolicyValue → FactSet → List ℕ → Type 0
CanBeOpened journals policy world header =
    AllByRecursion (λ user. IsOpenable journals policy world header user) policy.users

-- the policy has a user of this name, whose journal can be opened, and its disk has no fault in the
-- call
abbrev pub CanBeAudited : Journals → Text → PolicyValue → FactSet → List ℕ → Type 0
CanBeAudited journals name policy world header =
    (user : PolicyUser) × (user_named name policy.users ≡ Some user)
    × IsOpenable journals policy world header user
