-- A standby keeps the records of its journals in front, and calls that go on with them leave one history.
use Rattle.std.proofs.Common.{◌≡◌, ◌⊎◌, ◌≤◌, inl, inr, ℕ, true, List, [], ◌∷◌, ◌++◌, map, refl, sym, ap, subst, ◌∙◌}
use Rattle.std.specs.Prelude.{Option, Some, None, IfSome, string_bytes, bytes_eq}
use Rattle.std.specs.List.{AllByRecursion}
use Rattle.std.proofs.lemmas.List.{map-append}
use Rattle.outside.specs.Shelf.{SameNames}
use Rattle.outside.specs.declared.disk.Disk.{Ghosts as DiskGhosts}
use Rattle.outside.specs.declared.links.Links.{Ghosts as LinksGhosts}
use Rattle.outside.specs.declared.shelf.Shelf.{Ghosts as ShelfGhosts}
use Rattle.outside.specs.declared.stream.Sink.{Ghosts as SinkGhosts}
use Rattle.outside.specs.declared.stream.Source.{Ghosts as SourceGhosts}
use Rattle.cqe_base.specs.Facts.{FactSet}
use Rattle.cqe_base.specs.History.{AnsweredQuery, History}
use Rattle.cqe_base.specs.Schema.{Text}
use Rattle.cqe_base.specs.declared.user.User.{User}
use Rattle.cqe_base.proofs.Lists.{one_found}
use Rattle.command_words.specs.Readings.{FileNames}
use Rattle.desk_crew.specs.Shelved.{Journals, KeepsJournal, KeepsJournals, StandsAllAlong}
use Rattle.desk_crew.proofs.Lasting.{keeps_same}
use Rattle.log_journal.specs.Records.{Recorded, IsJournal}
use Rattle.log_journal.specs.Walk.{records}
use Rattle.policy_files.specs.Memory.{policy_user_of}
use Rattle.policy_files.specs.Policies.{PolicyUser, PolicyValue}
use Rattle.standby_engine.specs.Standing.{HasBeginning, GrowsJournal, AreCopied, LeavesCopies}
use Rattle.standby_engine.specs.declared.run.CopyEnd.{CopyEnd}
use Rattle.standby_engine.specs.declared.run.CopyEnd.TheVariants as copy_end
use Rattle.user_desk.specs.Causes.{Opens}
use Rattle.user_desk.specs.Entries.{entry_of}
use Rattle.user_desk.specs.declared.standing.DeskError.{DeskError}
use Rattle.user_desk.specs.declared.standing.DeskError.TheVariants as desk_error
use Rattle.user_desk.proofs.Bytes.{records_are}
use Rattle.cqe_top.specs.Around.{Around, scene_around}
use Rattle.cqe_top.specs.Calls.{BeginsWith, FollowsOn, EachFollows, GoesOn, OpensOn, Promised, LeaveOneHistory, journals_at, AnyCallsJoin}
use Rattle.cqe_top.specs.Files.{both, said_on, journals_of}
use Rattle.cqe_top.specs.Lives.{IsLeft}
use Rattle.cqe_top.specs.Promise.{Does}
use Rattle.cqe_top.specs.Scene.{Scene}
use Rattle.cqe_top.specs.Standby.{CopiesOverFiles, StandbyEnds, OfStandby}
use Rattle.cqe_top.specs.Takeovers.{HasInFront, PromisedStandby, journals_of_standby, StandbysKeep, TakeoversJoin}
use Rattle.cqe_top.specs.declared.end.CommandEnd.{CommandEnd}
use Rattle.cqe_top.specs.declared.end.CommandEnd.TheVariants as end
use Rattle.cqe_top.proofs.Calls.{any_calls_join, goes_further}
use Rattle.cqe_top.proofs.Lives.{said_once}
use Rattle.cqe_top.specs.Files.{user_named}

-- ---- what a standby leaves of one journal

module _ (header : List ℕ) (journals : Journals) where
  -- what a crash could leave of the journal of this name, it could leave as the call began, or it has the records of the journal in front
  abbrev KeepsInFront : Text → Type 0
  KeepsInFront name = (left : List ℕ) → IsLeft journals name left → journals.image_before name left ⊎ HasInFront header (journals.bytes name) left

  kept_in_front : (name : Text) → KeepsJournal journals name → KeepsInFront name
  kept_in_front name kept left (inl at) = inl (kept.1 left at)
  kept_in_front name kept left (inr (begun, began, since)) =
      let still : (c : List ℕ) → journals.since name begun c → journals.image_before name c =
      subst (λ (b : Option ℕ). IfSome b (λ t. (c : List ℕ) → journals.since name t c → journals.image_before name c)) began kept.2 in
      inl (still left since)

  grown_in_front : (name : Text) → GrowsJournal header journals name → KeepsInFront name
  grown_in_front name grown left (inl at) = inr (grown.first, grown.opened, grown.leaves left at)
  grown_in_front name grown left (inr (begun, began, since)) = by (known.1 left since)
    where
      moments : StandsAllAlong journals name true (HasBeginning header grown.first)
      moments = grown.moments

      known : IfSome (Some begun) (λ t. (t ≤ moments.opening)
          × ((c : List ℕ) → journals.since name t c → journals.image_before name c ⊎ journals.since name moments.opening c))
      known = subst (λ (b : Option ℕ). IfSome b (λ t. (t ≤ moments.opening)
          × ((c : List ℕ) → journals.since name t c → journals.image_before name c ⊎ journals.since name moments.opening c))) began moments.before

      by : journals.image_before name left ⊎ journals.since name moments.opening left
          → journals.image_before name left ⊎ HasInFront header (journals.bytes name) left
      by (inl old) = inl old
      by (inr at) = inr (grown.first, grown.opened, moments.behind refl left at)

  abbrev OfOne : PolicyUser → Type 0
  OfOne user = KeepsInFront user.name

  each_in_front : (users : List User) (refusals : List (Option DeskError)) → AreCopied header journals users refusals
      → AllByRecursion OfOne (map policy_user_of users)
  each_in_front [] [] copied = tt
  each_in_front [] (refusal ∷ refusals) copied = absurd copied
  each_in_front (user ∷ users) [] copied = absurd copied
  each_in_front (user ∷ users) (None ∷ refusals) copied =
      (grown_in_front (string_bytes user.name) copied.0, each_in_front users refusals copied.1)
  each_in_front (user ∷ users) (Some (desk_error.Journal why) ∷ refusals) copied =
      (kept_in_front (string_bytes user.name) copied.0.2, each_in_front users refusals copied.1)
  each_in_front (user ∷ users) (Some (desk_error.Stale number) ∷ refusals) copied = absurd copied.0
  each_in_front (user ∷ users) (Some (desk_error.Unlawful number stored computed) ∷ refusals) copied = absurd copied.0
  each_in_front (user ∷ users) (Some (desk_error.Size number) ∷ refusals) copied = absurd copied.0
  each_in_front (user ∷ users) (Some (desk_error.Unsafe number) ∷ refusals) copied = absurd copied.0
  each_in_front (user ∷ users) (Some (desk_error.NotAdmitted admission) ∷ refusals) copied = absurd copied.0

  module _ (policy : PolicyValue) (user : PolicyUser) (named : user_named user.name policy.users ≡ Some user) where
    his_in_front : (users : List User) (refusals : List (Option DeskError)) → map policy_user_of users ≡ policy.users
        → AreCopied header journals users refusals → KeepsInFront user.name
    his_in_front users refusals same copied =
        let each : AllByRecursion OfOne policy.users = subst (AllByRecursion OfOne) same (each_in_front users refusals copied) in
        (one_found OfOne (λ (u : PolicyUser). bytes_eq u.name user.name) policy.users user each named).0

    -- what each end of a standby leaves
    end_in_front : (users : List User) (e : CopyEnd) → map policy_user_of users ≡ policy.users → LeavesCopies header journals users e
        → KeepsInFront user.name
    end_in_front users (copy_end.Done refusals is_broken is_wanting) same leaves = his_in_front users refusals.items same leaves.0
    end_in_front users copy_end.LinksFault same (inl (refusals, copied)) = his_in_front users refusals same copied
    end_in_front users copy_end.LinksFault same (inr kept) = kept_in_front user.name (kept user.name)
    end_in_front users copy_end.ShelfFault same kept = kept_in_front user.name (kept user.name)
    end_in_front users copy_end.Memory same kept = kept_in_front user.name (kept user.name)

-- ---- the histories of journals of which one has the records of the other in front

-- items in front of other places
items_in_front : (first : History) (rest : List (Option AnsweredQuery)) (all : History) → map Some first ++ rest ≡ map Some all → GoesOn first all
items_in_front [] rest all same = (all, refl)
items_in_front (item ∷ first) rest [] same = let clash : Some item ∷ (map Some first ++ rest) ≡ [] = same in absurd cc
items_in_front (item ∷ first) rest (other ∷ all) same =
    let cons : Some item ∷ (map Some first ++ rest) ≡ Some other ∷ map Some all = same in
    let one : item ≡ other = cc in
    let further : map Some first ++ rest ≡ map Some all = cc in
    let goes = items_in_front first rest all further in
    (goes.0, λ i. sym one i ∷ goes.1 i)

module _ (policy : PolicyValue) (world : FactSet) (header : List ℕ) (user : PolicyUser) where
  goes_on_in_front : (entries entries' : History) (bytes bytes' : List ℕ) → Opens policy.schema world user.profile header entries bytes
      → Opens policy.schema world user.profile header entries' bytes' → HasInFront header bytes bytes' → GoesOn entries entries'
  goes_on_in_front entries entries' bytes bytes' opens opens' (first, journal, (more, journal')) =
      let entry = entry_of policy.schema in
      let here : map entry first ≡ map Some entries = ap (map entry) (sym (records_are header first bytes journal)) ∙ opens.stands.are in
      let there : map entry (first ++ more) ≡ map Some entries' =
      ap (map entry) (sym (records_are header (first ++ more) bytes' journal')) ∙ opens'.stands.are in
      items_in_front entries (map entry more) entries'
      (ap (λ l. l ++ map entry more) (sym here) ∙ sym (map-append entry first more) ∙ there)

-- ---- a call of it, and calls that go on

module _ {F D S K E L Door Dial In Out : Type 0} (Shelf : ShelfGhosts F D) (Disk : DiskGhosts D) (Source : SourceGhosts S) (Sink : SinkGhosts K)
    (Complaints : SinkGhosts E) (Links : LinksGhosts L Door Dial In Out) (files : FileNames) (policy : PolicyValue) (world : FactSet) (header : List ℕ)
    (only_now : (d : D) (c : List ℕ) → Disk.image_since d (Disk.moment d) c → Disk.image d c) where
  module _ (objects : Around F S K E L) (user : PolicyUser) (named : user_named user.name policy.users ≡ Some user) (told : Shelf.tells)
      (address : Text) (limit : ℕ) where
    abbrev scene : Scene
    scene = scene_around Shelf Disk Source Sink Complaints Links objects

    kept_so : SameNames scene.shelf.disk scene.shelf.disk' → KeepsInFront header (journals_of scene.shelf files) user.name
    kept_so same =
        let kept : KeepsJournals (journals_of scene.shelf files) =
        keeps_same Disk files.directory (Shelf.disk objects.shelf) (Shelf.disk objects.shelf') (Shelf.disk_faults objects.shelf)
        (Shelf.disk_faults objects.shelf') only_now same in
        kept_in_front header (journals_of scene.shelf files) user.name (kept user.name)

    standby_keeps : (e : CommandEnd) → StandbyEnds scene.shelf scene.links files address limit e → said_on scene.shelf files ≡ both policy world header
        → KeepsInFront header (journals_of scene.shelf files) user.name
    standby_keeps (end.Standby users copied) runs said =
        let over = runs.over_files told in
        let copies : CopiesOverFiles scene.shelf scene.links files address limit users copied policy world header =
        said_once (CopiesOverFiles scene.shelf scene.links files address limit users copied) policy over.0 world over.1 header over.2
        (sym over.3 ∙ said) over.4 in
        end_in_front header (journals_of scene.shelf files) policy user named users.items copied copies.of_policy copies.journals
    standby_keeps (end.Files why) runs said = kept_so runs.0.disks.0
    standby_keeps end.Memory runs said = kept_so (λ name. ap (λ f. Shelf.disk f name) runs.0)
    standby_keeps end.Usage runs said = absurd runs
    standby_keeps (end.Case case) runs said = absurd runs
    standby_keeps (end.Init users init) runs said = absurd runs
    standby_keeps (end.Batch users batched) runs said = absurd runs
    standby_keeps end.Nobody runs said = absurd runs
    standby_keeps (end.Audit name audit) runs said = absurd runs
    standby_keeps (end.Selfrun run) runs said = absurd runs
    standby_keeps (end.Serve users served) runs said = absurd runs
    standby_keeps (end.Migrate users moved) runs said = absurd runs
    standby_keeps (end.Dossier name dossier) runs said = absurd runs
    standby_keeps (end.Check checked) runs said = absurd runs

  pub standbys_keep : StandbysKeep Shelf Disk Source Sink Complaints Links files policy world header
  standbys_keep call user left told named is =
      let s = scene_around Shelf Disk Source Sink Complaints Links call.objects in
      let of_standby : OfStandby s files call.address call.limit call.promise.end =
      (subst (λ r. Does s r call.promise.end) call.read call.promise.does).command in
      standby_keeps call.objects user named told call.address call.limit call.promise.end of_standby.ends call.said left is

  pub takeovers_join : AnyCallsJoin Shelf Disk Source Sink Complaints Links files policy world header
      → TakeoversJoin Shelf Disk Source Sink Complaints Links files policy world header
  takeovers_join join standby first later user opened left told named begins opens follows further =
      join first later user opened left told named begun further
    where
      journals : Journals
      journals = journals_of_standby Shelf Disk Source Sink Complaints Links files policy world header standby

      by : (bytes : List ℕ) → IsLeft journals user.name bytes
          → journals.image_before user.name bytes ⊎ HasInFront header (journals.bytes user.name) bytes → OpensOn policy world header user opened bytes
      by bytes is (inl old) = begins bytes (inr old)
      by bytes is (inr in_front) =
          let before : OpensOn policy world header user opened (journals.bytes user.name) = begins (journals.bytes user.name) (inl refl) in
          let behind = opens bytes is in
          record {
            entries = behind.0;
            goes_on = goes_further opened before.entries behind.0 before.goes_on
                (goes_on_in_front policy world header user before.entries behind.0 (journals.bytes user.name) bytes before.opens behind.1 in_front);
            opens = behind.1;
          }

      begun : FollowsOn (OpensOn policy world header user opened)
          (journals_at Shelf Disk Source Sink Complaints Links files policy world header first) user.name
      begun bytes at = let is = follows bytes at in by bytes is (standbys_keep standby user bytes told named is)
