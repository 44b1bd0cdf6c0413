-- Calls over the same journals are one run, and parts of one history, for each user.
use Rattle.std.proofs.Common.{◌≡◌, ◌⊎◌, inl, inr, ℕ, ◌≤◌, ◌+◌, Bool, true, false, not, ◌&&◌, List, [], ◌∷◌, ◌++◌, map, refl, sym, ap, subst, ◌∙◌}
use Rattle.std.specs.Prelude.{Option, Some, None, IfSome, Vec, string_bytes}
use Rattle.std.specs.List.{list_any, AllByRecursion}
use Rattle.std.specs.declared.alloc.Global.{Global}
use Rattle.outside.specs.Shelf.{SameNames}
use Rattle.outside.specs.declared.disk.Disk.{Ghosts as DiskGhosts}
use Rattle.outside.specs.declared.shelf.Shelf.{Ghosts as ShelfGhosts}
use Rattle.cqe_base.specs.Facts.{FactSet}
use Rattle.cqe_base.specs.History.{profile_of}
use Rattle.cqe_base.specs.Schema.{Text}
use Rattle.cqe_base.specs.Transcript.{NamedUser, ScriptEvent, own_events, state_after}
use Rattle.cqe_base.specs.declared.user.User.{User}
use Rattle.user_desk.specs.Joining.{Span, IsSpanOver}
use Rattle.user_desk.specs.Standings.{is_sealed}
use Rattle.user_desk.specs.declared.standing.DeskError.{DeskError}
use Rattle.desk_crew.specs.Shelved.{Journals, KeepsJournals}
use Rattle.batch_engine.specs.Batch.{ServesUser, AnswersBatch, LeavesJournals, unopened, with_opening}
use Rattle.batch_engine.specs.BatchLines.{BatchItem}
use Rattle.batch_engine.specs.Joining as batch
use Rattle.batch_engine.specs.Lives.{is_call, is_opened}
use Rattle.batch_engine.specs.declared.run.BatchEnd.{BatchEnd}
use Rattle.batch_engine.specs.declared.run.BatchEnd.TheVariants as batch_end
use Rattle.batch_engine.proofs.Joining.{batches_are_spans, cut_batches_are_calls, batches_join, cut_batches_join, late_batches_join}
use Rattle.command_words.specs.Readings.{Reading, FileNames, reading_of, runs_case, runs_init, runs_batch, runs_audit, runs_selfrun, runs_serve}
use Rattle.command_words.specs.Readings.{runs_migrate, runs_dossier, runs_check, runs_mirrored_batch, runs_mirrored_serve, runs_standby}
use Rattle.desk_crew.proofs.Lasting.{keeps_same, keeps_all}
use Rattle.policy_files.specs.Memory.{policy_user_of}
use Rattle.policy_files.specs.Policies.{PolicyUser, PolicyValue}
use Rattle.serve_engine.specs.Joining as serve
use Rattle.serve_engine.specs.Served.{Member}
use Rattle.serve_engine.specs.Serving as serving
use Rattle.serve_engine.specs.Serving.{HasServed, HaveServed, LeavesHistories}
use Rattle.serve_engine.specs.declared.run.ServeEnd.{ServeEnd}
use Rattle.serve_engine.specs.declared.run.ServeEnd.TheVariants as serve_end
use Rattle.serve_engine.proofs.Joining.{servings_are_spans, cut_servings_are_spans}
use Rattle.cqe_top.specs.declared.end.CommandEnd.{CommandEnd}
use Rattle.cqe_top.specs.declared.end.CommandEnd.TheVariants as end
use Rattle.cqe_top.specs.Audit.{AuditEnds, OfAudit}
use Rattle.cqe_top.specs.Batch.{BatchEnds, RunsBatch, OfBatch, AnswersOverFiles}
use Rattle.cqe_top.specs.Mirrored.{MirroredServeEnds, OfMirroredBatch, OfMirroredServe, with_failed, with_told, failed_exchanges}
use Rattle.cqe_top.specs.Dossier.{DossierEnds, OfDossier}
use Rattle.cqe_top.specs.Files.{both, said_on, SayOn, journals_of, new_user, new_users}
use Rattle.cqe_top.specs.Lives.{TellsAll, IsEndOf, BatchCallsJoin, IsLeft, LeavesPart, LeavesParts, UsesJournals, CallsAreParts}
use Rattle.cqe_top.specs.Promise.{Promise, Does}
use Rattle.cqe_top.specs.Scene.{Scene, ShelfScene, Input, Output, LinksScene, shelf_of, scene_of}
use Rattle.cqe_top.specs.Serve.{ServeEnds, OfServe, ServesOverFiles}

-- what files say, they say once
pub said_once : (P : PolicyValue → FactSet → List ℕ → Type 0) (policy policy' : PolicyValue) (world world' : FactSet) (header header' : List ℕ)
    → both policy' world' header' ≡ both policy world header → P policy' world' header' → P policy world header
said_once P policy policy' world world' header header' same is =
    let p : policy' ≡ policy = cc in
    let w : world' ≡ world = cc in
    let h : header' ≡ header = cc in
    subst (λ q. P q world header) p (subst (λ x. P policy' x header) w (subst (λ k. P policy' world' k) h is))

-- ---- two batches

answered_over : (words : List Text) (s : Scene) (complaints : Output) (status : ℕ) (files : FileNames) (users : Vec User Global) (engine_end : BatchEnd)
    (workers : ℕ) (one : Promise words s complaints status) → reading_of words ≡ Some (runs_batch files workers)
    → one.end ≡ end.Batch users engine_end → TellsAll s
    → SayOn s.shelf files (λ policy world header. IsEndOf s files policy world header engine_end)
answered_over words s complaints status files users engine_end workers one read ends tells =
    let of_batch : Does s (Some (runs_batch files workers)) one.end = subst (λ r. Does s r one.end) read one.does in
    let runs : RunsBatch s.shelf s.input s.output files users engine_end =
    subst (λ (e : CommandEnd). BatchEnds s.shelf s.input s.output files e) ends of_batch.command.ends in
    let over = runs.over_files tells.0 in
    (over.0, over.1, over.2, over.3, over.4.answers tells.1 tells.2)

pub calls_join : (s : Scene) (complaints : Output) (s' : Scene) (complaints' : Output) → BatchCallsJoin s complaints s' complaints'
calls_join s complaints s' complaints' words words' status status' files workers workers' users users' engine_end engine_end' one two read read' ends ends'
    tells tells' same =
    let at = answered_over words s complaints status files users engine_end workers one read ends tells in
    let at' = answered_over words' s' complaints' status' files users' engine_end' workers' two read' ends' tells' in (
      at.0,
      at.1,
      at.2,
      at.3,
      record {
        one = at.4;
        two = said_once (λ policy world header. IsEndOf s' files policy world header engine_end') at.0 at'.0 at.1 at'.1 at.2 at'.2
            (sym at'.3 ∙ same ∙ at.3) at'.4;
        joined = batches_join at.0.schema at.1 at.2 (new_users at.0) (journals_of s.shelf files) (journals_of s'.shelf files);
        cut = cut_batches_join at.0.schema at.1 at.2 (new_users at.0) (journals_of s.shelf files) (journals_of s'.shelf files);
        late = late_batches_join at.0.schema at.1 at.2 (new_users at.0) (journals_of s.shelf files) (journals_of s'.shelf files);
      },
    )

-- ---- calls of several kinds

-- what holds of each holds of what each is led to, and the other way
all_of : {X : Type 0} (P Q : X → Type 0) → ((x : X) → P x → Q x) → (xs : List X) → AllByRecursion P xs → AllByRecursion Q xs
all_of P Q f [] all = tt
all_of P Q f (x ∷ xs) (is, all) = (f x is, all_of P Q f xs all)

mapped : {A B : Type 0} (f : A → B) (Q : B → Type 0) (xs : List A) → AllByRecursion (λ x. Q (f x)) xs → AllByRecursion Q (map f xs)
mapped f Q [] all = tt
mapped f Q (x ∷ xs) (is, all) = (is, mapped f Q xs all)

unmapped : {A B : Type 0} (f : A → B) (Q : B → Type 0) (xs : List A) → AllByRecursion Q (map f xs) → AllByRecursion (λ x. Q (f x)) xs
unmapped f Q [] all = tt
unmapped f Q (x ∷ xs) (is, all) = (is, unmapped f Q xs all)

module _ (journals : Journals) (policy : PolicyValue) (world : FactSet) (header : List ℕ) where
  -- whatever a crash leaves of the journal of a user is a part of his history, or nothing new
  abbrev OfUser : PolicyUser → Type 0
  OfUser user = (left : List ℕ) → IsLeft journals user.name left → LeavesPart journals policy world header user left

  -- the same of a user whose journal was opened
  abbrev OfNamed : NamedUser → Type 0
  OfNamed user = OfUser (record { name = user.name; profile = user.profile; token = None })

  -- the moments of a call, by that at which it began
  abbrev Since : Text → ℕ → Option ℕ → Type 0
  Since name opening start = IfSome start (λ begun. (begun ≤ opening)
      × ((c : List ℕ) → journals.since name begun c → journals.image_before name c ⊎ journals.since name opening c))

  module _ (users : List NamedUser) (script : List ScriptEvent) (user : NamedUser)
      (serves : ServesUser policy.schema world header journals users script user) where
    -- an opening of his journal held; and this was left of it as the batch ended, or at a moment since it was first opened
    abbrev pub IsLeftOpened : List ℕ → Type 0
    IsLeftOpened left = (list_any is_opened (own_events user.name script) ≡ true)
        × (journals.image user.name left ⊎ journals.since user.name serves.moments.opening left)

    ended : (held : Bool) → list_any is_opened (own_events user.name script) ≡ held → (left : List ℕ) → journals.image user.name left
        → journals.image_before user.name left ⊎ IsLeftOpened left
    ended true held left at = inr (held, inl at)
    ended false none left at = inl ((serves.kept (ap (λ b. b && list_any is_call (own_events user.name script)) none)).1 left at)

    amid : (held : Bool) → list_any is_opened (own_events user.name script) ≡ held → (left : List ℕ)
        → journals.image_before user.name left ⊎ journals.since user.name serves.moments.opening left
        → journals.image_before user.name left ⊎ IsLeftOpened left
    amid held is left (inl old) = inl old
    amid true held left (inr since) = inr (held, inr since)
    amid false none left (inr since) = inl (serves.moments.never none left since)

    -- what a batch left was left so, or a crash could leave it as the batch began
    pub batch_left : (left : List ℕ) → IsLeft journals user.name left → journals.image_before user.name left ⊎ IsLeftOpened left
    batch_left left (inl at) = ended (list_any is_opened (own_events user.name script)) refl left at
    batch_left left (inr (begun, began, since)) =
        let known : Since user.name serves.moments.opening (Some begun) = subst (Since user.name serves.moments.opening) began serves.moments.before in
        amid (list_any is_opened (own_events user.name script)) refl left (known.1 left since)

    batch_of_user : OfNamed user
    batch_of_user left is = by (batch_left left is)
      where
        by : journals.image_before user.name left ⊎ IsLeftOpened left
            → LeavesPart journals policy world header (record { name = user.name; profile = user.profile; token = None }) left
        by (inl old) = inl old
        by (inr (held, inl at)) =
            inr (
              batch.span_of (state_after policy.schema world user script) user left,
              refl,
              batches_are_spans journals policy.schema world header users script user serves held left at,
            )
        by (inr (held, inr since)) =
            let cut = cut_batches_are_calls journals policy.schema world header users script user serves held left since in
            inr (batch.cut_span_of policy.schema world user cut.front left, refl, cut.part)

  batch_parts : (items : List BatchItem) (written : List ℕ) → AnswersBatch policy.schema world header journals (new_users policy) items written
      → LeavesParts journals policy world header
  batch_parts items written answers =
      let script = with_opening answers.found answers.opened answers.events in
      let each : AllByRecursion OfNamed answers.users =
      all_of (ServesUser policy.schema world header journals answers.users script) OfNamed (batch_of_user answers.users script) answers.users
      answers.each_user in
      inr (unmapped new_user OfNamed policy.users
      (subst (AllByRecursion OfNamed) answers.of_policy (mapped unopened OfNamed answers.users each)))

  -- what each end of a batch leaves
  batch_leaves : (e : BatchEnd) → LeavesJournals policy.schema world header journals (new_users policy) e → LeavesParts journals policy world header
  batch_leaves (batch_end.Done refusals is_broken) (items, written, all) = batch_parts items all.written all.answers
  batch_leaves (batch_end.Script refusal) kept = inl kept
  batch_leaves batch_end.ReadFault kept = inl kept
  batch_leaves batch_end.WriteFault (items, written, some) = batch_parts (some.earlier ++ some.stretch) _ some.answers
  batch_leaves batch_end.ShelfFault kept = inl kept
  batch_leaves batch_end.Memory (inl kept) = inl kept
  batch_leaves batch_end.Memory (inr (items, written, to)) = batch_parts (to.0.earlier ++ to.0.stretch) _ to.0.answers

  module _ (user : User) (member : Member) (refusal : Option DeskError)
      (served : HasServed policy.schema world header journals user member refusal) where
    as_his : (span : Span) → IsSpanOver policy.schema world member.profile header (journals.bytes (string_bytes user.name)) span
        → IsSpanOver policy.schema world (profile_of user) header (journals.bytes (string_bytes user.name)) span
    as_his span over = subst (λ p. IsSpanOver policy.schema world p header (journals.bytes (string_bytes user.name)) span) served.profile_is over

    serving_ended : (sealed : Bool) → is_sealed served.standing ≡ sealed → (left : List ℕ) → journals.image (string_bytes user.name) left
        → LeavesPart journals policy world header (policy_user_of user) left
    serving_ended true sealed left at = inl ((served.kept (inl sealed)).1 left at)
    serving_ended false unsealed left at =
        inr (
          serve.span_of member left,
          refl,
          as_his (serve.span_of member left)
              (servings_are_spans journals policy.schema world header user member refusal served unsealed left at),
        )

    serving_amid : (sealed : Bool) → is_sealed served.standing ≡ sealed → (left : List ℕ)
        → journals.image_before (string_bytes user.name) left ⊎ journals.since (string_bytes user.name) served.moments.opening left
        → LeavesPart journals policy world header (policy_user_of user) left
    serving_amid sealed is left (inl old) = inl old
    serving_amid true sealed left (inr since) = inl (served.moments.never (ap not sealed) left since)
    serving_amid false unsealed left (inr since) =
        let cut = cut_servings_are_spans journals policy.schema world header user member refusal served unsealed left since in
        inr (serve.cut_span_of member cut.entries left, refl, as_his (serve.cut_span_of member cut.entries left) cut.over)

    serving_of_user : OfUser (policy_user_of user)
    serving_of_user left (inl at) = serving_ended (is_sealed served.standing) refl left at
    serving_of_user left (inr (begun, began, since)) =
        let known : Since (string_bytes user.name) served.moments.opening (Some begun) =
        subst (Since (string_bytes user.name) served.moments.opening) began served.moments.before in
        serving_amid (is_sealed served.standing) refl left (known.1 left since)

  each_served : (users : List User) (members : List Member) (refusals : List (Option DeskError))
      → HaveServed policy.schema world header journals users members refusals → AllByRecursion (λ user. OfUser (policy_user_of user)) users
  each_served [] members refusals have = tt
  each_served (user ∷ users) [] refusals have = absurd have
  each_served (user ∷ users) (member ∷ members) [] have = absurd have
  each_served (user ∷ users) (member ∷ members) (refusal ∷ refusals) (served, have) =
      (serving_of_user user member refusal served, each_served users members refusals have)

  serving_parts : (users : List User) (refusals : List (Option DeskError)) (is_broken : Bool) → map policy_user_of users ≡ policy.users
      → LeavesHistories policy.schema world header journals users refusals is_broken → LeavesParts journals policy world header
  serving_parts users refusals is_broken same leaves =
      inr (subst (AllByRecursion OfUser) same (mapped policy_user_of OfUser users (each_served users leaves.members refusals leaves.each_user)))

  -- what each end of a serving leaves
  serving_leaves : (users : List User) (e : ServeEnd) → map policy_user_of users ≡ policy.users
      → serving.LeavesJournals policy.schema world header journals users e → LeavesParts journals policy world header
  serving_leaves users (serve_end.Done refusals is_broken) same leaves = serving_parts users refusals.items is_broken same leaves
  serving_leaves users serve_end.LinksFault same (inl kept) = inl kept
  serving_leaves users serve_end.LinksFault same (inr (refusals, is_broken, leaves)) = serving_parts users refusals is_broken same leaves
  serving_leaves users serve_end.ShelfFault same kept = inl kept
  serving_leaves users serve_end.Memory same (inl kept) = inl kept
  serving_leaves users serve_end.Memory same (inr (refusals, is_broken, leaves)) = serving_parts users refusals is_broken same leaves

module _ {F D : Type 0} (Shelf : ShelfGhosts F D) (Disk : DiskGhosts D) (old new : F) (input : Input) (output : Output) (links : LinksScene)
    (only_now : (d : D) (c : List ℕ) → Disk.image_since d (Disk.moment d) c → Disk.image d c) (files : FileNames) (policy : PolicyValue) (world : FactSet)
    (header : List ℕ) where
  abbrev shelf : ShelfScene
  shelf = shelf_of Shelf Disk old new

  abbrev Parts : Type 0
  Parts = LeavesParts (journals_of shelf files) policy world header

  -- the shelf with these counts of the disks' faults behind the call, and with these marks that may be told; no part looks at them
  abbrev counted : (Text → ℕ) → (Text → ℕ) → ShelfScene
  counted count marks = record shelf {
    disk_faults' = count;
    told' = marks;
  }

  -- the counts behind a call in which exchanges that failed are counted, too
  abbrev with_exchanges : Text → ℕ
  with_exchanges = λ name. Shelf.disk_faults new name + failed_exchanges links name

  same_disks : new ≡ old → SameNames shelf.disk shelf.disk'
  same_disks same = λ name. ap (λ f. Shelf.disk f name) same

  -- where no disk was touched, all journals are kept
  kept_disks : SameNames shelf.disk shelf.disk' → KeepsJournals (journals_of shelf files)
  kept_disks same =
      keeps_same Disk files.directory (Shelf.disk old) (Shelf.disk new) (Shelf.disk_faults old) (Shelf.disk_faults new) only_now same

  module _ (tells : shelf.tells) (said : said_on shelf files ≡ both policy world header) where
    of_batch : (count marks : Text → ℕ) (e : CommandEnd) → BatchEnds (counted count marks) input output files e → Parts
    of_batch count marks (end.Batch users engine_end) runs =
        let over = runs.over_files tells in
        let answers : AnswersOverFiles (counted count marks) input output files users engine_end policy world header =
        said_once (AnswersOverFiles (counted count marks) input output files users engine_end) policy over.0 world over.1 header over.2 (sym over.3 ∙ said)
        over.4 in
        batch_leaves (journals_of (counted count marks) files) policy world header engine_end answers.journals
    of_batch count marks (end.Files why) runs = inl (kept_disks runs.0.disks.0)
    of_batch count marks end.Memory runs = inl (kept_disks (same_disks runs.0))
    of_batch count marks end.Usage runs = absurd runs
    of_batch count marks (end.Case case) runs = absurd runs
    of_batch count marks (end.Init users init) runs = absurd runs
    of_batch count marks end.Nobody runs = absurd runs
    of_batch count marks (end.Audit name audit) runs = absurd runs
    of_batch count marks (end.Selfrun run) runs = absurd runs
    of_batch count marks (end.Serve users served) runs = absurd runs
    of_batch count marks (end.Migrate users moved) runs = absurd runs
    of_batch count marks (end.Dossier name shown) runs = absurd runs
    of_batch count marks (end.Check checked) runs = absurd runs
    of_batch count marks (end.Standby users copied) runs = absurd runs

    of_audit : (user : Text) (json : Bool) (e : CommandEnd) → AuditEnds shelf output files user json e → Parts
    of_audit user json (end.Audit name engine_end) runs =
        inl (keeps_all Disk files.directory (Shelf.disk old) (Shelf.disk new) (Shelf.disk_faults old) (Shelf.disk_faults new) (runs.bytes tells)
        (runs.images tells) (runs.moments tells))
    of_audit user json end.Nobody finds = inl (kept_disks finds.disks.0)
    of_audit user json (end.Files why) runs = inl (kept_disks runs.0.disks.0)
    of_audit user json end.Memory runs = inl (kept_disks (same_disks runs.0))
    of_audit user json end.Usage runs = absurd runs
    of_audit user json (end.Case case) runs = absurd runs
    of_audit user json (end.Init users init) runs = absurd runs
    of_audit user json (end.Batch users batched) runs = absurd runs
    of_audit user json (end.Selfrun run) runs = absurd runs
    of_audit user json (end.Serve users served) runs = absurd runs
    of_audit user json (end.Migrate users moved) runs = absurd runs
    of_audit user json (end.Dossier name shown) runs = absurd runs
    of_audit user json (end.Check checked) runs = absurd runs
    of_audit user json (end.Standby users copied) runs = absurd runs

    of_dossier : (user : Text) (e : CommandEnd) → DossierEnds shelf output files user e → Parts
    of_dossier user (end.Dossier name engine_end) runs =
        inl (keeps_all Disk files.directory (Shelf.disk old) (Shelf.disk new) (Shelf.disk_faults old) (Shelf.disk_faults new) (runs.bytes tells)
        (runs.images tells) (runs.moments tells))
    of_dossier user end.Nobody finds = inl (kept_disks finds.disks.0)
    of_dossier user (end.Files why) runs = inl (kept_disks runs.0.disks.0)
    of_dossier user end.Memory runs = inl (kept_disks (same_disks runs.0))
    of_dossier user end.Usage runs = absurd runs
    of_dossier user (end.Case case) runs = absurd runs
    of_dossier user (end.Init users init) runs = absurd runs
    of_dossier user (end.Batch users batched) runs = absurd runs
    of_dossier user (end.Audit name audit) runs = absurd runs
    of_dossier user (end.Selfrun run) runs = absurd runs
    of_dossier user (end.Serve users served) runs = absurd runs
    of_dossier user (end.Migrate users moved) runs = absurd runs
    of_dossier user (end.Check checked) runs = absurd runs
    of_dossier user (end.Standby users copied) runs = absurd runs

    of_serve : (count marks : Text → ℕ) (address : Text) (workers limit : ℕ) (e : CommandEnd) → ServeEnds (counted count marks) links files address workers
        limit e → Parts
    of_serve count marks address workers limit (end.Serve users engine_end) runs =
        let over = runs.over_files tells in
        let serves : ServesOverFiles (counted count marks) links files address workers limit users engine_end policy world header =
        said_once (ServesOverFiles (counted count marks) links files address workers limit users engine_end) policy over.0 world over.1 header over.2
        (sym over.3 ∙ said) over.4 in
        serving_leaves (journals_of (counted count marks) files) policy world header users.items engine_end serves.of_policy serves.journals
    of_serve count marks address workers limit (end.Files why) runs = inl (kept_disks runs.0.disks.0)
    of_serve count marks address workers limit end.Memory runs = inl (kept_disks (same_disks runs.0))
    of_serve count marks address workers limit end.Usage runs = absurd runs
    of_serve count marks address workers limit (end.Case case) runs = absurd runs
    of_serve count marks address workers limit (end.Init users init) runs = absurd runs
    of_serve count marks address workers limit (end.Batch users batched) runs = absurd runs
    of_serve count marks address workers limit end.Nobody runs = absurd runs
    of_serve count marks address workers limit (end.Audit name audit) runs = absurd runs
    of_serve count marks address workers limit (end.Selfrun run) runs = absurd runs
    of_serve count marks address workers limit (end.Migrate users moved) runs = absurd runs
    of_serve count marks address workers limit (end.Dossier name shown) runs = absurd runs
    of_serve count marks address workers limit (end.Check checked) runs = absurd runs
    of_serve count marks address workers limit (end.Standby users copied) runs = absurd runs

    of_mirrored_serve : (marks : Text → ℕ) (address : Text) (workers limit : ℕ) (e : CommandEnd)
        → MirroredServeEnds (with_told (with_failed (scene_of shelf input output links) (failed_exchanges links)) marks) files address workers limit e → Parts
    of_mirrored_serve marks address workers limit (end.Serve users engine_end) runs =
        of_serve with_exchanges marks address workers limit (end.Serve users engine_end) runs
    of_mirrored_serve marks address workers limit (end.Files why) runs = inl (kept_disks runs.0.disks.0)
    of_mirrored_serve marks address workers limit end.Memory runs = inl (kept_disks (same_disks runs.0))
    of_mirrored_serve marks address workers limit end.Usage runs = absurd runs
    of_mirrored_serve marks address workers limit (end.Case case) runs = absurd runs
    of_mirrored_serve marks address workers limit (end.Init users init) runs = absurd runs
    of_mirrored_serve marks address workers limit (end.Batch users batched) runs = absurd runs
    of_mirrored_serve marks address workers limit end.Nobody runs = absurd runs
    of_mirrored_serve marks address workers limit (end.Audit name audit) runs = absurd runs
    of_mirrored_serve marks address workers limit (end.Selfrun run) runs = absurd runs
    of_mirrored_serve marks address workers limit (end.Migrate users moved) runs = absurd runs
    of_mirrored_serve marks address workers limit (end.Dossier name shown) runs = absurd runs
    of_mirrored_serve marks address workers limit (end.Check checked) runs = absurd runs
    of_mirrored_serve marks address workers limit (end.Standby users copied) runs = absurd runs

    of_reading : (r : Option Reading) (e : CommandEnd) → Does (scene_of shelf input output links) r e → UsesJournals files r → Parts
    of_reading (Some (runs_batch its workers)) e does same =
        of_batch shelf.disk_faults' shelf.told' e (subst (λ (f : FileNames). OfBatch (scene_of shelf input output links) f e) same does.command).ends
    of_reading (Some (runs_audit its user json)) e does same =
        of_audit user json e (subst (λ (f : FileNames). OfAudit (scene_of shelf input output links) f user json e) same does.command).ends
    of_reading (Some (runs_serve its address workers limit)) e does same =
        of_serve shelf.disk_faults' shelf.told' address workers limit e
        (subst (λ (f : FileNames). OfServe (scene_of shelf input output links) f address workers limit e) same does.command).ends
    of_reading (Some (runs_dossier its user)) e does same =
        of_dossier user e (subst (λ (f : FileNames). OfDossier (scene_of shelf input output links) f user e) same does.command).ends
    of_reading (Some (runs_mirrored_batch its workers standby)) e does same =
        let of = subst (λ (f : FileNames). OfMirroredBatch (with_failed (scene_of shelf input output links) (failed_exchanges links)) f standby e) same
        does.command in
        of_batch with_exchanges of.told e of.ends
    of_reading (Some (runs_mirrored_serve its address workers limit standby)) e does same =
        let of = subst (λ (f : FileNames).
        OfMirroredServe (with_failed (scene_of shelf input output links) (failed_exchanges links)) f address workers limit standby e) same does.command in
        of_mirrored_serve of.told address workers limit e of.ends
    of_reading None e does uses = absurd uses
    of_reading (Some runs_case) e does uses = absurd uses
    of_reading (Some (runs_init its)) e does uses = absurd uses
    of_reading (Some (runs_selfrun seed users asks)) e does uses = absurd uses
    of_reading (Some (runs_migrate its to)) e does uses = absurd uses
    of_reading (Some (runs_check policy_file facts user)) e does uses = absurd uses
    of_reading (Some (runs_standby its address limit)) e does uses = absurd uses

pub calls_are_parts : {F D : Type 0} (Shelf : ShelfGhosts F D) (Disk : DiskGhosts D) (old new : F) (input : Input) (output : Output) (links : LinksScene)
    (complaints : Output) → ((d : D) (c : List ℕ) → Disk.image_since d (Disk.moment d) c → Disk.image d c)
    → CallsAreParts (scene_of (shelf_of Shelf Disk old new) input output links) complaints
calls_are_parts Shelf Disk old new input output links complaints only_now words status files policy world header one uses tells said =
    of_reading Shelf Disk old new input output links only_now files policy world header tells said (reading_of words) one.end one.does uses
