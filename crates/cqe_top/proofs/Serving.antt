-- Without a fault, a server serves to its end over journals that can be opened, or memory was wanting.
use Rattle.std.proofs.Common.{◌≡◌, ◌⊎◌, ◌+◌, ◌<◌, ◌≤◌, inl, inr, ℕ, Bool, true, false, ◌||◌, List, [], ◌∷◌, map, Option, None, Some, Result, Ok, Err, refl, sym}
use Rattle.std.proofs.Common.{ap, subst, ◌∙◌}
use Rattle.std.proofs.Common.{string_bytes}
use Rattle.std.specs.Prelude.{Vec, is_some}
use Rattle.std.specs.List.{list_any, AllByRecursion}
use Rattle.std.specs.declared.alloc.Global.{Global}
use Rattle.sha2.specs.Sha256.{sha256}
use Rattle.outside.specs.Faults.{Rose}
use Rattle.cqe_base.specs.Schema.{DatabaseSchema}
use Rattle.cqe_base.specs.Facts.{FactSet}
use Rattle.cqe_base.specs.History.{UserProfile, History, profile_of}
use Rattle.cqe_base.specs.Schema.{Text}
use Rattle.cqe_base.specs.declared.user.User.{User}
use Rattle.command_words.specs.Readings.{FileNames}
use Rattle.desk_crew.specs.Crew.{refusal_of}
use Rattle.desk_crew.specs.Shelved.{Journals}
use Rattle.log_journal.specs.Opening.{header_bytes}
use Rattle.log_journal.specs.declared.header.Header.{Header}
use Rattle.log_journal.specs.declared.header.OpenError.TheVariants.{NotAJournal, OtherPolicy, Damaged, DiskFault, Memory, OldVersion}
use Rattle.policy_files.specs.Facts.{facts_of}
use Rattle.policy_files.specs.Memory.{policy_user_of}
use Rattle.policy_files.specs.Policies.{PolicyUser, PolicyValue}
use Rattle.policy_files.specs.Policy.{policy_in}
use Rattle.policy_files.specs.declared.error.FactsError.{FactsError}
use Rattle.policy_files.specs.declared.error.PolicyError.{PolicyError}
use Rattle.serve_engine.specs.Served.{Member, member_broke}
use Rattle.serve_engine.specs.Serving as serving
use Rattle.serve_engine.specs.declared.run.ServeEnd.{ServeEnd}
use Rattle.serve_engine.specs.declared.run.ServeEnd.TheVariants as serve_end
use Rattle.user_desk.specs.Causes.{Opens, Refuses, IsSealedBy, IsStanding, OpensUnrefused}
use Rattle.user_desk.specs.declared.standing.DeskError.{DeskError}
use Rattle.user_desk.specs.declared.standing.DeskError.TheVariants as desk_errors
use Rattle.user_desk.specs.declared.standing.Standing.{Standing}
use Rattle.user_desk.specs.declared.standing.Standing.TheVariants.{Open, Closed, Sealed}
use Rattle.cqe_top.specs.declared.end.CommandEnd.TheVariants as ends
use Rattle.cqe_top.specs.Files.{no_policy, bad_policy, no_facts, bad_facts, both, SayOn, header_for, with_world, with_facts, with_policy, said_by}
use Rattle.cqe_top.specs.Files.{journals_of}
use Rattle.cqe_top.specs.Ready.{CanBeOpened}
use Rattle.cqe_top.specs.Reports.{has_refusal, FaultsHaveCauses, IsDoneUnlessMemory}
use Rattle.cqe_top.specs.Scene.{Scene, LinksScene}
use Rattle.cqe_top.specs.Serve.{ServesOverFiles, RunsServe, ServeSucceeds, IsServedOut}
use Rattle.cqe_top.proofs.Good.{agree, answers_done}

-- no connection is at hand, or the limit is reached
pub served_out : (links : LinksScene) (workers sessions : ℕ) → (links.at_hand' ≡ 0)
    ⊎ ((links.given + sessions + links.ended ≤ links.given' + links.ended') × (links.given + sessions < links.given' + workers))
    → IsServedOut links workers sessions
served_out links workers sessions (inl none) = inl none
served_out links workers sessions (inr (with_ended, with_workers)) = inr (record { with_ended = with_ended; with_workers = with_workers })

-- ---- the header that files say is that of a journal

said_text : (first : PolicyValue) (text : List ℕ) (read : Result FactSet FactsError) (policy : PolicyValue) (world : FactSet) (header : List ℕ)
    → with_world first text read ≡ both policy world header → header ≡ text
said_text first text (Ok found) policy world header is = let same : text ≡ header = cc in sym same
said_text first text (Err why) policy world header is = let clash : bad_facts why ≡ both policy world header = is in absurd cc

said_with_facts : (first : PolicyValue) (bytes : List ℕ) (facts : Option (List ℕ)) (policy : PolicyValue) (world : FactSet) (header : List ℕ)
    → with_facts first bytes facts ≡ both policy world header
    → (made : Header) × (header ≡ header_bytes made)
said_with_facts first bytes None policy world header is = let clash : no_facts ≡ both policy world header = is in absurd cc
said_with_facts first bytes (Some text) policy world header is =
    (record { policy = sha256 bytes; facts = sha256 text }, said_text first (header_for bytes text) (facts_of first.schema text) policy world header is)

said_with_policy : (bytes : List ℕ) (read : Result PolicyValue PolicyError) (facts : Option (List ℕ)) (policy : PolicyValue) (world : FactSet) (header : List ℕ)
    → with_policy bytes read facts ≡ both policy world header
    → (made : Header) × (header ≡ header_bytes made)
said_with_policy bytes (Ok first) facts policy world header is = said_with_facts first bytes facts policy world header is
said_with_policy bytes (Err why) facts policy world header is = let clash : bad_policy why ≡ both policy world header = is in absurd cc

said_header : (policy_file facts_file : Option (List ℕ)) (policy : PolicyValue) (world : FactSet) (header : List ℕ)
    → said_by policy_file facts_file ≡ both policy world header → (made : Header) × (header ≡ header_bytes made)
said_header None facts policy world header is = let clash : no_policy ≡ both policy world header = is in absurd cc
said_header (Some bytes) facts policy world header is = said_with_policy bytes (policy_in bytes) facts policy world header is

-- ---- without a fault

module _ (schema : DatabaseSchema) (world : FactSet) (header : List ℕ) (journals : Journals)
    (unrefused : (user : UserProfile) (bytes : List ℕ) (entries : History) (why : DeskError) → Opens schema world user header entries bytes
    → Refuses schema world user header bytes why → ⊥) where
  -- a user's journal can be opened, and the count of its disk didn't rise
  abbrev IsReady : PolicyUser → Type 0
  IsReady user = ((entries : History) × Opens schema world user.profile header entries (journals.bytes user.name))
      × (Rose (journals.before user.name) (journals.now user.name) → ⊥)

  not_sealed : (user : PolicyUser) (why : DeskError) → IsReady user
      → IsSealedBy schema world user.profile (Unit {0}) header (journals.bytes user.name) (journals.before user.name) (journals.now user.name) why → ⊥
  not_sealed user (desk_errors.Journal Memory) ready is = is
  not_sealed user (desk_errors.Journal DiskFault) ready is = ready.1 is
  not_sealed user (desk_errors.Journal NotAJournal) ready is =
      unrefused user.profile (journals.bytes user.name) ready.0.0 (desk_errors.Journal NotAJournal) ready.0.1 (is tt)
  not_sealed user (desk_errors.Journal OtherPolicy) ready is =
      unrefused user.profile (journals.bytes user.name) ready.0.0 (desk_errors.Journal OtherPolicy) ready.0.1 (is tt)
  not_sealed user (desk_errors.Journal (Damaged number)) ready is =
      unrefused user.profile (journals.bytes user.name) ready.0.0 (desk_errors.Journal (Damaged number)) ready.0.1 (is tt)
  not_sealed user (desk_errors.Journal OldVersion) ready is =
      unrefused user.profile (journals.bytes user.name) ready.0.0 (desk_errors.Journal OldVersion) ready.0.1 (is tt)
  not_sealed user (desk_errors.Stale number) ready is = unrefused user.profile (journals.bytes user.name) ready.0.0 (desk_errors.Stale number) ready.0.1 (is tt)
  not_sealed user (desk_errors.Unlawful number stored computed) ready is =
      unrefused user.profile (journals.bytes user.name) ready.0.0 (desk_errors.Unlawful number stored computed) ready.0.1 (is tt)
  not_sealed user (desk_errors.Size number) ready is = unrefused user.profile (journals.bytes user.name) ready.0.0 (desk_errors.Size number) ready.0.1 (is tt)
  not_sealed user (desk_errors.Unsafe number) ready is =
      unrefused user.profile (journals.bytes user.name) ready.0.0 (desk_errors.Unsafe number) ready.0.1 (is tt)
  not_sealed user (desk_errors.NotAdmitted admission) ready is =
      unrefused user.profile (journals.bytes user.name) ready.0.0 (desk_errors.NotAdmitted admission) ready.0.1 (is tt)

  not_refused : (user : User) (member : Member) (refusal : Option DeskError) → serving.HasServed schema world header journals user member refusal
      → IsReady (policy_user_of user) → is_some refusal ≡ true → ⊥
  not_refused user member refusal served ready refused =
      by served.standing served.refusal_is
      (subst (λ (profile : UserProfile). IsStanding schema world profile (Unit {0}) header (journals.bytes (string_bytes user.name)) member.opening
      (journals.before (string_bytes user.name)) (journals.now (string_bytes user.name)) served.standing) served.profile_is served.cause)
    where
      by : (standing : Standing) → refusal ≡ refusal_of standing
          → IsStanding schema world (profile_of user) (Unit {0}) header (journals.bytes (string_bytes user.name)) member.opening
          (journals.before (string_bytes user.name)) (journals.now (string_bytes user.name)) standing → ⊥
      by Open none is = let clash : false ≡ true = sym (ap is_some none) ∙ refused in cc
      by (Closed admission) none is = let clash : false ≡ true = sym (ap is_some none) ∙ refused in cc
      by (Sealed why) sealed is = not_sealed (policy_user_of user) why ready is.1

  none_refused : (users : List User) (members : List Member) (refusals : List (Option DeskError))
      → serving.HaveServed schema world header journals users members refusals
      → AllByRecursion IsReady (map policy_user_of users) → has_refusal refusals ≡ true → ⊥
  none_refused [] [] [] served ready says = let clash : false ≡ true = says in cc
  none_refused [] [] (refusal ∷ refusals) served ready says = served
  none_refused [] (member ∷ members) refusals served ready says = served
  none_refused (user ∷ users) [] refusals served ready says = served
  none_refused (user ∷ users) (member ∷ members) [] served ready says = served
  none_refused (user ∷ users) (member ∷ members) (None ∷ refusals) served ready says = none_refused users members refusals served.1 ready.1 says
  none_refused (user ∷ users) (member ∷ members) (Some why ∷ refusals) served ready says = not_refused user member (Some why) served.0 ready.0 refl

  none_broke : (users : List User) (members : List Member) (refusals : List (Option DeskError))
      → serving.HaveServed schema world header journals users members refusals
      → AllByRecursion IsReady (map policy_user_of users) → list_any member_broke members ≡ true → ⊥
  none_broke [] [] refusals served ready says = let clash : false ≡ true = says in cc
  none_broke [] (member ∷ members) refusals served ready says = served
  none_broke (user ∷ users) [] refusals served ready says = served
  none_broke (user ∷ users) (member ∷ members) [] served ready says = served
  none_broke (user ∷ users) (member ∷ members) (refusal ∷ refusals) served ready says =
      by (member_broke member) refl (none_broke users members refusals served.1 ready.1)
    where
      by : (broke : Bool) → member_broke member ≡ broke → (list_any member_broke members ≡ true → ⊥) → ⊥
      by true is further = ready.0.1 (served.0.failed is)
      by false is further = further (sym (ap (λ b. b || list_any member_broke members) is) ∙ says)

module _ (law : OpensUnrefused) (s : Scene) (files : FileNames) (address : Text) (workers sessions : ℕ) where
  pub serve_succeeds : (users : Vec User Global) (end : ServeEnd) → RunsServe s.shelf s.links files address workers sessions users end
      → FaultsHaveCauses s (ends.Serve users end)
      → ServeSucceeds s.shelf s.links files address workers sessions (ends.Serve users end)
  serve_succeeds users (serve_end.Done refusals is_broken) ran cause told links_told says shelf links =
      by (agree (ServesOverFiles s.shelf s.links files address workers sessions users (serve_end.Done refusals is_broken))
      (CanBeOpened (journals_of s.shelf files)) s.shelf files (ran.over_files told) says)
    where
      by : SayOn s.shelf files (λ policy world header.
          ServesOverFiles s.shelf s.links files address workers sessions users (serve_end.Done refusals is_broken) policy world header
          × CanBeOpened (journals_of s.shelf files) policy world header) → IsDoneUnlessMemory (ends.Serve users (serve_end.Done refusals is_broken))
      by (policy, world, header, say, (over, can)) =
          let served = over.serves links_told in
          inl (answers_done users refusals is_broken
          (none_refused policy.schema world header (journals_of s.shelf files) unrefused users.items served.members refusals.items served.each_user ready)
          (λ broken. none_broke policy.schema world header
          (journals_of s.shelf files) unrefused users.items served.members refusals.items served.each_user ready (sym served.broken_is ∙ broken)))
        where
          said : (made : Header) × (header ≡ header_bytes made)
          said = said_header (s.shelf.file files.policy) (s.shelf.file files.facts) policy world header say

          unrefused : (user : UserProfile) (bytes : List ℕ) (entries : History) (why : DeskError) → Opens policy.schema world user header entries bytes
              → Refuses policy.schema world user header bytes why → ⊥
          unrefused = subst (λ (text : List ℕ). (user : UserProfile) (bytes : List ℕ) (entries : History) (why : DeskError)
              → Opens policy.schema world user text entries bytes
              → Refuses policy.schema world user text bytes why
              → ⊥) (sym said.1) (λ user bytes entries why. law policy.schema world user said.0 bytes entries why)

          ready : AllByRecursion (IsReady policy.schema world header (journals_of s.shelf files) unrefused) (map policy_user_of users.items)
          ready = subst (AllByRecursion (IsReady policy.schema world header (journals_of s.shelf files) unrefused)) (sym over.of_policy) can
  serve_succeeds users serve_end.LinksFault ran cause told links_told says shelf links = absurd (links (cause.links refl))
  serve_succeeds users serve_end.ShelfFault ran cause told links_told says shelf links = absurd (shelf (cause.shelf refl))
  serve_succeeds users serve_end.Memory ran cause told links_told says shelf links = inr refl
