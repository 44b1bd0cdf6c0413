-- A dossier that a call wrote is found sound by another.
use Rattle.std.proofs.Common.{◌≡◌, ◌⊎◌, inl, inr, ℕ, ◌≤◌, true, false, List, [], ◌++◌, length, refl, sym, ap, subst, ◌∙◌, arith}
use Rattle.std.specs.Prelude.{Some, Ok, IsOk}
use Rattle.cqe_base.specs.Facts.{FactSet}
use Rattle.cqe_base.specs.History.{History}
use Rattle.cqe_base.specs.Schema.{Text}
use Rattle.command_words.specs.Readings.{FileNames}
use Rattle.dossier_engine.specs.Checks.{AcceptsBytes, checked_bytes, sound_text}
use Rattle.dossier_engine.specs.Ends.{EndsDossier, IsDossierOf}
use Rattle.dossier_engine.specs.declared.end.CheckEnd.TheVariants as check_end
use Rattle.dossier_engine.specs.declared.end.DossierEnd.TheVariants as dossier_end
use Rattle.policy_files.specs.Policies.{PolicyUser, PolicyValue}
use Rattle.user_desk.specs.Standings.{is_sealed}
use Rattle.user_desk.specs.declared.standing.Standing.{Standing}
use Rattle.user_desk.specs.declared.standing.Standing.TheVariants.{Open, Closed, Sealed}
use Rattle.user_desk.proofs.Deciding.{opens_once}
use Rattle.cqe_top.specs.Check.{two_files, CanBeChecked, ChecksOverFiles, CheckEnds, OfCheck}
use Rattle.cqe_top.specs.Dossier.{ServedIsAccepted, ShowsOverFiles, DossierEnds, OfDossier}
use Rattle.cqe_top.specs.Dossiers.{HasWritten, HasChecked, WrittenIsFoundSound}
use Rattle.cqe_top.specs.Files.{SayOn, journals_of}
use Rattle.cqe_top.specs.Promise.{Promise, Does}
use Rattle.cqe_top.specs.Reports.{status_of, report_of, IsDoneUnlessMemory}
use Rattle.cqe_top.specs.Scene.{Scene, Output}
use Rattle.cqe_top.specs.declared.end.CommandEnd.{CommandEnd}
use Rattle.cqe_top.specs.declared.end.CommandEnd.TheVariants as end
use Rattle.cqe_top.specs.declared.end.FilesEnd.TheVariants as files_end
use Rattle.cqe_top.specs.declared.report.Report.TheVariants as report
use Rattle.cqe_top.proofs.Good.{same_one}
use Rattle.cqe_top.proofs.Lives.{said_once}
use Rattle.cqe_top.specs.Files.{user_named}

module _ (files : FileNames) (user : Text) (policy : PolicyValue) (world : FactSet) (header : List ℕ) (one : PolicyUser) where
  -- ---- what was written

  module _ (s : Scene) (entries : History) where
    -- what was written shows the entries
    abbrev IsShown : Type 0
    IsShown = checked_bytes policy.schema world one.name one.profile s.output.written' ≡ Ok entries

    module _ (words : List Text) (status : ℕ) (has : HasWritten files user policy world header one words s status entries)
        (few : length s.output.written' ≤ 67108864) where
      -- it is the dossier of one who is served
      of_standing : (standing : Standing) → is_sealed standing ≡ false → (text : Text)
          → IsDossierOf policy.schema world header one.name one.profile ((journals_of s.shelf files).bytes one.name)
          ((journals_of s.shelf files).before one.name) ((journals_of s.shelf files).now one.name) standing text
          → s.output.written' ≡ s.output.written ++ text → ServedIsAccepted s.shelf files policy world header one → IsShown
      of_standing Open unsealed text is whole accepted =
          let text_is : s.output.written' ≡ text = whole ∙ ap (λ (l : List ℕ). l ++ text) has.empty in
          let short : length text ≤ 67108864 = subst (λ (l : List ℕ). length l ≤ 67108864) text_is few in
          let same : is.entries ≡ entries =
          opens_once policy.schema world one.profile header is.entries entries ((journals_of s.shelf files).bytes one.name) is.standing_is.1 has.opens in
          subst (λ (l : List ℕ). checked_bytes policy.schema world one.name one.profile l ≡ Ok entries) (sym text_is)
          (accepted text is short ∙ ap (λ (h : History). Ok h) same)
      of_standing (Closed admission) unsealed text is whole accepted = let clash : false ≡ true = sym is.standing_is.0 ∙ has.is_admitted in absurd cc
      of_standing (Sealed why) unsealed text is whole accepted = let clash : true ≡ false = unsealed in absurd cc

      -- what the end says of one user
      abbrev OfUser : PolicyUser → Type 0
      OfUser u =
          (s.output.tells → EndsDossier policy.schema world header u.name u.profile ((journals_of s.shelf files).bytes u.name)
          ((journals_of s.shelf files).before u.name) ((journals_of s.shelf files).now u.name) dossier_end.Done s.output.written s.output.written')
          × ServedIsAccepted s.shelf files policy world header u

      of_user : OfUser one → IsShown
      of_user (ended, accepted) =
          let wrote = ended has.output in of_standing wrote.0 wrote.1 wrote.2.0 wrote.2.1 wrote.2.2 accepted

      over_files : ShowsOverFiles s.shelf s.output files user dossier_end.Done policy world header → IsShown
      over_files (other, found, judged, ended, accepted) = of_user (subst OfUser (same_one (sym found ∙ has.named)) (ended, accepted))

      -- another end has another status
      of_end : (e : CommandEnd) → DossierEnds s.shelf s.output files user e → status_of (report_of e) ≡ 0 → IsShown
      of_end (end.Dossier name dossier_end.Done) runs done =
          let over = runs.over_files has.shelf in
          over_files (said_once (ShowsOverFiles s.shelf s.output files user dossier_end.Done) policy over.0 world over.1 header over.2
          (sym over.3 ∙ has.said) over.4)
      of_end (end.Dossier name (dossier_end.Refused why)) runs done = let clash : 10 ≡ 0 = done in absurd (omega (arith, clash))
      of_end (end.Dossier name dossier_end.WriteFault) runs done = let clash : 7 ≡ 0 = done in absurd (omega (arith, clash))
      of_end (end.Dossier name dossier_end.ShelfFault) runs done = let clash : 9 ≡ 0 = done in absurd (omega (arith, clash))
      of_end (end.Dossier name dossier_end.Memory) runs done = let clash : 13 ≡ 0 = done in absurd (omega (arith, clash))
      of_end end.Nobody runs done = let clash : 2 ≡ 0 = done in absurd (omega (arith, clash))
      of_end (end.Files (files_end.Missing name)) runs done = let clash : 8 ≡ 0 = done in absurd (omega (arith, clash))
      of_end (end.Files (files_end.ShelfFault kind)) runs done = let clash : 9 ≡ 0 = done in absurd (omega (arith, clash))
      of_end (end.Files (files_end.Policy why)) runs done = let clash : 3 ≡ 0 = done in absurd (omega (arith, clash))
      of_end (end.Files (files_end.Facts why)) runs done = let clash : 4 ≡ 0 = done in absurd (omega (arith, clash))
      of_end (end.Files files_end.Memory) runs done = let clash : 13 ≡ 0 = done in absurd (omega (arith, clash))
      of_end end.Memory runs done = let clash : 13 ≡ 0 = done in absurd (omega (arith, clash))
      of_end end.Usage runs done = absurd runs
      of_end (end.Case case) runs done = absurd runs
      of_end (end.Init users init) runs done = absurd runs
      of_end (end.Batch users batched) runs done = absurd runs
      of_end (end.Audit name audit) runs done = absurd runs
      of_end (end.Selfrun run) runs done = absurd runs
      of_end (end.Serve users served) runs done = absurd runs
      of_end (end.Migrate users moved) runs done = absurd runs
      of_end (end.Check checked) runs done = absurd runs
      of_end (end.Standby users copied) runs done = absurd runs

      written_shown : (complaints : Output) → Promise words s complaints status → IsShown
      written_shown complaints promise =
          let of_dossier : OfDossier s files user promise.end = (subst (λ r. Does s r promise.end) has.read promise.does).command in
          of_end promise.end of_dossier.ends (sym promise.of_status ∙ has.done)

  -- ---- what was checked

  module _ (s : Scene) (text : Text) (entries : History) (shown : checked_bytes policy.schema world one.name one.profile text ≡ Ok entries)
      (words : List Text) (has : HasChecked files user policy world header one words s text) (named : user_named user policy.users ≡ Some one) where
    input_shown : checked_bytes policy.schema world one.name one.profile s.input.left ≡ Ok entries
    input_shown = subst (λ (l : List ℕ). checked_bytes policy.schema world one.name one.profile l ≡ Ok entries) (sym has.text_is) shown

    -- that it is sound was said
    abbrev IsFound : Type 0
    IsFound = s.output.written' ≡ s.output.written ++ sound_text (length entries)

    -- what the end says of one user
    abbrev OfChecked : PolicyUser → Type 0
    OfChecked u =
        (count : ℕ) × AcceptsBytes policy.schema world u.name u.profile s.input.left count × (s.output.written' ≡ s.output.written ++ sound_text count)

    of_checked : OfChecked one → IsFound
    of_checked (count, accepts, whole) =
        let both : Ok accepts.accepted.entries ≡ Ok entries = sym accepts.shown ∙ input_shown in
        let same : accepts.accepted.entries ≡ entries = cc in
        whole ∙ ap (λ (n : ℕ). s.output.written ++ sound_text n) (sym accepts.accepted.are_counted ∙ ap length same)

    checked_over : ChecksOverFiles s.shelf s.input s.output (two_files files.policy files.facts) user check_end.Done policy world header → IsFound
    checked_over (other, found, judged, ended) =
        let said = ended has.input has.output in
        of_checked (subst OfChecked (same_one (sym found ∙ named)) (said.0, said.1, said.3))

    -- another end tells another report
    found_at : (e : CommandEnd) → CheckEnds s.shelf s.input s.output (two_files files.policy files.facts) user e → report_of e ≡ report.Done → IsFound
    found_at (end.Check check_end.Done) runs done =
        let over = runs.over_files has.shelf in
        checked_over (said_once (ChecksOverFiles s.shelf s.input s.output (two_files files.policy files.facts) user check_end.Done) policy over.0 world
        over.1 header over.2 (sym over.3 ∙ has.said) over.4)
    found_at (end.Check (check_end.Refused why)) runs done = let clash : report.Dossier why ≡ report.Done = done in absurd cc
    found_at (end.Check check_end.ReadFault) runs done = let clash : report.ReadFault ≡ report.Done = done in absurd cc
    found_at (end.Check check_end.WriteFault) runs done = let clash : report.WriteFault ≡ report.Done = done in absurd cc
    found_at (end.Check check_end.Memory) runs done = let clash : report.Memory ≡ report.Done = done in absurd cc
    found_at end.Nobody runs done = let clash : report.Usage ≡ report.Done = done in absurd cc
    found_at (end.Files (files_end.Missing name)) runs done = let clash : report.Missing name ≡ report.Done = done in absurd cc
    found_at (end.Files (files_end.ShelfFault kind)) runs done = let clash : report.ShelfFault ≡ report.Done = done in absurd cc
    found_at (end.Files (files_end.Policy why)) runs done = let clash : report.Policy why ≡ report.Done = done in absurd cc
    found_at (end.Files (files_end.Facts why)) runs done = let clash : report.Facts why ≡ report.Done = done in absurd cc
    found_at (end.Files files_end.Memory) runs done = let clash : report.Memory ≡ report.Done = done in absurd cc
    found_at end.Memory runs done = let clash : report.Memory ≡ report.Done = done in absurd cc
    found_at end.Usage runs done = absurd runs
    found_at (end.Case case) runs done = absurd runs
    found_at (end.Init users init) runs done = absurd runs
    found_at (end.Batch users batched) runs done = absurd runs
    found_at (end.Audit name audit) runs done = absurd runs
    found_at (end.Selfrun run) runs done = absurd runs
    found_at (end.Serve users served) runs done = absurd runs
    found_at (end.Migrate users moved) runs done = absurd runs
    found_at (end.Dossier name dossier) runs done = absurd runs
    found_at (end.Standby users copied) runs done = absurd runs

    found_sound : (complaints : Output) (status : ℕ) → Promise words s complaints status → (status ≡ 13) ⊎ ((status ≡ 0) × IsFound)
    found_sound complaints status promise = by (of_check.succeeds has.shelf has.input can has.shelf_whole has.input_whole has.output_whole)
      where
        of_check : OfCheck s files.policy files.facts user promise.end
        of_check = (subst (λ r. Does s r promise.end) has.read promise.does).command

        can : SayOn s.shelf (two_files files.policy files.facts) (CanBeChecked s.input.left user)
        can = (policy, world, header, has.said, (one, named, subst IsOk (sym input_shown) refl))

        by : IsDoneUnlessMemory promise.end → (status ≡ 13) ⊎ ((status ≡ 0) × IsFound)
        by (inl done) = inr (promise.of_status ∙ ap status_of done, found_at promise.end of_check.ends done)
        by (inr wanting) = inl (promise.of_status ∙ ap status_of wanting)

pub written_is_found : (s : Scene) (complaints : Output) (s' : Scene) (complaints' : Output) → WrittenIsFoundSound s complaints s' complaints'
written_is_found s complaints s' complaints' words words' status status' files user policy world header one entries promise promise' wrote checked =
    found_sound files user policy world header one s' s.output.written' entries
    (written_shown files user policy world header one s entries words status wrote checked.short complaints promise) words' checked wrote.named complaints'
    status' promise'
