use Rattle.std.proofs.Common.{◌≡◌, ◌<◌, refl, sym, ap, subst, ◌∙◌, length, string_bytes}
use Rattle.std.specs.Prelude.{position, Some}
use Rattle.outside.proofs.Rises.{rose_since}
use Rattle.audit_engine.specs.Ends.{EndsAudit, JudgesJournal}
use Rattle.cqe_base.specs.History.{profile_of}
use Rattle.cqe_base.specs.Limits.{KeepsLimits}
use Rattle.cqe_base.specs.declared.user.User.{User}
use Rattle.command_words.specs.Readings.{names_of_files}
use Rattle.desk_crew.specs.Shelved.{Journals}
use Rattle.dossier_engine.specs.Ends.{EndsDossier, JudgesDossier}
use Rattle.log_journal.specs.Opening.{header_bytes}
use Rattle.policy_files.specs.Memory.{policy_user_of, policy_value_of}
use Rattle.cqe_top.specs.Audit.{OfAudit, RunsAudit}
use Rattle.cqe_top.specs.Check.{OfCheck, RunsCheck, two_files}
use Rattle.cqe_top.specs.Dossier.{OfDossier, RunsDossier}
use Rattle.cqe_top.specs.Files.{FindsNobody}
use Rattle.cqe_top.specs.Promise.{OfReading}
use Rattle.cqe_top.specs.Scene.{Scene, scene_of, shelf_of, input_of, output_of, links_of}
use Rattle.cqe_top.specs.Steps.{reading_for_user}
use Rattle.cqe_top.specs.declared.end.CommandEnd.TheVariants as ends
use Rattle.cqe_top.proofs.Causes.{files_cause, audit_cause, dossier_cause, check_cause}
use Rattle.cqe_top.proofs.Finding.{is_named, one_named, named_at, nobody_named}
use Rattle.cqe_top.proofs.Good.{unread_for_user, audit_succeeds, dossier_succeeds, check_succeeds, nobody_there}
use Rattle.cqe_top.proofs.Over.{some_rose, same_journals, one_over, silent_end, silent_dossier}
use Rattle.cqe_top.proofs.Users.{name_proper}
use Rattle.cqe_top.proofs.for_user.run_for_user.Goals as goal

-- ---- files that weren't read

pub returns-in-Err-clause-cause : goal.returns-in-Err-clause-cause
returns-in-Err-clause-cause g c links =
    files_cause
    (scene_of (shelf_of g.F.Shelf g.F.D.Disk c.args.shelf.now c.read_files.new.shelf) (input_of g.S.Source c.args.source.now c.args.source.now)
    (output_of g.K.Sink c.args.sink.now c.args.sink.now) (links_of g.L.Links links links)) c.in-Err.end c.in-Err.ensures.cause

pub returns-in-Err-clause-command : goal.returns-in-Err-clause-command
returns-in-Err-clause-command g c links =
    unread_for_user
    (scene_of (shelf_of g.F.Shelf g.F.D.Disk c.args.shelf.now c.read_files.new.shelf) (input_of g.S.Source c.args.source.now c.args.source.now)
    (output_of g.K.Sink c.args.sink.now c.args.sink.now) (links_of g.L.Links links links))
    (names_of_files c.args.files) c.args.name.now c.args.task c.in-Err.end
    (record { refused = c.in-Err.ensures.refused; looks = c.in-Err.ensures.looks; disks = (c.in-Err.ensures.disks, c.in-Err.ensures.counts) })
    (returns-in-Err-clause-cause g c links) refl refl refl

-- ---- a user who isn't there

pub returns-in_default-clause-command : goal.returns-in_default-clause-command
returns-in_default-clause-command g c links =
    let scene : Scene = scene_of (shelf_of g.F.Shelf g.F.D.Disk c.args.shelf.now c.read_files.new.shelf)
    (input_of g.S.Source c.args.source.now c.args.source.now) (output_of g.K.Sink c.args.sink.now c.args.sink.now) (links_of g.L.Links links links) in
    let read = c.in-Ok.ensures in
    let files = names_of_files c.args.files in
    let inputs = c.in-Ok.inputs in
    let name = c.args.name.now in
    let finds : FindsNobody scene.shelf scene.output files name = record {
      over_files = λ told. (
        policy_value_of inputs.policy,
        inputs.world,
        header_bytes inputs.header,
        read.read told,
        nobody_named name inputs.policy.users.items (c.in_default.ensures.place ∙ ap (position (is_named name)) c.as_slice.ensures.value),
      );
      looks = read.both;
      disks = (read.disks, read.counts);
      writes_nothing = refl;
    } in
    nobody_there scene files name c.args.task finds refl refl

-- ---- an audit

pub returns-in-Audit-clause-cause : goal.returns-in-Audit-clause-cause
returns-in-Audit-clause-cause g c links =
    let read = c.in-Ok.ensures in
    let ran = c.run_audit.ensures in
    audit_cause (scene_of (shelf_of g.F.Shelf g.F.D.Disk c.args.shelf.now c.run_audit.new.shelf) (input_of g.S.Source c.args.source.now c.args.source.now)
    (output_of g.K.Sink c.args.sink.now c.run_audit.new.sink) (links_of g.L.Links links links)) c.args.name c.run_audit.result ran.write_cause
    (λ is. rose_since (g.F.Shelf.faults c.args.shelf.now) (g.F.Shelf.faults c.read_files.new.shelf) (g.F.Shelf.faults c.run_audit.new.shelf) read.later
    (ran.shelf_cause is))
    (λ is. some_rose g.F.Shelf g.F.D.Disk c.args.shelf.now c.read_files.new.shelf c.run_audit.new.shelf read.disks read.counts (_, ran.journal_cause is))

pub returns-in-Audit-clause-command : goal.returns-in-Audit-clause-command
returns-in-Audit-clause-command g c links =
    let scene : Scene = scene_of (shelf_of g.F.Shelf g.F.D.Disk c.args.shelf.now c.run_audit.new.shelf)
    (input_of g.S.Source c.args.source.now c.args.source.now) (output_of g.K.Sink c.args.sink.now c.run_audit.new.sink) (links_of g.L.Links links links) in
    let read = c.in-Ok.ensures in
    let ran = c.run_audit.ensures in
    let files = names_of_files c.args.files in
    let inputs = c.in-Ok.inputs in
    let name = c.args.name.now in
    let user = c.index-user.result.now in
    let found = c.in-Some.ensures.place ∙ ap (position (is_named name)) c.as_slice.ensures.value in
    let within : c.in-Some.place < length inputs.policy.users.items =
    subst (λ users. c.in-Some.place < length users) c.as_slice.ensures.value c.in-Some.ensures.within in
    let is : string_bytes user.name ≡ name = named_at name inputs.policy.users.items c.in-Some.place user found within c.index-user.ensures in
    let same = same_journals g.F.Shelf g.F.D.Disk c.args.shelf.now c.read_files.new.shelf c.run_audit.new.shelf read.disks read.counts files in
    let over = one_over g.F.Shelf g.F.D.Disk c.args.shelf.now c.read_files.new.shelf c.run_audit.new.shelf read.disks read.counts files.directory name
    (string_bytes user.name) is in
    let runs : RunsAudit scene.shelf scene.output files name c.in-Audit.json name c.run_audit.result = record {
      name_is = refl;
      over_files = λ told. (
        policy_value_of inputs.policy,
        inputs.world,
        header_bytes inputs.header,
        read.read told,
        (
          policy_user_of user,
          one_named name inputs.policy.users.items c.in-Some.place user user found c.index-user.ensures within,
          subst (λ (journals : Journals).
              JudgesJournal inputs.policy.schema inputs.world (header_bytes inputs.header) (string_bytes user.name) (profile_of user)
              (journals.bytes (string_bytes user.name))
              (journals.before (string_bytes user.name)) (journals.now (string_bytes user.name)) c.run_audit.result) same (ran.judged told),
          λ out_told. subst (λ (journals : Journals).
              EndsAudit inputs.policy.schema inputs.world (header_bytes inputs.header) (string_bytes user.name) (profile_of user)
              (journals.bytes (string_bytes user.name))
              (journals.before (string_bytes user.name)) (journals.now (string_bytes user.name)) c.in-Audit.json c.run_audit.result
              (g.K.Sink.written c.args.sink.now) (g.K.Sink.written c.run_audit.new.sink)) same (ran.ends told out_told),
        ),
      );
      looks = λ told. ran.looked ∙ read.both told;
      others = λ told. over.others ran.disks;
      other_counts = over.other_counts ran.other_counts;
      bytes = λ told. over.bytes (ran.bytes told);
      images = λ told. over.images (ran.images told);
      moments = λ told. over.moments (ran.moments told);
      durable = λ told done. over.durable (ran.durable told done);
      silent = silent_end c.run_audit.result ran.silent_fault ran.silent_memory;
    } in
    let does : OfAudit scene files name c.in-Audit.json (ends.Audit c.args.name c.run_audit.result) = record {
      ends = runs;
      succeeds = audit_succeeds scene files name c.in-Audit.json c.args.name c.run_audit.result runs (returns-in-Audit-clause-cause g c links);
      reads_nothing = refl;
      listens_nowhere = refl;
    } in
    subst (λ task. OfReading scene (Some (reading_for_user files name task)) (ends.Audit c.args.name c.run_audit.result)) (sym c.in-Audit.is) does

-- ---- a dossier

pub returns-in-Dossier-clause-cause : goal.returns-in-Dossier-clause-cause
returns-in-Dossier-clause-cause g c links =
    let read = c.in-Ok.ensures in
    let ran = c.run_dossier.ensures in
    dossier_cause (scene_of (shelf_of g.F.Shelf g.F.D.Disk c.args.shelf.now c.run_dossier.new.shelf)
    (input_of g.S.Source c.args.source.now c.args.source.now)
    (output_of g.K.Sink c.args.sink.now c.run_dossier.new.sink) (links_of g.L.Links links links)) c.args.name c.run_dossier.result ran.write_cause
    (λ is. rose_since (g.F.Shelf.faults c.args.shelf.now) (g.F.Shelf.faults c.read_files.new.shelf) (g.F.Shelf.faults c.run_dossier.new.shelf) read.later
    (ran.shelf_cause is))
    (λ is. some_rose g.F.Shelf g.F.D.Disk c.args.shelf.now c.read_files.new.shelf c.run_dossier.new.shelf read.disks read.counts (_, ran.journal_cause is))

pub returns-in-Dossier-clause-command : goal.returns-in-Dossier-clause-command
returns-in-Dossier-clause-command g c links =
    let scene : Scene = scene_of (shelf_of g.F.Shelf g.F.D.Disk c.args.shelf.now c.run_dossier.new.shelf)
    (input_of g.S.Source c.args.source.now c.args.source.now) (output_of g.K.Sink c.args.sink.now c.run_dossier.new.sink) (links_of g.L.Links links links) in
    let read = c.in-Ok.ensures in
    let ran = c.run_dossier.ensures in
    let files = names_of_files c.args.files in
    let inputs = c.in-Ok.inputs in
    let name = c.args.name.now in
    let user = c.index-user.result.now in
    let found = c.in-Some.ensures.place ∙ ap (position (is_named name)) c.as_slice.ensures.value in
    let within : c.in-Some.place < length inputs.policy.users.items =
    subst (λ users. c.in-Some.place < length users) c.as_slice.ensures.value c.in-Some.ensures.within in
    let is : string_bytes user.name ≡ name = named_at name inputs.policy.users.items c.in-Some.place user found within c.index-user.ensures in
    let same = same_journals g.F.Shelf g.F.D.Disk c.args.shelf.now c.read_files.new.shelf c.run_dossier.new.shelf read.disks read.counts files in
    let over = one_over g.F.Shelf g.F.D.Disk c.args.shelf.now c.read_files.new.shelf c.run_dossier.new.shelf read.disks read.counts files.directory name
    (string_bytes user.name) is in
    let runs : RunsDossier scene.shelf scene.output files name name c.run_dossier.result = record {
      name_is = refl;
      over_files = λ told. (
        policy_value_of inputs.policy,
        inputs.world,
        header_bytes inputs.header,
        read.read told,
        (
          policy_user_of user,
          one_named name inputs.policy.users.items c.in-Some.place user user found c.index-user.ensures within,
          subst (λ (journals : Journals).
              JudgesDossier inputs.policy.schema inputs.world (header_bytes inputs.header) (string_bytes user.name) (profile_of user)
              (journals.bytes (string_bytes user.name))
              (journals.before (string_bytes user.name)) (journals.now (string_bytes user.name)) c.run_dossier.result) same (ran.judged told),
          λ out_told. subst (λ (journals : Journals).
              EndsDossier inputs.policy.schema inputs.world (header_bytes inputs.header) (string_bytes user.name) (profile_of user)
              (journals.bytes (string_bytes user.name))
              (journals.before (string_bytes user.name)) (journals.now (string_bytes user.name)) c.run_dossier.result
              (g.K.Sink.written c.args.sink.now) (g.K.Sink.written c.run_dossier.new.sink)) same (ran.ends told out_told),
          λ text shown few. c.law_written_are_accepted.ensures inputs.policy.schema inputs.world (header_bytes inputs.header) (string_bytes user.name)
              (profile_of user) _ _ _ text c.known.ensures
              (name_proper inputs.policy.users.items c.in-Some.place user read.proper c.index-user.ensures within)
              (subst (λ (u : User). KeepsLimits inputs.policy.schema (profile_of u)) (sym c.index-user.ensures) (read.limits c.in-Some.place user within))
              shown few,
        ),
      );
      looks = λ told. ran.looked ∙ read.both told;
      others = λ told. over.others ran.disks;
      other_counts = over.other_counts ran.other_counts;
      bytes = λ told. over.bytes (ran.bytes told);
      images = λ told. over.images (ran.images told);
      moments = λ told. over.moments (ran.moments told);
      durable = λ told done. over.durable (ran.durable told done);
      silent = silent_dossier c.run_dossier.result ran.silent_fault ran.silent_memory;
    } in
    let does : OfDossier scene files name (ends.Dossier c.args.name c.run_dossier.result) = record {
      ends = runs;
      succeeds = dossier_succeeds scene files name c.args.name c.run_dossier.result runs (returns-in-Dossier-clause-cause g c links);
      reads_nothing = refl;
      listens_nowhere = refl;
    } in
    subst (λ task. OfReading scene (Some (reading_for_user files name task)) (ends.Dossier c.args.name c.run_dossier.result)) (sym c.in-Dossier.is) does

-- ---- the check of a dossier

pub returns-clause-cause : goal.returns-clause-cause
returns-clause-cause g c links =
    let ran = c.run_check.ensures in
    check_cause (scene_of (shelf_of g.F.Shelf g.F.D.Disk c.args.shelf.now c.read_files.new.shelf) (input_of g.S.Source c.args.source.now c.run_check.new.source)
    (output_of g.K.Sink c.args.sink.now c.run_check.new.sink) (links_of g.L.Links links links)) c.run_check.result ran.read_cause ran.write_cause

pub returns-clause-command : goal.returns-clause-command
returns-clause-command g c links =
    let scene : Scene = scene_of (shelf_of g.F.Shelf g.F.D.Disk c.args.shelf.now c.read_files.new.shelf)
    (input_of g.S.Source c.args.source.now c.run_check.new.source) (output_of g.K.Sink c.args.sink.now c.run_check.new.sink) (links_of g.L.Links links links) in
    let read = c.in-Ok.ensures in
    let ran = c.run_check.ensures in
    let files = names_of_files c.args.files in
    let two = two_files files.policy files.facts in
    let inputs = c.in-Ok.inputs in
    let name = c.args.name.now in
    let user = c.index-user.result.now in
    let found = c.in-Some.ensures.place ∙ ap (position (is_named name)) c.as_slice.ensures.value in
    let within : c.in-Some.place < length inputs.policy.users.items =
    subst (λ users. c.in-Some.place < length users) c.as_slice.ensures.value c.in-Some.ensures.within in
    let runs : RunsCheck scene.shelf scene.input scene.output two name c.run_check.result = record {
      over_files = λ told. (
        policy_value_of inputs.policy,
        inputs.world,
        header_bytes inputs.header,
        read.read told,
        (
          policy_user_of user,
          one_named name inputs.policy.users.items c.in-Some.place user user found c.index-user.ensures within,
          ran.judged,
          ran.ends,
        ),
      );
      looks = read.both;
      disks = (read.disks, read.counts);
      silent = ran.silent;
    } in
    let does : OfCheck scene files.policy files.facts name (ends.Check c.run_check.result) = record {
      ends = runs;
      succeeds = check_succeeds scene two name c.run_check.result runs (returns-clause-cause g c links);
      listens_nowhere = refl;
    } in
    subst (λ task. OfReading scene (Some (reading_for_user files name task)) (ends.Check c.run_check.result)) (sym c.in-Check.is) does
