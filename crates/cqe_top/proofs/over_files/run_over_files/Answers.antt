use Rattle.std.proofs.Common.{refl, sym, ap, subst, ◌∙◌, map}
use Rattle.std.specs.Prelude.{Some}
use Rattle.outside.proofs.Rises.{rose_since}
use Rattle.cqe_base.specs.Schema.{has_duplicate}
use Rattle.command_words.specs.Readings.{names_of_files}
use Rattle.desk_crew.specs.Crew.{named_user}
use Rattle.log_journal.specs.Opening.{header_bytes}
use Rattle.policy_files.specs.Memory.{policy_user_of, policy_value_of}
use Rattle.policy_files.specs.Users.{names_of}
use Rattle.cqe_top.specs.Batch.{OfBatch, RunsBatch}
use Rattle.cqe_top.specs.Init.{OfInit, RunsInit}
use Rattle.cqe_top.specs.Migrate.{OfMigrate, RunsMigrate}
use Rattle.cqe_top.specs.Scene.{Scene, scene_of, shelf_of, input_of, output_of, links_of}
use Rattle.cqe_top.specs.Promise.{OfReading}
use Rattle.cqe_top.specs.Serve.{OfServe, RunsServe}
use Rattle.cqe_top.specs.Standby.{OfStandby, RunsStandby}
use Rattle.cqe_top.specs.Steps.{reading_over}
use Rattle.cqe_top.specs.declared.end.CommandEnd.TheVariants as ends
use Rattle.cqe_top.proofs.Causes.{files_cause, init_cause, batch_cause, migrate_cause, serve_cause, standby_cause}
use Rattle.cqe_top.proofs.Good.{unread, nobody_called, init_succeeds, batch_succeeds, migrate_succeeds}
use Rattle.cqe_top.proofs.Over.{init_refused, migrate_refused}
use Rattle.cqe_top.proofs.Over.{serve_over, init_caused, some_rose, same_journals, touches_over, init_over, batch_over}
use Rattle.cqe_top.proofs.Over.{batch_left, serve_left, one_of, counts_over}
use Rattle.cqe_top.proofs.Over.{copies_left, copies_served, migrate_over, migrate_caused, counts_both, at_one_of}
use Rattle.cqe_top.proofs.Serving.{serve_succeeds, served_out}
use Rattle.cqe_top.proofs.Standing.{standby_succeeds}
use Rattle.cqe_top.proofs.Users.{batch_names_are}
use Rattle.cqe_top.proofs.over_files.run_over_files.Given.{Over}
use Rattle.cqe_top.proofs.over_files.run_over_files.Goals as goal
use Rattle.cqe_top.proofs.over_files.run_over_files.Goals.{After-drop-inputs-5, After-drop-inputs-in-Batch-4}
use Rattle.cqe_top.proofs.over_files.run_over_files.Goals.{After-drop-inputs-in-Init-3, After-drop-inputs-in-Migrate-4, After-drop-inputs-in-Serve-4}
use Rattle.cqe_top.proofs.over_files.run_over_files.Goals.{In-Err}
use Rattle.cqe_top.specs.Files.{change_on}

pub run_batch-end-requires-clause-names : goal.run_batch-end-requires-clause-names
run_batch-end-requires-clause-names g c κs within =
    ap has_duplicate
    (ap (λ users. map (λ user. user.name) (map named_user users)) c.as_slice-users.ensures.value ∙ batch_names_are c.in-Ok.inputs.policy.users.items)
    ∙ c.in-Ok.ensures.names

pub run_serve-end-requires-clause-names : goal.run_serve-end-requires-clause-names
run_serve-end-requires-clause-names g c κs within =
    ap has_duplicate
    (ap (λ users. map (λ user. user.name) (map named_user users)) c.as_slice-users.ensures.value ∙ batch_names_are c.in-Ok.inputs.policy.users.items)
    ∙ c.in-Ok.ensures.names

pub run_standby-end-requires-clause-names : goal.run_standby-end-requires-clause-names
run_standby-end-requires-clause-names g c κs within =
    ap has_duplicate
    (ap (λ users. map (λ user. user.name) (map named_user users)) c.as_slice-users.ensures.value ∙ batch_names_are c.in-Ok.inputs.policy.users.items)
    ∙ c.in-Ok.ensures.names

-- ---- files that weren't read

abbrev unread_scene : (g : Over) → In-Err g → Scene
unread_scene g c =
    scene_of (shelf_of g.F.Shelf g.F.D.Disk c.args.shelf.now c.read_files.new.shelf) (input_of g.S.Source c.args.source.now c.args.source.now)
    (output_of g.K.Sink c.args.sink.now c.args.sink.now) (links_of g.L.Links c.args.links.now c.args.links.now)

pub returns-in-Err-clause-cause : goal.returns-in-Err-clause-cause
returns-in-Err-clause-cause g c = files_cause (unread_scene g c) c.in-Err.end c.in-Err.ensures.cause

pub returns-in-Err-clause-command : goal.returns-in-Err-clause-command
returns-in-Err-clause-command g c =
    unread (unread_scene g c) (names_of_files c.args.files) c.args.task c.in-Err.end
    (record { refused = c.in-Err.ensures.refused; looks = c.in-Err.ensures.looks; disks = (c.in-Err.ensures.disks, c.in-Err.ensures.counts) })
    (returns-in-Err-clause-cause g c) refl refl refl (nobody_called g.L.Links c.args.links.now)

-- ---- the making of journals

abbrev init_scene : (g : Over) → After-drop-inputs-in-Init-3 g → Scene
init_scene g c =
    scene_of (shelf_of g.F.Shelf g.F.D.Disk c.args.shelf.now c.run_init-end.new.shelf) (input_of g.S.Source c.args.source.now c.args.source.now)
    (output_of g.K.Sink c.args.sink.now c.args.sink.now) (links_of g.L.Links c.args.links.now c.args.links.now)

pub returns-in-Init-clause-cause : goal.returns-in-Init-clause-cause
returns-in-Init-clause-cause g c =
    let scene = init_scene g c in
    let read = c.in-Ok.ensures in
    let ran = c.run_init-end.ensures in
    let files = names_of_files c.args.files in
    let inputs = c.in-Ok.inputs in
    let made = init_over g.F.Shelf g.F.D.Disk c.args.shelf.now c.read_files.new.shelf c.run_init-end.new.shelf read.disks read.counts files
    (header_bytes inputs.header)
    inputs.policy c.as_slice-users.result.now c.run_init-end.result c.as_slice-users.ensures.value read.later ran.ends in
    let caused = init_caused g.F.Shelf.tells g.F.D.Disk (header_bytes inputs.header) files.directory
    (names_of (map policy_user_of inputs.policy.users.items))
    (change_on scene.shelf) c.run_init-end.result made in
    init_cause scene inputs.policy.users c.run_init-end.result caused.0 caused.1
    (init_refused g.F.Shelf.tells g.F.D.Disk (header_bytes inputs.header) files.directory (names_of (map policy_user_of inputs.policy.users.items))
    (change_on scene.shelf) c.run_init-end.result made)

pub returns-in-Init-clause-command : goal.returns-in-Init-clause-command
returns-in-Init-clause-command g c =
    let scene = init_scene g c in
    let read = c.in-Ok.ensures in
    let ran = c.run_init-end.ensures in
    let files = names_of_files c.args.files in
    let inputs = c.in-Ok.inputs in
    let made = init_over g.F.Shelf g.F.D.Disk c.args.shelf.now c.read_files.new.shelf c.run_init-end.new.shelf read.disks read.counts files
    (header_bytes inputs.header)
    inputs.policy c.as_slice-users.result.now c.run_init-end.result c.as_slice-users.ensures.value read.later ran.ends in
    let runs : RunsInit scene.shelf files inputs.policy.users c.run_init-end.result = record {
      over_files = λ told. (
        policy_value_of inputs.policy,
        inputs.world,
        header_bytes inputs.header,
        read.read told,
        record {
          of_policy = refl;
          makes = made;
          counts = counts_over g.F.Shelf g.F.D.Disk c.args.shelf.now c.read_files.new.shelf c.run_init-end.new.shelf read.disks read.counts files
              inputs.policy c.as_slice-users.result.now c.as_slice-users.ensures.value ran.other_counts;
        },
      );
      looks = λ told. ran.looked ∙ read.both told;
      within =
          one_of g.F.Shelf.tells g.F.D.Disk (header_bytes inputs.header) files.directory c.as_slice-users.result.now inputs.policy.users.items
          _ c.run_init-end.result c.as_slice-users.ensures.value ran.ends;
    } in
    let does : OfInit scene files (ends.Init inputs.policy.users c.run_init-end.result) = record {
      ends = runs;
      succeeds = init_succeeds scene files inputs.policy.users c.run_init-end.result runs (returns-in-Init-clause-cause g c);
      reads_nothing = refl;
      writes_nothing = refl;
      listens_nowhere = refl;
    } in
    subst (λ task. OfReading scene (Some (reading_over files task)) (ends.Init inputs.policy.users c.run_init-end.result)) (sym c.in-Init.is) does

-- ---- a batch

abbrev batch_scene : (g : Over) → After-drop-inputs-in-Batch-4 g → Scene
batch_scene g c =
    scene_of (shelf_of g.F.Shelf g.F.D.Disk c.args.shelf.now c.run_batch-end.new.shelf) (input_of g.S.Source c.args.source.now c.run_batch-end.new.source)
    (output_of g.K.Sink c.args.sink.now c.run_batch-end.new.sink) (links_of g.L.Links c.args.links.now c.args.links.now)

pub returns-in-Batch-clause-cause : goal.returns-in-Batch-clause-cause
returns-in-Batch-clause-cause g c =
    let read = c.in-Ok.ensures in
    let ran = c.run_batch-end.ensures in
    batch_cause (batch_scene g c) c.in-Ok.inputs.policy.users c.run_batch-end.result ran.read_cause ran.write_cause
    (λ is. rose_since (g.F.Shelf.faults c.args.shelf.now) (g.F.Shelf.faults c.read_files.new.shelf) (g.F.Shelf.faults c.run_batch-end.new.shelf) read.later
    (ran.shelf_cause is))
    (λ is. some_rose g.F.Shelf g.F.D.Disk c.args.shelf.now c.read_files.new.shelf c.run_batch-end.new.shelf read.disks read.counts (ran.disk_cause is))
    (λ is. some_rose g.F.Shelf g.F.D.Disk c.args.shelf.now c.read_files.new.shelf c.run_batch-end.new.shelf read.disks read.counts (ran.journal_cause is))

pub returns-in-Batch-clause-command : goal.returns-in-Batch-clause-command
returns-in-Batch-clause-command g c =
    let scene = batch_scene g c in
    let read = c.in-Ok.ensures in
    let ran = c.run_batch-end.ensures in
    let files = names_of_files c.args.files in
    let inputs = c.in-Ok.inputs in
    let runs : RunsBatch scene.shelf scene.input scene.output files inputs.policy.users c.run_batch-end.result = record {
      over_files = λ told. (
        policy_value_of inputs.policy,
        inputs.world,
        header_bytes inputs.header,
        read.read told,
        record {
          of_policy = refl;
          touches = touches_over g.F.Shelf g.F.D.Disk c.args.shelf.now c.read_files.new.shelf c.run_batch-end.new.shelf read.disks read.counts files
              inputs.policy c.as_slice-users.result.now
              c.as_slice-users.ensures.value ran.disks ran.other_counts;
          journals = batch_left inputs.policy inputs.world (header_bytes inputs.header) c.as_slice-users.result.now _ _ c.run_batch-end.result
              (same_journals g.F.Shelf g.F.D.Disk c.args.shelf.now c.read_files.new.shelf c.run_batch-end.new.shelf read.disks read.counts files)
              c.as_slice-users.ensures.value
              (ran.journals told);
          answers =
              λ in_told out_told. batch_over inputs.policy inputs.world (header_bytes inputs.header) c.as_slice-users.result.now _ _ c.run_batch-end.result
              _ _ _ _
              (same_journals g.F.Shelf g.F.D.Disk c.args.shelf.now c.read_files.new.shelf c.run_batch-end.new.shelf read.disks read.counts files)
              c.as_slice-users.ensures.value
              (ran.ends told in_told out_told);
        },
      );
      looks = λ told. ran.looked ∙ read.both told;
      unopened = λ is. (
        λ name. ap (λ shelf. g.F.Shelf.disk shelf name) (ran.unopened is) ∙ read.disks name,
        λ name. ap (λ shelf. g.F.Shelf.disk_faults shelf name) (ran.unopened is) ∙ read.counts name,
      );
      silent = ran.silent;
    } in
    let does : OfBatch scene files (ends.Batch inputs.policy.users c.run_batch-end.result) = record {
      ends = runs;
      succeeds = batch_succeeds scene files inputs.policy.users c.run_batch-end.result runs (returns-in-Batch-clause-cause g c);
      listens_nowhere = refl;
    } in
    subst (λ task. OfReading scene (Some (reading_over files task)) (ends.Batch inputs.policy.users c.run_batch-end.result)) (sym c.in-Batch.is) does

-- ---- the moving of journals

abbrev migrate_scene : (g : Over) → After-drop-inputs-in-Migrate-4 g → Scene
migrate_scene g c =
    scene_of (shelf_of g.F.Shelf g.F.D.Disk c.args.shelf.now c.run_migrate-end.new.shelf) (input_of g.S.Source c.args.source.now c.args.source.now)
    (output_of g.K.Sink c.args.sink.now c.args.sink.now) (links_of g.L.Links c.args.links.now c.args.links.now)

pub returns-in-Migrate-clause-cause : goal.returns-in-Migrate-clause-cause
returns-in-Migrate-clause-cause g c =
    let scene = migrate_scene g c in
    let read = c.in-Ok.ensures in
    let ran = c.run_migrate-end.ensures in
    let files = names_of_files c.args.files in
    let inputs = c.in-Ok.inputs in
    let to = c.in-Migrate.to.now in
    let moved = migrate_over g.F.Shelf g.F.D.Disk c.args.shelf.now c.read_files.new.shelf c.run_migrate-end.new.shelf read.disks read.counts files
    (header_bytes inputs.header)
    to inputs.policy c.as_slice-users.result.now c.run_migrate-end.result c.as_slice-users.ensures.value read.later ran.ends in
    let caused = migrate_caused g.F.Shelf.tells g.F.D.Disk (header_bytes inputs.header) files.directory to
    (names_of (map policy_user_of inputs.policy.users.items))
    (change_on scene.shelf) c.run_migrate-end.result moved in
    migrate_cause scene inputs.policy.users c.run_migrate-end.result caused.0 caused.1
    (migrate_refused g.F.Shelf.tells g.F.D.Disk (header_bytes inputs.header) files.directory to (names_of (map policy_user_of inputs.policy.users.items))
    (change_on scene.shelf) c.run_migrate-end.result moved)

pub returns-in-Migrate-clause-command : goal.returns-in-Migrate-clause-command
returns-in-Migrate-clause-command g c =
    let scene = migrate_scene g c in
    let read = c.in-Ok.ensures in
    let ran = c.run_migrate-end.ensures in
    let files = names_of_files c.args.files in
    let inputs = c.in-Ok.inputs in
    let to = c.in-Migrate.to.now in
    let moved = migrate_over g.F.Shelf g.F.D.Disk c.args.shelf.now c.read_files.new.shelf c.run_migrate-end.new.shelf read.disks read.counts files
    (header_bytes inputs.header)
    to inputs.policy c.as_slice-users.result.now c.run_migrate-end.result c.as_slice-users.ensures.value read.later ran.ends in
    let runs : RunsMigrate scene.shelf files to inputs.policy.users c.run_migrate-end.result = record {
      over_files = λ told. (
        policy_value_of inputs.policy,
        inputs.world,
        header_bytes inputs.header,
        read.read told,
        record {
          of_policy = refl;
          moves = moved;
          counts = counts_both g.F.Shelf g.F.D.Disk c.args.shelf.now c.read_files.new.shelf c.run_migrate-end.new.shelf read.disks read.counts files
              to inputs.policy c.as_slice-users.result.now c.as_slice-users.ensures.value ran.other_counts;
        },
      );
      looks = λ told. ran.looked ∙ read.both told;
      within =
          at_one_of g.F.Shelf.tells g.F.D.Disk (header_bytes inputs.header) files.directory to c.as_slice-users.result.now inputs.policy.users.items
          _ c.run_migrate-end.result c.as_slice-users.ensures.value ran.ends;
    } in
    let does : OfMigrate scene files to (ends.Migrate inputs.policy.users c.run_migrate-end.result) = record {
      ends = runs;
      succeeds = migrate_succeeds scene files to inputs.policy.users c.run_migrate-end.result runs (returns-in-Migrate-clause-cause g c);
      reads_nothing = refl;
      writes_nothing = refl;
      listens_nowhere = refl;
    } in
    subst (λ task. OfReading scene (Some (reading_over files task)) (ends.Migrate inputs.policy.users c.run_migrate-end.result)) (sym c.in-Migrate.is) does

-- ---- a server

abbrev serve_scene : (g : Over) → After-drop-inputs-in-Serve-4 g → Scene
serve_scene g c =
    scene_of (shelf_of g.F.Shelf g.F.D.Disk c.args.shelf.now c.run_serve-end.new.shelf) (input_of g.S.Source c.args.source.now c.args.source.now)
    (output_of g.K.Sink c.args.sink.now c.args.sink.now) (links_of g.L.Links c.args.links.now c.run_serve-end.new.links)

pub returns-in-Serve-clause-cause : goal.returns-in-Serve-clause-cause
returns-in-Serve-clause-cause g c =
    let read = c.in-Ok.ensures in
    let ran = c.run_serve-end.ensures in
    serve_cause (serve_scene g c) c.in-Ok.inputs.policy.users c.run_serve-end.result ran.links_cause
    (λ is. rose_since (g.F.Shelf.faults c.args.shelf.now) (g.F.Shelf.faults c.read_files.new.shelf) (g.F.Shelf.faults c.run_serve-end.new.shelf) read.later
    (ran.shelf_cause is))
    (λ is. some_rose g.F.Shelf g.F.D.Disk c.args.shelf.now c.read_files.new.shelf c.run_serve-end.new.shelf read.disks read.counts (ran.disk_cause is))
    (λ is. some_rose g.F.Shelf g.F.D.Disk c.args.shelf.now c.read_files.new.shelf c.run_serve-end.new.shelf read.disks read.counts (ran.journal_cause is))

pub returns-in-Serve-clause-command : goal.returns-in-Serve-clause-command
returns-in-Serve-clause-command g c =
    let scene = serve_scene g c in
    let read = c.in-Ok.ensures in
    let ran = c.run_serve-end.ensures in
    let files = names_of_files c.args.files in
    let inputs = c.in-Ok.inputs in
    let listening = c.in-Serve.listening in
    let runs : RunsServe scene.shelf scene.links files listening.address.now listening.workers listening.sessions inputs.policy.users c.run_serve-end.result =
    record {
      over_files = λ told. (
        policy_value_of inputs.policy,
        inputs.world,
        header_bytes inputs.header,
        read.read told,
        record {
          of_policy = refl;
          touches = touches_over g.F.Shelf g.F.D.Disk c.args.shelf.now c.read_files.new.shelf c.run_serve-end.new.shelf read.disks read.counts files
              inputs.policy c.as_slice-users.result.now
              c.as_slice-users.ensures.value ran.disks ran.other_counts;
          journals = serve_left inputs.policy inputs.world (header_bytes inputs.header) c.as_slice-users.result.now _ _ c.run_serve-end.result
              (same_journals g.F.Shelf g.F.D.Disk c.args.shelf.now c.read_files.new.shelf c.run_serve-end.new.shelf read.disks read.counts files)
              c.as_slice-users.ensures.value
              (ran.journals told);
          serves = λ links_told. serve_over inputs.policy inputs.world (header_bytes inputs.header) c.as_slice-users.result.now _ _ c.run_serve-end.result
              _ _ _ _
              (same_journals g.F.Shelf g.F.D.Disk c.args.shelf.now c.read_files.new.shelf c.run_serve-end.new.shelf read.disks read.counts files)
              c.as_slice-users.ensures.value
              (ran.ends told links_told);
        },
      );
      looks = λ told. ran.looked ∙ read.both told;
      listens = ran.listens;
      unheard = λ told same. (
        λ name. ap (λ shelf. g.F.Shelf.disk shelf name) (ran.unheard told same) ∙ read.disks name,
        λ name. ap (λ shelf. g.F.Shelf.disk_faults shelf name) (ran.unheard told same) ∙ read.counts name,
      );
      heard = ran.heard;
      few_ended = ran.few_ended;
      ends = λ told done. served_out scene.links listening.workers listening.sessions (ran.ended told done);
      left = ran.left;
      left_all = ran.left_all;
      limited = ran.limited;
    } in
    let does : OfServe scene files listening.address.now listening.workers listening.sessions (ends.Serve inputs.policy.users c.run_serve-end.result) = record {
      ends = runs;
      succeeds = serve_succeeds c.law_openings.ensures.unrefused scene files listening.address.now listening.workers listening.sessions inputs.policy.users
          c.run_serve-end.result runs (returns-in-Serve-clause-cause g c);
      reads_nothing = refl;
      writes_nothing = refl;
      calls_nobody = record { exchanged = ran.exchanged; exchange_faults = ran.exchange_faults };
    } in
    subst (λ task. OfReading scene (Some (reading_over files task)) (ends.Serve inputs.policy.users c.run_serve-end.result)) (sym c.in-Serve.is) does

-- ---- a standby

abbrev standby_scene : (g : Over) → After-drop-inputs-5 g → Scene
standby_scene g c =
    scene_of (shelf_of g.F.Shelf g.F.D.Disk c.args.shelf.now c.run_standby-end.new.shelf) (input_of g.S.Source c.args.source.now c.args.source.now)
    (output_of g.K.Sink c.args.sink.now c.args.sink.now) (links_of g.L.Links c.args.links.now c.run_standby-end.new.links)

pub returns-clause-cause : goal.returns-clause-cause
returns-clause-cause g c =
    let read = c.in-Ok.ensures in
    let ran = c.run_standby-end.ensures in
    standby_cause (standby_scene g c) c.in-Ok.inputs.policy.users c.run_standby-end.result ran.links_cause
    (λ is. rose_since (g.F.Shelf.faults c.args.shelf.now) (g.F.Shelf.faults c.read_files.new.shelf) (g.F.Shelf.faults c.run_standby-end.new.shelf) read.later
    (ran.shelf_cause is))
    (λ is. some_rose g.F.Shelf g.F.D.Disk c.args.shelf.now c.read_files.new.shelf c.run_standby-end.new.shelf read.disks read.counts (ran.disk_cause is))
    (λ is. some_rose g.F.Shelf g.F.D.Disk c.args.shelf.now c.read_files.new.shelf c.run_standby-end.new.shelf read.disks read.counts (ran.journal_cause is))

pub returns-clause-command : goal.returns-clause-command
returns-clause-command g c =
    let scene = standby_scene g c in
    let read = c.in-Ok.ensures in
    let ran = c.run_standby-end.ensures in
    let files = names_of_files c.args.files in
    let inputs = c.in-Ok.inputs in
    let copying = c.in-Standby.copying in
    let runs : RunsStandby scene.shelf scene.links files copying.address.now copying.sessions inputs.policy.users c.run_standby-end.result = record {
      over_files = λ told. (
        policy_value_of inputs.policy,
        inputs.world,
        header_bytes inputs.header,
        read.read told,
        record {
          of_policy = refl;
          touches = touches_over g.F.Shelf g.F.D.Disk c.args.shelf.now c.read_files.new.shelf c.run_standby-end.new.shelf read.disks read.counts files
              inputs.policy c.as_slice-users.result.now
              c.as_slice-users.ensures.value ran.disks ran.other_counts;
          journals = copies_left inputs.policy (header_bytes inputs.header) c.as_slice-users.result.now _ _ c.run_standby-end.result
              (same_journals g.F.Shelf g.F.D.Disk c.args.shelf.now c.read_files.new.shelf c.run_standby-end.new.shelf read.disks read.counts files)
              c.as_slice-users.ensures.value
              (ran.journals told);
          serves = λ links_told. (
            inputs.header,
            refl,
            copies_served inputs.policy inputs.header c.as_slice-users.result.now _ _ (g.L.Links.given c.args.links.now)
                (g.L.Links.given c.run_standby-end.new.links) (g.L.Links.back c.args.links.now) (g.L.Links.back c.run_standby-end.new.links)
                c.run_standby-end.result
                (same_journals g.F.Shelf g.F.D.Disk c.args.shelf.now c.read_files.new.shelf c.run_standby-end.new.shelf read.disks read.counts files)
                c.as_slice-users.ensures.value (ran.serves told links_told),
          );
        },
      );
      looks = λ told. ran.looked ∙ read.both told;
      listens = ran.listens;
      unheard = λ told same. (
        λ name. ap (λ shelf. g.F.Shelf.disk shelf name) (ran.unheard told same) ∙ read.disks name,
        λ name. ap (λ shelf. g.F.Shelf.disk_faults shelf name) (ran.unheard told same) ∙ read.counts name,
      );
      heard = ran.heard;
      ends = ran.ended;
      left = ran.left;
      left_all = ran.left_all;
      few_ended = ran.few_ended;
      limited = ran.limited;
    } in
    let does : OfStandby scene files copying.address.now copying.sessions (ends.Standby inputs.policy.users c.run_standby-end.result) = record {
      ends = runs;
      succeeds = standby_succeeds scene files copying.address.now copying.sessions inputs.policy.users c.run_standby-end.result runs
          (returns-clause-cause g c);
      reads_nothing = refl;
      writes_nothing = refl;
      calls_nobody = record { exchanged = ran.exchanged; exchange_faults = ran.exchange_faults };
    } in
    subst (λ task. OfReading scene (Some (reading_over files task)) (ends.Standby inputs.policy.users c.run_standby-end.result)) (sym c.in-Standby.is) does
