use Rattle.std.proofs.Common.{◌≡◌, ◌≤◌, refl, sym, ap, ◌∙◌, map, string_bytes, arith}
use Rattle.std.specs.Prelude.{None, Some, option_map}
use Rattle.outside.specs.Shelf.{NoneOut}
use Rattle.outside.specs.declared.disk.Disk.{Ghosts as DiskGhosts}
use Rattle.outside.specs.declared.links.Links.{Ghosts as LinksGhosts}
use Rattle.outside.specs.declared.shelf.Shelf.{Ghosts as ShelfGhosts}
use Rattle.outside.specs.declared.stream.Sink.{Ghosts as SinkGhosts}
use Rattle.outside.specs.declared.stream.Source.{Ghosts as SourceGhosts}
use Rattle.cqe_base.specs.Schema.{Text}
use Rattle.line_protocol.specs.Rests.{IsRest}
use Rattle.command_words.specs.Readings.{FileNames, reading_in, reading_of, names_of_files, runs_case, runs_selfrun}
use Rattle.cqe_top.specs.Case.{RunsCase}
use Rattle.cqe_top.specs.Promise.{Always}
use Rattle.cqe_top.specs.Scene.{scene_of, shelf_of, input_of, output_of, links_of}
use Rattle.cqe_top.specs.Selfrun.{RunsSelfrun}
use Rattle.cqe_top.specs.Steps.{reading_over, reading_for_user, reading_mirrored, KeepsBounds, KeepsMirroredBounds}
use Rattle.cqe_top.specs.declared.end.CommandEnd.TheVariants as ends
use Rattle.cqe_top.specs.declared.over_files.Task.{Task}
use Rattle.cqe_top.specs.declared.over_files.Task.TheVariants.{Init, Batch, Migrate, Serve, Standby}
use Rattle.cqe_top.specs.declared.mirrored.MirroredTask.{MirroredTask}
use Rattle.cqe_top.specs.declared.mirrored.MirroredTask.TheVariants as copied
use Rattle.cqe_top.proofs.Causes.{case_cause, selfrun_cause, has_cause, plainly}
use Rattle.cqe_top.proofs.Good.{case_succeeds, selfrun_succeeds, nothing_begun, nobody_called}
use Rattle.cqe_top.proofs.Dialling.{counted_same, counted_over, counted_for_user}
use Rattle.cqe_top.proofs.Numbers.{Keeps, kept}
use Rattle.cqe_top.proofs.command.run.Goals as goal

-- a task over files keeps the bounds of its reading
bounds_of : (files : FileNames) (task : Task) → Keeps (reading_over files task) → KeepsBounds files task
bounds_of files Init keeps = tt
bounds_of files (Batch workers) keeps = keeps
bounds_of files (Migrate to) keeps = keeps
bounds_of files (Serve listening) keeps = keeps
bounds_of files (Standby copying) keeps = keeps

-- so does one with a standby
mirrored_bounds_of : (files : FileNames) (task : MirroredTask) (standby : Text) → Keeps (reading_mirrored files task standby) → KeepsMirroredBounds task
mirrored_bounds_of files (copied.Batch workers) standby keeps = keeps
mirrored_bounds_of files (copied.Serve listening) standby keeps = keeps

pub run_selfrun-end-requires-clause-some_user : goal.run_selfrun-end-requires-clause-some_user
run_selfrun-end-requires-clause-some_user g c κs within =
    let run = c.in-Selfrun.words in
    (kept (map string_bytes c.args.words.now) (runs_selfrun run.seed run.users run.asks)
    (sym c.in-Ok-Some.ensures ∙ ap (option_map reading_in) c.in-Ok-Some.field-0-is ∙ ap Some (sym c.in-Selfrun.ensures))).some_user

pub run_selfrun-end-requires-clause-few_users : goal.run_selfrun-end-requires-clause-few_users
run_selfrun-end-requires-clause-few_users g c κs within =
    let run = c.in-Selfrun.words in
    (kept (map string_bytes c.args.words.now) (runs_selfrun run.seed run.users run.asks)
    (sym c.in-Ok-Some.ensures ∙ ap (option_map reading_in) c.in-Ok-Some.field-0-is ∙ ap Some (sym c.in-Selfrun.ensures))).few_users

pub run_selfrun-end-requires-clause-some_ask : goal.run_selfrun-end-requires-clause-some_ask
run_selfrun-end-requires-clause-some_ask g c κs within =
    let run = c.in-Selfrun.words in
    (kept (map string_bytes c.args.words.now) (runs_selfrun run.seed run.users run.asks)
    (sym c.in-Ok-Some.ensures ∙ ap (option_map reading_in) c.in-Ok-Some.field-0-is ∙ ap Some (sym c.in-Selfrun.ensures))).some_ask

pub run_selfrun-end-requires-clause-few_asks : goal.run_selfrun-end-requires-clause-few_asks
run_selfrun-end-requires-clause-few_asks g c κs within =
    let run = c.in-Selfrun.words in
    (kept (map string_bytes c.args.words.now) (runs_selfrun run.seed run.users run.asks)
    (sym c.in-Ok-Some.ensures ∙ ap (option_map reading_in) c.in-Ok-Some.field-0-is ∙ ap Some (sym c.in-Selfrun.ensures))).few_asks

pub run_over_files-requires-clause-bounds : goal.run_over_files-requires-clause-bounds
run_over_files-requires-clause-bounds g c κs within =
    let files = names_of_files c.in-OverFiles.files in
    let task = c.in-OverFiles.task in
    bounds_of files task
    (kept (map string_bytes c.args.words.now) (reading_over files task)
    (sym c.in-Ok-Some.ensures ∙ ap (option_map reading_in) c.in-Ok-Some.field-0-is ∙ ap Some (sym c.in-OverFiles.ensures)))

pub run_mirrored-requires-clause-bounds : goal.run_mirrored-requires-clause-bounds
run_mirrored-requires-clause-bounds g c κs within =
    let files = names_of_files c.in-Mirrored.files in
    let task = c.in-Mirrored.task in
    let standby = c.in-Mirrored.standby.now in
    mirrored_bounds_of files task standby
    (kept (map string_bytes c.args.words.now) (reading_mirrored files task standby)
    (sym c.in-Ok-Some.ensures ∙ ap (option_map reading_in) c.in-Ok-Some.field-0-is ∙ ap Some (sym c.in-Mirrored.ensures)))

-- ---- what is done by each command

-- what holds whatever comes, where the shelf and the links are as they were
pub always_of : {F D S K L Door Dial In Out : Type 0} (Shelf : ShelfGhosts F D) (Disk : DiskGhosts D) (Source : SourceGhosts S) (Sink : SinkGhosts K)
    (Links : LinksGhosts L Door Dial In Out) (shelf : F) (source source' : S) (sink sink' : K) (links : L) → NoneOut (Shelf.is_out shelf)
    → Source.held source' ≡ Source.held source → (Source.tells → IsRest (Source.left source) (Source.left source'))
    → Source.faults source ≤ Source.faults source' → Sink.faults sink ≤ Sink.faults sink'
    → Always (scene_of (shelf_of Shelf Disk shelf shelf) (input_of Source source source') (output_of Sink sink sink') (links_of Links links links))
always_of Shelf Disk Source Sink Links shelf source source' sink sink' links inside held left input output = record {
  shelf = record { files = λ name. refl; inside = inside; disk_faults = λ name. omega arith; faults = omega arith };
  held = held;
  left = left;
  doors = refl;
  dials = refl;
  input_faults = input;
  output_faults = output;
  links_faults = omega arith;
  exchange_faults = λ name. omega arith;
}

pub returns-in-Ok-None : goal.returns-in-Ok-None
returns-in-Ok-None g c =
    let scene = scene_of (shelf_of g.F.Shelf g.F.D.Disk c.args.shelf.now c.args.shelf.now) (input_of g.S.Source c.args.source.now c.args.source.now)
    (output_of g.K.Sink c.args.sink.now c.args.sink.now) (links_of g.L.Links c.args.links.now c.args.links.now) in
    let always = always_of g.F.Shelf g.F.D.Disk g.S.Source g.K.Sink g.L.Links c.args.shelf.now c.args.source.now c.args.source.now
    c.args.sink.now c.args.sink.now c.args.links.now c.requires.inside refl (λ told bytes rest. rest) (omega arith) (omega arith) in
    record {
      command = (
        None,
        sym c.in-Ok-None.ensures ∙ ap (option_map reading_in) c.in-Ok-None.field-0-is,
        plainly scene None ends.Usage refl (record { shelf = refl; input = refl; output = refl; links = refl }) (has_cause scene ends.Usage tt) always,
      );
    }

pub returns-in-Err : goal.returns-in-Err
returns-in-Err g c =
    let scene = scene_of (shelf_of g.F.Shelf g.F.D.Disk c.args.shelf.now c.args.shelf.now) (input_of g.S.Source c.args.source.now c.args.source.now)
    (output_of g.K.Sink c.args.sink.now c.args.sink.now) (links_of g.L.Links c.args.links.now c.args.links.now) in
    let always = always_of g.F.Shelf g.F.D.Disk g.S.Source g.K.Sink g.L.Links c.args.shelf.now c.args.source.now c.args.source.now
    c.args.sink.now c.args.sink.now c.args.links.now c.requires.inside refl (λ told bytes rest. rest) (omega arith) (omega arith) in
    let read = reading_of (map string_bytes c.args.words.now) in
    record {
      command = (
        read,
        refl,
        plainly scene read ends.Memory (counted_same scene read (λ name. refl))
            (nothing_begun scene (record { shelf = refl; input = refl; output = refl; links = refl }) (nobody_called g.L.Links c.args.links.now) read)
            (has_cause scene ends.Memory tt) always,
      );
    }

pub returns-in-Case : goal.returns-in-Case
returns-in-Case g c =
    let scene = scene_of (shelf_of g.F.Shelf g.F.D.Disk c.args.shelf.now c.args.shelf.now) (input_of g.S.Source c.args.source.now c.run_case.new.source)
    (output_of g.K.Sink c.args.sink.now c.run_case.new.sink) (links_of g.L.Links c.args.links.now c.args.links.now) in
    let ran = c.run_case.ensures in
    let end = c.run_case.result in
    let always = always_of g.F.Shelf g.F.D.Disk g.S.Source g.K.Sink g.L.Links c.args.shelf.now c.args.source.now c.run_case.new.source c.args.sink.now
    c.run_case.new.sink c.args.links.now c.requires.inside ran.held ran.left ran.source_later ran.sink_later in
    let cause = case_cause scene end ran.read_cause ran.write_cause in
    let runs : RunsCase scene end = record { answers = ran.ends; silent = ran.silent; shelf_same = refl; listens_nowhere = refl } in
    record {
      command = (
        Some runs_case,
        sym c.in-Ok-Some.ensures ∙ ap (option_map reading_in) c.in-Ok-Some.field-0-is ∙ ap Some (sym c.in-Case.ensures),
        plainly scene (Some runs_case) (ends.Case end) refl (record { ends = runs; succeeds = case_succeeds scene end runs cause }) cause always,
      );
    }

pub returns-in-Selfrun : goal.returns-in-Selfrun
returns-in-Selfrun g c =
    let scene = scene_of (shelf_of g.F.Shelf g.F.D.Disk c.args.shelf.now c.args.shelf.now) (input_of g.S.Source c.args.source.now c.args.source.now)
    (output_of g.K.Sink c.args.sink.now c.run_selfrun-end.new.sink) (links_of g.L.Links c.args.links.now c.args.links.now) in
    let ran = c.run_selfrun-end.ensures in
    let end = c.run_selfrun-end.result in
    let run = c.in-Selfrun.words in
    let always = always_of g.F.Shelf g.F.D.Disk g.S.Source g.K.Sink g.L.Links c.args.shelf.now c.args.source.now c.args.source.now c.args.sink.now
    c.run_selfrun-end.new.sink c.args.links.now c.requires.inside refl (λ told bytes rest. rest) (omega arith) ran.later in
    let cause = selfrun_cause scene end ran.cause in
    let runs : RunsSelfrun scene run.seed run.users run.asks end =
    record { sums_up = ran.ends; silent = ran.silent; shelf_same = refl; reads_nothing = refl; listens_nowhere = refl } in
    let read = runs_selfrun run.seed run.users run.asks in
    record {
      command = (
        Some read,
        sym c.in-Ok-Some.ensures ∙ ap (option_map reading_in) c.in-Ok-Some.field-0-is ∙ ap Some (sym c.in-Selfrun.ensures),
        plainly scene (Some read) (ends.Selfrun end) refl (record { ends = runs; succeeds = selfrun_succeeds scene end cause }) cause always,
      );
    }

pub returns-in-OverFiles : goal.returns-in-OverFiles
returns-in-OverFiles g c =
    let scene = scene_of (shelf_of g.F.Shelf g.F.D.Disk c.args.shelf.now c.run_over_files.new.shelf)
    (input_of g.S.Source c.args.source.now c.run_over_files.new.source)
    (output_of g.K.Sink c.args.sink.now c.run_over_files.new.sink) (links_of g.L.Links c.args.links.now c.run_over_files.new.links) in
    let ran = c.run_over_files.ensures in
    let read = Some (reading_over (names_of_files c.in-OverFiles.files) c.in-OverFiles.task) in
    record {
      command = (
        read,
        sym c.in-Ok-Some.ensures ∙ ap (option_map reading_in) c.in-Ok-Some.field-0-is ∙ ap Some (sym c.in-OverFiles.ensures),
        plainly scene read c.run_over_files.result (counted_over scene (names_of_files c.in-OverFiles.files) c.in-OverFiles.task) ran.command ran.cause
            ran.always,
      );
    }

pub returns-in-ForUser : goal.returns-in-ForUser
returns-in-ForUser g c =
    let scene = scene_of (shelf_of g.F.Shelf g.F.D.Disk c.args.shelf.now c.run_for_user.new.shelf)
    (input_of g.S.Source c.args.source.now c.run_for_user.new.source)
    (output_of g.K.Sink c.args.sink.now c.run_for_user.new.sink) (links_of g.L.Links c.args.links.now c.args.links.now) in
    let ran = c.run_for_user.ensures in
    let files = names_of_files c.in-ForUser.files in
    let user = c.in-ForUser.user.now in
    let read = Some (reading_for_user files user c.in-ForUser.task) in
    record {
      command = (
        read,
        sym c.in-Ok-Some.ensures ∙ ap (option_map reading_in) c.in-Ok-Some.field-0-is ∙ ap Some (sym c.in-ForUser.ensures),
        plainly scene read c.run_for_user.result (counted_for_user scene files user c.in-ForUser.task) (ran.command c.args.links.now)
            (ran.cause c.args.links.now) (ran.always c.args.links.now),
      );
    }

pub returns-in-Mirrored : goal.returns-in-Mirrored
returns-in-Mirrored g c = record {
  command = (
    Some (reading_mirrored (names_of_files c.in-Mirrored.files) c.in-Mirrored.task c.in-Mirrored.standby.now),
    sym c.in-Ok-Some.ensures ∙ ap (option_map reading_in) c.in-Ok-Some.field-0-is ∙ ap Some (sym c.in-Mirrored.ensures),
    c.run_mirrored.ensures.does,
  );
}
