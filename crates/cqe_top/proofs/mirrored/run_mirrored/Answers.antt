use Rattle.std.proofs.Common.{◌≡◌, ◌⊎◌, ◌≤◌, ◌++◌, ◌∷◌, [], ℕ, ◌+◌, Some, inr, refl, sym, ap, subst, ◌∙◌, map, arith}
use Rattle.std.specs.Prelude.{string_bytes}
use Rattle.outside.proofs.Rises.{rose_since}
use Rattle.outside.specs.Shelf.{bytes_on}
use Rattle.cqe_base.specs.Schema.{Text, has_duplicate}
use Rattle.command_words.specs.Readings.{names_of_files}
use Rattle.desk_crew.specs.Crew.{named_user}
use Rattle.log_journal.specs.Opening.{header_bytes}
use Rattle.policy_files.specs.Memory.{policy_value_of, policy_user_of}
use Rattle.standby_core.specs.Calls.{IsCallBy}
use Rattle.standby_core.specs.MirrorSets.{slots_of, dial_faults, dial_marks}
use Rattle.standby_core.proofs.There.{unused_there, all_hung_up, all_dialling, marks_answered}
use Rattle.cqe_top.specs.Batch.{RunsBatch}
use Rattle.serve_engine.specs.Serving as serving
use Rattle.outside.specs.Visits.{door_place_of}
use Rattle.cqe_top.specs.Mirrored.{with_failed, with_told, CallsStandby}
use Rattle.cqe_top.specs.Files.{journals_of}
use Rattle.cqe_top.specs.Promise.{Does}
use Rattle.cqe_top.specs.Scene.{Scene, scene_of, shelf_of, input_of, output_of, links_of}
use Rattle.cqe_top.specs.Serve.{RunsServe}
use Rattle.cqe_top.specs.Steps.{reading_mirrored}
use Rattle.cqe_top.specs.declared.mirrored.MirroredTask.TheVariants as copied
use Rattle.cqe_top.specs.declared.end.CommandEnd.TheVariants as ends
use Rattle.cqe_top.specs.declared.end.FilesEnd.TheVariants as files_end
use Rattle.cqe_top.proofs.Causes.{files_cause, batch_cause, serve_cause, plainly}
use Rattle.cqe_top.proofs.Copying.{doors_kept, served_between, same_counted, touches_counted, some_rose_counted, none_fell_counted}
use Rattle.cqe_top.proofs.Dialling.{counted_same, counted, causes_told, calls_from}
use Rattle.cqe_top.proofs.Good.{unread_mirrored, doors_same, nobody_called, batch_succeeds}
use Rattle.cqe_top.proofs.Over.{batch_left, batch_over, serve_left, serve_over}
use Rattle.cqe_top.proofs.Serving.{serve_succeeds, served_out}
use Rattle.cqe_top.proofs.Users.{batch_names_are}
use Rattle.cqe_top.proofs.mirrored.run_mirrored.Given.{Over}
use Rattle.cqe_top.proofs.mirrored.run_mirrored.Goals as goal
use Rattle.cqe_top.proofs.mirrored.run_mirrored.Goals.{In-Err, After-drop-inputs-in-Err-mirrors_for-4, After-drop-inputs-in-Batch-4, After-drop-inputs-5}

pub mirrored_batch-end-requires-clause-names : goal.mirrored_batch-end-requires-clause-names
mirrored_batch-end-requires-clause-names g c κs within =
    ap has_duplicate
    (ap (λ users. map (λ user. user.name) (map named_user users)) c.as_slice-users.ensures.value ∙ batch_names_are c.in-Ok.inputs.policy.users.items)
    ∙ c.in-Ok.ensures.names

pub mirrored_serve-end-requires-clause-names : goal.mirrored_serve-end-requires-clause-names
mirrored_serve-end-requires-clause-names g c κs within =
    ap has_duplicate
    (ap (λ users. map (λ user. user.name) (map named_user users)) c.as_slice-users.ensures.value ∙ batch_names_are c.in-Ok.inputs.policy.users.items)
    ∙ c.in-Ok.ensures.names

pub mirrors_for-requires-after_bounds : goal.mirrors_for-requires-after_bounds
mirrors_for-requires-after_bounds g c κs within =
    ap has_duplicate (ap (λ users. map (λ user. string_bytes user.name) users) c.as_slice-users.ensures.value) ∙ c.in-Ok.ensures.names

pub mirrored_batch-end-requires-clause-silent : goal.mirrored_batch-end-requires-clause-silent
mirrored_batch-end-requires-clause-silent g c κs within = c.in-Ok-mirrors_for.ensures.silent

pub mirrored_batch-end-requires-clause-there : goal.mirrored_batch-end-requires-clause-there
mirrored_batch-end-requires-clause-there g c κs within =
    unused_there g.L.Dial.Dial.tells g.L.Dial.Dial.faults g.L.Dial.Dial.exchanged (slots_of c.in-Ok-mirrors_for.mirrors) c.in-Ok-mirrors_for.ensures.unused

pub mirrored_serve-end-requires-clause-silent : goal.mirrored_serve-end-requires-clause-silent
mirrored_serve-end-requires-clause-silent g c κs within = c.in-Ok-mirrors_for.ensures.silent

pub mirrored_serve-end-requires-clause-there : goal.mirrored_serve-end-requires-clause-there
mirrored_serve-end-requires-clause-there g c κs within =
    unused_there g.L.Dial.Dial.tells g.L.Dial.Dial.faults g.L.Dial.Dial.exchanged (slots_of c.in-Ok-mirrors_for.mirrors) c.in-Ok-mirrors_for.ensures.unused

pub hang_up_all-requires-after_bounds : goal.hang_up_all-requires-after_bounds
hang_up_all-requires-after_bounds g c κs within =
    all_dialling g.L.Dial.Dial.name g.L.Dial.Dial.address (slots_of c.in-Ok-mirrors_for.mirrors) (slots_of c.mirrored_batch-end.new.mirrors)
    c.mirrored_batch-end.ensures.made (g.L.Links.dialling c.args.links.now) (g.L.Links.dialling c.mirrors_for.new.links) c.in-Ok-mirrors_for.ensures.dialling
    c.mirrored_batch-end.ensures.all_there

pub hang_up_all-requires-in-Serve-after_bounds : goal.hang_up_all-requires-in-Serve-after_bounds
hang_up_all-requires-in-Serve-after_bounds g c κs within =
    all_dialling g.L.Dial.Dial.name g.L.Dial.Dial.address (slots_of c.in-Ok-mirrors_for.mirrors) (slots_of c.mirrored_serve-end.new.mirrors)
    c.mirrored_serve-end.ensures.made (g.L.Links.dialling c.args.links.now) (g.L.Links.dialling c.mirrored_serve-end.new.links)
    (c.mirrored_serve-end.ensures.dialling ∙ c.in-Ok-mirrors_for.ensures.dialling) c.mirrored_serve-end.ensures.all_there

-- ---- files that weren't read

abbrev unread_scene : (g : Over) → In-Err g → Scene
unread_scene g c =
    scene_of (shelf_of g.F.Shelf g.F.D.Disk c.args.shelf.now c.read_files.new.shelf) (input_of g.S.Source c.args.source.now c.args.source.now)
    (output_of g.K.Sink c.args.sink.now c.args.sink.now) (links_of g.L.Links c.args.links.now c.args.links.now)

pub returns-in-Err : goal.returns-in-Err
returns-in-Err g c = record {
  does =
      let scene = unread_scene g c in
      let is = c.in-Err.ensures in
      let cause = files_cause scene c.in-Err.end is.cause in
      let reading = Some (reading_mirrored (names_of_files c.args.files) c.args.task c.args.standby.now) in
      plainly scene reading (ends.Files c.in-Err.end) (counted_same scene reading (λ name. refl))
      (unread_mirrored scene (names_of_files c.args.files) c.args.task c.args.standby.now c.in-Err.end
      (record { refused = is.refused; looks = is.looks; disks = (is.disks, is.counts) }) cause refl refl (doors_same g.L.Links c.args.links.now)
      (nobody_called g.L.Links c.args.links.now))
      cause
      (record {
        shelf = record {
          files = is.files;
          inside = λ name. is.out name ∙ c.requires.inside name;
          disk_faults = λ name. subst (λ n. g.F.Shelf.disk_faults c.args.shelf.now name ≤ n) (sym (is.counts name)) (omega arith);
          faults = is.later;
        };
        held = refl;
        left = λ told bytes rest. rest;
        doors = refl;
        dials = refl;
        input_faults = omega arith;
        output_faults = omega arith;
        links_faults = omega arith;
        exchange_faults = λ name. omega arith;
      });
}

-- ---- mirrors for which memory was wanting

abbrev unmade_scene : (g : Over) → After-drop-inputs-in-Err-mirrors_for-4 g → Scene
unmade_scene g c =
    scene_of (shelf_of g.F.Shelf g.F.D.Disk c.args.shelf.now c.read_files.new.shelf) (input_of g.S.Source c.args.source.now c.args.source.now)
    (output_of g.K.Sink c.args.sink.now c.args.sink.now) (links_of g.L.Links c.args.links.now c.mirrors_for.new.links)

pub returns-in-Err-mirrors_for : goal.returns-in-Err-mirrors_for
returns-in-Err-mirrors_for g c = record {
  does =
      let scene = unmade_scene g c in
      let is = c.in-Ok.ensures in
      let made = c.mirrors_for.ensures in
      let same = made.doors.faults in
      let cause = files_cause scene files_end.Memory (λ failed. absurd failed) in
      let reading = Some (reading_mirrored (names_of_files c.args.files) c.args.task c.args.standby.now) in
      plainly scene reading (ends.Files files_end.Memory) (counted_same scene reading made.calls.exchange_faults)
      (unread_mirrored scene (names_of_files c.args.files) c.args.task c.args.standby.now files_end.Memory
      (record { refused = λ told. tt; looks = is.looks; disks = (is.disks, is.counts) }) cause refl refl
      (doors_kept g.L.Links c.args.links.now c.mirrors_for.new.links made.doors)
      (record { exchanged = made.calls.exchanged; exchange_faults = made.calls.exchange_faults }))
      cause
      (record {
        shelf = record {
          files = is.files;
          inside = λ name. is.out name ∙ c.requires.inside name;
          disk_faults = λ name. subst (λ n. g.F.Shelf.disk_faults c.args.shelf.now name ≤ n) (sym (is.counts name)) (omega arith);
          faults = is.later;
        };
        held = refl;
        left = λ told bytes rest. rest;
        doors = made.doors.out;
        dials = c.in-Err-mirrors_for.ensures.none;
        input_faults = omega arith;
        output_faults = omega arith;
        links_faults = omega (arith, same);
        exchange_faults = λ name. let kept = made.calls.exchange_faults name in omega (arith, kept);
      });
}

-- ---- a batch

abbrev batch_failed : (g : Over) → After-drop-inputs-in-Batch-4 g → Text → ℕ
batch_failed g c name = dial_faults g.L.Dial.Dial.faults c.mirrored_batch-end.new.mirrors name

abbrev batch_marks : (g : Over) → After-drop-inputs-in-Batch-4 g → Text → ℕ
batch_marks g c name = dial_marks g.L.Dial.Dial.answered (g.F.Shelf.disk c.mirrored_batch-end.new.shelf) c.mirrored_batch-end.new.mirrors name

abbrev batch_scene : (g : Over) → After-drop-inputs-in-Batch-4 g → Scene
batch_scene g c =
    scene_of (shelf_of g.F.Shelf g.F.D.Disk c.args.shelf.now c.mirrored_batch-end.new.shelf)
    (input_of g.S.Source c.args.source.now c.mirrored_batch-end.new.source)
    (output_of g.K.Sink c.args.sink.now c.mirrored_batch-end.new.sink) (links_of g.L.Links c.args.links.now c.hang_up_all.new.links)

pub returns-in-Batch : goal.returns-in-Batch
returns-in-Batch g c = record {
  does =
      let read = c.in-Ok.ensures in
      let made = c.mirrors_for.ensures in
      let hung = c.hang_up_all.ensures in
      let ran = c.mirrored_batch-end.ensures in
      let files = names_of_files c.args.files in
      let inputs = c.in-Ok.inputs in
      let failed = batch_failed g c in
      let scene = with_failed (batch_scene g c) failed in
      let marks = batch_marks g c in
      let marked = with_told scene marks in
      let old = c.args.shelf.now in
      let mid = c.read_files.new.shelf in
      let new = c.mirrored_batch-end.new.shelf in
      let cause = batch_cause scene inputs.policy.users c.mirrored_batch-end.result ran.read_cause ran.write_cause
      (λ is. rose_since (g.F.Shelf.faults old) (g.F.Shelf.faults mid) (g.F.Shelf.faults new) read.later (ran.shelf_cause is))
      (λ is. some_rose_counted g.F.Shelf g.F.D.Disk old mid new read.disks read.counts failed files (ran.disk_cause is))
      (λ is. some_rose_counted g.F.Shelf g.F.D.Disk old mid new read.disks read.counts failed files (ran.journal_cause is)) in
      let runs : RunsBatch marked.shelf scene.input scene.output files inputs.policy.users c.mirrored_batch-end.result = record {
        over_files = λ told. (
          policy_value_of inputs.policy,
          inputs.world,
          header_bytes inputs.header,
          read.read told,
          record {
            of_policy = refl;
            touches = touches_counted g.F.Shelf g.F.D.Disk old mid new read.disks read.counts failed files inputs.policy c.as_slice-users.result.now
                c.as_slice-users.ensures.value ran.disks ran.other_counts;
            journals = batch_left inputs.policy inputs.world (header_bytes inputs.header) c.as_slice-users.result.now _ _ c.mirrored_batch-end.result
                (same_counted g.F.Shelf g.F.D.Disk old mid new read.disks read.counts failed files marks) c.as_slice-users.ensures.value (ran.journals told);
            answers =
                λ in_told out_told.
                batch_over inputs.policy inputs.world (header_bytes inputs.header) c.as_slice-users.result.now _ _ c.mirrored_batch-end.result _ _ _ _
                (same_counted g.F.Shelf g.F.D.Disk old mid new read.disks read.counts failed files marks) c.as_slice-users.ensures.value
                (ran.ends told in_told out_told);
          },
        );
        looks = λ told. ran.looked ∙ read.both told;
        unopened = λ is. (λ name. (ran.unopened is).0 name ∙ read.disks name, λ name. (ran.unopened is).1 name ∙ read.counts name);
        silent = ran.silent;
      } in
      let first = made.doors.faults in
      let last = hung.doors.faults in
      let earlier = read.later in
      let later = ran.shelf_later in
      let reading = Some (reading_mirrored files (copied.Batch c.in-Batch.workers) c.args.standby.now) in
      let end = ends.Batch inputs.policy.users c.mirrored_batch-end.result in
      let calls : CallsStandby scene files c.args.standby.now marks end = λ told links_told. (
        policy_value_of inputs.policy,
        inputs.world,
        header_bytes inputs.header,
        read.read told,
        calls_from inputs.header c.args.standby.now files.directory (policy_value_of inputs.policy) c.as_slice-users.result.now
            (ap (map policy_user_of) c.as_slice-users.ensures.value) scene.links inputs.world marks
            (λ name. bytes_on g.F.D.Disk.reads (g.F.Shelf.disk new name)) _ _
            _
            (g.L.Links.exchanged c.mirrors_for.new.links) (ran.lie told)
            (ran.made ∙ c.in-Ok-mirrors_for.ensures.made) (made.calls.exchanged links_told) (hung.exchanged links_told)
            (marks_answered g.L.Dial.Dial.name g.L.Dial.Dial.address g.L.Dial.Dial.answered (g.F.Shelf.disk new) (slots_of c.mirrored_batch-end.new.mirrors)
            ran.none_away (λ slot. slot.named) IsCallBy (hung.exchanged links_told).exchanges c.mirrored_batch-end.new.mirrors.distinct
            (hung.exchanged links_told).answered),
      ) in
      let does : Does (batch_scene g c) reading end =
      counted (batch_scene g c) reading end failed refl (λ name. hung.exchange_faults name ∙ ap (λ n. n + failed name) (made.calls.exchange_faults name))
      (record {
        told = marks;
        ends = runs;
        succeeds = batch_succeeds marked files inputs.policy.users c.mirrored_batch-end.result runs (causes_told scene marks end cause);
        calls = calls;
        listens_nowhere = inr (record {
          faults = last ∙ first;
          out = hung.doors.out ∙ made.doors.out;
          ended = hung.doors.ended ∙ made.doors.ended;
          given = λ told. hung.doors.given told ∙ made.doors.given told;
          left = λ told. hung.doors.left told ∙ made.doors.left told;
          at_hand = λ told. hung.doors.at_hand told ∙ made.doors.at_hand told;
          back = λ told. hung.doors.back told ∙ made.doors.back told;
          listened = λ told. hung.doors.listened told ∙ made.doors.listened told;
        });
      })
      cause
      (record {
        shelf = record {
          files = λ name. ran.files name ∙ read.files name;
          inside = ran.inside;
          disk_faults = none_fell_counted g.F.Shelf g.F.D.Disk old mid new read.disks read.counts failed files ran.counts;
          faults = omega (arith, earlier, later);
        };
        held = ran.held;
        left = ran.left;
        doors = hung.doors.out ∙ made.doors.out;
        dials = all_hung_up g.L.Dial.Dial.name g.L.Dial.Dial.address (slots_of c.in-Ok-mirrors_for.mirrors) (slots_of c.mirrored_batch-end.new.mirrors)
            ran.made (g.L.Links.dialling c.args.links.now) (g.L.Links.dialling c.mirrors_for.new.links) (g.L.Links.dialling c.hang_up_all.new.links)
            c.in-Ok-mirrors_for.ensures.dialling ran.all_there hung.dialling;
        input_faults = ran.source_later;
        output_faults = ran.sink_later;
        links_faults = omega (arith, first, last);
        exchange_faults = λ name.
            let rose = hung.exchange_faults name in
            let kept = made.calls.exchange_faults name in
            omega (arith, rose, kept);
      }) in
      subst (λ task. Does (batch_scene g c) (Some (reading_mirrored files task c.args.standby.now))
      (ends.Batch inputs.policy.users c.mirrored_batch-end.result))
      (sym c.in-Batch.is) does;
}

-- ---- a server

abbrev serve_failed : (g : Over) → After-drop-inputs-5 g → Text → ℕ
serve_failed g c name = dial_faults g.L.Dial.Dial.faults c.mirrored_serve-end.new.mirrors name

abbrev serve_marks : (g : Over) → After-drop-inputs-5 g → Text → ℕ
serve_marks g c name = dial_marks g.L.Dial.Dial.answered (g.F.Shelf.disk c.mirrored_serve-end.new.shelf) c.mirrored_serve-end.new.mirrors name

abbrev serve_scene : (g : Over) → After-drop-inputs-5 g → Scene
serve_scene g c =
    scene_of (shelf_of g.F.Shelf g.F.D.Disk c.args.shelf.now c.mirrored_serve-end.new.shelf) (input_of g.S.Source c.args.source.now c.args.source.now)
    (output_of g.K.Sink c.args.sink.now c.args.sink.now) (links_of g.L.Links c.args.links.now c.hang_up_all-in-Serve.new.links)

pub returns : goal.returns
returns g c = record {
  does =
      let read = c.in-Ok.ensures in
      let made = c.mirrors_for.ensures in
      let hung = c.hang_up_all-in-Serve.ensures in
      let ran = c.mirrored_serve-end.ensures in
      let files = names_of_files c.args.files in
      let inputs = c.in-Ok.inputs in
      let listening = c.in-Serve.listening in
      let failed = serve_failed g c in
      let scene = with_failed (serve_scene g c) failed in
      let marks = serve_marks g c in
      let marked = with_told scene marks in
      let old = c.args.shelf.now in
      let mid = c.read_files.new.shelf in
      let new = c.mirrored_serve-end.new.shelf in
      let links = c.mirrored_serve-end.new.links in
      let doors = served_between g.L.Links c.args.links.now c.mirrors_for.new.links links c.hang_up_all-in-Serve.new.links made.doors hung.doors in
      let cause = serve_cause scene inputs.policy.users c.mirrored_serve-end.result (λ is. doors.rose (ran.links_cause is))
      (λ is. rose_since (g.F.Shelf.faults old) (g.F.Shelf.faults mid) (g.F.Shelf.faults new) read.later (ran.shelf_cause is))
      (λ is. some_rose_counted g.F.Shelf g.F.D.Disk old mid new read.disks read.counts failed files (ran.disk_cause is))
      (λ is. some_rose_counted g.F.Shelf g.F.D.Disk old mid new read.disks read.counts failed files (ran.journal_cause is)) in
      let runs : RunsServe marked.shelf scene.links files listening.address.now listening.workers listening.sessions inputs.policy.users
      c.mirrored_serve-end.result = record {
        over_files = λ told. (
          policy_value_of inputs.policy,
          inputs.world,
          header_bytes inputs.header,
          read.read told,
          record {
            of_policy = refl;
            touches = touches_counted g.F.Shelf g.F.D.Disk old mid new read.disks read.counts failed files inputs.policy c.as_slice-users.result.now
                c.as_slice-users.ensures.value ran.disks ran.other_counts;
            journals = serve_left inputs.policy inputs.world (header_bytes inputs.header) c.as_slice-users.result.now _ _ c.mirrored_serve-end.result
                (same_counted g.F.Shelf g.F.D.Disk old mid new read.disks read.counts failed files marks) c.as_slice-users.ensures.value (ran.journals told);
            serves = λ links_told.
                doors.served links_told (λ given given' back back'.
                serving.EndsServing inputs.policy.schema inputs.world (header_bytes inputs.header) (journals_of marked.shelf files) inputs.policy.users.items
                given given' back back' c.mirrored_serve-end.result)
                (serve_over inputs.policy inputs.world (header_bytes inputs.header) c.as_slice-users.result.now _ _ c.mirrored_serve-end.result _ _ _ _
                (same_counted g.F.Shelf g.F.D.Disk old mid new read.disks read.counts failed files marks) c.as_slice-users.ensures.value
                (ran.ends told links_told));
          },
        );
        looks = λ told. ran.looked ∙ read.both told;
        listens = λ told.
            doors.heard told (λ before after.
            (after ≡ before) ⊎ (after ≡ before ++ door_place_of listening.address.now listening.workers ∷ [])) (ran.listens told);
        unheard = λ told same.
            let is = ran.unheard told (doors.unheard told same) in
            (λ name. is.0 name ∙ read.disks name, λ name. is.1 name ∙ read.counts name);
        heard = λ told done.
            doors.heard told (λ before after. after ≡ before ++ door_place_of listening.address.now listening.workers ∷ []) (ran.heard told done);
        few_ended =
            let first = made.doors.ended in
            let last = hung.doors.ended in
            let few = ran.few_ended in
            omega (arith, first, last, few);
        ends = λ told done.
            served_out scene.links listening.workers listening.sessions (doors.ended told listening.workers listening.sessions (ran.ended told done));
        left = λ told all. doors.left told (ran.left told) all;
        left_all = λ told all. doors.left_all told (ran.left_all told) all;
        limited = λ told.
            let first = made.doors.given told in
            let last = hung.doors.given told in
            let most = ran.limited told in
            omega (arith, first, last, most);
      } in
      let first = made.doors.faults in
      let last = hung.doors.faults in
      let between = ran.links_later in
      let earlier = read.later in
      let later = ran.shelf_later in
      let reading = Some (reading_mirrored files (copied.Serve listening) c.args.standby.now) in
      let end = ends.Serve inputs.policy.users c.mirrored_serve-end.result in
      let calls : CallsStandby scene files c.args.standby.now marks end = λ told links_told. (
        policy_value_of inputs.policy,
        inputs.world,
        header_bytes inputs.header,
        read.read told,
        calls_from inputs.header c.args.standby.now files.directory (policy_value_of inputs.policy) c.as_slice-users.result.now
            (ap (map policy_user_of) c.as_slice-users.ensures.value) scene.links inputs.world marks
            (λ name. bytes_on g.F.D.Disk.reads (g.F.Shelf.disk new name)) _ _
            _
            (g.L.Links.exchanged links) (ran.lie told)
            (ran.made ∙ c.in-Ok-mirrors_for.ensures.made) (ran.exchanged links_told ∙ made.calls.exchanged links_told) (hung.exchanged links_told)
            (marks_answered g.L.Dial.Dial.name g.L.Dial.Dial.address g.L.Dial.Dial.answered (g.F.Shelf.disk new) (slots_of c.mirrored_serve-end.new.mirrors)
            ran.none_away (λ slot. slot.named) IsCallBy (hung.exchanged links_told).exchanges c.mirrored_serve-end.new.mirrors.distinct
            (hung.exchanged links_told).answered),
      ) in
      let does : Does (serve_scene g c) reading end =
      counted (serve_scene g c) reading end failed refl
      (λ name. hung.exchange_faults name ∙ ap (λ n. n + failed name) (ran.exchange_faults name ∙ made.calls.exchange_faults name))
      (record {
        told = marks;
        ends = runs;
        succeeds = serve_succeeds c.law_openings.ensures.unrefused marked files listening.address.now listening.workers listening.sessions
            inputs.policy.users c.mirrored_serve-end.result runs (causes_told scene marks end cause);
        reads_nothing = refl;
        writes_nothing = refl;
        calls = calls;
      })
      cause
      (record {
        shelf = record {
          files = λ name. ran.files name ∙ read.files name;
          inside = ran.inside;
          disk_faults = none_fell_counted g.F.Shelf g.F.D.Disk old mid new read.disks read.counts failed files ran.counts;
          faults = omega (arith, earlier, later);
        };
        held = refl;
        left = λ told bytes rest. rest;
        doors = hung.doors.out ∙ ran.out ∙ made.doors.out;
        dials = all_hung_up g.L.Dial.Dial.name g.L.Dial.Dial.address (slots_of c.in-Ok-mirrors_for.mirrors) (slots_of c.mirrored_serve-end.new.mirrors)
            ran.made (g.L.Links.dialling c.args.links.now) (g.L.Links.dialling links) (g.L.Links.dialling c.hang_up_all-in-Serve.new.links)
            (ran.dialling ∙ c.in-Ok-mirrors_for.ensures.dialling) ran.all_there hung.dialling;
        input_faults = omega arith;
        output_faults = omega arith;
        links_faults = omega (arith, first, between, last);
        exchange_faults = λ name.
            let rose = hung.exchange_faults name in
            let same = ran.exchange_faults name in
            let kept = made.calls.exchange_faults name in
            omega (arith, rose, same, kept);
      }) in
      subst (λ task. Does (serve_scene g c) (Some (reading_mirrored files task c.args.standby.now))
      (ends.Serve inputs.policy.users c.mirrored_serve-end.result))
      (sym c.in-Serve.is) does;
}
