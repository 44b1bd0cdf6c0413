use Rattle.std.proofs.Common.{inl, inr, [], ◌++◌, take, map, refl, sym, ap, subst, ◌∙◌, arith}
use Rattle.cqe_base.specs.History.{UserProfile}
use Rattle.log_journal.specs.Opening.{header_bytes}
use Rattle.batch_engine.specs.BatchOf.{items_of}
use Rattle.desk_crew.specs.Crew.{named_user}
use Rattle.desk_crew.specs.Registered.{registered_journals}
use Rattle.desk_crew.specs.Shelved.{journals_on, KeepsJournals}
use Rattle.cqe_base.specs.Schema.{Text, has_duplicate}
use Rattle.batch_engine.specs.Stretches.{AllBack}
use Rattle.batch_engine.proofs.Posts.{named_so}
use Rattle.batch_engine.proofs.Running.{Stay, left_behind}
use Rattle.batch_engine.proofs.Failing.{broken_rose}
use Rattle.batch_engine.proofs.Faulting.{faulted_run}
use Rattle.desk_crew.proofs.Faulting.{first_faulted}
use Rattle.desk_crew.proofs.Lasting.{keeps_same, keeps_all}
use Rattle.outside.specs.Shelf.{SameBeside}
use Rattle.desk_crew.specs.Shelved.{StaysThere}
use Rattle.desk_crew.proofs.Hearing.{there_first, all_there}
use Rattle.desk_crew.proofs.Giving.{AllReturned}
use Rattle.desk_crew.proofs.Taking.{seats_limits, AllSeated, all_seated, all_returned}
use Rattle.batch_engine.proofs.Ending.{batch_begins, all_of, Finishes, finishes, some_alone, to_alone, told_all}
use Rattle.batch_engine.proofs.run.run_batch.Given.{Over}
use Rattle.batch_engine.proofs.run.run_batch.Goals as goal
use Rattle.batch_engine.proofs.run.run_batch.Goals.{After-answer_all, In-Ok-open_all}

-- ---- where nothing was answered, all journals are kept

-- those of a shelf that wasn't touched
same : (g : Over) (directory : Text) (shelf : _) → KeepsJournals (journals_on g.F.Shelf g.F.D.Disk directory shelf shelf)
same g directory shelf =
    keeps_same g.F.D.Disk directory (g.F.Shelf.disk shelf) (g.F.Shelf.disk shelf) (g.F.Shelf.disk_faults shelf) (g.F.Shelf.disk_faults shelf)
    (g.met.F.D.Disk g.world.𝓛 g.world.𝓜 g.world.𝓡 ((λ s x. x), (λ x. x), (λ x. x), λ x. x)).only_now (λ name. refl)

pub returns-in-Refused-clause-ends : goal.returns-in-Refused-clause-ends
returns-in-Refused-clause-ends g c =
    λ shelf_told source_told sink_told.
    let reads = c.in-Refused.ensures.reads source_told in
    (sym (batch_begins _ _ c.new.ensures) ∙ reads.0, (refl, same g c.args.registry.now.directory.now c.args.shelf.now), reads.1)

pub returns-in-Refused-clause-journals : goal.returns-in-Refused-clause-journals
returns-in-Refused-clause-journals g c = λ shelf_told. same g c.args.registry.now.directory.now c.args.shelf.now

pub returns-in-Fault-clause-ends : goal.returns-in-Fault-clause-ends
returns-in-Fault-clause-ends g c = λ shelf_told source_told sink_told. (refl, same g c.args.registry.now.directory.now c.args.shelf.now)

pub returns-in-Fault-clause-journals : goal.returns-in-Fault-clause-journals
returns-in-Fault-clause-journals g c = λ shelf_told. same g c.args.registry.now.directory.now c.args.shelf.now

pub returns-in-Memory-clause-ends : goal.returns-in-Memory-clause-ends
returns-in-Memory-clause-ends g c = λ shelf_told source_told sink_told. inl (refl, same g c.args.registry.now.directory.now c.args.shelf.now)

pub returns-in-Memory-clause-journals : goal.returns-in-Memory-clause-journals
returns-in-Memory-clause-journals g c = λ shelf_told. inl (same g c.args.registry.now.directory.now c.args.shelf.now)

pub returns-in_default-clause-ends : goal.returns-in_default-clause-ends
returns-in_default-clause-ends g c = λ shelf_told source_told sink_told. inl (refl, same g c.args.registry.now.directory.now c.args.shelf.now)

pub returns-in_default-clause-journals : goal.returns-in_default-clause-journals
returns-in_default-clause-journals g c = λ shelf_told. inl (same g c.args.registry.now.directory.now c.args.shelf.now)

pub returns-in-Refused-clause-there : goal.returns-in-Refused-clause-there
returns-in-Refused-clause-there g c = λ shelf_told tells name there. there

pub returns-in-Fault-clause-there : goal.returns-in-Fault-clause-there
returns-in-Fault-clause-there g c = λ shelf_told tells name there. there

pub returns-in-Memory-clause-there : goal.returns-in-Memory-clause-there
returns-in-Memory-clause-there g c = λ shelf_told tells name there. there

pub returns-in_default-clause-there : goal.returns-in_default-clause-there
returns-in_default-clause-there g c = λ shelf_told tells name there. there

-- and where an opening was given up
pub returns-in-Err-Shelf-clause-journals : goal.returns-in-Err-Shelf-clause-journals
returns-in-Err-Shelf-clause-journals g c = λ shelf_told.
    keeps_all g.F.D.Disk c.args.registry.now.directory.now (g.F.Shelf.disk c.args.shelf.now) (g.F.Shelf.disk c.open_all.new.shelf)
    (g.F.Shelf.disk_faults c.args.shelf.now) (g.F.Shelf.disk_faults c.open_all.new.shelf) (c.in-Err-Shelf.ensures.refused_bytes shelf_told)
    (c.in-Err-Shelf.ensures.refused_images shelf_told) (c.in-Err-Shelf.ensures.refused_moments shelf_told)

pub returns-in-Err-Shelf-clause-ends : goal.returns-in-Err-Shelf-clause-ends
unfolding returns-in-Err-Shelf-clause-journals
returns-in-Err-Shelf-clause-ends g c = λ shelf_told source_told sink_told.
    ((c.in-Whole.ensures.reads source_told).1, (refl, returns-in-Err-Shelf-clause-journals g c shelf_told))

pub returns-in-Err-Memory-clause-ends : goal.returns-in-Err-Memory-clause-ends
returns-in-Err-Memory-clause-ends g c = λ shelf_told source_told sink_told.
    inl (
      refl,
      keeps_all g.F.D.Disk c.args.registry.now.directory.now (g.F.Shelf.disk c.args.shelf.now) (g.F.Shelf.disk c.open_all.new.shelf)
          (g.F.Shelf.disk_faults c.args.shelf.now) (g.F.Shelf.disk_faults c.open_all.new.shelf) (c.in-Err-Memory.ensures.refused_bytes shelf_told)
          (c.in-Err-Memory.ensures.refused_images shelf_told) (c.in-Err-Memory.ensures.refused_moments shelf_told),
    )

pub returns-in-Err-Memory-clause-journals : goal.returns-in-Err-Memory-clause-journals
returns-in-Err-Memory-clause-journals g c = λ shelf_told.
    inl (keeps_all g.F.D.Disk c.args.registry.now.directory.now (g.F.Shelf.disk c.args.shelf.now) (g.F.Shelf.disk c.open_all.new.shelf)
    (g.F.Shelf.disk_faults c.args.shelf.now) (g.F.Shelf.disk_faults c.open_all.new.shelf) (c.in-Err-Memory.ensures.refused_bytes shelf_told)
    (c.in-Err-Memory.ensures.refused_images shelf_told) (c.in-Err-Memory.ensures.refused_moments shelf_told))

pub returns-in-Err-Shelf-clause-there : goal.returns-in-Err-Shelf-clause-there
returns-in-Err-Shelf-clause-there g c = c.in-Err-Shelf.ensures.refused_there

pub returns-in-Err-Memory-clause-there : goal.returns-in-Err-Memory-clause-there
returns-in-Err-Memory-clause-there g c = c.in-Err-Memory.ensures.refused_there

-- ---- what follows from the opening of all journals

seated : (g : Over) (c : In-Ok-open_all g)
    → AllSeated c.args.registry.now.directory.now c.args.registry.now.schema.now c.args.registry.now.world.now (header_bytes c.args.registry.now.header.now)
    g.F.Shelf.tells g.F.D.Disk c.args.registry.now.users.now c.in-Ok-open_all.seats.items (g.F.Shelf.disk c.args.shelf.now)
    (g.F.Shelf.disk c.open_all.new.shelf) (g.F.Shelf.is_out c.open_all.new.shelf) (g.F.Shelf.disk_faults c.args.shelf.now)
    (g.F.Shelf.disk_faults c.open_all.new.shelf)
seated g c =
    all_seated _ _ _ _ _ _ _ _ _ _ _ _ _ c.law_journals_differ.ensures c.requires.names c.in-Ok-open_all.ensures.opened c.in-Ok-open_all.ensures.out
    c.open_all.ensures.disks c.in-Ok-open_all.ensures.counts

-- what runs from there make of the journals, where the shelf is this one behind them
ending : (g : Over) (c : In-Ok-open_all g) (told : g.F.Shelf.tells) (after : _)
    → Finishes c.args.registry.now.schema.now c.args.registry.now.world.now (header_bytes c.args.registry.now.header.now) g.F.Shelf.tells
    g.F.D.Disk (journals_on g.F.Shelf g.F.D.Disk c.args.registry.now.directory.now c.args.shelf.now after)
    (map named_user c.args.registry.now.users.now) c.in-Ok-open_all.seats.items (g.F.Shelf.disk after) (g.F.Shelf.disk_faults after)
ending g c told after =
    let disk = g.met.F.D.Disk g.world.𝓛 g.world.𝓜 g.world.𝓡 ((λ s x. x), (λ x. x), (λ x. x), λ x. x) in
    finishes c.args.registry.now.schema.now c.args.registry.now.world.now (header_bytes c.args.registry.now.header.now) c.args.registry.now.directory.now
    g.F.Shelf.tells told g.F.D.Disk (g.met.F.Shelf.tells_disks told) disk.read_is_image disk.only_now
    (g.F.Shelf.disk c.args.shelf.now) (g.F.Shelf.disk after) (g.F.Shelf.disk_faults c.args.shelf.now) (g.F.Shelf.disk_faults after)
    (λ (user : UserProfile) entries bytes why. c.law_openings.ensures.unrefused c.args.registry.now.schema.now c.args.registry.now.world.now user
    c.args.registry.now.header.now bytes entries why)
    (λ (user : UserProfile) bytes. c.law_openings.ensures.decided c.args.registry.now.schema.now c.args.registry.now.world.now user
    (header_bytes c.args.registry.now.header.now) bytes)
    c.law_legal_grows.ensures.empty c.law_runs_legal.ensures c.law_scripts_hide.ensures c.law_private.ensures c.known.ensures c.args.registry.now.users.now
    c.requires.limits c.requires.names c.in-Ok-open_all.seats.items c.in-Ok-open_all.ensures.opened

pub answer_all-requires-clause-can : goal.answer_all-requires-clause-can
answer_all-requires-clause-can g c κs within =
    let at = seated g (goal.at.answer_all-requires-clause-can g c).In-Ok-open_all in
    record {
      limits = seats_limits c.args.registry.now.directory.now c.args.registry.now.schema.now c.args.registry.now.world.now
          (header_bytes c.args.registry.now.header.now) g.F.Shelf.tells g.F.D.Disk (g.F.Shelf.disk c.args.shelf.now)
          (g.F.Shelf.disk_faults c.args.shelf.now) c.args.registry.now.users.now c.in-Ok-open_all.seats.items c.in-Ok-open_all.ensures.opened
          (all_of _ c.args.registry.now.users.now c.requires.limits);
      served = at.served;
      names = ap has_duplicate (named_so c.args.registry.now.directory.now c.args.registry.now.schema.now c.args.registry.now.world.now
          (header_bytes c.args.registry.now.header.now) g.F.Shelf.tells g.F.D.Disk (g.F.Shelf.disk c.args.shelf.now)
          (g.F.Shelf.disk_faults c.args.shelf.now) c.args.registry.now.users.now c.in-Ok-open_all.seats.items c.in-Ok-open_all.ensures.opened)
          ∙ c.requires.names;
      registered = at.journals_are;
      distinct = at.distinct;
      out = λ name among. at.out name ∙ among;
      later = at.later;
      own = c.in-Ok-open_all.ensures.own;
    }

pub answer_all-requires-clause-refusals : goal.answer_all-requires-clause-refusals
answer_all-requires-clause-refusals g c κs within =
    let room = c.in-Ok.ensures.room in
    let count = (seated g (goal.at.answer_all-requires-clause-refusals g c).In-Ok-open_all).many in
    omega (arith, room, count)

-- ---- all disks are back, at these seats

-- what the opening of all journals gave, at a place behind the answers
abbrev Begun : (g : Over) → After-answer_all g → Type 0
Begun g c =
    AllSeated c.args.registry.now.directory.now c.args.registry.now.schema.now c.args.registry.now.world.now (header_bytes c.args.registry.now.header.now)
    g.F.Shelf.tells g.F.D.Disk c.args.registry.now.users.now c.in-Ok-open_all.seats.items (g.F.Shelf.disk c.args.shelf.now)
    (g.F.Shelf.disk c.open_all.new.shelf) (g.F.Shelf.is_out c.open_all.new.shelf) (g.F.Shelf.disk_faults c.args.shelf.now)
    (g.F.Shelf.disk_faults c.open_all.new.shelf)

-- the seats behind them, however they ended
behind : (g : Over) (c : After-answer_all g) → (new : _)
    × Stay c.args.registry.now.schema.now c.args.registry.now.world.now (header_bytes c.args.registry.now.header.now) g.F.D.Disk
    c.in-Ok-open_all.seats.items new
    × AllBack g.F.Shelf g.F.D.Disk c.open_all.new.shelf c.answer_all.new.shelf new
behind g c =
    left_behind c.args.registry.now.schema.now c.args.registry.now.world.now (header_bytes c.args.registry.now.header.now) g.F.D.Disk
    g.K.Sink.tells (λ left. AllBack g.F.Shelf g.F.D.Disk c.open_all.new.shelf c.answer_all.new.shelf left) (items_of c.in-Whole.batch)
    c.in-Ok-open_all.seats.items _ _ c.answer_all.result (λ told. told.0.items) (λ told. told.1) c.answer_all.ensures.answered
    c.answer_all.ensures.stopped

returned : (g : Over) (c : After-answer_all g) → Begun g c
    → AllReturned (registered_journals c.args.registry.now.directory.now c.args.registry.now.users.now) (g.F.Shelf.disk c.args.shelf.now)
    (g.F.Shelf.disk c.answer_all.new.shelf) (g.F.Shelf.is_out c.answer_all.new.shelf) (g.F.Shelf.disk_faults c.args.shelf.now)
    (g.F.Shelf.disk_faults c.answer_all.new.shelf)
returned g c begun =
    let left = behind g c in
    let back = left.2 in
    all_returned begun left.0 left.1.names (left.1.later (g.F.Shelf.disk_faults c.open_all.new.shelf) begun.later)
    (record { back = back.back; inside = back.inside; others_out = back.others_out; disks = back.disks; counts = back.counts })

-- what was told of their disks lies there
lying : (g : Over) (c : After-answer_all g) → Begun g c
    → g.F.Shelf.tells → StaysThere g.F.D.Disk (g.F.Shelf.disk c.args.shelf.now) (g.F.Shelf.disk c.answer_all.new.shelf)
lying g c begun told tells name there =
    let left = behind g c in
    all_there g.F.D.Disk tells g.F.Shelf.tells told (g.F.Shelf.disk c.args.shelf.now) (g.F.Shelf.disk c.answer_all.new.shelf)
    (g.F.Shelf.disk_faults c.answer_all.new.shelf) left.0 left.2.back
    (subst (λ ns. SameBeside ns (g.F.Shelf.disk c.args.shelf.now) (g.F.Shelf.disk c.answer_all.new.shelf)) (sym (left.1.names ∙ begun.journals_are))
    (returned g c begun).disks)
    (left.1.there tells
    (there_first g.F.D.Disk tells g.F.Shelf.tells c.args.registry.now.schema.now c.args.registry.now.world.now
    (header_bytes c.args.registry.now.header.now) c.args.registry.now.directory.now (g.F.Shelf.disk c.args.shelf.now)
    (g.F.Shelf.disk_faults c.args.shelf.now) c.args.registry.now.users.now c.in-Ok-open_all.seats.items c.in-Ok-open_all.ensures.opened)) name there

-- ---- all items were answered

pub returns-in-Ok-answer_all-clause-there : goal.returns-in-Ok-answer_all-clause-there
returns-in-Ok-answer_all-clause-there g c =
    let at = goal.at.returns-in-Ok-answer_all-clause-there g c in lying g at.After-answer_all (seated g at.In-Ok-open_all)

pub returns-in-Ok-answer_all-clause-inside : goal.returns-in-Ok-answer_all-clause-inside
returns-in-Ok-answer_all-clause-inside g c =
    let at = goal.at.returns-in-Ok-answer_all-clause-inside g c in (returned g at.After-answer_all (seated g at.In-Ok-open_all)).inside

pub returns-in-Ok-answer_all-clause-counts : goal.returns-in-Ok-answer_all-clause-counts
returns-in-Ok-answer_all-clause-counts g c =
    let at = goal.at.returns-in-Ok-answer_all-clause-counts g c in (returned g at.After-answer_all (seated g at.In-Ok-open_all)).counts

pub returns-in-Ok-answer_all-clause-other_counts : goal.returns-in-Ok-answer_all-clause-other_counts
returns-in-Ok-answer_all-clause-other_counts g c =
    let at = goal.at.returns-in-Ok-answer_all-clause-other_counts g c in (returned g at.After-answer_all (seated g at.In-Ok-open_all)).other_counts

pub returns-in-Ok-answer_all-clause-disks : goal.returns-in-Ok-answer_all-clause-disks
returns-in-Ok-answer_all-clause-disks g c =
    let at = goal.at.returns-in-Ok-answer_all-clause-disks g c in (returned g at.After-answer_all (seated g at.In-Ok-open_all)).disks

pub returns-in-Ok-answer_all-clause-journals : goal.returns-in-Ok-answer_all-clause-journals
returns-in-Ok-answer_all-clause-journals g c = λ shelf_told.
    let all = c.in-Ok-answer_all.ensures.answered in (
      items_of c.in-Whole.batch,
      all.1.output,
      (ending g (goal.at.returns-in-Ok-answer_all-clause-journals g c).In-Ok-open_all shelf_told c.answer_all.new.shelf).all g.K.Sink.tells
          (items_of c.in-Whole.batch) all.0 c.in-Ok-answer_all.told.1 _ _ c.in-Ok-answer_all.told.0.items all.1 all.2.back all.3,
    )

pub returns-in-Ok-answer_all-clause-ends : goal.returns-in-Ok-answer_all-clause-ends
unfolding returns-in-Ok-answer_all-clause-journals
returns-in-Ok-answer_all-clause-ends g c = λ shelf_told source_told sink_told.
    let reads = c.in-Whole.ensures.reads source_told in
    let all = c.in-Ok-answer_all.ensures.answered in
    let alone = returns-in-Ok-answer_all-clause-journals g c shelf_told in (
      reads.1,
      items_of c.in-Whole.batch,
      sym (batch_begins _ _ c.new.ensures) ∙ reads.0,
      told_all c.args.registry.now.schema.now c.args.registry.now.world.now (header_bytes c.args.registry.now.header.now)
          (journals_on g.F.Shelf g.F.D.Disk c.args.registry.now.directory.now c.args.shelf.now c.answer_all.new.shelf)
          (map named_user c.args.registry.now.users.now) (items_of c.in-Whole.batch) all.1.output _ _ _ _ alone.2 (all.1.appended sink_told),
    )

pub returns-in-Ok-answer_all-clause-disk_cause : goal.returns-in-Ok-answer_all-clause-disk_cause
returns-in-Ok-answer_all-clause-disk_cause g c =
    let all = c.in-Ok-answer_all.ensures.answered in
    broken_rose c.args.registry.now.schema.now c.args.registry.now.world.now (header_bytes c.args.registry.now.header.now) g.F.D.Disk
    (g.F.Shelf.disk_faults c.args.shelf.now) g.F.Shelf.tells (g.F.Shelf.disk_faults c.answer_all.new.shelf) (g.F.Shelf.disk c.answer_all.new.shelf)
    g.K.Sink.tells (items_of c.in-Whole.batch) c.in-Ok-open_all.seats.items all.0 c.in-Ok-answer_all.told.1 _ _ all.1
    (seated g (goal.at.returns-in-Ok-answer_all-clause-disk_cause g c).In-Ok-open_all).first all.2.back

pub returns-in-Ok-answer_all-clause-journal_cause : goal.returns-in-Ok-answer_all-clause-journal_cause
returns-in-Ok-answer_all-clause-journal_cause g c =
    let registry = c.args.registry.now in
    let all = c.in-Ok-answer_all.ensures.answered in
    let count = g.F.Shelf.disk_faults c.args.shelf.now in
    faulted_run registry.schema.now registry.world.now (header_bytes registry.header.now) g.F.D.Disk count g.F.Shelf.tells
    (g.F.Shelf.disk_faults c.answer_all.new.shelf) (g.F.Shelf.disk c.answer_all.new.shelf) g.K.Sink.tells (items_of c.in-Whole.batch)
    c.in-Ok-open_all.seats.items all.0 c.in-Ok-answer_all.told.1 _ _ all.1
    (seated g (goal.at.returns-in-Ok-answer_all-clause-journal_cause g c).In-Ok-open_all).first all.2.back
    (first_faulted g.F.D.Disk count g.F.Shelf.tells registry.schema.now registry.world.now (header_bytes registry.header.now) registry.directory.now
    (g.F.Shelf.disk c.args.shelf.now) registry.users.now c.in-Ok-open_all.seats.items c.in-Ok-open_all.ensures.opened)
    c.in-Ok-answer_all.told.0.items all.3

-- ---- a write failed

pub returns-in-Err-Write-clause-there : goal.returns-in-Err-Write-clause-there
returns-in-Err-Write-clause-there g c =
    let at = goal.at.returns-in-Err-Write-clause-there g c in lying g at.After-answer_all (seated g at.In-Ok-open_all)

pub returns-in-Err-Write-clause-inside : goal.returns-in-Err-Write-clause-inside
returns-in-Err-Write-clause-inside g c =
    let at = goal.at.returns-in-Err-Write-clause-inside g c in (returned g at.After-answer_all (seated g at.In-Ok-open_all)).inside

pub returns-in-Err-Write-clause-counts : goal.returns-in-Err-Write-clause-counts
returns-in-Err-Write-clause-counts g c =
    let at = goal.at.returns-in-Err-Write-clause-counts g c in (returned g at.After-answer_all (seated g at.In-Ok-open_all)).counts

pub returns-in-Err-Write-clause-other_counts : goal.returns-in-Err-Write-clause-other_counts
returns-in-Err-Write-clause-other_counts g c =
    let at = goal.at.returns-in-Err-Write-clause-other_counts g c in (returned g at.After-answer_all (seated g at.In-Ok-open_all)).other_counts

pub returns-in-Err-Write-clause-disks : goal.returns-in-Err-Write-clause-disks
returns-in-Err-Write-clause-disks g c =
    let at = goal.at.returns-in-Err-Write-clause-disks g c in (returned g at.After-answer_all (seated g at.In-Ok-open_all)).disks

pub returns-in-Err-Write-clause-journals : goal.returns-in-Err-Write-clause-journals
returns-in-Err-Write-clause-journals g c = λ shelf_told.
    let some = rw c.in-Err-Write.field-0-is at c.in-Err-Write.ensures.stopped in (
      items_of c.in-Whole.batch,
      some.1.output ++ take 0 some.1.lines,
      (ending g (goal.at.returns-in-Err-Write-clause-journals g c).In-Ok-open_all shelf_told c.answer_all.new.shelf).some (Unit {0}) tt
          (items_of c.in-Whole.batch) some.0 [] (some.1.output ++ take 0 some.1.lines)
          (some_alone c.args.registry.now.schema.now c.args.registry.now.world.now (header_bytes c.args.registry.now.header.now)
          g.F.D.Disk g.K.Sink.tells (items_of c.in-Whole.batch) c.in-Ok-open_all.seats.items some.0 _ _ some.1) some.2.back,
    )

pub returns-in-Err-Write-clause-ends : goal.returns-in-Err-Write-clause-ends
returns-in-Err-Write-clause-ends g c = λ shelf_told source_told sink_told.
    let reads = c.in-Whole.ensures.reads source_told in
    let some = rw c.in-Err-Write.field-0-is at c.in-Err-Write.ensures.stopped in (
      reads.1,
      (
        items_of c.in-Whole.batch,
        sym (batch_begins _ _ c.new.ensures) ∙ reads.0,
        (ending g (goal.at.returns-in-Err-Write-clause-ends g c).In-Ok-open_all shelf_told c.answer_all.new.shelf).some g.K.Sink.tells sink_told
            (items_of c.in-Whole.batch) some.0 _ _ some.1 some.2.back,
      ),
    )

-- ---- memory was wanting as a stretch began or ended

pub returns-clause-there : goal.returns-clause-there
returns-clause-there g c =
    let at = goal.at.returns-clause-there g c in lying g at.After-answer_all (seated g at.In-Ok-open_all)

pub returns-clause-inside : goal.returns-clause-inside
returns-clause-inside g c =
    let at = goal.at.returns-clause-inside g c in (returned g at.After-answer_all (seated g at.In-Ok-open_all)).inside

pub returns-clause-counts : goal.returns-clause-counts
returns-clause-counts g c =
    let at = goal.at.returns-clause-counts g c in (returned g at.After-answer_all (seated g at.In-Ok-open_all)).counts

pub returns-clause-other_counts : goal.returns-clause-other_counts
returns-clause-other_counts g c =
    let at = goal.at.returns-clause-other_counts g c in (returned g at.After-answer_all (seated g at.In-Ok-open_all)).other_counts

pub returns-clause-disks : goal.returns-clause-disks
returns-clause-disks g c =
    let at = goal.at.returns-clause-disks g c in (returned g at.After-answer_all (seated g at.In-Ok-open_all)).disks

pub returns-clause-journals : goal.returns-clause-journals
returns-clause-journals g c = λ shelf_told.
    let left = rw c.in-Err-Memory-answer_all.field-0-is at c.in-Err-Memory-answer_all.ensures.stopped in
    inr (
      items_of c.in-Whole.batch,
      left.1.0.output ++ take 0 left.1.0.lines,
      (ending g (goal.at.returns-clause-journals g c).In-Ok-open_all shelf_told c.answer_all.new.shelf).to (Unit {0}) tt (items_of c.in-Whole.batch) left.0
          [] (left.1.0.output ++ take 0 left.1.0.lines)
          (to_alone c.args.registry.now.schema.now c.args.registry.now.world.now (header_bytes c.args.registry.now.header.now)
          g.F.D.Disk g.K.Sink.tells (items_of c.in-Whole.batch) c.in-Ok-open_all.seats.items left.0 _ _ left.1) left.2.back,
    )

pub returns-clause-ends : goal.returns-clause-ends
returns-clause-ends g c = λ shelf_told source_told sink_told.
    let reads = c.in-Whole.ensures.reads source_told in
    let left = rw c.in-Err-Memory-answer_all.field-0-is at c.in-Err-Memory-answer_all.ensures.stopped in
    inr (
      reads.1,
      (
        items_of c.in-Whole.batch,
        sym (batch_begins _ _ c.new.ensures) ∙ reads.0,
        (ending g (goal.at.returns-clause-ends g c).In-Ok-open_all shelf_told c.answer_all.new.shelf).to g.K.Sink.tells sink_told
            (items_of c.in-Whole.batch) left.0 _ _ left.1 left.2.back,
      ),
    )
