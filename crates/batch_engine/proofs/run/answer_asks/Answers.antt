use Rattle.std.proofs.Common.{sym, ap, subst, ◌∙◌}
use Rattle.log_journal.specs.Opening.{header_bytes}
use Rattle.desk_crew.specs.Shelved.{AreOwn}
use Rattle.desk_crew.proofs.Giving.{CanGive}
use Rattle.batch_engine.specs.Answers.{says_broken}
use Rattle.batch_engine.specs.Batches.{asks_in, stretch_in}
use Rattle.batch_engine.specs.Posts.{AreAnswered}
use Rattle.batch_engine.specs.Stretches.{InOrder, AllBack}
use Rattle.batch_engine.proofs.Posts.{in_lines, numbers_below}
use Rattle.batch_engine.proofs.Running.{stay_run, can_still}
use Rattle.batch_engine.proofs.run.answer_asks.Given.{Over}
use Rattle.batch_engine.proofs.run.answer_asks.Goals as goal
use Rattle.batch_engine.proofs.run.answer_asks.Goals.{In-Err, After-says_broken-is_broken}

pub answer_stretch-requires-clause-served : goal.answer_stretch-requires-clause-served
answer_stretch-requires-clause-served g c κs within = (
  c.args.registry.now.schema.now,
  c.args.registry.now.world.now,
  header_bytes c.args.registry.now.header.now,
  c.requires.can.served,
)

-- the seats came back as they were
same : (g : Over) (c : In-Err g) → CanGive g.F.D.Disk c.in-Err.seats.items (g.F.Shelf.is_out c.args.shelf.now) (g.F.Shelf.disk_faults c.args.shelf.now)
same g c =
    subst (λ v. CanGive g.F.D.Disk v.items (g.F.Shelf.is_out c.args.shelf.now) (g.F.Shelf.disk_faults c.args.shelf.now)) (sym c.in-Err.ensures.refused)
    (record { distinct = c.requires.can.distinct; out = c.requires.can.out; later = c.requires.can.later })

pub give_back-requires-clause-distinct : goal.give_back-requires-clause-distinct
give_back-requires-clause-distinct g c = (same g (goal.at.give_back-requires-clause-distinct g c).In-Err).distinct

pub give_back-requires-clause-out : goal.give_back-requires-clause-out
give_back-requires-clause-out g c = (same g (goal.at.give_back-requires-clause-out g c).In-Err).out

pub give_back-requires-clause-later : goal.give_back-requires-clause-later
give_back-requires-clause-later g c = (same g (goal.at.give_back-requires-clause-later g c).In-Err).later

pub give_back-requires-clause-own : goal.give_back-requires-clause-own
give_back-requires-clause-own g c =
    subst (λ v. AreOwn g.F.D.Disk.origin (g.F.Shelf.lent c.args.shelf.now).origin v.items) (sym c.in-Err.ensures.refused) c.requires.can.own

pub returns-in-Err-clause-back : goal.returns-in-Err-clause-back
returns-in-Err-clause-back g c =
    let given = c.give_back.ensures in
    subst (λ v. AllBack g.F.Shelf g.F.D.Disk c.args.shelf.now c.give_back.new.shelf v.items) c.in-Err.ensures.refused
    (record { back = given.back; inside = given.inside; others_out = given.others_out; disks = given.disks; counts = given.counts })

-- the asks were answered
answered : (g : Over) (c : After-says_broken-is_broken g)
    → AreAnswered c.args.registry.now.schema.now c.args.registry.now.world.now (asks_in c.args.asks.now) c.args.seats.items c.in-Ok.told.0.items
    c.in-Ok.told.1.items
answered g c =
    c.in-Ok.ensures.answered c.args.registry.now.schema.now c.args.registry.now.world.now (header_bytes c.args.registry.now.header.now) c.requires.can.served

order : (g : Over) (c : After-says_broken-is_broken g)
    → InOrder c.args.registry.now.schema.now c.args.registry.now.world.now (header_bytes c.args.registry.now.header.now) g.F.D.Disk
    (stretch_in c.args.asks.now) c.args.seats.items c.in-Ok.told.0.items c.in-Ok.told.1.items c.says_broken-is_broken.result
order g c =
    in_lines c.args.registry.now.schema.now c.args.registry.now.world.now (header_bytes c.args.registry.now.header.now) g.F.D.Disk
    c.args.asks.now c.args.seats.items c.in-Ok.told.0.items c.in-Ok.told.1.items c.says_broken-is_broken.result
    (c.says_broken-is_broken.ensures ∙ ap says_broken c.as_slice.ensures.value) (answered g c)

pub returns-clause-told : goal.returns-clause-told
returns-clause-told g c = order g (goal.at.returns-clause-told g c).After-says_broken-is_broken

pub returns-clause-below : goal.returns-clause-below
returns-clause-below g c =
    numbers_below c.args.registry.now.schema.now c.args.registry.now.world.now c.args.asks.now c.args.seats.items c.in-Ok.told.0.items
    c.in-Ok.told.1.items (answered g (goal.at.returns-clause-below g c).After-says_broken-is_broken)

pub returns-clause-can : goal.returns-clause-can
returns-clause-can g c =
    can_still c.args.registry.now.schema.now c.args.registry.now.world.now (header_bytes c.args.registry.now.header.now) g.F.D.Disk _ _ _ _ _ _
    (stay_run _ _ _ _ _ _ _ _ _ (order g (goal.at.returns-clause-can g c).After-says_broken-is_broken).runs) c.requires.can
