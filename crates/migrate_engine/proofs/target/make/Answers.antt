use Rattle.std.proofs.Common.{◌≡◌, ◌⊎◌, true, inl, inr, map, take}
use Rattle.std.proofs.lemmas.List.Elements.{recursion_from_All}
use Rattle.std.specs.List.{list_all}
use Rattle.log_journal.proofs.Appends.{on_both}
use Rattle.log_journal.specs.Opening.{first_eight, header_bytes, recorded, IsRecord}
use Rattle.log_journal.specs.Records.{is_record}
use Rattle.migrate_engine.specs.Moves.{FailsFirst, IsMaking}
use Rattle.migrate_engine.proofs.Making.{only_shut, where_err, begins_so, each_whole, making_shut, making_open, filled_of}
use Rattle.migrate_engine.proofs.target.make.Given.{Over}
use Rattle.migrate_engine.proofs.target.make.Goals as goal
use Rattle.migrate_engine.proofs.target.make.Goals.{After-write_rest}

pub write_rest-requires-clause-shut : goal.write_rest-requires-clause-shut
write_rest-requires-clause-shut g c = λ told.
    only_shut (g.D.Disk.reads c.write_shut.new.disk) (g.D.Disk.image c.write_shut.new.disk) (c.in_ok-write_shut.ensures.bytes told)
    c.in_ok-write_shut.ensures.durable

-- how the header begins, and that the records are whole
begins : (g : Over) (c : After-write_rest g) → take 8 (header_bytes c.args.header.now) ≡ first_eight
begins g c = begins_so c.args.header.now.policy c.args.header.now.facts

each : (g : Over) (c : After-write_rest g) → list_all (is_record 5) (map recorded c.args.records.now) ≡ true
each g c = each_whole c.args.records.now (recursion_from_All (IsRecord 4) c.args.records.now c.requires.each)

pub returns-in_err-write_shut-clause-left : goal.returns-in_err-write_shut-clause-left
returns-in_err-write_shut-clause-left g c = λ told.
    let left : FailsFirst g.D.Disk c.write_shut.new.disk
    ⊎ IsMaking g.D.Disk (header_bytes c.args.header.now) (map recorded c.args.records.now) c.write_shut.new.disk =
    inl (c.in_err-write_shut.ensures.left told) in
    where_err _ left

pub returns-in_err-write_rest-clause-left : goal.returns-in_err-write_rest-clause-left
returns-in_err-write_rest-clause-left g c = λ told.
    let left : FailsFirst g.D.Disk c.write_rest.new.disk
    ⊎ IsMaking g.D.Disk (header_bytes c.args.header.now) (map recorded c.args.records.now) c.write_rest.new.disk =
    inr (making_shut g.D.Disk (header_bytes c.args.header.now) (map recorded c.args.records.now) c.write_shut.new.disk c.write_rest.new.disk
    (c.in_ok-write_shut.ensures.bytes told) c.in_ok-write_shut.ensures.durable (c.write_rest.ensures.shut told)) in
    where_err _ left

pub returns-clause-left : goal.returns-clause-left
returns-clause-left g c = λ told.
    let at = (goal.at.returns-clause-left g c).After-write_rest in
    let e = c.write_synced.ensures in
    let left : FailsFirst g.D.Disk c.write_synced.new.disk
    ⊎ IsMaking g.D.Disk (header_bytes c.args.header.now) (map recorded c.args.records.now) c.write_synced.new.disk =
    inr (making_open g.D.Disk (header_bytes c.args.header.now) (map recorded c.args.records.now) c.write_shut.new.disk c.write_rest.new.disk
    (c.in_ok-write_shut.ensures.bytes told) c.in_ok-write_shut.ensures.durable (c.write_rest.ensures.shut told) (begins g at)
    c.in_ok-write_rest.ensures.size (each g at) c.write_synced.new.disk (c.in_ok-write_rest.ensures.rest told) e.images e.time e.moments) in
    where_err c.write_synced.result left

pub returns-clause-filled : goal.returns-clause-filled
returns-clause-filled g c = λ told.
    let at = (goal.at.returns-clause-filled g c).After-write_rest in
    let e = c.write_synced.ensures in
    on_both c.write_synced.result
    (filled_of g.D.Disk (header_bytes c.args.header.now) (map recorded c.args.records.now) c.write_shut.new.disk c.write_rest.new.disk
    (c.in_ok-write_shut.ensures.bytes told) c.in_ok-write_shut.ensures.durable (c.write_rest.ensures.shut told) (begins g at)
    c.in_ok-write_rest.ensures.size (each g at) c.write_synced.new.disk (c.in_ok-write_rest.ensures.rest told) e.images e.time e.moments)
    (e.written told) e.durable
