use Rattle.std.proofs.Common.{rules, ◌≡◌, ◌∙◌, ◌++◌, length, length-append, map, arith}
use Rattle.log_journal.specs.Opening.{first_eight, recorded}
use Rattle.log_journal.specs.Records.{written}
use Rattle.migrate_engine.specs.Moves.{StaysShut}
use Rattle.migrate_engine.proofs.Making.{where_ok, rest_written, shut_then, shut_synced}
use Rattle.migrate_engine.proofs.target.write_rest.Given.{Over}
use Rattle.migrate_engine.proofs.target.write_rest.Goals as goal
use Rattle.migrate_engine.proofs.target.write_rest.Goals.{After-write_more-2, After-write_records, After-write_more-3}

pub write_more-requires-2-clause-shut : goal.write_more-requires-2-clause-shut
write_more-requires-2-clause-shut g c = λ told. (c.write_more.ensures.shut told).images

pub write_records-requires-clause-shut : goal.write_records-requires-clause-shut
write_records-requires-clause-shut g c = λ told. (c.write_more-2.ensures.shut told).images

pub write_more-requires-3-clause-shut : goal.write_more-requires-3-clause-shut
write_more-requires-3-clause-shut g c = λ told. (c.write_records.ensures.shut told).images

-- the first eight bytes stay shut, call by call
by_two : (g : Over) (c : After-write_more-2 g) → g.D.Disk.tells → StaysShut g.D.Disk c.args.disk.now c.write_more-2.new.disk
by_two g c told =
    shut_then g.D.Disk c.args.disk.now c.write_more.new.disk c.write_more-2.new.disk (c.write_more.ensures.shut told) (c.write_more-2.ensures.shut told)

by_three : (g : Over) (c : After-write_records g) → g.D.Disk.tells → StaysShut g.D.Disk c.args.disk.now c.write_records.new.disk
by_three g c told =
    shut_then g.D.Disk c.args.disk.now c.write_more-2.new.disk c.write_records.new.disk
    (shut_then g.D.Disk c.args.disk.now c.write_more.new.disk c.write_more-2.new.disk (c.write_more.ensures.shut told) (c.write_more-2.ensures.shut told))
    (c.write_records.ensures.shut told)

by_four : (g : Over) (c : After-write_more-3 g) → g.D.Disk.tells → StaysShut g.D.Disk c.args.disk.now c.write_more-3.new.disk
by_four g c told =
    shut_then g.D.Disk c.args.disk.now c.write_records.new.disk c.write_more-3.new.disk
    (shut_then g.D.Disk c.args.disk.now c.write_more-2.new.disk c.write_records.new.disk
    (shut_then g.D.Disk c.args.disk.now c.write_more.new.disk c.write_more-2.new.disk (c.write_more.ensures.shut told) (c.write_more-2.ensures.shut told))
    (c.write_records.ensures.shut told)) (c.write_more-3.ensures.shut told)

pub returns-in_err-first-clause-shut : goal.returns-in_err-first-clause-shut
returns-in_err-first-clause-shut g c = by_two g (goal.at.returns-in_err-first-clause-shut g c).After-write_more-2

pub returns-in_err-gate-clause-shut : goal.returns-in_err-gate-clause-shut
returns-in_err-gate-clause-shut g c = by_three g (goal.at.returns-in_err-gate-clause-shut g c).After-write_records

pub returns-in_err-_end-clause-shut : goal.returns-in_err-_end-clause-shut
returns-in_err-_end-clause-shut g c = by_four g (goal.at.returns-in_err-_end-clause-shut g c).After-write_more-3

pub returns-clause-shut : goal.returns-clause-shut
returns-clause-shut g c = λ told.
    let four = by_four g (goal.at.returns-clause-shut g c).After-write_more-3 told in
    let e = c.sync.ensures in
    shut_then g.D.Disk c.args.disk.now c.write_more-3.new.disk c.sync.new.self four
    (shut_synced g.D.Disk c.write_more-3.new.disk c.sync.new.self four.images e.images e.moments e.time)

pub returns-clause-rest : goal.returns-clause-rest
returns-clause-rest g c = λ told.
    let R = g.D.Disk.reads in
    where_ok c.sync.result (c.sync.ensures.reads
    ∙ rest_written c.args.header.now.policy c.args.header.now.facts (written (map recorded c.args.records.now)) (R c.args.disk.now)
    (R c.write_more.new.disk) (R c.write_more-2.new.disk) (R c.write_records.new.disk) (R c.write_more-3.new.disk) (c.requires.bytes told)
    (c.in_ok-facts.ensures.more told) (c.in_ok-first.ensures.more told) (c.in_ok-gate.ensures.more told) (c.in_ok-_end.ensures.more told))

pub returns-clause-size : goal.returns-clause-size
returns-clause-size g c =
    let policy = c.args.header.now.policy in
    let facts = c.args.header.now.facts in
    let one : length policy ≡ 32 = search rules in
    let two : length facts ≡ 32 = search rules in
    where_ok c.sync.result (omega (arith, one, two, length-append (first_eight ++ policy) facts, length-append first_eight policy))
