use Rattle.std.proofs.Common.{⊎_elim, ap, length, length-append, arith}
use Rattle.migrate_engine.proofs.Making.{held_more, written_shut}
use Rattle.migrate_engine.proofs.target.write_more.Given.{Over}
use Rattle.migrate_engine.proofs.target.write_more.Goals as goal
use Rattle.migrate_engine.specs.Moves.{StaysShut}
use Rattle.migrate_engine.proofs.target.write_more.Goals.{After-write_at}

-- what the write leaves
left : (g : Over) (c : After-write_at g) → g.D.Disk.tells → StaysShut g.D.Disk c.args.disk.now c.write_at.new.self
left g c told =
    let disk = g.D.Disk in
    let old = c.args.disk.now in
    let new = c.write_at.new.self in
    let images = written_shut c.args.end (length c.args.piece.now) (disk.image old) (disk.image new) c.requires.behind (c.requires.shut told)
    c.write_at.ensures.images in
    record {
      images = images;
      moments = λ d is. ⊎_elim (c.requires.shut told d) (images d) (c.write_at.ensures.moments d is);
      time = c.write_at.ensures.time;
    }

pub returns-in_err-write_at-clause-shut : goal.returns-in_err-write_at-clause-shut
returns-in_err-write_at-clause-shut g c = left g (goal.at.returns-in_err-write_at-clause-shut g c).After-write_at

pub returns-clause-shut : goal.returns-clause-shut
returns-clause-shut g c = left g (goal.at.returns-clause-shut g c).After-write_at

pub returns-clause-more : goal.returns-clause-more
returns-clause-more g c = λ told.
    held_more c.args.end (g.D.Disk.reads c.args.disk.now) c.args.piece.now (g.D.Disk.reads c.write_at.new.self) (c.requires.end told)
    (c.in_ok-write_at.ensures.written told)

pub returns-clause-end : goal.returns-clause-end
returns-clause-end g c = λ told.
    let end = c.requires.end told in
    let fits = c.in_ok-write_at.ensures.fits told in
    let more = ap length (held_more c.args.end (g.D.Disk.reads c.args.disk.now) c.args.piece.now (g.D.Disk.reads c.write_at.new.self) end
    (c.in_ok-write_at.ensures.written told)) in
    omega (arith, end, fits, more, length-append (g.D.Disk.reads c.args.disk.now) c.args.piece.now, c.saturating_add.ensures)

pub returns-clause-behind : goal.returns-clause-behind
returns-clause-behind g c = let behind = c.requires.behind in omega (arith, behind, c.saturating_add.ensures)
