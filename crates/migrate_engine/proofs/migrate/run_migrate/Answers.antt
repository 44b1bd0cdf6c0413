use Rattle.std.proofs.Common.{◌≡◌, ◌∙◌, sym, subst, refl, Some, slice_get, arith}
use Rattle.log_journal.specs.Opening.{header_bytes}
use Rattle.init_engine.proofs.Running.{name_at}
use Rattle.init_engine.specs.Disks.{user_names}
use Rattle.migrate_engine.specs.Ends.{EndsMigrate}
use Rattle.migrate_engine.specs.Stops.{changed}
use Rattle.migrate_engine.proofs.Apart.{AreApart, are_apart}
use Rattle.migrate_engine.proofs.Running.{beside_both, none_moved, one_more, ends}
use Rattle.migrate_engine.proofs.migrate.run_migrate.Given.{Over}
use Rattle.migrate_engine.proofs.migrate.run_migrate.Goals as goal
use Rattle.migrate_engine.proofs.migrate.run_migrate.Goals.{After-as_str}

-- the name of the user who is served
named : (g : Over) (c : After-as_str g) → slice_get (user_names c.args.users.now) c.loop-number.number ≡ Some c.as_str.result.now
named g c =
    name_at c.args.users.now c.loop-number.number c.index-users-number.result c.as_str.result.now (omega (arith, c.loop-number-test.true))
    c.index-users-number.is c.as_str.ensures.value

-- no old journal has the name of a new one
apart : (g : Over) (c : After-as_str g) → AreApart c.args.from.now c.args.to.now (user_names c.args.users.now)
apart g c = are_apart c.args.from.now c.args.to.now (user_names c.args.users.now) c.requires.apart c.requires.proper

pub serve-requires-clause-apart : goal.serve-requires-clause-apart
serve-requires-clause-apart g c =
    let at = (goal.at.serve-requires-clause-apart g c).After-as_str in
    apart g at c.loop-number.number c.loop-number.number c.as_str.result.now c.as_str.result.now (named g at) (named g at)

pub loop-number-init : goal.loop-number-init
loop-number-init g c = record {
  moved = λ told. none_moved g.F.D.Disk (header_bytes c.args.header.now) c.args.from.now c.args.to.now (user_names c.args.users.now)
      g.met.F.D.Disk.only_now (g.F.Shelf.disk c.args.shelf.now);
  out = c.requires.out;
  counts = λ name. omega arith;
  other_counts = λ name none. refl;
  files = λ name. refl;
  looked = refl;
  later = omega arith;
}

pub returns-in-Err-clause-ends : goal.returns-in-Err-clause-ends
returns-in-Err-clause-ends g c =
    let shelf = g.F.Shelf in
    let disk = g.F.D.Disk in
    let first = c.args.shelf.now in
    let mid = c.loop-number.shelf in
    let last = c.serve.new.shelf in
    let so_far = c.loop-number.invariant in
    let at = (goal.at.returns-in-Err-clause-ends g c).After-as_str in
    subst (λ end. EndsMigrate shelf.tells disk (header_bytes c.args.header.now) c.args.from.now c.args.to.now (user_names c.args.users.now)
    (changed shelf first last) end)
    (sym c.end_of.ensures)
    (ends shelf.tells disk (header_bytes c.args.header.now) c.args.from.now c.args.to.now (user_names c.args.users.now) c.requires.names
    c.law_journals_differ.ensures (apart g at)
    (shelf.disk first) (shelf.disk mid) (shelf.disk last) (shelf.disk_faults first) (shelf.disk_faults mid) (shelf.disk_faults last) (shelf.faults first)
    (shelf.faults mid) (shelf.faults last)
    c.loop-number.number c.as_str.result.now (named g at) so_far.moved c.in-Err.ensures.disks c.in-Err.ensures.source so_far.counts so_far.later
    c.in-Err.why c.in-Err.ensures.reason c.in-Err.ensures.target)

pub returns-in-Err-clause-other_counts : goal.returns-in-Err-clause-other_counts
returns-in-Err-clause-other_counts g c = λ name none.
    let at = (goal.at.returns-in-Err-clause-other_counts g c).After-as_str in
    let beside = beside_both c.args.from.now c.args.to.now (user_names c.args.users.now) c.loop-number.number c.as_str.result.now name none (named g at) in
    c.in-Err.ensures.other_counts name beside.0 beside.1 ∙ c.loop-number.invariant.other_counts name none

pub loop-number-preserved : goal.loop-number-preserved
loop-number-preserved g c =
    let shelf = g.F.Shelf in
    let first = c.args.shelf.now in
    let mid = c.loop-number.shelf in
    let last = c.serve.new.shelf in
    let so_far = c.loop-number.invariant in
    let served = c.in_default.ensures in
    let at = (goal.at.loop-number-preserved g c).After-as_str in
    record {
      moved = λ t. one_more g.F.D.Disk (header_bytes c.args.header.now) c.args.from.now c.args.to.now (user_names c.args.users.now)
          c.requires.names c.law_journals_differ.ensures (apart g at)
          (shelf.disk first) (shelf.disk mid) (shelf.disk last) c.loop-number.number c.as_str.result.now (named g at) (so_far.moved t) served.disks
          (served.source t) (served.moved t);
      out = λ name. served.out name ∙ so_far.out name;
      counts = λ name. omega (arith, served.counts name, so_far.counts name);
      other_counts = λ name none.
          let beside = beside_both c.args.from.now c.args.to.now (user_names c.args.users.now) c.loop-number.number c.as_str.result.now name none
          (named g at) in
          served.other_counts name beside.0 beside.1 ∙ so_far.other_counts name none;
      files = λ name. served.files name ∙ so_far.files name;
      looked = served.looked ∙ so_far.looked;
      later = omega (arith, served.later, so_far.later);
    }
