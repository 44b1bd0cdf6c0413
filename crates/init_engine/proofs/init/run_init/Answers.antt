use Rattle.std.proofs.Common.{◌∙◌, sym, subst, arith}
use Rattle.log_journal.specs.Opening.{header_bytes}
use Rattle.init_engine.specs.Disks.{user_names}
use Rattle.init_engine.specs.Ends.{EndsInit}
use Rattle.init_engine.proofs.Running.{name_at, one_more, ends, beside_at}
use Rattle.init_engine.proofs.init.run_init.Goals as goal

pub returns-in-Err-clause-ends : goal.returns-in-Err-clause-ends
returns-in-Err-clause-ends g c =
    let shelf = g.F.Shelf in
    let disk = g.F.D.Disk in
    let first = c.args.shelf.now in
    let mid = c.loop-number.shelf in
    let last = c.serve.new.shelf in
    let so_far = c.loop-number.invariant in
    let user = c.index-users-number.result in
    let named = name_at c.args.users.now c.loop-number.number user c.as_str.result.now
    (omega (arith, c.loop-number-test.true)) c.index-users-number.is c.as_str.ensures.value in
    subst (λ end. EndsInit shelf.tells disk (header_bytes c.args.header.now) c.args.directory.now (user_names c.args.users.now)
    (record {
      old = shelf.disk first;
      new = shelf.disk last;
      before = shelf.disk_faults first;
      now = shelf.disk_faults last;
      shelf_before =
          shelf.faults first;
      shelf_now = shelf.faults last;
    }) end)
    (sym c.end_of.ensures)
    (ends shelf.tells disk (header_bytes c.args.header.now) c.args.directory.now
    (user_names c.args.users.now) c.requires.names c.law_journals_differ.ensures
    (shelf.disk first) (shelf.disk mid) (shelf.disk last) (shelf.disk_faults first) (shelf.disk_faults mid) (shelf.disk_faults last) (shelf.faults first)
    (shelf.faults mid) (shelf.faults last)
    c.loop-number.number c.as_str.result.now named so_far.ready c.in-Err.ensures.disks so_far.counts so_far.later c.in-Err.why c.in-Err.ensures.reason
    c.in-Err.ensures.kept)

pub returns-in-Err-clause-other_counts : goal.returns-in-Err-clause-other_counts
returns-in-Err-clause-other_counts g c = λ name none.
    let user = c.index-users-number.result in
    let named = name_at c.args.users.now c.loop-number.number user c.as_str.result.now
    (omega (arith, c.loop-number-test.true)) c.index-users-number.is c.as_str.ensures.value in
    c.in-Err.ensures.other_counts name (beside_at c.args.directory.now (user_names c.args.users.now) c.loop-number.number c.as_str.result.now name none named)
    ∙ c.loop-number.invariant.other_counts name none

pub loop-number-preserved : goal.loop-number-preserved
loop-number-preserved g c =
    let shelf = g.F.Shelf in
    let disk = g.F.D.Disk in
    let first = c.args.shelf.now in
    let mid = c.loop-number.shelf in
    let last = c.serve.new.shelf in
    let so_far = c.loop-number.invariant in
    let served = c.in_default.ensures in
    let user = c.index-users-number.result in
    let named = name_at c.args.users.now c.loop-number.number user c.as_str.result.now
    (omega (arith, c.loop-number-test.true)) c.index-users-number.is c.as_str.ensures.value in
    record {
      ready = λ t. one_more disk (header_bytes c.args.header.now) c.args.directory.now
          (user_names c.args.users.now) c.requires.names c.law_journals_differ.ensures
          (shelf.disk first) (shelf.disk mid) (shelf.disk last) c.loop-number.number c.as_str.result.now named (so_far.ready t) served.disks (served.ready t);
      out = λ name. served.out name ∙ so_far.out name;
      counts = λ name. omega (arith, served.counts name, so_far.counts name);
      other_counts = λ name none.
          served.other_counts name (beside_at c.args.directory.now (user_names c.args.users.now) c.loop-number.number c.as_str.result.now name none named)
          ∙ so_far.other_counts name none;
      files = λ name. served.files name ∙ so_far.files name;
      looked = served.looked ∙ so_far.looked;
      later = omega (arith, served.later, so_far.later);
    }
