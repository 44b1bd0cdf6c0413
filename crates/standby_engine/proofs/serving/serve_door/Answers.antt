use Rattle.std.proofs.Common.{[], ◌∷◌, ◌++◌, Some, refl, sym, ap, subst, ◌∙◌, arith}
use Rattle.outside.specs.Faults.{Rose}
use Rattle.outside.proofs.Rises.{rose_since}
use Rattle.outside.specs.Visits.{visit_of}
use Rattle.standby_core.specs.Books.{copies_in}
use Rattle.standby_engine.specs.Served.{IsServedVisit}
use Rattle.standby_engine.proofs.Visits.{none_served, one_served, served_alone, seen_failed}
use Rattle.standby_engine.proofs.serving.serve_door.Goals as goal

pub loop-init : goal.loop-init
loop-init g c = record {
  served = λ told disk. none_served g.O.Door.given g.O.Door.back c.args.header.now (copies_in g.D.Disk.reads c.args.book.now) c.args.door.now;
  count = λ told. omega arith;
  left = λ told. refl;
  lasts = λ disk own disks all. all;
  names = refl;
  origins = refl;
  counted = λ counts all. all;
  ends = refl;
  faults = omega arith;
}

-- both ends go back to the door of which they are
pub done-requires-clause-last : goal.done-requires-clause-last
done-requires-clause-last g c =
    let last = rw c.in-Ok-Some.field-0-is at c.in-Ok-Some.ensures.last in
    λ told. last told ∙ ap Some (sym c.serve_standby-end.ensures.held)

pub done-requires-clause-client : goal.done-requires-clause-client
done-requires-clause-client g c =
    let client = rw c.in-Ok-Some.field-0-is at c.in-Ok-Some.ensures.client in
    λ told. c.serve_standby-end.ensures.answers ∙ client told ∙ sym c.serve_standby-end.ensures.held

pub loop-preserved : goal.loop-preserved
loop-preserved g c =
    let before = c.loop.invariant in
    let served = c.serve_standby-end.ensures in
    let whole = rw c.in-Ok-Some.field-0-is at c.in-Ok-Some.ensures.whole in
    let untaken = rw c.in-Ok-Some.field-0-is at c.in-Ok-Some.ensures.untaken in
    let unwritten = rw c.in-Ok-Some.field-0-is at c.in-Ok-Some.ensures.unwritten in
    let is_given = rw c.in-Ok-Some.field-0-is at c.in-Ok-Some.ensures.given in
    let is_left = rw c.in-Ok-Some.field-0-is at c.in-Ok-Some.ensures.left in
    let no_end = rw c.in-Ok-Some.field-0-is at c.in-Ok-Some.ensures.no_end in
    record {
      served = λ told disk.
          let ends = g.met.O.Door.tells_ends told in
          let left = copies_in g.D.Disk.reads c.serve_standby-end.new.book in
          let all = served_alone c.args.header.now (copies_in g.D.Disk.reads c.loop.book) left c.serve_standby-end.result _ _ _ _
          (untaken ends.0 ∙ sym served.held) (unwritten ends.1) (served.serves ends.0 disk ends.1) in
          let came = visit_of (g.O.Src.Source.held c.serve_standby-end.new.source) (g.O.Snk.Sink.written c.serve_standby-end.new.sink)
          (g.O.Src.Source.faults c.serve_standby-end.new.source) (g.O.Snk.Sink.faults c.serve_standby-end.new.sink) in
          let visit : IsServedVisit c.args.header.now (copies_in g.D.Disk.reads c.loop.book) left came c.serve_standby-end.result = record {
            served = all.0;
            answered = all.1;
            read_failed = λ is. seen_failed _ _ whole.0 (served.read_cause is);
            write_failed = λ is. seen_failed _ _ whole.1 (served.write_cause is);
          } in
          one_served g.O.Door.given g.O.Door.back c.args.header.now (copies_in g.D.Disk.reads c.args.book.now) (copies_in g.D.Disk.reads c.loop.book)
          left c.args.door.now c.loop.door c.done.new.self came c.serve_standby-end.result c.loop.wanting
          c.is_wanting-wanting.result (before.served told disk) visit
          c.is_wanting-wanting.ensures
          (c.done.ensures.given told ∙ is_given told) (c.done.ensures.back told ∙ ap (λ l. l ++ came ∷ []) (c.next.ensures.back told));
      count = λ told. omega (arith, before.count told, c.done.ensures.given told, is_given told);
      left = λ told. omega (
        arith,
        before.left told,
        c.done.ensures.left told,
        c.done.ensures.given told,
        is_left told,
        is_given told,
      );
      lasts = λ disk own disks all. served.lasts disk own disks (before.lasts disk own disks all);
      names = served.names ∙ before.names;
      origins = served.origins ∙ before.origins;
      counted = λ counts all. served.counted counts (before.counted counts all);
      ends = c.done.ensures.ends ∙ no_end ∙ before.ends;
      faults = omega (arith, before.faults, c.done.ensures.faults, c.next.ensures.cause.later);
    }

pub returns-in-Ok-None-clause-ended : goal.returns-in-Ok-None-clause-ended
returns-in-Ok-None-clause-ended g c = λ is.
    let end = rw c.in-Ok-None.field-0-is at c.in-Ok-None.ensures.end in
    subst (λ n. Rose n (g.O.Door.ends c.next.new.self)) c.loop.invariant.ends end

pub returns-in-Err-clause-failed : goal.returns-in-Err-clause-failed
returns-in-Err-clause-failed g c = λ is.
    rose_since (g.O.Door.faults c.args.door.now) (g.O.Door.faults c.loop.door) (g.O.Door.faults c.next.new.self) c.loop.invariant.faults
    (c.in-Err.ensures.cause.failed refl)
