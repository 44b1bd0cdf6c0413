use Rattle.std.proofs.Common.{◌∷◌, [], length, refl, sym, ap, subst, ◌∙◌, rules, arith, length-append}
use Rattle.std.specs.List.{AllZip}
use Rattle.worker_pool.proofs.Seating.{read_on, read_more, read_all}
use Rattle.desk_crew.specs.Side.{IsClosedOf}
use Rattle.desk_crew.proofs.Placing.{zip_more}
use Rattle.desk_crew.proofs.opening.close_all.Goals as goal

pub loop-seat-init : goal.loop-seat-init
loop-seat-init g c = record {
  rest = search rules;
  closed = subst (AllZip (IsClosedOf g.D.Disk) []) (sym c.requires.empty) tt;
  count = ap length c.requires.empty;
  room = refl;
}

pub push_reserved-requires : goal.push_reserved-requires
push_reserved-requires g c =
    let so_far = c.loop-seat.invariant in
    let more = read_more c.args.seats.items c.loop-seat.yielded _ _ c.in-Some.seat so_far.rest c.in-Some.ensures.steps.0 in
    let counted = c.loop-seat.openings.ok.0 in
    let count = so_far.count in
    let space = so_far.room in
    let enough = c.requires.room in
    omega (arith, more, counted, count, space, enough)

pub loop-seat-preserved : goal.loop-seat-preserved
loop-seat-preserved g c =
    let so_far = c.loop-seat.invariant in
    let added = c.push_reserved.ensures.items in
    let count = so_far.count in
    let grown = c.push_reserved.ensures.len in
    let before = c.loop-seat.openings.ok.0 in
    let after = c.push_reserved.new.self.ok.0 in
    let read = length-append c.loop-seat.yielded (c.in-Some.seat ∷ []) in
    record {
      rest = read_on c.args.seats.items c.loop-seat.yielded _ _ _ so_far.rest c.in-Some.ensures.steps.0;
      closed = zip_more (IsClosedOf g.D.Disk) c.loop-seat.yielded c.loop-seat.openings.items _ c.in-Some.seat _ added so_far.closed
          (record {
            user_is = refl;
            admission_is = refl;
            before_is = refl;
            closed = record { journal_is = refl; is_closed = c.close_desk-disk.ensures.closed };
          });
      count = omega (arith, count, grown, before, after, read);
      room = c.push_reserved.ensures.capacity ∙ so_far.room;
    }

pub returns : goal.returns
returns g c =
    subst (λ l. AllZip (IsClosedOf g.D.Disk) l c.loop-seat.openings.items)
    (read_all c.args.seats.items c.loop-seat.yielded _ c.loop-seat.invariant.rest (search rules)) c.loop-seat.invariant.closed
