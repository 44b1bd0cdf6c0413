use Rattle.std.proofs.Common.{◌≡◌, ◌<◌, ◌≤◌, ◌+◌, [], suc, inr, length, get_or, refl, sym, subst, ◌∙◌, arith}
use Rattle.std.specs.Prelude.{◌^◌, slice_set, IfOk, OnOk}
use Rattle.turnstile.specs.Views.{remaining_view, split_off_view}
use Rattle.turnstile.specs.Passes.{view_of, mine, turns}
use Rattle.desk_counter.specs.Counters.{IsPassOf}
use Rattle.session_core.specs.Members.{passes_in, IsSplit, CanSplit}
use Rattle.session_core.proofs.Legality.{split_legal}
use Rattle.session_core.proofs.Passing.{pass_at, passes_many}
use Rattle.session_core.proofs.Meeting.{SplitBelow, split_here, split_lengths, split_more, split_all, ok_unless}
use Rattle.session_core.proofs.counters.CountersOf+TicketedDesk+D.split.Goals as goal
use Rattle.cqe_base.proofs.Lists.{all_at}

pub loop-place-init : goal.loop-place-init
loop-place-init g c =
    record { split = (refl, c.in_ok-reserve.ensures.items ∙ c.new-parts.ensures.items); room = omega (arith, c.in_ok-reserve.ensures.ok, c.len.ensures) }

pub index_mut-requires : goal.index_mut-requires
index_mut-requires g c =
    let counters = c.args.self.now.counters in
    let olds = passes_in c.args.passes.now in
    let lengths = split_lengths c.loop-place.place counters.items olds (passes_in c.loop-place.passes) c.loop-place.parts.items c.loop-place.invariant.split in
    omega (
      arith,
      c.loop-place-test.true,
      c.len-place-end.ensures,
      counters.ok.0,
      c.loop-place.passes.passes.ok.0,
      lengths.0,
      passes_many olds counters.items c.requires.passes.are,
    )

pub split-requires-clause-pass : goal.split-requires-clause-pass
split-requires-clause-pass g c =
    let counters = c.args.self.now.counters in
    let olds = passes_in c.args.passes.now in
    let place = c.loop-place.place in
    let same = c.index_mut.ensures.value
    ∙ split_here place counters.items olds (passes_in c.loop-place.passes) c.loop-place.parts.items c.index_mut.result.now c.loop-place.invariant.split in
    subst (λ p. IsPassOf p c.index.result.now) (sym same)
    (subst (λ d. IsPassOf (get_or olds place c.index_mut.result.now) d) (sym c.index.ensures)
    (pass_at olds counters.items place c.index_mut.result.now c.index.result.now
    (omega (arith, c.loop-place-test.true, c.len-place-end.ensures, counters.ok.0)) c.requires.passes.are))

pub split-requires-clause-room : goal.split-requires-clause-room
split-requires-clause-room g c =
    let counters = c.args.self.now.counters in
    let olds = passes_in c.args.passes.now in
    let place = c.loop-place.place in
    let same = c.index_mut.ensures.value
    ∙ split_here place counters.items olds (passes_in c.loop-place.passes) c.loop-place.parts.items c.index_mut.result.now c.loop-place.invariant.split in
    let can = all_at CanSplit olds place c.index_mut.result.now
    (omega (
      arith,
      c.loop-place-test.true,
      c.len-place-end.ensures,
      counters.ok.0,
      passes_many olds counters.items c.requires.passes.are,
    )) c.requires.room in
    inr (subst (λ p. 2 ^ 57 ≤ turns p) (sym same) can.1)

pub unwrap-part-requires : goal.unwrap-part-requires
unwrap-part-requires g c =
    let counters = c.args.self.now.counters in
    let olds = passes_in c.args.passes.now in
    let place = c.loop-place.place in
    let same = c.index_mut.ensures.value
    ∙ split_here place counters.items olds (passes_in c.loop-place.passes) c.loop-place.parts.items c.index_mut.result.now c.loop-place.invariant.split in
    let can = subst CanSplit (sym same)
    (all_at CanSplit olds place c.index_mut.result.now
    (omega (
      arith,
      c.loop-place-test.true,
      c.len-place-end.ensures,
      counters.ok.0,
      passes_many olds counters.items c.requires.passes.are,
    )) c.requires.room) in
    ok_unless c.split.result c.split.ensures.err (λ e refused. omega (arith, can.0, refused.1))

pub push_reserved-requires : goal.push_reserved-requires
push_reserved-requires g c =
    let counters = c.args.self.now.counters in
    let lengths = split_lengths c.loop-place.place counters.items (passes_in c.args.passes.now)
    (passes_in c.loop-place.passes) c.loop-place.parts.items c.loop-place.invariant.split in
    omega (arith, c.loop-place-test.true, c.len-place-end.ensures, lengths.1, c.loop-place.parts.ok.0, c.loop-place.invariant.room)

pub loop-place-preserved : goal.loop-place-preserved
loop-place-preserved g c =
    let counters = c.args.self.now.counters in
    let olds = passes_in c.args.passes.now in
    let news = passes_in c.loop-place.passes in
    let place = c.loop-place.place in
    let part = c.unwrap-part.result in
    let low : place < length counters.items = omega (arith, c.loop-place-test.true, c.len-place-end.ensures, counters.ok.0) in
    let same =
    c.index_mut.ensures.value ∙ split_here place counters.items olds news c.loop-place.parts.items c.index_mut.result.now c.loop-place.invariant.split in
    let split = c.split.ensures in
    let off = subst (λ r. IfOk r (λ p. IsPassOf p c.index.result.now
    × (view_of p ≡ split_off_view (view_of c.index_mut.result.now)))) c.unwrap-part.ensures split.part in
    let one : IsSplit c.index.result.now c.index_mut.result.now c.split.new.pass part = record {
      rest_is = split.pass;
      rest = subst (λ r. OnOk r (view_of c.split.new.pass ≡ remaining_view (view_of c.index_mut.result.now))) c.unwrap-part.ensures split.rest;
      part_is = off.0;
      part_view = off.1;
      mine_is = subst (λ r. IfOk r (λ p. mine p ≡ [])) c.unwrap-part.ensures split.mine;
    } in
    let there = subst (λ d. IsSplit d (get_or olds place c.index_mut.result.now) c.split.new.pass part) c.index.ensures
    (subst (λ o. IsSplit c.index.result.now o c.split.new.pass part) same one) in
    let more = split_more place counters.items olds news c.loop-place.parts.items c.index.result.now c.index_mut.result.now c.split.new.pass part low
    (passes_many olds counters.items c.requires.passes.are) c.loop-place.invariant.split there in
    record {
      split = subst (λ n. SplitBelow n counters.items olds (slice_set news place c.split.new.pass) c.push_reserved.new.self.items)
          (let e : suc place ≡ place + 1 = omega arith in e)
          (subst (λ ps. SplitBelow (suc place) counters.items olds (slice_set news place c.split.new.pass) ps) (sym c.push_reserved.ensures.items) more);
      room = omega (arith, c.loop-place.invariant.room, c.push_reserved.ensures.capacity);
    }

pub returns-clause-split : goal.returns-clause-split
returns-clause-split g c =
    let counters = c.args.self.now.counters in
    let olds = passes_in c.args.passes.now in
    split_all c.loop-place.place counters.items olds (passes_in c.loop-place.passes) c.loop-place.parts.items
    (omega (arith, c.loop-place-test.false, c.loop-place.auto.place-end, c.len-place-end.ensures, counters.ok.0))
    (passes_many olds counters.items c.requires.passes.are) c.loop-place.invariant.split

pub returns-clause-passes : goal.returns-clause-passes
returns-clause-passes g c =
    let both = split_legal c.args.self.now.counters.items (passes_in c.args.passes.now) (passes_in c.loop-place.passes) c.loop-place.parts.items
    (returns-clause-split g c) c.requires.passes.legal in
    record { are = both.0.are; legal = both.0.legal }

pub returns-clause-parts : goal.returns-clause-parts
returns-clause-parts g c =
    let both = split_legal c.args.self.now.counters.items (passes_in c.args.passes.now) (passes_in c.loop-place.passes) c.loop-place.parts.items
    (returns-clause-split g c) c.requires.passes.legal in
    record { are = both.1.are; legal = both.1.legal }
