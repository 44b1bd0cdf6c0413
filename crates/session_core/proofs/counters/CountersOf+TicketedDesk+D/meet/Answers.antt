use Rattle.std.proofs.Common.{◌≡◌, [], ◌∷◌, ◌++◌, length, get_or, sym, ap, subst, ◌∙◌, append_assoc, append-nil, arith}
use Rattle.std.specs.Prelude.{slice_set}
use Rattle.std.proofs.lemmas.Grind.{common_steps}
use Rattle.desk_counter.specs.Counters.{IsPassOf}
use Rattle.session_core.specs.Members.{passes_in, IsMet, AreMet}
use Rattle.session_core.proofs.Legality.{met_legal}
use Rattle.session_core.proofs.Passing.{pass_at}
use Rattle.session_core.proofs.Meeting.{MetFrom, met_none, met_next, met_more}
use Rattle.session_core.proofs.counters.CountersOf+TicketedDesk+D.meet.Goals as goal

pub loop-other-init : goal.loop-other-init
loop-other-init g c =
    record {
      met = met_none c.args.self.now.counters.items (passes_in c.args.passes.now) (passes_in c.args.others) c.requires.these.are c.requires.those.are;
      left = ([], sym (append-nil (passes_in c.args.others)));
    }

pub index-requires : goal.index-requires
index-requires g c =
    let counters = c.args.self.now.counters in
    let next = met_next counters.items (passes_in c.args.passes.now) (passes_in c.args.others)
    (passes_in c.loop-other.passes) c.loop-other.others.items c.pop.new.self.items c.loop-other.invariant.left.0 c.in-Some.other c.len-place.result
    c.loop-other.invariant.left.1 c.in-Some.ensures.items (c.len-place.ensures ∙ c.pop.new.self.ok.0) c.loop-other.invariant.met c.requires.those.are in
    omega (arith, next.low, counters.ok.0)

pub index_mut-requires : goal.index_mut-requires
index_mut-requires g c =
    let next = met_next c.args.self.now.counters.items (passes_in c.args.passes.now) (passes_in c.args.others)
    (passes_in c.loop-other.passes) c.loop-other.others.items c.pop.new.self.items c.loop-other.invariant.left.0 c.in-Some.other c.len-place.result
    c.loop-other.invariant.left.1 c.in-Some.ensures.items (c.len-place.ensures ∙ c.pop.new.self.ok.0) c.loop-other.invariant.met c.requires.those.are in
    omega (arith, next.low, next.many, c.loop-other.passes.passes.ok.0)

pub meet-requires-clause-this : goal.meet-requires-clause-this
meet-requires-clause-this g c =
    let counters = c.args.self.now.counters.items in
    let place = c.len-place.result in
    let next = met_next counters (passes_in c.args.passes.now) (passes_in c.args.others)
    (passes_in c.loop-other.passes) c.loop-other.others.items c.pop.new.self.items c.loop-other.invariant.left.0 c.in-Some.other place
    c.loop-other.invariant.left.1 c.in-Some.ensures.items (c.len-place.ensures ∙ c.pop.new.self.ok.0) c.loop-other.invariant.met c.requires.those.are in
    subst (λ p. IsPassOf p c.index.result.now) (sym (c.index_mut.ensures.value ∙ next.here c.index_mut.result.now))
    (subst (λ d. IsPassOf (get_or (passes_in c.args.passes.now) place c.index_mut.result.now) d) (sym c.index.ensures)
    (pass_at (passes_in c.args.passes.now) counters place c.index_mut.result.now c.index.result.now next.low c.requires.these.are))

pub meet-requires-clause-that : goal.meet-requires-clause-that
meet-requires-clause-that g c =
    let counters = c.args.self.now.counters.items in
    let place = c.len-place.result in
    let next = met_next counters (passes_in c.args.passes.now) (passes_in c.args.others)
    (passes_in c.loop-other.passes) c.loop-other.others.items c.pop.new.self.items c.loop-other.invariant.left.0 c.in-Some.other place
    c.loop-other.invariant.left.1 c.in-Some.ensures.items (c.len-place.ensures ∙ c.pop.new.self.ok.0) c.loop-other.invariant.met c.requires.those.are in
    subst (λ p. IsPassOf p c.index.result.now) (next.there c.in-Some.other)
    (subst (λ d. IsPassOf (get_or (passes_in c.args.others) place c.in-Some.other) d) (sym c.index.ensures)
    (pass_at (passes_in c.args.others) counters place c.in-Some.other c.index.result.now next.low c.requires.those.are))

pub loop-other-preserved : goal.loop-other-preserved
loop-other-preserved g c =
    let counters = c.args.self.now.counters.items in
    let olds = passes_in c.args.passes.now in
    let others = passes_in c.args.others in
    let place = c.len-place.result in
    let at = c.len-place.ensures ∙ c.pop.new.self.ok.0 in
    let next = met_next counters olds others
    (passes_in c.loop-other.passes) c.loop-other.others.items c.pop.new.self.items c.loop-other.invariant.left.0 c.in-Some.other place
    c.loop-other.invariant.left.1 c.in-Some.ensures.items at c.loop-other.invariant.met c.requires.those.are in
    let met = c.meet.ensures in
    let one : IsMet c.index.result.now c.index_mut.result.now c.in-Some.other c.meet.new.pass =
    record { pass_is = met.pass; view = met.view; this = met.this.0; that = met.that.0; mine_is = met.mine } in
    let there : IsMet (get_or counters place c.index.result.now) (get_or olds place c.index_mut.result.now)
    (get_or others place c.in-Some.other) c.meet.new.pass =
    subst (λ d. IsMet d (get_or olds place c.index_mut.result.now) (get_or others place c.in-Some.other) c.meet.new.pass) c.index.ensures
    (subst (λ o. IsMet c.index.result.now o (get_or others place c.in-Some.other) c.meet.new.pass)
    (c.index_mut.ensures.value ∙ next.here c.index_mut.result.now)
    (subst (λ t. IsMet c.index.result.now c.index_mut.result.now t c.meet.new.pass) (sym (next.there c.in-Some.other)) one)) in
    record {
      met = subst (λ n. MetFrom n counters olds others (slice_set (passes_in c.loop-other.passes) place c.meet.new.pass)) at
          (met_more place counters olds others
          (passes_in c.loop-other.passes) c.index.result.now c.index_mut.result.now c.in-Some.other c.meet.new.pass next.low next.met there);
      left = (
        c.in-Some.other ∷ c.loop-other.invariant.left.0,
        c.loop-other.invariant.left.1 ∙ ap (λ l. l ++ c.loop-other.invariant.left.0) c.in-Some.ensures.items
            ∙ append_assoc c.pop.new.self.items (c.in-Some.other ∷ []) c.loop-other.invariant.left.0,
      );
    }

pub returns : goal.returns
returns g c =
    let none : c.loop-other.others.items ≡ [] = grind (arith, common_steps) in
    let counters = c.args.self.now.counters.items in
    let met : AreMet counters (passes_in c.args.passes.now) (passes_in c.args.others) (passes_in c.loop-other.passes) =
    subst (λ l. MetFrom (length l) counters (passes_in c.args.passes.now) (passes_in c.args.others) (passes_in c.loop-other.passes)) none
    c.loop-other.invariant.met in
    let legal = met_legal counters (passes_in c.args.passes.now) (passes_in c.args.others)
    (passes_in c.loop-other.passes) met c.requires.these.legal c.requires.those.legal in
    record { met = met; passes = record { are = legal.are; legal = legal.legal } }
