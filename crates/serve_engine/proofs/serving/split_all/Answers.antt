use Rattle.std.proofs.Common.{◌≡◌, ◌-◌, ◌*◌, ◌^◌, [], ◌∷◌, length, sum_by, refl, sym, ap, subst, ◌∙◌, rules, arith, length-append}
use Rattle.std.proofs.lemmas.List.Elements.{All-push, All-same, All-nil, All-weaker}
use Rattle.session_core.specs.Members.{ArePassesOf, passes_in}
use Rattle.session_core.specs.declared.counters.Passes.{Passes}
use Rattle.serve_engine.specs.Passing.{AreParts, AreOn, NoneOwn, HaveShares}
use Rattle.serve_engine.proofs.Owning.{own_weight, own_split}
use Rattle.serve_engine.proofs.Meeting.{on_same, on_then, can_split, have_split}
use Rattle.serve_engine.proofs.serving.split_all.Goals as goal

pub returns-in_err-parts-clause-on : goal.returns-in_err-parts-clause-on
returns-in_err-parts-clause-on g c = on_same (passes_in c.args.passes.now)

pub loop-init : goal.loop-init
loop-init g c =
    let none = c.room_for.ensures.empty in
    let empty : c.in_ok-parts.parts.items ≡ [] = search rules in
    record {
      these = c.requires.these;
      on = on_same (passes_in c.args.passes.now);
      own = λ place weight. refl;
      count = ap length empty;
      those = All-same (λ part. ArePassesOf part c.args.counters.now) _ [] empty (All-nil (λ part. ArePassesOf part c.args.counters.now));
      parts = All-same (AreParts c.args.passes.now) _ [] empty (All-nil (AreParts c.args.passes.now));
      shares = (65, c.requires.shares, omega arith);
      turns = (65 * 2 ^ 57, c.requires.turns, omega arith);
      room = search rules;
    }

pub split-requires-clause-room : goal.split-requires-clause-room
split-requires-clause-room g c =
    let so_far = c.loop.invariant in
    let few = c.requires.few in
    let more = c.loop-test.true in
    let shares_left = so_far.shares.2 in
    let turns_left = so_far.turns.2 in
    can_split (passes_in c.loop.passes) so_far.shares.0 so_far.turns.0 (omega (arith, few, more, shares_left))
    (omega (arith, few, more, turns_left)) so_far.shares.1 so_far.turns.1

pub join_all-requires-clause-these : goal.join_all-requires-clause-these
join_all-requires-clause-these g c = subst (λ passes. ArePassesOf passes c.args.counters.now) (sym c.in-Err.ensures.same) c.loop.invariant.these

pub join_all-requires-clause-rest : goal.join_all-requires-clause-rest
join_all-requires-clause-rest g c =
    let so_far = c.loop.invariant in
    let total = so_far.shares.2 in
    let count = so_far.count in (
      so_far.shares.0,
      subst (λ (passes : Passes g.row.D.Denot). HaveShares so_far.shares.0 passes) (sym c.in-Err.ensures.same) so_far.shares.1,
      omega (arith, total, count),
    )

pub join_all-requires-clause-shares : goal.join_all-requires-clause-shares
join_all-requires-clause-shares g c =
    All-weaker (AreParts c.args.passes.now) (HaveShares 1) (λ part is. is.shares_are) c.loop.parts.items c.loop.invariant.parts

pub join_all-requires-clause-none : goal.join_all-requires-clause-none
join_all-requires-clause-none g c = All-weaker (AreParts c.args.passes.now) NoneOwn (λ part is. is.none_own) c.loop.parts.items c.loop.invariant.parts

pub returns-in_err-parts-clause-own : goal.returns-in_err-parts-clause-own
returns-in_err-parts-clause-own g c place weight = refl

pub returns-in-Err-clause-own : goal.returns-in-Err-clause-own
returns-in-Err-clause-own g c place weight =
    c.join_all.ensures.own place weight ∙ ap (λ (passes : Passes g.row.D.Denot). own_weight weight place (passes_in passes)) c.in-Err.ensures.same
    ∙ c.loop.invariant.own place weight

pub returns-in-Err-clause-on : goal.returns-in-Err-clause-on
returns-in-Err-clause-on g c =
    let old = passes_in c.args.passes.now in
    let mid = passes_in c.loop.passes in
    let new = passes_in c.join_all.new.passes in
    on_then old mid new c.loop.invariant.on
    (subst (λ (passes : Passes g.row.D.Denot). AreOn passes c.join_all.new.passes) c.in-Err.ensures.same c.join_all.ensures.on)

pub loop-preserved : goal.loop-preserved
loop-preserved g c =
    let so_far = c.loop.invariant in
    let first = passes_in c.args.passes.now in
    let old = passes_in c.loop.passes in
    let new = passes_in c.split.new.passes in
    let part = passes_in c.in-Ok.part in
    let few = c.requires.few in
    let more = c.loop-test.true in
    let shares_left = so_far.shares.2 in
    let turns_left = so_far.turns.2 in
    let count = so_far.count in
    let added = c.push_reserved.ensures.items in
    let parts =
    have_split so_far.shares.0 so_far.turns.0 c.args.counters.now.counters.items old new part so_far.shares.1 so_far.turns.1 c.in-Ok.ensures.split in
    let one_more = ap length added ∙ length-append c.loop.parts.items (c.in-Ok.part ∷ []) in
    record {
      these = c.split.ensures.passes;
      on = on_then first old new so_far.on parts.on;
      own = λ place weight.
          ap (sum_by weight) (own_split place c.args.counters.now.counters.items old new part c.in-Ok.ensures.split).0 ∙ so_far.own place weight;
      count = omega (arith, one_more, count);
      those = All-same (λ part. ArePassesOf part c.args.counters.now) _ _ added
          (All-push (λ part. ArePassesOf part c.args.counters.now) c.loop.parts.items c.in-Ok.part so_far.those c.in-Ok.ensures.parts);
      parts = All-same (AreParts c.args.passes.now) _ _ added (All-push (AreParts c.args.passes.now) c.loop.parts.items c.in-Ok.part so_far.parts
          (record {
            shares_are = parts.parts_have;
            turns_are = parts.parts_may;
            on = on_then first old part so_far.on parts.those_on;
            none_own = λ place. (own_split place c.args.counters.now.counters.items old new part c.in-Ok.ensures.split).1;
          }));
      shares = (so_far.shares.0 - 1, parts.have, omega (arith, few, more, shares_left));
      turns = (so_far.turns.0 - 2 ^ 57, parts.may, omega (arith, few, more, turns_left));
      room = search rules;
    }
