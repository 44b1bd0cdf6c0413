use Rattle.std.proofs.Common.{◌<◌, refl, sym, subst, ◌∙◌, arith}
use Rattle.outside.proofs.Rises.{rose_since}
use Rattle.open_queries.specs.Memory.{open_query}
use Rattle.session_core.specs.Members.{fixeds_of, passes_in}
use Rattle.session_core.proofs.Passing.{passes_kept}
use Rattle.session_core.proofs.Listing.{none_asked, turns_for_one, one_asked, cut_asked, all_asked}
use Rattle.session_core.proofs.asking.ask_instances.Goals as goal

pub loop-number-init : goal.loop-number-init
loop-number-init g c =
    let passes = passes_in c.args.passes.now in
    record {
      so_far = none_asked c.args.schema.now (open_query c.args.list.now) g.K.Sink.tells c.args.place (fixeds_of c.args.counters.now) passes
          (g.K.Sink.written c.args.sink.now) c.requires.place (passes_kept passes c.args.counters.now.counters.items c.requires.passes.are);
      passes = c.requires.passes;
      answers = refl;
      later = omega arith;
    }

pub ask_instance-requires-clause-turns : goal.ask_instance-requires-clause-turns
ask_instance-requires-clause-turns g c κs within =
    turns_for_one _ _ _ _ _ _ _ _ _ _ c.loop-number.invariant.so_far
    (omega (arith, c.loop-number-test.true, c.instances-count.ensures, c.requires.list.few_instances)) c.requires.turns

pub ask_instance-requires-clause-number : goal.ask_instance-requires-clause-number
ask_instance-requires-clause-number g c κs within = subst (λ n. c.loop-number.number < n) c.instances-count.ensures c.loop-number-test.true

pub ask_instance-requires-clause-asked : goal.ask_instance-requires-clause-asked
ask_instance-requires-clause-asked g c κs within =
    c.requires.asked c.loop-number.number (subst (λ n. c.loop-number.number < n) c.instances-count.ensures c.loop-number-test.true)

pub loop-number-preserved : goal.loop-number-preserved
loop-number-preserved g c =
    let before = c.loop-number.invariant in
    record {
      so_far = one_asked _ _ _ _ _ _ _ _ _ _ before.so_far (passes_in c.ask_instance.new.passes) (g.K.Sink.written c.ask_instance.new.sink) _
          c.in-Ok.ensures.said;
      passes = c.ask_instance.ensures.passes;
      answers = c.ask_instance.ensures.answers ∙ before.answers;
      later = omega (arith, before.later, c.in-Ok.ensures.cause.later);
    }

pub returns-in-Err-clause-spoken : goal.returns-in-Err-clause-spoken
returns-in-Err-clause-spoken g c =
    cut_asked _ _ _ _ _ _ _ _ _ _ c.loop-number.invariant.so_far (passes_in c.ask_instance.new.passes) (g.K.Sink.written c.ask_instance.new.sink) _ _
    (subst (λ n. c.loop-number.number < n) c.instances-count.ensures c.loop-number-test.true) c.in-Err.ensures.said

pub returns-in-Err-clause-cause : goal.returns-in-Err-clause-cause
returns-in-Err-clause-cause g c = record {
  later = omega (arith, c.loop-number.invariant.later, c.in-Err.ensures.cause.later);
  failed = λ is. rose_since _ _ _ c.loop-number.invariant.later (c.in-Err.ensures.cause.failed refl);
}

pub returns-clause-spoken : goal.returns-clause-spoken
returns-clause-spoken g c =
    all_asked _ _ _ _ _ _ _ _ _ _ c.loop-number.invariant.so_far c.write_reply.result (g.K.Sink.written c.write_reply.new.sink) c.instances-count.result
    (omega (arith, c.loop-number-test.false, c.loop-number.auto.number-end)) c.instances-count.ensures c.write_reply.ensures.all c.write_reply.ensures.part

pub returns-clause-cause : goal.returns-clause-cause
returns-clause-cause g c = record {
  later = omega (arith, c.loop-number.invariant.later, c.write_reply.ensures.cause.later);
  failed = λ is. rose_since _ _ _ c.loop-number.invariant.later (c.write_reply.ensures.cause.failed is);
}
