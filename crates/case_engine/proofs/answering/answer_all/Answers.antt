use Rattle.std.proofs.Common.{◌≡◌, ◌≤◌, ◌++◌, ◌∙◌, [], map, length, refl, sym, ap, subst, arith}
use Rattle.std.specs.Prelude.{string_bytes, codes}
use Rattle.user_log.specs.UserLogs.{kept_history}
use Rattle.std.proofs.lemmas.Grind.{common_steps}
use Rattle.std.proofs.lemmas.List.{take_all}
use Rattle.cqe_base.specs.History.{profile_of}
use Rattle.cqe_base.specs.Censor.{admitted}
use Rattle.case_engine.specs.Written.{AppendsReplies}
use Rattle.case_engine.proofs.Telling.{Told, told_nothing, told_all, told_some, told_more, told_there, short_item, next_item}
use Rattle.case_engine.proofs.answering.answer_all.Goals as goal

pub returns-then-is_empty-clause-answered : goal.returns-then-is_empty-clause-answered
returns-then-is_empty-clause-answered g c = λ told.
    let parts = c.args.parts.now in
    let user = profile_of parts.user in
    let written = g.K.Sink.written c.args.sink.now in
    let none : parts.asks.items ≡ [] = grind (arith, common_steps) in
    subst (λ a. AppendsReplies parts.schema parts.facts user (map string_bytes a) written written) (sym none)
    (told_all parts.schema parts.facts user
    (admitted parts.schema parts.facts user) c.law_legal_grows.ensures.empty c.law_runs_legal.ensures
    c.law_runs_of_schema.ensures c.law_hides.ensures c.known.ensures c.requires.sentences
    [] written written [] (told_nothing parts.schema parts.facts user (admitted parts.schema parts.facts user) [] written [] refl refl))

pub told-reply-requires-after_bounds : goal.told-reply-requires-after_bounds
told-reply-requires-after_bounds g c κs within =
    let short = short_item _ _ c.loop-text.text-index c.text-item.result c.deref-text-items.ensures.value c.loop-text-test.true c.text-item.is c.requires.short
    in
    subst (λ t. length t ≤ 4096) (sym c.as_str.ensures.value) short

pub returns-in-Err-clause-answered : goal.returns-in-Err-clause-answered
returns-in-Err-clause-answered g c = λ told.
    let parts = c.args.parts.now in
    let user = profile_of parts.user in
    let part = c.in-Err.ensures.part told in
    let step = c.loop-text.invariant in
    told_some parts.schema parts.facts user c.in-Ok.is_open c.law_legal_grows.ensures.empty c.law_runs_legal.ensures
    c.law_runs_of_schema.ensures c.law_hides.ensures c.known.ensures c.requires.sentences
    parts.asks.items c.loop-text.text-index part.0 c.text-item.result _ _ _ _ _ _ _ (step.so_far told)
    (next_item _ _ _ _ c.deref-text-items.ensures.value c.loop-text-test.true c.text-item.is)
    part.2 (ap (λ t. t ++ codes "\n") c.line_reply.ensures)
    (told_there _ _ _ _ _ _ _ _ _ _ _ _ step.schema step.world step.user c.as_str.ensures.value c.told-reply.ensures.told)

pub loop-text-init : goal.loop-text-init
loop-text-init g c =
    let parts = c.args.parts.now in
    let log = c.in-Ok-new.ensures in
    record {
      so_far = λ told.
          told_nothing parts.schema parts.facts (profile_of parts.user) c.in-Ok.is_open parts.asks.items _ _ c.in-Ok.ensures log.empty;
      schema = log.schema;
      world = log.world;
      user = log.user;
      later = omega arith;
    }

pub loop-text-preserved : goal.loop-text-preserved
loop-text-preserved g c =
    let parts = c.args.parts.now in
    let user = profile_of parts.user in
    let step = c.loop-text.invariant in
    let same = c.told-reply.ensures.same in
    record {
      so_far = λ told.
          told_more parts.schema parts.facts user c.in-Ok.is_open parts.asks.items c.loop-text.text-index c.text-item.result _ _ _ _ _ _ _ (step.so_far told)
          (next_item _ _ _ _ c.deref-text-items.ensures.value c.loop-text-test.true c.text-item.is)
          (c.in-Ok-write_reply.ensures.all told) (ap (λ t. t ++ codes "\n") c.line_reply.ensures)
          (told_there _ _ _ _ _ _ _ _ _ _ _ _ step.schema step.world step.user c.as_str.ensures.value c.told-reply.ensures.told);
      schema = same.schema ∙ step.schema;
      world = same.world ∙ step.world;
      user = same.user ∙ step.user;
      later = omega (arith, step.later, c.in-Ok-write_reply.ensures.cause.later);
    }

pub returns-clause-answered : goal.returns-clause-answered
returns-clause-answered g c = λ told.
    let parts = c.args.parts.now in
    let user = profile_of parts.user in
    let far : length parts.asks.items ≤ c.loop-text.text-index = grind (arith, common_steps) in
    told_all parts.schema parts.facts user c.in-Ok.is_open c.law_legal_grows.ensures.empty c.law_runs_legal.ensures
    c.law_runs_of_schema.ensures c.law_hides.ensures c.known.ensures c.requires.sentences
    (map string_bytes parts.asks.items) _ _ _
    (subst (λ a. Told parts.schema parts.facts user c.in-Ok.is_open (map string_bytes a) (g.K.Sink.written c.args.sink.now) (g.K.Sink.written c.loop-text.sink)
    (kept_history c.loop-text.log))
    (take_all c.loop-text.text-index parts.asks.items far) (c.loop-text.invariant.so_far told))
