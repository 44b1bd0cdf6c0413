use Rattle.std.proofs.Common.{◌≡◌, ◌++◌, List, length, ap, subst, ◌∙◌, rules}
use Rattle.std.specs.List.Sorted.{IsPermutation}
use Rattle.std.proofs.lemmas.List.Sorted.{IsPermutation-trans, IsNonDecreasingBy-from_sort_by_key}
use Rattle.list_sums.proofs.Lent.{lent_whole}
use Rattle.outside.specs.Streams.{AppendsPart}
use Rattle.batch_engine.specs.Answers.{output_bytes}
use Rattle.batch_engine.specs.Ordered.{AreNumbered}
use Rattle.batch_engine.specs.declared.answer.Answer.{Answer}
use Rattle.batch_engine.proofs.Ordering.{in_order}
use Rattle.batch_engine.proofs.closed.write_in_order.Given.{Over}
use Rattle.batch_engine.proofs.closed.write_in_order.Goals as goal
use Rattle.batch_engine.proofs.closed.write_in_order.Goals.{After-write_parts}

-- what is written are the answers as they come back from the sort: all, in the order of their numbers
sorted : (g : Over) (c : After-write_parts g) (all : List Answer) → AreNumbered all → IsPermutation all c.args.answers.now.items
    → c.as_slice.result.now ≡ all
sorted g c all numbered moved =
    let back = c.par_sort_by_key-sorted.new.s in
    let old = c.args.answers.now.items in
    let lent : c.as_mut_slice.result.now ≡ old = c.as_mut_slice.ensures.value in
    let count = c.par_sort_by_key-sorted.ensures.len ∙ ap length lent in
    c.as_slice.ensures.value ∙ lent_whole c.args.answers.now.len back old count (search rules)
    ∙ in_order all back numbered (IsPermutation-trans all old back moved
    (subst (λ l. IsPermutation l back) lent c.par_sort_by_key-sorted.ensures.permutation))
    (IsNonDecreasingBy-from_sort_by_key (λ (a : Answer). a.number) back c.in-Ok.ensures.sorted (λ a r q k. search rules))

pub returns-in-Ok-write_parts-clause-written : goal.returns-in-Ok-write_parts-clause-written
returns-in-Ok-write_parts-clause-written g c = λ told all numbered moved.
    c.in-Ok-write_parts.ensures.all told
    ∙ ap (λ l. g.K.Sink.written c.args.sink.now ++ output_bytes l)
    (sorted g (goal.at.returns-in-Ok-write_parts-clause-written g c).After-write_parts all numbered moved)

pub returns-in-Err-write_parts-clause-written : goal.returns-in-Err-write_parts-clause-written
returns-in-Err-write_parts-clause-written g c = λ told all numbered moved.
    subst (λ l. AppendsPart (g.K.Sink.written c.args.sink.now) (g.K.Sink.written c.write_parts.new.sink) (output_bytes l))
    (sorted g (goal.at.returns-in-Err-write_parts-clause-written g c).After-write_parts all numbered moved) (c.in-Err-write_parts.ensures.part told)
