use Rattle.std.proofs.Common.{◌∙◌, ap, sym, ◌++◌, append-nil}
use Rattle.std.proofs.lemmas.Slice.Zip.{zip_end}
use Rattle.open_queries.proofs.Choices.{none_chosen}
use Rattle.open_queries.proofs.list.chosen.Goals as goal

pub returns : goal.returns
returns c =
    let ends =
    zip_end c.args.domains.now c.args.indices.now c.loop-domain.yielded
    c.into_iter-domain-iterator.result c.loop-domain.domain-iterator c.next.new.self c.next.result (cc) (cc)
    c.loop-domain.yielded_by c.in-None.is c.next.ensures.steps in
    let none = none_chosen c.args.domains.now c.args.indices.now _ ends in
    sym (append-nil c.loop-domain.constants.items) ∙ ap (λ more. c.loop-domain.constants.items ++ more) (sym none) ∙ c.loop-domain.invariant
