use Rattle.std.proofs.Common.{◌≡◌, ◌∙◌, ap, IfOk, subst}
use Rattle.cqe_base.specs.Formula.{formula_of}
use Rattle.open_queries.specs.Instances.{filled, chosen, constants_of_instance}
use Rattle.open_queries.specs.Memory.{open_query}
use Rattle.open_queries.proofs.Choices.{chosen_in_four}
use Rattle.open_queries.proofs.list.OpenList.sentence.Goals as goal

pub returns : goal.returns
returns c =
    let domains = c.args.self.now.domains.items in
    let same : c.as_slice-2.result.now ≡ constants_of_instance c.args.schema.now (open_query c.args.self.now) c.args.number =
    c.as_slice-2.ensures.value ∙ c.in_ok-constants.ensures ∙ ap (λ ds. chosen ds c.constants-indices.result) c.as_slice.ensures.value
    ∙ ap (chosen domains) c.constants-indices.ensures ∙ chosen_in_four c.args.schema.now domains c.args.number in
    subst (λ constants. IfOk c.filled.result (λ instance. formula_of instance ≡ filled constants (formula_of c.args.self.now.body))) same c.filled.ensures
